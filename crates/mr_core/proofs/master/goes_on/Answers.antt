use Rattle.mr_core.proofs.Promised.{stays_committed, live_active, idle_given}
use Rattle.mr_core.proofs.FixedSets.{fixed_stays}
use Rattle.mr_core.proofs.master.goes_on.Goals as goal

pub returns-clause-stays : goal.returns-clause-stays
returns-clause-stays c sh h st parts attempts first later new rest = stays_committed sh h st first parts attempts later new rest

pub returns-clause-fixed : goal.returns-clause-fixed
returns-clause-fixed c sh h st run later new rest s k is = fixed_stays sh st new later rest s k is

pub returns-clause-live : goal.returns-clause-live
returns-clause-live c sh h st parts attempts run = live_active sh h st run parts attempts

pub returns-clause-given : goal.returns-clause-given
returns-clause-given c sh h st parts attempts run = idle_given sh h st run parts attempts
