use Rattle.mr_certform.proofs.Packed.{name_first}
use Rattle.mr_certform.proofs.record_names.NameSpan.of.Goals as goal

pub returns-clause-named : goal.returns-clause-named
returns-clause-named c = name_first (record { first = c.args.first; split = c.args.split; rec = c.args.rec; bits = c.args.bits }) c.ranges.rec.fits
