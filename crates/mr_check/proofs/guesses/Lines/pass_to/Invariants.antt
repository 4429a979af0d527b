use Rattle.std.proofs.Common.{◌-◌, length}
use Rattle.mr_check.proofs.guesses.Lines.pass_to.Given as goal

abbrev pub decreases-loop-self : goal.decreases-loop-self
decreases-loop-self l = length l.self.output.now - l.self.place
