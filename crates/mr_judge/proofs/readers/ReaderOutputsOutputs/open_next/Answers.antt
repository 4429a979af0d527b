use Rattle.std.proofs.Common.{refl, arith}
use Rattle.std.proofs.lemmas.Bool.{leb-true, leb-false}
use Rattle.mr_judge.proofs.ReadingLemmas.{opens, some_to_come}
use Rattle.mr_judge.specs.Readers.{reading}
use Rattle.mr_judge.proofs.readers.ReaderOutputsOutputs.open_next.Goals as goal

pub returns-clause-opens : goal.returns-clause-opens
returns-clause-opens g c =
    opens g.R.CountedRead.remaining c.args.self.now.readers.now (reading g.R.CountedRead.remaining c.args.self.now) _ _ refl refl (λ t. (leb-true _ _ t, omega arith)) (λ t. (leb-false _ _ t, omega (arith, leb-false _ _ t))) refl c.saturating_add-self.ensures c.clear.ensures

pub returns-clause-some : goal.returns-clause-some
returns-clause-some g c some = some_to_come _
