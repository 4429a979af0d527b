use Rattle.mr_explain.proofs.SiftingLaws.{sifting-is-exact, sifting-is-no-longer}
use Rattle.mr_explain.proofs.sifting_law.Goals as goal

pub returns : goal.returns
returns c = record { exact = sifting-is-exact; no_longer = sifting-is-no-longer }
