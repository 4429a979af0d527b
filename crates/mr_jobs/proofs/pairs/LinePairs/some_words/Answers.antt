use Rattle.std.proofs.Common.{ap, ◌∙◌, ◌++◌, List}
use Rattle.std.proofs.lemmas.List.{append-nil}
use Rattle.mr_jobs.specs.Emissions.{Emission, words_at}
use Rattle.mr_jobs.proofs.EmitLemmas.{words_from-end}
use Rattle.mr_jobs.proofs.pairs.LinePairs.some_words.Goals as goal

pub returns : goal.returns
returns c =
    let found : List Emission = words_at c.args.value c.args.text.now c.args.words.now in
    ap (λ (l : List Emission). found ++ l) (words_from-end c.args.value c.args.text.now) ∙ append-nil found
