-- The pairs of a line.
use Rattle.std.specs.Prelude.{List, ◌++◌}
use Rattle.mr_jobs.specs.declared.pairs.LinePairs.{LinePairs}
use Rattle.mr_jobs.specs.Emissions.{Emission, still_emitted, words_at}

abbrev pub pairs_of : LinePairs → List Emission
pairs_of p = words_at p.value p.text.now p.words.now ++ still_emitted p.text.now p.from p.value p.whole
