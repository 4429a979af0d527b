use Rattle.std.proofs.lemmas.Bool.{eqb-true}
use Rattle.mr_bytes.proofs.CutLemmas.{found-parts, found-value, absent, cut-lacks}
use Rattle.mr_bytes.proofs.words.cut.Goals as goal

pub returns-in-Some-clause-parts : goal.returns-in-Some-clause-parts
returns-in-Some-clause-parts c =
    let found = c.in-Some.ensures in
    found-parts c.args.mark c.in-Some.at c.args.bytes.now found.0.high found.0.before (eqb-true _ _ found.1)

pub returns-in-Some-clause-value : goal.returns-in-Some-clause-value
returns-in-Some-clause-value c =
    let found = c.in-Some.ensures in
    found-value c.args.mark c.in-Some.at c.args.bytes.now
    (found-parts c.args.mark c.in-Some.at c.args.bytes.now found.0.high found.0.before (eqb-true _ _ found.1))

pub returns-in-None-clause-parts : goal.returns-in-None-clause-parts
returns-in-None-clause-parts c = absent c.args.mark c.args.bytes.now c.in-None.ensures

pub returns-in-None-clause-value : goal.returns-in-None-clause-value
returns-in-None-clause-value c = cut-lacks c.args.mark c.args.bytes.now (absent c.args.mark c.args.bytes.now c.in-None.ensures)
