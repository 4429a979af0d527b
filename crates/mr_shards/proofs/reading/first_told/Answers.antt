use Rattle.std.proofs.Common.{◌≡◌, ◌∷◌, [], ◌∙◌, sym}
use Rattle.mr_shards.proofs.ReadLemmas.{under-end, under-other, under-some}
use Rattle.mr_shards.specs.Lines.{lines}
use Rattle.mr_shards.specs.Reading.{told_under}
use Rattle.mr_shards.proofs.reading.first_told.Goals as goal

pub returns-in-Some-behind : goal.returns-in-Some-behind
returns-in-Some-behind c = λ t ts e.
    let here = under-some c.args.word.now c.loop-line.rest.now c.in-Some.line.now c.in-Some.more.now c.in-Some-behind.told.now
    c.in-Some.ensures.parts.0 c.in-Some.ensures.parts.1 c.in-Some-behind.ensures in
    let same : c.in-Some-behind.told.now ∷ told_under c.args.word.now (lines c.in-Some.more.now) ≡ t ∷ ts = sym here ∙ c.loop-line.invariant ∙ e in
    cc same

pub loop-line-preserved : goal.loop-line-preserved
loop-line-preserved c =
    under-other c.args.word.now c.loop-line.rest.now c.in-Some.line.now c.in-Some.more.now
    c.in-Some.ensures.parts.0 c.in-Some.ensures.parts.1 c.in_default-behind.ensures ∙ c.loop-line.invariant

pub returns : goal.returns
returns c = λ t ts e.
    let none : [] ≡ t ∷ ts = sym (under-end c.args.word.now c.loop-line.rest.now c.in_default.ensures.parts) ∙ c.loop-line.invariant ∙ e in
    absurd (cc none)
