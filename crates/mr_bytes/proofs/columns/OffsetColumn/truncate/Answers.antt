use Rattle.std.proofs.Common.{◌≡◌, ◌++◌, ◌-◌, ℕ, List, ◌∙◌, ap, length, take, arith}
use Rattle.mr_bytes.specs.declared.columns.Place.{Place}
use Rattle.mr_bytes.specs.Places.{in_file}
use Rattle.mr_bytes.proofs.PlaceLemmas.{take-offsets, take-others}
use Rattle.mr_bytes.proofs.columns.OffsetColumn.truncate.Goals as goal

pub returns-then-count-len : goal.returns-then-count-len
returns-then-count-len c =
    let p = c.self.inside in
    ap (λ (l : List Place). in_file p.file c.truncate.new.self.items ++ l) c.clear.ensures.items
    ∙ take-offsets c.args.count p.file p.offsets.items c.truncate.new.self.items p.others.items
    (omega (arith, c.if-count-len.true, c.len.ensures, p.offsets.ok.0)) c.truncate.ensures.items
    ∙ ap (take c.args.count) c.self.view_is

pub returns-else-count-len : goal.returns-else-count-len
returns-else-count-len c =
    let p = c.self.inside in
    let same : c.len-else-count-len.result ≡ length p.offsets.items = c.len-else-count-len.ensures ∙ p.offsets.ok.0 in
    take-others c.args.count p.file p.offsets.items p.others.items c.truncate-else-count-len.new.self.items
    (omega (arith, c.if-count-len.false, c.len.ensures, p.offsets.ok.0))
    (c.truncate-else-count-len.ensures.items ∙ ap (λ (n : ℕ). take (c.args.count - n) p.others.items) same)
    ∙ ap (take c.args.count) c.self.view_is
