use Rattle.std.proofs.Common.{◌-◌, List, [], ◌∙◌, ap, take, arith}
use Rattle.mr_bytes.specs.declared.Value.{Value}
use Rattle.mr_bytes.specs.declared.columns.Place.{Place}
use Rattle.mr_bytes.specs.Values.{column}
use Rattle.mr_bytes.proofs.ValueLemmas.{take-ones, take-near, take-rest, still-otherwise}
use Rattle.mr_bytes.proofs.columns.ValueColumn.truncate.Goals as goal

pub returns-then-count-self : goal.returns-then-count-self
returns-then-count-self c =
    let v = c.self.inside in
    ap (λ (l : List Place). column c.args.count l c.clear-then-count-self.new.self.items) c.clear.ensures
    ∙ ap (λ (l : List Value). column c.args.count [] l) c.clear-then-count-self.ensures.items
    ∙ take-ones c.args.count v.ones v.places v.rest.items c.if-count-self.true
    ∙ ap (take c.args.count) c.self.view_is

pub returns-then-behind-len : goal.returns-then-behind-len
returns-then-behind-len c =
    let v = c.self.inside in
    ap (λ (l : List Value). column v.ones c.truncate.new.self l) c.clear-then-behind-len.ensures.items
    ∙ take-near c.args.count v.ones v.places c.truncate.new.self v.rest.items c.if-count-self.false
    (omega (arith, c.if-behind-len.true, c.len.ensures)) c.truncate.ensures
    ∙ ap (take c.args.count) c.self.view_is

pub returns-else-behind-len : goal.returns-else-behind-len
returns-else-behind-len c =
    let v = c.self.inside in
    take-rest c.args.count v.ones v.places v.rest.items c.truncate-else-behind-len.new.self.items c.if-count-self.false
    (omega (arith, c.if-behind-len.false, c.len.ensures))
    (c.truncate-else-behind-len.ensures.items ∙ ap (λ n. take (c.args.count - v.ones - n) v.rest.items) c.len-else-behind-len.ensures)
    ∙ ap (take c.args.count) c.self.view_is

pub invariant_of-self-else-behind-len : goal.invariant_of-self-else-behind-len
invariant_of-self-else-behind-len c =
    let v = c.self.inside in
    record {
      counted = still-otherwise (c.args.count - v.ones - c.len-else-behind-len.result) v.places v.rest.items c.truncate-else-behind-len.new.self.items
          c.truncate-else-behind-len.ensures.items c.self.invariant.counted;
      few = omega (arith, c.self.invariant.few, c.truncate-else-behind-len.ensures.len, v.rest.ok.0, c.truncate-else-behind-len.new.self.ok.0);
    }
