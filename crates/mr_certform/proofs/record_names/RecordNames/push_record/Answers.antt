use Rattle.std.proofs.Common.{◌≡◌, ◌∙◌, ◌++◌, ap, arith, ℕ, map, max}
use Rattle.mr_certform.specs.Packed.{Numbered, base_behind, name_in, name_under, names_from, names_of, numbers_from, unit_of}
use Rattle.mr_certform.specs.declared.record_names.NameSpan.{NameSpan}
use Rattle.mr_certform.proofs.Packed.{behind_more, names_pushed, open_later}
use Rattle.mr_certform.proofs.record_names.RecordNames.push_record.Goals as goal

pub invariant_of-self-2 : goal.invariant_of-self-2
invariant_of-self-2 c =
    let r = c.self.inside in
    let unit : ℕ = unit_of r.bits in
    let room : c.max.result ≡ max unit c.args.count = c.max.ensures ∙ (λ i. max (c.unit_of-unit.ensures i) (c.from-wide.ensures i)) in
    record {
      few = omega (arith, c.if-end-gt4294967295.false);
      reached = open_later c.reach.new.self.spans.items c.reach.new.self.last c.of-span.result.first _
          (omega (arith, c.from.ensures, ap (λ (s : NameSpan). s.first) c.of-span.ensures.is)) c.reach.ensures.valid;
      base_is = omega (
        arith,
        c.from.ensures,
        room,
        c.self.invariant.base_is,
        ap (base_behind unit 0) c.in_ok-push.ensures.items,
        behind_more unit 0 c.args.count r.counts.items,
      );
    }

pub returns : goal.returns
returns c =
    let r = c.self.inside in
    let new = c.reach.new.self in
    let span : NameSpan = c.of-span.result in
    let begun : span.first ≡ r.base = ap (λ (s : NameSpan). s.first) c.of-span.ensures.is in
    ap (λ l. map (name_under new.spans.items) (numbers_from (unit_of r.bits) 0 l)) c.in_ok-push.ensures.items
    ∙ names_pushed (unit_of r.bits) span.first c.args.count r.reached.spans.items new.spans.items new.last c.args.name r.counts.items
    (begun ∙ c.self.invariant.base_is) c.reach.ensures.before c.reach.ensures.valid (c.in_ok-reach.ensures.named ∙ ap (name_in span) begun ∙ c.of-span.ensures.named)
    (omega (arith, c.in_ok-reach.ensures.room, c.from-wide.ensures))
    ∙ ap (λ (n : Numbered). names_of n ++ names_from c.args.name 0 c.args.count) c.self.view_is
