use Rattle.std.proofs.Common.{ap, sym, subst, arith, List, map}
use Rattle.mr_certform.specs.Packed.{AreOpen, base_behind, name_under, no_span, numbers_from, unit_of}
use Rattle.mr_certform.specs.declared.record_names.NameSpan.{NameSpan}
use Rattle.mr_certform.proofs.Packed.{none_open}
use Rattle.mr_certform.proofs.record_names.RecordNames.new.Goals as goal

pub invariant_of-result : goal.invariant_of-result
unfolding base_behind
invariant_of-result c = record {
  few = omega arith;
  reached = subst (λ (s : NameSpan). AreOpen c.new-2.result.items s 0) (sym c.none.ensures)
      (subst (λ (l : List NameSpan). AreOpen l no_span 0) (sym c.new-2.ensures.items) none_open);
  base_is = sym (ap (base_behind (unit_of c.saturating_sub.result) 0) c.new.ensures.items);
}

pub returns : goal.returns
unfolding numbers_from
returns c = ap (λ l. map (name_under c.new-2.result.items) (numbers_from (unit_of c.saturating_sub.result) 0 l)) c.new.ensures.items
