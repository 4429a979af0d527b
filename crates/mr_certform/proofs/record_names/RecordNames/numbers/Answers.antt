use Rattle.std.proofs.Common.{◌∙◌, ap, arith}
use Rattle.mr_certform.specs.Packed.{base_behind, unit_of}
use Rattle.mr_certform.proofs.record_names.RecordNames.numbers.Goals as goal

pub invariant_of-result : goal.invariant_of-result
invariant_of-result c = record {
  few = omega (
    arith,
    c.self.invariant.base_is,
    c.self.invariant.few,
    ap (λ u. base_behind u 0 c.deref.result.now) c.unit_of.ensures ∙ ap (base_behind (unit_of c.self.inside.bits) 0) c.deref.ensures.value,
  );
  low = omega arith;
}
