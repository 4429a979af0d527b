use Rattle.std.proofs.Common.{◌≡◌, ap, ◌∙◌, sym, Some, arith}
use Rattle.mr_jobs.specs.Fields.{field_behind}
use Rattle.mr_jobs.proofs.FieldLemmas.{between-zero, between-next, between-none}
use Rattle.mr_jobs.proofs.field.field_behind.Goals as goal

pub returns-in_default-clause-value : goal.returns-in_default-clause-value
returns-in_default-clause-value c =
    c.loop-left.invariant.same ∙ between-none c.args.separator c.loop-left.left c.loop-left.rest.now (omega arith) c.in_default.ensures.value

pub loop-left-preserved : goal.loop-left-preserved
loop-left-preserved c = record {
  short = omega (arith, c.in-Some.ensures.short, c.loop-left.invariant.short);
  same = c.loop-left.invariant.same
      ∙ between-next c.args.separator c.loop-left.left c.loop-left.rest.now c.in-Some.behind.now (omega arith) c.in-Some.ensures.value;
}

pub returns-clause-value : goal.returns-clause-value
returns-clause-value c =
    let last : c.loop-left.left ≡ 0 = omega arith in
    c.loop-left.invariant.same ∙ ap (λ k. field_behind c.args.separator k c.loop-left.rest.now) last
    ∙ between-zero c.args.separator c.loop-left.rest.now ∙ ap Some (sym c.before_byte.ensures.value)
