use Rattle.std.proofs.Common.{rules, of_calls, ◌∙◌, sym, leb, leb-true, arith}
use Rattle.std.proofs.lemmas.Bool.{leb-false}
use Rattle.std.proofs.lemmas.List.Sorted.{IsPartitionPoint-from_clause, IsPartitionedBy-leb}
use Rattle.mr_certform.specs.Packed.{no_span}
use Rattle.mr_certform.specs.declared.record_names.NameSpan.{NameSpan}
use Rattle.mr_certform.proofs.Packed.{at_begun, span_covers}
use Rattle.mr_certform.proofs.names.span_of.Goals as goal

pub returns-clause-span : goal.returns-clause-span
returns-clause-span c =
    let ss = c.args.spans.now in
    let n = c.args.number in
    let point = IsPartitionPoint-from_clause (λ (s : NameSpan). leb s.first n) _ _ c.partition_point-begun.ensures.partitioned
    (IsPartitionedBy-leb (λ (s : NameSpan). s.first) _ n c.requires) (λ a r f k. search (rules, of_calls)) in
    c.span_before.ensures ∙ sym (at_begun no_span ss n c.partition_point-begun.result c.partition_point-begun.ensures.bound
    (λ i h. leb-true _ _ (point.0 i no_span (omega arith) h))
    (λ h. leb-false _ _ (point.1 c.partition_point-begun.result no_span (omega arith) h)))

pub returns-clause-covers : goal.returns-clause-covers
returns-clause-covers c =
    span_covers c.args.spans.now c.partition_point-begun.result c.span_before.result c.first_of.result c.requires
    c.partition_point-begun.ensures.bound c.span_before.ensures c.first_of.ensures
