use Rattle.std.proofs.Common.{◌≡◌, ◌<◌, ◌≤◌, List, length, map, ap, sym, ◌∙◌, subst, refl, arith}
use Rattle.std.specs.Prelude.{slice_index_or}
use Rattle.std.specs.List.{AllByRecursion}
use Rattle.std.proofs.lemmas.Bool.{false≢true}
use Rattle.std.proofs.lemmas.List.{take_all}
use Rattle.mr_certform.specs.Flat.{chunks}
use Rattle.mr_certform.specs.Value.{CanSpell}
use Rattle.mr_core.specs.Core.{CoreView}
use Rattle.mr_core.specs.declared.event.Shape.{Shape}
use Rattle.mr_task.specs.Values.{Reduced}
use Rattle.mr_book.specs.Assembled.{committed_values, nothing}
use Rattle.mr_book.specs.Assembling.{reduced_under}
use Rattle.mr_book.proofs.Assemblies.{can_at, can_more, parts_count}
use Rattle.mr_book.proofs.book.Book.can_spell.Goals as goal

pub loop-partition-preserved : goal.loop-partition-preserved
loop-partition-preserved g c =
    let b = c.args.self.now in
    let k = c.core.result.now in
    let vs : List Reduced = committed_values (reduced_under b.reduces) b.state in
    let count : length vs ≡ b.shape.parts =
    subst (λ (v : CoreView). length (committed_values (reduced_under b.reduces) v.state) ≡ v.shape.parts) c.core.ensures.core
    (parts_count k.shape b.history k.state b.reduces c.limits-limits.ensures.within.parts.0 c.limits-limits.ensures.within.attempts.0 c.core.ensures.run.0) in
    let within : c.loop-partition.partition < length vs = omega (arith, c.loop-partition-test.true, ap (λ (s : Shape). s.parts) c.shape-parts.ensures.shape, count) in
    let can : CanSpell c.args.version c.committed.result.now.groups =
    subst (CanSpell c.args.version) (ap (chunks c.flat_groups.result.0.now) c.plain.ensures ∙ c.flat_groups.ensures.groups) (c.can_spell.ensures.0 c.if-not-can_spell.false) in
    can_more c.args.version vs c.loop-partition.partition c.committed.result.now within c.loop-partition.invariant c.committed.ensures can

pub returns-then-not-can_spell : goal.returns-then-not-can_spell
returns-then-not-can_spell g c =
    let b = c.args.self.now in
    let k = c.core.result.now in
    let vs : List Reduced = committed_values (reduced_under b.reduces) b.state in
    let count : length vs ≡ b.shape.parts =
    subst (λ (v : CoreView). length (committed_values (reduced_under b.reduces) v.state) ≡ v.shape.parts) c.core.ensures.core
    (parts_count k.shape b.history k.state b.reduces c.limits-limits.ensures.within.parts.0 c.limits-limits.ensures.within.attempts.0 c.core.ensures.run.0) in
    let within : c.loop-partition.partition < length vs = omega (arith, c.loop-partition-test.true, ap (λ (s : Shape). s.parts) c.shape-parts.ensures.shape, count) in
    let groups : chunks c.flat_groups.result.0.now c.plain.result ≡ (slice_index_or vs c.loop-partition.partition nothing).groups =
    ap (chunks c.flat_groups.result.0.now) c.plain.ensures ∙ c.flat_groups.ensures.groups ∙ ap (λ (v : Reduced). v.groups) c.committed.ensures in (
      λ yes. absurd (false≢true yes),
      λ all. absurd (false≢true (sym c.if-not-can_spell.true ∙ c.can_spell.ensures.1 (subst (CanSpell c.args.version) (sym groups) (can_at c.args.version vs c.loop-partition.partition within all)))),
    )

pub returns : goal.returns
returns g c =
    let b = c.args.self.now in
    let k = c.core.result.now in
    let vs : List Reduced = committed_values (reduced_under b.reduces) b.state in
    let count : length vs ≡ b.shape.parts =
    subst (λ (v : CoreView). length (committed_values (reduced_under b.reduces) v.state) ≡ v.shape.parts) c.core.ensures.core
    (parts_count k.shape b.history k.state b.reduces c.limits-limits.ensures.within.parts.0 c.limits-limits.ensures.within.attempts.0 c.core.ensures.run.0) in
    let all : length vs ≤ c.loop-partition.partition = omega (arith, c.loop-partition-test.false, ap (λ (s : Shape). s.parts) c.shape-parts.ensures.shape, count) in (
      λ yes. subst (λ (us : List Reduced). AllByRecursion (CanSpell c.args.version) (map (λ (v : Reduced). v.groups) us)) (take_all c.loop-partition.partition vs all) c.loop-partition.invariant,
      λ can. refl,
    )
