use Rattle.std.proofs.Common.{◌≡◌, ◌<◌, ◌≤◌, List, [], ◌∷◌, ◌++◌, length, map, take, refl, ap, sym, ◌∙◌, ◌+◌, subst, arith}
use Rattle.std.specs.Prelude.{slice_index_or}
use Rattle.std.proofs.lemmas.List.{length-map, take_all}
use Rattle.mr_bytes.specs.declared.Name.{Name}
use Rattle.mr_certform.specs.Pieces.{SpellsSoFar}
use Rattle.mr_certform.specs.Flat.{chunks}
use Rattle.mr_certform.specs.Value.{CanSpell, Contents}
use Rattle.mr_certform.proofs.Spelled.{all_spelled}
use Rattle.mr_core.specs.Core.{CoreView}
use Rattle.mr_core.specs.declared.event.Shape.{Shape}
use Rattle.mr_task.specs.Values.{Reduced}
use Rattle.mr_book.specs.Assembled.{committed_values, nothing}
use Rattle.mr_book.specs.Assembling.{reduced_under}
use Rattle.mr_book.proofs.Assemblies.{can_at, mapped_more, parts_count}
use Rattle.mr_book.proofs.book.Book.spelled.Goals as goal

pub write_partition-requires-clause-can : goal.write_partition-requires-clause-can
write_partition-requires-clause-can g c =
    let b = c.args.self.now in
    let k = c.core.result.now in
    let vs : List Reduced = committed_values (reduced_under b.reduces) b.state in
    let count : length vs ≡ b.shape.parts =
    subst (λ (v : CoreView). length (committed_values (reduced_under b.reduces) v.state) ≡ v.shape.parts) c.core.ensures.core
    (parts_count k.shape b.history k.state b.reduces c.limits-limits.ensures.within.parts.0 c.limits-limits.ensures.within.attempts.0 c.core.ensures.run.0) in
    let within : c.loop-partition.partition < length vs = omega (arith, c.loop-partition-test.true, ap (λ (s : Shape). s.parts) c.shape-parts.ensures.shape, count) in
    let groups : chunks c.flat_groups.result.0.now c.plain.result ≡ (slice_index_or vs c.loop-partition.partition nothing).groups =
    ap (chunks c.flat_groups.result.0.now) c.plain.ensures ∙ c.flat_groups.ensures.groups ∙ ap (λ (v : Reduced). v.groups) c.committed.ensures in
    subst (CanSpell c.args.version) (sym groups) (can_at c.args.version vs c.loop-partition.partition within c.requires.can)

pub loop-partition-preserved : goal.loop-partition-preserved
loop-partition-preserved g c =
    let b = c.args.self.now in
    let k = c.core.result.now in
    let vs : List Reduced = committed_values (reduced_under b.reduces) b.state in
    let count : length vs ≡ b.shape.parts =
    subst (λ (v : CoreView). length (committed_values (reduced_under b.reduces) v.state) ≡ v.shape.parts) c.core.ensures.core
    (parts_count k.shape b.history k.state b.reduces c.limits-limits.ensures.within.parts.0 c.limits-limits.ensures.within.attempts.0 c.core.ensures.run.0) in
    let within : c.loop-partition.partition < length vs = omega (arith, c.loop-partition-test.true, ap (λ (s : Shape). s.parts) c.shape-parts.ensures.shape, count) in
    let header = c.args.header in
    let with_groups : List (List (List Name)) → Contents = λ gs. record {
      job = header.job;
      flags = header.flags;
      literal = header.literal.items;
      parts = b.shape.parts;
      split_size = header.split_size;
      lengths = header.lengths.items;
      skips = header.skips.items;
      groups = gs;
    } in
    let so_far : List (List (List Name)) = map (λ (v : Reduced). v.groups) (take c.loop-partition.partition vs) in
    let more : so_far ++ c.committed.result.now.groups ∷ [] ≡ map (λ (v : Reduced). v.groups) (take (c.loop-partition.partition + 1) vs) =
    mapped_more (λ (v : Reduced). v.groups) vs c.loop-partition.partition so_far c.committed.result.now within refl c.committed.ensures in
    subst (λ gs. SpellsSoFar c.args.version c.write_partition.new.out.items (with_groups gs)) (ap (λ (w : List (List Name)). so_far ++ w ∷ []) (ap (chunks c.flat_groups.result.0.now) c.plain.ensures ∙ c.flat_groups.ensures.groups) ∙ more)
    (c.in_ok-write_partition.ensures (with_groups so_far) c.loop-partition.invariant)

pub returns : goal.returns
returns g c =
    let b = c.args.self.now in
    let k = c.core.result.now in
    let vs : List Reduced = committed_values (reduced_under b.reduces) b.state in
    let count : length vs ≡ b.shape.parts =
    subst (λ (v : CoreView). length (committed_values (reduced_under b.reduces) v.state) ≡ v.shape.parts) c.core.ensures.core
    (parts_count k.shape b.history k.state b.reduces c.limits-limits.ensures.within.parts.0 c.limits-limits.ensures.within.attempts.0 c.core.ensures.run.0) in
    let all : length vs ≤ c.loop-partition.partition = omega (arith, c.loop-partition-test.false, ap (λ (s : Shape). s.parts) c.shape-parts.ensures.shape, count) in
    let header = c.args.header in
    let with_groups : List (List (List Name)) → Contents = λ gs. record {
      job = header.job;
      flags = header.flags;
      literal = header.literal.items;
      parts = b.shape.parts;
      split_size = header.split_size;
      lengths = header.lengths.items;
      skips = header.skips.items;
      groups = gs;
    } in
    let groups : List (List (List Name)) = map (λ (v : Reduced). v.groups) vs in
    let whole : SpellsSoFar c.args.version c.loop-partition.out.items (with_groups groups) =
    subst (λ (us : List Reduced). SpellsSoFar c.args.version c.loop-partition.out.items (with_groups (map (λ (v : Reduced). v.groups) us))) (take_all c.loop-partition.partition vs all) c.loop-partition.invariant in
    let one_each : length groups ≡ b.shape.parts = length-map vs (λ (v : Reduced). v.groups) ∙ count in
    record { fits = whole.front groups one_each whole.groups; can = whole.can; spelled = whole.text ∙ all_spelled c.args.version (with_groups groups) one_each }
