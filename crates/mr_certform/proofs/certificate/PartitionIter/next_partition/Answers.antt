use Rattle.std.proofs.Common.{◌≡◌, length, take, drop, ap, sym, ◌∙◌, arith}
use Rattle.std.proofs.lemmas.List.{length-take, length-drop}
use Rattle.mr_certform.specs.Flat.{total}
use Rattle.mr_certform.proofs.Pieces.{total_cut}
use Rattle.mr_certform.proofs.Groups.{partition_read}
use Rattle.mr_certform.proofs.certificate.PartitionIter.next_partition.Goals as goal

pub sum_of-entries-requires : goal.sum_of-entries-requires
sum_of-entries-requires c = rw c.split_at.ensures.front (omega (arith, total_cut c.in_ok-count.count.now c.self.inside.entry_counts.now, c.self.invariant.entries))

pub split_at-names-requires : goal.split_at-names-requires
split_at-names-requires c =
    let cut : total c.split_at.result.0.now ≡ total (take c.in_ok-count.count.now c.self.inside.entry_counts.now) = ap total c.split_at.ensures.front in
    omega (arith, total_cut c.in_ok-count.count.now c.self.inside.entry_counts.now, c.self.invariant.entries, c.sum_of-entries.ensures)

pub invariant_of-self : goal.invariant_of-self
invariant_of-self c =
    let cut : total c.split_at.result.0.now ≡ total (take c.in_ok-count.count.now c.self.inside.entry_counts.now) = ap total c.split_at.ensures.front in
    let back : total c.split_at.result.1.now ≡ total (drop c.in_ok-count.count.now c.self.inside.entry_counts.now) = ap total c.split_at.ensures.back in
    record {
      groups = omega (arith, ap total (c.in_ok-count.ensures.cases.0), ap length c.split_at.ensures.back, length-drop c.in_ok-count.count.now c.self.inside.entry_counts.now, c.self.invariant.groups);
      entries = omega (arith, total_cut c.in_ok-count.count.now c.self.inside.entry_counts.now, c.self.invariant.entries, ap length c.split_at-names.ensures.back, length-drop c.sum_of-entries.result c.self.inside.names, c.sum_of-entries.ensures);
    }

pub invariant_of-result : goal.invariant_of-result
invariant_of-result c =
    let cut : total c.split_at.result.0.now ≡ total (take c.in_ok-count.count.now c.self.inside.entry_counts.now) = ap total c.split_at.ensures.front in
    omega (arith, total_cut c.in_ok-count.count.now c.self.inside.entry_counts.now, c.self.invariant.entries, c.sum_of-entries.ensures, ap length c.split_at-names.ensures.front, length-take c.sum_of-entries.result c.self.inside.names)

pub returns : goal.returns
returns c =
    let k : c.sum_of-entries.result ≡ total (take c.in_ok-count.count.now c.self.inside.entry_counts.now) = c.sum_of-entries.ensures ∙ ap total c.split_at.ensures.front in
    rw (c.split_at.ensures.front, c.split_at.ensures.back, c.split_at-names.ensures.front, c.split_at-names.ensures.back, k) (sym c.self.view_is ∙ partition_read c.self.inside.group_counts.now c.in_ok-count.count.now c.in_ok-count.counts.now c.self.inside.entry_counts.now c.self.inside.names (c.in_ok-count.ensures.cases.0) (omega (arith, total_cut c.in_ok-count.count.now c.self.inside.entry_counts.now, c.self.invariant.entries)))
