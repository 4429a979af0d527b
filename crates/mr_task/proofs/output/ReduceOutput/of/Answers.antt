use Rattle.std.proofs.Common.{◌≡◌, ℕ, List, length, map, ap, sym, ◌∙◌, arith}
use Rattle.std.proofs.lemmas.List.{length-map}
use Rattle.mr_certform.specs.Flat.{chunks, total}
use Rattle.mr_merge.specs.Merged.{Group}
use Rattle.mr_spill.specs.Column.{names_of}
use Rattle.mr_task.proofs.OutputLemmas.{chunks-counted, total-counted}
use Rattle.mr_task.proofs.output.ReduceOutput.of.Goals as goal

pub invariant_of-result : goal.invariant_of-result
invariant_of-result c =
    let gs : List Group = c.args.groups in
    record {
      some_entry = c.in_ok-counts.ensures.some;
      few = omega (arith, ap length c.in_ok-counts.ensures.counts, length-map gs (λ (g : Group). length g.pairs), c.requires.count);
      entries = ap total c.in_ok-counts.ensures.counts ∙ total-counted gs ∙ sym (ap length c.into_names-names.ensures);
    }

pub returns : goal.returns
returns c =
    let gs : List Group = c.args.groups in
    let text = c.in_ok-text.ensures in
    let groups : chunks c.in_ok-counts.counts.items c.into_names-names.result.items ≡ map (λ (g : Group). names_of g.pairs) gs =
    ap (λ (l : List ℕ). chunks l c.into_names-names.result.items) c.in_ok-counts.ensures.counts
    ∙ ap (chunks (map (λ (g : Group). length g.pairs) gs)) c.into_names-names.ensures
    ∙ chunks-counted gs in
    λ i. record { output = text i; groups = groups i }
