use Rattle.std.proofs.Common.{◌≡◌, ◌<◌, ℕ, List, All, length, sym, ap, ◌∙◌, arith, subst, map, Vec, Global}
use Rattle.std.proofs.lemmas.List.{length-map}
use Rattle.mr_bytes.specs.declared.By.{By}
use Rattle.mr_group.specs.declared.rows.Row.{Row}
use Rattle.mr_group.specs.Column.{keyed}
use Rattle.mr_group.specs.Interner.{key_at}
use Rattle.mr_group.specs.Rows.{AreRows, IsRanked}
use Rattle.mr_group.proofs.RankLemmas.{rank_count}
use Rattle.mr_jobs.specs.JobSpec.{JobSpec, RequestSpec}
use Rattle.mr_partition.specs.Hosts.{partition_by}
use Rattle.std.specs.List.{range_with_len}
use Rattle.mr_splits.specs.Cut.{Cut, records_of}
use Rattle.mr_splits.specs.Kept.{Choice}
use Rattle.mr_sequential.specs.Certified.{groups_of}
use Rattle.mr_sequential.specs.Emitted.{emitted}
use Rattle.mr_sequential.specs.Sequential.{texts_of}
use Rattle.mr_sequential.specs.Names.{triples_of}
use Rattle.mr_sequential.specs.Rows.{HaveNames, names_text, row_texts}
use Rattle.mr_sequential.specs.Rules.{part, rules_of}
use Rattle.mr_sequential.proofs.FillLemmas.{grouped-texts, have-names}
use Rattle.mr_sequential.proofs.RankLemmas.{are-ranks}
use Rattle.mr_sequential.proofs.GroupLemmas.{rows-within}
use Rattle.mr_sequential.proofs.outputs.outputs.Goals as goal

-- as many ranks as keys are seen
rank-many : (keys seen : List (List ℕ)) (rows : List Row) (is rs : List ℕ) → IsRanked keys rows is rs → keyed keys is ≡ seen → length rs ≡ length seen
rank-many keys seen rows is rs ranks view =
    omega (arith, length-map is (key_at keys), ap length view, rank_count keys rows is rs ranks)

-- the rows of this request
rows-of_request : (request : RequestSpec) (keys : List (List ℕ)) (by : By) (parts : ℕ) (rows : List Row) → by ≡ request.by → parts ≡ request.parts
    → AreRows keys (λ k. partition_by by k parts) rows → AreRows keys (part request) rows
rows-of_request request keys by parts rows same many are =
    subst (λ (b : By). AreRows keys (λ k. partition_by b k request.parts) rows) same
    (subst (λ n. AreRows keys (λ k. partition_by by k n) rows) many are)

pub grouped-requires-clause-rows : goal.grouped-requires-clause-rows
grouped-requires-clause-rows c =
    let is : List ℕ = c.into_parts-keys.result.1.items in
    omega (
      arith,
      c.in_ok-pairs.ensures.count,
      c.into_parts-keys.ensures.numbers.few,
      length-map is (key_at c.into_parts-keys.result.0),
      ap length c.into_parts-keys.ensures.keyed,
      c.requires.few,
    )

pub grouped-requires-clause-few : goal.grouped-requires-clause-few
grouped-requires-clause-few c =
    omega (
      arith,
      rank-many c.into_parts-keys.result.0 c.args.emitted.keys c.in_ok-pairs.pairs.rows.items c.into_parts-keys.result.1.items c.in_ok-pairs.pairs.numbers.items
          c.in_ok-pairs.ensures.numbers c.into_parts-keys.ensures.keyed,
      c.requires.few,
    )

pub grouped-requires-clause-ranks : goal.grouped-requires-clause-ranks
grouped-requires-clause-ranks c =
    let request : RequestSpec = c.args.request.now in
    let rows : List Row = c.in_ok-pairs.pairs.rows.items in
    are-ranks (part request) c.into_parts-keys.result.0 (triples_of request.job c.args.kept.now) rows c.into_parts-keys.result.1.items c.in_ok-pairs.pairs.numbers.items
    (rows-of_request request c.into_parts-keys.result.0 c.by.result c.parts.result rows c.by.ensures.same c.parts.ensures.same c.in_ok-pairs.ensures.rows)
    c.in_ok-pairs.ensures.numbers c.into_parts-keys.ensures.numbers.used
    (c.into_parts-keys.ensures.keyed ∙ c.requires.emitted.keys_are)

pub texts_of-requires-clause-parts : goal.texts_of-requires-clause-parts
texts_of-requires-clause-parts c =
    let groups = c.in_ok-rows.ensures in
    subst (λ (l : List Row). All (λ r. r.part < length c.in_ok-rows.groups.group_counts.items) l) (sym c.as_slice.ensures.value)
    (subst (λ n. All (λ r. r.part < n) c.in_ok-rows.rows.items) (sym groups.parts)
    (rows-within c.args.request.now c.in_ok-rows.rows.items (omega (arith, c.parts.ensures.same, c.parts.ensures.within.0)) groups.part_is))

pub texts_of-requires-clause-names : goal.texts_of-requires-clause-names
texts_of-requires-clause-names c =
    let request : RequestSpec = c.args.request.now in
    let g = c.in_ok-rows.groups in
    subst (λ (l : List Row). HaveNames c.job.result.now c.plan.result.now (length l) g) (sym c.as_slice.ensures.value)
    (subst (λ (k : Cut). HaveNames c.job.result.now k (length c.in_ok-rows.rows.items) g) (sym c.plan.ensures)
    (subst (λ (j : JobSpec). HaveNames j c.args.kept.now.cut (length c.in_ok-rows.rows.items) g) (sym c.job.ensures.same)
    (have-names request c.args.kept.now c.in_ok-rows.rows.items g c.requires.some c.in_ok-rows.ensures)))

pub returns : goal.returns
returns c =
    let request : RequestSpec = c.args.request.now in
    let kept : Choice = c.args.kept.now in
    let job : JobSpec = request.job in
    let rows : List Row = c.in_ok-rows.rows.items in
    let texts : List (Vec ℕ Global) = c.in_ok-texts.texts.items in
    let g = c.in_ok-rows.groups in
    let grouped = c.in_ok-rows.ensures in
    record {
      count = length-map texts (λ (v : Vec ℕ Global). v.items) ∙ c.in_ok-texts.ensures.count ∙ grouped.parts;
      texts = λ p h. c.in_ok-texts.ensures.texts p (omega (arith, h, grouped.parts))
          ∙ ap (λ (l : List Row). row_texts (names_text c.job.result.now (records_of c.plan.result.now) g) p 0 l) c.as_slice.ensures.value
          ∙ ap (λ (k : Cut). row_texts (names_text c.job.result.now (records_of k) g) p 0 rows) c.plan.ensures
          ∙ ap (λ (j : JobSpec). row_texts (names_text j (records_of kept.cut) g) p 0 rows) c.job.ensures.same
          ∙ grouped-texts request kept rows g p c.requires.some grouped
          ∙ ap (λ m. texts_of (rules_of request) (emitted job m kept.cut.files kept.skips) p) c.requires.size;
      parts = grouped.parts;
      counted = grouped.counted;
      groups = grouped.groups_are ∙ ap (λ m. map (groups_of (part request) (emitted job m kept.cut.files kept.skips)) (range_with_len 0 request.parts)) c.requires.size;
    }
