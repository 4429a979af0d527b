use Rattle.std.proofs.Common.{◌≡◌, ℕ, ◌<◌, ◌≤◌, List, [], length, get_or, ap, ◌∙◌, sym, arith, subst, map, All, ◌==◌, count_by}
use Rattle.std.proofs.lemmas.List.{ext_get_or, get_or_default, get_or-map, length-map}
use Rattle.std.proofs.lemmas.List.Sums.{count_by-le-length}
use Rattle.std.specs.List.{range_with_len, zip}
use Rattle.mr_bytes.specs.declared.Name.{Name}
use Rattle.mr_bytes.specs.Pairs.{Triple}
use Rattle.mr_certform.specs.declared.certificate.FlatGroups.{FlatGroups}
use Rattle.mr_certform.specs.Flat.{chunks}
use Rattle.mr_jobs.specs.JobSpec.{RequestSpec}
use Rattle.mr_group.specs.declared.rows.Row.{Row}
use Rattle.mr_group.specs.Buckets.{size}
use Rattle.mr_group.specs.Interner.{key_at}
use Rattle.mr_group.specs.Rows.{no_row, nth_row, row_key, row_part}
use Rattle.mr_group.proofs.BucketLemmas.{before-all, before-sizes, size-count}
use Rattle.mr_certform.specs.Packed.{names_of}
use Rattle.mr_sequential.specs.Names.{AreByRank, AreSizes, triples_of}
use Rattle.mr_certform.proofs.Pieces.{length-chunks}
use Rattle.std.proofs.lemmas.List.FromFn.{get_or-map-range_with_len, length-map-range_with_len}
use Rattle.mr_sequential.specs.Certified.{groups_of, names_with}
use Rattle.mr_sequential.specs.Rows.{AreGrouped, AreRanks, row_names}
use Rattle.mr_sequential.specs.Rules.{part}
use Rattle.mr_sequential.proofs.GroupLemmas.{chunk-at, piece-bucket, total-all, slices-sorted, parts-rise, parts-within, size-used}
use Rattle.mr_sequential.proofs.RankLemmas.{parts-bucket, row-bucket, row-members}
use Rattle.mr_sequential.proofs.VersionLaws.{by_places}
use Rattle.mr_sequential.proofs.groups.grouped.Goals as goal

-- as many triples as ranks
even : (request : RequestSpec) (ts : List Triple) (rows : List Row) (is : List ℕ) → AreRanks (part request) ts rows is
    → length (map (λ (t : Triple). t.name) ts) ≡ length is
even request ts rows is are =
    omega (
      arith,
      ap length are.keys_are,
      length-map is (key_at (map row_key rows)),
      length-map ts (λ (t : Triple). t.key),
      length-map ts (λ (t : Triple). t.name),
    )

are-grouped : (request : RequestSpec) (ts : List Triple) (rows : List Row) (is : List ℕ) (g : FlatGroups)
    → 1 ≤ request.parts → AreRanks (part request) ts rows is → length g.group_counts.items ≡ request.parts
    → ((p : ℕ) → p < request.parts → get_or g.group_counts.items p 0 ≡ count_by (λ j. j == p) (map row_part rows))
    → AreSizes (length rows) is g.entry_counts.items → length g.names ≡ length is
    → AreByRank (length rows) (zip is (map (λ (t : Triple). t.name) ts)) g.names → AreGrouped request ts rows g
are-grouped request ts rows is g some are parts by_part sizes as_many by_rank =
    let ps : List ℕ = map row_part rows in
    let xs : List Name = map (λ (t : Triple). t.name) ts in
    let es : List (ℕ × Name) = zip is xs in
    let gc : List ℕ = g.group_counts.items in
    let ec : List ℕ = g.entry_counts.items in
    let n : ℕ = length rows in
    let m : ℕ = request.parts in
    let same : length xs ≡ length is = even request ts rows is are in
    let sizes_at : (i : ℕ) → i < n → get_or ec i 0 ≡ size es i = λ i h. sizes.each i h ∙ sym (size-count is xs i same) in
    let aligned : length ec ≡ length ps = omega (arith, sizes.len, length-map rows row_part) in
    let low : All (λ p. p < m) ps = parts-within request rows some are.part_is in
    let groups_all = total-all (size (zip ps ec)) gc m parts (λ p h. by_part p h ∙ sym (size-count ps ec p aligned)) in
    let entries_all = total-all (size es) ec n sizes.len sizes_at in
    let pairs_all = before-all is xs n same are.inside in
    let T : List ℕ → List Name = names_with ts in
    let ls : List (List ℕ) = map row_key rows in
    let listed : List (List Name) = map T ls in
    let count : length listed ≡ n = length-map ls T ∙ length-map rows row_key in
    let row_count : length listed ≡ length ps = omega (arith, count, length-map rows row_part) in
    let names_are : (r : ℕ) → r < n → row_names g r ≡ T (row_key (nth_row rows r)) =
    λ r h. piece-bucket es g.names ec n sizes_at r h (by_rank r h) ∙ row-bucket (part request) ts rows is are (λ (t : Triple). t.name) r h in
    let rows_are : chunks ec g.names ≡ listed =
    ext_get_or [] (chunks ec g.names) listed (length-chunks ec g.names ∙ sizes.len ∙ sym count)
    (λ r h. (let here : r < n = omega (arith, h, length-chunks ec g.names, sizes.len) in
    chunk-at ec g.names r (omega (arith, here, sizes.len)) ∙ names_are r here
    ∙ sym (get_or-map T ls r [] [] (omega (arith, here, length-map rows row_key)) ∙ ap T (get_or-map row_key rows r no_row [] here)))) in
    let parts_are : chunks gc listed ≡ map (groups_of (part request) ts) (range_with_len 0 m) =
    ext_get_or [] (chunks gc listed) (map (groups_of (part request) ts) (range_with_len 0 m))
    (length-chunks gc listed ∙ parts ∙ sym (length-map-range_with_len (groups_of (part request) ts) 0 m))
    (λ p h. (let here : p < m = omega (arith, h, length-chunks gc listed, parts) in
    chunk-at gc listed p (omega (arith, here, parts))
    ∙ piece-bucket (zip ps listed) listed gc m (λ q low. by_part q low ∙ sym (size-count ps listed q row_count)) p here
    (slices-sorted 0 p ps listed (parts-rise rows are.rise))
    ∙ parts-bucket (part request) p T rows are.part_is ∙ ap (map T) (row-members (part request) ts rows is are p)
    ∙ sym (get_or-map-range_with_len (groups_of (part request) ts) 0 m p p [] here (omega arith)))) in
    record {
      part_is = are.part_is;
      keys_are = row-members (part request) ts rows is are;
      parts = parts;
      one_each = sizes.len;
      counted = record {
        some_entry = by_places (λ k. 1 ≤ k) 0 ec (λ i h. (let within : i < n = omega (arith, h, sizes.len) in
            omega (arith, sizes_at i within, size-used is xs i same (are.used i within))));
        groups = omega (arith, groups_all, before-all ps ec m aligned low, aligned);
        entries = omega (arith, entries_all, pairs_all, as_many);
      };
      within = omega (arith, before-sizes n es ec n (omega arith) sizes_at, pairs_all, as_many);
      names_are = names_are;
      groups_are = ap (chunks gc) rows_are ∙ parts_are;
    }

-- what was counted, under other names
sized : (count n : ℕ) (numbers is sizes : List ℕ) → count ≡ n → numbers ≡ is → length sizes ≡ count
    → ((i : ℕ) → i < count → get_or sizes i 0 ≡ count_by (λ j. j == i) numbers) → AreSizes n is sizes
sized count n numbers is sizes same shown len each = record {
  len = len ∙ same;
  each = λ i h. each i (omega (arith, h, same)) ∙ ap (count_by (λ j. j == i)) shown;
}

pub sizes_of-requires : goal.sizes_of-requires
sizes_of-requires c =
    subst (All (λ i. i < c.len.result)) (sym c.as_slice-2.ensures.value)
    (subst (λ n. All (λ i. i < n) c.args.pairs.numbers.items) (sym (c.len.ensures ∙ c.args.pairs.rows.ok.0)) c.requires.ranks.inside)

pub entry_counts-requires : goal.entry_counts-requires
entry_counts-requires c = λ k d h.
    let is : List ℕ = c.args.pairs.numbers.items in
    let sizes : List ℕ = c.in_ok-sizes.sizes.items in
    let within : k < length sizes = omega (arith, h, ap length c.as_slice-3.ensures.value) in
    let here : get_or c.as_slice-3.result.now k d ≡ get_or sizes k 0 =
    ap (λ (l : List ℕ). get_or l k d) c.as_slice-3.ensures.value ∙ get_or_default sizes k d 0 within in
    let all : AreSizes (length c.args.pairs.rows.items) is sizes =
    sized c.len.result _ c.as_slice-2.result.now is sizes (c.len.ensures ∙ c.args.pairs.rows.ok.0) c.as_slice-2.ensures.value c.in_ok-sizes.ensures.len c.in_ok-sizes.ensures.sizes in
    omega (arith, here, all.each k (omega (arith, within, all.len)), count_by-le-length (λ j. j == k) is, c.requires.few)

pub names_by_rank-requires-clause-inside : goal.names_by_rank-requires-clause-inside
names_by_rank-requires-clause-inside c =
    subst (All (λ i. i < length c.in_ok-sizes.sizes.items)) (sym c.as_slice-4.ensures.value)
    (subst (λ n. All (λ i. i < n) c.args.pairs.numbers.items) (sym (c.in_ok-sizes.ensures.len ∙ c.len.ensures ∙ c.args.pairs.rows.ok.0)) c.requires.ranks.inside)

pub names_by_rank-requires-clause-sizes : goal.names_by_rank-requires-clause-sizes
names_by_rank-requires-clause-sizes c =
    sized c.len.result _ c.as_slice-2.result.now c.as_slice-4.result.now c.in_ok-sizes.sizes.items (sym c.in_ok-sizes.ensures.len)
    (c.as_slice-2.ensures.value ∙ sym c.as_slice-4.ensures.value) c.in_ok-sizes.ensures.len c.in_ok-sizes.ensures.sizes

pub returns : goal.returns
returns c =
    let request = c.args.request.now in
    let ts : List Triple = triples_of request.job c.args.kept.now in
    let rows : List Row = c.args.pairs.rows.items in
    let is : List ℕ = c.args.pairs.numbers.items in
    let sizes : List ℕ = c.in_ok-sizes.sizes.items in
    let names : List Name = c.in_ok-names.names in
    let n : ℕ = length rows in
    let by_part = c.in_ok-group_counts.ensures in
    let all : AreSizes n is sizes =
    sized c.len.result n c.as_slice-2.result.now is sizes (c.len.ensures ∙ c.args.pairs.rows.ok.0) c.as_slice-2.ensures.value c.in_ok-sizes.ensures.len c.in_ok-sizes.ensures.sizes in
    let entries : c.in_ok-entry_counts.entry_counts.items ≡ sizes = c.in_ok-entry_counts.ensures ∙ c.as_slice-3.ensures.value in
    let by_rank : AreByRank (length sizes) (zip is (map (λ (t : Triple). t.name) ts)) names =
    subst (λ (l : List Name). AreByRank (length sizes) (zip is l) names) c.requires.names
    (subst (λ (l : List ℕ). AreByRank (length sizes) (zip l (names_of c.args.names)) names) c.as_slice-4.ensures.value c.in_ok-names.ensures.buckets) in
    are-grouped request ts rows is
    (record { group_counts = c.in_ok-group_counts.group_counts; entry_counts = c.in_ok-entry_counts.entry_counts; names = names })
    (omega (arith, c.parts.ensures.same, c.parts.ensures.within.0)) c.requires.ranks
    (by_part.len ∙ c.parts.ensures.same)
    (λ p h. by_part.counts p (omega (arith, h, c.parts.ensures.same)) ∙ ap (λ (l : List Row). count_by (λ j. j == p) (map row_part l)) c.as_slice.ensures.value)
    (subst (AreSizes n is) (sym entries) all)
    (c.in_ok-names.ensures.all ∙ ap length c.as_slice-4.ensures.value)
    (subst (λ m. AreByRank m (zip is (map (λ (t : Triple). t.name) ts)) names) all.len by_rank)
