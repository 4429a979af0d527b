-- A window as it is mapped, record by record.
use Rattle.std.proofs.Common.{◌≡◌, ℕ, ◌+◌, ◌-◌, ◌<◌, ◌≤◌, ◌^◌, true, false, not, cond, eqb, List, [], ◌∷◌, ◌++◌, length, get_or, drop, take, slice_range, refl, sym, ◌∙◌, ap, subst, arith, length-append, length-drop}
use Rattle.std.proofs.lemmas.List.{append-nil, drop-drop, get_or-drop, take_more, take_all, take-append-drop}
use Rattle.std.proofs.lemmas.List.Elements.{All-filter}
use Rattle.std.proofs.lemmas.List.Sums.{sum_by-append}
use Rattle.std.proofs.lemmas.Grind.{flat_map-append}
use Rattle.std.proofs.Math.Seq.{take-add}
use Rattle.std.specs.List.{flat_map}
use Rattle.mr_bytes.specs.declared.RecordName.{RecordName}
use Rattle.mr_bytes.specs.Pairs.{Triple}
use Rattle.mr_input.specs.Files.{total_size}
use Rattle.mr_jobs.specs.JobSpec.{JobSpec}
use Rattle.mr_jobs.specs.Emissions.{Emission}
use Rattle.mr_splits.specs.Named.{NamedRecord, is_left_out, of_split}
use Rattle.mr_splits.specs.Cut.{Cut, nth_named, records_of}
use Rattle.mr_splits.specs.Kept.{Choice}
use Rattle.mr_sequential.specs.Emitted.{placed_from, record_triples}
use Rattle.mr_sequential.proofs.LineLemmas.{Stands, records-stand}
use Rattle.mr_sequential.specs.Pairs.{kept_pairs, record_pairs}
use Rattle.mr_index.specs.Index.{mapped_among}
use Rattle.mr_index.specs.Pairs.{keys_size, Fits}
use Rattle.mr_index.specs.Building.{numbered, ended, Shows}
use Rattle.mr_index.specs.Windows.{piece_of}
use Rattle.mr_index.proofs.JoinLemmas.{mapped-append}
use Rattle.mr_index.proofs.SizeLemmas.{split-fits}
use Rattle.mr_index.proofs.WorkLemmas.{left-pairs, left-triples, end-next}

-- ---- the records from one number and before another

none : NamedRecord
none = record { name = record { split = 0; rec = 0 }; file = 0; start = 0; bytes = [] }

pub slice-more : (rs : List NamedRecord) (from number : ℕ) → from ≤ number → number < length rs
    → slice_range rs from (number + 1) ≡ slice_range rs from number ++ nth_named rs number ∷ []
unfolding none
slice-more rs from number order h =
    let more : number + 1 - from ≡ number - from + 1 = omega arith in
    let at : from + (number - from) ≡ number = omega arith in
    ap (λ (k : ℕ). take k (drop from rs)) more
    ∙ take_more (drop from rs) (number - from) none (omega (arith, length-drop from rs))
    ∙ ap (λ (r : NamedRecord). take (number - from) (drop from rs) ++ r ∷ [])
    (get_or-drop from rs (number - from) none ∙ ap (λ (k : ℕ). get_or rs k none) at)

pub slice-none : (rs : List NamedRecord) (from : ℕ) → slice_range rs from from ≡ []
slice-none rs from =
    let no-more : from - from ≡ 0 = omega arith in
    ap (λ (k : ℕ). take k (drop from rs)) no-more

pub slice-join : (rs : List NamedRecord) (from at end : ℕ) → from ≤ at → at ≤ end → slice_range rs from end ≡ slice_range rs from at ++ slice_range rs at end
slice-join rs from at end before behind =
    let sum : end - from ≡ at - from + (end - at) = omega arith in
    let here : from + (at - from) ≡ at = omega arith in
    ap (λ (k : ℕ). take k (drop from rs)) sum
    ∙ take-add (at - from) (end - at) (drop from rs)
    ∙ ap (λ (l : List NamedRecord). slice_range rs from at ++ take (end - at) l)
    (drop-drop (at - from) from rs ∙ ap (λ (k : ℕ). drop k rs) here)

pub slice-all : (rs : List NamedRecord) (n : ℕ) → n ≡ length rs → slice_range rs 0 n ≡ rs
slice-all rs n h = take_all (n - 0) rs (omega (arith, h))

module _ {Y : Type 0} (gives : NamedRecord → List Y) (rs : List NamedRecord) where
  gives-more : (from number : ℕ) → from ≤ number → number < length rs
      → flat_map gives (slice_range rs from (number + 1)) ≡ flat_map gives (slice_range rs from number) ++ gives (nth_named rs number)
  gives-more from number order h =
      ap (flat_map gives) (slice-more rs from number order h)
      ∙ flat_map-append gives (slice_range rs from number) (nth_named rs number ∷ [])
      ∙ ap (λ (l : List Y). flat_map gives (slice_range rs from number) ++ l) (append-nil (gives (nth_named rs number)))

  pub gives-join : (from at end : ℕ) → from ≤ at → at ≤ end
      → flat_map gives (slice_range rs from end) ≡ flat_map gives (slice_range rs from at) ++ flat_map gives (slice_range rs at end)
  gives-join from at end before behind =
      ap (flat_map gives) (slice-join rs from at end before behind) ∙ flat_map-append gives (slice_range rs from at) (slice_range rs at end)

module _ (skips : List RecordName) (rs : List NamedRecord) where
  -- one more record is mapped, unless it is left out
  pub mapped-more : (from number : ℕ) → from ≤ number → number < length rs
      → mapped_among skips (slice_range rs from (number + 1)) ≡ mapped_among skips (slice_range rs from number) + cond (is_left_out skips (nth_named rs number).name) 0 1
  mapped-more from number order h =
      let r : NamedRecord = nth_named rs number in
      ap (mapped_among skips) (slice-more rs from number order h)
      ∙ mapped-append skips (slice_range rs from number) (r ∷ [])
      ∙ ap (λ (k : ℕ). mapped_among skips (slice_range rs from number) + k)
      (elim (is_left_out skips r.name) as (λ b. length (cond (not b) (r ∷ []) []) ≡ cond b 0 1) [ true ↦ refl | false ↦ refl ])

  -- no more are mapped before one record than before a later one
  pub mapped-part : (from at end : ℕ) → from ≤ at → at ≤ end → mapped_among skips (slice_range rs from at) ≤ mapped_among skips (slice_range rs from end)
  mapped-part from at end before behind =
      omega (arith, ap (mapped_among skips) (slice-join rs from at end before behind), mapped-append skips (slice_range rs from at) (slice_range rs at end))

-- what a part of the records gives fits, where all does
pub fits-slice : (gives : NamedRecord → List Emission) (rs : List NamedRecord) (from end : ℕ) → Fits (flat_map gives rs) → Fits (flat_map gives (slice_range rs from end))
fits-slice gives rs from end h =
    let g : List NamedRecord → List Emission = flat_map gives in
    let inner : List NamedRecord = slice_range rs from end in
    let after : List NamedRecord = drop (end - from) (drop from rs) in
    let all : g rs ≡ g (take from rs) ++ g (drop from rs) = ap g (sym (take-append-drop from rs)) ∙ flat_map-append gives (take from rs) (drop from rs) in
    let behind : g (drop from rs) ≡ g inner ++ g after = ap g (sym (take-append-drop (end - from) (drop from rs))) ∙ flat_map-append gives inner after in
    let size : Emission → ℕ = λ (e : Emission). length e.0 in (
      omega (arith, h.0, ap length all, length-append (g (take from rs)) (g (drop from rs)), ap length behind, length-append (g inner) (g after)),
      omega (
        arith,
        h.1,
        ap keys_size all,
        sum_by-append size (g (take from rs)) (g (drop from rs)),
        ap keys_size behind,
        sum_by-append size (g inner) (g after),
      ),
    )

-- each record of the split is a line of its file
pub split-stands : (cut : Cut) (split number : ℕ) → number < length (of_split split (records_of cut)) → Stands cut.files (nth_named (of_split split (records_of cut)) number)
unfolding none
split-stands cut split number h =
    All-filter (λ (r : NamedRecord). eqb r.name.split split) (Stands cut.files) (records_of cut) (records-stand cut.size cut.files) number none h

-- ---- a window as it is mapped

module _ (job : JobSpec) (choice : Choice) (split : ℕ) where
  -- what the records of the split give fits, where an input has the files
  pub fits-split : (files : List (List ℕ)) → files ≡ choice.cut.files → length files ≤ 1024 → total_size files ≤ 2 ^ 30
      → Fits (flat_map (kept_pairs job choice.skips) (of_split split (records_of choice.cut)))
  fits-split files same few small =
      split-fits job choice.skips split choice.cut.size choice.cut.files (omega (arith, few, ap length same))
      (subst (λ (fs : List (List ℕ)). total_size fs ≤ 1073741824) same small)

  pub shows-none : (from : ℕ) (ends : List ℕ) (pairs : List Emission) → ends ≡ [] → pairs ≡ [] → Shows (piece_of job choice split from from) ends pairs
  unfolding numbered
  shows-none from ends pairs a b =
      let rs : List NamedRecord = of_split split (records_of choice.cut) in
      subst (λ (l : List ℕ). Shows (piece_of job choice split from from) l pairs) (sym a)
      (subst (λ (es : List Emission). Shows (piece_of job choice split from from) [] es) (sym b)
      (record {
        rise = refl;
        few = omega arith;
        pairs = sym (ap (flat_map (kept_pairs job choice.skips)) (slice-none rs from));
        triples = sym (ap (flat_map (record_triples job choice.skips)) (slice-none rs from));
      }))

  -- a record that is left out
  pub shows-left : (from number : ℕ) (ends : List ℕ) (pairs : List Emission) → from ≤ number → number < length (of_split split (records_of choice.cut))
      → is_left_out choice.skips (nth_named (of_split split (records_of choice.cut)) number).name ≡ true → Shows (piece_of job choice split from number) ends pairs
      → Shows (piece_of job choice split from (number + 1)) ends pairs
  shows-left from number ends pairs order within left s =
      let rs : List NamedRecord = of_split split (records_of choice.cut) in
      let r : NamedRecord = nth_named rs number in
      let k : NamedRecord → List Emission = kept_pairs job choice.skips in
      let t : NamedRecord → List Triple = record_triples job choice.skips in
      record {
        rise = s.rise;
        few = omega (arith, s.few);
        pairs = s.pairs ∙ sym (append-nil (flat_map k (slice_range rs from number)))
            ∙ ap (λ (l : List Emission). flat_map k (slice_range rs from number) ++ l) (sym (left-pairs job choice.skips r left))
            ∙ sym (gives-more k rs from number order within);
        triples = s.triples ∙ sym (append-nil (flat_map t (slice_range rs from number)))
            ∙ ap (λ (l : List Triple). flat_map t (slice_range rs from number) ++ l) (sym (left-triples job choice.skips r left))
            ∙ sym (gives-more t rs from number order within);
      }

  -- the pairs with those of a kept record
  next-pairs : (from number : ℕ) (ends : List ℕ) (pairs : List Emission) → from ≤ number → number < length (of_split split (records_of choice.cut))
      → is_left_out choice.skips (nth_named (of_split split (records_of choice.cut)) number).name ≡ false → Shows (piece_of job choice split from number) ends pairs
      → pairs ++ record_pairs job (nth_named (of_split split (records_of choice.cut)) number) ≡ flat_map (kept_pairs job choice.skips) (slice_range (of_split split (records_of choice.cut)) from (number + 1))
  next-pairs from number ends pairs order within kept s =
      let rs : List NamedRecord = of_split split (records_of choice.cut) in
      let r : NamedRecord = nth_named rs number in
      let k : NamedRecord → List Emission = kept_pairs job choice.skips in
      let gave : k r ≡ record_pairs job r = ap (λ b. cond b [] (record_pairs job r)) kept in
      ap (λ (l : List Emission). l ++ record_pairs job r) s.pairs
      ∙ ap (λ (l : List Emission). flat_map k (slice_range rs from number) ++ l) (sym gave)
      ∙ sym (gives-more k rs from number order within)

  -- they fit
  pub next-fits : (from number : ℕ) (ends : List ℕ) (pairs : List Emission) → from ≤ number → number < length (of_split split (records_of choice.cut))
      → is_left_out choice.skips (nth_named (of_split split (records_of choice.cut)) number).name ≡ false → Shows (piece_of job choice split from number) ends pairs
      → Fits (flat_map (kept_pairs job choice.skips) (of_split split (records_of choice.cut))) → Fits (pairs ++ record_pairs job (nth_named (of_split split (records_of choice.cut)) number))
  next-fits from number ends pairs order within kept s fits =
      subst Fits (sym (next-pairs from number ends pairs order within kept s)) (fits-slice (kept_pairs job choice.skips) (of_split split (records_of choice.cut)) from (number + 1) fits)

  -- a record that is kept
  pub shows-next : (from number : ℕ) (ends ends' : List ℕ) (pairs pairs' : List Emission) → from ≤ number → number < length (of_split split (records_of choice.cut))
      → is_left_out choice.skips (nth_named (of_split split (records_of choice.cut)) number).name ≡ false
      → (nth_named (of_split split (records_of choice.cut)) number).name ≡ record { split = split; rec = number } → Shows (piece_of job choice split from number) ends pairs
      → pairs' ≡ pairs ++ record_pairs job (nth_named (of_split split (records_of choice.cut)) number) → ends' ≡ ended (number - from) (length pairs) (length pairs') ends
      → Shows (piece_of job choice split from (number + 1)) ends' pairs'
  shows-next from number ends ends' pairs pairs' order within kept named s grown ends-are =
      let rs : List NamedRecord = of_split split (records_of choice.cut) in
      let r : NamedRecord = nth_named rs number in
      let t : NamedRecord → List Triple = record_triples job choice.skips in
      let place : number ≡ from + (number - from) = omega arith in
      let name : r.name ≡ record { split = split; rec = from + (number - from) } = named ∙ ap (λ (i : ℕ). record { split = split; rec = i }) place in
      let after = end-next split from (number - from) r.name ends ends' pairs (record_pairs job r) pairs' (omega (arith, s.few)) s.rise name grown ends-are in
      let gave : t r ≡ placed_from r.name 0 (record_pairs job r) = ap (λ b. cond b [] (placed_from r.name 0 (record_pairs job r))) kept in
      record {
        rise = after.rise;
        few = omega (arith, after.few);
        pairs = grown ∙ next-pairs from number ends pairs order within kept s;
        triples = after.shows ∙ ap (λ (ts : List Triple). ts ++ placed_from r.name 0 (record_pairs job r)) s.triples
            ∙ ap (λ (ts : List Triple). flat_map t (slice_range rs from number) ++ ts) (sym gave)
            ∙ sym (gives-more t rs from number order within);
      }
