-- Parts, and all of them one after another.
use Rattle.std.proofs.Common.{◌≡◌, ◌⊎◌, ◌==◌, ℕ, zero, suc, ◌+◌, ◌-◌, ◌<◌, ◌≤◌, true, false, not, cond, Some, None, List, [], ◌∷◌, ◌++◌, length, get_or, refl, sym, ◌∙◌, ap, subst, arith, inl, inr, length-append}
use Rattle.std.proofs.lemmas.Bool.{cases_eq, cases_lt, eq-eqb, ne_eqb}
use Rattle.std.proofs.lemmas.List.{get_or_append_left, length_push}
use Rattle.std.proofs.Math.Seq.{get_or-append_seam}
use Rattle.std.proofs.lemmas.List.Elements.{filter-append}
use Rattle.std.proofs.lemmas.List.Folds.{find-append}
use Rattle.std.proofs.lemmas.Grind.{flat_map-append}
use Rattle.std.specs.Prelude.{Result, Ok, Err, OnErr}
use Rattle.std.specs.Option.{option_or}
use Rattle.std.specs.List.{AllByRecursion, flat_map}
use Rattle.mr_bytes.specs.declared.Name.{Name}
use Rattle.mr_bytes.specs.declared.RecordName.{RecordName}
use Rattle.mr_bytes.specs.Pairs.{Triple}
use Rattle.mr_input.specs.Files.{split_total}
use Rattle.mr_jobs.specs.JobSpec.{JobSpec}
use Rattle.mr_jobs.specs.Emissions.{Emission, emissions}
use Rattle.mr_splits.specs.Named.{NamedRecord, is_left_out, of_split}
use Rattle.mr_splits.specs.Cut.{Cut, records_of}
use Rattle.mr_splits.specs.Kept.{kept_records}
use Rattle.mr_splits.specs.Laws.{joined_splits}
use Rattle.mr_splits.proofs.JoinedLemmas.{joined-zero, joined-suc, splits-join}
use Rattle.mr_sequential.specs.Emitted.{placed_from, record_triples}
use Rattle.mr_sequential.specs.Good.{has_name, named}
use Rattle.mr_index.specs.Index.{triples_of, triples_in, mapped_among, AreParts}
use Rattle.mr_index.specs.Building.{joined, AreApart}
use Rattle.mr_index.proofs.NumberedLemmas.{or-none, test-other}

-- ---- the triples of a split, record by record

in-placed : (split : ℕ) (name : RecordName) (place : ℕ) (es : List Emission)
    → triples_in split (placed_from name place es) ≡ cond (name.split == split) (placed_from name place es) []
unfolding placed_from
in-placed split name place [] = elim (name.split == split) as (λ b. ◌≡◌ {A = List Triple} [] (cond b [] [])) [ true ↦ refl | false ↦ refl ]
in-placed split name place (e ∷ es) =
    let t : Triple = record { key = e.0; value = e.1; name = record { split = name.split; rec = name.rec; place = place } } in
    let rest : List Triple = placed_from name (place + 1) es in
    ap (λ (l : List Triple). cond (name.split == split) (t ∷ l) l) (in-placed split name (place + 1) es)
    ∙ (elim (name.split == split) as (λ b. cond b (t ∷ cond b rest []) (cond b rest []) ≡ cond b (t ∷ rest) []) [ true ↦ refl | false ↦ refl ])

in-record : (job : JobSpec) (skips : List RecordName) (split : ℕ) (r : NamedRecord)
    → triples_in split (record_triples job skips r) ≡ cond (r.name.split == split) (record_triples job skips r) []
in-record job skips split r =
    let ts : List Triple = placed_from r.name 0 (emissions job r.file r.start r.bytes) in
    elim (is_left_out skips r.name) as (λ b. triples_in split (cond b [] ts) ≡ cond (r.name.split == split) (cond b [] ts) []) [
      | true ↦ elim (r.name.split == split) as (λ b. ◌≡◌ {A = List Triple} [] (cond b [] [])) [ true ↦ refl | false ↦ refl ]
      | false ↦ in-placed split r.name 0 (emissions job r.file r.start r.bytes)
    ]

-- what the records of the split give
pub in-split : (job : JobSpec) (skips : List RecordName) (split : ℕ) (rs : List NamedRecord)
    → triples_in split (flat_map (record_triples job skips) rs) ≡ flat_map (record_triples job skips) (of_split split rs)
in-split job skips split [] = refl
in-split job skips split (r ∷ rs) =
    let gives : List Triple = record_triples job skips r in
    let others : List NamedRecord = of_split split rs in
    filter-append (λ (t : Triple). t.name.split == split) gives (flat_map (record_triples job skips) rs)
    ∙ ap (λ (l : List Triple). l ++ triples_in split (flat_map (record_triples job skips) rs)) (in-record job skips split r)
    ∙ ap (λ (l : List Triple). cond (r.name.split == split) gives [] ++ l) (in-split job skips split rs)
    ∙ (elim (r.name.split == split) as (λ b. cond b gives [] ++ flat_map (record_triples job skips) others ≡ flat_map (record_triples job skips) (cond b (r ∷ others) others)) [ true ↦ refl | false ↦ refl ])

-- ---- all parts

joined-from : (gives : NamedRecord → List Triple) (rs : List NamedRecord) (low : ℕ) (parts : List (List Triple))
    → ((s : ℕ) → s < length parts → get_or parts s [] ≡ flat_map gives (of_split (low + s) rs)) → joined parts ≡ flat_map gives (joined_splits low (length parts) rs)
joined-from gives rs low [] each = ap (flat_map gives) (sym (joined-zero low rs))
joined-from gives rs low (p ∷ parts) each =
    let here : low + 0 ≡ low = omega arith in
    ap (λ (l : List Triple). l ++ joined parts) (each 0 (omega arith) ∙ ap (λ (s : ℕ). flat_map gives (of_split s rs)) here)
    ∙ ap (λ (l : List Triple). flat_map gives (of_split low rs) ++ l)
    (joined-from gives rs (low + 1) parts
    (λ s h. each (suc s) (omega (arith, h)) ∙ ap (λ (k : ℕ). flat_map gives (of_split k rs)) (omega arith)))
    ∙ sym (flat_map-append gives (of_split low rs) (joined_splits (low + 1) (length parts) rs))
    ∙ ap (flat_map gives) (sym (joined-suc low (length parts) rs))

-- the parts, one after another, are all that is emitted
pub joined-all : (job : JobSpec) (cut : Cut) (skips : List RecordName) (parts : List (List Triple)) → AreParts job cut skips parts
    → joined parts ≡ triples_of job cut skips
joined-all job cut skips parts are =
    let rs : List NamedRecord = records_of cut in
    let gives : NamedRecord → List Triple = record_triples job skips in
    joined-from gives rs 0 parts (λ s h. are.each s h ∙ in-split job skips s rs ∙ ap (λ (k : ℕ). flat_map gives (of_split k rs)) (omega arith))
    ∙ ap (λ (n : ℕ). flat_map gives (joined_splits 0 n rs)) are.one_each
    ∙ ap (flat_map gives) (splits-join cut.size cut.files are.size)

all-in : (split : ℕ) (ts : List Triple) → AllByRecursion (λ (t : Triple). t.name.split ≡ split) (triples_in split ts)
all-in split [] = tt
all-in split (t ∷ ts) =
    elim (cases_eq t.name.split split) [
      | inl same ↦
          subst (AllByRecursion (λ (u : Triple). u.name.split ≡ split))
          (sym (ap (λ b. cond b (t ∷ triples_in split ts) (triples_in split ts)) (eq-eqb t.name.split split same))) (same, all-in split ts)
      | inr other ↦
          subst (AllByRecursion (λ (u : Triple). u.name.split ≡ split))
          (sym (ap (λ b. cond b (t ∷ triples_in split ts) (triples_in split ts)) (ne_eqb t.name.split split other))) (all-in split ts)
    ]

apart-from : (ts : List Triple) (low : ℕ) (parts : List (List Triple)) → ((s : ℕ) → s < length parts → get_or parts s [] ≡ triples_in (low + s) ts)
    → AreApart low parts
apart-from ts low [] each = tt
apart-from ts low (p ∷ parts) each = (
  subst (AllByRecursion (λ (t : Triple). t.name.split ≡ low))
      (sym (each 0 (omega arith) ∙ ap (λ (s : ℕ). triples_in s ts) (omega arith))) (all-in low ts),
  apart-from ts (low + 1) parts (λ s h. each (suc s) (omega (arith, h)) ∙ ap (λ (k : ℕ). triples_in k ts) (omega arith)),
)

-- each has triples of its split alone
pub parts-apart : (job : JobSpec) (cut : Cut) (skips : List RecordName) (parts : List (List Triple)) → AreParts job cut skips parts → AreApart 0 parts
parts-apart job cut skips parts are = apart-from (triples_of job cut skips) 0 parts (λ s h. are.each s h ∙ ap (λ (k : ℕ). triples_in k (triples_of job cut skips)) (omega arith))

-- ---- a look-up in all parts

named-other : (split : ℕ) (ts : List Triple) (n : Name) → AllByRecursion (λ (t : Triple). t.name.split ≡ split) ts → (n.split ≡ split → ⊥) → named ts n ≡ None
named-other split [] n all other = refl
named-other split (t ∷ ts) n all other =
    ap (λ b. cond b (Some t) (named ts n)) (test-other n t (λ e. other (sym e ∙ all.0)))
    ∙ named-other split ts n all.1 other

-- none, where there is no part of its split
pub named-past : (low : ℕ) (parts : List (List Triple)) (n : Name) → AreApart low parts → ◌⊎◌ (n.split < low) (low + length parts ≤ n.split) → named (joined parts) n ≡ None
named-past low [] n apart past = refl
named-past low (p ∷ parts) n apart past =
    let more : ◌⊎◌ (n.split < low + 1) (low + 1 + length parts ≤ n.split) = elim past [ inl h ↦ inl (omega (arith, h)) | inr h ↦ inr (omega (arith, h)) ] in
    let other : n.split ≡ low → ⊥ = λ e. elim past [ inl h ↦ omega (arith, h, e) | inr h ↦ omega (arith, h, e) ] in
    find-append (has_name n) p (joined parts)
    ∙ ap (λ o. option_or o (named (joined parts) n)) (named-other low p n apart.0 other)
    ∙ named-past (low + 1) parts n apart.1 more

-- what the part of its split has
pub named-in : (low : ℕ) (parts : List (List Triple)) (n : Name) (i : ℕ) → AreApart low parts → i < length parts → n.split ≡ low + i
    → named (joined parts) n ≡ named (get_or parts i []) n
named-in low [] n i apart h is = absurd (omega arith)
named-in low (p ∷ parts) n zero apart h is =
    find-append (has_name n) p (joined parts)
    ∙ ap (option_or (named p n)) (named-past (low + 1) parts n apart.1 (inl (omega (arith, is))))
    ∙ or-none (named p n)
named-in low (p ∷ parts) n (suc i) apart h is =
    find-append (has_name n) p (joined parts)
    ∙ ap (λ o. option_or o (named (joined parts) n)) (named-other low p n apart.0 (λ e. omega (arith, is, e)))
    ∙ named-in (low + 1) parts n i apart.1 (omega (arith, h)) (omega (arith, is))

-- ---- how many records are mapped, and pairs emitted

pub mapped-append : (skips : List RecordName) (xs ys : List NamedRecord) → mapped_among skips (xs ++ ys) ≡ mapped_among skips xs + mapped_among skips ys
mapped-append skips xs ys =
    ap length (filter-append (λ (r : NamedRecord). not (is_left_out skips r.name)) xs ys)
    ∙ length-append (kept_records skips xs) (kept_records skips ys)

-- none of the splits is done
pub mapped-first : (skips : List RecordName) (cut : Cut) (total : ℕ) → 0 < cut.size → total ≡ split_total cut.size cut.files
    → mapped_among skips (joined_splits 0 (total - 0) (records_of cut)) ≡ mapped_among skips (records_of cut)
mapped-first skips cut total some is =
    let all : total - 0 ≡ split_total cut.size cut.files = omega (arith, is) in
    ap (λ (k : ℕ). mapped_among skips (joined_splits 0 k (records_of cut))) all ∙ ap (mapped_among skips) (splits-join cut.size cut.files some)

-- one more is
pub mapped-step : (skips : List RecordName) (low total : ℕ) (rs : List NamedRecord) → low < total
    → mapped_among skips (joined_splits low (total - low) rs) ≡ mapped_among skips (of_split low rs) + mapped_among skips (joined_splits (low + 1) (total - (low + 1)) rs)
mapped-step skips low total rs h =
    let left : total - low ≡ suc (total - (low + 1)) = omega (arith, h) in
    ap (λ (k : ℕ). mapped_among skips (joined_splits low k rs)) left
    ∙ ap (mapped_among skips) (joined-suc low (total - (low + 1)) rs)
    ∙ mapped-append skips (of_split low rs) (joined_splits (low + 1) (total - (low + 1)) rs)

-- all are
pub mapped-last : (skips : List RecordName) (low total : ℕ) (rs : List NamedRecord) → total ≤ low → mapped_among skips (joined_splits low (total - low) rs) ≡ 0
mapped-last skips low total rs h =
    let none : total - low ≡ 0 = omega (arith, h) in
    ap (λ (k : ℕ). mapped_among skips (joined_splits low k rs)) none ∙ ap (mapped_among skips) (joined-zero low rs)

-- one more part, at its place
pub each-push : (ts : List Triple) (parts more : List (List Triple)) (p : List Triple) → more ≡ parts ++ p ∷ [] → p ≡ triples_in (length parts) ts
    → ((s : ℕ) → s < length parts → get_or parts s [] ≡ triples_in s ts) → (s : ℕ) → s < length more → get_or more s [] ≡ triples_in s ts
each-push ts parts more p grown is each s h =
    ap (λ (l : List (List Triple)). get_or l s []) grown
    ∙ elim (cases_lt s (length parts)) [
      | inl lt ↦ get_or_append_left parts (p ∷ []) [] s lt ∙ each s lt
      | inr past ↦
          let last : s ≡ length parts = omega (arith, h, ap length grown, length_push parts p, past) in
          ap (λ (k : ℕ). get_or (parts ++ p ∷ []) k []) last ∙ get_or-append_seam parts p [] [] ∙ is ∙ ap (λ (k : ℕ). triples_in k ts) (sym last)
    ]

-- what is so where it matters is so
pub on_err : {T E : Type 0} (r : Result T E) (P : Type 0) → P → OnErr r P
on_err (Ok x) P p = tt
on_err (Err y) P p = p
