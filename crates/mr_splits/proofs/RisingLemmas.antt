-- The names of records rise.
use Rattle.std.proofs.Common.{◌≡◌, ℕ, ◌+◌, ◌-◌, ◌/◌, ◌<◌, ◌≤◌, ◌⊎◌, cond, eqb, List, [], ◌∷◌, ◌++◌, length, refl, sym, ◌∙◌, ap, subst, arith, inl, inr, map}
use Rattle.std.proofs.lemmas.Bool.{cases_eq, eq-eqb, lt-ltb, le-ltb}
use Rattle.std.specs.List.{AllByRecursion}
use Rattle.std.specs.Ordering.{nat_cmp, ordering_then}
use Rattle.std.specs.declared.cmp.Ordering.TheVariants.{Less, Equal, Greater}
use Rattle.mr_bytes.specs.Lists.{Rises}
use Rattle.mr_bytes.specs.Order.{record_order}
use Rattle.mr_bytes.specs.declared.RecordName.{RecordName}
use Rattle.mr_records.specs.Records.{Record, records}
use Rattle.mr_input.specs.Files.{split_count}
use Rattle.mr_splits.specs.Named.{NamedRecord, named_from, named_files, named_records}
use Rattle.mr_splits.specs.Laws.{NamesOfRecordsRise}
use Rattle.mr_splits.proofs.StartLemmas.{StartsIn, starts-file, div-rises, div-within}

-- the name is not before the record `r` of the split `s`
abbrev pub AtLeast : ℕ → ℕ → RecordName → Type 0
AtLeast s r n = (s < n.split) ⊎ ((s ≡ n.split) × (r ≤ n.rec))

-- each name is past the one before it, and the first is not below the given one
abbrev pub RisesFrom : ℕ → ℕ → List NamedRecord → Type 0
RisesFrom s r [] = Unit {0}
RisesFrom s r (x ∷ xs) = AtLeast s r x.name × RisesFrom x.name.split (x.name.rec + 1) xs

pub at_least-trans : (s r : ℕ) (m n : RecordName) → AtLeast s r m → AtLeast m.split m.rec n → AtLeast s r n
at_least-trans s r m n a b =
    elim a [
      | inl lt ↦ elim b [
        | inl more ↦ inl (omega (arith, lt, more))
        | inr same ↦ inl (omega (arith, lt, same.0))
      ]
      | inr e ↦ elim b [
        | inl more ↦ inl (omega (arith, e.0, more))
        | inr f ↦ inr (omega (arith, e.0, f.0), omega (arith, e.1, f.1))
      ]
    ]

abbrev name_at : ℕ → ℕ → RecordName
name_at s r = record { split = s; rec = r }

weaken : (s r s' r' : ℕ) (xs : List NamedRecord) → AtLeast s r (name_at s' r') → RisesFrom s' r' xs → RisesFrom s r xs
weaken s r s' r' [] below h = tt
weaken s r s' r' (x ∷ xs) below h = (at_least-trans s r (name_at s' r') x.name below h.0, h.1)

-- the number of a record goes on in its split, and begins anew in a later one
next-name : (split next here : ℕ) → split ≤ here → AtLeast split next (name_at here (cond (eqb here split) next 0))
next-name split next here h =
    elim (cases_eq here split) [
      | inl e ↦ subst (λ t. AtLeast split next (name_at here (cond t next 0))) (sym (eq-eqb here split e)) (inr (sym e, omega arith))
      | inr ne ↦ inl (omega (arith, h, ne))
    ]

named-rises : (size file first split next low high limit : ℕ) (rs : List Record) (rest : List NamedRecord)
    → 0 < size → StartsIn low high rs → split ≤ first + low / size → first + (high + size - 1) / size ≤ limit
    → RisesFrom limit 0 rest → RisesFrom split next rest
    → RisesFrom split next (named_from size file first split next rs ++ rest)
unfolding named_from
named-rises size file first split next low high limit [] rest some starts order room far near = near
named-rises size file first split next low high limit (r ∷ rs) rest some starts order room far near =
    let here : ℕ = first + r.start / size in
    let number : ℕ = cond (eqb here split) next 0 in
    let inside : here < limit = omega (arith, div-within size r.start high some starts.1, room) in
    let up : split ≤ here = omega (arith, order, div-rises size low r.start some starts.0) in (
      next-name split next here up,
      named-rises size file first here (number + 1) (r.start + 1) high limit rs rest some starts.2
          (omega (arith, div-rises size r.start (r.start + 1) some (omega arith))) room far
          (weaken here (number + 1) limit 0 rest (inl inside) far),
    )

at_least-later : (a b : ℕ) → a ≤ b → AtLeast a 0 (name_at b 0)
at_least-later a b h =
    elim (cases_eq a b) [
      | inl e ↦ inr (e, omega arith)
      | inr ne ↦ inl (omega (arith, h, ne))
    ]

pub files-rise : (size file first : ℕ) (files : List (List ℕ)) → 0 < size → RisesFrom first 0 (named_files size file first files)
unfolding named_files
files-rise size file first [] some = tt
files-rise size file first (f ∷ fs) some =
    let limit : ℕ = first + split_count size f in
    let rest : List NamedRecord = named_files size (file + 1) limit fs in
    let far : RisesFrom limit 0 rest = files-rise size (file + 1) limit fs some in
    named-rises size file first first 0 0 (length f) limit (records f) rest some (starts-file f) (omega arith) (omega arith) far
    (weaken first 0 limit 0 rest (at_least-later first limit (omega arith)) far)

less : (a b : ℕ) → a < b → nat_cmp a b ≡ Less
less a b h = ap (λ t. cond t Less (cond (eqb a b) Equal Greater)) (lt-ltb a b h)

equal : (a b : ℕ) → a ≡ b → nat_cmp a b ≡ Equal
equal a b e =
    ap (λ t. cond t Less (cond (eqb a b) Equal Greater)) (le-ltb a b (omega (arith, e)))
    ∙ ap (λ t. cond t Equal Greater) (eq-eqb a b e)

past-less : (m n : RecordName) → AtLeast m.split (m.rec + 1) n → record_order m n ≡ Less
past-less m n h =
    elim h [
      | inl lt ↦ ap (λ o. ordering_then o (nat_cmp m.rec n.rec)) (less m.split n.split lt)
      | inr e ↦ ap (λ o. ordering_then o (nat_cmp m.rec n.rec)) (equal m.split n.split e.0) ∙ less m.rec n.rec (omega (arith, e.1))
    ]

all-past : (m : RecordName) (s r : ℕ) (xs : List NamedRecord) → AtLeast m.split (m.rec + 1) (name_at s r) → RisesFrom s r xs
    → AllByRecursion (λ n. record_order m n ≡ Less) (map (λ (x : NamedRecord). x.name) xs)
all-past m s r [] below h = tt
all-past m s r (x ∷ xs) below h =
    let here : AtLeast m.split (m.rec + 1) x.name = at_least-trans m.split (m.rec + 1) (name_at s r) x.name below h.0 in (
      past-less m x.name here,
      all-past m x.name.split (x.name.rec + 1) xs
          (at_least-trans m.split (m.rec + 1) x.name (name_at x.name.split (x.name.rec + 1)) here (inr (refl, omega arith))) h.1,
    )

rises : (s r : ℕ) (xs : List NamedRecord) → RisesFrom s r xs → Rises record_order (map (λ (x : NamedRecord). x.name) xs)
rises s r [] h = tt
rises s r (x ∷ xs) h =
    (all-past x.name x.name.split (x.name.rec + 1) xs (inr (refl, omega arith)) h.1, rises x.name.split (x.name.rec + 1) xs h.1)

pub names-rise : NamesOfRecordsRise
names-rise size files some = rises 0 0 (named_records size files) (files-rise size 0 0 files some)
