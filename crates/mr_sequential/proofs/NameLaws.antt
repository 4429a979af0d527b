-- The names of all triples rise.
use Rattle.std.proofs.Common.{◌≡◌, ℕ, ◌+◌, ◌<◌, ◌≤◌, Bool, true, false, cond, List, [], ◌∷◌, ◌++◌, refl, sym, ◌∙◌, ap, subst, arith, inl, inr, map, eqb}
use Rattle.std.proofs.lemmas.Bool.{lt-ltb}
use Rattle.std.proofs.lemmas.List.{map-append}
use Rattle.std.proofs.lemmas.Cmp.{nat_cmp_total, tied_itself}
use Rattle.std.specs.declared.cmp.Ordering.{Ordering}
use Rattle.std.specs.declared.cmp.Ordering.TheVariants.{Less, Equal, Greater}
use Rattle.std.specs.List.{flat_map}
use Rattle.std.specs.Ordering.{nat_cmp, ordering_then}
use Rattle.mr_bytes.specs.declared.Name.{Name}
use Rattle.mr_bytes.specs.declared.RecordName.{RecordName}
use Rattle.mr_bytes.specs.Lists.{Has, Rises}
use Rattle.mr_bytes.specs.Order.{name_order, record_order}
use Rattle.mr_jobs.specs.JobSpec.{JobSpec}
use Rattle.mr_jobs.specs.Emissions.{Emission, emissions}
use Rattle.mr_splits.specs.Named.{NamedRecord, is_left_out, named_records}
use Rattle.mr_splits.proofs.RisingLemmas.{names-rise}
use Rattle.mr_bytes.specs.Pairs.{Triple}
use Rattle.mr_sequential.specs.Emitted.{placed_from, record_triples}
use Rattle.mr_sequential.specs.Laws.{NamesRise}
use Rattle.mr_bytes.proofs.ListLaws.{Has-all, all_from_Has, Has-append_cases}

pub less : (m n : ℕ) → m < n → nat_cmp m n ≡ Less
less m n h = ap (λ t. cond t Less (cond (eqb m n) Equal Greater)) (lt-ltb m n h)

then3 : (o q m : Ordering) → ordering_then o q ≡ Less → ordering_then o (ordering_then q m) ≡ Less
then3 Less q m h = refl
then3 Equal Less m h = refl
then3 Equal Equal m h = cc
then3 Equal Greater m h = cc
then3 Greater q m h = cc

-- the name is of the record
record IsOf (a : RecordName) (n : Name) : Type 0 where
  pub split : n.split ≡ a.split
  pub rec : n.rec ≡ a.rec

apart : (a b : RecordName) (m n : Name) → record_order a b ≡ Less → IsOf a m → IsOf b n → name_order m n ≡ Less
apart a b m n h x y =
    let here : ordering_then (nat_cmp m.split n.split) (nat_cmp m.rec n.rec) ≡ Less =
    ap (λ s. ordering_then (nat_cmp s n.split) (nat_cmp m.rec n.rec)) x.split
    ∙ ap (λ s. ordering_then (nat_cmp a.split s) (nat_cmp m.rec n.rec)) y.split
    ∙ ap (λ r. ordering_then (nat_cmp a.split b.split) (nat_cmp r n.rec)) x.rec
    ∙ ap (λ r. ordering_then (nat_cmp a.split b.split) (nat_cmp a.rec r)) y.rec ∙ h in
    then3 (nat_cmp m.split n.split) (nat_cmp m.rec n.rec) (nat_cmp m.place n.place) here

within : (a : RecordName) (m n : Name) → IsOf a m → IsOf a n → m.place < n.place → name_order m n ≡ Less
within a m n x y h =
    ap (λ o. ordering_then o (ordering_then (nat_cmp m.rec n.rec) (nat_cmp m.place n.place)))
    (ap (λ s. nat_cmp m.split s) (y.split ∙ sym x.split) ∙ tied_itself nat_cmp_total m.split)
    ∙ ap (λ o. ordering_then o (nat_cmp m.place n.place)) (ap (λ r. nat_cmp m.rec r) (y.rec ∙ sym x.rec) ∙ tied_itself nat_cmp_total m.rec)
    ∙ less m.place n.place h

placed-Has : (a : RecordName) (p : ℕ) (es : List Emission) (n : Name) → Has (map (λ (t : Triple). t.name) (placed_from a p es)) n → IsOf a n × (p ≤ n.place)
unfolding placed_from
placed-Has a p [] n h = absurd h
placed-Has a p (e ∷ es) n (inl is) =
    (record { split = ap (λ (m : Name). m.split) (sym is); rec = ap (λ (m : Name). m.rec) (sym is) }, omega (arith, ap (λ (m : Name). m.place) is))
placed-Has a p (e ∷ es) n (inr h) = let r = placed-Has a (p + 1) es n h in (r.0, omega (arith, r.1))

placed-rises : (a : RecordName) (p : ℕ) (es : List Emission) → Rises name_order (map (λ (t : Triple). t.name) (placed_from a p es))
unfolding placed_from
placed-rises a p [] = tt
placed-rises a p (e ∷ es) =
    let first : Name = record { split = a.split; rec = a.rec; place = p } in (
      all_from_Has (λ n. name_order first n ≡ Less) (map (λ (t : Triple). t.name) (placed_from a (p + 1) es))
          (λ n h. (let r = placed-Has a (p + 1) es n h in within a first n (record { split = refl; rec = refl }) r.0 (omega (arith, r.1)))),
      placed-rises a (p + 1) es,
    )

record-Has : (job : JobSpec) (skips : List RecordName) (r : NamedRecord) (n : Name) → Has (map (λ (t : Triple). t.name) (record_triples job skips r)) n → IsOf r.name n
record-Has job skips r n h = by (is_left_out skips r.name) h
  where
    by : (b : Bool) → Has (map (λ (t : Triple). t.name) (cond b [] (placed_from r.name 0 (emissions job r.file r.start r.bytes)))) n → IsOf r.name n
    by true h = absurd h
    by false h = (placed-Has r.name 0 (emissions job r.file r.start r.bytes) n h).0

record-rises : (job : JobSpec) (skips : List RecordName) (r : NamedRecord) → Rises name_order (map (λ (t : Triple). t.name) (record_triples job skips r))
record-rises job skips r =
    elim (is_left_out skips r.name) as (λ b. Rises name_order (map (λ (t : Triple). t.name) (cond b [] (placed_from r.name 0 (emissions job r.file r.start r.bytes))))) [
      | true ↦ tt
      | false ↦ placed-rises r.name 0 (emissions job r.file r.start r.bytes)
    ]

rises-append : (xs ys : List Name) → Rises name_order xs → Rises name_order ys → ((x y : Name) → Has xs x → Has ys y → name_order x y ≡ Less) → Rises name_order (xs ++ ys)
rises-append [] ys r s f = s
rises-append (x ∷ xs) ys r s f = (
  all_from_Has (λ n. name_order x n ≡ Less) (xs ++ ys)
      (λ n h. elim (Has-append_cases xs ys n h) [
        | inl a ↦ Has-all (λ m. name_order x m ≡ Less) xs n r.0 a
        | inr b ↦ f x n (inl refl) b
      ]),
  rises-append xs ys r.1 s (λ a b h g. f a b (inr h) g),
)

all-Has : (job : JobSpec) (skips : List RecordName) (rs : List NamedRecord) (n : Name) → Has (map (λ (t : Triple). t.name) (flat_map (record_triples job skips) rs)) n
    → (a : RecordName) × Has (map (λ (r : NamedRecord). r.name) rs) a × IsOf a n
all-Has job skips [] n h = absurd h
all-Has job skips (r ∷ rs) n h =
    elim (Has-append_cases (map (λ (t : Triple). t.name) (record_triples job skips r)) (map (λ (t : Triple). t.name) (flat_map (record_triples job skips) rs)) n
    (subst (λ (l : List Name). Has l n) (map-append (λ (t : Triple). t.name) (record_triples job skips r) (flat_map (record_triples job skips) rs)) h)) [
      | inl here ↦ (r.name, inl refl, record-Has job skips r n here)
      | inr later ↦ (let w = all-Has job skips rs n later in (w.0, inr (w.1), w.2))
    ]

all-rise : (job : JobSpec) (skips : List RecordName) (rs : List NamedRecord) → Rises record_order (map (λ (r : NamedRecord). r.name) rs)
    → Rises name_order (map (λ (t : Triple). t.name) (flat_map (record_triples job skips) rs))
all-rise job skips [] rises = tt
all-rise job skips (r ∷ rs) rises =
    let here : List Name = map (λ (t : Triple). t.name) (record_triples job skips r) in
    let later : List Name = map (λ (t : Triple). t.name) (flat_map (record_triples job skips) rs) in
    subst (Rises name_order) (sym (map-append (λ (t : Triple). t.name) (record_triples job skips r) (flat_map (record_triples job skips) rs)))
    (rises-append here later (record-rises job skips r) (all-rise job skips rs rises.1)
    (λ x y h g. (let w = all-Has job skips rs y g in
    apart r.name w.0 x y (Has-all (λ b. record_order r.name b ≡ Less) (map (λ (q : NamedRecord). q.name) rs) w.0 rises.0 w.1) (record-Has job skips r x h) w.2)))

pub names_rise : NamesRise
names_rise request files skips some = all-rise request.job skips (named_records request.split files) (names-rise request.split files some)
