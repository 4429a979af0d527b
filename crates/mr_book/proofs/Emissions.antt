-- Leaving out records only takes their emissions away, and every emission is of a split.
use Rattle.std.proofs.Common.{◌≡◌, ℕ, zero, suc, ◌+◌, ◌<◌, ◌≤◌, List, [], ◌∷◌, ◌++◌, take, refl, ap, sym, ◌∙◌, subst, inl, inr, arith, Bool, true, false, cond, not}
use Rattle.std.specs.List.{filter, flat_map}
use Rattle.std.specs.Prelude.{All}
use Rattle.std.proofs.lemmas.List.Elements.{All-head, All-tail, filter-append}
use Rattle.mr_bytes.specs.declared.Name.{Name}
use Rattle.mr_bytes.specs.declared.RecordName.{RecordName}
use Rattle.mr_bytes.specs.Lists.{Has}
use Rattle.mr_bytes.specs.Pairs.{Triple}
use Rattle.mr_bytes.proofs.ListLaws.{Has-flat_map_from}
use Rattle.mr_input.specs.Files.{split_total}
use Rattle.mr_jobs.specs.JobSpec.{JobSpec}
use Rattle.mr_jobs.specs.Emissions.{Emission, emissions}
use Rattle.mr_splits.specs.Named.{NamedRecord, is_left_out, named_records}
use Rattle.mr_splits.specs.Belongs.{Belongs}
use Rattle.mr_splits.proofs.BelongLemmas.{records-belong}
use Rattle.mr_splits.proofs.TableLemmas.{split_total-more}
use Rattle.mr_sequential.specs.Emitted.{placed_from, record_triples, emitted}

-- the record that a name is of
abbrev pub its_record : Name → RecordName
its_record n = record { split = n.split; rec = n.rec }

abbrev pub is_kept : List RecordName → Triple → Bool
is_kept skips t = not (is_left_out skips (its_record t.name))

-- the emissions without those of the records left out
abbrev pub without : List Triple → List RecordName → List Triple
without ts skips = filter (is_kept skips) ts

placed-kept : (skips : List RecordName) (a : RecordName) (place : ℕ) (es : List Emission) (b : Bool) → is_left_out skips a ≡ b
    → cond b [] (placed_from a place es) ≡ filter (is_kept skips) (placed_from a place es)
unfolding placed_from
placed-kept skips a place [] true e = refl
placed-kept skips a place [] false e = refl
placed-kept skips a place (x ∷ es) true e = rw e (placed-kept skips a (place + 1) es true e)
placed-kept skips a place (x ∷ es) false e = rw e (ap (λ (ts : List Triple). record { key = x.0; value = x.1; name = record { split = a.split; rec = a.rec; place = place } } ∷ ts) (placed-kept skips a (place + 1) es false e))

record-kept : (job : JobSpec) (skips : List RecordName) (r : NamedRecord) → record_triples job skips r ≡ filter (is_kept skips) (record_triples job [] r)
record-kept job skips r = placed-kept skips r.name 0 (emissions job r.file r.start r.bytes) (is_left_out skips r.name) refl

pub leaves_out : (job : JobSpec) (size : ℕ) (files : List (List ℕ)) (skips : List RecordName) → emitted job size files skips ≡ without (emitted job size files []) skips
leaves_out job size files skips = of_all (named_records size files)
  where
    of_all : (rs : List NamedRecord) → flat_map (record_triples job skips) rs ≡ filter (is_kept skips) (flat_map (record_triples job []) rs)
    of_all [] = refl
    of_all (r ∷ rs) =
        (λ i. record-kept job skips r i ++ of_all rs i)
        ∙ sym (filter-append (is_kept skips) (record_triples job [] r) (flat_map (record_triples job []) rs))

-- ---- splits

placed-of : (a : RecordName) (place : ℕ) (es : List Emission) (t : Triple) → Has (placed_from a place es) t → t.name.split ≡ a.split
unfolding placed_from
placed-of a place [] t h = absurd h
placed-of a place (e ∷ es) t (inl is) = ap (λ (u : Triple). u.name.split) (sym is)
placed-of a place (e ∷ es) t (inr h) = placed-of a (place + 1) es t h

All-Has : {X : Type 0} (P : X → Type 0) (xs : List X) (x : X) → All P xs → Has xs x → P x
All-Has P [] x all h = absurd h
All-Has P (y ∷ xs) x all (inl e) = subst P e (All-head P y xs all)
All-Has P (y ∷ xs) x all (inr h) = All-Has P xs x (All-tail P y xs all) h

splits-of_first : (size : ℕ) (files : List (List ℕ)) (n : ℕ) → split_total size (take n files) ≤ split_total size files
unfolding split_total
splits-of_first size [] zero = omega arith
splits-of_first size [] (suc n) = omega arith
splits-of_first size (f ∷ files) zero = omega arith
splits-of_first size (f ∷ files) (suc n) = omega (arith, splits-of_first size files n)

record-below : (size : ℕ) (files : List (List ℕ)) (r : NamedRecord) → Belongs size files r → r.name.split < split_total size files
record-below size files r b =
    omega (arith, b.split.number, b.split.exists, split_total-more size files b.place.file b.split.file, splits-of_first size files (b.place.file + 1))

pub split-below : (job : JobSpec) (size : ℕ) (files : List (List ℕ)) → 0 < size → (t : Triple) → Has (emitted job size files []) t → t.name.split < split_total size files
split-below job size files some t h =
    let r = Has-flat_map_from (record_triples job []) (named_records size files) t h in
    omega (arith, placed-of r.0.name 0 (emissions job r.0.file r.0.start r.0.bytes) t r.2, record-below size files r.0 (All-Has (Belongs size files) (named_records size files) r.0 (records-belong size files some) r.1))
