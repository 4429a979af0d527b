-- Inputs that tile files, and begin no file twice.
use Rattle.std.proofs.Common.{◌≡◌, ℕ, zero, suc, ◌+◌, ◌<◌, ◌≤◌, ◌^◌, Bool, true, false, cond, List, [], ◌∷◌, ◌++◌, length, take, refl, ap, sym, ◌∙◌, subst, arith, ◌⊎◌, inl, inr, Option, Some, None}
use Rattle.std.proofs.Math.Nat.{eq-or-lt_of_le}
use Rattle.std.specs.Prelude.{MatchOption, unwrap_or}
use Rattle.std.proofs.lemmas.List.{take-take}
use Rattle.std.specs.List.{AllByRecursion}
use Rattle.mr_bytes.specs.Lists.{Distinct}
use Rattle.mr_bytes.proofs.ListLaws.{Has-append_left}
use Rattle.mr_jobs.specs.JobSpec.{RequestSpec}
use Rattle.mr_shards.specs.declared.ranges.Gap.TheVariants as gap
use Rattle.mr_shards.specs.Gaps.{BeginsWell, IsFirstGap, Stands, goes_on_at, note_at}
use Rattle.mr_shards.specs.Joined.{AreOnce, IsJoined, IsNearRange, IsRepeated, inputs_of}
use Rattle.mr_shards.specs.RangeNotes.{Follows, RangeNote, TileFiles, goes_on, names_from}
use Rattle.mr_shards.specs.Verdict.{Told}
use Rattle.mr_shard_files.specs.declared.fault.ShardFault.TheVariants.{NoBeginning, NoEnd, RepeatedInput}
use Rattle.mr_shard_files.specs.Beside.{files_told}
use Rattle.mr_shard_files.specs.Faults.{IsInputFault}

-- ---- no file begins twice

distinct_front : (xs ys : List (List ℕ)) → Distinct (xs ++ ys) → Distinct xs
distinct_front [] ys d = tt
distinct_front (x ∷ xs) ys d = ((λ h. d.0 (Has-append_left xs ys x h)), distinct_front xs ys d.1)

-- the names of the first ranges are the first names
from_front : (m : RangeNote) (ns : List RangeNote) (k : ℕ) → (more : List (List ℕ)) × (names_from m ns ≡ names_from m (take k ns) ++ more)
from_front m ns zero = (names_from m ns, refl)
from_front m [] (suc k) = ([], refl)
from_front m (n ∷ ns) (suc k) =
    let (more, is) = from_front n ns k in
    (more, ap (λ (l : List (List ℕ)). cond (goes_on m n) l (n.name ∷ l)) is ∙ by (goes_on m n) more)
  where
    by : (b : Bool) (more : List (List ℕ)) → cond b (names_from n (take k ns) ++ more) (n.name ∷ (names_from n (take k ns) ++ more))
        ≡ cond b (names_from n (take k ns)) (n.name ∷ names_from n (take k ns)) ++ more
    by true more = refl
    by false more = refl

once_front : (ns : List RangeNote) (k : ℕ) → AreOnce ns → AreOnce (take k ns)
once_front ns zero d = tt
once_front [] (suc k) d = tt
once_front (n ∷ ns) (suc k) d =
    let (more, is) = from_front n ns k in
    distinct_front (n.name ∷ names_from n (take k ns)) more (subst (λ (l : List (List ℕ)). Distinct (n.name ∷ l)) is d)

once_sooner : (ns : List RangeNote) (j k : ℕ) → j ≤ k → AreOnce (take k ns) → AreOnce (take j ns)
once_sooner ns j k less d = subst AreOnce (take-take j k ns less) (once_front (take k ns) j d)

-- ---- inputs that tile files stand, one by one

not_so : (b : Bool) → (b ≡ true → ⊥) → b ≡ false
not_so true f = absurd (f refl)
not_so false f = refl

ends_at : (partial : Bool) (m : RangeNote) (ns : List RangeNote) (k : ℕ) → Follows partial m ns → k < length (m ∷ ns)
    → goes_on_at (m ∷ ns) (suc k) ≡ false → (partial ≡ true → suc k < length (m ∷ ns)) → (note_at (m ∷ ns) k).ends ≡ true
ends_at partial m [] zero f less e p = f (not_so partial (λ t. let h = p t in omega (arith, h)))
ends_at partial m [] (suc k) f less e p = absurd (omega (arith, less))
ends_at partial m (n ∷ ns) zero f less e p = (f.0 e).0
ends_at partial m (n ∷ ns) (suc k) f less e p = ends_at partial n ns k f.1 (omega (arith, less)) e (λ t. let h = p t in omega (arith, h))

begins_at : (partial : Bool) (m : RangeNote) (ns : List RangeNote) (k : ℕ) → Follows partial m ns → k < length ns
    → goes_on_at (m ∷ ns) (suc k) ≡ false → (note_at ns k).from ≡ 0
begins_at partial m [] k f less e = absurd (omega (arith, less))
begins_at partial m (n ∷ ns) zero f less e = (f.0 e).1
begins_at partial m (n ∷ ns) (suc k) f less e = begins_at partial n ns k f.1 (omega (arith, less)) e

stand_at : (partial : Bool) (ns : List RangeNote) (k : ℕ) → TileFiles partial ns → k < length ns → Stands partial ns k
stand_at partial [] k t less = absurd (omega (arith, less))
stand_at partial (n ∷ ns) zero t less = ((λ e p. t.0 (not_so partial (λ h. let l = p h in omega (arith, l)))), ends_at partial n ns zero t.1 less)
stand_at partial (n ∷ ns) (suc k) t less = ((λ e p. begins_at partial n ns k t.1 (omega (arith, less)) e), ends_at partial n ns (suc k) t.1 less)

-- ---- the first fault

module _ (partial : Bool) (ns : List RangeNote) where
  -- no file begins twice before the input that does so, or before the end
  pub once_before : (r : Option ℕ) → MatchOption r (AreOnce ns) (IsRepeated ns) → AreOnce (take (unwrap_or r (length ns)) ns)
  once_before (Some repeat) h = h.2
  once_before None h = once_front ns (length ns) h

  pub begins_first : (i once : ℕ) → IsFirstGap partial ns (gap.NoBeginning i) → AreOnce (take once ns) → i ≤ once → IsInputFault partial ns (NoBeginning i)
  begins_first i once g h less = (g, once_sooner ns i once less h)

  pub ends_first : (i once : ℕ) → IsFirstGap partial ns (gap.NoEnd i) → AreOnce (take once ns) → i < once → IsInputFault partial ns (NoEnd i)
  ends_first i once g h less = (g, once_sooner ns (i + 1) once (omega (arith, less)) h)

  pub repeat_begins : (i repeat : ℕ) → IsFirstGap partial ns (gap.NoBeginning i) → IsRepeated ns repeat → repeat < i → IsInputFault partial ns (RepeatedInput repeat)
  repeat_begins i repeat g r less = (r, λ k l. g.1 k (omega (arith, l, less)), (g.1 repeat less).0)

  pub repeat_ends : (i repeat : ℕ) → IsFirstGap partial ns (gap.NoEnd i) → IsRepeated ns repeat → repeat ≤ i → IsInputFault partial ns (RepeatedInput repeat)
  repeat_ends i repeat g r less = (r, λ k l. g.1 k (omega (arith, l, less)), by (eq-or-lt_of_le less))
    where
      by : (repeat ≡ i) ⊎ (repeat < i) → BeginsWell partial ns (gap.NoEnd repeat)
      by (inl e) = subst (λ k. BeginsWell partial ns (gap.NoEnd k)) (sym e) g.2
      by (inr l) = (g.1 repeat l).0

  pub repeat_alone : (repeat : ℕ) → TileFiles partial ns → IsRepeated ns repeat → IsInputFault partial ns (RepeatedInput repeat)
  repeat_alone repeat t r = (r, λ k less. stand_at partial ns k t (omega (arith, less, r.0)), (stand_at partial ns repeat t r.0).0)

-- ---- their ends are numbers that fit

near_more : (ms ns : List RangeNote) → AllByRecursion IsNearRange ms → AllByRecursion IsNearRange ns → AllByRecursion IsNearRange (ms ++ ns)
near_more [] ns h k = k
near_more (m ∷ ms) ns h k = (h.0, near_more ms ns h.1 k)

near_all : (vs : List Told) → AllByRecursion (λ v. (length v.inputs < 2 ^ 64) × AllByRecursion IsNearRange v.inputs) vs → AllByRecursion IsNearRange (inputs_of vs)
near_all [] h = tt
near_all (v ∷ vs) h = near_more v.inputs (inputs_of vs) h.0.1 (near_all vs h.1)

pub near_inputs : (request : RequestSpec) (vs : List Told) (m : Told) → IsJoined request vs m → AllByRecursion IsNearRange m.inputs
near_inputs request vs m j = subst (AllByRecursion IsNearRange) (sym j.inputs_are) (near_all vs j.near)

-- ---- the files of shards

pub told_count : (vs : List Told) → length (files_told vs) ≡ length vs
told_count [] = refl
told_count (v ∷ vs) = ap (λ k. suc k) (told_count vs)
