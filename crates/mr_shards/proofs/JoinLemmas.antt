-- Verdicts joined one after another.
use Rattle.std.proofs.Common.{◌≡◌, ℕ, zero, suc, ◌+◌, ◌<◌, ◌^◌, ◌++◌, inl, inr, cond, List, [], ◌∷◌, length, map, take, drop, get_or, refl, ap, sym, ◌∙◌, subst, arith}
use Rattle.std.proofs.Math.Seq.{take-suc}
use Rattle.std.proofs.lemmas.Bool.{cases_lt, ne_eqb}
use Rattle.std.proofs.lemmas.List.{append_assoc, append-nil, get_or_default, map-append}
use Rattle.std.specs.List.{AllByRecursion}
use Rattle.mr_jobs.specs.JobSpec.{RequestSpec}
use Rattle.mr_shards.specs.declared.joining.JoinFault.{JoinFault}
use Rattle.mr_shards.specs.declared.joining.JoinFault.TheVariants.{OtherRequest, TooManyPairs, PlaceTooFar, OutOfMemory}
use Rattle.mr_shards.specs.Verdict.{Told}
use Rattle.mr_shards.specs.Truth.{Asks}
use Rattle.mr_shards.specs.Joined.{GoesIn, IsJoinFault, IsJoined, IsNear, IsNearRange, IsNearShift, IsNearSpot, inputs_of, left_out_of_all, no_verdict, pairs_of, shift_to, verdict_at}
use Rattle.mr_shards.specs.Joining.{Fit, Follows, IsShardFault, SameRequest}
use Rattle.mr_shards.specs.Portions.{Shift, behind, no_shift, shifted_start}
use Rattle.mr_shards.specs.RangeNotes.{RangeNote}
use Rattle.mr_shards.specs.RangeVerdicts.{shift_past}
use Rattle.mr_shards.specs.Spots.{Spot, shifted_spot}
use Rattle.mr_shards.proofs.ShiftLemmas.{start-twice}

-- ---- shifts

spots-twice : (s t : Shift) (xs : List Spot) → map (shifted_spot s) (map (shifted_spot t) xs) ≡ map (shifted_spot (behind s t)) xs
spots-twice s t [] = refl
spots-twice s t (x ∷ xs) =
    let file : s.files + (t.files + x.file) ≡ s.files + t.files + x.file = omega arith in
    let start = start-twice s t x.file x.start in
    let rest = spots-twice s t xs in
    λ i. record { file = file i; start = start i } ∷ rest i

behind-twice : (s t u : Shift) → behind s (behind t u) ≡ behind (behind s t) u
behind-twice s t u =
    let files : s.files + (t.files + u.files) ≡ s.files + t.files + u.files = omega arith in
    let bytes = start-twice s t u.files u.bytes in
    λ i. record { files = files i; bytes = bytes i }

start-still : (n start : ℕ) → shifted_start no_shift n start ≡ start
start-still zero start = omega arith
start-still (suc n) start = ap (λ b. cond b (0 + start) start) (ne_eqb (suc n) 0 (λ e. omega (arith, e)))

still-behind : (s : Shift) → behind no_shift s ≡ s
still-behind s =
    let files : 0 + s.files ≡ s.files = omega arith in
    let bytes = start-still s.files s.bytes in
    λ i. record { files = files i; bytes = bytes i }

behind-still : (s : Shift) → behind s no_shift ≡ s
behind-still s =
    let files : s.files + 0 ≡ s.files = omega arith in
    let bytes : s.bytes + 0 ≡ s.bytes = omega arith in
    λ i. record { files = files i; bytes = bytes i }

spots-still : (xs : List Spot) → map (shifted_spot no_shift) xs ≡ xs
spots-still [] = refl
spots-still (x ∷ xs) =
    let file : 0 + x.file ≡ x.file = omega arith in
    let start = start-still x.file x.start in
    let rest = spots-still xs in
    λ i. record { file = file i; start = start i } ∷ rest i

shift-none : (vs : List Told) → shift_to vs 0 ≡ no_shift
shift-none [] = refl
shift-none (v ∷ vs) = refl

shift-next : (vs : List Told) (i : ℕ) (d : Told) → i < length vs
    → shift_to vs (suc i) ≡ behind (shift_to vs i) (shift_past (get_or vs i d).inputs (inputs_of (drop (suc i) vs)))
shift-next [] i d less = absurd (omega (arith, less))
shift-next (v ∷ vs) zero d less =
    let here : Shift = shift_past v.inputs (inputs_of vs) in
    ap (behind here) (shift-none vs) ∙ behind-still here ∙ sym (still-behind here)
shift-next (v ∷ vs) (suc i) d less =
    let here : Shift = shift_past v.inputs (inputs_of vs) in
    ap (behind here) (shift-next vs i d (omega (arith, less)))
    ∙ behind-twice here (shift_to vs i) (shift_past (get_or vs i d).inputs (inputs_of (drop (suc i) vs)))

-- ---- verdicts

drop-one : (vs : List Told) (i : ℕ) (d : Told) → i < length vs → drop i vs ≡ get_or vs i d ∷ drop (suc i) vs
drop-one [] i d less = absurd (omega (arith, less))
drop-one (v ∷ vs) zero d less = refl
drop-one (v ∷ vs) (suc i) d less = drop-one vs i d (omega (arith, less))

drop-all : (vs : List Told) → drop (length vs) vs ≡ []
drop-all [] = refl
drop-all (v ∷ vs) = drop-all vs

pairs-more : (vs : List Told) (v : Told) → pairs_of (vs ++ v ∷ []) ≡ pairs_of vs + v.pairs
pairs-more [] v = omega arith
pairs-more (u ∷ vs) v = let rest = pairs-more vs v in omega (arith, rest)

pairs-next : (vs : List Told) (i : ℕ) (d : Told) → i < length vs → pairs_of (take (i + 1) vs) ≡ pairs_of (take i vs) + (get_or vs i d).pairs
pairs-next vs i d less =
    let e : i + 1 ≡ suc i = omega arith in
    ap (λ k. pairs_of (take k vs)) e ∙ ap pairs_of (take-suc vs i d less) ∙ pairs-more (take i vs) (get_or vs i d)

take-all : (vs : List Told) → take (length vs) vs ≡ vs
take-all [] = refl
take-all (v ∷ vs) = ap (λ l. v ∷ l) (take-all vs)

pub inputs-more : (vs : List Told) (v : Told) → inputs_of (vs ++ v ∷ []) ≡ inputs_of vs ++ v.inputs
inputs-more [] v = append-nil v.inputs
inputs-more (u ∷ vs) v = ap (λ l. u.inputs ++ l) (inputs-more vs v) ∙ sym (append_assoc u.inputs (inputs_of vs) v.inputs)

pub inputs-to : (vs : List Told) (i : ℕ) (d : Told) → i < length vs → inputs_of (take (i + 1) vs) ≡ inputs_of (take i vs) ++ (get_or vs i d).inputs
inputs-to vs i d less =
    let e : i + 1 ≡ suc i = omega arith in
    ap (λ k. inputs_of (take k vs)) e ∙ ap inputs_of (take-suc vs i d less) ∙ inputs-more (take i vs) (get_or vs i d)

-- one of those that are all near
pub near-one : {X : Type 0} (P : X → Type 0) (xs : List X) (i : ℕ) (d : X) → i < length xs → AllByRecursion P xs → P (get_or xs i d)
near-one P [] i d less all = absurd (omega (arith, less))
near-one P (x ∷ xs) zero d less all = all.0
near-one P (x ∷ xs) (suc i) d less all = near-one P xs i d (omega (arith, less)) all.1

-- one of those that are moved
pub spot-one : (s : Shift) (xs : List Spot) (i : ℕ) (d : Spot) → i < length xs → AllByRecursion IsNearSpot (map (shifted_spot s) xs) → IsNearSpot (shifted_spot s (get_or xs i d))
spot-one s [] i d less all = absurd (omega (arith, less))
spot-one s (x ∷ xs) zero d less all = all.0
spot-one s (x ∷ xs) (suc i) d less all = spot-one s xs i d (omega (arith, less)) all.1

pub inputs-next : (vs : List Told) (i : ℕ) (d : Told) → i < length vs → inputs_of (drop i vs) ≡ (get_or vs i d).inputs ++ inputs_of (drop (suc i) vs)
inputs-next vs i d less = ap inputs_of (drop-one vs i d less)

drop-front : (xs ys : List RangeNote) → drop (length xs) (xs ++ ys) ≡ ys
drop-front [] ys = refl
drop-front (x ∷ xs) ys = drop-front xs ys

-- the inputs of the verdicts behind are what is left behind its own
pub later-is : (vs : List Told) (i : ℕ) (d : Told) (rest later : List RangeNote) (n : ℕ) → i < length vs → rest ≡ inputs_of (drop i vs)
    → n ≡ length (get_or vs i d).inputs → later ≡ drop n rest → later ≡ inputs_of (drop (suc i) vs)
later-is vs i d rest later n less all count is =
    is ∙ ap (λ k. drop k rest) count ∙ ap (drop (length (get_or vs i d).inputs)) (all ∙ inputs-next vs i d less)
    ∙ drop-front (get_or vs i d).inputs (inputs_of (drop (suc i) vs))

-- how far joining has come
pub record IsJoinedTo (request : RequestSpec) (vs : List Told) (i : ℕ) (m : Told) (past : Shift) (rest : List RangeNote) : Type 0 where
  pub asks : Asks m request
  pub gone : (j : ℕ) → j < i → GoesIn request vs j × (length (verdict_at vs j).inputs < 2 ^ 64)
  pub past_is : past ≡ shift_to vs i
  pub rest_is : rest ≡ inputs_of (drop i vs)
  pub left_out_is : left_out_of_all vs ≡ m.left_out ++ map (shifted_spot past) (left_out_of_all (drop i vs))
  pub pairs_are : m.pairs ≡ pairs_of (take i vs)
  pub few : m.pairs < 2 ^ 64

pub joined-none : (request : RequestSpec) (vs : List Told) (m : Told) (rest : List RangeNote) → Asks m request → m.left_out ≡ [] → m.pairs ≡ 0 → rest ≡ inputs_of vs
    → IsJoinedTo request vs 0 m no_shift rest
joined-none request vs m rest asks none zero_pairs all = record {
  asks = asks;
  gone = λ j less. absurd (omega (arith, less));
  past_is = sym (shift-none vs);
  rest_is = all;
  left_out_is = sym (spots-still (left_out_of_all vs)) ∙ ap (λ l. l ++ map (shifted_spot no_shift) (left_out_of_all vs)) (sym none);
  pairs_are = zero_pairs;
  few = omega (arith, zero_pairs);
}

asks-same : (request : RequestSpec) (old new : Told) → SameRequest old new → Asks old request → Asks new request
asks-same request old new s a = (sym s.0 ∙ a.0, sym s.1 ∙ a.1, sym s.2 ∙ a.2, sym s.3 ∙ a.3, sym s.4 ∙ a.4)

at-of : (vs : List Told) (i : ℕ) (d : Told) → i < length vs → get_or vs i d ≡ verdict_at vs i
at-of vs i d less = get_or_default vs i d no_verdict less

-- the next shift, told by the verdicts behind
next-is : (vs : List Told) (i : ℕ) (d : Told) (past : Shift) → i < length vs → past ≡ shift_to vs i
    → behind past (shift_past (get_or vs i d).inputs (inputs_of (drop (suc i) vs))) ≡ shift_to vs (i + 1)
next-is vs i d past less is =
    let e : i + 1 ≡ suc i = omega arith in
    ap (λ s. behind s (shift_past (get_or vs i d).inputs (inputs_of (drop (suc i) vs)))) is ∙ sym (shift-next vs i d less) ∙ ap (shift_to vs) (sym e)

near-of : (vs : List Told) (i : ℕ) (d : Told) (past : Shift) → i < length vs → past ≡ shift_to vs i
    → Fit past (get_or vs i d) (inputs_of (drop (suc i) vs)) → IsNear vs i
near-of vs i d past less is f =
    let at = at-of vs i d less in
    record {
      ranges = subst (λ (v : Told). AllByRecursion IsNearRange v.inputs) at f.ranges;
      spots = subst (λ (v : Told). AllByRecursion IsNearSpot (map (shifted_spot (shift_to vs i)) v.left_out)) at
          (subst (λ s. AllByRecursion IsNearSpot (map (shifted_spot s) (get_or vs i d).left_out)) is f.spots);
      shift = subst IsNearShift (next-is vs i d past less is) f.shift;
    }

fit-of : (vs : List Told) (i : ℕ) (d : Told) (past : Shift) → i < length vs → past ≡ shift_to vs i
    → IsNear vs i → Fit past (get_or vs i d) (inputs_of (drop (suc i) vs))
fit-of vs i d past less is n =
    let at = sym (at-of vs i d less) in
    record {
      ranges = subst (λ (v : Told). AllByRecursion IsNearRange v.inputs) at n.ranges;
      spots = subst (λ s. AllByRecursion IsNearSpot (map (shifted_spot s) (get_or vs i d).left_out)) (sym is)
          (subst (λ (v : Told). AllByRecursion IsNearSpot (map (shifted_spot (shift_to vs i)) v.left_out)) at n.spots);
      shift = subst IsNearShift (sym (next-is vs i d past less is)) n.shift;
    }

pub joined-step : (request : RequestSpec) (vs : List Told) (i : ℕ) (d old new : Told) (past next : Shift) (rest later : List RangeNote) → i < length vs
    → IsJoinedTo request vs i old past rest → later ≡ inputs_of (drop (suc i) vs) → Follows request old new (get_or vs i d) past next later
    → IsJoinedTo request vs (i + 1) new next later
joined-step request vs i d old new past next rest later less was is f =
    let e : i + 1 ≡ suc i = omega arith in
    let v : Told = get_or vs i d in
    let at = at-of vs i d less in
    let fit : Fit past v (inputs_of (drop (suc i) vs)) = subst (Fit past v) is f.fit in
    let next_is : next ≡ behind past (shift_past v.inputs (inputs_of (drop (suc i) vs))) = f.next_is ∙ ap (λ l. behind past (shift_past v.inputs l)) is in
    let pairs = f.pairs_are ∙ ap (λ n. n + v.pairs) was.pairs_are ∙ sym (pairs-next vs i d less) in
    let left : left_out_of_all (drop i vs) ≡ v.left_out ++ map (shifted_spot (shift_past v.inputs (inputs_of (drop (suc i) vs)))) (left_out_of_all (drop (suc i) vs)) =
    ap left_out_of_all (drop-one vs i d less) in
    record {
      asks = asks-same request old new f.same was.asks;
      gone = by fit pairs;
      past_is = next_is ∙ next-is vs i d past less was.past_is;
      rest_is = is ∙ ap (λ k. inputs_of (drop k vs)) (sym e);
      left_out_is = was.left_out_is ∙ ap (λ l. old.left_out ++ map (shifted_spot past) l) left
          ∙ ap (λ l. old.left_out ++ l) (map-append (shifted_spot past) v.left_out (map (shifted_spot (shift_past v.inputs (inputs_of (drop (suc i) vs)))) (left_out_of_all (drop (suc i) vs)))
          ∙ ap (λ l. map (shifted_spot past) v.left_out ++ l) (spots-twice past (shift_past v.inputs (inputs_of (drop (suc i) vs))) (left_out_of_all (drop (suc i) vs))))
          ∙ sym (append_assoc old.left_out (map (shifted_spot past) v.left_out) (map (shifted_spot (behind past (shift_past v.inputs (inputs_of (drop (suc i) vs))))) (left_out_of_all (drop (suc i) vs))))
          ∙ (let front = sym f.left_out_is in let shift = sym next_is in let k = sym e in λ j. front j ++ map (shifted_spot (shift j)) (left_out_of_all (drop (k j) vs)));
      pairs_are = pairs;
      few = f.few_pairs;
    }
  where
    by : Fit past (get_or vs i d) (inputs_of (drop (suc i) vs)) → new.pairs ≡ pairs_of (take (i + 1) vs)
        → (j : ℕ) → j < i + 1 → GoesIn request vs j × (length (verdict_at vs j).inputs < 2 ^ 64)
    by fit pairs j before = elim (cases_lt j i) [
      | inl l ↦ was.gone j l
      | inr g ↦ (let same : i ≡ j = omega (arith, before, g) in
          subst (λ k. GoesIn request vs k × (length (verdict_at vs k).inputs < 2 ^ 64)) same (
            record {
              asks = subst (λ (v : Told). Asks v request) (at-of vs i d less) f.asks;
              pairs = subst (λ n. n < 2 ^ 64) pairs f.few_pairs;
              near = near-of vs i d past less was.past_is fit;
            },
            subst (λ (v : Told). length v.inputs < 2 ^ 64) (at-of vs i d less) f.few,
          ))
    ]

pub joined-fault : (request : RequestSpec) (vs : List Told) (i : ℕ) (d old : Told) (past : Shift) (rest later : List RangeNote) (e : JoinFault) → i < length vs
    → IsJoinedTo request vs i old past rest → later ≡ inputs_of (drop (suc i) vs) → IsShardFault request old (get_or vs i d) i past later e → IsJoinFault request vs e
joined-fault request vs i d old past rest later (OtherRequest at) less was is h =
    subst (λ k. (k < length vs) × ((j : ℕ) → j < k → GoesIn request vs j) × (Asks (verdict_at vs k) request → ⊥)) (sym h.0) (
      less,
      (λ j before. (was.gone j before).0),
      λ a. h.1 (subst (λ (v : Told). Asks v request) (sym (at-of vs i d less)) a),
    )
joined-fault request vs i d old past rest later TooManyPairs less was is h = (
  i,
  less,
  (λ j before. (was.gone j before).0),
  subst (λ (v : Told). Asks v request) (at-of vs i d less) h.0,
  (let e = pairs-next vs i d less in omega (arith, h.1, was.pairs_are, e)),
)
joined-fault request vs i d old past rest later (PlaceTooFar at) less was is h =
    subst (λ k. (k < length vs) × ((j : ℕ) → j < k → GoesIn request vs j) × Asks (verdict_at vs k) request × (pairs_of (take (k + 1) vs) < 2 ^ 64) × (IsNear vs k → ⊥)) (sym h.0) (
      less,
      (λ j before. (was.gone j before).0),
      subst (λ (v : Told). Asks v request) (at-of vs i d less) h.1,
      (let e = pairs-next vs i d less in omega (arith, h.2, was.pairs_are, e)),
      λ n. h.3 (subst (Fit past (get_or vs i d)) (sym is) (fit-of vs i d past less was.past_is n)),
    )
joined-fault request vs i d old past rest later OutOfMemory less was is h = tt

-- ---- all of them

all-at : (P : Told → Type 0) (vs : List Told) → ((j : ℕ) → j < length vs → P (verdict_at vs j)) → AllByRecursion P vs
all-at P [] h = tt
all-at P (v ∷ vs) h = (h 0 (omega arith), all-at P vs (λ j less. h (suc j) (omega (arith, less))))

pub joined-all : (request : RequestSpec) (vs : List Told) (m : Told) (past : Shift) (rest inputs : List RangeNote) → IsJoinedTo request vs (length vs) m past rest → inputs ≡ inputs_of vs
    → IsJoined request vs (record {
      job = m.job;
      flags = m.flags;
      literal = m.literal;
      parts = m.parts;
      split = m.split;
      inputs = inputs;
      outputs = m.outputs;
      left_out = m.left_out;
      pairs = m.pairs;
    })
joined-all request vs m past rest inputs was all = record {
  asks = was.asks;
  alike = all-at (λ v. Asks v request) vs (λ j less. (was.gone j less).0.asks);
  near = all-at (λ v. (length v.inputs < 2 ^ 64) × AllByRecursion IsNearRange v.inputs) vs (λ j less. ((was.gone j less).1, (was.gone j less).0.near.ranges));
  inputs_are = all;
  left_out_is = sym (was.left_out_is ∙ ap (λ l. m.left_out ++ map (shifted_spot past) (left_out_of_all l)) (drop-all vs) ∙ append-nil m.left_out);
  pairs_are = was.pairs_are ∙ ap pairs_of (take-all vs);
  few = was.few;
}
