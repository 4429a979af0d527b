-- Joined verdicts are true of all ranges where each is true of its own.
use Rattle.std.proofs.Common.{◌≡◌, ℕ, ◌+◌, ◌<◌, ◌≤◌, ◌^◌, Bool, true, false, cond, List, [], ◌∷◌, length, map, refl, ap, sym, ◌∙◌, subst, arith}
use Rattle.std.specs.List.{AllByRecursion}
use Rattle.mr_jobs.specs.JobSpec.{JobSpec, RequestSpec}
use Rattle.mr_shards.specs.declared.merger.ShardText.{ShardText}
use Rattle.mr_shards.specs.Joined.{AreOutputsAt, AreTrueOf, IsNearRange, JoinedIsTrue, inputs_of, pairs_of}
use Rattle.mr_shards.specs.Lines.{groups_in}
use Rattle.mr_shards.specs.Merged.{texts}
use Rattle.mr_shards.specs.Outputs.{parts_in}
use Rattle.mr_shards.specs.Portions.{merged_portions}
use Rattle.mr_shards.specs.RangeNotes.{RangeNote, goes_on}
use Rattle.mr_shards.specs.RangeVerdicts.{AreTrueOfRanges, IsRangeCounted, IsTrueOfRanges, RangeVerdict, all_ranges, file_lengths, parts_at, with_length}
use Rattle.mr_shards.specs.Truth.{about}
use Rattle.mr_shards.specs.Verdict.{Told}
use Rattle.mr_shards.proofs.PastLemmas.{few-lengths}
use Rattle.mr_shards.proofs.TileLemmas.{goes-on}
use Rattle.mr_shards.proofs.RangeLaws.{joined_is_true as ranges_are_true}

-- the lengths of files that ranges make up fit, where each range ends at a number that fits
pub record AreSmall (n : RangeNote) (lengths : List ℕ) : Type 0 where
  pub first : ℕ
  pub rest : List ℕ
  pub are : lengths ≡ first ∷ rest
  pub end : n.from + first < 2 ^ 64
  pub all : AllByRecursion (λ k. k < 2 ^ 64) lengths

small-lengths : (n : RangeNote) (ns : List RangeNote) → AllByRecursion IsNearRange (n ∷ ns) → AreSmall n (file_lengths (n ∷ ns))
small-lengths n [] near = record { first = n.length; rest = []; are = refl; end = near.0; all = (omega (arith, near.0), tt) }
small-lengths n (m ∷ ns) near = by (goes_on n m) refl (small-lengths m ns near.1)
  where
    by : (b : Bool) → goes_on n m ≡ b → AreSmall m (file_lengths (m ∷ ns))
        → AreSmall n (cond b (with_length n.length (file_lengths (m ∷ ns))) (n.length ∷ file_lengths (m ∷ ns)))
    by true goes small =
        let from : m.from ≡ n.from + n.length = (goes-on n m goes).from in
        let all : (n.length + small.first < 2 ^ 64) × AllByRecursion (λ k. k < 2 ^ 64) small.rest =
        (omega (arith, from, small.end), (subst (AllByRecursion (λ k. k < 2 ^ 64)) small.are small.all).1) in
        record {
          first = n.length + small.first;
          rest = small.rest;
          are = ap (with_length n.length) small.are;
          end = omega (arith, from, small.end);
          all = subst (AllByRecursion (λ k. k < 2 ^ 64)) (sym (ap (with_length n.length) small.are)) all;
        }
    by false goes small = record {
      first = n.length;
      rest = file_lengths (m ∷ ns);
      are = refl;
      end = near.0;
      all = (omega (arith, near.0), small.all);
    }

lengths-small : (ns : List RangeNote) → AllByRecursion IsNearRange ns → AllByRecursion (λ k. k < 2 ^ 64) (file_lengths ns)
lengths-small [] near = tt
lengths-small (n ∷ ns) near = (small-lengths n ns near).all

counted : (vs : List Told) (most : ℕ) → pairs_of vs ≤ most → most < 2 ^ 64 → AllByRecursion (λ v. (length v.inputs < 2 ^ 64) × AllByRecursion IsNearRange v.inputs) vs
    → AllByRecursion IsRangeCounted (map about vs)
counted [] most less few near = tt
counted (v ∷ vs) most less few near = (
  record {
    pairs = omega (arith, less, few);
    files = (let short = few-lengths v.inputs in omega (arith, short, near.0.0));
    sizes = lengths-small v.inputs near.0.1;
  },
  counted vs most (omega (arith, less)) few near.1,
)

true-of : (request : RequestSpec) (vs : List Told) (rss pss : List (List (List ℕ))) → AreTrueOf request vs rss pss → AreTrueOfRanges request (map about vs) rss pss
true-of request [] [] [] t = tt
true-of request [] [] (ps ∷ pss) t = absurd t
true-of request [] (rs ∷ rss) pss t = absurd t
true-of request (v ∷ vs) [] pss t = absurd t
true-of request (v ∷ vs) (rs ∷ rss) [] t = absurd t
true-of request (v ∷ vs) (rs ∷ rss) (ps ∷ pss) t = (t.0.of_ranges, true-of request vs rss pss t.1)

parts-are : (job : JobSpec) (p : ℕ) (vs : List Told) (pss : List (List (List ℕ))) (os : List ShardText) → AreOutputsAt p vs pss os
    → parts_in job os ≡ parts_at job p (map about vs) pss
parts-are job p [] [] [] h = refl
parts-are job p [] [] (o ∷ os) h = absurd h
parts-are job p [] (ps ∷ pss) os h = absurd h
parts-are job p (v ∷ vs) [] os h = absurd h
parts-are job p (v ∷ vs) (ps ∷ pss) [] h = absurd h
parts-are job p (v ∷ vs) (ps ∷ pss) (o ∷ os) h =
    let shift = h.0 in
    let groups = ap (groups_in job) h.1 in
    let rest = parts-are job p vs pss os h.2 in
    λ i. record { shift = shift i; groups = groups i } ∷ rest i

pub joined_is_true : JoinedIsTrue
joined_is_true request vs m ranges parts outputs some joined notes count merged true_of =
    let inputs = joined.inputs_are in
    let left_out = joined.left_out_is in
    let pairs = joined.pairs_are in
    let few = joined.few in
    record {
      asks = joined.asks;
      outputs_are = notes;
      of_ranges = subst (λ (w : RangeVerdict). IsTrueOfRanges request w (all_ranges ranges) outputs)
          (sym (let all : about m ≡ record { inputs = inputs_of vs; left_out = _; pairs = pairs_of vs } = (λ i. record { inputs = inputs i; left_out = left_out i; pairs = pairs i }) in all))
          (ranges_are_true request (map about vs) ranges parts outputs some
          (counted vs m.pairs (omega (arith, pairs)) few joined.near)
          (true-of request vs ranges parts true_of) count
          (λ p less. (let w = merged p less in w.2 ∙ ap (λ ps. texts request.job (merged_portions ps)) (parts-are request.job p vs parts w.0 w.1))));
    }
