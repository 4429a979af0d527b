-- What stands beside the verdicts, partition by partition, and shard by shard.
use Rattle.std.proofs.Common.{◌≡◌, ℕ, ◌+◌, ◌<◌, ◌≤◌, ◌++◌, ◌⊎◌, inl, inr, List, [], ◌∷◌, length, length-append, replicate, refl, ap, sym, ◌∙◌, subst, arith}
use Rattle.std.specs.Prelude.{None, Option, Some}
use Rattle.std.specs.List.{AllByRecursion}
use Rattle.std.proofs.lemmas.Bool.{cases_lt}
use Rattle.std.proofs.lemmas.List.{get_or_append_left}
use Rattle.std.proofs.Math.Seq.{get_or-append_seam}
use Rattle.mr_input.specs.Files.{nth_file}
use Rattle.mr_files.specs.Holding.{Holding, Stored}
use Rattle.mr_jobs.specs.JobSpec.{JobSpec}
use Rattle.mr_shards.specs.declared.cursor.Held.{Held}
use Rattle.mr_shards.specs.declared.shift.ShardFiles.{ShardFiles}
use Rattle.mr_shards.specs.declared.merger.ShardText.{ShardText}
use Rattle.mr_shards.specs.Portions.{past_shard}
use Rattle.mr_shards.specs.Refused.{IsRest, IsShardText}
use Rattle.mr_shards.specs.Joined.{AreOutputsAt, IsMergedAt, inputs_of}
use Rattle.mr_shards.specs.Verdict.{Told}
use Rattle.mr_shard_files.specs.Beside.{AreOutputs, IsPartition, StandsBeside, Tells, ReportsCause}
use Rattle.mr_shard_files.specs.Merging.{AreParts, ArePartsOf}
use Rattle.mr_shard_files.specs.Pairs.{IsAdded}
use Rattle.mr_shard_files.specs.Streams.{AllAre}
use Rattle.mr_shards.proofs.PastLemmas.{files-of-past}
use Rattle.mr_shard_files.proofs.ListLemmas.{each_more}
use Rattle.mr_shard_files.proofs.PairLemmas.{no_texts, texts_more}
use Rattle.mr_shard_files.proofs.SumLemmas.{AreCounts, AreSums}

-- one more part of each shard
abbrev grown : List (List (List ℕ)) → List (List ℕ) → List (List (List ℕ))
grown [] ts = []
grown (ps ∷ pss) [] = []
grown (ps ∷ pss) (t ∷ ts) = (ps ++ t ∷ []) ∷ grown pss ts

-- no part of any
abbrev no_parts : List Told → List (List (List ℕ))
no_parts [] = []
no_parts (v ∷ vs) = [] ∷ no_parts vs

module _ (holds : Stored) (job : JobSpec) where
  sums_none : (vs : List Told) → AreSums job (no_parts vs) (replicate (length vs) (Some 0))
  sums_none [] = tt
  sums_none (v ∷ vs) = (no_texts job, sums_none vs)

  sums_more : (pss : List (List (List ℕ))) (ts : List (List ℕ)) (hs : List Held) (os ns : List (Option ℕ)) → AreSums job pss os → AreCounts job ts hs → AllAre IsAdded hs os ns → AreSums job (grown pss ts) ns
  sums_more [] ts [] [] [] s c a = tt
  sums_more [] ts [] [] (n ∷ ns) s c a = absurd a
  sums_more [] ts (h ∷ hs) [] ns s c a = absurd a
  sums_more [] ts hs (o ∷ os) ns s c a = absurd s
  sums_more (ps ∷ pss) ts hs [] ns s c a = absurd s
  sums_more (ps ∷ pss) ts [] (o ∷ os) ns s c a = absurd a
  sums_more (ps ∷ pss) [] (h ∷ hs) (o ∷ os) ns s c a = absurd c
  sums_more (ps ∷ pss) (t ∷ ts) (h ∷ hs) (o ∷ os) [] s c a = absurd a
  sums_more (ps ∷ pss) (t ∷ ts) (h ∷ hs) (o ∷ os) (n ∷ ns) s c a = (texts_more job ps (t ∷ []) o h.pairs n s.0 c.0 a.0, sums_more pss ts hs os ns s.1 c.1 a.1)

  part_more : (n : ℕ) (name : List ℕ) (v : Told) (ps : List (List ℕ)) (t : List ℕ) → AreParts holds job n name v ps
      → StandsBeside holds n name t → ReportsCause n v t → IsRest job None t → AreParts holds job (n + 1) name v (ps ++ t ∷ [])
  part_more n name v ps t a s k l = record {
    count_is = (let e = length-append ps (t ∷ []) in omega (arith, e, a.count_is));
    stand = each_more (λ p text. StandsBeside holds p name text) ps t n a.count_is a.stand s;
    told = each_more (λ p text. ReportsCause p v text) ps t n a.count_is a.told k;
    lines = each_more (λ p text. IsRest job None text) ps t n a.count_is a.lines l;
  }

  parts_none : (ns : List (List ℕ)) (vs : List Told) → length ns ≡ length vs → ArePartsOf holds job 0 ns vs (no_parts vs)
  parts_none [] [] e = tt
  parts_none [] (v ∷ vs) e = absurd (omega (arith, e))
  parts_none (n ∷ ns) [] e = absurd (omega (arith, e))
  parts_none (n ∷ ns) (v ∷ vs) e = (
    record {
      count_is = refl;
      stand = λ p less. absurd (omega (arith, less));
      told = λ p less. absurd (omega (arith, less));
      lines = λ p less. absurd (omega (arith, less));
    },
    parts_none ns vs (omega (arith, e)),
  )

  parts_more : (n : ℕ) (ns : List (List ℕ)) (vs : List Told) (pss : List (List (List ℕ))) (ts : List (List ℕ)) (os : List ShardText) → ArePartsOf holds job n ns vs pss
      → Holding (StandsBeside holds n) ns ts → Tells n vs ts → AreOutputs vs ts os → AllByRecursion (IsShardText job) os
      → ArePartsOf holds job (n + 1) ns vs (grown pss ts)
  parts_more n [] [] [] ts os a s k o l = tt
  parts_more n [] [] (ps ∷ pss) ts os a s k o l = absurd a
  parts_more n [] (v ∷ vs) pss ts os a s k o l = absurd a
  parts_more n (m ∷ ns) [] pss ts os a s k o l = absurd a
  parts_more n (m ∷ ns) (v ∷ vs) [] ts os a s k o l = absurd a
  parts_more n (m ∷ ns) (v ∷ vs) (ps ∷ pss) [] os a s k o l = absurd s
  parts_more n (m ∷ ns) (v ∷ vs) (ps ∷ pss) (t ∷ ts) [] a s k o l = absurd o
  parts_more n (m ∷ ns) (v ∷ vs) (ps ∷ pss) (t ∷ ts) (q ∷ os) a s k o l =
      (part_more n m v ps t a.0 s.0 k.0 (subst (IsRest job None) o.1 l.0.0), parts_more n ns vs pss ts os a.1 s.1 k.1 o.2 l.1)

  -- what the shards have for the new partition, and for those before it
  outputs_new : (n : ℕ) (ns : List (List ℕ)) (vs : List Told) (pss : List (List (List ℕ))) (ts : List (List ℕ)) (os : List ShardText) → ArePartsOf holds job n ns vs pss
      → AreOutputs vs ts os → AreOutputsAt n vs (grown pss ts) os
  outputs_new n [] [] [] [] [] a o = tt
  outputs_new n [] [] [] [] (q ∷ os) a o = absurd o
  outputs_new n [] [] [] (t ∷ ts) os a o = absurd o
  outputs_new n [] [] (ps ∷ pss) ts os a o = absurd a
  outputs_new n [] (v ∷ vs) pss ts os a o = absurd a
  outputs_new n (m ∷ ns) [] pss ts os a o = absurd a
  outputs_new n (m ∷ ns) (v ∷ vs) [] ts os a o = absurd a
  outputs_new n (m ∷ ns) (v ∷ vs) (ps ∷ pss) [] os a o = absurd o
  outputs_new n (m ∷ ns) (v ∷ vs) (ps ∷ pss) (t ∷ ts) [] a o = absurd o
  outputs_new n (m ∷ ns) (v ∷ vs) (ps ∷ pss) (t ∷ ts) (q ∷ os) a o =
      let at : nth_file (ps ++ t ∷ []) n ≡ t = ap (λ k. nth_file (ps ++ t ∷ []) k) (sym a.0.count_is) ∙ get_or-append_seam ps t [] [] in
      (ap (λ (f : ShardFiles). (past_shard f)) o.0 ∙ files-of-past v.inputs (inputs_of vs), o.1 ∙ sym at, outputs_new n ns vs pss ts os a.1 o.2)

  outputs_kept : (p n : ℕ) (ns : List (List ℕ)) (vs : List Told) (pss : List (List (List ℕ))) (ts : List (List ℕ)) (os : List ShardText) → p < n → ArePartsOf holds job n ns vs pss
      → Tells n vs ts → AreOutputsAt p vs pss os → AreOutputsAt p vs (grown pss ts) os
  outputs_kept p n [] [] [] ts os less a k o = o
  outputs_kept p n [] [] (ps ∷ pss) ts os less a k o = absurd a
  outputs_kept p n [] (v ∷ vs) pss ts os less a k o = absurd a
  outputs_kept p n (m ∷ ns) [] pss ts os less a k o = absurd a
  outputs_kept p n (m ∷ ns) (v ∷ vs) [] ts os less a k o = absurd a
  outputs_kept p n (m ∷ ns) (v ∷ vs) (ps ∷ pss) [] os less a k o = absurd k
  outputs_kept p n (m ∷ ns) (v ∷ vs) (ps ∷ pss) (t ∷ ts) [] less a k o = absurd o
  outputs_kept p n (m ∷ ns) (v ∷ vs) (ps ∷ pss) (t ∷ ts) (q ∷ os) less a k o =
      let at : nth_file (ps ++ t ∷ []) p ≡ nth_file ps p = get_or_append_left ps (t ∷ []) [] p (omega (arith, less, a.0.count_is)) in
      (o.0, o.1 ∙ sym at, outputs_kept p n ns vs pss ts os less a.1 k.1 o.2)

  -- the parts of each shard, where those of the first partitions were merged to these texts, and their totals
  pub record AreSummed (names : List (List ℕ)) (vs : List Told) (texts : List (List ℕ)) (n : ℕ) (totals : List (Option ℕ)) : Type 0 where
    pub parts : List (List (List ℕ))
    pub parts_are : ArePartsOf holds job n names vs parts
    pub merged : (p : ℕ) → p < n → IsMergedAt job vs parts p (nth_file texts p)
    pub sums : AreSums job parts totals

  pub rows_none : (names : List (List ℕ)) (vs : List Told) → length names ≡ length vs → AreSummed names vs [] 0 (replicate (length vs) (Some 0))
  rows_none names vs e = record {
    parts = no_parts vs;
    parts_are = parts_none names vs e;
    merged = λ p less. absurd (omega (arith, less));
    sums = sums_none vs;
  }

  -- those of one partition more
  pub rows_more : (names : List (List ℕ)) (vs : List Told) (texts : List (List ℕ)) (text : List ℕ) (n : ℕ) (held : List Held) (old new : List (Option ℕ)) → length texts ≡ n
      → AreSummed names vs texts n old → (h : IsPartition holds job names vs n text) → AreCounts job h.parts held → AllAre IsAdded held old new → AreSummed names vs (texts ++ text ∷ []) (n + 1) new
  rows_more names vs texts text n held old new count r h c added = record {
    parts = grown r.parts h.parts;
    parts_are = parts_more n names vs r.parts h.parts h.outputs r.parts_are h.stand h.told h.outputs_are h.lines;
    merged = λ p less. by p (cases_lt p n) less;
    sums = sums_more r.parts h.parts held old new r.sums c added;
  }
    where
      by : (p : ℕ) → (p < n) ⊎ (n ≤ p) → p < n + 1 → IsMergedAt job vs (grown r.parts h.parts) p (nth_file (texts ++ text ∷ []) p)
      by p (inl l) less =
          let m = r.merged p l in
          let same : nth_file (texts ++ text ∷ []) p ≡ nth_file texts p = get_or_append_left texts (text ∷ []) [] p (omega (arith, l, count)) in
          subst (IsMergedAt job vs (grown r.parts h.parts) p) (sym same) (m.0, outputs_kept p n names vs r.parts h.parts m.0 l r.parts_are h.told m.1, m.2)
      by p (inr g) less =
          let same : n ≡ p = omega (arith, g, less) in
          let here : nth_file (texts ++ text ∷ []) n ≡ text = ap (λ k. nth_file (texts ++ text ∷ []) k) (sym count) ∙ get_or-append_seam texts text [] [] in
          subst (λ k. IsMergedAt job vs (grown r.parts h.parts) k (nth_file (texts ++ text ∷ []) k)) same
          (h.outputs, outputs_new n names vs r.parts h.parts h.outputs r.parts_are h.outputs_are, here ∙ h.merged)
