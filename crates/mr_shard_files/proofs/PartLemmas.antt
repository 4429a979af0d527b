-- The parts of shards for one partition, one behind another.
use Rattle.std.proofs.Common.{◌≡◌, ℕ, zero, suc, ◌<◌, ◌≤◌, ◌++◌, inr, List, [], ◌∷◌, length, length-append, get_or, map, take, refl, ap, sym, subst, arith}
use Rattle.std.proofs.lemmas.List.{get_or-map, length-map, take-map}
use Rattle.mr_jobs.specs.JobSpec.{JobSpec}
use Rattle.mr_shards.specs.Joined.{inputs_of}
use Rattle.mr_shards.specs.Verdict.{Told}
use Rattle.mr_files.specs.Holding.{Faulty, Stored}
use Rattle.mr_shard_files.specs.declared.fault.ShardFault.{ShardFault}
use Rattle.mr_shard_files.specs.Beside.{ArePartitions, IsPartition}
use Rattle.mr_shard_files.proofs.ListLemmas.{each_more}
use Rattle.mr_shard_files.specs.Faults.{IsUngathered, IsUnheard}
use Rattle.mr_shard_files.specs.Merging.{AreHeard, IsHeard}

heard_more : (holds : Stored) (ns : List (List ℕ)) (n : List ℕ) (vs : List Told) (v : Told) → AreHeard holds ns vs → IsHeard holds n v → AreHeard holds (ns ++ n ∷ []) (vs ++ v ∷ [])
heard_more holds [] n [] v h k = (k, tt)
heard_more holds [] n (w ∷ vs) v h k = absurd h
heard_more holds (m ∷ ns) n [] v h k = absurd h
heard_more holds (m ∷ ns) n (w ∷ vs) v h k = (h.0, heard_more holds ns n vs v h.1 k)

-- one verdict more
pub heard_next : (holds : Stored) (names all : List (List ℕ)) (n : List ℕ) (vs after : List Told) (v : Told) → all ≡ names ++ n ∷ [] → after ≡ vs ++ v ∷ []
    → AreHeard holds names vs → IsHeard holds n v → AreHeard holds all after
heard_next holds names all n vs after v is more h k =
    subst (λ (w : List (List ℕ)). AreHeard holds w after) (sym is) (subst (AreHeard holds (names ++ n ∷ [])) (sym more) (heard_more holds names n vs v h k))

-- one is not read
pub unheard_at : {A : Type 0} (f : A → List ℕ) (holds : Stored) (unreadable : Faulty) (xs : List A) (i : ℕ) (d : A) (vs : List Told) (e : ShardFault) → i < length xs
    → AreHeard holds (map f (take i xs)) vs → IsUnheard holds unreadable i (f (get_or xs i d)) e → IsUngathered holds unreadable (map f xs) e
unheard_at f holds unreadable xs i d vs e less held u = inr (record {
  at = i;
  before = vs;
  within = omega (arith, length-map xs f, less);
  held = subst (λ (l : List (List ℕ)). AreHeard holds l vs) (sym (take-map f i xs)) held;
  why = subst (λ (n : List ℕ). IsUnheard holds unreadable i n e) (sym (get_or-map f xs i d [] less)) u;
})

pub heard_count : (holds : Stored) (ns : List (List ℕ)) (vs : List Told) → AreHeard holds ns vs → length ns ≡ length vs
heard_count holds [] [] h = refl
heard_count holds [] (v ∷ vs) h = absurd h
heard_count holds (n ∷ ns) [] h = absurd h
heard_count holds (n ∷ ns) (v ∷ vs) h = ap (λ k. suc k) (heard_count holds ns vs h.1)

-- the inputs of one are no more than those of all
pub inputs_count : (vs : List Told) (i : ℕ) (d : Told) → i < length vs → length (get_or vs i d).inputs ≤ length (inputs_of vs)
inputs_count [] i d less = absurd (omega (arith, less))
inputs_count (v ∷ vs) zero d less = let e = length-append v.inputs (inputs_of vs) in omega (arith, e)
inputs_count (v ∷ vs) (suc i) d less = let e = length-append v.inputs (inputs_of vs) in let rest = inputs_count vs i d (omega (arith, less)) in omega (arith, e, rest)

-- no partition yet
pub partitions_none : (holds : Stored) (job : JobSpec) (names : List (List ℕ)) (vs : List Told) → ArePartitions holds job names vs []
partitions_none holds job names vs p less = absurd (omega (arith, less))

-- one partition more
pub partitions_next : (holds : Stored) (job : JobSpec) (names : List (List ℕ)) (vs : List Told) (texts : List (List ℕ)) (text : List ℕ) (n : ℕ) → length texts ≡ n
    → ArePartitions holds job names vs texts → IsPartition holds job names vs n text → ArePartitions holds job names vs (texts ++ text ∷ [])
partitions_next holds job names vs texts text n count all here p less =
    each_more (λ q t. IsPartition holds job names vs q t) texts text n count (λ q l. all q (omega (arith, l, count))) here p
    (let e = length-append texts (text ∷ []) in omega (arith, less, e, count))
