-- The files of a result, written one after another.
use Rattle.std.proofs.Common.{◌≡◌, ◌≢◌, ℕ, zero, suc, ◌+◌, ◌<◌, ◌≤◌, ◌^◌, ◌⊎◌, inl, inr, Bool, List, [], ◌∷◌, ◌++◌, length, take, refl, ap, sym, ◌∙◌, subst, arith}
use Rattle.std.specs.Prelude.{Option, slice_index_or}
use Rattle.mr_files.specs.Holding.{Begins, ChangesAmong, ChangesOnly, Differs, Faulty, Holding, Stored}
use Rattle.mr_files.specs.Identities.{Known}
use Rattle.mr_files.specs.Names.{merged_names, name_of_part, name_of_verdict, part_files, part_names}
use Rattle.mr_files.proofs.Digits.{differs_parts, differs_verdict}
use Rattle.mr_files.proofs.Lists.{differs_front, differs_last, differs_more, holding_kept, holding_more, parts_more, parts_none}
use Rattle.mr_jobs.specs.JobSpec.{RequestSpec}
use Rattle.mr_shards.specs.Truth.{notes_for}
use Rattle.mr_shards.specs.Verdict.{Note, Told, spelling}
use Rattle.mr_shard_files.specs.declared.fault.ShardFault.{ShardFault}
use Rattle.mr_shard_files.specs.Beside.{ArePartitions}
use Rattle.mr_shard_files.specs.Faults.{HasOtherPairs, IsCutShort, IsPartitionFault, IsPartsFault, IsUnfinished}
use Rattle.mr_shard_files.specs.Sharing.{AreUnshared}
use Rattle.mr_shard_files.specs.Made.{ReportsUnwritten}
use Rattle.mr_shard_files.specs.Pairs.{FitsAt, IsUnfit}
use Rattle.mr_shard_files.proofs.MadeLemmas.{unwritten_back}
use Rattle.mr_shard_files.proofs.RowLemmas.{AreSummed}
use Rattle.mr_shard_files.proofs.SumLemmas.{other_pairs, sum_at}
use Rattle.mr_shard_files.specs.Merging.{AreAllWritten, AreHeard, ArePartsOf, ArePartsWritten, ChangesResult, IsMerged, IsReady, with_outputs}
use Rattle.mr_shard_files.proofs.TruthLemmas.{merging_ready}

-- the verdict is no part
apart : (dir : List ℕ) (n : ℕ) → name_of_verdict dir ≢ name_of_part dir n
apart dir n = differs_last (name_of_verdict dir) (name_of_part dir n) (part_names dir n) (subst (Differs (name_of_verdict dir)) (parts_more dir n) (differs_verdict dir (n + 1)))

module _ (old mid new : Stored) (dir : List ℕ) where
  -- the verdict was written first
  pub among_first : ChangesOnly old new (name_of_verdict dir) → ChangesAmong old new (merged_names dir 0)
  among_first only n b d = only n b (differs_last n (name_of_verdict dir) (part_names dir 0) d)

  -- or again
  pub among_again : (k : ℕ) → ChangesAmong old mid (merged_names dir k) → ChangesOnly mid new (name_of_verdict dir) → ChangesAmong old new (merged_names dir k)
  among_again k c only n b d =
      let first = c n b d in
      let second = only n b (differs_last n (name_of_verdict dir) (part_names dir k) d) in
      ((λ h. second.0 (first.0 h)), (λ h. first.1 (second.1 h)))

  -- one part more was
  pub among_part : (k : ℕ) → ChangesAmong old mid (merged_names dir k) → ChangesOnly mid new (name_of_part dir k) → ChangesAmong old new (merged_names dir (k + 1))
  among_part k c only n b d =
      let all : Differs n ((part_names dir k ++ name_of_part dir k ∷ []) ++ name_of_verdict dir ∷ []) = subst (λ (ns : List (List ℕ)). Differs n (ns ++ name_of_verdict dir ∷ [])) (parts_more dir k) d in
      let parts = differs_front n (part_names dir k ++ name_of_part dir k ∷ []) (name_of_verdict dir ∷ []) all in
      let before = differs_front n (part_names dir k) (name_of_part dir k ∷ []) parts in
      let last = differs_last n (name_of_verdict dir) (part_names dir k ++ name_of_part dir k ∷ []) all in
      let first = c n b (differs_more n (name_of_verdict dir) (part_names dir k) before last) in
      let second = only n b (differs_last n (name_of_part dir k) (part_names dir k) parts) in
      ((λ h. second.0 (first.0 h)), (λ h. first.1 (second.1 h)))

  pub whole_none : Holding new (part_names dir 0) []
  whole_none = subst (λ (ns : List (List ℕ)). Holding new ns []) (sym (parts_none dir)) tt

  pub whole_kept : (k : ℕ) (texts : List (List ℕ)) → k < 2 ^ 64 → ChangesOnly mid new (name_of_part dir k) → Holding mid (part_names dir k) texts → Holding new (part_names dir k) texts
  whole_kept k texts fits only h = holding_kept mid new (name_of_part dir k) (part_names dir k) texts only (differs_parts dir k k (omega arith) fits) h

  pub whole_more : (k : ℕ) (texts : List (List ℕ)) (text : List ℕ) → k < 2 ^ 64 → ChangesOnly mid new (name_of_part dir k) → Holding mid (part_names dir k) texts → new (name_of_part dir k) text
      → Holding new (part_names dir (k + 1)) (texts ++ text ∷ [])
  whole_more k texts text fits only h here =
      subst (λ (ns : List (List ℕ)). Holding new ns (texts ++ text ∷ [])) (sym (parts_more dir k)) (holding_more new (part_names dir k) texts (name_of_part dir k) text (whole_kept k texts fits only h) here)

  -- the parts stand whole where the verdict is written
  pub whole_still : (k : ℕ) (texts : List (List ℕ)) → ChangesOnly mid new (name_of_verdict dir) → Holding mid (part_names dir k) texts → Holding new (part_names dir k) texts
  whole_still k texts only h = holding_kept mid new (name_of_verdict dir) (part_names dir k) texts only (differs_verdict dir k) h

  -- a part is written, and the verdict is as it was
  pub empty_kept : (k : ℕ) → ChangesOnly mid new (name_of_part dir k) → mid (name_of_verdict dir) [] → new (name_of_verdict dir) []
  empty_kept k only h = (only (name_of_verdict dir) [] (apart dir k)).0 h

  pub begun_kept : (k : ℕ) (bytes : List ℕ) → ChangesOnly mid new (name_of_part dir k) → Begins old mid (name_of_verdict dir) bytes → Begins old new (name_of_verdict dir) bytes
  begun_kept k bytes only h b stands = h b ((only (name_of_verdict dir) b (apart dir k)).1 stands)

  -- it is written behind an empty one
  pub begun_again : (bytes : List ℕ) → Begins old mid (name_of_verdict dir) [] → Begins mid new (name_of_verdict dir) bytes → Begins old new (name_of_verdict dir) bytes
  begun_again bytes h k b stands = by (k b stands)
    where
      empty : (b : List ℕ) → (old (name_of_verdict dir) b) ⊎ ((n : ℕ) × (n ≤ 0) × (b ≡ take n [])) → (old (name_of_verdict dir) b) ⊎ ((n : ℕ) × (n ≤ length bytes) × (b ≡ take n bytes))
      empty b (inl was) = inl was
      empty b (inr (n, le, is)) = inr (0, omega arith, is ∙ none n)
        where
          none : (n : ℕ) → take n [] ≡ take 0 bytes
          none zero = refl
          none (suc n) = refl

      by : (mid (name_of_verdict dir) b) ⊎ ((n : ℕ) × (n ≤ length bytes) × (b ≡ take n bytes)) → (old (name_of_verdict dir) b) ⊎ ((n : ℕ) × (n ≤ length bytes) × (b ≡ take n bytes))
      by (inl was) = empty b (h b was)
      by (inr some) = inr some

-- nothing but files of the result changed
pub parts_change : (old new : Stored) (unreadable unwritable : Faulty) (request : RequestSpec) (names : List (List ℕ)) (vs : List Told) (dir : List ℕ) (e : ShardFault)
    → IsPartsFault old new unreadable unwritable request names vs dir e → ChangesResult old new dir
parts_change old new unreadable unwritable request names vs dir e (inl h) = (0, λ n b d. h.0 n b tt)
parts_change old new unreadable unwritable request names vs dir e (inr (inl h)) = (0, λ n b d. h.0 n b (differs_last n (name_of_verdict dir) (part_names dir 0) d, tt))
parts_change old new unreadable unwritable request names vs dir e (inr (inr (inl h))) = (length h.texts + 1, h.others)
parts_change old new unreadable unwritable request names vs dir e (inr (inr (inr (w, why)))) = (request.parts, w.others)

-- the first partitions were written, and the next one is not
pub cut_short : (old mid new : Stored) (unreadable first later : Faulty) (request : RequestSpec) (names : List (List ℕ)) (vs : List Told) (dir : List ℕ) (texts : List (List ℕ)) (n : ℕ) (e : ShardFault) → length texts ≡ n → n < request.parts → n < 2 ^ 64
    → ArePartitions old request.job names vs texts → Holding mid (part_names dir n) texts → mid (name_of_verdict dir) [] → ChangesAmong old mid (merged_names dir n) → ((m : List ℕ) → later m → first m) → ChangesOnly mid new (name_of_part dir n)
    → IsPartitionFault old unreadable request.job names vs n e ⊎ ReportsUnwritten (later (name_of_part dir n)) (name_of_part dir n) e → IsCutShort old new unreadable first request names vs dir e
cut_short old mid new unreadable first later request names vs dir texts n e count less fits merged whole emptied others still only why = record {
  texts = texts;
  few = subst (λ k. k < request.parts) (sym count) less;
  merged = merged;
  whole = subst (λ k. Holding new (part_names dir k) texts) (sym count) (whole_kept old mid new dir n texts fits only whole);
  emptied = empty_kept old mid new dir n only emptied;
  others = subst (λ k. ChangesAmong old new (merged_names dir (k + 1))) (sym count) (among_part old mid new dir n others only);
  why = subst (λ k. IsPartitionFault old unreadable request.job names vs k e ⊎ ReportsUnwritten (first (name_of_part dir k)) (name_of_part dir k) e) (sym count) (by why);
}
  where
    by : IsPartitionFault old unreadable request.job names vs n e ⊎ ReportsUnwritten (later (name_of_part dir n)) (name_of_part dir n) e → IsPartitionFault old unreadable request.job names vs n e ⊎ ReportsUnwritten (first (name_of_part dir n)) (name_of_part dir n) e
    by (inl h) = inl h
    by (inr h) = inr (unwritten_back (later (name_of_part dir n)) (first (name_of_part dir n)) (name_of_part dir n) (name_of_part dir n) e (still (name_of_part dir n)) refl h)

-- all partitions were written
module _ (old new : Stored) (request : RequestSpec) (names : List (List ℕ)) (vs : List Told) (dir : List ℕ) (texts : List (List ℕ)) (totals : List (Option ℕ)) (n : ℕ)
    (all : n ≡ request.parts) (count : length texts ≡ n) (r : AreSummed old request.job names vs texts n totals) (whole : Holding new (part_names dir n) texts)
    (emptied : new (name_of_verdict dir) []) (begins : Begins old new (name_of_verdict dir) []) (others : ChangesAmong old new (merged_names dir n)) where
  abbrev written : ArePartsWritten old new request names vs dir
  written = record {
    texts = texts;
    parts = r.parts;
    count = count ∙ all;
    parts_are = subst (λ k. ArePartsOf old request.job k names vs r.parts) all r.parts_are;
    merged = λ p less. r.merged p (omega (arith, less, all));
    whole = subst (λ k. Holding new (part_names dir k) texts) all whole;
    emptied = emptied;
    begins = begins;
    others = subst (λ k. ChangesAmong old new (merged_names dir k)) all others;
  }

  -- and the pairs of each shard are those of its verdict
  pub all_written : (notes : List Note) → notes ≡ notes_for (part_files n) texts → length totals ≡ length vs → ((i : ℕ) → i < length vs → FitsAt request.job vs totals i) → AreAllWritten old new request names vs dir notes
  all_written notes told same fits = record {
    written = written;
    notes_are = told ∙ ap (λ k. notes_for (part_files k) texts) all;
    totals = λ i less. fits i less (slice_index_or r.parts i []) (sum_at request.job r.parts totals i r.sums (omega (arith, less, same)));
  }

  -- or those of one are others
  pub other_written : (e : ShardFault) → length totals ≡ length vs → IsUnfit request.job vs totals e → HasOtherPairs old new request names vs dir e
  other_written e same unfit = (written, other_pairs request.job vs r.parts totals e same r.sums unfit)

module _ (old mid new : Stored) (known : Known) (names : List (List ℕ)) (list : Option (List ℕ)) (dir : List ℕ) (partial : Bool) (vs : List Told) (r : RequestSpec) (m : Told) (notes : List Note) where
  -- the verdict is written behind all parts
  pub named : (text : List ℕ) → text ≡ spelling (with_outputs m notes) → AreHeard old names vs → IsReady old known names list dir partial vs r m
      → AreAllWritten old mid r names vs dir notes → ChangesOnly mid new (name_of_verdict dir) → new (name_of_verdict dir) text → IsMerged old new known names list dir partial (with_outputs m notes)
  named text t held k a only here =
      let w = a.written in
      record {
        verdicts = vs;
        outputs = w.texts;
        held = held;
        apart = k.apart;
        unshared = subst (λ c. AreUnshared known names list dir c) (sym w.count) k.unshared;
        merging = merging_ready old mid known names list dir partial vs r m notes k a;
        parts = subst (λ c. Holding new (part_names dir c) w.texts) (sym w.count) (whole_still old mid new dir r.parts w.texts only w.whole);
        verdict = subst (new (name_of_verdict dir)) t here;
        others = subst (λ c. ChangesAmong old new (merged_names dir c)) (sym w.count) (among_again old mid new dir r.parts w.others only);
      }

  -- it is not
  pub unnamed : (unreadable first later : Faulty) (e : ShardFault) → AreHeard old names vs → IsReady old known names list dir partial vs r m
      → AreAllWritten old mid r names vs dir notes → ChangesOnly mid new (name_of_verdict dir) → Begins mid new (name_of_verdict dir) (spelling (with_outputs m notes)) → ((n : List ℕ) → later n → first n)
      → ReportsUnwritten (later (name_of_verdict dir)) (name_of_verdict dir) e → IsUnfinished old new unreadable first known names list dir partial e
  unnamed unreadable first later e held k a only begins still tells =
      let w = a.written in
      record {
        verdicts = vs;
        request = r;
        joined = m;
        held = held;
        ready = k;
        why = inr (record {
          joined = with_outputs m notes;
          texts = w.texts;
          merging = merging_ready old mid known names list dir partial vs r m notes k a;
          whole = subst (λ c. Holding new (part_names dir c) w.texts) (sym w.count) (whole_still old mid new dir r.parts w.texts only w.whole);
          begins = begun_again old mid new dir (spelling (with_outputs m notes)) w.begins begins;
          others = subst (λ c. ChangesAmong old new (merged_names dir c)) (sym w.count) (among_again old mid new dir r.parts w.others only);
          why = unwritten_back (later (name_of_verdict dir)) (first (name_of_verdict dir)) (name_of_verdict dir) (name_of_verdict dir) e (still (name_of_verdict dir)) refl tells;
        });
      }
