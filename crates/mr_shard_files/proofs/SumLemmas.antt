-- Pairs that a merger counted of the shards' parts: what their lines state.
use Rattle.std.proofs.Common.{◌≡◌, ℕ, zero, suc, ◌<◌, ◌^◌, inl, inr, List, [], ◌∷◌, ◌++◌, append_assoc, append-nil, length, refl, ap, sym, ◌∙◌, subst, arith, Option, None, Some}
use Rattle.std.specs.Prelude.{decimal, slice_index_or}
use Rattle.std.specs.List.{AllByRecursion, flat_map}
use Rattle.mr_bytes.specs.declared.Value.TheVariants.{At}
use Rattle.mr_bytes.specs.Cut.{Lacks}
use Rattle.mr_jobs.specs.JobSpec.{JobSpec, group_text_of}
use Rattle.mr_jobs.specs.declared.job.GroupText.{GroupText}
use Rattle.mr_jobs.specs.declared.job.GroupText.TheVariants.{Count, Lines, Files}
use Rattle.mr_reduce.specs.Text.{comma_separated, files_line, files_of, place_line}
use Rattle.mr_shards.specs.declared.cursor.Held.{Held}
use Rattle.mr_shards.specs.declared.merger.ShardText.{ShardText}
use Rattle.mr_shards.specs.Cursors.{IsSum, all_pairs, pairs_in}
use Rattle.mr_shards.specs.Lines.{EndsLine, HasLine, groups_in, lines}
use Rattle.mr_shards.specs.Merged.{Group, group_text_for, texts}
use Rattle.mr_shards.specs.Refused.{IsRest, IsShardText, text_at}
use Rattle.mr_shards.specs.Rounds.{pairs_held}
use Rattle.mr_shards.specs.Verdict.{Told}
use Rattle.mr_shards.proofs.HeadLemmas.{pairs-cons}
use Rattle.mr_shards.proofs.ReadingLemmas.{Lacks-append, decimal-lacks, files-are, line-text, lines-next, lines-none, one_reading, place-first, separated-lack, total-first}
use Rattle.mr_shards.proofs.RefusedLemmas.{have-lines}
use Rattle.mr_shard_files.specs.declared.fault.ShardFault.{ShardFault}
use Rattle.mr_shard_files.specs.declared.fault.ShardFault.TheVariants.{OtherTotal}
use Rattle.mr_shard_files.specs.Beside.{AreOutputs}
use Rattle.mr_shard_files.specs.Pairs.{HaveTotal, IsOtherPairs, IsTotalOf, IsUnfit, StateTogether, StatesFor, total_at}
use Rattle.mr_shard_files.proofs.PairLemmas.{have_one}

-- the line of a group, which states its pairs
record IsLine (form : GroupText) (g : Group) : Type 0 where
  pub line : List ℕ
  pub clear : Lacks 10 line
  pub states : StatesFor form line (pairs_in form g)
  pub text : (rest : List ℕ) → group_text_for form g ++ rest ≡ line ++ 10 ∷ rest

-- no line feed in a key, and none in what a line tells behind its tab
clear_behind : (key told : List ℕ) → Lacks 10 key → Lacks 10 told → Lacks 10 (key ++ 9 ∷ told)
clear_behind key told h k = Lacks-append 10 key (9 ∷ told) h (λ e. omega (arith, e), k)

no_feed : (n : ℕ) → n < 2 ^ 64 → Lacks 10 (decimal n)
no_feed n small = decimal-lacks 10 n (λ h. omega (arith, h.0)) small

line_of : (form : GroupText) (g : Group) → HasLine form g → IsLine form g
line_of Count g h =
    let n = length g.values in
    record {
      line = g.key ++ 9 ∷ decimal n;
      clear = clear_behind g.key (decimal n) h.0 (no_feed n h.1);
      states = (h.1, (g.key, refl));
      text = total-first g.key n;
    }
line_of Lines g h =
    let w = h.1 in
    let told : List ℕ = decimal w.0 ++ 58 ∷ decimal w.1 in
    record {
      line = g.key ++ 9 ∷ told;
      clear = clear_behind g.key told h.0 (Lacks-append 10 (decimal w.0) (58 ∷ decimal w.1) (no_feed w.0 w.2) (λ e. omega (arith, e), no_feed w.1 w.3));
      states = ap length w.4;
      text = λ rest. ap (λ l. l ++ rest) (ap (flat_map (place_line g.key)) w.4 ∙ append-nil (place_line g.key (At w.0 w.1))) ∙ place-first g.key w.0 w.1 rest;
    }
line_of Files g h =
    let w = h.1 in
    let told : List ℕ = comma_separated (w.0 ∷ w.1) in
    record {
      line = g.key ++ 9 ∷ told;
      clear = clear_behind g.key told h.0 (separated-lack 10 w.0 w.1 (λ i. omega (arith, i.0)) (λ e. omega (arith, e)) w.3);
      states = refl;
      text = λ rest. ap (λ vs. files_line g.key (files_of vs) ++ rest) w.4 ∙ ap (λ fs. files_line g.key fs ++ rest) (files-are (w.0 ∷ w.1) w.2) ∙ line-text g.key told rest;
    }

no_pairs : (job : JobSpec) → all_pairs job [] ≡ 0
unfolding all_pairs
no_pairs job = refl

-- so lines of the job do together
lines_state : (job : JobSpec) (gs : List Group) → AllByRecursion (HasLine (group_text_of job)) gs → EndsLine (texts job gs) × StateTogether job (lines (texts job gs)) (all_pairs job gs)
lines_state job [] all = (inl refl, subst (λ ls. StateTogether job ls (all_pairs job [])) (sym lines-none) (no_pairs job))
lines_state job (g ∷ gs) all =
    let l = line_of (group_text_of job) g all.0 in
    let rest : List ℕ = texts job gs in
    let behind = lines_state job gs all.1 in
    let whole : texts job (g ∷ gs) ≡ l.line ++ 10 ∷ rest = l.text rest in (
      ends l.line rest whole behind.0,
      subst (λ ls. StateTogether job ls (all_pairs job (g ∷ gs))) (sym (ap lines whole ∙ lines-next l.line rest l.clear))
          (pairs_in (group_text_of job) g, all_pairs job gs, l.states, behind.1, pairs-cons job g gs),
    )
  where
    ends : {text : List ℕ} (line rest : List ℕ) → text ≡ line ++ 10 ∷ rest → EndsLine rest → EndsLine text
    ends line rest e (inl none) = inr (line, e ∙ ap (λ r. line ++ 10 ∷ r) none)
    ends line rest e (inr (first, is)) = inr (line ++ 10 ∷ first, e ∙ ap (λ r. line ++ 10 ∷ r) is ∙ sym (append_assoc line (10 ∷ first) (10 ∷ [])))

have_pairs : (job : JobSpec) (text : List ℕ) → IsRest job None text → HaveTotal job (text ∷ []) (all_pairs job (groups_in job text))
have_pairs job text r =
    let all = have-lines job r.groups r.lines in
    let state = lines_state job r.groups all in
    let told : StateTogether job (lines text) (all_pairs job r.groups) = subst (λ t. StateTogether job (lines t) (all_pairs job r.groups)) (sym r.text_is) state.1 in
    let read : r.groups ≡ groups_in job text = sym (ap (groups_in job) r.text_is ∙ one_reading job r.groups all) in (
      (subst EndsLine (sym r.text_is) state.0, tt),
      subst (StateTogether job (lines text ++ [])) (ap (all_pairs job) read) (subst (λ ls. StateTogether job ls (all_pairs job r.groups)) (sym (append-nil (lines text))) told),
    )

-- what was counted of a text is what its lines state
counted_total : (job : JobSpec) (text : List ℕ) (o : Option ℕ) → IsRest job None text → IsSum job o [] (groups_in job text) → IsTotalOf job (text ∷ []) o
counted_total job text None r s = λ n small t. omega (arith, have_one job (text ∷ []) n (all_pairs job (groups_in job text)) t (have_pairs job text r), s, small)
counted_total job text (Some n) r s =
    let same : all_pairs job (groups_in job text) ≡ n = omega (arith, s, no_pairs job) in
    subst (HaveTotal job (text ∷ [])) same (have_pairs job text r)

-- ---- all shards

module _ (job : JobSpec) where
  -- of each text so many pairs were counted
  abbrev pub AreCounts : List (List ℕ) → List Held → Type 0
  AreCounts [] [] = Unit {0}
  AreCounts (t ∷ ts) (h ∷ hs) = IsTotalOf job (t ∷ []) h.pairs × AreCounts ts hs
  AreCounts _ _ = ⊥

  pub counts_of : (vs : List Told) (ts : List (List ℕ)) (os : List ShardText) (hs : List Held) → AreOutputs vs ts os → AllByRecursion (IsShardText job) os → length hs ≡ length os
      → ((i : ℕ) → i < length os → IsSum job (pairs_held hs i) [] (groups_in job (text_at os i))) → AreCounts ts hs
  counts_of [] [] [] [] o l e c = tt
  counts_of [] [] [] (h ∷ hs) o l e c = absurd (omega (arith, e))
  counts_of [] [] (q ∷ os) hs o l e c = absurd o
  counts_of [] (t ∷ ts) os hs o l e c = absurd o
  counts_of (v ∷ vs) [] os hs o l e c = absurd o
  counts_of (v ∷ vs) (t ∷ ts) [] hs o l e c = absurd o
  counts_of (v ∷ vs) (t ∷ ts) (q ∷ os) [] o l e c = absurd (omega (arith, e))
  counts_of (v ∷ vs) (t ∷ ts) (q ∷ os) (h ∷ hs) o l e c = (
    counted_total job t h.pairs (subst (IsRest job None) o.1 l.0.0) (subst (λ x. IsSum job h.pairs [] (groups_in job x)) o.1 (c 0 (omega arith))),
    counts_of vs ts os hs o.2 l.1 (omega (arith, e)) (λ i less. c (suc i) (omega (arith, less))),
  )

  -- these are the totals of the shards' parts
  abbrev pub AreSums : List (List (List ℕ)) → List (Option ℕ) → Type 0
  AreSums [] [] = Unit {0}
  AreSums (ps ∷ pss) (t ∷ ts) = IsTotalOf job ps t × AreSums pss ts
  AreSums _ _ = ⊥

  pub sum_at : (pss : List (List (List ℕ))) (ts : List (Option ℕ)) (i : ℕ) → AreSums pss ts → i < length ts → IsTotalOf job (slice_index_or pss i []) (total_at ts i)
  sum_at [] [] i h less = absurd (omega (arith, less))
  sum_at [] (t ∷ ts) i h less = absurd h
  sum_at (ps ∷ pss) [] i h less = absurd h
  sum_at (ps ∷ pss) (t ∷ ts) zero h less = h.0
  sum_at (ps ∷ pss) (t ∷ ts) (suc i) h less = sum_at pss ts i h.1 (omega (arith, less))

  -- where a total doesn't fit, neither do the parts
  pub other_pairs : (vs : List Told) (pss : List (List (List ℕ))) (ts : List (Option ℕ)) (e : ShardFault) → length ts ≡ length vs → AreSums pss ts → IsUnfit job vs ts e → IsOtherPairs job vs pss e
  other_pairs vs pss ts (OtherTotal shard) count s (within, before, other) = (
    within,
    λ i less. before i less (slice_index_or pss i []) (sum_at pss ts i s (omega (arith, count, less, within))),
    other (slice_index_or pss shard []) (sum_at pss ts shard s (omega (arith, count, within))),
  )
  other_pairs vs pss ts e count s u = absurd u
