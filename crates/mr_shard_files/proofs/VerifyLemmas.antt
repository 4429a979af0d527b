-- Parts and ranges that are tested against a verdict.
use Rattle.std.proofs.Common.{◌≡◌, ℕ, suc, ◌+◌, ◌^◌, true, List, [], ◌∷◌, ◌++◌, append-nil, length, refl, ap, sym, ◌∙◌, subst, arith, string_bytes, inl, inr}
use Rattle.std.specs.Prelude.{Option, Some}
use Rattle.mr_files.specs.Holding.{Faulty, Stored}
use Rattle.mr_files.specs.Ranges.{IsRangeRefusal}
use Rattle.mr_files.specs.Refusals.{IsUnread}
use Rattle.mr_files.specs.declared.ranges.RangeFault.{RangeFault}
use Rattle.mr_files.specs.declared.ranges.RangeFault.TheVariants.{File, InsideALine, PastEnd, TooLong}
use Rattle.mr_files.specs.declared.store.FileFault.{FileFault}
use Rattle.mr_files.specs.declared.store.FileFault.TheVariants as file
use Rattle.mr_jobs.specs.JobSpec.{JobSpec}
use Rattle.mr_shards.specs.RangeNotes.{RangeNote}
use Rattle.mr_shards.specs.RangeVerdicts.{files_of}
use Rattle.mr_shards.specs.Verdict.{Told}
use Rattle.mr_shard_files.specs.declared.fault.ShardFault.{ShardFault}
use Rattle.mr_shard_files.specs.declared.fault.ShardFault.TheVariants.{CannotRead, OtherPart, OutOfMemory}
use Rattle.mr_shard_files.specs.declared.stream.Part.{Part}
use Rattle.mr_shard_files.specs.Beside.{ReportsCause, StandsBeside}
use Rattle.mr_shard_files.specs.Faults.{IsPartFault, IsUnopened}
use Rattle.mr_shard_files.specs.Streams.{IsOpened, IsOther, IsSettled, IsStream, Moves, ReportsUnread, is_done}
use Rattle.mr_shard_files.specs.Told.{told_of_file, told_of_range}
use Rattle.mr_shard_files.specs.Pairs.{IsTotalOf}
use Rattle.mr_shard_files.specs.Verified.{AreNoted, IsNotedPart, IsRangeFault}
use Rattle.mr_shard_files.proofs.StreamLemmas.{moves_on}
use Rattle.mr_shard_files.proofs.SettleLemmas.{moved_on, other_part, unread_part, whole}

module _ {R : Type 0} (remaining : R → Option (List ℕ)) (can_fail : R → Type 0) (holds : Stored) (unreadable : Faulty) (p : ℕ) where
  -- a part of which some bytes were passed
  moved : (name : List ℕ) (v : Told) (passed : List ℕ) (o m : Part R) → IsOpened holds unreadable remaining can_fail p name v o → Moves remaining can_fail passed o m
      → IsStream holds unreadable remaining can_fail p name v passed m
  moved name v passed o m opened moves = moved_on remaining can_fail holds unreadable p name v [] passed o m opened.0 moves

  pub noted : (job : JobSpec) (name : List ℕ) (v : Told) (passed : List ℕ) (o m e : Part R) (t : Option ℕ) → IsOpened holds unreadable remaining can_fail p name v o
      → Moves remaining can_fail passed o m → is_done m ≡ true → IsTotalOf job ((passed ++ m.held) ∷ []) t → IsSettled remaining can_fail p v m e → IsNotedPart holds job name v p t
  noted job name v passed o m e t opened moves done total settled =
      let w = whole remaining can_fail holds unreadable p (files_of v.inputs []) name v passed m e (moved name v passed o m opened moves) settled in
      let same : passed ++ m.held ≡ w.text =
      sym (sym w.text_is ∙ w.may.text_is ∙ ap (λ x. passed ++ (m.held ++ x)) (w.may.none_more done) ∙ ap (λ x. passed ++ x) (append-nil m.held)) in
      (w.text, w.stands, w.told, subst (λ x. IsTotalOf job (x ∷ []) t) same total)

  pub another : (name : List ℕ) (v : Told) (passed : List ℕ) (o m : Part R) → IsOpened holds unreadable remaining can_fail p name v o → Moves remaining can_fail passed o m
      → IsOther remaining can_fail p v m → IsPartFault holds unreadable p 0 name v (OtherPart 0 p)
  another name v passed o m opened moves other = (refl, refl, other_part remaining can_fail holds unreadable p name v passed m (moved name v passed o m opened moves) other)

  pub unread_first : (name : List ℕ) (v : Told) (o : Part R) (e : ShardFault) → IsOpened holds unreadable remaining can_fail p name v o
      → ReportsUnread (can_fail o.reader) (string_bytes o.name) e → IsPartFault holds unreadable p 0 name v e
  unread_first name v o e opened t = unread_part remaining can_fail holds unreadable p name v [] o 0 e opened.0 t

  pub unread_later : (name : List ℕ) (v : Told) (passed : List ℕ) (o m : Part R) (e : ShardFault) → IsOpened holds unreadable remaining can_fail p name v o
      → Moves remaining can_fail passed o m → ReportsUnread (can_fail m.reader) (string_bytes m.name) e → IsPartFault holds unreadable p 0 name v e
  unread_later name v passed o m e opened moves t = unread_part remaining can_fail holds unreadable p name v passed m 0 e (moved name v passed o m opened moves) t

module _ {R : Type 0} (remaining : R → Option (List ℕ)) (can_fail : R → Type 0) where
  -- some bytes were passed, and more were read
  pub filled_on : (passed : List ℕ) (o m n : Part R) → Moves remaining can_fail passed o m → Moves remaining can_fail [] m n → Moves remaining can_fail passed o n
  filled_on passed o m n f g = subst (λ x. Moves remaining can_fail x o n) (append-nil passed) (moves_on remaining can_fail o m n passed [] f g)

module _ (holds : Stored) (unreadable : Faulty) where
  pub unopened_part : (p : ℕ) (name : List ℕ) (v : Told) (e : ShardFault) → IsUnopened unreadable p name e → IsPartFault holds unreadable p 0 name v e
  unopened_part p name v (CannotRead told) h = h
  unopened_part p name v OutOfMemory h = tt
  unopened_part p name v e h = absurd h

module _ (holds : Stored) (beside : List ℕ) (v : Told) where
  pub noted_more : (p : ℕ) (ts : List (List ℕ)) (t : List ℕ) → AreNoted holds beside v p ts → StandsBeside holds (p + length ts) beside t → ReportsCause (p + length ts) v t
      → AreNoted holds beside v p (ts ++ t ∷ [])
  noted_more p [] t h s r =
      let e : p + 0 ≡ p = omega arith in
      (subst (λ k. StandsBeside holds k beside t) e s, subst (λ k. ReportsCause k v t) e r, tt)
  noted_more p (x ∷ ts) t h s r =
      let e : p + suc (length ts) ≡ (p + 1) + length ts = omega arith in
      (h.0, h.1, noted_more (p + 1) ts t h.2 (subst (λ k. StandsBeside holds k beside t) e s) (subst (λ k. ReportsCause k v t) e r))

-- a range that is not read
module _ (holds : Stored) (unreadable : Faulty) (r : RangeNote) (name : List ℕ) (end input : ℕ) (named : name ≡ r.name) (ends : end ≡ r.from + r.length) where
  file_unread : (fault : FileFault) → IsUnread unreadable name fault → IsRangeFault holds unreadable input r (told_of_file fault)
  file_unread (file.CannotRead told) h = (subst unreadable named h.0, h.1 ∙ named)
  file_unread (file.CannotWrite told) h = absurd h
  file_unread file.OutOfMemory h = tt

  at_note : (fault : RangeFault) → IsRangeRefusal holds unreadable name r.from (Some end) (2 ^ 30) fault → IsRangeRefusal holds unreadable r.name r.from (Some (r.from + r.length)) (2 ^ 30) fault
  at_note fault h =
      subst (λ n. IsRangeRefusal holds unreadable n r.from (Some (r.from + r.length)) (2 ^ 30) fault) named
      (subst (λ e. IsRangeRefusal holds unreadable name r.from (Some e) (2 ^ 30) fault) ends h)

  pub range_refused : (fault : RangeFault) → IsRangeRefusal holds unreadable name r.from (Some end) (2 ^ 30) fault → IsRangeFault holds unreadable input r (told_of_range input fault)
  range_refused (File fault) h = file_unread fault h
  range_refused PastEnd h = (refl, inr (inr (inl (PastEnd, at_note PastEnd h))))
  range_refused (InsideALine byte) h = (refl, inr (inr (inl (InsideALine byte, at_note (InsideALine byte) h))))
  range_refused TooLong h = (refl, inr (inr (inl (TooLong, at_note TooLong h))))
