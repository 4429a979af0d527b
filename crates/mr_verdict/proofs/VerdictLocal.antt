-- No later item bears on a fault.
use Rattle.std.proofs.Common.{◌≡◌, ℕ, Option, Some, Result, Err, List, [], ◌∷◌, ◌++◌, length, refl, ap, ◌∙◌, nat_le, ◌==◌}
use Rattle.mr_bytes.specs.declared.RecordName.{RecordName}
use Rattle.mr_splits.specs.Named.{named_records}
use Rattle.mr_splits.specs.Cut.{is_record}
use Rattle.mr_certform.specs.declared.grammar_state.Item.{Item}
use Rattle.mr_certform.specs.declared.grammar_state.Item.TheVariants.{Skips, Skip, End}
use Rattle.mr_certform.specs.declared.grammar_state.GrammarState.TheVariants.{AtMagic}
use Rattle.mr_certform.specs.Spelling.{bytes_from, stop}
use Rattle.mr_certform.proofs.Walks.{longest_items}
use Rattle.mr_splits.specs.Kept.{is_past}
use Rattle.mr_verdict.specs.declared.answers.No.{No}
use Rattle.mr_verdict.specs.declared.answers.No.TheVariants as Fault
use Rattle.mr_verdict.specs.Verdict.{WalkCase, Reached, Subject, passes, start, tests, after, part_faults, subject_of, last_of, skip_faults, count_faults, item_eq, job_wanted, input_wanted, wanted_faults, faults, Accepted, told_by, case_of, verdict_of, first}
use Rattle.mr_verdict.specs.VerdictLaws.{IsTested, LaterItemsDontMatter}

module _ (fault : No) (tested : IsTested fault) where
  -- this is the first of the faults
  abbrev Tells : List No → Type 0
  Tells faults = ◌≡◌ {A = Option No} (first faults) (Some fault)

  unstopped : (at : ℕ) → Tells (Fault.Malformed at ∷ []) → ⊥
  unstopped at e = by fault tested e
    where
      by : (f : No) → IsTested f → ◌≡◌ {A = Option No} (Some (Fault.Malformed at)) (Some f) → ⊥
      by (Fault.Malformed n) t e = t
      by _ t e = cc

  -- behind the same tests
  same_tests : (ts xs ys : List No) → (Tells xs → Tells ys) → Tells (ts ++ xs) → Tells (ts ++ ys)
  same_tests [] xs ys f h = f h
  same_tests (t ∷ ts) xs ys f h = h

  parts_tell : (s : Subject) (m n : ℕ) (st : Reached) (is js : List Item) → Tells (part_faults s m st is) → Tells (part_faults s n st (is ++ js))
  parts_tell s m n st [] js h = absurd (unstopped m h)
  parts_tell s m n st (End ∷ is) js h = h
  parts_tell s m n st (i ∷ is) js h = same_tests (tests s st i) (part_faults s m (after s st i) is) (part_faults s n (after s st i) (is ++ js)) (parts_tell s m n (after s st i) is js) h

  module _ (c : WalkCase) (n : ℕ) where
    -- the same, its items stopping elsewhere
    abbrev other : WalkCase
    other = record c { stop = n }

    skips_tell : (skips : List RecordName) (is js : List Item) → Tells (skip_faults c skips is) → Tells (skip_faults other skips (is ++ js))
    skips_tell skips [] js h = absurd (unstopped c.stop h)
    skips_tell skips (Skip s ∷ is) js h =
        same_tests (passes (is_past (last_of skips) s) (Fault.SkipOrder (length skips)) ++ passes (is_record (named_records c.request.split c.files) s) (Fault.NoSuchRecord (length skips)))
        (skip_faults c (skips ++ s ∷ []) is) (skip_faults other (skips ++ s ∷ []) (is ++ js)) (skips_tell (skips ++ s ∷ []) is js) h
    skips_tell skips (i ∷ is) js h = parts_tell (subject_of c skips) c.stop n start (i ∷ is) js h

    count_tells : (is js : List Item) → Tells (count_faults c is) → Tells (count_faults other (is ++ js))
    count_tells [] js h = absurd (unstopped c.stop h)
    count_tells (Skips k ∷ is) js h = same_tests (passes (nat_le k c.request.skips) (Fault.TooManySkips k)) (skip_faults c [] is) (skip_faults other [] (is ++ js)) (skips_tell [] is js) h
    count_tells (i ∷ is) js h = absurd (unstopped c.stop h)

    wanted_tell : (wanted : List Item) (f : No) (b d : List Item → List No) → ((is js : List Item) → Tells (b is) → Tells (d (is ++ js)))
        → (is js : List Item) → Tells (wanted_faults c wanted f b is) → Tells (wanted_faults other wanted f d (is ++ js))
    wanted_tell [] f b d tell is js h = tell is js h
    wanted_tell (w ∷ wanted) f b d tell [] js h = absurd (unstopped c.stop h)
    wanted_tell (w ∷ wanted) f b d tell (i ∷ is) js h =
        same_tests (passes (item_eq i w) f) (wanted_faults c wanted f b is) (wanted_faults other wanted f d (is ++ js)) (wanted_tell wanted f b d tell is js) h

    all_tell : (is js : List Item) → Tells (faults c is) → Tells (faults other (is ++ js))
    all_tell is js h =
        same_tests (passes (length c.outputs == c.request.parts) Fault.OutputCount)
        (wanted_faults c (job_wanted c.request) Fault.OtherJob (wanted_faults c (input_wanted c.files) Fault.OtherInput (count_faults c)) is)
        (wanted_faults other (job_wanted c.request) Fault.OtherJob (wanted_faults other (input_wanted c.files) Fault.OtherInput (count_faults other)) (is ++ js))
        (wanted_tell (job_wanted c.request) Fault.OtherJob (wanted_faults c (input_wanted c.files) Fault.OtherInput (count_faults c)) (wanted_faults other (input_wanted c.files) Fault.OtherInput (count_faults other))
        (wanted_tell (input_wanted c.files) Fault.OtherInput (count_faults c) (count_faults other) count_tells) is js) h

told_first : (faults : List No) (a : Accepted) (fault : No) → ◌≡◌ {A = Option No} (first faults) (Some fault) → ◌≡◌ {A = Result Accepted No} (told_by faults a) (Err fault)
told_first [] a fault e = absurd (cc)
told_first (f ∷ faults) a fault e = let same : f ≡ fault = cc in ap (λ (w : No). let it : Result Accepted No = Err w in it) same

pub later_items_dont_matter : LaterItemsDontMatter
unfolding verdict_of
later_items_dont_matter c v is more fault order end tells tested =
    let found = longest_items v (bytes_from v AtMagic is ++ more) is more order end refl in
    let here = all_tell fault tested c (stop (bytes_from v AtMagic is ++ more)) is found.0 tells in
    told_first _ _ fault (ap (λ (w : List Item). first (faults (case_of c.request c.files c.outputs (bytes_from v AtMagic is ++ more)) w)) found.1 ∙ here)
