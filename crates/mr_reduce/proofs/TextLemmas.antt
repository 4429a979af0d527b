-- The text of a group of a job that counts, and texts that grow.
use Rattle.std.proofs.Common.{◌≡◌, ℕ, ◌++◌, true, List, length, take, drop, arith, length-append, refl, ap, ◌∙◌, sym}
use Rattle.std.proofs.lemmas.List.{take-append-le, take-append-drop, take_all}
use Rattle.mr_bytes.specs.declared.Value.{Value}
use Rattle.mr_jobs.specs.declared.job.GroupText.{GroupText}
use Rattle.mr_jobs.specs.declared.job.GroupText.TheVariants.{Count}
use Rattle.mr_jobs.specs.JobSpec.{group_text_of, is_count}
use Rattle.mr_reduce.specs.Laws.{CountersTellTheNumber}
use Rattle.mr_reduce.specs.Text.{text_for, total_line}

tells_the_number : (form : GroupText) (key : List ℕ) (values : List Value) → is_count form ≡ true → text_for form key values ≡ total_line key (length values)
tells_the_number Count key values is = refl
tells_the_number form key values is = absurd (cc is)

pub counters_tell_the_number : CountersTellTheNumber
counters_tell_the_number job key values is = tells_the_number (group_text_of job) key values is

-- what stands in front stays there while the text behind it changes
pub front-kept : (n m : ℕ) (first more middle now : List ℕ) → middle ≡ first ++ more → n ≡ length first → m ≡ length middle
    → take m now ≡ middle → take n now ≡ first
front-kept n m first more middle now is n_is m_is kept =
    ap (take n) (sym (take-append-drop m now))
    ∙ ap (λ l. take n (l ++ drop m now)) (kept ∙ is)
    ∙ take-append-le n (first ++ more) (drop m now) (omega (arith, n_is, length-append first more))
    ∙ take-append-le n first more (omega (arith, n_is)) ∙ take_all n first (omega (arith, n_is))
