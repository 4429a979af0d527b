-- What is left to judge behind a border, of items and outputs at hand.
use Rattle.std.proofs.Common.{◌≡◌, ℕ, ◌+◌, ◌-◌, List, [], drop, ap, sym, ◌∙◌, arith}
use Rattle.std.proofs.lemmas.List.{get_or-drop}
use Rattle.std.specs.Prelude.{Result}
use Rattle.mr_bytes.specs.Pairs.{Triple}
use Rattle.mr_input.specs.Files.{contents, nth_file}
use Rattle.mr_certform.specs.declared.grammar_state.Item.{Item}
use Rattle.mr_certform.specs.Walking.{items_left, halt}
use Rattle.mr_verdict.specs.declared.items.JudgeError.{JudgeError}
use Rattle.mr_verdict.specs.Verdict.{Reached, part_faults, entries_in, first}
use Rattle.mr_verdict.specs.Steps.{subject, subject_with}
use Rattle.mr_verdict.proofs.ItemLemmas.{over}
use Rattle.mr_judge.specs.declared.border.Border.{Border}
use Rattle.mr_judge.specs.declared.remainder.Remainder.{Remainder}
use Rattle.mr_judge.specs.Borders.{behind_entries}
use Rattle.mr_judge.specs.Outputs.{IsTold, JudgesOn, Leaves, Through}
use Rattle.mr_judge.specs.Remainder.{faults_left, known_of}
use Rattle.mr_judge.proofs.JudgingLemmas.{told_as}
use Rattle.mr_judge.proofs.RestLemmas.{held}

-- what is left of the outputs behind a border
pub leaves_behind : (b : Border) (named : ℕ) (outs : List (List ℕ)) (rest : List ℕ) (later : List (List ℕ)) (st : Reached) → st ≡ behind_entries b named → rest ≡ drop b.from (nth_file outs (b.next - 1)) → later ≡ drop b.next outs
    → Leaves st outs rest later
leaves_behind b named outs rest later st e r l = record {
  rest_is = ap (λ (w : Reached). drop w.from (nth_file outs (w.next - 1))) e ∙ sym r;
  later_is = λ q. ap (λ (w : Reached). nth_file outs (w.next + q)) e ∙ (sym (get_or-drop b.next outs q []) ∙ ap (λ (w : List (List ℕ)). nth_file w q) (sym l));
}

-- so its first fault is told, or how many entries there are
pub told_behind : (r : Remainder) (rest : List ℕ) (later : List (List ℕ)) (ts : List Triple) (st : Reached) (n m : ℕ) (answer : Result ℕ JudgeError) → ts ≡ (known_of r).triples → st ≡ behind_entries r.border r.named
    → rest ≡ drop r.border.from (nth_file (contents r.outputs.now) (r.border.next - 1)) → later ≡ drop r.border.next (contents r.outputs.now)
    → Through (held rest later) st (λ outs. JudgesOn (over r.walker) (subject_with (record { request = r.request.now; triples = ts }) outs) st n m answer)
    → IsTold (faults_left r) (r.named + entries_in (items_left r.walker)) answer
told_behind r rest later ts st n m answer pairs e opened behind (front, (back, (here, judged))) =
    let outs = contents r.outputs.now in
    let j = judged outs (leaves_behind r.border r.named outs front back st e (here.0 ∙ opened) (here.1 ∙ behind)) in
    let is : List Item = j.0 in
    let at = j.1.0 in
    let w = j.1.1.0 in
    let s = subject_with (record { request = r.request.now; triples = ts }) outs in
    let same : first (faults_left r) ≡ first (part_faults s at st is) =
    sym (ap (λ (v : List Triple). first (part_faults (subject_with (record { request = r.request.now; triples = v }) outs) at st is)) pairs
    ∙ ap (λ v. first (part_faults (subject (known_of r)) v st is)) w.1
    ∙ ap (λ (v : Reached). first (part_faults (subject (known_of r)) (halt r.walker) v is)) e
    ∙ ap (λ (v : List Item). first (part_faults (subject (known_of r)) (halt r.walker) (behind_entries r.border r.named) v)) w.0) in
    told_as (part_faults s at st is) (faults_left r) (st.named + entries_in is) (r.named + entries_in (items_left r.walker)) answer same
    (omega (arith, ap (λ (v : Reached). v.named) e, ap entries_in w.0)) j.1.1.1.0
