-- The premises of the laws on done jobs hold together, of a run that left out a record.
use Rattle.std.proofs.Common.{◌≡◌, ℕ, Some, List, [], ◌∷◌, slice_get, refl, ap, sym, ◌∙◌, subst, inl, inr, ◌⊎◌, arith, false}
use Rattle.std.specs.Prelude.{IsTrue}
use Rattle.mr_bytes.specs.Words.{extend, word_spans_from}
use Rattle.mr_records.specs.Records.{lengthen, records_from}
use Rattle.mr_splits.specs.Named.{named_from, named_files, named_records}
use Rattle.mr_splits.specs.Cut.{is_record}
use Rattle.mr_input.specs.Files.{split_total}
use Rattle.mr_bytes.specs.Lists.{Has}
use Rattle.mr_core.specs.declared.event.Task.TheVariants.{Map as MapTask, Reduce as ReduceTask}
use Rattle.mr_core.specs.declared.event.Event.{Event}
use Rattle.mr_core.specs.declared.event.Event.TheVariants.{MapFailed, ReduceDone}
use Rattle.mr_core.specs.declared.event.Reply.{Reply}
use Rattle.mr_core.specs.declared.event.Reply.TheVariants.{Accepted}
use Rattle.mr_core.specs.Master.{Attempt, Run, opening}
use Rattle.mr_core.specs.Laws.{IsMapOf}
use Rattle.mr_core.specs.Worked.{shape}
use Rattle.mr_core.proofs.RunLaws.{run_replay}
use Rattle.mr_book.specs.Assembled.{in_split}
use Rattle.mr_book.specs.Faithful.{IsFaithful, IsOpenedFor, IsValueOf}
use Rattle.mr_book.specs.Assembled.{fixed_sets}
use Rattle.mr_book.specs.Worked.{WorkedIsDone, its_value, last_state, one_left_out, one_request, two_lines}
use Rattle.mr_book.proofs.Done.{handed_fixed}

event_is : (x y : Event × Reply) → x ≡ y → x.0 ≡ y.0
event_is x y is = ap (λ (w : Event × Reply). w.0) is

another : {A : Type 0} (x y : Event × Reply) → (x.0 ≡ y.0 → ⊥) → x ≡ y → A
another x y ne is = absurd (ne (event_is x y is))

only_commit : (a o : ℕ) → Has one_left_out (ReduceDone a o, Accepted) → (3 ≡ a) × (8 ≡ o)
only_commit a o (inl e) = another _ _ (λ d. cc d) e
only_commit a o (inr (inl e)) = another _ _ (λ d. cc d) e
only_commit a o (inr (inr (inl e))) = another _ _ (λ d. cc d) e
only_commit a o (inr (inr (inr (inl e)))) = another _ _ (λ d. cc d) e
only_commit a o (inr (inr (inr (inr (inl e))))) = another _ _ (λ d. cc d) e
only_commit a o (inr (inr (inr (inr (inr (inl e)))))) = another _ _ (λ d. cc d) e
only_commit a o (inr (inr (inr (inr (inr (inr (inl e))))))) = another _ _ (λ d. cc d) e
only_commit a o (inr (inr (inr (inr (inr (inr (inr (inl e)))))))) = another _ _ (λ d. cc d) e
only_commit a o (inr (inr (inr (inr (inr (inr (inr (inr (inl e))))))))) = let d : ReduceDone 3 8 ≡ ReduceDone a o = event_is _ _ e in (cc d, cc d)
only_commit a o (inr (inr (inr (inr (inr (inr (inr (inr (inr h))))))))) = absurd h

run_holds : Run (shape 1 1 1 8 1) (opening (shape 1 1 1 8 1)) one_left_out last_state
run_holds = run_replay (shape 1 1 1 8 1) (opening (shape 1 1 1 8 1)) one_left_out last_state refl

the_value : IsValueOf one_request two_lines one_left_out last_state 3 (its_value 8)
the_value = record {
  partition = 0;
  sets = fixed_sets last_state;
  reduce = (record { worker = 0; task = ReduceTask 0; skips = []; fetched = Some 5 ∷ []; live = false }, refl, refl);
  handed = handed_fixed (shape 1 1 1 8 1) one_left_out last_state run_holds refl 3 8 (inr (inr (inr (inr (inr (inr (inr (inr (inl refl)))))))));
  is = refl;
}

record_is : IsTrue (is_record (named_records one_request.split two_lines) (in_split 0 0))
unfolding extend word_spans_from lengthen records_from named_from named_files
record_is = refl

-- all attempts at maps are of split 0
split_is : (a s r : ℕ) (k : List ℕ) → (0 ≡ a) ⊎ (1 ≡ a) → 0 ≡ r → IsMapOf last_state a s k → IsTrue (is_record (named_records one_request.split two_lines) (in_split s r))
split_is a s r k (inl e) z is = at_first (subst (λ i. slice_get last_state.attempts i ≡ Some is.0) (sym e) is.1)
  where
    at_first : slice_get last_state.attempts 0 ≡ Some is.0 → IsTrue (is_record (named_records one_request.split two_lines) (in_split s r))
    at_first d =
        let same : record { worker = 0; task = MapTask 0; skips = []; fetched = []; live = false } ≡ is.0 = cc d in
        let task : MapTask 0 ≡ MapTask s = ap (λ (x : Attempt). x.task) same ∙ is.2 in
        let zero_s : 0 ≡ s = cc task in
        subst (λ n. IsTrue (is_record (named_records one_request.split two_lines) (in_split n r))) zero_s (subst (λ n. IsTrue (is_record (named_records one_request.split two_lines) (in_split 0 n))) z record_is)
split_is a s r k (inr e) z is = at_second (subst (λ i. slice_get last_state.attempts i ≡ Some is.0) (sym e) is.1)
  where
    at_second : slice_get last_state.attempts 1 ≡ Some is.0 → IsTrue (is_record (named_records one_request.split two_lines) (in_split s r))
    at_second d =
        let same : record { worker = 0; task = MapTask 0; skips = []; fetched = []; live = false } ≡ is.0 = cc d in
        let task : MapTask 0 ≡ MapTask s = ap (λ (x : Attempt). x.task) same ∙ is.2 in
        let zero_s : 0 ≡ s = cc task in
        subst (λ n. IsTrue (is_record (named_records one_request.split two_lines) (in_split n r))) zero_s (subst (λ n. IsTrue (is_record (named_records one_request.split two_lines) (in_split 0 n))) z record_is)

only_failures : (a r : ℕ) → Has one_left_out (MapFailed a r, Accepted) → ((0 ≡ a) ⊎ (1 ≡ a)) × (0 ≡ r)
only_failures a r (inl e) = another _ _ (λ d. cc d) e
only_failures a r (inr (inl e)) = let d : MapFailed 0 0 ≡ MapFailed a r = event_is _ _ e in (inl (cc d), cc d)
only_failures a r (inr (inr (inl e))) = another _ _ (λ d. cc d) e
only_failures a r (inr (inr (inr (inl e)))) = let d : MapFailed 1 0 ≡ MapFailed a r = event_is _ _ e in (inr (cc d), cc d)
only_failures a r (inr (inr (inr (inr (inl e))))) = another _ _ (λ d. cc d) e
only_failures a r (inr (inr (inr (inr (inr (inl e)))))) = another _ _ (λ d. cc d) e
only_failures a r (inr (inr (inr (inr (inr (inr (inl e))))))) = another _ _ (λ d. cc d) e
only_failures a r (inr (inr (inr (inr (inr (inr (inr (inl e)))))))) = another _ _ (λ d. cc d) e
only_failures a r (inr (inr (inr (inr (inr (inr (inr (inr (inl e))))))))) = another _ _ (λ d. cc d) e
only_failures a r (inr (inr (inr (inr (inr (inr (inr (inr (inr h))))))))) = absurd h

faithful : IsFaithful one_request two_lines one_left_out last_state its_value
faithful = record {
  values = λ a o h.
      let e = only_commit a o h in
      subst (λ i. IsValueOf one_request two_lines one_left_out last_state i (its_value o)) e.0 (subst (λ n. IsValueOf one_request two_lines one_left_out last_state 3 (its_value n)) e.1 the_value);
  failures = λ a r s k h is. let e = only_failures a r h in split_is a s r k e.0 e.1 is;
}

opened : IsOpenedFor one_request two_lines (shape 1 1 1 8 1)
unfolding split_total
opened = record { maps = refl; parts = refl; skips = refl }

pub is_done : WorkedIsDone
is_done = record {
  split = omega arith;
  parts = omega arith;
  attempts = omega arith;
  opened = opened;
  run = run_holds;
  ends = refl;
  faithful = faithful;
}
