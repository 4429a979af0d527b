-- One more record of a file.
use Rattle.std.proofs.Common.{◌≡◌, ℕ, ◌+◌, ◌<◌, ◌≤◌, List, [], ◌∷◌, ◌++◌, map, drop, refl, sym, ◌∙◌, ap, subst, arith, append_assoc, All}
use Rattle.std.proofs.lemmas.List.{map_push, length_push}
use Rattle.std.proofs.lemmas.List.Elements.{All-push, All-nil}
use Rattle.mr_bytes.specs.declared.Span.{Span}
use Rattle.mr_records.specs.Records.{Record, record_at, records_from, Within}
use Rattle.mr_splits.specs.Table.{spans_from, Takes}
use Rattle.mr_splits.proofs.SpanLemmas.{spans_from-push, behind-push}

pub takes-none : (bytes : List ℕ) (from end : ℕ) → Takes bytes from end from []
takes-none bytes from end = record {
  within = All-nil (Within bytes);
  belong = All-nil (λ (s : Span). (from ≤ s.start) × (s.start < end));
  records = refl;
  few = omega arith;
  next_is = refl;
}

pub takes-more : (bytes : List ℕ) (from end at stop : ℕ) (more : List ℕ) → from ≤ at → at < end → Within bytes (record { start = at; end = stop })
    → records_from at (drop at bytes) ≡ record_at bytes (record { start = at; end = stop }) ∷ records_from (stop + 1) (drop (stop + 1) bytes)
    → Takes bytes from end at more → Takes bytes from end (stop + 1) (more ++ stop ∷ [])
takes-more bytes from end at stop more past inside within step t =
    let one : Span = record { start = at; end = stop } in
    let Starts : Span → Type 0 = λ s. (from ≤ s.start) × (s.start < end) in
    let spans : List Span = spans_from from more in
    let rest : List Record = records_from (stop + 1) (drop (stop + 1) bytes) in
    let grown : spans_from from (more ++ stop ∷ []) ≡ spans ++ one ∷ [] =
    spans_from-push from more stop ∙ ap (λ (n : ℕ). spans ++ record { start = n; end = stop } ∷ []) (sym t.next_is) in
    record {
      within = subst (All (Within bytes)) (sym grown) (All-push (Within bytes) spans one t.within within);
      belong = subst (All Starts) (sym grown) (All-push Starts spans one t.belong (past, inside));
      records = t.records ∙ ap (λ (rs : List Record). map (record_at bytes) spans ++ rs) step
          ∙ sym (append_assoc (map (record_at bytes) spans) (record_at bytes one ∷ []) rest)
          ∙ ap (λ (rs : List Record). rs ++ rest) (sym (map_push (record_at bytes) spans one))
          ∙ ap (λ (ss : List Span). map (record_at bytes) ss ++ rest) (sym grown);
      few = omega (arith, length_push more stop, t.few, within.0);
      next_is = sym (behind-push from more stop);
    }
