-- The records that start in a part of a file end at its line feeds, all but the last.
use Rattle.std.proofs.Common.{◌≡◌, ℕ, zero, suc, ◌+◌, ◌-◌, ◌<◌, ◌≤◌, cond, eqb, List, [], ◌∷◌, ◌++◌, length, get_or, drop, sym, ◌∙◌, ap, subst, arith, inl, inr, slice_range}
use Rattle.std.proofs.lemmas.Bool.{cases_eq, cases_lt, ne_eqb, eq-eqb}
use Rattle.std.proofs.lemmas.List.Elements.{All-cons}
use Rattle.mr_bytes.specs.declared.Span.{Span}
use Rattle.mr_lanes.specs.Lines.{line_ends_from}
use Rattle.mr_lanes.proofs.LineLemmas.{line_ends_from-nil, line_ends_from-cons}
use Rattle.mr_records.specs.Records.{Record, lengthen, record_at, records_from, Within, IsRecordOf}
use Rattle.mr_records.proofs.RecordLemmas.{other, lengthen-cons, records_from-line, slice_range-nil, slice_range-more}
use Rattle.mr_splits.specs.Table.{spans_from, behind, Takes}
use Rattle.mr_splits.proofs.ScanLemmas.{takes-none, takes-more}

-- the line ends from `at` on and before `stop`
abbrev pub ends_in : List ℕ → ℕ → ℕ → List ℕ
ends_in bytes at stop = line_ends_from at (slice_range bytes at stop)

-- no line feed stands from `at` on and before `stop`
abbrev Clear : List ℕ → ℕ → ℕ → Type 0
Clear bytes at stop = (k : ℕ) → at ≤ k → k < stop → get_or bytes k 0 ≡ 10 → ⊥

ends_in-none : (bytes : List ℕ) (at stop : ℕ) → at ≡ stop → ends_in bytes at stop ≡ []
ends_in-none bytes at stop same =
    ap (λ n. ends_in bytes n stop) same ∙ ap (line_ends_from stop) (slice_range-nil stop bytes) ∙ line_ends_from-nil stop

ends_in-more : (bytes : List ℕ) (at stop : ℕ) → at < stop → stop ≤ length bytes
    → ends_in bytes at stop ≡ cond (eqb (get_or bytes at 0) 10) (at ∷ ends_in bytes (at + 1) stop) (ends_in bytes (at + 1) stop)
ends_in-more bytes at stop some within =
    ap (line_ends_from at) (slice_range-more at stop bytes some within) ∙ line_ends_from-cons at (get_or bytes at 0) (slice_range bytes (at + 1) stop)

ends_in-line_feed : (bytes : List ℕ) (at stop : ℕ) → at < stop → stop ≤ length bytes → get_or bytes at 0 ≡ 10
    → ends_in bytes at stop ≡ at ∷ ends_in bytes (at + 1) stop
ends_in-line_feed bytes at stop some within lf =
    ends_in-more bytes at stop some within
    ∙ ap (λ t. cond t (at ∷ ends_in bytes (at + 1) stop) (ends_in bytes (at + 1) stop)) (eq-eqb (get_or bytes at 0) 10 lf)

ends_in-other : (bytes : List ℕ) (at stop : ℕ) → at < stop → stop ≤ length bytes → (get_or bytes at 0 ≡ 10 → ⊥)
    → ends_in bytes at stop ≡ ends_in bytes (at + 1) stop
ends_in-other bytes at stop some within plain =
    ends_in-more bytes at stop some within
    ∙ ap (λ t. cond t (at ∷ ends_in bytes (at + 1) stop) (ends_in bytes (at + 1) stop)) (ne_eqb (get_or bytes at 0) 10 plain)

-- these are the ends of the first records that start from `from` on and before `end`; one more starts at `stop` or before
-- it, and no line feed stands from there on and before `stop`
record Cuts (bytes : List ℕ) (from end stop : ℕ) (ends : List ℕ) : Type 0 where
  pub takes : Takes bytes from end (behind from ends) ends
  pub low : from ≤ behind from ends
  pub high : behind from ends ≤ stop
  pub clear : Clear bytes (behind from ends) stop

cuts-none : (bytes : List ℕ) (from end stop : ℕ) → from ≤ stop → Clear bytes from stop → Cuts bytes from end stop []
cuts-none bytes from end stop order clear = record { takes = takes-none bytes from end; low = omega arith; high = order; clear = clear }

-- one more record before the others
cuts-front : (bytes : List ℕ) (from end stop at : ℕ) (es : List ℕ) → from ≤ at → at < end → at < length bytes → Clear bytes from at → get_or bytes at 0 ≡ 10
    → Cuts bytes (at + 1) end stop es → Cuts bytes from end stop (at ∷ es)
cuts-front bytes from end stop at es order inside within clear lf c =
    let one : Span = record { start = from; end = at } in
    let first : records_from from (drop from bytes) ≡ record_at bytes one ∷ records_from (at + 1) (drop (at + 1) bytes) =
    records_from-line (at - from) from at bytes (omega arith) within clear lf in
    let t = c.takes in
    record {
      takes = record {
        within = All-cons (Within bytes) one (spans_from (at + 1) es) (order, omega arith) t.within;
        belong = All-cons (λ (s : Span). (from ≤ s.start) × (s.start < end)) one (spans_from (at + 1) es) (omega arith, omega arith)
            (λ k d less. let b = t.belong k d less in (omega (arith, b.0), b.1));
        records = first ∙ ap (λ (rs : List Record). record_at bytes one ∷ rs) t.records;
        few = omega (arith, t.few);
        next_is = t.next_is;
      };
      low = omega (arith, c.low);
      high = c.high;
      clear = c.clear;
    }

clear-more : (bytes : List ℕ) (from at : ℕ) → (get_or bytes at 0 ≡ 10 → ⊥) → Clear bytes from at → Clear bytes from (at + 1)
clear-more bytes from at plain clear k low high lf =
    elim (cases_lt k at) [
      | inl before ↦ clear k low before lf
      | inr past ↦ let here : k ≡ at = omega arith in plain (subst (λ n. get_or bytes n 0 ≡ 10) here lf)
    ]

clear-none : (bytes : List ℕ) (at : ℕ) → Clear bytes at at
clear-none bytes at k low high lf = absurd (omega arith)

cuts-further : (bytes : List ℕ) (end stop : ℕ) → stop < end → stop ≤ length bytes → (n from at : ℕ) → at + n ≡ stop → from ≤ at → Clear bytes from at
    → Cuts bytes from end stop (ends_in bytes at stop)
cuts-further bytes end stop inside within zero from at total order clear =
    let same : at ≡ stop = omega arith in
    subst (Cuts bytes from end stop) (sym (ends_in-none bytes at stop same))
    (cuts-none bytes from end stop (omega arith) (subst (Clear bytes from) same clear))
cuts-further bytes end stop inside within (suc n) from at total order clear =
    let some : at < stop = omega arith in
    elim (cases_eq (get_or bytes at 0) 10) [
      | inl lf ↦ subst (Cuts bytes from end stop) (sym (ends_in-line_feed bytes at stop some within lf))
          (cuts-front bytes from end stop at (ends_in bytes (at + 1) stop) order (omega arith) (omega arith) clear lf
          (cuts-further bytes end stop inside within n (at + 1) (at + 1) (omega arith) (omega arith) (clear-none bytes (at + 1))))
      | inr plain ↦ subst (Cuts bytes from end stop) (sym (ends_in-other bytes at stop some within plain))
          (cuts-further bytes end stop inside within n from (at + 1) (omega arith) (omega arith) (clear-more bytes from at plain clear))
    ]

-- the line ends before the last place of a part of a file cut it into the records that start there
cuts : (bytes : List ℕ) (from end : ℕ) → from < end → end ≤ length bytes → Cuts bytes from end (end - 1) (ends_in bytes from (end - 1))
cuts bytes from end some within =
    cuts-further bytes end (end - 1) (omega arith) (omega arith) (end - 1 - from) from from (omega arith) (omega arith) (clear-none bytes from)

-- a record that starts before, with no line feed between, has the same end
starts_sooner : (bytes : List ℕ) (stop e : ℕ) → IsRecordOf bytes stop e → (n at : ℕ) → at + n ≡ stop → Clear bytes at stop → IsRecordOf bytes at e
starts_sooner bytes stop e r zero at total clear =
    let same : stop ≡ at = omega arith in
    subst (λ k. IsRecordOf bytes k e) same r
starts_sooner bytes stop e r (suc n) at total clear =
    let later = starts_sooner bytes stop e r n (at + 1) (omega arith) (λ k low. clear k (omega arith)) in
    let inside : at < length bytes = omega (arith, later.inside) in
    let rises : at < e = omega (arith, later.rises) in
    let others : List Record = records_from (e + 1) (drop (e + 1) bytes) in
    record {
      inside = inside;
      rises = omega arith;
      within = later.within;
      first = other at bytes inside (clear at (omega arith) (omega arith)) ∙ ap (lengthen at (get_or bytes at 0)) later.first
          ∙ lengthen-cons at (get_or bytes at 0) (at + 1) (slice_range bytes (at + 1) e) others
          ∙ ap (λ p. record { start = at; bytes = p } ∷ others) (sym (slice_range-more at e bytes rises later.within));
    }

-- with the end that is found from the last place on, they are the ends of all records that start there
pub takes-last : (bytes : List ℕ) (from end stop : ℕ) → from < end → end ≤ length bytes → IsRecordOf bytes (end - 1) stop
    → Takes bytes from end (stop + 1) (ends_in bytes from (end - 1) ++ stop ∷ [])
takes-last bytes from end stop some within r =
    let ends : List ℕ = ends_in bytes from (end - 1) in
    let c = cuts bytes from end some within in
    let last : ℕ = behind from ends in
    let high : last ≤ end - 1 = c.high in
    let whole : IsRecordOf bytes last stop = starts_sooner bytes (end - 1) stop r (end - 1 - last) last (omega arith) c.clear in
    takes-more bytes from end last stop ends c.low (omega arith) (whole.rises, whole.within) whole.first c.takes
