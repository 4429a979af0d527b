-- How far places move behind ranges, counted from the last range.
use Rattle.std.proofs.Common.{◌≡◌, ℕ, suc, zero, ◌+◌, ◌-◌, ◌<◌, ◌≤◌, cond, eqb, Bool, true, false, List, [], ◌∷◌, None, Some, length, drop, get_or, refl, sym, ◌∙◌, ap, subst, arith, inl, inr}
use Rattle.std.proofs.lemmas.Bool.{cases_eq, eq-eqb, ne_eqb}
use Rattle.std.proofs.lemmas.List.{length-drop}
use Rattle.mr_shards.specs.Gaps.{goes_on_at, note_at}
use Rattle.mr_shards.specs.Portions.{past_cut, past_shard, shift_behind}
use Rattle.mr_shards.specs.RangeNotes.{RangeNote, first_goes_on, goes_on}
use Rattle.mr_shards.specs.RangeVerdicts.{end_of, file_lengths, files_of, last_goes_on, last_number, shift_past, with_length}
use Rattle.mr_shards.proofs.TileLemmas.{goes-on}

-- ---- lengths of files

with-count : (k : ℕ) (ls : List ℕ) → 0 < length ls → length (with_length k ls) ≡ length ls
with-count k [] some = absurd (omega (arith, some))
with-count k (l ∷ ls) some = refl

with-few : (k : ℕ) (ls : List ℕ) → length (with_length k ls) ≤ suc (length ls)
with-few k [] = omega arith
with-few k (l ∷ ls) = omega arith

with-one : (k : ℕ) (ls : List ℕ) → length ls ≡ 1 → last_number (with_length k ls) ≡ k + last_number ls
with-one k [] one = absurd (omega (arith, one))
with-one k (l ∷ []) one = refl
with-one k (l ∷ l' ∷ ls) one = absurd (omega (arith, one))

with-more : (k : ℕ) (ls : List ℕ) → 1 < length ls → last_number (with_length k ls) ≡ last_number ls
with-more k [] more = absurd (omega (arith, more))
with-more k (l ∷ []) more = absurd (omega (arith, more))
with-more k (l ∷ l' ∷ ls) more = refl

behind-some : (k : ℕ) (ls : List ℕ) → 0 < length ls → last_number (k ∷ ls) ≡ last_number ls
behind-some k [] some = absurd (omega (arith, some))
behind-some k (l ∷ ls) some = refl

some-lengths : (m : RangeNote) (ms : List RangeNote) → 0 < length (file_lengths (m ∷ ms))
some-lengths m ms = by (first_goes_on m ms) (file_lengths ms)
  where
    by : (b : Bool) (ls : List ℕ) → 0 < length (cond b (with_length m.length ls) (m.length ∷ ls))
    by true [] = omega arith
    by true (l ∷ ls) = omega arith
    by false ls = omega arith

pub few-lengths : (ms : List RangeNote) → length (file_lengths ms) ≤ length ms
few-lengths [] = omega arith
few-lengths (m ∷ ms) = by (first_goes_on m ms) (few-lengths ms)
  where
    by : (b : Bool) → length (file_lengths ms) ≤ length ms → length (cond b (with_length m.length (file_lengths ms)) (m.length ∷ file_lengths ms)) ≤ suc (length ms)
    by true few = omega (arith, few, with-few m.length (file_lengths ms))
    by false few = omega (arith, few)

-- ---- the count

abbrev first_from : List RangeNote → ℕ
first_from [] = 0
first_from (n ∷ ns) = n.from

-- so many files, of which the last one begins there in its file
pub record IsPast (ns : List RangeNote) (files begin : ℕ) : Type 0 where
  pub count : files ≡ length (file_lengths ns)
  pub first : files ≡ 1 → begin ≡ first_from ns
  pub end : 0 < files → begin + last_number (file_lengths ns) ≡ end_of ns

pub past-none : IsPast [] 0 0
past-none = record { count = refl; first = λ e. refl; end = λ h. absurd (omega (arith, h)) }

end-behind : (n : RangeNote) (ns : List RangeNote) → 0 < length (file_lengths ns) → end_of (n ∷ ns) ≡ end_of ns
end-behind n [] some = absurd (omega (arith, some))
end-behind n (m ∷ ms) some = refl

-- a range in front, with which the next one goes on or begins another file
past-on : (n m : RangeNote) (ms : List RangeNote) (files begin begin' : ℕ) → IsPast (m ∷ ms) files begin → goes_on n m ≡ true
    → (files ≡ 1 → begin' ≡ n.from) → ((files ≡ 1 → ⊥) → begin' ≡ begin) → IsPast (n ∷ m ∷ ms) files begin'
past-on n m ms files begin begin' p on one more =
    let ls : List ℕ = file_lengths (m ∷ ms) in
    let some : 0 < length ls = some-lengths m ms in
    let are : file_lengths (n ∷ m ∷ ms) ≡ with_length n.length ls = ap (λ b. cond b (with_length n.length ls) (n.length ∷ ls)) on in
    let from : m.from ≡ n.from + n.length = (goes-on n m on).from in
    record {
      count = p.count ∙ sym (ap length are ∙ with-count n.length ls some);
      first = one;
      end = λ h. elim (cases_eq files 1) [
        | inl e ↦ ap (λ l. begin' + last_number l) are
            ∙ (let last : last_number (with_length n.length ls) ≡ n.length + last_number ls = with-one n.length ls (sym p.count ∙ e) in
            omega (arith, last, one e, p.first e, from, p.end h))
        | inr ne ↦ ap (λ l. begin' + last_number l) are
            ∙ (let last : last_number (with_length n.length ls) ≡ last_number ls = with-more n.length ls (omega (arith, p.count, ne, h)) in
            omega (arith, last, more ne, p.end h))
      ];
    }

past-new : (n : RangeNote) (ns : List RangeNote) (files begin begin' : ℕ) → IsPast ns files begin → first_goes_on n ns ≡ false
    → (files + 1 ≡ 1 → begin' ≡ n.from) → ((files + 1 ≡ 1 → ⊥) → begin' ≡ begin) → IsPast (n ∷ ns) (files + 1) begin'
past-new n ns files begin begin' p off one more =
    let ls : List ℕ = file_lengths ns in
    let are : file_lengths (n ∷ ns) ≡ n.length ∷ ls = ap (λ b. cond b (with_length n.length ls) (n.length ∷ ls)) off in
    let count : files + 1 ≡ length (n.length ∷ ls) = omega (arith, p.count) in
    record {
      count = count ∙ sym (ap length are);
      first = one;
      end = λ h. elim (cases_eq (files + 1) 1) [
        | inl e ↦ ap (λ l. begin' + last_number l) are ∙ only ns p (omega (arith, e)) (one e)
        | inr ne ↦ ap (λ l. begin' + last_number l) are
            ∙ (let some : 0 < length ls = omega (arith, p.count, ne) in
            let last : last_number (n.length ∷ ls) ≡ last_number ls = behind-some n.length ls some in
            let end : end_of (n ∷ ns) ≡ end_of ns = end-behind n ns some in
            omega (arith, last, more ne, p.end (omega (arith, ne)), end))
      ];
    }
  where
    only : (ns : List RangeNote) → IsPast ns files begin → files ≡ 0 → begin' ≡ n.from → begin' + last_number (n.length ∷ file_lengths ns) ≡ end_of (n ∷ ns)
    only [] p none is = ap (λ k. k + n.length) is
    only (m ∷ ms) p none is = absurd (omega (arith, none, p.count, some-lengths m ms))

pub past-more : (n : RangeNote) (ns : List RangeNote) (files files' begin begin' : ℕ) → IsPast ns files begin → files' ≡ cond (first_goes_on n ns) files (files + 1)
    → (files' ≡ 1 → begin' ≡ n.from) → ((files' ≡ 1 → ⊥) → begin' ≡ begin) → IsPast (n ∷ ns) files' begin'
past-more n ns files files' begin begin' p are one more = by (first_goes_on n ns) refl are
  where
    on : (ns : List RangeNote) → IsPast ns files begin → first_goes_on n ns ≡ true → (files ≡ 1 → begin' ≡ n.from) → ((files ≡ 1 → ⊥) → begin' ≡ begin) → IsPast (n ∷ ns) files begin'
    on [] p e one more = absurd cc
    on (m ∷ ms) p e one more = past-on n m ms files begin begin' p e one more

    by : (b : Bool) → first_goes_on n ns ≡ b → files' ≡ cond b files (files + 1) → IsPast (n ∷ ns) files' begin'
    by true e same =
        subst (λ k. IsPast (n ∷ ns) k begin') (sym same) (on ns p e (λ u. one (same ∙ u)) (λ ne. more (λ u. ne (sym same ∙ u))))
    by false e same =
        subst (λ k. IsPast (n ∷ ns) k begin') (sym same) (past-new n ns files begin begin' p e (λ u. one (same ∙ u)) (λ ne. more (λ u. ne (sym same ∙ u))))

-- ---- from the last range to the first

past-at : (ns : List RangeNote) (k files files' begin begin' : ℕ) → k < length ns → IsPast (drop (suc k) ns) files begin
    → files' ≡ cond (goes_on_at ns (suc k)) files (files + 1) → begin' ≡ cond (eqb files' 1) (note_at ns k).from begin → IsPast (drop k ns) files' begin'
past-at [] k files files' begin begin' h p are is = absurd (omega (arith, h))
past-at (m ∷ ns) zero files files' begin begin' h p are is =
    past-more m ns files files' begin begin' p are (λ e. is ∙ ap (λ b. cond b m.from begin) (eq-eqb files' 1 e)) (λ ne. is ∙ ap (λ b. cond b m.from begin) (ne_eqb files' 1 ne))
past-at (m ∷ ns) (suc k) files files' begin begin' h p are is = past-at ns k files files' begin begin' (omega (arith, h)) p are is

pub past-back : (ns : List RangeNote) (at k files files' begin begin' : ℕ) → k + 1 ≡ at → at ≤ length ns → IsPast (drop at ns) files begin
    → files' ≡ cond (goes_on_at ns (k + 1)) files (files + 1) → begin' ≡ cond (eqb files' 1) (note_at ns k).from begin → IsPast (drop k ns) files' begin'
past-back ns at k files files' begin begin' one within p are is =
    let here : at ≡ suc k = omega (arith, one) in
    let next : k + 1 ≡ suc k = omega arith in
    past-at ns k files files' begin begin' (omega (arith, one, within)) (subst (λ i. IsPast (drop i ns) files begin) here p)
    (are ∙ ap (λ i. cond (goes_on_at ns i) files (files + 1)) next) is

pub past-few : (ns : List RangeNote) (at files begin : ℕ) → 0 < at → at ≤ length ns → IsPast (drop at ns) files begin → files + (at - 1) < length ns
past-few ns at files begin some within p = omega (arith, some, within, p.count, few-lengths (drop at ns), length-drop at ns)

pub past-done : (ns : List RangeNote) (at files begin : ℕ) → (0 < at → ⊥) → IsPast (drop at ns) files begin → IsPast ns files begin
past-done ns zero files begin none p = p
past-done ns (suc at) files begin none p = absurd (none (omega arith))

-- ---- the files and the shift

-- so many files, of which the last one begins there in its file
pub record IsCounted (ns : List RangeNote) (files begin : ℕ) : Type 0 where
  pub count : files ≡ length (file_lengths ns)
  pub end : 0 < files → begin + last_number (file_lengths ns) ≡ end_of ns

pub counted-some : (ms ns : List RangeNote) (files begin : ℕ) → IsCounted ms files begin → last_goes_on ms ns ≡ true → 0 < files
counted-some [] ns files begin p e = absurd cc
counted-some (m ∷ ms) ns files begin p e = omega (arith, p.count, some-lengths m ms)

-- the shift behind a shard is that behind its ranges
pub files-of-past : (ms ns : List RangeNote) → past_shard (files_of ms ns) ≡ shift_past ms ns
files-of-past ms ns = by (last_goes_on ms ns) (length (file_lengths ms)) (last_number (file_lengths ms))
  where
    by : (b : Bool) (count last : ℕ) → past_cut count (cond b (Some last) None) ≡ shift_behind b count last
    by true count last = refl
    by false count last = refl

pub files-cut : (ms ns : List RangeNote) (files begin end : ℕ) → IsCounted ms files begin → last_goes_on ms ns ≡ true → end ≡ end_of ms
    → record { count = files; cut = Some (end - begin) } ≡ files_of ms ns
files-cut ms ns files begin end p e is =
    let last : end - begin ≡ last_number (file_lengths ms) = omega (arith, is, p.end (counted-some ms ns files begin p e)) in
    (λ i. record { count = p.count i; cut = Some (last i) })
    ∙ sym (ap (λ b. record { count = length (file_lengths ms); cut = cond b (Some (last_number (file_lengths ms))) None }) e)

pub files-whole : (ms ns : List RangeNote) (files begin : ℕ) → IsCounted ms files begin → last_goes_on ms ns ≡ false → record { count = files; cut = None } ≡ files_of ms ns
files-whole ms ns files begin p e =
    (λ i. record { count = p.count i; cut = None })
    ∙ sym (ap (λ b. record { count = length (file_lengths ms); cut = cond b (Some (last_number (file_lengths ms))) None }) e)

pub past-cut : (ms ns : List RangeNote) (files begin end : ℕ) → IsCounted ms files begin → last_goes_on ms ns ≡ true → end ≡ end_of ms
    → record { files = files - 1; bytes = end - begin } ≡ shift_past ms ns
past-cut ms ns files begin end p e is = ap past_shard (files-cut ms ns files begin end p e is) ∙ files-of-past ms ns

pub past-whole : (ms ns : List RangeNote) (files begin : ℕ) → IsCounted ms files begin → last_goes_on ms ns ≡ false → record { files = files; bytes = 0 } ≡ shift_past ms ns
past-whole ms ns files begin p e = ap past_shard (files-whole ms ns files begin p e) ∙ files-of-past ms ns

-- ---- the border

pub goes-last : (ms ns : List RangeNote) (d e : RangeNote) → 0 < length ms → 0 < length ns → goes_on (get_or ms (length ms - 1) d) (get_or ns 0 e) ≡ last_goes_on ms ns
goes-last [] ns d e some more = absurd (omega (arith, some))
goes-last (m ∷ ms) [] d e some more = absurd (omega (arith, more))
goes-last (m ∷ []) (n ∷ ns) d e some more = refl
goes-last (m ∷ k ∷ ms) (n ∷ ns) d e some more =
    let at : length (m ∷ k ∷ ms) - 1 ≡ suc (length (k ∷ ms) - 1) = omega arith in
    ap (λ i. goes_on (get_or (m ∷ k ∷ ms) i d) n) at ∙ goes-last (k ∷ ms) (n ∷ ns) d e (omega arith) more

pub goes-empty : (ms ns : List RangeNote) → length ms ≡ 0 → last_goes_on ms ns ≡ false
goes-empty [] ns none = refl
goes-empty (m ∷ ms) ns none = absurd (omega (arith, none))

pub goes-none : (ms ns : List RangeNote) → length ns ≡ 0 → last_goes_on ms ns ≡ false
goes-none [] ns none = refl
goes-none (m ∷ []) [] none = refl
goes-none (m ∷ []) (n ∷ ns) none = absurd (omega (arith, none))
goes-none (m ∷ k ∷ ms) ns none = goes-none (k ∷ ms) ns none

pub end-first : (ms ns : List RangeNote) (e : RangeNote) → last_goes_on ms ns ≡ true → (get_or ns 0 e).from ≡ end_of ms
end-first [] ns e h = absurd cc
end-first (m ∷ []) [] e h = absurd cc
end-first (m ∷ []) (n ∷ ns) e h = (goes-on m n h).from
end-first (m ∷ k ∷ ms) ns e h = end-first (k ∷ ms) ns e h
