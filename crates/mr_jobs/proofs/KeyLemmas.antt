-- The keys of a record stand in it.
use Rattle.std.proofs.Common.{◌≡◌, ◌≢◌, ℕ, zero, ◌+◌, ◌-◌, ◌<◌, ◌≤◌, suc, Bool, true, false, cond, not, ◌&&◌, leb, List, [], ◌∷◌, ◌++◌, All, Option, None, Some, length, get_or, drop, slice_range, refl, ap, sym, ◌∙◌, arith, inl, inr, length-append, append_assoc}
use Rattle.std.proofs.lemmas.Bool.{cases_lt, false≢true}
use Rattle.std.proofs.lemmas.Bool.Decides.{leb_tells}
use Rattle.std.proofs.lemmas.List.{length-take, length-drop, length-map, get_or-take, get_or-drop, get_or-append-add, get_or_append_left, get_or-map}
use Rattle.std.proofs.lemmas.List.Elements.{All-nil, All-cons, All-map}
use Rattle.mr_bytes.specs.Bytes.{fold_byte, folded, is_upper}
use Rattle.mr_bytes.specs.Cut.{Lacks}
use Rattle.mr_bytes.specs.Words.{span_bytes, word_spans}
use Rattle.mr_bytes.specs.declared.Span.{Span}
use Rattle.mr_jobs.specs.JobSpec.{WordCount, LinesWith, Resources, InvertedIndex, NthField}
use Rattle.mr_jobs.specs.Emissions.{one_key, word_key, word_keys}
use Rattle.mr_jobs.specs.Fields.{field_of}
use Rattle.mr_jobs.specs.Laws.{KeysStand}
use Rattle.mr_jobs.specs.Literal.{Holds, StandsAt, compared, holds}
use Rattle.mr_jobs.specs.Url.{IsRequestFor, url_of}
use Rattle.mr_jobs.proofs.FieldLemmas.{field_inside}
use Rattle.mr_jobs.proofs.UrlLemmas.{parts_of-url}

-- ---- parts of a line stand in it

stands_first : (line : List ℕ) → Holds false line line
stands_first line = (0, record { fits = omega arith; reads = λ j less. let e : 0 + j ≡ j = omega arith in ap (λ k. get_or line k 0) e })

stands_part : (line : List ℕ) (from end : ℕ) → Holds false line (slice_range line from end)
stands_part line from end =
    elim (cases_lt (length line) from) [
      | inl past ↦ (
        0,
        record {
          fits = omega (arith, length-take (end - from) (drop from line), length-drop from line, past);
          reads = λ j less. absurd (omega (arith, length-take (end - from) (drop from line), length-drop from line, past, less));
        },
      )
      | inr low ↦ (
        from,
        record {
          fits = omega (arith, length-take (end - from) (drop from line), length-drop from line, low);
          reads = λ j less.
              let inside : j < end - from = omega (arith, less, length-take (end - from) (drop from line)) in
              sym (get_or-take (end - from) (drop from line) j 0 inside ∙ get_or-drop from line j 0);
        },
      )
    ]

stands_between : (line front key back : List ℕ) → line ≡ front ++ (key ++ back) → Holds false line key
stands_between line front key back is = (
  length front,
  record {
    fits = omega (arith, ap length is, length-append front (key ++ back), length-append key back);
    reads = λ j less. ap (λ (l : List ℕ). get_or l (length front + j) 0) is ∙ get_or-append-add front (key ++ back) j 0 ∙ get_or_append_left key back 0 j less;
  },
)

no_upper : (b : ℕ) → is_upper b ≡ true → is_upper (b + 32) ≡ false
no_upper b e =
    elim (leb_tells 0x41 b) [
      | inr low ↦ absurd (false≢true (sym (ap (λ t. t && leb b 0x5A) (low.0)) ∙ e))
      | inl low ↦ elim (leb_tells (b + 32) 0x5A) [
        | inl h ↦ absurd (omega (arith, h.1, low.1))
        | inr past ↦ ap (λ t. leb 0x41 (b + 32) && t) (past.0) ∙ never (leb 0x41 (b + 32))
      ]
    ]
  where
    never : (t : Bool) → (t && false) ≡ false
    never true = refl
    never false = refl

fold_twice : (b : ℕ) → fold_byte (fold_byte b) ≡ fold_byte b
fold_twice b = by (is_upper b) refl
  where
    by : (t : Bool) → is_upper b ≡ t → fold_byte (cond t (b + 32) b) ≡ cond t (b + 32) b
    by true e = ap (λ t. cond t (b + 32 + 32) (b + 32)) (no_upper b e)
    by false e = ap (λ t. cond t (b + 32) b) e

stands_folded : (line key : List ℕ) → Holds false line key → Holds true line (folded key)
stands_folded line key h = (
  h.0,
  record {
    fits = omega (arith, h.1.fits, length-map key fold_byte);
    reads = λ j less.
        let inside : j < length key = omega (arith, less, length-map key fold_byte) in
        ap fold_byte (h.1.reads j inside) ∙ sym (ap fold_byte (get_or-map fold_byte key j 0 0 inside) ∙ fold_twice (get_or key j 0));
  },
)

-- ---- so do the keys of a record

stands_word : (keep_case : Bool) (line : List ℕ) (w : Span) → Holds (not keep_case) line (word_key keep_case (span_bytes line w))
stands_word true line w = stands_part line w.start w.end
stands_word false line w = stands_folded line (span_bytes line w) (stands_part line w.start w.end)

stands_words : (keep_case : Bool) (line : List ℕ) → All (Holds (not keep_case) line) (word_keys keep_case line)
stands_words keep_case line =
    All-map (Holds (not keep_case) line) (λ w. word_key keep_case (span_bytes line w)) (word_spans line) (λ k d less. stands_word keep_case line (get_or (word_spans line) k d))

stands_line : (t : Bool) (line : List ℕ) → All (Holds false line) (cond t (line ∷ []) [])
stands_line true line = All-cons (Holds false line) line [] (stands_first line) (All-nil (Holds false line))
stands_line false line = All-nil (Holds false line)

pub stands_request : (line key : List ℕ) → IsRequestFor line key → Holds false line key
stands_request line key p =
    stands_between line (p.front ++ 0x22 ∷ (p.before ++ 0x20 ∷ [])) key (p.after ++ 0x22 ∷ p.rest)
    (p.line_is ∙ ap (λ (l : List ℕ). p.front ++ 0x22 ∷ (l ++ 0x22 ∷ p.rest)) p.request_is ∙ simp append_assoc)

stands_field : (separator : Option ℕ) (number : ℕ) (line key : List ℕ) → field_of separator number line ≡ Some key → Holds false line key
stands_field separator number line key e =
    let p = field_inside separator number line key e in
    stands_between line p.front key p.back p.line_is

stands_one : (line : List ℕ) (found : Option (List ℕ)) → ((key : List ℕ) → found ≡ Some key → Holds false line key) → All (Holds false line) (one_key found)
stands_one line None stands = All-nil (Holds false line)
stands_one line (Some key) stands = All-cons (Holds false line) key [] (stands key refl) (All-nil (Holds false line))

pub keys_stand : KeysStand
keys_stand (WordCount keep_case) line = stands_words keep_case line
keys_stand (LinesWith literal fold) line = stands_line (holds fold line literal) line
keys_stand Resources line = stands_one line (url_of line) (λ key e. stands_request line key (parts_of-url line key e))
keys_stand (InvertedIndex keep_case) line = stands_words keep_case line
keys_stand (NthField separator number) line = stands_one line (field_of separator number line) (stands_field separator number line)

pub short_key : (fold : Bool) (line key : List ℕ) → Holds fold line key → length key ≤ length line
short_key fold line key stands = omega (arith, stands.1.fits)

-- ---- and bytes that stand in a line have no line feed

folds_from : (fold : Bool) (b : ℕ) → compared fold b ≡ 10 → b ≡ 10
folds_from true b e = by (is_upper b) e
  where
    by : (t : Bool) → cond t (b + 32) b ≡ 10 → b ≡ 10
    by true h = absurd (omega (arith, h))
    by false h = h
folds_from false b e = e

line_feed : (fold : Bool) → compared fold 10 ≡ 10
line_feed true = refl
line_feed false = refl

Lacks-at : (line : List ℕ) (k : ℕ) → Lacks 10 line → k < length line → get_or line k 0 ≢ 10
Lacks-at [] k clear less e = omega (arith, less)
Lacks-at (b ∷ bs) zero clear less e = clear.0 e
Lacks-at (b ∷ bs) (suc k) clear less e = Lacks-at bs k clear.1 (omega (arith, less)) e

clear_at : (fold : Bool) (line key : List ℕ) (place : ℕ) → Lacks 10 line → StandsAt fold line key place → Lacks 10 key
clear_at fold line [] place clear at = tt
clear_at fold line (x ∷ xs) place clear at = (
  (λ e.
      Lacks-at line (place + 0) clear (omega (arith, at.fits))
      (folds_from fold (get_or line (place + 0) 0) (at.reads 0 (omega arith) ∙ (ap (compared fold) e ∙ line_feed fold)))),
  clear_at fold line xs (place + 1) clear
      (record {
        fits = omega (arith, at.fits);
        reads = λ j less.
            let next : place + 1 + j ≡ place + suc j = omega arith in
            ap (λ k. compared fold (get_or line k 0)) next ∙ at.reads (suc j) (omega (arith, less));
      }),
)

pub clear_key : (fold : Bool) (line key : List ℕ) → Lacks 10 line → Holds fold line key → Lacks 10 key
clear_key fold line key clear stands = clear_at fold line key stands.0 clear stands.1
