-- What is known of the places of a literal, from one line of a text to the next.
use Rattle.std.proofs.Common.{leb, ◌≡◌, ℕ, ◌+◌, ◌-◌, ◌<◌, ◌≤◌, Bool, true, false, List, length, get_or, drop, refl, sym, ◌∙◌, ap, arith, slice_range, IsTrue, Option, None, Some, inl, inr, ◌⊎◌}
use Rattle.std.proofs.lemmas.List.{get_or-take, get_or-drop, length-take, length-drop}
use Rattle.std.proofs.lemmas.Bool.{false_from_ne_true, false≢true}
use Rattle.std.proofs.lemmas.Bool.Decides.{leb_tells}
use Rattle.memchr.specs.Find.{FindsNeedle}
use Rattle.mr_lanes.specs.Find.{FindsFolded}
use Rattle.mr_jobs.specs.declared.literal_search.Known.{Known}
use Rattle.mr_jobs.specs.Literal.{compared, StandsAt, holds}
use Rattle.mr_jobs.specs.Hits.{Sought, StandsNowhere, IsFirstPlace, AreSo}
use Rattle.mr_jobs.proofs.LiteralLemmas.{found_place, place_found}

-- the answers of both searches
pub first-exactly : (text literal : List ℕ) (r : Option ℕ) → FindsNeedle text literal 0 r → IsFirstPlace (record { text = text; literal = literal; fold = false }) r
first-exactly text literal None none = λ k at. none k (omega arith) (omega (arith, at.fits)) (record { fits = at.fits; reads = at.reads })
first-exactly text literal (Some n) f = (
  record { fits = f.1.fits; reads = f.1.reads },
  λ k low less at. f.0.before k low less (record { fits = at.fits; reads = at.reads }),
)

pub first-folded : (text literal : List ℕ) (r : Option ℕ) → FindsFolded text literal r → IsFirstPlace (record { text = text; literal = literal; fold = true }) r
first-folded text literal None none = λ k at. none k (record { fits = at.fits; reads = at.reads })
first-folded text literal (Some n) f = (
  record { fits = f.0.fits; reads = f.0.reads },
  λ k low less at. f.1 k less (record { fits = at.fits; reads = at.reads }),
)

-- a part of a text, byte by byte
length-range : (text : List ℕ) (a b : ℕ) → b ≤ length text → length (slice_range text a b) ≡ b - a
length-range text a b h = omega (arith, length-take (b - a) (drop a text), length-drop a text, h)

range-byte : (text : List ℕ) (a b k j : ℕ) → k ≡ a + j → j < b - a → get_or (slice_range text a b) j 0 ≡ get_or text k 0
range-byte text a b k j is less = get_or-take (b - a) (drop a text) j 0 less ∙ get_or-drop a text j 0 ∙ ap (λ n. get_or text n 0) (sym is)

-- where a literal stands in a part of a text, there it stands in the text
pub stands-out : (fold : Bool) (text literal : List ℕ) (a b k at : ℕ) → a ≤ b → b ≤ length text → at ≡ a + k
    → StandsAt fold (slice_range text a b) literal k → StandsAt fold text literal at
stands-out fold text literal a b k at order within is h =
    let size = length-range text a b within in
    let inside : k + length literal ≤ b - a = omega (arith, h.fits, size) in
    record {
      fits = omega (arith, h.fits, size, is, order, within, inside);
      reads = λ j less. ap (compared fold) (sym (range-byte text a b (at + j) (k + j) (omega (arith, is)) (omega (arith, inside, less)))) ∙ h.reads j less;
    }

-- and where it stands in the text within the part, there it stands in the part
pub stands-in : (fold : Bool) (text literal : List ℕ) (a b k at : ℕ) → b ≤ length text → at ≡ a + k → at + length literal ≤ b
    → StandsAt fold text literal at → StandsAt fold (slice_range text a b) literal k
stands-in fold text literal a b k at within is inside h =
    let size = length-range text a b within in
    record {
      fits = omega (arith, size, is, inside);
      reads = λ j less. ap (compared fold) (range-byte text a b (at + j) (k + j) (omega (arith, is)) (omega (arith, is, inside, less))) ∙ h.reads j less;
    }

-- the literal stands at no place of a part of the text that a search went over, nor before it
clear-more : (sought : Sought) (from clear later goal : ℕ) → StandsNowhere sought from clear → goal ≤ length sought.text
    → ((k : ℕ) → clear + k < later → clear + k + length sought.literal ≤ length sought.text
    → StandsAt sought.fold (slice_range sought.text clear goal) sought.literal k → ⊥)
    → (later + length sought.literal ≤ goal + 1)
    → StandsNowhere sought from later
clear-more sought from clear later goal nowhere within none ends place low less at =
    elim (leb_tells clear place) [
      | inl h ↦
          let k : ℕ = place - clear in
          let is : place ≡ clear + k = omega (arith, h.1) in
          none k (omega (arith, is, less)) (omega (arith, is, at.fits))
          (stands-in sought.fold sought.text sought.literal clear goal k place within is (omega (arith, less, ends)) at)
      | inr h ↦ nowhere place low h.1 at
    ]

-- a search from `clear` on finds the literal
pub known-found : (sought : Sought) (known later : Known) (goal skipped : ℕ) → AreSo sought known → known.clear ≤ goal → goal ≤ length sought.text
    → IsFirstPlace (record { text = slice_range sought.text known.clear goal; literal = sought.literal; fold = sought.fold }) (Some skipped)
    → later.from ≡ known.from → later.clear ≡ known.clear + skipped → AreSo sought later
known-found sought known later goal skipped so order within f from clear =
    let size = length-range sought.text known.clear goal within in
    let there : StandsAt sought.fold sought.text sought.literal later.clear =
    stands-out sought.fold sought.text sought.literal known.clear goal skipped later.clear order within clear f.0 in
    let nowhere : StandsNowhere sought known.from later.clear =
    clear-more sought known.from known.clear later.clear goal so.nowhere within
    (λ k less fits at. f.1 k (omega arith) (omega (arith, less, clear)) at)
    (omega (arith, clear, f.0.fits, size, order)) in
    record {
      order = omega (arith, so.order, from, clear);
      nowhere = λ place low less at. nowhere place (omega (arith, low, from)) less at;
      stands = λ is. there;
    }

-- a search from `clear` on finds nothing
pub known-clear : (sought : Sought) (known later : Known) (goal : ℕ) → AreSo sought known → goal ≤ length sought.text
    → known.clear + length sought.literal ≤ goal
    → IsFirstPlace (record { text = slice_range sought.text known.clear goal; literal = sought.literal; fold = sought.fold }) None
    → later.from ≡ known.from → later.clear ≡ goal + 1 - length sought.literal → later.found ≡ false → AreSo sought later
known-clear sought known later goal so within room none from clear found =
    let nowhere : StandsNowhere sought known.from later.clear =
    clear-more sought known.from known.clear later.clear goal so.nowhere within (λ k less fits at. none k at) (omega (arith, clear, room)) in
    record {
      order = omega (arith, so.order, from, clear, room);
      nowhere = λ place low less at. nowhere place (omega (arith, low, from)) less at;
      stands = λ is. absurd (false≢true (sym found ∙ is));
    }

-- what is known tells of a line whether it holds the literal
pub line-holds : (sought : Sought) (known : Known) (start end last : ℕ) → AreSo sought known → known.from ≤ start → start ≤ known.clear → start ≤ end
    → end ≤ length sought.text → end ≡ last + length sought.literal → IsTrue known.found ⊎ (last < known.clear)
    → leb known.clear last ≡ holds sought.fold (slice_range sought.text start end) sought.literal
line-holds sought known start end last so begins here order within is settled =
    elim (leb_tells known.clear last) [
      | inl h ↦ h.0 ∙ sym (holding h.1)
      | inr h ↦ h.0 ∙ sym (lacking h.1)
    ]
  where
    stands : known.clear ≤ last → IsTrue known.found ⊎ (last < known.clear) → StandsAt sought.fold sought.text sought.literal known.clear
    stands low (inl found) = so.stands found
    stands low (inr past) = absurd (omega (arith, low, past))

    holding : known.clear ≤ last → holds sought.fold (slice_range sought.text start end) sought.literal ≡ true
    holding low =
        place_found sought.fold (slice_range sought.text start end) sought.literal (known.clear - start)
        (stands-in sought.fold sought.text sought.literal start end (known.clear - start) known.clear within (omega (arith, here)) (omega (arith, low, is)) (stands low settled))

    lacking : last < known.clear → holds sought.fold (slice_range sought.text start end) sought.literal ≡ false
    lacking past =
        false_from_ne_true (holds sought.fold (slice_range sought.text start end) sought.literal) (λ h.
        let at = found_place sought.fold (slice_range sought.text start end) sought.literal h in
        let size = length-range sought.text start end within in
        so.nowhere (start + at.0) (omega (arith, begins)) (omega (arith, at.1.fits, size, is, past, order))
        (stands-out sought.fold sought.text sought.literal start end at.0 (start + at.0) order within refl at.1))

-- a line with fewer bytes than the literal doesn't hold it
pub line-short : (fold : Bool) (text literal : List ℕ) (start end : ℕ) → start ≤ end → end ≤ length text → end < start + length literal
    → holds fold (slice_range text start end) literal ≡ false
line-short fold text literal start end order within short =
    false_from_ne_true (holds fold (slice_range text start end) literal) (λ h.
    let at = found_place fold (slice_range text start end) literal h in
    let size = length-range text start end within in
    absurd (omega (arith, at.1.fits, size, order, short)))
