-- Places in outputs, one after another.
use Rattle.std.proofs.Common.{◌≡◌, inl, inr, ℕ, zero, suc, ◌+◌, ◌-◌, Option, None, Some, get_or, ◌<◌, ◌≤◌, List, [], ◌∷◌, ◌++◌, length, take, drop, ap, sym, ◌∙◌, arith, length-append}
use Rattle.std.specs.Prelude.{IfSome, Vec, slice_index}
use Rattle.std.specs.Global.{Global}
use Rattle.std.proofs.lemmas.List.{drop-append-le, get_or-map, get_or_default, length-map}
use Rattle.std.proofs.lemmas.Bool.{cases_lt}
use Rattle.std.proofs.Math.ListN.{get_or-append}
use Rattle.std.proofs.Math.Seq.{get_or-append_seam, drop-append-add}
use Rattle.mr_input.specs.Files.{contents, nth_file}
use Rattle.mr_lanes.specs.Bits.{Extends}
use Rattle.mr_check.specs.Joined.{AreStarts, joined}

-- from a place of an output on stands what is left of it, and all later outputs
pub joined_at : (os : List (List ℕ)) (p n : ℕ) → p < length os → n ≤ length (nth_file os p)
    → drop (length (joined (take p os)) + n) (joined os) ≡ drop n (nth_file os p) ++ joined (drop (p + 1) os)
joined_at [] p n h low = absurd (omega (arith, h))
joined_at (o ∷ os) zero n h low = ap (λ k. drop k (o ++ joined os)) (let e : 0 + n ≡ n = omega arith in e) ∙ drop-append-le n o (joined os) low
joined_at (o ∷ os) (suc p) n h low =
    let inner : ℕ = length (joined (take p os)) + n in
    let place : length (o ++ joined (take p os)) + n ≡ length o + inner = omega (arith, length-append o (joined (take p os))) in
    let next : suc (p + 1) ≡ suc p + 1 = omega arith in
    ap (λ k. drop k (o ++ joined os)) place
    ∙ (drop-append-add o (joined os) inner ∙ (joined_at os p n (omega (arith, h)) low ∙ ap (λ k. drop n (nth_file os p) ++ joined (drop k (o ∷ os))) next))

-- so it begins with what is left of the output
pub begins_at : (os : List (List ℕ)) (p n place : ℕ) → p < length os → n ≤ length (nth_file os p) → place ≡ length (joined (take p os)) + n
    → Extends (drop n (nth_file os p)) (drop place (joined os))
begins_at os p n place h low is = record { more = joined (drop (p + 1) os); is = ap (λ k. drop k (joined os)) is ∙ joined_at os p n h low }

-- where the next output begins
pub start_next : (os : List (List ℕ)) (p : ℕ) → p < length os → length (joined (take (p + 1) os)) ≡ length (joined (take p os)) + length (nth_file os p)
start_next [] p h = absurd (omega (arith, h))
start_next (o ∷ os) zero h = omega (arith, length-append o [])
start_next (o ∷ os) (suc p) h =
    let next : suc p + 1 ≡ suc (p + 1) = omega arith in
    let after : length (o ++ joined (take (p + 1) os)) ≡ length o + length (joined (take (p + 1) os)) = length-append o (joined (take (p + 1) os)) in
    let before : length (o ++ joined (take p os)) ≡ length o + length (joined (take p os)) = length-append o (joined (take p os)) in
    ap (λ k. length (joined (take k (o ∷ os)))) next ∙ omega (arith, after, before, start_next os p (omega (arith, h)))

pub nth_contents : (vs : List (Vec ℕ Global)) (v : Vec ℕ Global) (p : ℕ) → p < length vs → v ≡ get_or vs p v → nth_file (contents vs) p ≡ v.items
nth_contents vs v p h is = get_or-map (λ (w : Vec ℕ Global). w.items) vs p v [] h ∙ ap (λ (w : Vec ℕ Global). w.items) (sym is)

pub line_begins : (os : List (List ℕ)) (starts : List ℕ) (p from start : ℕ) (found : Option ℕ) → AreStarts os starts → p < length os → from ≤ length (nth_file os p)
    → start ≡ slice_index starts p → IfSome found (λ place. place ≡ start + from) → IfSome found (λ line. Extends (drop from (nth_file os p)) (drop line (joined os)))
line_begins os starts p from start None s h low is place = tt
line_begins os starts p from start (Some line) s h low is place =
    begins_at os p from line h low (place ∙ ap (λ k. k + from) (is ∙ s.places p (omega (arith, h, s.one_each))))

pub rest_begins : (os : List (List ℕ)) (starts : List ℕ) (p start line : ℕ) → AreStarts os starts → p < length os → start ≡ slice_index starts p
    → start ≤ line → line - start ≤ length (nth_file os p) → Extends (drop (line - start) (nth_file os p)) (drop line (joined os))
rest_begins os starts p start line s h is order low =
    begins_at os p (line - start) line h low (omega (arith, order, is ∙ s.places p (omega (arith, h, s.one_each))))

pub contents_length : (vs : List (Vec ℕ Global)) → length (contents vs) ≡ length vs
contents_length vs = length-map vs (λ (w : Vec ℕ Global). w.items)

pub item_here : (vs : List (Vec ℕ Global)) (v : Vec ℕ Global) (p : ℕ) (bytes : List ℕ) → p < length vs → v ≡ get_or vs p v → bytes ≡ (get_or vs p v).items → nth_file (contents vs) p ≡ bytes
item_here vs v p bytes h is items = nth_contents vs v p h is ∙ (ap (λ (w : Vec ℕ Global). w.items) is ∙ sym items)

pub start_here : (os : List (List ℕ)) (starts : List ℕ) (p start : ℕ) → AreStarts os starts → p < length os → start ≡ get_or starts p start → start ≡ slice_index starts p
start_here os starts p start s h is = is ∙ get_or_default starts p start 0 (omega (arith, h, s.one_each))

-- one more start
pub one_more : (os : List (List ℕ)) (old new : List ℕ) (start : ℕ) → ((p : ℕ) → p < length old → slice_index old p ≡ length (joined (take p os)))
    → start ≡ length (joined (take (length old) os)) → new ≡ old ++ start ∷ [] → (p : ℕ) → p < length new → slice_index new p ≡ length (joined (take p os))
one_more os old new start places next is p h =
    ap (λ l. get_or l p 0) is ∙ elim (cases_lt p (length old)) [
      | inl below ↦ get_or-append old (start ∷ []) 0 p below ∙ places p below
      | inr above ↦
          let at : p ≡ length old = omega (arith, h, above, ap length is, length-append old (start ∷ [])) in
          ap (λ k. get_or (old ++ start ∷ []) k 0) at ∙ (get_or-append_seam old start [] 0 ∙ (next ∙ ap (λ k. length (joined (take k os))) (sym at)))
    ]
