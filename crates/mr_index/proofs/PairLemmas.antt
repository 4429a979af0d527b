-- Pairs that are kept flat.
use Rattle.std.proofs.Common.{◌≡◌, ℕ, zero, suc, ◌+◌, ◌-◌, ◌<◌, ◌≤◌, List, [], ◌∷◌, ◌++◌, length, get_or, take, drop, slice_range, refl, sym, ◌∙◌, ap, arith, length-append, length-drop, length-take-le}
use Rattle.std.proofs.lemmas.List.{drop-append-le, drop-drop, take-append-le, drop_at, take_all}
use Rattle.mr_bytes.specs.declared.Value.{Value}
use Rattle.mr_bytes.specs.declared.Value.TheVariants.{One}
use Rattle.mr_jobs.specs.Emissions.{Emission}
use Rattle.mr_index.specs.Pairs.{pairs_from, pairs_seen, EndsRise, Sound}
use Rattle.mr_index.specs.declared.pairs.Pairs.{Pairs}

-- a part of a list that has grown behind it
pub range-more : {X : Type 0} (xs ys : List X) (a b : ℕ) → a ≤ b → b ≤ length xs → slice_range (xs ++ ys) a b ≡ slice_range xs a b
range-more xs ys a b request within =
    ap (take (b - a)) (drop-append-le a xs ys (omega arith))
    ∙ take-append-le (b - a) (drop a xs) ys (omega (arith, length-drop a xs))

pub range-end : {X : Type 0} (xs ys : List X) → slice_range (xs ++ ys) (length xs) (length (xs ++ ys)) ≡ ys
range-end xs ys =
    ap (take (length (xs ++ ys) - length xs)) (drop_at xs ys (length xs) refl)
    ∙ take_all (length (xs ++ ys) - length xs) ys (omega (arith, length-append xs ys))

pub range-size : {X : Type 0} (xs : List X) (a b : ℕ) → a ≤ b → b ≤ length xs → length (slice_range xs a b) ≡ b - a
range-size xs a b request within = length-take-le (b - a) (drop a xs) (omega (arith, length-drop a xs))

-- a part of what comes behind
pub range-behind : {X : Type 0} (xs ys : List X) (a b : ℕ) → slice_range (xs ++ ys) (length xs + a) (length xs + b) ≡ slice_range ys a b
range-behind xs ys a b =
    let same : length xs + b - (length xs + a) ≡ b - a = omega arith in
    ap (λ (k : ℕ). take k (drop (length xs + a) (xs ++ ys))) same
    ∙ ap (take (b - a)) (sym (drop-drop a (length xs) (xs ++ ys)) ∙ ap (drop a) (drop_at xs ys (length xs) refl))

pub rise-request : (at last : ℕ) (ends : List ℕ) → EndsRise at last ends → at ≤ last
rise-request at last [] r = omega (arith, r)
rise-request at last (e ∷ ends) r = omega (arith, r.0, rise-request e last ends r.1)

pub rise-push : (at last new : ℕ) (ends : List ℕ) → EndsRise at last ends → last ≤ new → EndsRise at new (ends ++ new ∷ [])
rise-push at last new [] r h = (omega (arith, r, h), refl)
rise-push at last new (e ∷ ends) r h = (r.0, rise-push e last new ends r.1 h)

-- each item begins at or before its end, and ends within
pub rise-at : (at last i : ℕ) (ends : List ℕ) → EndsRise at last ends → i < length ends
    → (get_or (at ∷ ends) i 0 ≤ get_or ends i 0) × (get_or ends i 0 ≤ last)
rise-at at last i [] r h = absurd (omega arith)
rise-at at last zero (e ∷ ends) r h = (r.0, rise-request e last ends r.1)
rise-at at last (suc i) (e ∷ ends) r h = rise-at e last i ends r.1 (omega arith)

pub length-pairs : (at : ℕ) (keys ends : List ℕ) (values : List Value) → length values ≡ length ends → length (pairs_from at keys ends values) ≡ length ends
length-pairs at keys [] values h = refl
length-pairs at keys (e ∷ ends) [] h = absurd (omega (arith, h))
length-pairs at keys (e ∷ ends) (v ∷ values) h = ap suc (length-pairs e keys ends values (omega (arith, h)))

-- each pair that is kept has an end
pub few-ends : (p : Pairs) (i : ℕ) → Sound p → i < length (pairs_seen p) → i < length p.ends.items
few-ends p i sound within = omega (arith, within, length-pairs 0 p.keys.items p.ends.items p.values sound.values)

pub pair-at : (at i : ℕ) (keys ends : List ℕ) (values : List Value) → length values ≡ length ends → i < length ends
    → get_or (pairs_from at keys ends values) i ([], One) ≡ (slice_range keys (get_or (at ∷ ends) i 0) (get_or ends i 0), get_or values i One)
pair-at at i keys [] values h k = absurd (omega arith)
pair-at at i keys (e ∷ ends) [] h k = absurd (omega (arith, h))
pair-at at zero keys (e ∷ ends) (v ∷ values) h k = refl
pair-at at (suc i) keys (e ∷ ends) (v ∷ values) h k = pair-at e i keys ends values (omega (arith, h)) (omega arith)

pub pairs-more : (at : ℕ) (keys key ends : List ℕ) (values : List Value) (v : Value) → EndsRise at (length keys) ends → length values ≡ length ends
    → pairs_from at (keys ++ key) (ends ++ length (keys ++ key) ∷ []) (values ++ v ∷ []) ≡ pairs_from at keys ends values ++ (key, v) ∷ []
pairs-more at keys key [] [] v r h =
    ap (λ (k : List ℕ). (k, v) ∷ []) (ap (λ (a : ℕ). slice_range (keys ++ key) a (length (keys ++ key))) r ∙ range-end keys key)
pairs-more at keys key [] (w ∷ values) v r h = absurd (omega (arith, h))
pairs-more at keys key (e ∷ ends) [] v r h = absurd (omega (arith, h))
pairs-more at keys key (e ∷ ends) (w ∷ values) v r h =
    ap (λ (k : List ℕ). (k, w) ∷ pairs_from e (keys ++ key) (ends ++ length (keys ++ key) ∷ []) (values ++ v ∷ []))
    (range-more keys key at e r.0 (rise-request e (length keys) ends r.1))
    ∙ ap (λ (l : List Emission). (slice_range keys at e, w) ∷ l) (pairs-more e keys key ends values v r.1 (omega (arith, h)))
