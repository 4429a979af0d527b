-- Ranges that tile files.
use Rattle.std.proofs.Common.{◌≡◌, ℕ, ◌+◌, ◌-◌, cond, eqb, Bool, true, false, List, [], ◌∷◌, ◌++◌, length, drop, take, map, refl, sym, ◌∙◌, ap, arith, ◌&&◌, slice_range}
use Rattle.std.proofs.lemmas.Bool.{and_parts, eqb-true}
use Rattle.std.proofs.lemmas.List.{drop-drop, take-append-drop, length-drop}
use Rattle.std.specs.Prelude.{nat_lt}
use Rattle.std.specs.Str.{bytes_eq}
use Rattle.mr_sequential.proofs.KeyLaws.{bytes_eq-is}
use Rattle.mr_shards.specs.Portions.{with_bytes}
use Rattle.mr_shards.specs.RangeNotes.{AreRangesOf, Follows, IsRangeOf, RangeNote, TilesAreFiles, assembled, goes_on, names_from}

pub record GoesOn (m n : RangeNote) : Type 0 where
  pub name : m.name ≡ n.name
  pub from : n.from ≡ m.from + m.length
  pub closed : m.closed ≡ true

pub goes-on : (m n : RangeNote) → goes_on m n ≡ true → GoesOn m n
goes-on m n e =
    let first = and_parts (bytes_eq m.name n.name) ((eqb n.from (m.from + m.length)) && (nat_lt 0 n.from && m.closed)) e in
    let second = and_parts (eqb n.from (m.from + m.length)) (nat_lt 0 n.from && m.closed) first.1 in
    let third = and_parts (nat_lt 0 n.from) m.closed second.1 in
    record { name = bytes_eq-is m.name n.name first.0; from = eqb-true n.from (m.from + m.length) second.0; closed = third.1 }

-- the rest of the file behind a range
rest-split : (file : List ℕ) (from n : ℕ) → drop from file ≡ slice_range file from (from + n) ++ drop (from + n) file
rest-split file from n =
    let count : from + n - from ≡ n = omega arith in
    sym (ap (λ k. take k (drop from file) ++ drop (from + n) file) count
    ∙ ap (λ l. take n (drop from file) ++ l) (sym (drop-drop n from file))
    ∙ take-append-drop n (drop from file))

rest-none : (file : List ℕ) (k : ℕ) → k ≡ length file → drop k file ≡ []
rest-none file k e = by (drop k file) (length-drop k file)
  where
    by : (l : List ℕ) → length l ≡ length file - k → l ≡ []
    by [] h = refl
    by (x ∷ xs) h = absurd (omega (arith, h, e))

last-range : (file : List ℕ) (n : RangeNote) (r : List ℕ) → IsRangeOf file n r → n.ends ≡ true → r ≡ drop n.from file
last-range file n r is ends =
    is.bytes ∙ sym (rest-split file n.from n.length ∙ ap (λ l. slice_range file n.from (n.from + n.length) ++ l) (rest-none file (n.from + n.length) (is.end ends)) ∙ nothing (slice_range file n.from (n.from + n.length)))
  where
    nothing : (l : List ℕ) → l ++ [] ≡ l
    nothing [] = refl
    nothing (x ∷ xs) = ap (λ l. x ∷ l) (nothing xs)

-- from a range on: the rest of its file, and the files behind it
tiles : (content : List ℕ → List ℕ) (n : RangeNote) (ns : List RangeNote) (r : List ℕ) (rs : List (List ℕ)) → Follows false n ns → IsRangeOf (content n.name) n r → AreRangesOf content ns rs
    → assembled (n ∷ ns) (r ∷ rs) ≡ drop n.from (content n.name) ∷ map content (names_from n ns)
tiles content n [] r [] ends is all = let here = last-range (content n.name) n r is (ends refl) in λ i. here i ∷ []
tiles content n [] r (q ∷ rs) ends is all = absurd all
tiles content n (m ∷ ns) r [] follows is all = absurd all
tiles content n (m ∷ ns) r (q ∷ rs) follows is all = by (goes_on n m) refl (tiles content m ns q rs follows.1 all.0 all.1)
  where
    on : goes_on n m ≡ true → r ++ drop m.from (content m.name) ≡ drop n.from (content n.name)
    on e =
        let g = goes-on n m e in
        ap (λ l. l ++ drop m.from (content m.name)) is.bytes
        ∙ ap (λ k. slice_range (content n.name) n.from (n.from + n.length) ++ drop k (content m.name)) g.from
        ∙ ap (λ k. slice_range (content n.name) n.from (n.from + n.length) ++ drop (n.from + n.length) (content k)) (sym g.name)
        ∙ sym (rest-split (content n.name) n.from n.length)

    new : goes_on n m ≡ false → (r ≡ drop n.from (content n.name)) × (drop m.from (content m.name) ≡ content m.name)
    new e = let w = follows.0 e in (last-range (content n.name) n r is w.0, ap (λ k. drop k (content m.name)) w.1)

    by : (b : Bool) → goes_on n m ≡ b → assembled (m ∷ ns) (q ∷ rs) ≡ drop m.from (content m.name) ∷ map content (names_from m ns)
        → cond b (with_bytes r (assembled (m ∷ ns) (q ∷ rs))) (r ∷ assembled (m ∷ ns) (q ∷ rs))
        ≡ drop n.from (content n.name) ∷ map content (cond b (names_from m ns) (m.name ∷ names_from m ns))
    by true e later = ap (with_bytes r) later ∙ (let here = on e in λ i. here i ∷ map content (names_from m ns))
    by false e later = ap (λ l. r ∷ l) later ∙ (let w = new e in λ i. w.0 i ∷ w.1 i ∷ map content (names_from m ns))

pub tiles_are_files : TilesAreFiles
tiles_are_files content [] [] tile all = refl
tiles_are_files content [] (r ∷ rs) tile all = absurd all
tiles_are_files content (n ∷ ns) [] tile all = absurd all
tiles_are_files content (n ∷ ns) (r ∷ rs) tile all =
    tiles content n ns r rs tile.1 all.0 all.1 ∙ ap (λ k. drop k (content n.name) ∷ map content (names_from n ns)) (tile.0 refl)
