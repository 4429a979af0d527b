-- The groups of a certificate, joined and read one by one.
use Rattle.std.proofs.Common.{◌≡◌, ℕ, zero, suc, ◌+◌, ◌≤◌, List, [], ◌∷◌, ◌++◌, length, take, drop, refl, ap, sym, ◌∙◌, arith}
use Rattle.std.proofs.lemmas.List.{length-take, length-drop, take_all, take-append-le, drop-append-le, take-append-drop}
use Rattle.std.proofs.lemmas.List.Concat.{flat_map-append}
use Rattle.std.specs.List.{flat_map}
use Rattle.mr_certform.specs.Value.{names_of}
use Rattle.mr_bytes.specs.declared.Name.{Name}
use Rattle.mr_certform.specs.Flat.{Told, total, chunks, contents_of, IsWhole}
use Rattle.mr_certform.proofs.Pieces.{length-chunks, chunks_take, chunks_drop}

-- what is behind the pieces does not bear on them
chunks_front : {X : Type 0} (gs : List ℕ) (xs ys : List X) → total gs ≤ length xs → chunks gs (xs ++ ys) ≡ chunks gs xs
chunks_front [] xs ys h = refl
chunks_front (g ∷ gs) xs ys h =
    let room : g ≤ length xs = omega arith in
    ap (λ w. w ∷ chunks gs (drop g (xs ++ ys))) (take-append-le g xs ys room) ∙ ap (λ w. take g xs ∷ w) (ap (chunks gs) (drop-append-le g xs ys room) ∙ chunks_front gs (drop g xs) ys (omega (arith, length-drop g xs)))

-- ---- all names

take_add : {X : Type 0} (m n : ℕ) (xs : List X) → take m xs ++ take n (drop m xs) ≡ take (m + n) xs
take_add zero n xs = ap (λ k. take k xs) (let e : n ≡ 0 + n = omega arith in e)
take_add (suc m) n [] = take_all n [] (omega arith) ∙ sym (take_all (suc m + n) [] (omega arith))
take_add (suc m) n (x ∷ xs) = ap (λ w. x ∷ w) (take_add m n xs) ∙ ap (λ k. take k (x ∷ xs)) (let e : suc (m + n) ≡ suc m + n = omega arith in e)

names_joined : {X : Type 0} (es : List ℕ) (xs : List X) → flat_map (λ ns. ns) (chunks es xs) ≡ take (total es) xs
names_joined [] xs = refl
names_joined (e ∷ es) xs = ap (λ w. take e xs ++ w) (names_joined es (drop e xs)) ∙ take_add e (total es) xs

groups_joined : (gs : List ℕ) (xs : List (List Name)) → flat_map (λ hs. flat_map (λ ns. ns) hs) (chunks gs xs) ≡ flat_map (λ ns. ns) (take (total gs) xs)
groups_joined [] xs = refl
groups_joined (g ∷ gs) xs =
    ap (λ w. flat_map (λ ns. ns) (take g xs) ++ w) (groups_joined gs (drop g xs))
    ∙ (sym (flat_map-append (λ ns. ns) (take g xs) (take (total gs) (drop g xs))) ∙ ap (flat_map (λ ns. ns)) (take_add g (total gs) xs))

pub all_names : (t : Told) → IsWhole t → names_of (contents_of t) ≡ t.names
all_names t h =
    groups_joined t.group_counts (chunks t.entry_counts t.names)
    ∙ (ap (flat_map (λ ns. ns)) (take_all (total t.group_counts) (chunks t.entry_counts t.names) (omega (arith, h.groups, length-chunks t.entry_counts t.names)))
    ∙ (names_joined t.entry_counts t.names ∙ take_all (total t.entry_counts) t.names (omega (arith, h.entries))))

pub all_parts : (t : Told) → IsWhole t → t.parts ≡ length (contents_of t).groups
all_parts t h = sym h.one_each ∙ sym (length-chunks t.group_counts (chunks t.entry_counts t.names))

-- ---- read one by one

-- the pieces need no more than they hold
chunks_enough : {X : Type 0} (es : List ℕ) (ns : List X) → total es ≤ length ns → chunks es (take (total es) ns) ≡ chunks es ns
chunks_enough es ns h =
    sym (chunks_front es (take (total es) ns) (drop (total es) ns) (omega (arith, length-take (total es) ns)))
    ∙ ap (chunks es) (take-append-drop (total es) ns)

pub partition_read : (gs : List ℕ) (n : ℕ) (ms es : List ℕ) (ns : List Name) → gs ≡ n ∷ ms → total (take n es) ≤ length ns → chunks gs (chunks es ns) ≡ chunks (take n es) (take (total (take n es)) ns) ∷ chunks ms (chunks (drop n es) (drop (total (take n es)) ns))
partition_read gs n ms es ns e room =
    ap (λ w. chunks w (chunks es ns)) e
    ∙ (ap (λ w. w ∷ chunks ms (drop n (chunks es ns))) (chunks_take n es ns ∙ sym (chunks_enough (take n es) ns room))
    ∙ ap (λ w. chunks (take n es) (take (total (take n es)) ns) ∷ chunks ms w) (chunks_drop n es ns))
