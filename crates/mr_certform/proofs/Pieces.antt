-- Steps of the loops that write.
use Rattle.std.proofs.Common.{◌≡◌, ℕ, zero, suc, ◌+◌, ◌≤◌, List, [], ◌∷◌, ◌++◌, length, take, drop, refl, ap, sym, ◌∙◌, subst, arith, append_assoc}
use Rattle.std.specs.List.{flat_map, AllByRecursion}
use Rattle.std.proofs.lemmas.List.{length-take, length-drop, drop-drop}
use Rattle.mr_bytes.specs.declared.Name.{Name}
use Rattle.mr_certform.specs.declared.version.Version.{Version}
use Rattle.mr_certform.specs.Places.{first_name}
use Rattle.mr_certform.specs.Spelling.{u32}
use Rattle.mr_certform.specs.Flat.{total, chunks}
use Rattle.mr_certform.specs.Pieces.{names_bytes, group_bytes, part_bytes}

pub groups_spelled : (v : Version) (cs : List ℕ) (n : ℕ) (ns : List ℕ) (rest : List Name) (out all : List ℕ) → cs ≡ n ∷ ns → total cs ≤ length rest → out ++ flat_map (group_bytes v) (chunks cs rest) ≡ all → ((out ++ u32 n) ++ names_bytes v first_name (take n rest)) ++ flat_map (group_bytes v) (chunks ns (drop n rest)) ≡ all
groups_spelled v cs n ns rest out all e room h =
    let long : n ≤ length rest = omega (arith, ap total e) in
    let size : length (take n rest) ≡ n = omega (arith, length-take n rest) in
    let front : out ++ ((u32 (length (take n rest)) ++ names_bytes v first_name (take n rest)) ++ flat_map (group_bytes v) (chunks ns (drop n rest))) ≡ all = sym (ap (λ w. out ++ flat_map (group_bytes v) (chunks w rest)) e) ∙ h in
    let sized : out ++ ((u32 n ++ names_bytes v first_name (take n rest)) ++ flat_map (group_bytes v) (chunks ns (drop n rest))) ≡ all = ap (λ w. out ++ ((u32 w ++ names_bytes v first_name (take n rest)) ++ flat_map (group_bytes v) (chunks ns (drop n rest)))) (sym size) ∙ front in
    let a : ((out ++ u32 n) ++ names_bytes v first_name (take n rest)) ++ flat_map (group_bytes v) (chunks ns (drop n rest)) ≡ (out ++ u32 n) ++ (names_bytes v first_name (take n rest) ++ flat_map (group_bytes v) (chunks ns (drop n rest))) = append_assoc (out ++ u32 n) (names_bytes v first_name (take n rest)) _ in
    let b : (out ++ u32 n) ++ (names_bytes v first_name (take n rest) ++ flat_map (group_bytes v) (chunks ns (drop n rest))) ≡ out ++ (u32 n ++ (names_bytes v first_name (take n rest) ++ flat_map (group_bytes v) (chunks ns (drop n rest)))) = append_assoc out (u32 n) _ in
    let c : (u32 n ++ names_bytes v first_name (take n rest)) ++ flat_map (group_bytes v) (chunks ns (drop n rest)) ≡ u32 n ++ (names_bytes v first_name (take n rest) ++ flat_map (group_bytes v) (chunks ns (drop n rest))) = append_assoc (u32 n) (names_bytes v first_name (take n rest)) _ in
    a ∙ (b ∙ (ap (λ w. out ++ w) (sym c) ∙ sized))

pub groups_behind : (cs : List ℕ) (n : ℕ) (ns : List ℕ) (rest all : List Name) → cs ≡ n ∷ ns → drop (total cs) rest ≡ all → drop (total ns) (drop n rest) ≡ all
groups_behind cs n ns rest all e h = drop-drop (total ns) n rest ∙ (sym (ap (λ w. drop (total w) rest) e) ∙ h)

pub groups_room : (cs : List ℕ) (n : ℕ) (ns : List ℕ) (rest : List Name) → cs ≡ n ∷ ns → total cs ≤ length rest → total ns ≤ length (drop n rest)
groups_room cs n ns rest e h = omega (arith, ap total e, length-drop n rest)

pub total_cut : (n : ℕ) (cs : List ℕ) → total (take n cs) + total (drop n cs) ≡ total cs
total_cut zero cs = omega arith
total_cut (suc n) [] = omega arith
total_cut (suc n) (c ∷ cs) = omega (arith, total_cut n cs)

pub length-chunks : {X : Type 0} (cs : List ℕ) (xs : List X) → length (chunks cs xs) ≡ length cs
length-chunks [] xs = refl
length-chunks (c ∷ cs) xs = ap suc (length-chunks cs (drop c xs))

pub chunks_take : {X : Type 0} (n : ℕ) (cs : List ℕ) (xs : List X) → take n (chunks cs xs) ≡ chunks (take n cs) xs
chunks_take zero cs xs = refl
chunks_take (suc n) [] xs = refl
chunks_take (suc n) (c ∷ cs) xs = ap (λ w. take c xs ∷ w) (chunks_take n cs (drop c xs))

pub chunks_drop : {X : Type 0} (n : ℕ) (cs : List ℕ) (xs : List X) → drop n (chunks cs xs) ≡ chunks (drop n cs) (drop (total (take n cs)) xs)
chunks_drop zero cs xs = refl
chunks_drop (suc n) [] xs = refl
chunks_drop (suc n) (c ∷ cs) xs = chunks_drop n cs (drop c xs) ∙ ap (chunks (drop n cs)) (drop-drop (total (take n cs)) c xs)

pub parts_spelled : (v : Version) (gs : List ℕ) (n : ℕ) (ms cs : List ℕ) (xs : List Name) (out all : List ℕ) → gs ≡ n ∷ ms → total gs ≤ length cs → out ++ flat_map (part_bytes v) (chunks gs (chunks cs xs)) ≡ all → ((out ++ u32 n) ++ flat_map (group_bytes v) (chunks (take n cs) xs)) ++ flat_map (part_bytes v) (chunks ms (chunks (drop n cs) (drop (total (take n cs)) xs))) ≡ all
parts_spelled v gs n ms cs xs out all e room h =
    let here : List (List Name) = chunks (take n cs) xs in
    let more : List ℕ = flat_map (part_bytes v) (chunks ms (chunks (drop n cs) (drop (total (take n cs)) xs))) in
    let long : n ≤ length cs = omega (arith, ap total e) in
    let size : length (chunks (take n cs) xs) ≡ n = omega (arith, length-chunks (take n cs) xs, length-take n cs) in
    let front : out ++ (part_bytes v (take n (chunks cs xs)) ++ flat_map (part_bytes v) (chunks ms (drop n (chunks cs xs)))) ≡ all = sym (ap (λ w. out ++ flat_map (part_bytes v) (chunks w (chunks cs xs))) e) ∙ h in
    let cut : out ++ (part_bytes v (chunks (take n cs) xs) ++ flat_map (part_bytes v) (chunks ms (chunks (drop n cs) (drop (total (take n cs)) xs)))) ≡ all =
    sym (ap (λ w. out ++ (part_bytes v w ++ flat_map (part_bytes v) (chunks ms (drop n (chunks cs xs))))) (chunks_take n cs xs) ∙ ap (λ w. out ++ (part_bytes v (chunks (take n cs) xs) ++ flat_map (part_bytes v) (chunks ms w))) (chunks_drop n cs xs)) ∙ front in
    let sized : out ++ ((u32 n ++ flat_map (group_bytes v) (chunks (take n cs) xs)) ++ flat_map (part_bytes v) (chunks ms (chunks (drop n cs) (drop (total (take n cs)) xs)))) ≡ all =
    sym (ap (λ w. out ++ ((u32 w ++ flat_map (group_bytes v) (chunks (take n cs) xs)) ++ flat_map (part_bytes v) (chunks ms (chunks (drop n cs) (drop (total (take n cs)) xs))))) size) ∙ cut in
    regroup out (u32 n) (flat_map (group_bytes v) (chunks (take n cs) xs)) (flat_map (part_bytes v) (chunks ms (chunks (drop n cs) (drop (total (take n cs)) xs)))) ∙ sized
  where
    regroup : (a b c d : List ℕ) → ((a ++ b) ++ c) ++ d ≡ a ++ ((b ++ c) ++ d)
    regroup a b c d = simp append_assoc

-- ---- what holds of each

pub All-append : {X : Type 0} (P : X → Type 0) (xs ys : List X) → AllByRecursion P xs → AllByRecursion P ys → AllByRecursion P (xs ++ ys)
All-append P [] ys h k = k
All-append P (x ∷ xs) ys h k = (h.0, All-append P xs ys h.1 k)

pub All-take : {X : Type 0} (P : X → Type 0) (n : ℕ) (xs : List X) → AllByRecursion P xs → AllByRecursion P (take n xs)
All-take P zero xs h = tt
All-take P (suc n) [] h = tt
All-take P (suc n) (x ∷ xs) h = (h.0, All-take P n xs h.1)

pub All-drop : {X : Type 0} (P : X → Type 0) (n : ℕ) (xs : List X) → AllByRecursion P xs → AllByRecursion P (drop n xs)
All-drop P zero xs h = h
All-drop P (suc n) [] h = tt
All-drop P (suc n) (x ∷ xs) h = All-drop P n xs h.1

pub chunks_split : {X : Type 0} (n : ℕ) (cs : List ℕ) (xs : List X) → chunks (take n cs) xs ++ chunks (drop n cs) (drop (total (take n cs)) xs) ≡ chunks cs xs
chunks_split zero cs xs = refl
chunks_split (suc n) [] xs = refl
chunks_split (suc n) (c ∷ cs) xs = ap (λ w. take c xs ∷ w) (ap (λ w. chunks (take n cs) (drop c xs) ++ chunks (drop n cs) w) (sym (drop-drop (total (take n cs)) c xs)) ∙ chunks_split n cs (drop c xs))

-- one more that fits
pub one_more : {X : Type 0} (P : X → Type 0) (xs : List X) (x : X) (ys : List X) (Q : Type 0) → xs ≡ x ∷ ys → P x → (AllByRecursion P xs → Q) → AllByRecursion P ys → Q
one_more P xs x ys Q e h k all = k (subst (AllByRecursion P) (sym e) (h, all))

-- ---- what a sink takes, one piece behind another

-- a piece more that is put in front of what is to come
pub put_piece : {S : Type 0} (takes : S → S → List ℕ → Type 0) (joined : (a b c : S) (xs ys : List ℕ) → takes a b xs → takes b c ys → takes a c (xs ++ ys))
    (start was now : S) (piece more all whole : List ℕ) → takes was now piece → piece ++ more ≡ all
    → ((new : S) → takes was new all → takes start new whole) → (new : S) → takes now new more → takes start new whole
put_piece takes joined start was now piece more all whole h e k new t = k new (subst (takes was new) e (joined was now new piece more h t))

-- the next of a list
pub put_next : {S X : Type 0} (takes : S → S → List ℕ → Type 0) (joined : (a b c : S) (xs ys : List ℕ) → takes a b xs → takes b c ys → takes a c (xs ++ ys))
    (f : X → List ℕ) (xs : List X) (x : X) (ys : List X) (start was now : S) (piece whole : List ℕ) → xs ≡ x ∷ ys → piece ≡ f x → takes was now piece
    → ((new : S) → takes was new (flat_map f xs) → takes start new whole) → (new : S) → takes now new (flat_map f ys) → takes start new whole
put_next takes joined f xs x ys start was now piece whole e p h k =
    put_piece takes joined start was now piece (flat_map f ys) (flat_map f xs) whole h (ap (λ w. w ++ flat_map f ys) p ∙ sym (ap (flat_map f) e)) k
