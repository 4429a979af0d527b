-- Steps of what is written piece by piece.
use Rattle.std.proofs.Common.{◌≡◌, ℕ, zero, suc, ◌+◌, ◌≤◌, ◌<◌, List, [], ◌∷◌, ◌++◌, Option, Some, None, length, take, drop, refl, ap, sym, ◌∙◌, arith, append_assoc}
use Rattle.std.proofs.lemmas.List.{get_or-drop, length-drop, drop-drop, take_all}
use Rattle.std.specs.Io.KnownBytes.{append_known}
use Rattle.mr_store.specs.Devices.{AreBytes, Seen, with_bytes}

take_add : (m n : ℕ) (xs : List ℕ) → take m xs ++ take n (drop m xs) ≡ take (m + n) xs
take_add zero n xs = ap (λ k. take k xs) (let e : n ≡ 0 + n = omega arith in e)
take_add (suc m) n [] = take_all n [] (omega arith) ∙ sym (take_all (suc m + n) [] (omega arith))
take_add (suc m) n (x ∷ xs) = ap (λ w. x ∷ w) (take_add m n xs) ∙ ap (λ k. take k (x ∷ xs)) (let e : suc (m + n) ≡ suc m + n = omega arith in e)

-- one write behind another
known_joined : (known : Option (List ℕ)) (xs ys zs : List ℕ) → xs ++ ys ≡ zs → append_known (append_known known xs) ys ≡ append_known known zs
known_joined None xs ys zs e = refl
known_joined (Some x) xs ys zs e = ap Some (append_assoc x xs ys ∙ ap (λ w. x ++ w) e)

abbrev with_known : Seen → Option (List ℕ) → Seen
with_known w known = record { contents = known; handed_on = w.handed_on; failed = w.failed }

bytes_joined : (w : Seen) (xs ys zs : List ℕ) → xs ++ ys ≡ zs → with_bytes (with_bytes w xs) ys ≡ with_bytes w zs
bytes_joined w xs ys zs e = ap (λ known. with_known w known) (known_joined w.contents xs ys zs e)

-- a beginning of the bytes was written, and the rest is left
abbrev pub Cut : List ℕ → List ℕ → Seen → Seen → Type 0 → Type 0
Cut bytes rest was is Same = (k : ℕ) × (k ≤ length bytes) × (rest ≡ drop k bytes) × (is ≡ with_bytes was (take k bytes)) × (k ≡ 0 → Same)

pub cut_more : (bytes rest : List ℕ) (was mid is : Seen) (Same Next : Type 0) (n : ℕ) → Cut bytes rest was mid Same → 0 < n → n ≤ length rest → is ≡ with_bytes mid (take n rest) → Cut bytes (drop n rest) was is Next
cut_more bytes rest was mid is Same Next n c some room h =
    let here : rest ≡ drop (c.0) bytes = c.2 in
    let le : c.0 ≤ length bytes = c.1 in
    let sum : drop n (drop (c.0) bytes) ≡ drop (c.0 + n) bytes = drop-drop n (c.0) bytes in (
      c.0 + n,
      omega (arith, ap length here, length-drop (c.0) bytes),
      ap (drop n) here ∙ sum,
      h ∙ (ap (λ w. with_bytes w (take n rest)) c.3 ∙ bytes_joined was (take (c.0) bytes) (take n rest) (take (c.0 + n) bytes) (ap (λ w. take (c.0) bytes ++ take n w) here ∙ take_add (c.0) n bytes)),
      λ z. absurd (omega (arith, z)),
    )

pub nothing_left : (n : ℕ) (xs : List ℕ) → length xs ≤ n → drop n xs ≡ []
nothing_left zero [] h = refl
nothing_left zero (x ∷ xs) h = absurd (omega arith)
nothing_left (suc n) [] h = refl
nothing_left (suc n) (x ∷ xs) h = nothing_left n xs (omega arith)

-- ---- what is left of bytes are bytes

pub bytes_left : (n : ℕ) (bytes : List ℕ) → AreBytes bytes → AreBytes (drop n bytes)
bytes_left n bytes h i = rw get_or-drop (h (n + i))
