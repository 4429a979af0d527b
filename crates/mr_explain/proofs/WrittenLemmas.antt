-- Bytes that a writer took, one after another.
use Rattle.std.proofs.Common.{◌≡◌, ℕ, List, [], ◌++◌, Option, None, Some, ap, sym, ◌∙◌, refl, append_assoc}
use Rattle.std.proofs.lemmas.List.{append-nil}
use Rattle.std.specs.Io.KnownBytes.{append_known}
use Rattle.mr_store.specs.Devices.{Seen, with_bytes}

known_joined : (known : Option (List ℕ)) (xs ys : List ℕ) → append_known (append_known known xs) ys ≡ append_known known (xs ++ ys)
known_joined None xs ys = refl
known_joined (Some x) xs ys = ap Some (append_assoc x xs ys)

known_same : (known : Option (List ℕ)) → known ≡ append_known known []
known_same None = refl
known_same (Some x) = ap Some (sym (append-nil x))

abbrev with_known : Seen → Option (List ℕ) → Seen
with_known w known = record { contents = known; handed_on = w.handed_on; failed = w.failed }

pub nothing_written : (w : Seen) → w ≡ with_bytes w []
nothing_written w = ap (λ known. with_known w known) (known_same w.contents)

pub written : (a b c : Seen) (xs ys : List ℕ) → b ≡ with_bytes a xs → c ≡ with_bytes b ys → c ≡ with_bytes a (xs ++ ys)
written a b c xs ys first second =
    second ∙ ap (λ w. with_bytes w ys) first ∙ ap (λ known. with_known a known) (known_joined a.contents xs ys)
