-- How many splits files have.
use Rattle.std.proofs.Common.{◌≡◌, ℕ, ◌+◌, ◌-◌, ◌/◌, ◌<◌, ◌≤◌, List, [], ◌∷◌, length, drop, refl, ◌∙◌, arith}
use Rattle.std.proofs.lemmas.List.{at_drop_more, at_drop_all}
use Rattle.std.proofs.Math.Nat.{div-le_self}
use Rattle.mr_input.specs.Files.{split_count, split_total, nth_file}

split_total-nil : (size : ℕ) → split_total size [] ≡ 0
unfolding split_total
split_total-nil size = refl

split_total-cons : (size : ℕ) (f : List ℕ) (fs : List (List ℕ)) → split_total size (f ∷ fs) ≡ split_count size f + split_total size fs
unfolding split_total
split_total-cons size f fs = refl

pub split_total-more : (size : ℕ) (fs : List (List ℕ)) (i : ℕ) → i < length fs
    → split_total size (drop i fs) ≡ split_count size (nth_file fs i) + split_total size (drop (i + 1) fs)
split_total-more size fs i h = at_drop_more (split_total size) fs i [] h ∙ split_total-cons size (nth_file fs i) (drop (i + 1) fs)

pub split_total-end : (size : ℕ) (fs : List (List ℕ)) (i : ℕ) → length fs ≤ i → split_total size (drop i fs) ≡ 0
split_total-end size fs i h = at_drop_all (split_total size) fs i h ∙ split_total-nil size

pub few_splits : (size n : ℕ) → (n + size - 1) / size ≤ n + size
few_splits size n = omega (arith, div-le_self (n + size - 1) size)
