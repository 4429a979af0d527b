-- Sizes of files and of their parts.
use Rattle.std.proofs.Common.{◌≡◌, ℕ, ◌+◌, ◌<◌, ◌≤◌, List, length, get_or, take, Vec, Global, [], ◌∷◌, refl}
use Rattle.std.proofs.lemmas.List.Sums.{sum_by_more_le, get_or-le-sum_by}
use Rattle.std.specs.List.{sum_by, fold}
use Rattle.mr_input.specs.Files.{contents, total_size}

summed : (n : ℕ) (fs : List (Vec ℕ Global)) → fold (λ a x. a + length x) n (contents fs) ≡ fold (λ a x. a + length x.items) n fs
summed n [] = refl
summed n (f ∷ fs) = summed (n + length f.items) fs

total_size-contents : (fs : List (Vec ℕ Global)) → total_size (contents fs) ≡ sum_by (λ f. length f.items) fs
total_size-contents fs = summed 0 fs

pub total_size-more : (fs : List (Vec ℕ Global)) (i : ℕ) (d : Vec ℕ Global) → i < length fs
    → total_size (contents (take i fs)) + length (get_or fs i d).items ≤ total_size (contents fs)
total_size-more fs i d h =
    rw (total_size-contents (take i fs), total_size-contents fs) (sum_by_more_le (λ f. length f.items) fs i d h)

pub length-file : (fs : List (Vec ℕ Global)) (i : ℕ) (d : Vec ℕ Global) → i < length fs
    → length (get_or fs i d).items ≤ total_size (contents fs)
length-file fs i d h = rw (total_size-contents fs) (get_or-le-sum_by (λ f. length f.items) fs i d h)
