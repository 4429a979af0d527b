-- A hash, a byte at a time.
use Rattle.std.proofs.Common.{◌≡◌, ℕ, zero, suc, ◌+◌, ◌<◌, ◌≤◌, List, [], ◌∷◌, length, get_or, drop, refl, ◌∙◌, arith}
use Rattle.std.proofs.lemmas.List.{at_drop_more, at_drop_all}
use Rattle.mr_lanes.specs.Hashes.{fnv_from, stir}

fnv_from-cons : (h b : ℕ) (bs : List ℕ) → fnv_from h (b ∷ bs) ≡ fnv_from (stir h b) bs
unfolding fnv_from
fnv_from-cons h b bs = refl

pub fnv_from-nil : (h : ℕ) → fnv_from h [] ≡ h
unfolding fnv_from
fnv_from-nil h = refl

pub fnv_from-more : (h at : ℕ) (bs : List ℕ) → at < length bs → fnv_from h (drop at bs) ≡ fnv_from (stir h (get_or bs at 0)) (drop (at + 1) bs)
fnv_from-more h at bs less = at_drop_more (fnv_from h) bs at 0 less ∙ fnv_from-cons h (get_or bs at 0) (drop (at + 1) bs)

pub fnv_from-end : (h at : ℕ) (bs : List ℕ) → length bs ≤ at → fnv_from h (drop at bs) ≡ h
fnv_from-end h at bs past = at_drop_all (fnv_from h) bs at past ∙ fnv_from-nil h
