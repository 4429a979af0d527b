-- Writers that take their texts one after another.
use Rattle.std.proofs.Common.{◌≡◌, ℕ, zero, suc, ◌<◌, List, [], ◌∷◌, length, get_or, refl, ap, sym, subst, arith, inl, inr}
use Rattle.std.proofs.Math.ListN.{set}
use Rattle.mr_store.specs.Devices.{Seen, TookAll, TookSome, AllTook, StoppedAt, texts}
use Rattle.std.specs.Prelude.{Vec}
use Rattle.std.specs.Global.{Global}

-- the first i writers took their texts whole, and those behind are as before
abbrev pub Kept : {W : Type 0} → (W → Seen) → ℕ → List W → List W → List (List ℕ) → Type 0
Kept seen zero ws vs ts = vs ≡ ws
Kept seen (suc i) (w ∷ ws) (v ∷ vs) (t ∷ ts) = TookAll (seen w) (seen v) t × Kept seen i ws vs ts
Kept seen (suc i) _ _ _ = ⊥

pub kept_more : {W : Type 0} (seen : W → Seen) (i : ℕ) (ws vs : List W) (ts : List (List ℕ)) (d v : W) → i < length ws → i < length ts → Kept seen i ws vs ts → TookAll (seen (get_or vs i d)) (seen v) (get_or ts i []) → Kept seen (suc i) ws (set vs i v) ts
kept_more seen zero [] vs ts d v a b h k = absurd (omega arith)
kept_more seen zero (w ∷ ws) vs [] d v a b h k = absurd (omega arith)
kept_more seen zero (w ∷ ws) vs (t ∷ ts) d v a b h k = subst (λ us. Kept seen (suc zero) (w ∷ ws) (set us zero v) (t ∷ ts)) (sym h) (subst (λ us. TookAll (seen (get_or us zero d)) (seen v) t) h k, refl)
kept_more seen (suc i) (w ∷ ws) (u ∷ vs) (t ∷ ts) d v a b h k = (h.0, kept_more seen i ws vs ts d v (omega arith) (omega arith) h.1 k)
kept_more seen (suc i) ws vs ts d v a b h k = absurd h

pub kept_stop : {W : Type 0} (seen : W → Seen) (i : ℕ) (ws vs : List W) (ts : List (List ℕ)) (d v : W) → i < length ws → i < length ts → Kept seen i ws vs ts → TookSome (seen (get_or vs i d)) (seen v) (get_or ts i []) → StoppedAt seen ws (set vs i v) ts
kept_stop seen zero [] vs ts d v a b h k = absurd (omega arith)
kept_stop seen zero (w ∷ ws) vs [] d v a b h k = absurd (omega arith)
kept_stop seen zero (w ∷ ws) vs (t ∷ ts) d v a b h k = subst (λ us. StoppedAt seen (w ∷ ws) (set us zero v) (t ∷ ts)) (sym h) (inl (subst (λ us. TookSome (seen (get_or us zero d)) (seen v) t) h k, refl))
kept_stop seen (suc i) (w ∷ ws) (u ∷ vs) (t ∷ ts) d v a b h k = inr (h.0, kept_stop seen i ws vs ts d v (omega arith) (omega arith) h.1 k)
kept_stop seen (suc i) ws vs ts d v a b h k = absurd h

pub kept_all : {W : Type 0} (seen : W → Seen) (ws vs : List W) (ts : List (List ℕ)) → length ws ≡ length ts → Kept seen (length ts) ws vs ts → AllTook seen ws vs ts
kept_all seen [] vs [] e h = subst (λ us. AllTook seen [] us []) (sym h) tt
kept_all seen (w ∷ ws) vs [] e h = absurd (omega arith)
kept_all seen [] vs (t ∷ ts) e h = absurd (omega arith)
kept_all seen (w ∷ ws) [] (t ∷ ts) e h = absurd h
kept_all seen (w ∷ ws) (v ∷ vs) (t ∷ ts) e h = (h.0, kept_all seen ws vs ts (omega arith) h.1)

pub text_at : (os : List (Vec ℕ Global)) (i : ℕ) (d : Vec ℕ Global) → i < length os → get_or (texts os) i [] ≡ (get_or os i d).items
text_at [] i d h = absurd (omega arith)
text_at (o ∷ os) zero d h = refl
text_at (o ∷ os) (suc i) d h = text_at os i d (omega arith)

pub length-texts : (os : List (Vec ℕ Global)) → length (texts os) ≡ length os
length-texts [] = refl
length-texts (o ∷ os) = ap suc (length-texts os)
