-- Lists whose items are changed one after another.
use Rattle.std.proofs.Common.{◌≡◌, ℕ, zero, suc, ◌<◌, List, [], ◌∷◌, length, get_or, take, refl, ap, sym, subst, arith}
use Rattle.std.proofs.Math.ListN.{set}
use Rattle.mr_shard_files.specs.Streams.{AllAre}

-- the relation holds of the first i, and those behind are as before
abbrev pub KeptTo : {X A : Type 0} → (X → A → A → Type 0) → ℕ → List X → List A → List A → Type 0
KeptTo P zero xs os ns = ns ≡ os
KeptTo P (suc i) (x ∷ xs) (o ∷ os) (n ∷ ns) = P x o n × KeptTo P i xs os ns
KeptTo P (suc i) _ _ _ = ⊥

module _ {X A : Type 0} (P : X → A → A → Type 0) where
  pub kept_more : (i : ℕ) (xs : List X) (os ns : List A) (dx : X) (d n : A) → i < length xs → i < length os → KeptTo P i xs os ns → P (get_or xs i dx) (get_or ns i d) n → KeptTo P (suc i) xs os (set ns i n)
  kept_more zero [] os ns dx d n a b h k = absurd (omega (arith, a))
  kept_more zero (x ∷ xs) [] ns dx d n a b h k = absurd (omega (arith, b))
  kept_more zero (x ∷ xs) (o ∷ os) ns dx d n a b h k = subst (λ us. KeptTo P (suc zero) (x ∷ xs) (o ∷ os) (set us zero n)) (sym h) (subst (λ us. P x (get_or us zero d) n) h k, refl)
  kept_more (suc i) [] os ns dx d n a b h k = absurd h
  kept_more (suc i) (x ∷ xs) [] ns dx d n a b h k = absurd h
  kept_more (suc i) (x ∷ xs) (o ∷ os) [] dx d n a b h k = absurd h
  kept_more (suc i) (x ∷ xs) (o ∷ os) (m ∷ ns) dx d n a b h k = (h.0, kept_more i xs os ns dx d n (omega (arith, a)) (omega (arith, b)) h.1 k)

  pub kept_all : (xs : List X) (os ns : List A) → length xs ≡ length os → KeptTo P (length xs) xs os ns → AllAre P xs os ns
  kept_all [] [] ns e h = subst (λ us. AllAre P [] [] us) (sym h) tt
  kept_all [] (o ∷ os) ns e h = absurd (omega (arith, e))
  kept_all (x ∷ xs) [] ns e h = absurd (omega (arith, e))
  kept_all (x ∷ xs) (o ∷ os) [] e h = absurd h
  kept_all (x ∷ xs) (o ∷ os) (n ∷ ns) e h = (h.0, kept_all xs os ns (omega (arith, e)) h.1)

  pub kept_first : (i : ℕ) (xs : List X) (os ns : List A) → KeptTo P i xs os ns → AllAre P (take i xs) (take i os) (take i ns)
  kept_first zero xs os ns h = tt
  kept_first (suc i) [] os ns h = absurd h
  kept_first (suc i) (x ∷ xs) [] ns h = absurd h
  kept_first (suc i) (x ∷ xs) (o ∷ os) [] h = absurd h
  kept_first (suc i) (x ∷ xs) (o ∷ os) (n ∷ ns) h = (h.0, kept_first i xs os ns h.1)

  pub kept_same : (i : ℕ) (xs : List X) (os ns : List A) (d : A) → KeptTo P i xs os ns → get_or ns i d ≡ get_or os i d
  kept_same zero xs os ns d h = ap (λ us. get_or us zero d) h
  kept_same (suc i) [] os ns d h = absurd h
  kept_same (suc i) (x ∷ xs) [] ns d h = absurd h
  kept_same (suc i) (x ∷ xs) (o ∷ os) [] d h = absurd h
  kept_same (suc i) (x ∷ xs) (o ∷ os) (n ∷ ns) d h = kept_same i xs os ns d h.1

  pub kept_length : (i : ℕ) (xs : List X) (os ns : List A) → KeptTo P i xs os ns → length ns ≡ length os
  kept_length zero xs os ns h = ap length h
  kept_length (suc i) [] os ns h = absurd h
  kept_length (suc i) (x ∷ xs) [] ns h = absurd h
  kept_length (suc i) (x ∷ xs) (o ∷ os) [] h = absurd h
  kept_length (suc i) (x ∷ xs) (o ∷ os) (n ∷ ns) h = ap suc (kept_length i xs os ns h.1)

  pub all_length : (xs : List X) (os ns : List A) → AllAre P xs os ns → length ns ≡ length os
  all_length [] [] [] h = refl
  all_length [] [] (n ∷ ns) h = absurd h
  all_length [] (o ∷ os) ns h = absurd h
  all_length (x ∷ xs) [] ns h = absurd h
  all_length (x ∷ xs) (o ∷ os) [] h = absurd h
  all_length (x ∷ xs) (o ∷ os) (n ∷ ns) h = ap suc (all_length xs os ns h.1)
