-- Worked regions and groups.
use Rattle.std.specs.Prelude.{◌≡◌, ℕ, List, [], ◌∷◌}
use Rattle.mr_bytes.specs.declared.Value.TheVariants.{One}
use Rattle.mr_bytes.specs.Pairs.{Triple}
use Rattle.mr_merge.specs.Merged.{AreSound, joined, merged}

-- one occurrence of a key, with its split and place
abbrev pub one_of : List ℕ → ℕ → ℕ → Triple
one_of key split place = record { key = key; value = One; name = record { split = split; rec = 0; place = place } }

-- `b a b` of split 0, and `b` of split 1, as regions
abbrev pub of_split_0 : List Triple
of_split_0 = one_of (97 ∷ []) 0 1 ∷ one_of (98 ∷ []) 0 0 ∷ one_of (98 ∷ []) 0 2 ∷ []

abbrev pub of_split_1 : List Triple
of_split_1 = one_of (98 ∷ []) 1 0 ∷ []

-- `a` once, and `b` three times, by name, whichever region is first
abbrev pub WorkedGroups : Type 0
WorkedGroups = merged (joined (of_split_1 ∷ of_split_0 ∷ []))
    ≡ record { key = 97 ∷ []; pairs = one_of (97 ∷ []) 0 1 ∷ [] }
    ∷ record { key = 98 ∷ []; pairs = one_of (98 ∷ []) 0 0 ∷ one_of (98 ∷ []) 0 2 ∷ one_of (98 ∷ []) 1 0 ∷ [] }
    ∷ []

-- a region twice is not sound, nor a name under two keys, nor a region that falls
abbrev pub WorkedTwice : Type 0
WorkedTwice = AreSound (of_split_0 ∷ of_split_0 ∷ []) → ⊥

abbrev pub WorkedTwoKeys : Type 0
WorkedTwoKeys = AreSound (of_split_0 ∷ (one_of (99 ∷ []) 0 2 ∷ []) ∷ []) → ⊥

abbrev pub WorkedFalling : Type 0
WorkedFalling = AreSound ((one_of (98 ∷ []) 0 0 ∷ one_of (97 ∷ []) 0 1 ∷ []) ∷ []) → ⊥
