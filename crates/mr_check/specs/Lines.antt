-- Of no public promise: the key that a line of an output tells.
use Rattle.std.specs.Prelude.{◌≡◌, ◌≢◌, ℕ, ◌<◌, ◌==◌, if◌then◌else◌, List, [], ◌∷◌, Option, None, Some, option_map, option_and_then, get_or}

-- what stands before the first line feed
unfoldable pub line_of : List ℕ → Option (List ℕ)
line_of [] = None
line_of (b ∷ bs) = if b == 10 then Some [] else option_map (λ line. b ∷ line) (line_of bs)

-- one more byte in front of what stands before the last TAB; where there is none, it may be one
abbrev pub tab_behind : ℕ → Option (List ℕ) → Option (List ℕ)
tab_behind b None = if b == 9 then Some [] else None
tab_behind b (Some front) = Some (b ∷ front)

-- what stands before the last TAB
unfoldable pub before_last_tab : List ℕ → Option (List ℕ)
before_last_tab [] = None
before_last_tab (b ∷ bs) = tab_behind b (before_last_tab bs)

-- of the line in front, what stands before its last TAB
abbrev pub told_key : List ℕ → Option (List ℕ)
told_key bytes = option_and_then before_last_tab (line_of bytes)

-- among the first bytes of a line: it ends at `end`, its last TAB is at `count`, and before that it agrees with the key
pub record TellsNear (line key : List ℕ) (count : ℕ) : Type 0 where
  pub end : ℕ
  pub few : end < 32
  pub feed : get_or line end 0 ≡ 10
  pub no_feed : (k : ℕ) → k < end → get_or line k 0 ≢ 10
  pub within : count < end
  pub tab : get_or line count 0 ≡ 9
  pub no_tab : (k : ℕ) → count < k → k < end → get_or line k 0 ≢ 9
  pub same : (k : ℕ) → k < count → get_or line k 0 ≡ get_or key k 0
