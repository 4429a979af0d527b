-- Of no public promise: entries that were taken at their word, by windows of the input.
use Rattle.std.specs.Prelude.{◌≡◌, ℕ, ◌+◌, ◌/◌, ◌%◌, ◌^◌, Some, List, [], ◌∷◌, ◌++◌, map, drop, slice_index_or, All}
use Rattle.std.specs.List.{AllByRecursion}
use Rattle.mr_bytes.specs.declared.Name.{Name}
use Rattle.mr_bytes.specs.Lists.{Has}
use Rattle.mr_bytes.specs.Pairs.{Triple}
use Rattle.mr_sequential.specs.Good.{named}
use Rattle.mr_check.specs.declared.claims.Late.{Late}
use Rattle.mr_index.specs.declared.window.Window.{Window}
use Rattle.mr_check.specs.Lines.{told_key}

-- an entry that was taken at its word: its name, and the place of its group's line in all outputs
pub record Claim : Type 0 where
  pub name : Name
  pub line : ℕ

-- there is a pair of that name, and the line tells its key
abbrev pub IsRight : List Triple → List ℕ → Claim → Type 0
IsRight ts bytes c = (t : Triple) × ((named ts c.name ≡ Some t) × (told_key (drop c.line bytes) ≡ Some t.key))

abbrev pub AreRight : List Triple → List ℕ → List Claim → Type 0
AreRight ts bytes claims = AllByRecursion (IsRight ts bytes) claims

-- what was claimed is kept, and this too is claimed
pub record PutsOff (old : List Claim) (c : Claim) (new : List Claim) : Type 0 where
  pub kept : (x : Claim) → Has old x → Has new x
  pub put : Has new c

-- windows, and how many of a late entry's bits tell its place in its record
pub record Division : Type 0 where
  pub bits : ℕ
  pub list : List Window

-- what stands for a window past the last
abbrev pub no_window : Window
no_window = record { split = 0; from = 0; end = 0 }

abbrev pub nth_window : List Window → ℕ → Window
nth_window ws w = slice_index_or ws w no_window

-- the name of the pair that a late entry of a window means
abbrev pub name_of : ℕ → Window → ℕ → Name
name_of bits w low = record { split = w.split; rec = w.from + low / 2 ^ bits; place = low % 2 ^ bits }

-- what a late entry of a window claims
abbrev pub claim_of : ℕ → Window → Late → Claim
claim_of bits w e = record { name = name_of bits w e.low; line = e.line }

-- the late entries of each window
pub record Taken : Type 0 where
  pub windows : Division
  pub lists : List (List Late)

-- the list of a window, which is empty past the last
abbrev pub nth_list : List (List Late) → ℕ → List Late
nth_list ls w = slice_index_or ls w []

abbrev pub claims_in : ℕ → List Window → List (List Late) → List Claim
claims_in bits [] ls = []
claims_in bits (w ∷ ws) [] = []
claims_in bits (w ∷ ws) (l ∷ ls) = map (claim_of bits w) l ++ claims_in bits ws ls

-- all that was claimed
abbrev pub claims_of : Taken → List Claim
claims_of t = claims_in t.windows.bits t.windows.list t.lists

-- each late entry of a window is right
abbrev pub IsRightWindow : List Triple → List ℕ → Taken → ℕ → Type 0
IsRightWindow ts bytes t w = All (λ e. IsRight ts bytes (claim_of t.windows.bits (nth_window t.windows.list w) e)) (nth_list t.lists w)
