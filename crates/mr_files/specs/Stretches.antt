-- Stretches of files.
use Rattle.std.specs.Prelude.{◌≡◌, ℕ, zero, suc, ◌+◌, ◌-◌, ◌<◌, ◌≤◌, ◌==◌, Bool, true, Option, None, List, [], ◌∷◌, length, take, slice_index_or, if◌then◌else◌}
use Rattle.mr_input.specs.Files.{total_size}
use Rattle.mr_files.specs.Holding.{Faulty, Stored}
use Rattle.mr_files.specs.Ranges.{IsRangeOf, IsRangeRefusal}
use Rattle.mr_files.specs.declared.ranges.RangeFault.{RangeFault}

-- files one behind another: the first one from a byte on, the last one up to before another byte, or to its end
pub record Stretch : Type 0 where
  pub names : List (List ℕ)
  pub from : ℕ
  pub to : Option ℕ

-- what is taken of each file, in order, and whether the last one ends with it
abbrev pub AreTakenFrom : Stored → List (List ℕ) → ℕ → Option ℕ → List (List ℕ) → Bool → Type 0
AreTakenFrom holds [] from to [] ends = ends ≡ true
AreTakenFrom holds (n ∷ []) from to (b ∷ []) ends = (file : List ℕ) × holds n file × IsRangeOf file from to b ends
AreTakenFrom holds (n ∷ m ∷ ns) from to (b ∷ bs) ends = ((file : List ℕ) × holds n file × IsRangeOf file from None b true) × AreTakenFrom holds (m ∷ ns) 0 to bs ends
AreTakenFrom holds _ from to _ ends = ⊥

abbrev pub AreTaken : Stored → Stretch → List (List ℕ) → Bool → Type 0
AreTaken holds s taken ends = AreTakenFrom holds s.names s.from s.to taken ends

-- from which byte on the file of that number is taken, and up to before which
abbrev pub begin_in : Stretch → ℕ → ℕ
begin_in s zero = s.from
begin_in s (suc k) = 0

abbrev pub end_in : Stretch → ℕ → Option ℕ
end_in s k = if k + 1 == length s.names then s.to else None

-- why the file of that number was not taken
abbrev pub IsRefusedAt : Stored → Faulty → Stretch → ℕ → ℕ → RangeFault → Type 0
IsRefusedAt holds unreadable s file limit fault = IsRangeRefusal holds unreadable (slice_index_or s.names file []) (begin_in s file) (end_in s file) limit fault

-- why a stretch was not taken: those files before the one of that number were, within the limit, and this one was not
pub record IsUntaken (holds : Stored) (unreadable : Faulty) (s : Stretch) (limit file : ℕ) (fault : RangeFault) : Type 0 where
  pub inside : file < length s.names
  pub before : List (List ℕ)
  pub taken : AreTakenFrom holds (take file s.names) s.from None before true
  pub within : total_size before ≤ limit
  pub refused : IsRefusedAt holds unreadable s file (limit - total_size before) fault

-- ---- what each step gives

-- these bytes are taken of the file of that number, and whether it ends with them
abbrev pub IsTakenAt : Stored → Stretch → ℕ → List ℕ → Bool → Type 0
IsTakenAt holds s file bytes ends = (whole : List ℕ) × holds (slice_index_or s.names file []) whole × IsRangeOf whole (begin_in s file) (end_in s file) bytes ends
