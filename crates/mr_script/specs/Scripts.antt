-- What a script spells, and which of its lines is bad.
use Rattle.std.specs.Prelude.{◌≡◌, ◌⊎◌, ℕ, ◌+◌, List, [], ◌∷◌, ◌++◌, length}
use Rattle.std.specs.List.{AllByRecursion}
use Rattle.mr_records.specs.Records.{Record, records}
use Rattle.mr_script.specs.declared.script.Directive.{Directive}
use Rattle.mr_script.specs.declared.script.ScriptFault.{ScriptFault}
use Rattle.mr_script.specs.declared.script.ScriptFault.TheVariants.{BadLine, OutOfMemory}
use Rattle.mr_script.specs.Lines.{SaysNothing, SpellsLine, Stands}

-- the lines, one by one, say nothing or spell the directives in order
abbrev pub SpellsLines : List Record → List Directive → Type 0
SpellsLines [] ds = ds ≡ []
SpellsLines (l ∷ ls) ds = (SaysNothing l.bytes × SpellsLines ls ds)
    ⊎ ((d : Directive) × (rest : List Directive) × (ds ≡ d ∷ rest) × SpellsLine l.bytes d × SpellsLines ls rest)

-- the lines of a script are the records of its bytes
abbrev pub SpellsScript : List ℕ → List Directive → Type 0
SpellsScript bytes ds = SpellsLines (records bytes) ds

-- line n, from 1, is bad, and all lines before it say nothing or spell a directive
pub record IsFirstBad (lines : List Record) (n : ℕ) : Type 0 where
  pub before : List Record
  pub bad : Record
  pub behind : List Record
  pub lines_are : lines ≡ before ++ bad ∷ behind
  pub stand : AllByRecursion (λ l. Stands l.bytes) before
  pub is_bad : Stands bad.bytes → ⊥
  pub number : n ≡ length before + 1

abbrev pub IsScriptFault : List ℕ → ScriptFault → Type 0
IsScriptFault bytes (BadLine n) = IsFirstBad (records bytes) n
IsScriptFault bytes OutOfMemory = Unit {0}

-- the line says nothing and the list stays, or its directive is added at the end
abbrev pub Adds : List ℕ → List Directive → List Directive → Type 0
Adds line old new = (SaysNothing line × (new ≡ old)) ⊎ ((d : Directive) × SpellsLine line d × (new ≡ old ++ d ∷ []))

-- the line of that number is bad
abbrev pub IsLineFault : List ℕ → ℕ → ScriptFault → Type 0
IsLineFault line n (BadLine m) = (m ≡ n) × (Stands line → ⊥)
IsLineFault line n OutOfMemory = Unit {0}
