-- The verdict of an earlier result, which must not outlive that result.
use Rattle.std.specs.Prelude.{◌≡◌, ◌⊎◌, ℕ, ◌++◌, ◌∷◌, Option, None, Some, IfSome, List, [], codes, string_bytes, ⊤}
use Rattle.mr_files.specs.Holding.{ChangesAmong, Faulty, Stored}
use Rattle.mr_files.specs.Identities.{IsFirstShared, Known}
use Rattle.mr_files.specs.Names.{name_of_verdict}
use Rattle.mr_args.specs.declared.fault.Fault.{Fault}
use Rattle.mr_args.specs.declared.fault.Fault.TheVariants.{SameFile, OutOfMemory}
use Rattle.mr_commands.specs.Named.{named}

-- the first line of a verdict
abbrev pub IsVerdictLine : List ℕ → Type 0
IsVerdictLine line = (line ≡ codes "verdict 1\n") ⊎ (line ≡ codes "verdict 2\n")

-- a text begins as a verdict does
abbrev pub BeginsVerdict : List ℕ → Type 0
BeginsVerdict text = (line rest : List ℕ) × IsVerdictLine line × (text ≡ line ++ rest)

-- a verdict stood under the name that it has in the directory
abbrev pub StoodThere : Stored → List ℕ → Option (List ℕ) → Type 0
StoodThere holds dir None = ⊤
StoodThere holds dir (Some name) = (name ≡ name_of_verdict dir) × ((text : List ℕ) × holds name text × BeginsVerdict text)

-- none does: the file can't be read, is a pipe, a socket or a device, or begins otherwise
abbrev pub StoodNone : Stored → Faulty → Known → List ℕ → Type 0
StoodNone holds unreadable known dir = unreadable (name_of_verdict dir) ⊎ known (name_of_verdict dir) None
    ⊎ ((text : List ℕ) × holds (name_of_verdict dir) text × ¬ BeginsVerdict text)

-- the verdict that stands in the directory, if one does
abbrev pub IsOldVerdict : Stored → Faulty → Known → List ℕ → Option (List ℕ) → Type 0
IsOldVerdict holds unreadable known dir None = StoodNone holds unreadable known dir
IsOldVerdict holds unreadable known dir (Some name) = StoodThere holds dir (Some name)

-- the verdict is one of the files that a command reads or writes besides
abbrev pub IsVerdictShared : Stored → Known → List ℕ → List (List ℕ) → Fault → Type 0
IsVerdictShared holds known dir others (SameFile told) =
    (name : List ℕ) × StoodThere holds dir (Some name) × IsFirstShared known others (name ∷ []) (string_bytes told)
IsVerdictShared holds known dir others OutOfMemory = ⊤
IsVerdictShared holds known dir others fault = ⊥

-- a verdict that stood there is empty
abbrev pub IsEmptied : Stored → Option (List ℕ) → Type 0
IsEmptied new verdict = IfSome verdict (λ name. new name [])

-- what is written to empty it
abbrev pub no_text : Option (List ℕ) → List (List ℕ)
no_text None = []
no_text (Some name) = [] ∷ []

-- nothing changed but what stands under these names, and a verdict that stood in the directory
abbrev pub ChangesOver : Stored → Stored → List ℕ → List (List ℕ) → Type 0
ChangesOver old new dir names = (verdict : Option (List ℕ)) × StoodThere old dir verdict × ChangesAmong old new (named verdict ++ names)
