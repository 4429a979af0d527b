-- The folder of a file.
use Rattle.std.specs.Prelude.{◌≡◌, ◌⊎◌, ℕ, List, None, codes}
use Rattle.std.specs.Str.Pattern.{RFindsChar, SplitsAroundMatch}

-- what stands before the last slash of its name, and `.` where there is none
abbrev pub IsFolderOf : List ℕ → List ℕ → Type 0
IsFolderOf name folder = ((back : List ℕ) × SplitsAroundMatch (RFindsChar 47) name folder back)
    ⊎ (RFindsChar 47 name None × (folder ≡ codes "."))
