-- The files that a merge writes, apart from those that it reads.
use Rattle.std.specs.Prelude.{◌≡◌, ℕ, ⊤, List, [], ◌∷◌, ◌++◌, Option, None, Some, string_bytes}
use Rattle.mr_files.specs.Folders.{IsFolderOf}
use Rattle.mr_files.specs.Identities.{AreApart, IsFirstShared, Known}
use Rattle.mr_files.specs.Names.{merged_names, part_names}
use Rattle.mr_shard_files.specs.declared.fault.ShardFault.{ShardFault}
use Rattle.mr_shard_files.specs.declared.fault.ShardFault.TheVariants.{OutOfMemory, SameFile}

-- the names of the first so many parts beside each verdict
abbrev pub AreBeside : ℕ → List (List ℕ) → List (List ℕ) → Type 0
AreBeside parts [] all = all ≡ []
AreBeside parts (n ∷ ns) all =
    (folder : List ℕ) × (rest : List (List ℕ)) × IsFolderOf n folder × AreBeside parts ns rest × (all ≡ part_names folder parts ++ rest)

abbrev pub names_with : List (List ℕ) → Option (List ℕ) → List (List ℕ)
names_with names None = names
names_with names (Some list) = names ++ list ∷ []

-- the names of all files that a merge reads: the parts, the verdicts, and the list, where one is named
abbrev pub AreRead : List (List ℕ) → Option (List ℕ) → ℕ → List (List ℕ) → Type 0
AreRead names list parts read = (beside : List (List ℕ)) × AreBeside parts names beside × (read ≡ beside ++ names_with names list)

-- no file that the merge writes to the folder is one that it reads, or one that it writes before
abbrev pub AreUnshared : Known → List (List ℕ) → Option (List ℕ) → List ℕ → ℕ → Type 0
AreUnshared known names list dir parts = (read : List (List ℕ)) × AreRead names list parts read × AreApart known read (merged_names dir parts)

-- one is
abbrev pub IsShared : Known → List (List ℕ) → Option (List ℕ) → List ℕ → ℕ → ShardFault → Type 0
IsShared known names list dir parts (SameFile name) =
    (read : List (List ℕ)) × AreRead names list parts read × IsFirstShared known read (merged_names dir parts) (string_bytes name)
IsShared known names list dir parts OutOfMemory = ⊤
IsShared known names list dir parts fault = ⊥
