-- The names of a result's files.
use Rattle.std.specs.Prelude.{ℕ, ◌-◌, zero, suc, List, [], ◌∷◌, ◌++◌, length, codes, decimal, replicate}

-- a number in five digits, zeros in front
abbrev pub five_digits : ℕ → List ℕ
five_digits n = replicate (5 - length (decimal n)) 0x30 ++ decimal n

abbrev pub name_of_part : List ℕ → ℕ → List ℕ
name_of_part dir p = dir ++ (codes "/part-" ++ five_digits p)

abbrev pub name_of_certificate : List ℕ → List ℕ
name_of_certificate dir = dir ++ codes "/certificate"

-- the names of the first so many parts, in order
unfoldable pub part_names : List ℕ → ℕ → List (List ℕ)
part_names dir zero = []
part_names dir (suc n) = part_names dir n ++ name_of_part dir n ∷ []

-- the names of a result's files: the parts in order, and then the certificate
abbrev pub result_names : List ℕ → ℕ → List (List ℕ)
result_names dir parts = part_names dir parts ++ name_of_certificate dir ∷ []

abbrev pub name_of_verdict : List ℕ → List ℕ
name_of_verdict dir = dir ++ codes "/verdict"

-- the names of a merged result's files: the parts in order, and then the verdict
abbrev pub merged_names : List ℕ → ℕ → List (List ℕ)
merged_names dir parts = part_names dir parts ++ name_of_verdict dir ∷ []

-- the name of a part in its folder, and those of the first so many
abbrev pub part_file : ℕ → List ℕ
part_file p = codes "part-" ++ five_digits p

unfoldable pub part_files : ℕ → List (List ℕ)
part_files zero = []
part_files (suc n) = part_files n ++ part_file n ∷ []
