-- The names that commands read and write.
use Rattle.std.specs.Prelude.{ℕ, ◌∷◌, ◌++◌, Option, None, Some, List, [], map, option_map}
use Rattle.std.specs.List.{AllByRecursion}
use Rattle.mr_bytes.specs.Cut.{Lacks}
use Rattle.mr_files.specs.Names.{result_names}
use Rattle.mr_files.specs.Stretches.{Stretch}
use Rattle.mr_args.specs.declared.request.CheckOptions.{CheckOptions}
use Rattle.mr_args.specs.declared.request.Options.{Options}

-- the names of the input files, in order
abbrev pub input_names : Options → List (List ℕ)
input_names o = map (λ s. s.now) o.files.items

-- what is taken of these files
abbrev pub stretch_of : Options → Stretch
stretch_of o = record { names = input_names o; from = o.from; to = o.to }

-- the name that is given, if one is
abbrev pub named : Option (List ℕ) → List (List ℕ)
named None = []
named (Some name) = name ∷ []

-- the names of the files of a result in the directory, if one is written
abbrev pub names_in : Option (List ℕ) → ℕ → List (List ℕ)
names_in None parts = []
names_in (Some dir) parts = result_names dir parts

-- the name that is given for the verdict
abbrev pub verdict_file : CheckOptions → Option (List ℕ)
verdict_file o = option_map (λ s. s.now) o.verdict

-- the names that `check` reads: those of the result and those of the input
abbrev pub read_by_check : CheckOptions → List (List ℕ)
read_by_check o = result_names o.options.out.now o.options.parts ++ input_names o.options

-- the names that it may write: that of the verdict, where one is given
abbrev pub written_by_check : CheckOptions → List (List ℕ)
written_by_check o = named (verdict_file o)

-- no name of the input holds a line feed, so that each stands in one line
abbrev pub AreClear : Options → Type 0
AreClear o = AllByRecursion (Lacks 10) (input_names o)
