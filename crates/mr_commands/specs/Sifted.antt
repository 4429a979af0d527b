-- Of no public promise: what is read of the files of `explain`, and what is kept of them.
use Rattle.std.specs.Prelude.{◌≡◌, ℕ, ◌+◌, ◌≤◌, ◌^◌, None, List, [], length, map}
use Rattle.std.specs.List.{AllByRecursion, flat_map}
use Rattle.mr_input.specs.Files.{contents, split_total, total_size}
use Rattle.mr_files.specs.Holding.{Stored}
use Rattle.mr_files.specs.Stretches.{Stretch}
use Rattle.mr_explain.specs.Explained.{IsUnwanted}
use Rattle.mr_explain.specs.Sifting.{Heading, IsSifting, SiftedFile, heading_of, kept_files, kept_lines}
use Rattle.mr_explain.specs.declared.query.Wanted.{Wanted}
use Rattle.mr_explain.specs.declared.sifting.Sifted.{Sifted}
use Rattle.mr_args.specs.declared.request.ExplainOptions.{ExplainOptions}
use Rattle.mr_args.specs.declared.request.Options.{Options}
use Rattle.mr_args.specs.Asked.{request_asked}
use Rattle.mr_commands.specs.Inputs.{IsAsked}
use Rattle.mr_commands.specs.Named.{input_names}
use Rattle.mr_commands.specs.declared.sifted.SiftedFiles.{SiftedFiles}
use Rattle.mr_commands.specs.declared.sifted.SiftedRun.{SiftedRun}

-- all of the files is taken
pub record TakesAll (o : Options) : Type 0 where
  pub from : o.from ≡ 0
  pub to : o.to ≡ None

-- no record is left out, no result is compared, and all of the files is taken
pub record AsksAlone (o : ExplainOptions) : Type 0 where
  pub skips : o.skips.now ≡ []
  pub result : o.result ≡ None
  pub all : TakesAll o.options

-- whole files
abbrev pub whole_stretch : List (List ℕ) → Stretch
whole_stretch names = record { names = names; from = 0; to = None }

-- ---- one file

-- what stands under the name is sifted, within these limits of bytes and excerpts
pub record IsSiftedFile (holds : Stored) (name : List ℕ) (so : List ℕ → Type 0) (limit most : ℕ) (s : Sifted) : Type 0 where
  pub file : List ℕ
  pub held : holds name file
  pub length_is : s.length ≡ length file
  pub within : length file ≤ limit
  pub sifting : IsSifting so file (map kept_lines s.excerpts.items)
  pub few : length s.excerpts.items ≤ most

-- ---- files one behind another

abbrev pub names_of : List SiftedFile → List (List ℕ)
names_of files = map (λ f. f.name) files

abbrev pub wholes : List SiftedFile → List (List ℕ)
wholes files = map (λ f. f.file) files

-- how what is kept of them is printed
abbrev pub headings : List SiftedFile → List Heading
headings files = map (λ f. f.0) (flat_map kept_files files)

-- what is kept of them
abbrev pub keeps : List SiftedFile → List (List ℕ)
keeps files = map (λ f. f.1) (flat_map kept_files files)

-- the file stands under its name and is sifted, into no more excerpts than that
pub record StandsSifted (holds : Stored) (so : List ℕ → Type 0) (most : ℕ) (f : SiftedFile) : Type 0 where
  pub held : holds f.name f.file
  pub sifting : IsSifting so f.file f.kept
  pub few : length f.kept ≤ most

-- the files under these names were read and sifted, within the limit of bytes
pub record HasSifted (holds : Stored) (so : List ℕ → Type 0) (size most : ℕ) (names : List (List ℕ)) (s : SiftedFiles) : Type 0 where
  pub files : List SiftedFile
  pub names_are : names_of files ≡ names
  pub stand : AllByRecursion (StandsSifted holds so most) files
  pub sources : map heading_of s.sources.items ≡ headings files
  pub excerpts : contents s.excerpts.items ≡ keeps files
  pub lengths : s.lengths.items ≡ map length (wholes files)
  pub left : total_size (wholes files) + s.left ≡ 2 ^ 30
  pub splits : s.splits ≡ split_total size (wholes files)

-- what is asked for can be had, and the input is what is kept of the files
pub record IsSiftedRun (holds : Stored) (o : Options) (wanted : Wanted) (r : SiftedRun) : Type 0 where
  pub most : ℕ
  pub files : List SiftedFile
  pub asked : IsAsked o
  pub request : r.request ≡ request_asked o
  pub names_are : names_of files ≡ input_names o
  pub stand : AllByRecursion (StandsSifted holds (IsUnwanted (request_asked o).job wanted) most) files
  pub fits : split_total o.split (wholes files) ≤ 2 ^ 20
  pub sources : map heading_of r.sources.items ≡ headings files
  pub input : r.input ≡ keeps files
  pub lengths : r.lengths.items ≡ map length (wholes files)
