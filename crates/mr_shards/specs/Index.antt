-- The files that a line of an index names, as numbers between commas.
use Rattle.std.specs.Prelude.{◌≡◌, ℕ, suc, ◌+◌, ◌<◌, ◌^◌, List, [], ◌∷◌, Option, None, Some, decimal, length, map}
use Rattle.std.specs.Borrow.{Bor}
use Rattle.std.specs.List.{AllByRecursion}
use Rattle.std.specs.Ordering.{nat_cmp}
use Rattle.mr_bytes.specs.declared.Value.{Value}
use Rattle.mr_bytes.specs.Lists.{Rises}
use Rattle.mr_reduce.specs.Text.{comma_separated, files_of}
use Rattle.mr_shards.specs.Lines.{fields, numbers_in}
use Rattle.mr_shards.specs.Portions.{Shift, shifted_value}

-- files of values that are moved: a place within a file changes none
abbrev pub NumbersMove : Type 0
NumbersMove = (s : Shift) (vs : List Value) → files_of (map (shifted_value s) vs) ≡ map (λ file. s.files + file) (files_of vs)

-- a line has one reading, where its numbers fit in 64 bits
abbrev pub NumbersRead : Type 0
NumbersRead = (n : ℕ) (ns : List ℕ) → AllByRecursion (λ m. m < 2 ^ 64) (n ∷ ns) → numbers_in (comma_separated (n ∷ ns)) ≡ n ∷ ns

-- ---- how a list is read

-- the text names these files, of so many: their numbers rise
pub record IsFileList (files : ℕ) (list : List ℕ) (ns : List ℕ) : Type 0 where
  pub text : list ≡ comma_separated ns
  pub some : 0 < length ns
  pub rise : Rises nat_cmp ns
  pub below : AllByRecursion (λ n. n < files) ns

-- what stands between the commas that are left
abbrev pub fields_left : Option (Bor (List ℕ)) → List (List ℕ)
fields_left None = []
fields_left (Some rest) = fields rest.now

abbrev pub size_left : Option (Bor (List ℕ)) → ℕ
size_left None = 0
size_left (Some rest) = suc (length rest.now)

-- the list begins with a number that fits in 32 bits
pub record BeginsList (list : List ℕ) : Type 0 where
  pub number : ℕ
  pub more : List (List ℕ)
  pub is : fields list ≡ decimal number ∷ more
  pub small : number < 2 ^ 32

-- the least number behind the last one
abbrev pub number_past : Option ℕ → ℕ
number_past None = 0
number_past (Some n) = n + 1
