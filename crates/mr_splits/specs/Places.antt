-- Where a split lies in its file.
use Rattle.std.specs.Prelude.{◌≡◌, ℕ, ◌+◌, ◌*◌, ◌<◌, min, List, length, take}
use Rattle.mr_input.specs.Files.{split_count, split_total, nth_file}
use Rattle.mr_splits.specs.declared.plan.SplitPlace.{SplitPlace}

-- splits are numbered through the files in order; split j of a file of n bytes has the places from j * size to before
-- min ((j + 1) * size) n
pub record IsSplit (size : ℕ) (files : List (List ℕ)) (s : ℕ) (p : SplitPlace) : Type 0 where
  pub in_file : ℕ
  pub file : p.file < length files
  pub exists : in_file < split_count size (nth_file files p.file)
  pub number : s ≡ split_total size (take p.file files) + in_file
  pub start : p.start ≡ in_file * size
  pub end : p.end ≡ min ((in_file + 1) * size) (length (nth_file files p.file))
