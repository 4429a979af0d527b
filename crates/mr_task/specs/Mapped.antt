-- What a map task hands on: regions as bytes (OSDI 2004, section 3.1).
use Rattle.std.specs.Prelude.{◌≡◌, ℕ, ◌<◌, List, [], map, slice_index_or}
use Rattle.mr_bytes.specs.Pairs.{Triple}
use Rattle.mr_merge.specs.Bytes.{AreSpelled}
use Rattle.mr_sequential.specs.Rules.{Key}
use Rattle.mr_spill.specs.Lent.{RegionText}
use Rattle.mr_spill.specs.Sealed.{RunText}
use Rattle.mr_task.specs.Values.{IsCutOf}

-- how many partitions there are, and the runs, each with a region for each of them
pub record Mapped : Type 0 where
  pub parts : ℕ
  pub runs : List RunText

-- the region that a run has for partition `p`
abbrev pub region_of : ℕ → RunText → RegionText
region_of p run = record { split = run.split; bytes = slice_index_or run.regions p [] }

-- and those of all runs
abbrev pub regions_at : ℕ → List RunText → List RegionText
regions_at p runs = map (region_of p) runs

-- run `i`, from 0
abbrev pub nth_run : List RunText → ℕ → RunText
nth_run runs i = slice_index_or runs i (record { split = 0; regions = [] })

-- the pairs were cut run by run, and the bytes spell the regions of the runs
pub record IsMapped (part : Key → ℕ) (parts : ℕ) (pairs : List Triple) (out : Mapped) : Type 0 where
  pub regions : List (List (List Triple))
  pub parts_are : out.parts ≡ parts
  pub cut : IsCutOf part parts pairs regions
  pub spelled : (p : ℕ) → p < parts → AreSpelled p (regions_at p out.runs) (slice_index_or regions p [])
