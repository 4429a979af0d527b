-- Regions that are taken one by one.
use Rattle.std.specs.Prelude.{◌≡◌, ℕ, List}
use Rattle.mr_bytes.specs.Pairs.{Triple}
use Rattle.mr_spill.specs.Lent.{RegionText}
use Rattle.mr_merge.specs.Bytes.{AreSpelled}
use Rattle.mr_merge.specs.Merged.{joined}

-- the partition, and the pairs of the regions that were taken, one region behind another
pub record Collected : Type 0 where
  pub partition : ℕ
  pub pairs : List Triple

-- the pairs are those of these regions
pub record IsOfRegions (regions : List RegionText) (c : Collected) : Type 0 where
  pub values : List (List Triple)
  pub spelled : AreSpelled c.partition regions values
  pub is : c.pairs ≡ joined values
