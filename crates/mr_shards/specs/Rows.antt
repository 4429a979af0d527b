-- Worked rows: a log of three lines, cut behind the first, and a second file.
use Rattle.std.specs.Prelude.{◌≡◌, true, false, List, [], ◌∷◌, map}
use Rattle.mr_bytes.specs.declared.By.TheVariants.{Key}
use Rattle.mr_jobs.specs.JobSpec.{JobSpec, LinesWith, InvertedIndex, RequestSpec}
use Rattle.mr_shards.specs.Merged.{texts}
use Rattle.mr_shards.specs.Portions.{Portion, merged_portions, whole_of}
use Rattle.mr_shards.specs.Spots.{left_out_of, left_out_spots}
use Rattle.mr_shards.specs.PortionLines.{part_read}

abbrev pub asked : JobSpec → RequestSpec
asked job = record { job = job; by = Key; parts = 1; split = 4; skips = 9 }

-- `ab`; then `b` and `cb`, of which the first is left out; then another file with `b`
abbrev pub three_portions : List Portion
three_portions =
    record { cut = true; files = (97 ∷ 98 ∷ 10 ∷ []) ∷ []; skips = [] }
    ∷ record { cut = false; files = (98 ∷ 10 ∷ 99 ∷ 98 ∷ 10 ∷ []) ∷ []; skips = record { split = 0; rec = 0 } ∷ [] }
    ∷ record { cut = false; files = (98 ∷ []) ∷ []; skips = [] } ∷ []

-- the whole files
abbrev pub WorkedFiles : Type 0
WorkedFiles = whole_of three_portions ≡ (97 ∷ 98 ∷ 10 ∷ 98 ∷ 10 ∷ 99 ∷ 98 ∷ 10 ∷ []) ∷ (98 ∷ []) ∷ []

-- the left-out record begins at byte 3 of file 0, and is record 1 of split 0 of the whole
abbrev pub WorkedSpots : Type 0
WorkedSpots = left_out_spots 4 three_portions ≡ record { file = 0; start = 3 } ∷ []

abbrev pub WorkedNames : Type 0
WorkedNames = left_out_of 4 three_portions ≡ record { split = 0; rec = 1 } ∷ []

-- the lines with `b`: `ab` tab 0:0, `b` tab 1:0, `cb` tab 0:5
abbrev pub WorkedLines : Type 0
WorkedLines = texts (LinesWith (98 ∷ []) false) (merged_portions (map (part_read (asked (LinesWith (98 ∷ []) false)) 0) three_portions))
    ≡ 97 ∷ 98 ∷ 9 ∷ 48 ∷ 58 ∷ 48 ∷ 10 ∷ 98 ∷ 9 ∷ 49 ∷ 58 ∷ 48 ∷ 10 ∷ 99 ∷ 98 ∷ 9 ∷ 48 ∷ 58 ∷ 53 ∷ 10 ∷ []

-- the files of each word, where nothing is left out: `b` tab 0,1
abbrev pub two_portions : List Portion
two_portions =
    record { cut = true; files = (98 ∷ 10 ∷ []) ∷ []; skips = [] }
    ∷ record { cut = false; files = (98 ∷ 10 ∷ []) ∷ (98 ∷ []) ∷ []; skips = [] } ∷ []

abbrev pub WorkedIndex : Type 0
WorkedIndex = texts (InvertedIndex false) (merged_portions (map (part_read (asked (InvertedIndex false)) 0) two_portions))
    ≡ 98 ∷ 9 ∷ 48 ∷ 44 ∷ 49 ∷ 10 ∷ []
