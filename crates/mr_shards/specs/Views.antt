-- How clauses see lines and cursors.
use Rattle.std.specs.Prelude.{Bool, true, false, ◌≡◌, ℕ, ◌+◌, ◌<◌, ◌^◌, List, [], ◌∷◌, ◌++◌, Option, None, Some, MatchOption, map, replicate, decimal}
use Rattle.mr_bytes.specs.declared.Value.{Value}
use Rattle.mr_bytes.specs.declared.Value.TheVariants.{One, At}
use Rattle.mr_jobs.specs.JobSpec.{JobSpec, group_text_of}
use Rattle.std.specs.Borrow.{Bor}
use Rattle.std.specs.List.{flat_map}
use Rattle.mr_bytes.specs.Cut.{Lacks}
use Rattle.mr_jobs.specs.declared.job.GroupText.{GroupText}
use Rattle.mr_jobs.specs.declared.job.GroupText.TheVariants.{Count, Lines, Files as Listing}
use Rattle.mr_reduce.specs.Text.{place_line}
use Rattle.mr_reduce.specs.Writing.{last_file, values_text}
use Rattle.mr_shards.specs.declared.line.Line.{Line}
use Rattle.mr_shards.specs.declared.line.Tally.{Tally}
use Rattle.mr_shards.specs.declared.line.Tally.TheVariants.{Total, Place, Files}
use Rattle.mr_shards.specs.Index.{IsFileList}
use Rattle.mr_shards.specs.Lines.{numbers_in, places_in}
use Rattle.mr_shards.specs.Merged.{Group}
use Rattle.mr_shards.specs.Portions.{no_shift, shifted_value}
use Rattle.mr_bytes.specs.Lists.{Has}

abbrev pub values_of : Tally → List Value
values_of (Total n) = replicate n One
values_of (Place file offset) = At file offset ∷ []
values_of (Files list last moved) = map (shifted_value moved) (places_in (numbers_in list.now))

-- the group that a line stands for
abbrev pub group_of : Line → Group
group_of l = record { key = l.key.now; values = values_of l.tally }

-- the list names files with rising numbers that fit in 32 bits, and that is the last of them
abbrev pub IsListTo : ℕ → List ℕ → Type 0
IsListTo last list = (last < 2 ^ 32) × ((ns : List ℕ) × IsFileList (last + 1) list ns × Has ns last)

-- a line states so much behind its tab: a total, a place, or a list of files
abbrev pub IsParsedFor : GroupText → Tally → List ℕ → Type 0
IsParsedFor Count (Total n) told = (told ≡ decimal n) × (n < 2 ^ 64)
IsParsedFor Lines (Place file offset) told = (told ≡ decimal file ++ 58 ∷ decimal offset) × (file < 2 ^ 32) × (offset < 2 ^ 64)
IsParsedFor Listing (Files list last moved) told = (told ≡ list.now) × (moved ≡ no_shift) × IsListTo last told
IsParsedFor form tally told = ⊥

-- a line of the job states so much behind its tab
abbrev pub IsParsed : JobSpec → Tally → List ℕ → Type 0
IsParsed job tally told = IsParsedFor (group_text_of job) tally told

-- a line is a key, a tab and what it states
abbrev pub IsSplit : JobSpec → List ℕ → List ℕ → Tally → Type 0
IsSplit job line key tally = (told : List ℕ) × (line ≡ key ++ 9 ∷ told) × IsParsed job tally told

-- so is this one split, or it can't be
abbrev pub Splits : JobSpec → List ℕ → Option (Bor (List ℕ) × Tally) → Type 0
Splits job line found = MatchOption found ((key : List ℕ) (tally : Tally) → IsSplit job line key tally → ⊥) (λ r. IsSplit job line r.0.now r.1)

-- the text begins with a line of the job
pub record BeginsWithLine (job : JobSpec) (text : List ℕ) : Type 0 where
  pub key : List ℕ
  pub told : List ℕ
  pub rest : List ℕ
  pub tally : Tally
  pub text_is : text ≡ (key ++ 9 ∷ told) ++ 10 ∷ rest
  pub clear : Lacks 10 key
  pub tells : IsParsed job tally told

-- a line states a total, a place, or a list of files that fit in 32 bits, as they are moved
abbrev pub IsTallyFor : GroupText → Tally → Type 0
IsTallyFor Count (Total n) = Unit {0}
IsTallyFor Lines (Place file offset) = Unit {0}
IsTallyFor Listing (Files list last moved) = IsListTo last list.now × (moved.files + last < 2 ^ 32)
IsTallyFor form tally = ⊥

-- a line of the job states such
abbrev pub IsFor : JobSpec → Tally → Type 0
IsFor job tally = IsTallyFor (group_text_of job) tally

-- as it stands in the output
abbrev pub IsUnshifted : Tally → Type 0
IsUnshifted (Total n) = Unit {0}
IsUnshifted (Place file offset) = Unit {0}
IsUnshifted (Files list last moved) = (moved ≡ no_shift) × IsListTo last list.now

-- ---- what waits

-- a key, if there is one, with its total, or with the text of its values and the last file of an index
pub record Waits : Type 0 where
  pub some : Bool
  pub key : List ℕ
  pub total : ℕ
  pub text : List ℕ
  pub last : Option ℕ

abbrev pub nothing_waits : Waits
nothing_waits = record { some = false; key = []; total = 0; text = []; last = None }

-- these values wait: so many, or their lines, or the line of an index without its end
abbrev pub HoldsFor : GroupText → Waits → List Value → Type 0
HoldsFor Count w vs = vs ≡ replicate w.total One
HoldsFor Lines w vs = (w.total ≡ 0) × (w.text ≡ flat_map (place_line w.key) vs)
HoldsFor Listing w vs = (w.total ≡ 0) × (w.text ≡ w.key ++ 9 ∷ values_text Listing [] None vs) × (w.last ≡ last_file None vs)

-- these values of a job wait
abbrev pub HoldsValues : JobSpec → Waits → List Value → Type 0
HoldsValues job w vs = HoldsFor (group_text_of job) w vs

-- this group waits, or none
abbrev pub WaitsFor : JobSpec → Waits → Option Group → Type 0
WaitsFor job w None = w.some ≡ false
WaitsFor job w (Some g) = (w.some ≡ true) × (w.key ≡ g.key) × HoldsValues job w g.values
