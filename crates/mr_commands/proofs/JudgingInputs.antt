-- Files that were read as an input, or not.
use Rattle.std.proofs.Common.{◌≡◌, ◌⊎◌, inl, inr, ℕ, suc, ◌<◌, ◌≤◌, ◌^◌, Bool, List, [], ◌∷◌, Option, length, refl, ap, arith}
use Rattle.std.proofs.lemmas.List.{length-map}
use Rattle.std.specs.Prelude.{Vec}
use Rattle.std.specs.Global.{Global}
use Rattle.mr_input.specs.Files.{contents, total_size}
use Rattle.mr_input.specs.declared.InputFault.{InputFault}
use Rattle.mr_input.specs.declared.InputFault.TheVariants.{TooManyFiles, TooLarge}
use Rattle.mr_files.specs.Holding.{Faulty, Stored}
use Rattle.mr_files.specs.Identities.{Known}
use Rattle.mr_files.specs.Stretches.{AreTaken, AreTakenFrom, IsUntaken, Stretch}
use Rattle.mr_files.specs.declared.store.FileFault.TheVariants as file
use Rattle.mr_files.specs.declared.ranges.RangeFault.{RangeFault}
use Rattle.mr_files.specs.declared.ranges.RangeFault.TheVariants as range
use Rattle.mr_args.specs.declared.fault.Fault.TheVariants.{Input}
use Rattle.mr_commands.specs.Inputs.{IsInputRefusal, IsUnreadInput, told_of_unread}

taken_lengths : (holds : Stored) (ns : List (List ℕ)) (from : ℕ) (to : Option ℕ) (bs : List (List ℕ)) (ends : Bool) → AreTakenFrom holds ns from to bs ends → length ns ≡ length bs
taken_lengths holds [] from to [] ends h = refl
taken_lengths holds [] from to (b ∷ bs) ends h = absurd h
taken_lengths holds (n ∷ []) from to [] ends h = absurd h
taken_lengths holds (n ∷ []) from to (b ∷ []) ends h = refl
taken_lengths holds (n ∷ []) from to (b ∷ c ∷ bs) ends h = absurd h
taken_lengths holds (n ∷ m ∷ ns) from to [] ends h = absurd h
taken_lengths holds (n ∷ m ∷ ns) from to (b ∷ bs) ends h = ap suc (taken_lengths holds (m ∷ ns) 0 to bs ends h.1)

-- as many files are taken as there are names
pub as_many : (holds : Stored) (s : Stretch) (files : List (List ℕ)) (ends : Bool) → AreTaken holds s files ends → length s.names ≡ length files
as_many holds s files ends h = taken_lengths holds s.names s.from s.to files ends h

-- files that were read have no more bytes than the limit, so there are too many of them
pub input_fault : (holds : Stored) (unreadable : Faulty) (s : Stretch) (files : List (Vec ℕ Global)) (ends : Bool) (fault : InputFault)
    → AreTaken holds s (contents files) ends → total_size (contents files) ≤ 2 ^ 30
    → (fault ≡ TooManyFiles → 1024 < length files) → (fault ≡ TooLarge → (length files ≤ 1024) × (2 ^ 30 < total_size (contents files)))
    → IsUnreadInput holds unreadable s (Input fault)
input_fault holds unreadable s files ends TooManyFiles taken small many large =
    (contents files, ends, taken, small, omega (arith, many refl, as_many holds s (contents files) ends taken, length-map files (λ (f : Vec ℕ Global). f.items)))
input_fault holds unreadable s files ends TooLarge taken small many large = absurd (omega (arith, small, (large refl).1))

-- a file that is not taken
pub unread_file : (holds : Stored) (unreadable : Faulty) (known : Known) (s : Stretch) (read written : List (List ℕ)) (size at : ℕ) (fault : RangeFault) → IsUntaken holds unreadable s (2 ^ 30) at fault → IsInputRefusal holds unreadable known s read written size (told_of_unread at fault)
unread_file holds unreadable known s read written size at (range.File (file.CannotRead name)) h = (at, h)
unread_file holds unreadable known s read written size at (range.File (file.CannotWrite name)) h = absurd h.refused
unread_file holds unreadable known s read written size at (range.File file.OutOfMemory) h = tt
unread_file holds unreadable known s read written size at range.PastEnd h = h
unread_file holds unreadable known s read written size at (range.InsideALine byte) h = h
unread_file holds unreadable known s read written size at range.TooLong h = (at, h)

split : (n m : ℕ) → (n ≤ m) ⊎ (m < n)
split n m = grind arith

-- files that are an input are within the limits
pub few_read : (n : ℕ) → ¬ (1024 < n) → n ≤ 1024
few_read n small = by (split n 1024)
  where
    by : (n ≤ 1024) ⊎ (1024 < n) → n ≤ 1024
    by (inl h) = h
    by (inr h) = absurd (small h)
