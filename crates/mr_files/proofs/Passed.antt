-- What was read of a file, and the sizes of files one behind another.
use Rattle.std.proofs.Common.{◌≡◌, ℕ, ◌+◌, ◌≤◌, ◌<◌, List, [], ◌∷◌, ◌++◌, length, refl, sym, ap, ◌∙◌, subst, arith, rules, append_assoc, length-append}
use Rattle.std.specs.List.{AllByRecursion}
use Rattle.std.proofs.lemmas.List.Sums.{sum_by-append}
use Rattle.std.specs.Prelude.{Vec, Option, Some, None}
use Rattle.std.specs.Global.{Global}
use Rattle.std.specs.Io.KnownBytes.{Consumes}
use Rattle.mr_input.specs.Files.{contents, total_size}
use Rattle.mr_files.specs.Holding.{Agrees, Faulty, Stored}
use Rattle.mr_files.specs.Names.{name_of_certificate, name_of_part, part_names, result_names}
use Rattle.mr_files.specs.Refusals.{IsOneUnreadWithin, IsUnreadWithin}
use Rattle.mr_files.specs.declared.reading.LimitFault.{LimitFault}
use Rattle.mr_files.specs.declared.reading.LimitFault.TheVariants.{File, TooLong}
use Rattle.mr_files.proofs.Lists.{contents_more, one_certificate, one_part, part_among}

-- what was read begins what stands there
pub read_begins : (known left : Option (List ℕ)) (got : List ℕ) → Consumes known left got → (b : List ℕ) × Agrees known b × (length got ≤ length b)
read_begins None left got c = (got, tt, omega arith)
read_begins (Some xs) None got c = absurd c
read_begins (Some xs) (Some ys) got c = (xs, refl, omega (arith, ap length c, length-append got ys))

pub sizes_more : (fs : List (List ℕ)) (f : List ℕ) → total_size (fs ++ f ∷ []) ≡ total_size fs + length f
sizes_more fs f =
    let more : total_size (fs ++ f ∷ []) ≡ total_size fs + total_size (f ∷ []) = sum_by-append length fs (f ∷ []) in
    let one : total_size (f ∷ []) ≡ length f + 0 = search rules in
    omega (arith, more, one)

-- one file more
pub sizes_pushed : (files after : List (Vec ℕ Global)) (v : Vec ℕ Global) → after ≡ files ++ v ∷ [] → total_size (contents after) ≡ total_size (contents files) + length v.items
sizes_pushed files after v is = ap (λ fs. total_size (contents fs)) is ∙ (ap total_size (contents_more files v) ∙ sizes_more (contents files) v.items)

-- ---- a limit for each file

all_more : (fits : List ℕ → Type 0) (fs : List (List ℕ)) (f : List ℕ) → AllByRecursion fits fs → fits f → AllByRecursion fits (fs ++ f ∷ [])
all_more fits [] f a p = (p, tt)
all_more fits (g ∷ fs) f a p = (a.0, all_more fits fs f a.1 p)

pub all_pushed : (fits : List ℕ → Type 0) (files after : List (Vec ℕ Global)) (v : Vec ℕ Global)
    → after ≡ files ++ v ∷ [] → AllByRecursion fits (contents files) → fits v.items → AllByRecursion fits (contents after)
all_pushed fits files after v is a p = subst (AllByRecursion fits) (sym (ap contents is ∙ contents_more files v)) (all_more fits (contents files) v.items a p)

pub part_within : (holds : Stored) (unreadable : Faulty) (dir : List ℕ) (k n limit : ℕ) (e : LimitFault)
    → k < n → IsUnreadWithin holds unreadable (name_of_part dir k) limit e → IsOneUnreadWithin holds unreadable (result_names dir n) limit e
part_within holds unreadable dir k n limit (File fault) h u = one_part unreadable dir k n fault h u
part_within holds unreadable dir k n limit TooLong h (bytes, here, long) =
    let (after, is) = part_among dir k n h in (
      part_names dir k,
      after ++ name_of_certificate dir ∷ [],
      name_of_part dir k,
      bytes,
      ap (λ (v : List (List ℕ)). v ++ name_of_certificate dir ∷ []) is ∙ append_assoc (part_names dir k) (name_of_part dir k ∷ after) (name_of_certificate dir ∷ []),
      here,
      long,
    )

pub certificate_within : (holds : Stored) (unreadable : Faulty) (dir : List ℕ) (n limit : ℕ) (e : LimitFault)
    → IsUnreadWithin holds unreadable (name_of_certificate dir) limit e → IsOneUnreadWithin holds unreadable (result_names dir n) limit e
certificate_within holds unreadable dir n limit (File fault) u = one_certificate unreadable dir n fault u
certificate_within holds unreadable dir n limit TooLong (bytes, here, long) = (part_names dir n, [], name_of_certificate dir, bytes, refl, here, long)
