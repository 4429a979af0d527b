-- Which file is told where one can't be read or written.
use Rattle.std.specs.Prelude.{◌≡◌, ◌<◌, ℕ, List, [], ◌∷◌, ◌++◌, ⊤, length, string_bytes}
use Rattle.mr_files.specs.Holding.{Begins, ChangesAmong, Faulty, Holding, Stored}
use Rattle.mr_store.specs.declared.reading.ReadFault.{ReadFault}
use Rattle.mr_store.specs.declared.reading.ReadFault.TheVariants.{Device}
use Rattle.mr_files.specs.declared.reading.LimitFault.{LimitFault}
use Rattle.mr_files.specs.declared.reading.LimitFault.TheVariants.{File, TooLong}
use Rattle.mr_files.specs.declared.store.FileFault.{FileFault}
use Rattle.mr_files.specs.declared.store.FileFault.TheVariants.{CannotRead, CannotWrite, OutOfMemory}

-- a file of that name was refused
abbrev pub IsFault : List ℕ → ReadFault → FileFault → Type 0
IsFault name fault OutOfMemory = ⊤
IsFault name fault (CannotRead told) = (fault ≡ Device) × (string_bytes told ≡ name)
IsFault name fault (CannotWrite told) = ⊥

-- this file can't be read
abbrev pub IsUnread : Faulty → List ℕ → FileFault → Type 0
IsUnread unreadable name (CannotRead told) = unreadable name × (string_bytes told ≡ name)
IsUnread unreadable name (CannotWrite told) = ⊥
IsUnread unreadable name OutOfMemory = ⊤

-- a fault of reading that names a file of which this is known, or want of memory
abbrev pub ReportsCause : (List ℕ → Type 0) → FileFault → Type 0
ReportsCause cause (CannotRead told) = cause (string_bytes told)
ReportsCause cause (CannotWrite told) = ⊥
ReportsCause cause OutOfMemory = ⊤

-- the file can't be read, or has more bytes than that
abbrev pub IsUnreadWithin : Stored → Faulty → List ℕ → ℕ → LimitFault → Type 0
IsUnreadWithin holds unreadable name limit (File fault) = IsUnread unreadable name fault
IsUnreadWithin holds unreadable name limit TooLong = (bytes : List ℕ) × holds name bytes × (limit < length bytes)

-- the name is one of these and can't be read
abbrev pub IsUnreadAmong : Faulty → List (List ℕ) → List ℕ → Type 0
IsUnreadAmong unreadable names name = (before after : List (List ℕ)) × (names ≡ before ++ name ∷ after) × unreadable name

-- such a name is told
abbrev pub IsOneUnread : Faulty → List (List ℕ) → FileFault → Type 0
IsOneUnread unreadable names (CannotRead told) = IsUnreadAmong unreadable names (string_bytes told)
IsOneUnread unreadable names (CannotWrite told) = ⊥
IsOneUnread unreadable names OutOfMemory = ⊤

-- under one of these names stand more bytes than that
abbrev pub IsOneLonger : Stored → List (List ℕ) → ℕ → Type 0
IsOneLonger holds names limit =
    (before after : List (List ℕ)) × (name bytes : List ℕ) × (names ≡ before ++ name ∷ after) × holds name bytes × (limit < length bytes)

-- one of these can't be read, or has more bytes than that
abbrev pub IsOneUnreadWithin : Stored → Faulty → List (List ℕ) → ℕ → LimitFault → Type 0
IsOneUnreadWithin holds unreadable names limit (File fault) = IsOneUnread unreadable names fault
IsOneUnreadWithin holds unreadable names limit TooLong = IsOneLonger holds names limit

-- this file can't be written
abbrev pub IsUnwritten : Faulty → List ℕ → FileFault → Type 0
IsUnwritten unwritable name (CannotRead told) = ⊥
IsUnwritten unwritable name (CannotWrite told) = unwritable name × (string_bytes told ≡ name)
IsUnwritten unwritable name OutOfMemory = ⊤

-- the name is one of these and can't be written
abbrev pub IsOneUnwritten : Faulty → List (List ℕ) → FileFault → Type 0
IsOneUnwritten unwritable names (CannotRead told) = ⊥
IsOneUnwritten unwritable names (CannotWrite told) = (before after : List (List ℕ)) × (names ≡ before ++ string_bytes told ∷ after) × unwritable (string_bytes told)
IsOneUnwritten unwritable names OutOfMemory = ⊤

-- a file of that name can't be written: those before it were written whole, under it stands what stood there or a
-- beginning of its text, and all else stands as before
pub record IsUnwrittenAt (old new : Stored) (unwritable : Faulty) (names texts : List (List ℕ)) (name : List ℕ) : Type 0 where
  pub before : List (List ℕ)
  pub after : List (List ℕ)
  pub written : List (List ℕ)
  pub text : List ℕ
  pub left : List (List ℕ)
  pub names_are : names ≡ before ++ name ∷ after
  pub texts_are : texts ≡ written ++ text ∷ left
  pub refused : unwritable name
  pub whole : Holding new before written
  pub begins : Begins old new name text
  pub others : ChangesAmong old new (before ++ name ∷ [])

-- why the files were not all written
abbrev pub IsWriteRefusal : Stored → Stored → Faulty → List (List ℕ) → List (List ℕ) → FileFault → Type 0
IsWriteRefusal old new unwritable names texts (CannotRead told) = ⊥
IsWriteRefusal old new unwritable names texts (CannotWrite told) = IsUnwrittenAt old new unwritable names texts (string_bytes told)
IsWriteRefusal old new unwritable names texts OutOfMemory = ⊤
