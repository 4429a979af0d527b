-- What it is to read onto a list: `Grew` stands in promises, the others in what private functions pass on.
use Rattle.std.specs.Prelude.{◌≡◌, ◌≤◌, ◌+◌, ℕ, List, ◌++◌, length, Option, Result, Ok, Err}
use Rattle.std.specs.Io.KnownBytes.{Consumes, IsAtEnd}
use Rattle.mr_store.specs.declared.limited.LimitedFault.{LimitedFault}
use Rattle.mr_store.specs.declared.limited.LimitedFault.TheVariants as limited
use Rattle.mr_store.specs.declared.reading.ReadFault.{ReadFault}
use Rattle.mr_store.specs.declared.reading.ReadFault.TheVariants.{Device, OutOfMemory}
use Rattle.mr_store.specs.Devices.{counted}

-- the list grew by what was read: what stood in it stays
abbrev pub Grew : Option (List ℕ) → Option (List ℕ) → List ℕ → List ℕ → Type 0
Grew known left was is = (got : List ℕ) × (is ≡ was ++ got) × Consumes known left got

-- to the end, or to a fault; where memory was wanting, what was read last is given and not appended
abbrev pub ReadOnto : Option (List ℕ) → Option (List ℕ) → ℕ → ℕ → List ℕ → List ℕ → Result (Unit {0}) ReadFault → Type 0
ReadOnto known left failed failures was is (Ok _) = Grew known left was is × IsAtEnd left × (failures ≡ failed)
ReadOnto known left failed failures was is (Err Device) = Grew known left was is × (failures ≡ counted failed)
ReadOnto known left failed failures was is (Err OutOfMemory) =
    ((got : List ℕ) × (is ≡ was ++ got)) × ((given : List ℕ) × Consumes known left given) × (failures ≡ failed)

-- the same, where the bytes have a limit: the list grew by no more than that, and the reader gave one more at most
abbrev pub LimitedOnto : Option (List ℕ) → Option (List ℕ) → ℕ → ℕ → ℕ → List ℕ → List ℕ → Result (Unit {0}) LimitedFault → Type 0
LimitedOnto known left failed failures limit was is (Ok _) =
    Grew known left was is × (length is ≤ length was + limit) × IsAtEnd left × (failures ≡ failed)
LimitedOnto known left failed failures limit was is (Err limited.Device) =
    Grew known left was is × (length is ≤ length was + limit) × (failures ≡ counted failed)
LimitedOnto known left failed failures limit was is (Err limited.OutOfMemory) =
    ((got : List ℕ) × (is ≡ was ++ got)) × ((given : List ℕ) × Consumes known left given × (length given ≤ limit)) × (failures ≡ failed)
LimitedOnto known left failed failures limit was is (Err limited.TooLong) =
    ((got : List ℕ) × (is ≡ was ++ got)) × ((given : List ℕ) × Consumes known left given × (length given ≡ limit + 1)) × (failures ≡ failed)
