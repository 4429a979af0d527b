-- What holds of every book.
use Rattle.std.specs.Prelude.{◌≡◌, ℕ, Some, IsSome}
use Rattle.mr_core.specs.Looks.{output_of, committed_of}
use Rattle.mr_book.specs.Stored.{stored_at}
use Rattle.mr_book.specs.View.{BookView, IsKept}

-- the output that a split has is stored under its number
abbrev pub OutputsAreStored : Type 0
OutputsAreStored = (b : BookView) → IsKept b → (split number : ℕ) → output_of b.state split ≡ Some number → IsSome (stored_at b.maps number)

-- so is the output that is committed for a partition
abbrev pub CommitsAreStored : Type 0
CommitsAreStored = (b : BookView) → IsKept b → (partition number : ℕ) → committed_of b.state partition ≡ Some number → IsSome (stored_at b.reduces number)
