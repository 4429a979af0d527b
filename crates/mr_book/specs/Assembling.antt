-- The committed outputs of a book, put together.
use Rattle.std.specs.Prelude.{ℕ, List, map}
use Rattle.std.specs.List.{AllByRecursion}
use Rattle.std.specs.Option.{unwrap_or}
use Rattle.mr_bytes.specs.declared.Name.{Name}
use Rattle.mr_certform.specs.declared.version.Version.{Version}
use Rattle.mr_certform.specs.Value.{Contents, CanSpell, SpellsIn}
use Rattle.mr_task.specs.Values.{Reduced}
use Rattle.mr_core.specs.Master.{State}
use Rattle.mr_book.specs.Assembled.{committed_values, nothing}
use Rattle.mr_book.specs.Stored.{stored_at}

-- the reduce output under each number
abbrev pub reduced_under : List (ℕ × Reduced) → ℕ → Reduced
reduced_under stored number = unwrap_or (stored_at stored number) nothing

-- the groups of each partition that is committed
abbrev pub committed_groups : List (ℕ × Reduced) → State → List (List (List Name))
committed_groups stored st = map (λ v. v.groups) (committed_values (reduced_under stored) st)

-- the bytes spell the certificate in this version, where the version can spell it
abbrev pub SpellsWhereItCan : Version → List ℕ → Contents → Type 0
SpellsWhereItCan version bytes c = AllByRecursion (CanSpell version) c.groups → SpellsIn version bytes c

-- of no public promise: the left-out sets of the splits
abbrev pub sets_of : State → List (List ℕ)
sets_of st = map (λ sp. sp.skips) st.splits
