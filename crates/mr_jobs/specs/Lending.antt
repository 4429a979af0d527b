-- What a mapper is once the emitter that borrows it is gone.
use Rattle.std.specs.Prelude.{◌≡◌, ⊤, []}
use Rattle.std.specs.Borrow.{follows_so, MutBor, Fml}
use mathlib.Core.Option.{none}
use mir.Syntax.{named}
use Rattle.mr_jobs.specs.Hits.{Source}
use Rattle.mr_jobs.specs.contracts.mapper.Mapper.{the_row}

-- it has the job and the files that it had; the numbers are the places of its lifetimes in a signature
abbrev pub KeepsSource : MutBor Source → Fml
KeepsSource m =
    let row = the_row (record { mir = named 1; lft = [] }) (record { mir = named 2; lft = [] }) in
    follows_so row row m.ghost_name none (λ _ _. ⊤) (λ last. last ≡ m.now)
