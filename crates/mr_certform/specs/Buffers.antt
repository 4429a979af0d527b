-- Of no public promise: what a writer behind a buffer takes.
use Rattle.std.specs.Prelude.{◌≡◌, ℕ, List, [], ◌++◌, Bool}
use Rattle.std.proofs.Common.{refl, ◌∙◌}
use Rattle.mr_store.specs.Devices.{Seen}
use Rattle.mr_certform.specs.declared.write_buffer.WriteBuffer.{WriteBuffer}
use Rattle.mr_certform.specs.Sinks.{Passes, went_none, went_joined}

-- from the one to the other it took these bytes, behind those that it held
abbrev pub Takes : {W : Type 0} → (W → Seen) → (W → Type 0) → (W → Bool) → WriteBuffer W → WriteBuffer W → List ℕ → Type 0
Takes seen can_fail lacked a b bytes = (b.writer.ghost_name ≡ a.writer.ghost_name)
    × Passes seen can_fail lacked a.writer.now b.writer.now a.failed b.failed (a.piece ++ bytes) b.piece

pub takes_none : {W : Type 0} (seen : W → Seen) (can_fail : W → Type 0) (lacked : W → Bool) (a : WriteBuffer W) → Takes seen can_fail lacked a a []
takes_none seen can_fail lacked a = (refl, ((λ f. f), went_none seen can_fail lacked a.writer.now a.failed a.piece))

pub takes_joined : {W : Type 0} (seen : W → Seen) (can_fail : W → Type 0) (lacked : W → Bool) (a b c : WriteBuffer W) (xs ys : List ℕ)
    → Takes seen can_fail lacked a b xs → Takes seen can_fail lacked b c ys → Takes seen can_fail lacked a c (xs ++ ys)
takes_joined seen can_fail lacked a b c xs ys h k = (
  k.0 ∙ h.0,
  (
    (λ f. h.1.0 (k.1.0 f)),
    went_joined seen can_fail lacked a.writer.now b.writer.now c.writer.now a.failed b.failed c.failed a.piece b.piece c.piece xs ys h.1.0 h.1.1 k.1.1,
  ),
)
