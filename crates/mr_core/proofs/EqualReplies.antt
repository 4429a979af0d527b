-- A reply made twice.
use Rattle.std.specs.Prelude.{Result, Ok, Err, IfOk}
use Rattle.mr_core.specs.declared.event.Event.{Event}
use Rattle.mr_core.specs.declared.event.Reply.{Reply}
use Rattle.mr_core.specs.Core.{CoreView, InLimits, IsStep, GoesOn}
use Rattle.mr_core.proofs.Promised.{ok_goes_on}

pub pair_goes_on : {E : Type 0} (old : CoreView) (e : Event) (r : Result (Reply × Reply) E) (new : CoreView) → InLimits old.shape → IfOk r (λ x. IsStep old e (x.0) new) → IfOk r (λ x. GoesOn old e (x.0) new)
pair_goes_on {E = E} old e (Ok x) new limits step = ok_goes_on {E = E} old e (Ok (x.0)) new limits step
pair_goes_on old e (Err x) new limits step = tt
