use Rattle.std.proofs.Common.{◌≡◌, ℕ, List, [], ◌++◌, Bool, sym, ◌∙◌, subst}
use Rattle.mr_store.specs.Devices.{Seen}
use Rattle.mr_certform.specs.Sinks.{Went, went_joined}
use Rattle.mr_certform.proofs.write_buffer.WriteBufferSink.put.Goals as goal

-- what was held is handed over, and the bytes are sent behind it
sent_behind : {W : Type 0} (seen : W → Seen) (can_fail : W → Type 0) (lacked : W → Bool) (u v w : W) (p q r : Bool) (piece held left last bytes : List ℕ)
    → held ≡ piece → left ≡ [] → last ≡ left → (can_fail v → can_fail u)
    → Went seen can_fail lacked u v p q (held ++ []) left → Went seen can_fail lacked v w q r bytes []
    → Went seen can_fail lacked u w p r (piece ++ bytes) last
sent_behind seen can_fail lacked u v w p q r piece held left last bytes e l m f a b =
    let here : Went seen can_fail lacked u v p q (piece ++ []) left = subst (λ h. Went seen can_fail lacked u v p q (h ++ []) left) e a in
    let none : last ≡ [] = m ∙ l in
    let next : Went seen can_fail lacked v w q r (left ++ bytes) last =
    subst (λ k. Went seen can_fail lacked v w q r (k ++ bytes) last) (sym l) (subst (Went seen can_fail lacked v w q r bytes) (sym none) b) in
    went_joined seen can_fail lacked u v w p q r piece left last [] bytes f here next

pub returns-then-not-push : goal.returns-then-not-push
returns-then-not-push g c =
    let handed = c.hand_over.ensures.takes in (
      handed.0,
      (
        (λ f. handed.1.0 (c.send-self.ensures.0 f)),
        sent_behind g.W.CountedWrite.seen g.W.CountedWrite.can_fail g.W.CountedWrite.lacked c.args.self.now.writer.now c.hand_over.new.self.writer.now c.send-self.new.writer c.args.self.now.failed c.hand_over.new.self.failed c.send-self.result
            c.args.self.now.piece c.push.new.self c.hand_over.new.self.piece c.push-2.new.self c.args.bytes.now
            (c.push.ensures.full c.if-push.false) c.hand_over.ensures.empty (c.push-2.ensures.full c.if-not-push.true) handed.1.0 handed.1.1 c.send-self.ensures.1,
      ),
    )
