use Rattle.std.proofs.Common.{ℕ, List, take, drop, length, ◌-◌, ◌+◌, ◌≤◌, ◌∙◌, ap, arith}
use Rattle.std.proofs.lemmas.List.{length-drop, length-take}
use Rattle.mr_store.proofs.Steps.{bytes_left}
use Rattle.mr_store.proofs.Buffers.{grown, given, bytes_taken}
use Rattle.mr_store.proofs.reading.ReadBuffer.read_more.Goals as goal

pub returns-clause-more : goal.returns-clause-more
returns-clause-more g c =
    let inside = c.self.inside in
    let b : List ℕ = c.read_behind-answer.new.buffer in
    let k = inside.to - inside.from in
    let n = c.in_ok-count.count in
    let e = c.in_ok-count.ensures in
    let was = e.front ∙ (ap (λ w. drop inside.from (take inside.to w)) c.as_mut_slice.ensures.value ∙ c.self.view_is) in
    let fits : inside.to - inside.from + c.in_ok-count.count ≤ length b = e.bound in
    (take n (drop k b), given b k n fits, grown b _ _ _ k n fits (omega (arith, fits, e.size, c.as_mut_slice.ensures.len)) was, bytes_taken n (drop k b) (bytes_left k b e.given), e.bytes.0, λ z. e.bytes.1 z (omega (arith, length-drop (inside.to - inside.from) b, c.requires.room, length-drop inside.from (take inside.to inside.buffer.items), length-take inside.to inside.buffer.items, ap length c.self.view_is, e.size, c.as_mut_slice.ensures.len, c.self.invariant.size)))
