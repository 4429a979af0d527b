use Rattle.std.proofs.Common.{◌≡◌, ◌≤◌, ◌<◌, ◌+◌, ◌-◌, ◌++◌, ℕ, List, [], length, take, drop, min, ap, sym, subst, ◌∙◌, arith}
use Rattle.std.proofs.lemmas.List.{length-drop, take_all, drop-drop, take-append-drop}
use Rattle.mr_store.specs.Devices.{AreBytes}
use Rattle.mr_store.specs.Memory.{Memory}
use Rattle.mr_store.proofs.Steps.{nothing_left, bytes_left}
use Rattle.mr_store.proofs.memory_reader.MemoryReaderCountedRead.read.Goals as goal

given : (all d : List ℕ) (at n most room : ℕ) (buffer : List ℕ) → d ≡ all → at ≤ length all → 1 ≤ most → length buffer ≡ room → n ≡ min most (min room (length (take (length d - at) (drop at d)))) → take n buffer ≡ take n (take (length d - at) (drop at d)) → (drop at all ≡ take n buffer ++ drop (at + n) all) × (n ≡ 0 → 0 < length buffer → drop (at + n) all ≡ [])
given all d at n most room buffer same within some size count piece =
    let left : take (length d - at) (drop at d) ≡ drop at all = take_all (length d - at) (drop at d) (omega (arith, length-drop at d)) ∙ ap (drop at) same in
    let few : n ≡ min most (min room (length (drop at all))) = count ∙ ap (λ w. min most (min room (length w))) left in
    let front : take n buffer ≡ take n (drop at all) = piece ∙ ap (take n) left in
    let back : drop n (drop at all) ≡ drop (at + n) all = drop-drop n at all in (
      sym (take-append-drop n (drop at all)) ∙ (ap (λ w. w ++ drop n (drop at all)) (sym front) ∙ ap (λ w. take n buffer ++ w) back),
      λ z h. nothing_left (at + n) all (omega (arith, length-drop at all)),
    )

pub returns-clause-bytes : goal.returns-clause-bytes
returns-clause-bytes c =
    let r = given c.self.inside.bytes.items c.deref-2.result.now c.self.inside.at c.give-count.result c.self.inside.most (length c.args.buffer.now) c.give-count.new.buffer c.deref-2.ensures.value c.self.invariant.within c.self.invariant.some c.give-count.auto.buffer c.give-count.ensures.count c.give-count.ensures.given in
    (ap (λ (m : Memory). m.bytes) (sym c.self.view_is) ∙ r.0, r.1)

pub returns-then-fails-clause-known : goal.returns-then-fails-clause-known
returns-then-fails-clause-known c = bytes_left c.self.inside.at c.self.inside.bytes.items (subst (λ (bytes : List ℕ). AreBytes bytes) c.deref.ensures.value c.are_none-known.ensures)

pub returns-clause-known : goal.returns-clause-known
returns-clause-known c = bytes_left (c.self.inside.at + c.give-count.result) c.self.inside.bytes.items (subst (λ (bytes : List ℕ). AreBytes bytes) c.deref.ensures.value c.are_none-known.ensures)
