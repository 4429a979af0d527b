use Rattle.std.proofs.Common.{◌≡◌, ◌<◌, ◌+◌, ◌-◌, ◌++◌, ◌∙◌, ℕ, [], List, get_or, refl, arith, ap, sym, subst, length, map, set, drop}
use Rattle.std.proofs.lemmas.Bool.{eqb-true, false≢true}
use Rattle.std.proofs.Math.Seq.{map-set_same}
use Rattle.std.specs.Io.KnownBytes.{Consumes, Keeps}
use Rattle.std.specs.Prelude.{Option, None, Some}
use Rattle.mr_judge.specs.Readers.{reading}
use Rattle.mr_judge.specs.Reading.{known_at}
use Rattle.mr_judge.proofs.ReadingLemmas.{come_read, no_bytes, known_old, known_new, known_behind, failed_one}
use Rattle.mr_judge.proofs.readers.ReaderOutputs.fill.Goals as goal

pub returns-in-Ok-clause-come : goal.returns-in-Ok-clause-come
returns-in-Ok-clause-come g c =
    let f = g.R.CountedRead.remaining in
    let xs = c.args.self.now.readers.now in
    let n = c.args.self.now.opened - 1 in
    let d = c.index-readers-partition.result in
    let within : n < length xs = omega (arith, c.requires.begun, c.args.self.now.within c.if-self.false) in
    let none = sym c.bytes.ensures ∙ no_bytes c.bytes.result.now (eqb-true (length c.bytes.result.now) 0 (sym c.is_empty.ensures ∙ c.if-not-is_empty.false)) in
    let m = c.in-Ok.ensures.more in
    let held : c.read_more.new.self ≡ m.0 = m.2 ∙ ap (λ (w : List ℕ). w ++ m.0) none in
    let at : n + 1 ≡ c.args.self.now.opened = omega (arith, c.requires.begun) in
    let others = subst (λ k. drop k (map f (set xs n c.read_more.new.reader)) ≡ drop k (map f xs)) at (known_behind f xs n c.read_more.new.reader) in
    let read : Consumes (known_at (map f xs) n) (known_at (map f (set xs n c.read_more.new.reader)) n) c.read_more.new.self =
    rw (known_old f xs n d within, known_new f xs n c.read_more.new.reader within, held) m.4 in
    come_read (reading f c.args.self.now) _ n c.requires.begun refl c.if-self.false none others refl read
    (λ ended. rw (known_new f xs n c.read_more.new.reader within) (m.5 (eqb-true c.in-Ok.count 0 ended)))

pub returns-in-Ok-clause-lacks : goal.returns-in-Ok-clause-lacks
returns-in-Ok-clause-lacks g c =
    let xs = c.args.self.now.readers.now in
    map-set_same g.R.CountedRead.failed xs (c.args.self.now.opened - 1) c.read_more.new.reader c.index-readers-partition.result c.in-Ok.ensures.count

kept : (a b : Option (List ℕ)) → Keeps a b → Consumes a b []
kept None b h = tt
kept (Some xs) None h = absurd h
kept (Some xs) (Some ys) h = sym h

pub returns-in-Err-clause-come : goal.returns-in-Err-clause-come
returns-in-Err-clause-come g c =
    let f = g.R.CountedRead.remaining in
    let xs = c.args.self.now.readers.now in
    let n = c.args.self.now.opened - 1 in
    let d = c.index-readers-partition.result in
    let x = c.read_more.new.reader in
    let within : n < length xs = omega (arith, c.requires.begun, c.args.self.now.within c.if-self.false) in
    let none = sym c.bytes.ensures ∙ no_bytes c.bytes.result.now (eqb-true (length c.bytes.result.now) 0 (sym c.is_empty.ensures ∙ c.if-not-is_empty.false)) in
    let m = c.in-Err.ensures.more in
    let at : n + 1 ≡ c.args.self.now.opened = omega (arith, c.requires.begun) in
    let others = subst (λ k. drop k (map f (set xs n x)) ≡ drop k (map f xs)) at (known_behind f xs n x) in
    let read : Consumes (known_at (map f xs) n) (known_at (map f (set xs n x)) n) c.read_more.new.self =
    rw (known_old f xs n d within, known_new f xs n x within, m.0, none) (kept (f (get_or xs n d)) (f x) m.1) in
    come_read (reading f c.args.self.now) _ n c.requires.begun refl c.if-self.false none others refl read (λ ended. absurd (false≢true (sym c.if-self.false ∙ ended)))

pub returns-in-Err-clause-lacks : goal.returns-in-Err-clause-lacks
returns-in-Err-clause-lacks g c =
    let xs = c.args.self.now.readers.now in
    (failed_one g.R.CountedRead.failed xs (c.args.self.now.opened - 1) c.read_more.new.reader c.index-readers-partition.result (omega (arith, c.requires.begun, c.args.self.now.within c.if-self.false)) c.in-Err.ensures.count, λ z. z)
