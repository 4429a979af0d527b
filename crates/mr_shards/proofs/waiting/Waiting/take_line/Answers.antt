use Rattle.std.proofs.Common.{◌≡◌, ◌++◌, List, Option}
use Rattle.mr_bytes.specs.declared.Value.{Value}
use Rattle.mr_shards.specs.Merged.{Group}
use Rattle.mr_shards.specs.Views.{HoldsValues, WaitsFor, group_of, values_of}
use Rattle.mr_shards.proofs.WaitingLemmas.{Takes, on-ok, take-apart, take-joined}
use Rattle.mr_shards.proofs.waiting.Waiting.take_line.Goals as goal

pub returns-then-takes-clause-ok : goal.returns-then-takes-clause-ok
returns-then-takes-clause-ok c =
    let job = c.args.job.now in
    let old = c.args.self.now in
    let new = c.add.new.self in
    let line = c.args.line in
    let out = c.args.out.now.items in
    let t = c.if-takes.true in
    on-ok c.add.result ((vs : List Value) → HoldsValues job old vs → HoldsValues job new (vs ++ values_of line.tally)) (new.some ≡ old.some) (new.key ≡ old.key)
    ((w : Option Group) → WaitsFor job old w → Takes job new w (group_of line) out out)
    (λ holds some key w h. take-joined job line old new w out (c.takes.ensures.some t) (c.takes.ensures.key t) holds some key h)
    c.add.ensures.holds c.add.ensures.some c.add.ensures.key

pub returns-clause-ok : goal.returns-clause-ok
returns-clause-ok c =
    let job = c.args.job.now in
    let old = c.args.self.now in
    let begun = c.begin.new.self in
    let new = c.add-2.new.self in
    let line = c.args.line in
    let out = c.args.out.now.items in
    let out' = c.put.new.out.items in
    let b = c.in_ok-begin.ensures in
    on-ok c.add-2.result ((vs : List Value) → HoldsValues job begun vs → HoldsValues job new (vs ++ values_of line.tally)) (new.some ≡ begun.some) (new.key ≡ begun.key)
    ((w : Option Group) → WaitsFor job old w → Takes job new w (group_of line) out out')
    (λ holds some key w h. take-apart job line old begun new w out out' (c.takes.ensures.apart c.if-takes.false) h (c.in_ok-put.ensures.written w h) b.some b.key b.holds holds some key)
    c.add-2.ensures.holds c.add-2.ensures.some c.add-2.ensures.key
