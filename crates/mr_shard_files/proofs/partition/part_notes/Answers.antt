use Rattle.std.proofs.Common.{◌≡◌, ◌∷◌, ◌++◌, [], ◌∙◌, List, ℕ, ap, get_or, rules, subst, sym}
use Rattle.mr_shards.specs.Truth.{note_for}
use Rattle.mr_shard_files.proofs.NoteLemmas.{notes_none, notes_pushed}
use Rattle.mr_shard_files.proofs.partition.part_notes.Goals as goal

pub loop-partition-init : goal.loop-partition-init
loop-partition-init c = c.new-notes.ensures.items ∙ sym notes_none

pub loop-partition-preserved : goal.loop-partition-preserved
loop-partition-preserved c =
    let i = c.loop-partition.partition in
    let d = c.index-outputs-partition.result in
    let text : c.as_slice.result.now ≡ (get_or c.args.outputs.now i d).items = c.as_slice.ensures.value ∙ ap (λ o. o.items) c.index-outputs-partition.is in
    let pushed : c.push.new.self.items ≡ c.loop-partition.notes.items ++ c.in_ok-note.note ∷ [] = search rules in
    let named = subst (λ (f : List ℕ). c.in_ok-note.note ≡ note_for f c.as_slice.result.now) (c.as_bytes.ensures.value ∙ c.in_ok-name.ensures) c.in_ok-note.ensures in
    notes_pushed c.args.outputs.now i d c.loop-partition.notes.items c.push.new.self.items c.in_ok-note.note c.as_slice.result.now c.loop-partition-test.true text named pushed c.loop-partition.invariant
