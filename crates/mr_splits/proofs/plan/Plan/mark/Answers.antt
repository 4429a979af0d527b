use Rattle.std.proofs.Common.{arith, ap, sym, ◌∙◌, ◌||◌, List, get_or}
use Rattle.std.proofs.lemmas.List.{take_all}
use Rattle.std.proofs.lemmas.List.Folds.{list_any_more}
use Rattle.mr_bytes.specs.declared.RecordName.{RecordName}
use Rattle.mr_splits.specs.Named.{NamedRecord, is_left_out}
use Rattle.mr_splits.specs.Cut.{records_of, has_record_name, nth_named}
use Rattle.mr_splits.proofs.NameLemmas.{flags-are}
use Rattle.mr_splits.proofs.plan.Plan.mark.Goals as goal

pub loop-name-preserved : goal.loop-name-preserved
loop-name-preserved c = λ i h.
    let rs : List NamedRecord = records_of c.args.self.now in
    let skips : List RecordName = c.args.skips.now in
    c.mark_one.ensures i h
    ∙ ap (λ b. b || has_record_name (get_or skips c.loop-name.name-index (record { split = 0; rec = 0 })) (nth_named rs i)) (c.loop-name.invariant i h)
    ∙ sym (list_any_more (λ (s : RecordName). has_record_name s (nth_named rs i)) skips c.loop-name.name-index (record { split = 0; rec = 0 }) c.loop-name-test.true)

pub returns : goal.returns
returns c =
    flags-are c.args.skips.now (records_of c.args.self.now) c.loop-name.flags (omega (arith, c.loop-name.auto.flags, c.requires.count))
    (λ i h. c.loop-name.invariant i h
    ∙ ap (λ (ss : List RecordName). is_left_out ss (nth_named (records_of c.args.self.now) i).name) (take_all c.loop-name.name-index c.args.skips.now c.loop-name-test.false))
