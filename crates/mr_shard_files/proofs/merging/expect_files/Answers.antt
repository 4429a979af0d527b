use Rattle.std.proofs.Common.{◌≡◌, ◌<◌, ◌^◌, Option, arith, length, rules, subst, sym, take}
use Rattle.std.specs.Prelude.{MatchOption}
use Rattle.mr_shards.specs.declared.ranges.Gap.{Gap}
use Rattle.mr_shards.specs.Gaps.{IsFirstGap}
use Rattle.mr_shards.specs.Joined.{AreOnce, IsRepeated}
use Rattle.mr_shards.specs.RangeNotes.{TileFiles}
use Rattle.mr_shard_files.specs.Faults.{IsInputFault}
use Rattle.mr_shard_files.specs.declared.fault.ShardFault.TheVariants.{RepeatedInput}
use Rattle.mr_shard_files.proofs.InputLemmas.{begins_first, ends_first, once_before, repeat_alone, repeat_begins, repeat_ends}
use Rattle.mr_shard_files.proofs.merging.expect_files.Goals.{in-Some-NoBeginning+else-input-once, in-Some-NoEnd+else-input-once-2, in-None}
use Rattle.mr_shard_files.proofs.merging.expect_files.Goals as goal

pub returns-then-input-once-clause-err : goal.returns-then-input-once-clause-err
returns-then-input-once-clause-err c =
    let few : length c.args.inputs.now < 2 ^ 32 = search rules in
    let partial = c.args.partial in
    let inputs = c.args.inputs.now in
    let once = subst (λ k. AreOnce (take k inputs)) (sym c.unwrap_or-once.ensures) (once_before partial inputs c.in_ok-repeat.repeat c.in_ok-repeat.ensures) in
    (few, begins_first partial inputs c.in-Some-NoBeginning.input c.unwrap_or-once.result (subst (IsFirstGap partial inputs) c.in-Some-NoBeginning.field-0-is c.in-Some-NoBeginning.ensures) once c.if-input-once.true)

pub returns-then-input-once-2-clause-err : goal.returns-then-input-once-2-clause-err
returns-then-input-once-2-clause-err c =
    let few : length c.args.inputs.now < 2 ^ 32 = search rules in
    let partial = c.args.partial in
    let inputs = c.args.inputs.now in
    let once = subst (λ k. AreOnce (take k inputs)) (sym c.unwrap_or-once.ensures) (once_before partial inputs c.in_ok-repeat.repeat c.in_ok-repeat.ensures) in
    (few, ends_first partial inputs c.in-Some-NoEnd.input c.unwrap_or-once.result (subst (IsFirstGap partial inputs) c.in-Some-NoEnd.field-0-is c.in-Some-NoEnd.ensures) once c.if-input-once-2.true)

pub returns-in-Some-clause-err : goal.returns-in-Some-clause-err
returns-in-Some-clause-err c =
    let few : length c.args.inputs.now < 2 ^ 32 = search rules in
    let partial = c.args.partial in
    let inputs = c.args.inputs.now in
    let repeat = c.in-Some.input in
    let repeated : IsRepeated inputs repeat = search rules in
    let here : c.unwrap_or-once.result ≡ repeat = search rules in
    let fault : IsInputFault partial inputs (RepeatedInput repeat) =
    elim c.match-first_gap.branch [
      | in-Some-NoBeginning+else-input-once w ↦ repeat_begins partial inputs w.in-Some-NoBeginning.input repeat (subst (IsFirstGap partial inputs) w.in-Some-NoBeginning.field-0-is w.in-Some-NoBeginning.ensures) repeated (omega (arith, here, w.if-input-once.false))
      | in-Some-NoEnd+else-input-once-2 w ↦ repeat_ends partial inputs w.in-Some-NoEnd.input repeat (subst (IsFirstGap partial inputs) w.in-Some-NoEnd.field-0-is w.in-Some-NoEnd.ensures) repeated (omega (arith, here, w.if-input-once-2.false))
      | in-None w ↦ repeat_alone partial inputs repeat (subst (λ (o : Option Gap). MatchOption o (TileFiles partial inputs) (IsFirstGap partial inputs)) w.in-None.is c.first_gap.ensures) repeated
    ] in
    (few, fault)
