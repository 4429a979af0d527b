use Rattle.std.proofs.Common.{◌≡◌, take}
use Rattle.std.specs.List.{flat_map}
use Rattle.mr_reduce.specs.Text.{text_of}
use Rattle.mr_task.specs.Values.{group_text}
use Rattle.mr_task.proofs.output.texts.Given as goal

abbrev pub invariant-loop-g : goal.invariant-loop-g
invariant-loop-g l = l.text.items ≡ flat_map (group_text (text_of l.job)) (take l.g l.groups)
