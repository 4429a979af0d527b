use Rattle.std.proofs.Common.{◌≡◌, ◌≤◌, ◌++◌, take, vec_capacity}
use Rattle.std.specs.List.{flat_map}
use Rattle.mr_reduce.specs.Files.{listed}
use Rattle.mr_reduce.specs.Text.{place_line}
use Rattle.mr_reduce.proofs.put_places.Given as goal

abbrev pub invariant-loop-i : goal.invariant-loop-i
invariant-loop-i l = record {
  text : l.out.items ≡ l.fn.out.items ++ flat_map (place_line l.key) (take l.i (listed l.values));
  room : vec_capacity l.fn.out ≤ vec_capacity l.out;
}
