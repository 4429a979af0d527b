use Rattle.std.proofs.Common.{◌≡◌, ◌+◌, ◌≤◌}
use Rattle.mr_index.specs.Index.{mapped_among}
use Rattle.mr_index.specs.Pairs.{pairs_seen, Sound}
use Rattle.mr_index.specs.Building.{Shows}
use Rattle.mr_index.specs.Windows.{piece_of, window_records}
use Rattle.mr_index.proofs.tables.map_window.Given as goal

abbrev pub invariant-loop-number : goal.invariant-loop-number
invariant-loop-number g l = record {
  order : l.window.from ≤ l.number;
  within : l.number ≤ l.window.end;
  sound : Sound l.tables.pairs;
  shows : Shows (piece_of l.fn.mapping.mapper.job l.kept l.window.split l.window.from l.number) l.tables.ends.items (pairs_seen l.tables.pairs);
  mapper : l.mapping.mapper ≡ l.fn.mapping.mapper;
  counted : l.mapping.mapped ≡ l.fn.mapping.mapped + mapped_among l.kept.skips (window_records l.kept.cut l.window.split l.window.from l.number);
}
