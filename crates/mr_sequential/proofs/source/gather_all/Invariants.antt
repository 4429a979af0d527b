use Rattle.std.proofs.Common.{◌≡◌, ◌+◌, ◌++◌, All, count_by, length}
use Rattle.std.specs.List.{flat_map}
use Rattle.mr_splits.specs.Cut.{records_of}
use Rattle.mr_splits.specs.Kept.{kept_records}
use Rattle.mr_certform.specs.Packed.{names_of}
use Rattle.mr_sequential.specs.Emitted.{gives_nothing}
use Rattle.mr_sequential.specs.Names.{record_names}
use Rattle.mr_sequential.specs.Pairs.{record_keys}
use Rattle.mr_sequential.proofs.LineLemmas.{Stands}
use Rattle.mr_sequential.proofs.source.gather_all.Given as goal

abbrev pub invariant-loop-name : goal.invariant-loop-name
invariant-loop-name g l = record {
  keys : l.emitted.keys ++ flat_map (record_keys l.job) l.left ≡ flat_map (record_keys l.job) (kept_records l.fn.kept.skips (records_of l.fn.kept.cut));
  lines : All (Stands l.fn.kept.cut.files) l.left;
  mapper : l.mapper ≡ record { job = l.fn.job; files = l.fn.kept.cut.files };
  silent : l.silent + count_by (gives_nothing l.job) l.left ≡ count_by (gives_nothing l.job) (kept_records l.fn.kept.skips (records_of l.fn.kept.cut));
  names : names_of l.emitted.names ++ flat_map (record_names l.job) l.left ≡ flat_map (record_names l.job) (kept_records l.fn.kept.skips (records_of l.fn.kept.cut));
}

abbrev pub decreases-loop-name : goal.decreases-loop-name
decreases-loop-name g l = length l.left
