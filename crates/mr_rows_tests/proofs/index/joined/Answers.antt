use Rattle.mr_rows_tests.proofs.index.joined.Goals as goal

pub join-requires : goal.join-requires
join-requires c = record {
  job = c.args.job.now;
  cut = c.in_ok-kept.kept.cut;
  skips = c.args.skips.now;
  are = c.in_ok-parts.ensures;
}
