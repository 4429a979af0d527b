use Rattle.std.proofs.Common.{ap, arith, length, sym, ◌∙◌}
use Rattle.mr_jobs.proofs.CountLemmas.{few_emissions}
use Rattle.mr_explain.proofs.CountLemmas.{few-with}
use Rattle.mr_jobs.specs.Pairs.{pairs_of}
use Rattle.mr_explain.proofs.counting.count_wanted.Goals as goal

pub count_key-count-requires : goal.count_key-count-requires
count_key-count-requires c =
    let line = c.args.line in
    omega (arith, ap length c.in_ok-pairs.ensures.emissions, few_emissions c.args.mapper.now.job line.file line.start line.bytes.now, c.requires.small)

pub returns-else-count-eq0-clause-few : goal.returns-else-count-eq0-clause-few
returns-else-count-eq0-clause-few c =
    let line = c.args.line in
    omega (
      arith,
      c.count_key-count.ensures,
      few-with c.in-Key.key.now (pairs_of c.in_ok-pairs.pairs),
      ap length c.in_ok-pairs.ensures.emissions,
      few_emissions c.args.mapper.now.job line.file line.start line.bytes.now,
      c.requires.small,
    )

pub returns-then-not-is_in-clause-count : goal.returns-then-not-is_in-clause-count
returns-then-not-is_in-clause-count c =
    let line = c.args.line in
    c.requires.needle line.bytes.now (sym c.is_in.ensures ∙ c.if-not-is_in.true) line.file line.start
