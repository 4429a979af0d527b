use Rattle.std.proofs.Common.{◌<◌, ◌^◌, ◌∙◌, rules, sym}
use Rattle.std.specs.Prelude.{IfSome}
use Rattle.mr_shard_files.proofs.PairLemmas.{none_without, number_stated}
use Rattle.mr_shard_files.proofs.pairs.pairs_in_line.Goals as goal

pub returns-in_ok-digits : goal.returns-in_ok-digits
returns-in_ok-digits c =
    let small : IfSome c.number_of.result (λ n. n < 2 ^ 64) = search rules in
    let cut = c.in_ok-digits.ensures in
    number_stated c.args.job.now c.args.line.now c.in_ok-digits.field-0-0.now c.in_ok-digits.digits.now c.number_of.result (sym c.counts.ensures ∙ c.if-counts.true) cut.0 cut.1
    small c.number_of.ensures

pub returns-in_err-digits : goal.returns-in_err-digits
returns-in_err-digits c =
    rw c.from_residual.ensures (none_without c.args.job.now c.args.line.now (sym c.counts.ensures ∙ c.if-counts.true) c.in_err-digits.ensures)
