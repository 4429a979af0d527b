use Rattle.std.proofs.Common.{◌∙◌, ◌*◌, ◌-◌, ◌/◌, ◌%◌, ◌^◌, ap, arith}
use Rattle.mr_shards.proofs.FrontCutLemmas.{front-cut}
use Rattle.mr_shards.proofs.line.front_in.Goals as goal

pub returns-clause-is : goal.returns-clause-is
returns-clause-is c =
    let count = c.args.count in
    ap (λ n. n / 2 ^ (64 - 8 * count) * 2 ^ (64 - 8 * count) % 18446744073709551616) c.front_of-eight.ensures.is
    ∙ front-cut count c.args.line.now (omega arith) (omega (arith, c.if-count-ge8.false)) (omega (arith, c.if-line-lt8.false)) c.front_of-eight.ensures.bytes
