use Rattle.std.proofs.Common.{arith}
use Rattle.mr_index.proofs.PairLemmas.{length-pairs}
use Rattle.mr_index.proofs.pairs.Pairs.len.Goals as goal

pub returns : goal.returns
returns c =
    let p = c.args.self.now in
    omega (arith, c.len.ensures, p.ends.ok.0, length-pairs 0 p.keys.items p.ends.items p.values c.requires.values)
