use Rattle.std.proofs.Common.{[], arith, ap, sym, ◌∙◌, List, ℕ, get_or}
use Rattle.mr_bytes.specs.declared.Value.{Value}
use Rattle.mr_bytes.specs.declared.Value.TheVariants.{One}
use Rattle.mr_jobs.specs.Emissions.{Emission}
use Rattle.mr_index.specs.Pairs.{pairs_seen}
use Rattle.mr_index.proofs.PairLemmas.{few-ends, pair-at}
use Rattle.mr_index.proofs.pairs.Pairs.get.Goals as goal

pub get-requires : goal.get-requires
get-requires c = omega (arith, few-ends c.args.self.now c.args.i c.requires.sound c.requires.within, c.requires.sound.values)

pub returns : goal.returns
returns c =
    let p = c.args.self.now in
    let e : Emission = get_or (pairs_seen p) c.args.i ([], One) in
    let own = pair-at 0 c.args.i p.keys.items p.ends.items p.values c.requires.sound.values (few-ends p c.args.i c.requires.sound c.requires.within) in
    ap (λ (k : List ℕ). (k, c.get.result)) c.key_at-start.ensures.key
    ∙ ap (λ (v : Value). (e.0, v)) (c.get.ensures ∙ sym (ap (λ (f : Emission). f.1) own))
