use Rattle.std.proofs.Common.{◌≡◌, ◌++◌, ℕ, List, length, take, arith, ap, ◌∙◌, subst}
use Rattle.std.proofs.lemmas.List.{take_all}
use Rattle.std.specs.List.{AllByRecursion, flat_map}
use Rattle.mr_bytes.specs.Pairs.{Triple}
use Rattle.mr_spill.specs.Spelling.{PairFits, SpellsRegion, header, pair_bytes}
use Rattle.mr_spill.proofs.ReadingLemmas.{spells-one}
use Rattle.mr_spill.proofs.spelling.write_region.Goals as goal

pub returns-clause-nothing_else : goal.returns-clause-nothing_else
returns-clause-nothing_else c = λ other us s.
    let ts : List Triple = c.args.pairs.now in
    let bytes : List ℕ = c.loop-i.out.items in
    let all : take c.loop-i.i ts ≡ ts = take_all c.loop-i.i ts (omega (arith, c.loop-i-test.false, c.len-count.ensures)) in
    let spelled : SpellsRegion bytes c.args.split c.args.partition ts = record {
      is = c.loop-i.invariant.text ∙ ap (λ (l : List Triple). header c.args.split c.args.partition (length ts) ++ flat_map pair_bytes l) all;
      rise = c.requires.rise;
      own = c.requires.own;
      fit = subst (AllByRecursion PairFits) all c.loop-i.invariant.fit;
      few = c.requires.few;
    } in
    spells-one bytes c.args.split c.args.partition other ts us spelled s
