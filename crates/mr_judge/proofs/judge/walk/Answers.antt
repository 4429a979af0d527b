use Rattle.std.proofs.Common.{◌+◌, ◌≤◌, length, arith, ap}
use Rattle.mr_certform.specs.declared.grammar_state.GrammarState.TheVariants.{AtMagic}
use Rattle.mr_certform.specs.Spelling.{version_of, items_of}
use Rattle.mr_certform.proofs.Fuel.{items_few}
use Rattle.mr_judge.proofs.judge.walk.Goals as goal

pub returns-clause-few : goal.returns-clause-few
unfolding items_of
returns-clause-few c =
    let few : length (items_of c.args.certificate.now) ≤ length c.args.certificate.now + 1 = items_few (version_of c.args.certificate.now) AtMagic c.args.certificate.now in
    omega (arith, ap length c.new.ensures.items, few)
