use Rattle.std.proofs.Common.{◌∙◌, sym, subst}
use Rattle.std.proofs.lemmas.Bool.{false≢true}
use Rattle.mr_shards.specs.Cursors.{Differs}
use Rattle.mr_shards.proofs.StepLemmas.{beyond-more, found-alike}
use Rattle.mr_shards.proofs.cursor.first_alike.Goals.{in-Some+else-have_one_key, in_default}
use Rattle.mr_shards.proofs.cursor.first_alike.Goals as goal

pub returns-then-have_one_key : goal.returns-then-have_one_key
returns-then-have_one_key c =
    found-alike c.args.cursors.now c.loop-at.at _ c.args.last c.in-Some.line c.loop-at.invariant c.loop-at-test.true c.in-Some.is (c.have_one_key.ensures.0 c.if-have_one_key.true)

pub loop-at-preserved : goal.loop-at-preserved
loop-at-preserved c = beyond-more c.args.cursors.now c.loop-at.at _ c.args.last c.loop-at.invariant c.loop-at-test.true (elim c.match-cursors-at.branch [
  | in-Some+else-have_one_key w ↦ subst (Differs c.args.last) (sym w.in-Some.is) (λ e. false≢true (sym w.if-have_one_key.false ∙ w.have_one_key.ensures.1 e))
  | in_default w ↦ subst (Differs c.args.last) (sym w.in_default.is) tt
])
