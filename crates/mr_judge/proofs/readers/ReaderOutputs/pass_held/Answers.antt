use Rattle.std.proofs.Common.{ℕ, List, ◌≡◌, ◌++◌, arith, ap, refl, sym, subst, length, take, ◌∙◌}
use Rattle.std.specs.Prelude.{nat_eq}
use Rattle.std.specs.List.{common_prefix_len}
use Rattle.std.proofs.lemmas.List.Sums.{common_prefix_len-le}
use Rattle.mr_judge.specs.Readers.{reading}
use Rattle.mr_judge.specs.Reading.{Reading, IsToCome}
use Rattle.mr_judge.proofs.ReadingLemmas.{come_passed, nothing_stands}
use Rattle.mr_judge.proofs.readers.ReaderOutputs.pass_held.Goals as goal

pub pass-requires : goal.pass-requires
pass-requires g c =
    let within = common_prefix_len-le nat_eq c.args.text.now c.bytes.result.now in
    omega (arith, c.agreement-same.ensures, within.1, ap (λ xs. length xs) c.bytes.ensures)

pub overflow_add-self : goal.overflow_add-self
overflow_add-self g c =
    let within = common_prefix_len-le nat_eq c.args.text.now c.bytes.result.now in
    omega (arith, c.agreement-same.ensures, within.0, c.if-self.false)

pub returns-clause-within : goal.returns-clause-within
returns-clause-within g c = omega (arith, c.agreement-same.ensures, (common_prefix_len-le nat_eq c.args.text.now c.bytes.result.now).0)

pub returns-clause-come : goal.returns-clause-come
returns-clause-come g c =
    come_passed (reading g.R.CountedRead.remaining c.args.self.now) _ c.args.text.now c.agreement-same.result c.requires.begun refl refl refl (c.agreement-same.ensures ∙ ap (common_prefix_len nat_eq c.args.text.now) c.bytes.ensures) c.pass.ensures

pub returns-clause-none : goal.returns-clause-none
returns-clause-none g c zero rest later t =
    let old : Reading = reading g.R.CountedRead.remaining c.args.self.now in
    let text : List ℕ = c.args.text.now in
    let count : c.agreement-same.result ≡ common_prefix_len nat_eq text old.held = c.agreement-same.ensures ∙ ap (common_prefix_len nat_eq c.args.text.now) c.bytes.ensures in
    let back = come_passed old _ text c.agreement-same.result c.requires.begun refl refl refl count c.pass.ensures rest later t in
    nothing_stands old text c.requires.begun c.requires.filled c.requires.some (sym zero ∙ count) rest later (subst (λ k. IsToCome old (take k text ++ rest) later) zero back)
