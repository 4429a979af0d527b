use Rattle.std.proofs.Common.{◌≡◌, ◌<◌, ◌≤◌, ℕ, [], Some, None, MatchOption, length, get_or, ap, sym, ◌∙◌, subst, arith, inr, List}
use Rattle.mr_bytes.specs.Pairs.{Triple}
use Rattle.std.specs.Prelude.{Option}
use Rattle.mr_sequential.specs.Good.{named}
use Rattle.mr_index.proofs.JoinLemmas.{named-past, named-in}
use Rattle.mr_index.proofs.index.EmissionIndex.pair.Goals as goal

pub returns-in-None-clause-found : goal.returns-in-None-clause-found
returns-in-None-clause-found c =
    let p = c.self.inside in
    let past : length p.parts.items ≤ c.args.name.split = omega (arith, c.in-None.ensures.lookup.3, ap length c.deref.ensures.value) in
    sym (ap (λ (ts : List Triple). named ts c.args.name) c.self.view_is)
    ∙ named-past 0 p.parts.items c.args.name c.self.invariant.apart (inr (omega (arith, past)))

pub returns-in-Some-clause-found : goal.returns-in-Some-clause-found
returns-in-Some-clause-found c =
    let p = c.self.inside in
    let parts : List (List Triple) = p.parts.items in
    let split : ℕ = c.args.name.split in
    let within : split < length parts = omega (arith, c.in-Some.ensures.lookup.3.0, ap length c.deref.ensures.value) in
    let own : c.in-Some.part.now ≡ get_or parts split [] =
    c.in-Some.ensures.lookup.4 (omega arith) [] ∙ ap (λ (l : List (List Triple)). get_or l split []) c.deref.ensures.value in
    let same : named c.in-Some.part.now c.args.name ≡ named c.args.self.now c.args.name =
    ap (λ (ts : List Triple). named ts c.args.name) own
    ∙ (sym (named-in 0 parts c.args.name split c.self.invariant.apart within (omega arith))
    ∙ ap (λ (ts : List Triple). named ts c.args.name) c.self.view_is) in
    subst (λ (o : Option Triple). MatchOption c.pair.result (o ≡ None) (λ p. o ≡ Some (record { key = p.0.now; value = p.1; name = c.args.name }))) same c.pair.ensures
