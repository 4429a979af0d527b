use Rattle.std.proofs.Common.{◌+◌, ◌-◌, true, false, ℕ, arith, ap, sym, subst, refl, length}
use Rattle.mr_jobs.specs.declared.literal_search.Known.{Known}
use Rattle.mr_jobs.specs.Hits.{Sought, AreSo}
use Rattle.mr_jobs.proofs.HitLemmas.{known-found, known-clear}
use Rattle.mr_jobs.proofs.literal_search.LiteralSearch.look_on.Goals as goal

pub returns-clause-so : goal.returns-clause-so
returns-clause-so c =
    let inside = c.self.inside in
    let sought : Sought = record { text = inside.text.now; literal = inside.literal.now; fold = inside.fold } in
    let known : Known = c.args.known in
    let later : Known = record { from = known.from; clear = known.clear + c.in-Some.skipped; found = true; reach = 4096 } in
    let texts = ap (λ (s : Sought). length s.text) c.self.view_is in
    let literals = ap (λ (s : Sought). length s.literal) c.self.view_is in
    subst (λ (s : Sought). AreSo s later) c.self.view_is
    (known-found sought known later c.min-goal.result c.in-Some.skipped (subst (λ (s : Sought). AreSo s known) (sym c.self.view_is) c.requires.so)
    (omega (arith, texts, literals)) (omega arith) c.in-Some.ensures.place refl refl)

pub returns-in_default-clause-so : goal.returns-in_default-clause-so
returns-in_default-clause-so c =
    let inside = c.self.inside in
    let sought : Sought = record { text = inside.text.now; literal = inside.literal.now; fold = inside.fold } in
    let known : Known = c.args.known in
    let goal : ℕ = c.min-goal.result in
    let later : Known = record { from = known.from; clear = goal + 1 - length inside.literal.now; found = false; reach = c.min.result } in
    let texts = ap (λ (s : Sought). length s.text) c.self.view_is in
    let literals = ap (λ (s : Sought). length s.literal) c.self.view_is in
    subst (λ (s : Sought). AreSo s later) c.self.view_is
    (known-clear sought known later goal (subst (λ (s : Sought). AreSo s known) (sym c.self.view_is) c.requires.so)
    (omega arith) (omega (arith, texts, literals)) c.in_default.ensures.place refl refl refl)
