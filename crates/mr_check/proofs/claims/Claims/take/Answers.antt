use Rattle.std.proofs.Common.{◌≡◌, ℕ, List, [], ◌∷◌, ◌++◌, ap, sym, ◌∙◌, arith, subst, set, drop, length}
use Rattle.std.proofs.lemmas.List.{take_at, length-set}
use Rattle.mr_bytes.specs.declared.Name.{Name}
use Rattle.mr_check.specs.declared.claims.Late.{Late}
use Rattle.mr_check.specs.Claims.{Claim, Division, PutsOff, Taken, claim_of, claims_in, claims_of, nth_list, nth_window}
use Rattle.mr_check.proofs.ClaimLemmas.{puts_off}
use Rattle.mr_check.proofs.claims.Claims.take.Goals as goal

pub returns-clause-put : goal.returns-clause-put
returns-clause-put c h =
    let old : List (List Late) = c.self.inside.lists.items in
    let new : List (List Late) = c.push_late.new.lists in
    let len : ℕ = c.self.inside.lists.len in
    let by : Division = c.self.inside.windows.now in
    let w : ℕ = c.in-Some.w in
    let e : Late = record { line = c.args.line; low = c.in-Some.low } in
    let claim : Claim = record { name = c.args.name; line = c.args.line } in
    let is : new ≡ set old w (nth_list old w ++ e ∷ []) = c.in_ok-push_late.ensures ∙ ap (λ (ls : List (List Late)). set ls w (nth_list ls w ++ e ∷ [])) c.as_mut_slice.ensures.value in
    let long : length new ≡ len = omega (arith, ap length is, length-set old w (nth_list old w ++ e ∷ []), c.self.inside.lists.ok.0) in
    let same : claim_of by.bits (nth_window by.list w) e ≡ claim = ap (λ (n : Name). record { name = n; line = c.args.line }) c.in-Some.ensures.1 in
    let off : PutsOff (claims_in by.bits by.list old) claim (claims_in by.bits by.list new) =
    subst (λ (x : Claim). PutsOff (claims_in by.bits by.list old) x (claims_in by.bits by.list new)) same
    (subst (λ (ls : List (List Late)). PutsOff (claims_in by.bits by.list old) (claim_of by.bits (nth_window by.list w) e) (claims_in by.bits by.list ls)) (sym is)
    (puts_off by.bits by.list old w e c.in-Some.ensures.0 (omega (arith, c.if-w-len.false, c.self.inside.lists.ok.0)))) in
    subst (λ (ls : List (List Late)). PutsOff (claims_of c.args.self.now) claim (claims_in by.bits by.list ls)) (sym (take_at new (drop (length new) old) len long))
    (subst (λ (t : Taken). PutsOff (claims_of t) claim (claims_in by.bits by.list new)) c.self.view_is off)
