use Rattle.std.proofs.Common.{List, ℕ, Option, None, Some, map, ap, subst, arith}
use Rattle.std.specs.Prelude.{IfSome}
use Rattle.std.specs.List.{AllByRecursion}
use Rattle.std.proofs.lemmas.List.{length-map}
use Rattle.mr_bytes.specs.Cut.{Lacks}
use Rattle.mr_commands.specs.Named.{verdict_file}
use Rattle.mr_commands.proofs.Ends.{all_clear}
use Rattle.mr_commands.proofs.judging.expect_options.Goals as goal

some : {A : Type 0} (o : Option (List ℕ)) → A → IfSome o (λ name. A)
some None h = tt
some (Some name) h = h

pub returns-in-None-clause-clear : goal.returns-in-None-clause-clear
returns-in-None-clause-clear c =
    let names = map (λ s. s.now) c.as_slice.result.now in
    let clear : AllByRecursion (Lacks 10) names = all_clear 10 names (λ k l. c.in-None.ensures k (omega (arith, l, length-map c.as_slice.result.now (λ s. s.now)))) in
    some (verdict_file c.args.asked.now) (subst (λ (v : List (List ℕ)). AllByRecursion (Lacks 10) v) (ap (map (λ s. s.now)) c.as_slice.ensures.value) clear)
