use Rattle.std.proofs.Common.{◌≡◌, ℕ, List, ◌<◌, ◌^◌, ◌∙◌, sym, subst}
use Rattle.std.specs.Prelude.{MatchOption, None, Option, Some, decimal}
use Rattle.std.specs.Option.{unwrap_or}
use Rattle.std.proofs.lemmas.Fmt.{decimal_injective}
use Rattle.mr_shards.proofs.reading.number_or_zero.Goals as goal

number-is : (o : Option ℕ) (digits : List ℕ) → MatchOption o ((n : ℕ) → n < 2 ^ 64 → digits ≡ decimal n → ⊥) (λ n. digits ≡ decimal n)
    → unwrap_or o 0 < 2 ^ 64 → (n : ℕ) → n < 2 ^ 64 → digits ≡ decimal n → unwrap_or o 0 ≡ n
number-is None digits none fits n small e = absurd (none n small e)
number-is (Some k) digits same fits n small e = decimal_injective k n fits small (sym same ∙ e)

pub returns : goal.returns
returns c = λ n small e.
    c.unwrap_or.ensures ∙ number-is c.number_of.result c.args.digits.now c.number_of.ensures (subst (λ k. k < 2 ^ 64) c.unwrap_or.ensures c.unwrap_or.type_inv) n small e
