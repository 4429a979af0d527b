use Rattle.std.proofs.Common.{◌≡◌, ℕ, List, [], ◌∷◌, ◌++◌, append_assoc, sym, ◌∙◌, ap}
use Rattle.mr_bytes.specs.declared.Value.{Value}
use Rattle.mr_bytes.specs.declared.Value.TheVariants.{At}
use Rattle.mr_spill.specs.Spelling.{u32, u64, value_bytes}
use Rattle.mr_spill.proofs.spelling.put_value.Goals as goal

-- a place, part by part
place-bytes : (out one two three : List ℕ) (v : Value) (file offset : ℕ) → v ≡ At file offset → one ≡ out ++ 1 ∷ [] → two ≡ one ++ u32 file → three ≡ two ++ u64 offset
    → three ≡ out ++ value_bytes v
place-bytes out one two three v file offset is a b d =
    d ∙ ap (λ (l : List ℕ). l ++ u64 offset) (b ∙ ap (λ (l : List ℕ). l ++ u32 file) a ∙ append_assoc out (1 ∷ []) (u32 file))
    ∙ append_assoc out (1 ∷ u32 file) (u64 offset) ∙ ap (λ (w : Value). out ++ value_bytes w) (sym is)

pub returns-in_ok-put_long-in-At-clause-text : goal.returns-in_ok-put_long-in-At-clause-text
returns-in_ok-put_long-in-At-clause-text c =
    place-bytes c.args.out.now.items c.push-in-At.new.self.items c.put_number.new.out.items c.put_long.new.out.items c.args.value c.in-At.file c.in-At.offset c.in-At.is
    c.in_ok-push-in-At.ensures.items c.in_ok-put_number-in-At.ensures c.in_ok-put_long-in-At.ensures

pub returns-in_ok-push-in-One-clause-text : goal.returns-in_ok-push-in-One-clause-text
returns-in_ok-push-in-One-clause-text c =
    c.in_ok-push-in-One.ensures.items ∙ ap (λ (w : Value). c.args.out.now.items ++ value_bytes w) (sym c.in-One.is)
