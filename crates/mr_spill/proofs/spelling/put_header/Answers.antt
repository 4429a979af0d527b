use Rattle.std.proofs.Common.{◌≡◌, ℕ, List, ◌++◌, append_assoc, ◌∙◌, ap}
use Rattle.mr_spill.specs.Spelling.{magic, u32}
use Rattle.mr_spill.proofs.spelling.put_header.Goals as goal

-- four parts, one behind another
parts : (out one two three four a b c d : List ℕ) → one ≡ out ++ a → two ≡ one ++ b → three ≡ two ++ c → four ≡ three ++ d → four ≡ out ++ (((a ++ b) ++ c) ++ d)
parts out one two three four a b c d p q r s =
    s ∙ ap (λ (l : List ℕ). l ++ d) (r ∙ ap (λ (l : List ℕ). l ++ c) (q ∙ ap (λ (l : List ℕ). l ++ b) p ∙ append_assoc out a b) ∙ append_assoc out (a ++ b) c)
    ∙ append_assoc out ((a ++ b) ++ c) d

pub returns : goal.returns
returns c =
    parts c.args.out.now.items c.extend_from_slice.new.self.items c.put_number.new.out.items c.put_number-2.new.out.items c.put_number-3.new.out.items
    magic (u32 c.args.split) (u32 c.args.partition) (u32 c.args.count)
    c.in_ok-extend_from_slice.ensures.items c.in_ok-put_number.ensures c.in_ok-put_number-2.ensures c.in_ok-put_number-3.ensures
