-- Texts that grow.
use Rattle.std.proofs.Common.{◌≡◌, ℕ, ◌++◌, List, ◌∙◌}
use Rattle.std.proofs.lemmas.List.{append_assoc}

two : (o a b : List ℕ) → (o ++ a) ++ b ≡ o ++ (a ++ b)
two o a b = append_assoc o a b

three : (o a b c : List ℕ) → ((o ++ a) ++ b) ++ c ≡ o ++ (a ++ (b ++ c))
three o a b c = append_assoc (o ++ a) b c ∙ append_assoc o a (b ++ c)

four : (o a b c d : List ℕ) → (((o ++ a) ++ b) ++ c) ++ d ≡ o ++ (a ++ (b ++ (c ++ d)))
four o a b c d = append_assoc ((o ++ a) ++ b) c d ∙ three o a b (c ++ d)

pub five : (o a b c d e : List ℕ) → ((((o ++ a) ++ b) ++ c) ++ d) ++ e ≡ o ++ (a ++ (b ++ (c ++ (d ++ e))))
five o a b c d e = append_assoc (((o ++ a) ++ b) ++ c) d e ∙ four o a b c (d ++ e)

pub six : (o a b c d e f : List ℕ) → (((((o ++ a) ++ b) ++ c) ++ d) ++ e) ++ f ≡ o ++ (a ++ (b ++ (c ++ (d ++ (e ++ f)))))
six o a b c d e f = append_assoc ((((o ++ a) ++ b) ++ c) ++ d) e f ∙ five o a b c d (e ++ f)
