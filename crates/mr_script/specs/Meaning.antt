-- The directive that a line spells, as a function.
use Rattle.std.specs.Prelude.{ℕ, ◌^◌, Bool, ◌&&◌, Option, Some, None, List, [], ◌∷◌, length, nat_lt, nat_le, nat_eq, ◌==◌, if◌then◌else◌, codes}
use Rattle.std.specs.Str.{all_ascii_digits}
use Rattle.std.specs.Str.Parse.{digits_value}
use Rattle.std.specs.Cmp.Lexicographic.{pointwise}
use Rattle.mr_bytes.specs.Cut.{cut}
use Rattle.mr_script.specs.declared.script.Directive.{Directive}
use Rattle.mr_script.specs.declared.script.Directive.TheVariants.{Lose, Zombie, Bad, Flaky, Hold, Spoil, Damage}
use Rattle.mr_script.specs.declared.line.Keyword.{Keyword}
use Rattle.mr_script.specs.declared.line.Keyword.TheVariants as key

-- what comes first, and then what its value leads to
infixl 10 ◌>>=◌
abbrev pub ◌>>=◌ : {A B : Type 0} → Option A → (A → Option B) → Option B
None >>= f = None
(Some x) >>= f = f x

-- one to ten decimal digits, whose number fits in 32 bits
abbrev pub is_number : List ℕ → Bool
is_number word = nat_lt 0 (length word) && nat_le (length word) 10 && all_ascii_digits word && nat_lt (digits_value 10 word) (2 ^ 32)

unfoldable pub number_of : List ℕ → Option ℕ
number_of word = if is_number word then Some (digits_value 10 word) else None

unfoldable pub number_and_rest : List ℕ → Option (ℕ × List ℕ)
number_and_rest text = cut 0x20 text >>= λ c. number_of c.0 >>= λ n. Some (n, c.1)

unfoldable pub number_and_number : List ℕ → Option (ℕ × ℕ)
number_and_number text = number_and_rest text >>= λ a. number_of a.1 >>= λ b. Some (a.0, b)

unfoldable pub number_after_number : List ℕ → Option (ℕ × ℕ)
number_after_number text =
    number_and_rest text >>= λ a. cut 0x20 a.1 >>= λ c. if pointwise nat_eq c.0 (codes "after") then (number_of c.1 >>= λ b. Some (a.0, b)) else None

unfoldable pub three_numbers : List ℕ → Option (ℕ × ℕ × ℕ)
three_numbers text = number_and_rest text >>= λ a. number_and_number a.1 >>= λ b. Some (a.0, b.0, b.1)

unfoldable pub keyword_of : List ℕ → Option Keyword
keyword_of word =
    if pointwise nat_eq word (codes "lose") then Some key.Lose else
    if pointwise nat_eq word (codes "zombie") then Some key.Zombie else
    if pointwise nat_eq word (codes "bad") then Some key.Bad else
    if pointwise nat_eq word (codes "flaky") then Some key.Flaky else
    if pointwise nat_eq word (codes "hold") then Some key.Hold else
    if pointwise nat_eq word (codes "spoil") then Some key.Spoil else
    if pointwise nat_eq word (codes "damage") then Some key.Damage else None

-- the directive of a keyword and the bytes behind it
unfoldable pub directive_with : Keyword → List ℕ → Option Directive
directive_with key.Lose rest = number_after_number rest >>= λ a. Some (Lose a.0 a.1)
directive_with key.Zombie rest = number_after_number rest >>= λ a. Some (Zombie a.0 a.1)
directive_with key.Bad rest = number_and_number rest >>= λ a. Some (Bad a.0 a.1)
directive_with key.Flaky rest = three_numbers rest >>= λ a. Some (Flaky a.0 a.1 a.2)
directive_with key.Hold rest = number_of rest >>= λ a. Some (Hold a)
directive_with key.Spoil rest = number_and_number rest >>= λ a. Some (Spoil a.0 a.1)
directive_with key.Damage rest = three_numbers rest >>= λ a. Some (Damage a.0 a.1 a.2)

unfoldable pub directive_of : List ℕ → Option Directive
directive_of line = cut 0x20 line >>= λ c. keyword_of c.0 >>= λ k. directive_with k c.1
