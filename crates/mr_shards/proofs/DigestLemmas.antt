-- Digests that are read back from their digits.
use Rattle.std.proofs.Common.{◌≡◌, ℕ, List, Result, Ok, length, ap, ◌∙◌, subst, ◌*◌}
use Rattle.std.specs.Prelude.{MatchResult}
use Rattle.hex.specs.Hex.{IsBytes, decode_sized, encode_lower, lower_digits}
use Rattle.hex.specs.declared.error.FromHexError.{FromHexError}
use Rattle.hex.proofs.HexLemmas.{decode_of-encode_lower, decode_sized-twice, length-encode_with}

pub decodes : (text digest : List ℕ) → text ≡ encode_lower digest → IsBytes digest → length digest ≡ 32 → decode_sized text 32 ≡ Ok digest
decodes text digest e bytes whole =
    let twice : length (encode_lower digest) ≡ 2 * 32 = length-encode_with lower_digits digest ∙ ap (λ k. 2 * k) whole in
    ap (λ (t : List ℕ). decode_sized t 32) e ∙ decode_sized-twice (encode_lower digest) 32 twice ∙ decode_of-encode_lower digest bytes

pub taken : (q : Result (List ℕ) FromHexError) (A : Type 0) (F : FromHexError → Type 0) (new digest : List ℕ) → q ≡ Ok digest → MatchResult q (λ bytes. A × (new ≡ bytes)) F → new ≡ digest
taken q A F new digest e m = (subst (λ (p : Result (List ℕ) FromHexError). MatchResult p (λ bytes. A × (new ≡ bytes)) F) e m).1
