use Rattle.std.proofs.Common.{◌≡◌, ◌-◌, ◌∙◌, ℕ, List, ap, arith, drop, length, take}
use Rattle.std.specs.Int.{w32, from_be_bytes}
use Rattle.std.proofs.lemmas.List.{length-drop, take_all}
use Rattle.mr_bytes.specs.declared.Name.{Name}
use Rattle.mr_certform.proofs.front.twelve.Goals as goal

-- what stands behind so many bytes
behind : (n : ℕ) (bytes : List ℕ) → take (length bytes - n) (drop n bytes) ≡ drop n bytes
behind n bytes = take_all (length bytes - n) (drop n bytes) (omega (arith, length-drop n bytes))

same_name : (a b d x y z : ℕ) → a ≡ x → b ≡ y → d ≡ z → ◌≡◌ {A = Name} (record { split = a; rec = b; place = d }) (record { split = x; rec = y; place = z })
same_name a b d x y z p q r = cc

pub returns : goal.returns
returns c =
    let bytes = c.args.bytes.now in
    let four = λ (l : List ℕ). from_be_bytes w32 (take 4 l) in
    (c.if-bytes-lt12.false, same_name _ _ _ _ _ _ c.number_of_four-split.ensures (c.number_of_four-rec.ensures ∙ ap four (behind 4 bytes)) (c.number_of_four-place.ensures ∙ ap four (behind 8 bytes)), behind 12 bytes)
