-- What `{:05}` writes.
use Rattle.std.proofs.Common.{◌≡◌, ℕ, ◌-◌, ◌^◌, false, List, [], ◌++◌, length, refl, ap, sym, ◌∙◌, ◌≢◌, ◌<◌, ◌≤◌, zero, suc, get_or, append-nil, arith, codes}
use Rattle.std.specs.Prelude.{decimal, replicate}
use Rattle.std.specs.Fmt.{padded_integral, format_spec, before_digits, char_count}
use Rattle.mr_files.specs.Names.{five_digits, name_of_part, name_of_certificate, name_of_verdict, part_names}
use Rattle.mr_files.specs.Holding.{Differs}
use Rattle.mr_files.proofs.Lists.{differs_more}
use Rattle.std.specs.Str.Parse.{digits_value}
use Rattle.std.proofs.lemmas.Fmt.{decimal_is_IsNumeral}
use Rattle.std.proofs.lemmas.List.{append_cancel_left}

pub five_digits_are : (n : ℕ) → padded_integral (format_spec 32 0 4 5 (2 ^ 64 - 1)) false [] (decimal n) ≡ five_digits n
unfolding padded_integral char_count
five_digits_are n =
    let e : 5 - length (decimal n) - 0 - 0 ≡ 5 - length (decimal n) = omega arith in
    ap (λ (v : List ℕ). before_digits (format_spec 32 0 4 5 (2 ^ 64 - 1)) false [] (length (decimal n)) ++ v) (append-nil (decimal n)) ∙ ap (λ (k : ℕ). replicate k 0x30 ++ decimal n) e

-- zeros in front are worth nothing
zeros_in_front : (k : ℕ) (ds : List ℕ) → digits_value 10 (replicate k 0x30 ++ ds) ≡ digits_value 10 ds
zeros_in_front zero ds = refl
zeros_in_front (suc k) ds = zeros_in_front k ds

value_of_digits : (n : ℕ) → n < 2 ^ 64 → digits_value 10 (five_digits n) ≡ n
value_of_digits n h = zeros_in_front (5 - length (decimal n)) (decimal n) ∙ (decimal_is_IsNumeral n h).1

-- parts of different numbers have different names
pub parts_differ : (dir : List ℕ) (k n : ℕ) → k < n → n < 2 ^ 64 → name_of_part dir n ≢ name_of_part dir k
parts_differ dir k n less fits is =
    let same : five_digits n ≡ five_digits k = append_cancel_left (codes "/part-") (five_digits n) (five_digits k) (append_cancel_left dir (codes "/part-" ++ five_digits n) (codes "/part-" ++ five_digits k) is) in
    let e : n ≡ k = sym (value_of_digits n fits) ∙ (ap (digits_value 10) same ∙ value_of_digits k (omega arith)) in
    absurd (omega (arith, e))

pub certificate_differs : (dir : List ℕ) (k : ℕ) → name_of_certificate dir ≢ name_of_part dir k
certificate_differs dir k is =
    let same : codes "/certificate" ≡ codes "/part-" ++ five_digits k = append_cancel_left dir (codes "/certificate") (codes "/part-" ++ five_digits k) is in
    let e : 99 ≡ 112 = ap (λ (v : List ℕ). get_or v 1 0) same in
    absurd (omega (arith, e))

pub differs_parts : (dir : List ℕ) (n : ℕ) (i : ℕ) → i ≤ n → n < 2 ^ 64 → Differs (name_of_part dir n) (part_names dir i)
unfolding part_names
differs_parts dir n zero h fits = tt
differs_parts dir n (suc i) h fits = differs_more (name_of_part dir n) (name_of_part dir i) (part_names dir i) (differs_parts dir n i (omega arith) fits) (parts_differ dir i n (omega arith) fits)

pub differs_certificate : (dir : List ℕ) (i : ℕ) → Differs (name_of_certificate dir) (part_names dir i)
unfolding part_names
differs_certificate dir zero = tt
differs_certificate dir (suc i) = differs_more (name_of_certificate dir) (name_of_part dir i) (part_names dir i) (differs_certificate dir i) (certificate_differs dir i)

pub verdict_differs : (dir : List ℕ) (k : ℕ) → name_of_verdict dir ≢ name_of_part dir k
verdict_differs dir k is =
    let same : codes "/verdict" ≡ codes "/part-" ++ five_digits k = append_cancel_left dir (codes "/verdict") (codes "/part-" ++ five_digits k) is in
    let e : 118 ≡ 112 = ap (λ (v : List ℕ). get_or v 1 0) same in
    absurd (omega (arith, e))

pub differs_verdict : (dir : List ℕ) (i : ℕ) → Differs (name_of_verdict dir) (part_names dir i)
unfolding part_names
differs_verdict dir zero = tt
differs_verdict dir (suc i) = differs_more (name_of_verdict dir) (name_of_part dir i) (part_names dir i) (differs_verdict dir i) (verdict_differs dir i)
