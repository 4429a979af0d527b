use Rattle.std.proofs.Common.{◌≤◌, arith, length, subst}
use Rattle.mr_shards.specs.Numbers.{IsCutBehind}
use Rattle.mr_shards.proofs.NumberLemmas.{comma-cut, comma-stops, digit-bound, number-cut, number-more, number-none}
use Rattle.mr_shards.proofs.file_numbers.cut_two_digits.Goals as goal

pub returns : goal.returns
returns c =
    let list = c.args.list.now in
    let tens = c.in_ok-tens.tens in
    let number = c.in_ok-number.number in
    let long : 3 ≤ length list = omega (arith, c.if-list-lt3.false) in
    let low = digit-bound 0 list tens c.in_ok-tens.ensures in
    let high = digit-bound tens _ number c.in_ok-number.ensures in
    let one = number-more list 0 0 tens (omega (arith, low)) (number-none list) c.in_ok-tens.ensures in
    let both = number-more list 1 tens number (omega (arith, low, high)) one c.in_ok-number.ensures in (
      subst (IsCutBehind list number) (comma-cut list long c.if-list-ne44.false)
          (number-cut list 2 number (omega arith) (λ zero. absurd (c.if-list-eq48.false zero)) both (comma-stops list number long c.if-list-ne44.false)),
      omega (arith, low, high),
    )
