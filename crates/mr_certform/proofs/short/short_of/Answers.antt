use Rattle.std.proofs.Common.{◌≡◌, ◌+◌, ◌^◌, Option, None, Some, true, false, cond, ltb, ap, ◌∙◌, arith}
use Rattle.std.proofs.lemmas.Bool.{lt-ltb, le-ltb}
use Rattle.mr_certform.specs.Short.{NumberFront, short_at}
use Rattle.mr_certform.proofs.ShortLaws.{short_one, short_more, short_none}
use Rattle.mr_certform.proofs.short.short_of.Goals as goal

pub returns-in_err-first-clause-read : goal.returns-in_err-first-clause-read
returns-in_err-first-clause-read c =
    let none : short_at c.args.base c.args.bytes.now ≡ None = short_none c.args.base c.args.bytes.now c.in_err-first.ensures.cases in
    rw c.from_residual.ensures none

pub returns-then-first-ge128-clause-read : goal.returns-then-first-ge128-clause-read
returns-then-first-ge128-clause-read c =
    rw (short_more c.args.base c.in_ok-first.first.now c.args.bytes.now c.in_ok-first.rest.now c.in_ok-first.ensures.cases.0 c.if-first-ge128.true) c.long_of.ensures.read

pub returns-in_err-number-clause-read : goal.returns-in_err-number-clause-read
returns-in_err-number-clause-read c =
    let base = c.args.base in
    let byte = c.in_ok-first.first.now in
    let rest = c.in_ok-first.rest.now in
    let over = c.in_err-number.ensures in
    let great : ltb (base + byte) (2 ^ 32) ≡ false = le-ltb (base + byte) (2 ^ 32) (omega (arith, over, c.from.ensures)) in
    let none : short_at base c.args.bytes.now ≡ None =
    short_one base byte c.args.bytes.now rest c.in_ok-first.ensures.cases.0 c.if-first-ge128.false
    ∙ ap (λ t. cond {A = Option NumberFront} t (Some (record { number = base + byte; rest = rest })) None) great in
    rw c.from_residual-in_err-number.ensures none

pub returns-clause-read : goal.returns-clause-read
returns-clause-read c =
    let base = c.args.base in
    let byte = c.in_ok-first.first.now in
    let rest = c.in_ok-first.rest.now in
    let within = c.in_ok-number.ensures in
    let less : ltb (base + byte) (2 ^ 32) ≡ true = lt-ltb (base + byte) (2 ^ 32) (omega (arith, within.0, c.from.ensures)) in
    let same : base + byte ≡ c.in_ok-number.number = omega (arith, within.1, c.from.ensures) in
    short_one base byte c.args.bytes.now rest c.in_ok-first.ensures.cases.0 c.if-first-ge128.false
    ∙ (ap (λ t. cond {A = Option NumberFront} t (Some (record { number = base + byte; rest = rest })) None) less
    ∙ ap (λ n. Some (record { number = n; rest = rest })) same)
