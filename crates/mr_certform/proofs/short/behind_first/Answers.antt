use Rattle.std.proofs.Common.{◌≡◌, ◌+◌, ◌*◌, Option, None, Some, ap, sym, ◌∙◌, subst, arith, cond}
use Rattle.std.proofs.lemmas.Bool.{ne_eqb, eq-eqb}
use Rattle.mr_certform.specs.Short.{NumberFront, with_lowest, short_from}
use Rattle.mr_certform.proofs.ShortLaws.{IsReading, reading_first, reading_next, reading_last, reading_nothing, reading_over, reading_fits}
use Rattle.mr_certform.proofs.short.behind_first.Goals as goal

pub loop-i-init : goal.loop-i-init
loop-i-init c =
    let bytes = c.args.bytes.now in
    subst (λ low. IsReading c.args.first low 128 0 bytes bytes) (sym c.from-low.ensures) (reading_first c.args.first bytes c.requires (omega arith))

pub loop-i-preserved : goal.loop-i-preserved
loop-i-preserved c =
    let l = c.loop-i in
    let next = reading_next c.args.first l.low l.scale l.i c.in_ok-byte.byte.now c.args.bytes.now l.rest.now c.in_ok-byte.behind.now l.invariant (omega arith) c.in_ok-byte.ensures.cases.0 c.if-byte-lt128.false (omega arith) in
    subst (λ more. IsReading c.args.first (l.low + l.scale * more) (l.scale * 128) (l.i + 1) c.args.bytes.now c.in_ok-byte.behind.now) (sym c.from-in-loop-i.ensures) next

pub returns-in_err-byte-clause-read : goal.returns-in_err-byte-clause-read
returns-in_err-byte-clause-read c =
    let l = c.loop-i in
    let none : with_lowest c.args.first (short_from 4 c.args.bytes.now) ≡ None = reading_nothing c.args.first l.low l.scale l.i c.args.bytes.now l.rest.now l.invariant c.in_err-byte.ensures.cases in
    rw c.from_residual.ensures none

pub returns-then-byte-eq0-clause-read : goal.returns-then-byte-eq0-clause-read
returns-then-byte-eq0-clause-read c =
    let l = c.loop-i in
    let byte = c.in_ok-byte.byte.now in
    reading_last c.args.first l.low l.scale l.i byte c.args.bytes.now l.rest.now c.in_ok-byte.behind.now l.invariant (omega arith) c.in_ok-byte.ensures.cases.0 (omega arith)
    ∙ ap (λ t. cond {A = Option NumberFront} t None (Some (record { number = l.low + l.scale * byte; rest = c.in_ok-byte.behind.now }))) (eq-eqb byte 0 c.if-byte-eq0.true)

pub returns-then-byte-lt128-clause-read : goal.returns-then-byte-lt128-clause-read
returns-then-byte-lt128-clause-read c =
    let l = c.loop-i in
    let byte = c.in_ok-byte.byte.now in
    let rest = c.in_ok-byte.behind.now in
    reading_last c.args.first l.low l.scale l.i byte c.args.bytes.now l.rest.now rest l.invariant (omega arith) c.in_ok-byte.ensures.cases.0 c.if-byte-lt128.true
    ∙ (ap (λ t. cond {A = Option NumberFront} t None (Some (record { number = l.low + l.scale * byte; rest = rest }))) (ne_eqb byte 0 c.if-byte-eq0.false)
    ∙ ap (λ n. Some (record { number = l.low + l.scale * n; rest = rest })) (sym c.from.ensures))

pub returns-clause-read : goal.returns-clause-read
returns-clause-read c =
    let l = c.loop-i in
    reading_over c.args.first l.low l.scale l.i c.args.bytes.now l.rest.now l.invariant (omega arith)

pub overflow_mul-result : goal.overflow_mul-result
overflow_mul-result c = let l = c.loop-i in omega (arith, reading_fits c.args.first l.low l.scale l.i c.from.result c.args.bytes.now l.rest.now l.invariant (omega arith))

pub overflow_add-result : goal.overflow_add-result
overflow_add-result c = let l = c.loop-i in omega (arith, reading_fits c.args.first l.low l.scale l.i c.from.result c.args.bytes.now l.rest.now l.invariant (omega arith))

pub overflow_mul-low : goal.overflow_mul-low
overflow_mul-low c = let l = c.loop-i in omega (arith, reading_fits c.args.first l.low l.scale l.i c.from-in-loop-i.result c.args.bytes.now l.rest.now l.invariant (omega arith))

pub overflow_add-low : goal.overflow_add-low
overflow_add-low c = let l = c.loop-i in omega (arith, reading_fits c.args.first l.low l.scale l.i c.from-in-loop-i.result c.args.bytes.now l.rest.now l.invariant (omega arith))

pub overflow_mul-scale : goal.overflow_mul-scale
overflow_mul-scale c = let l = c.loop-i in omega (arith, reading_fits c.args.first l.low l.scale l.i 128 c.args.bytes.now l.rest.now l.invariant (omega arith))

pub returns-then-byte-lt128-clause-shorter : goal.returns-then-byte-lt128-clause-shorter
returns-then-byte-lt128-clause-shorter c = omega (arith, c.in_ok-byte.ensures.cases.1, c.loop-i.invariant.shorter)

pub returns-then-byte-lt128-clause-bound : goal.returns-then-byte-lt128-clause-bound
returns-then-byte-lt128-clause-bound c =
    let l = c.loop-i in
    reading_fits c.args.first l.low l.scale l.i c.from.result c.args.bytes.now l.rest.now l.invariant (omega arith)
