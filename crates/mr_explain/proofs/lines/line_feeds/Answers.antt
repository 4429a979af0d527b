use Rattle.std.proofs.Common.{◌≡◌, ℕ, ◌+◌, ◌-◌, ◌≤◌, ◌==◌, List, count_by, length, take, drop, ap, arith, ◌∙◌}
use Rattle.std.proofs.lemmas.List.Sums.{count_by-le-length}
use Rattle.std.proofs.lemmas.List.{length-take, take_all}
use Rattle.mr_explain.proofs.CountLemmas.{feeds-more}
use Rattle.mr_explain.proofs.lines.line_feeds.Goals as goal

abbrev feeds_in : List ℕ → ℕ
feeds_in bytes = count_by (λ b. b == 10) bytes

few_feeds : (n : ℕ) (bytes : List ℕ) → feeds_in (take n bytes) ≤ n
few_feeds n bytes = omega (arith, count_by-le-length (λ (b : ℕ). b == 10) (take n bytes), length-take n bytes)

pub overflow_add-feeds : goal.overflow_add-feeds
overflow_add-feeds c =
    let bytes : List ℕ = c.args.bytes.now in
    let more : c.feeds_among-feeds.result ≤ 64 = omega (arith, c.feeds_among-feeds.ensures, few_feeds 64 (drop c.loop-at.at bytes)) in
    omega (arith, more, c.loop-at.invariant.few, c.loop-at.invariant.within)

pub loop-at-preserved : goal.loop-at-preserved
loop-at-preserved c =
    let bytes : List ℕ = c.args.bytes.now in
    let at : ℕ = c.loop-at.at in
    let was = c.loop-at.invariant in
    let size : 64 ≡ at + 64 - at = omega arith in
    record {
      within = omega (arith, c.loop-at-test.true, was.within);
      few = omega (arith, was.few, c.feeds_among-feeds.ensures, few_feeds 64 (drop at bytes));
      counted = feeds-more bytes at (at + 64) c.loop-at.feeds c.feeds_among-feeds.result (omega arith) was.counted
          (c.feeds_among-feeds.ensures ∙ ap (λ n. feeds_in (take n (drop at bytes))) size);
    }

pub returns : goal.returns
returns c =
    let bytes : List ℕ = c.args.bytes.now in
    let at : ℕ = c.loop-at.at in
    feeds-more bytes at (length bytes) c.loop-at.feeds c.feeds_one_by_one.result c.loop-at.invariant.within c.loop-at.invariant.counted c.feeds_one_by_one.ensures
    ∙ ap feeds_in (take_all (length bytes) bytes (omega arith))
