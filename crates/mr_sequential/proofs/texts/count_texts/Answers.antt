use Rattle.std.proofs.Common.{◌≡◌, ℕ, ◌<◌, List, length, get_or, ◌∙◌, sym, arith, Vec, Global}
use Rattle.std.proofs.lemmas.List.{get_or_default, length-map}
use Rattle.mr_input.specs.Files.{contents, nth_file}
use Rattle.mr_group.specs.declared.rows.Row.{Row}
use Rattle.mr_group.specs.Rows.{no_row}
use Rattle.mr_sequential.specs.Rows.{count_line}
use Rattle.mr_sequential.proofs.TextLemmas.{row_more, row_end}
use Rattle.mr_sequential.proofs.texts.count_texts.Goals as goal

pub loop-rank-preserved : goal.loop-rank-preserved
loop-rank-preserved c =
    let rows : List Row = c.args.rows.now in
    let r : ℕ = c.loop-rank.rank in
    let x : Row = get_or rows r no_row in
    let ts : List (List ℕ) = contents c.loop-rank.texts.items in
    let is : x ≡ get_or rows r x = get_or_default rows r no_row x c.loop-rank-test.true in
    let within : x.part < length ts =
    omega (arith, c.requires.parts r no_row c.loop-rank-test.true, c.loop-rank.invariant.count, length-map c.loop-rank.texts.items (λ (f : Vec ℕ Global). f.items)) in
    record {
      count = c.in_ok-add_total.ensures.count ∙ c.loop-rank.invariant.count;
      texts = λ p h.
          row_more (count_line c.args.sizes.now) rows r x ts (contents c.add_total.new.texts.items) p c.loop-rank-test.true is within c.in_ok-add_total.ensures.ok
          ∙ c.loop-rank.invariant.texts p h;
    }

pub returns-clause-ok : goal.returns-clause-ok
returns-clause-ok c = λ p h.
    sym (row_end (count_line c.args.sizes.now) c.args.rows.now c.loop-rank.rank p (nth_file (contents c.loop-rank.texts.items) p) c.loop-rank-test.false)
    ∙ c.loop-rank.invariant.texts p h
