use Rattle.std.proofs.Common.{arith, subst, sym, ap, ◌∙◌, ◌≤◌, ◌<◌, ◌++◌, [], ℕ, List, length, take, drop}
use Rattle.std.proofs.lemmas.List.{take_all}
use Rattle.mr_input.specs.Files.{split_total}
use Rattle.mr_splits.specs.declared.split_table.Row.{Row}
use Rattle.mr_splits.specs.Named.{named_files, named_records}
use Rattle.mr_splits.specs.Table.{Stands, listed}
use Rattle.mr_splits.proofs.TableLemmas.{stands-none, said-none, said-more, said-all, split_total-none, split_total-more}
use Rattle.mr_splits.proofs.split_table.cut_files.Goals as goal

pub loop-i-init : goal.loop-i-init
loop-i-init c =
    let size : ℕ = c.args.size in
    let files : List (List ℕ) = c.args.input.now in
    record {
      rows = ap length c.new-2.ensures.items ∙ sym (split_total-none size files);
      stands = subst (λ (es : List ℕ). Stands size files es c.new-2.result.items) (sym c.new.ensures.items)
          (subst (λ (rs : List Row). Stands size files [] rs) (sym c.new-2.ensures.items) (stands-none size files));
      said = ap (λ (es : List ℕ). listed files es 0 c.new-2.result.items ++ named_files size 0 (split_total size (take 0 files)) (drop 0 files))
          c.new.ensures.items
          ∙ ap (λ (rs : List Row). listed files [] 0 rs ++ named_files size 0 (split_total size (take 0 files)) (drop 0 files)) c.new-2.ensures.items
          ∙ said-none size files;
    }

pub loop-i-preserved : goal.loop-i-preserved
loop-i-preserved c =
    let size : ℕ = c.args.size in
    let files : List (List ℕ) = c.args.input.now in
    let h : c.loop-i.i < length files = omega (arith, c.loop-i-test.true, c.files-i-end.ensures.count) in
    record {
      rows = c.in_ok-cut_file.ensures.rows ∙ sym (split_total-more size files c.loop-i.i h);
      stands = c.in_ok-cut_file.ensures.stands;
      said = said-more size files c.loop-i.i (listed files c.loop-i.table.ends.items 0 c.loop-i.table.rows.items)
          (listed files c.cut_file.new.table.ends.items 0 c.cut_file.new.table.rows.items) (named_records size files) h c.in_ok-cut_file.ensures.all
          c.loop-i.invariant.said;
    }

pub returns : goal.returns
returns c =
    let size : ℕ = c.args.size in
    let files : List (List ℕ) = c.args.input.now in
    let h : length files ≤ c.loop-i.i = omega (arith, c.loop-i-test.false, c.files-i-end.ensures.count) in
    record {
      rows = c.loop-i.invariant.rows ∙ ap (split_total size) (take_all c.loop-i.i files h);
      stands = c.loop-i.invariant.stands;
      all = said-all size files c.loop-i.i (listed files c.loop-i.table.ends.items 0 c.loop-i.table.rows.items) (named_records size files) h
          c.loop-i.invariant.said;
    }
