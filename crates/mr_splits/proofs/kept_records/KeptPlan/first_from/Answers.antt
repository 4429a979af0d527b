use Rattle.std.proofs.Common.{◌∙◌, ◌<◌, sym, arith, length}
use Rattle.mr_splits.specs.Named.{of_split}
use Rattle.mr_splits.specs.Cut.{records_of}
use Rattle.mr_splits.proofs.KeptLemmas.{split-behind, record-kept, record-left, none-kept, fewer-splits, fewer-records}
use Rattle.mr_splits.proofs.kept_records.KeptPlan.first_from.Goals as goal

pub loop-split-smaller-then-rec-records_in : goal.loop-split-smaller-then-rec-records_in
loop-split-smaller-then-rec-records_in c =
    fewer-splits (records_of c.args.self.now.cut) c.loop-split.split c.loop-split.rec c.args.end c.loop-split-test.true (c.if-rec-records_in.true ∙ c.records_in.ensures)

pub loop-split-preserved-then-rec-records_in : goal.loop-split-preserved-then-rec-records_in
loop-split-preserved-then-rec-records_in c = record {
  order = omega arith;
  here = omega arith;
  same = sym (split-behind c.args.self.now c.loop-split.split c.loop-split.rec c.args.end c.loop-split-test.true (c.if-rec-records_in.true ∙ c.records_in.ensures))
      ∙ c.loop-split.invariant.same;
}

pub returns-then-not-leaves_out-clause-first : goal.returns-then-not-leaves_out-clause-first
returns-then-not-leaves_out-clause-first c =
    let inside : c.loop-split.rec < length (of_split c.loop-split.split (records_of c.args.self.now.cut)) =
    omega (arith, c.loop-split.invariant.here, c.if-rec-records_in.false, c.records_in.ensures) in
    sym c.loop-split.invariant.same
    ∙ record-kept c.args.self.now c.loop-split.split c.loop-split.rec c.args.end c.loop-split-test.true inside (sym c.if-not-leaves_out.ensures)

pub loop-split-smaller : goal.loop-split-smaller
loop-split-smaller c =
    let inside : c.loop-split.rec < length (of_split c.loop-split.split (records_of c.args.self.now.cut)) =
    omega (arith, c.loop-split.invariant.here, c.if-rec-records_in.false, c.records_in.ensures) in
    fewer-records (records_of c.args.self.now.cut) c.loop-split.split c.loop-split.rec c.args.end c.loop-split-test.true inside

pub loop-split-preserved : goal.loop-split-preserved
loop-split-preserved c =
    let inside : c.loop-split.rec < length (of_split c.loop-split.split (records_of c.args.self.now.cut)) =
    omega (arith, c.loop-split.invariant.here, c.if-rec-records_in.false, c.records_in.ensures) in
    record {
      order = omega arith;
      here = omega arith;
      same = sym (record-left c.args.self.now c.loop-split.split c.loop-split.rec c.args.end c.loop-split-test.true inside (sym c.if-not-leaves_out.ensures))
          ∙ c.loop-split.invariant.same;
    }

pub returns-clause-first : goal.returns-clause-first
returns-clause-first c =
    sym c.loop-split.invariant.same ∙ none-kept c.args.self.now c.loop-split.split c.loop-split.rec c.args.end c.loop-split-test.false
