use Rattle.std.proofs.Common.{length, drop, ap, sym, ◌∙◌, List, arith}
use Rattle.mr_certform.specs.declared.grammar_state.Item.{Item}
use Rattle.mr_certform.specs.Walking.{items_left}
use Rattle.mr_check.proofs.SectionLemmas.{entries_dropped, fewer_behind, drop_on}
use Rattle.mr_check.proofs.section.Section.pass_entries.Goals as goal

pub invariant_of-self : goal.invariant_of-self
invariant_of-self c =
    record { few = omega (arith, c.args.self.now.few, ap length c.skip_entries-passed.ensures.items, fewer_behind (items_left c.args.self.now.walker)) }

pub invariant_of-self-2 : goal.invariant_of-self-2
invariant_of-self-2 c =
    record { few = omega (arith, c.args.self.now.few, ap length c.skip_entries-passed.ensures.items, fewer_behind (items_left c.args.self.now.walker)) }

pub returns-in_err-self-clause-fewer : goal.returns-in_err-self-clause-fewer
returns-in_err-self-clause-fewer c = omega (arith, ap length c.skip_entries-passed.ensures.items, fewer_behind (items_left c.args.self.now.walker))

pub returns-clause-fewer : goal.returns-clause-fewer
returns-clause-fewer c = omega (arith, ap length c.skip_entries-passed.ensures.items, fewer_behind (items_left c.args.self.now.walker))

pub returns-clause-passed : goal.returns-clause-passed
returns-clause-passed c all here =
    let is : List Item = items_left c.args.self.now.walker in
    record {
      left = drop_on c.skip_entries-passed.result c.in_ok-self.field-0 c.args.self.now.at is (items_left c.skip_entries-passed.new.self) (items_left all) here.left
          (c.skip_entries-passed.ensures.items ∙ (entries_dropped is ∙ ap (λ n. drop n is) (sym c.skip_entries-passed.ensures.count))) c.in_ok-self.ensures.1;
      stop = c.skip_entries-passed.ensures.stop ∙ here.stop;
    }
