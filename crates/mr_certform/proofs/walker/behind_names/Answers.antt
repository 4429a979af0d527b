use Rattle.std.proofs.Common.{◌+◌, ◌∙◌, sym, arith, rules}
use Rattle.mr_certform.specs.declared.grammar_state.GrammarState.TheVariants.{AtEntry}
use Rattle.mr_certform.proofs.Rows.{groups_no_entry, last_name, last_passed, name_less, next_passed, no_name, nothing_passed}
use Rattle.mr_certform.proofs.walker.behind_names.Goals as goal

pub loop-name-init : goal.loop-name-init
loop-name-init c = nothing_passed (AtEntry c.args.parts c.args.groups c.args.more c.args.before) c.args.bytes.now

pub overflow_add-passed : goal.overflow_add-passed
overflow_add-passed c =
    let less = name_less c.args.parts c.args.groups c.loop-name.left c.loop-name.last c.in-Some.name c.loop-name.rest.now c.in-Some.behind.now c.in-Some.ensures.read in
    search (rules, c.loop-name.invariant.shorter, less)

pub returns-then-left-eq0-clause-count : goal.returns-then-left-eq0-clause-count
returns-then-left-eq0-clause-count c =
    let p = AtEntry c.args.parts c.args.groups c.args.more c.args.before in
    let told = last_passed c.loop-name.passed p c.args.bytes.now c.args.parts c.args.groups c.loop-name.left c.loop-name.last c.in-Some.name c.loop-name.rest.now
    c.in-Some.behind.now c.groups_to_come.result c.loop-name.invariant c.in-Some.ensures.read c.if-left-eq0.true c.groups_to_come.ensures in
    (last_name (c.loop-name.passed + 1) p c.args.bytes.now c.groups_to_come.result c.in-Some.behind.now told
    (λ r g n b e. groups_no_entry c.args.parts c.args.groups r g n b (sym c.groups_to_come.ensures ∙ e))).0

pub returns-then-left-eq0-clause-items : goal.returns-then-left-eq0-clause-items
returns-then-left-eq0-clause-items c =
    let p = AtEntry c.args.parts c.args.groups c.args.more c.args.before in
    let told = last_passed c.loop-name.passed p c.args.bytes.now c.args.parts c.args.groups c.loop-name.left c.loop-name.last c.in-Some.name c.loop-name.rest.now
    c.in-Some.behind.now c.groups_to_come.result c.loop-name.invariant c.in-Some.ensures.read c.if-left-eq0.true c.groups_to_come.ensures in
    (last_name (c.loop-name.passed + 1) p c.args.bytes.now c.groups_to_come.result c.in-Some.behind.now told
    (λ r g n b e. groups_no_entry c.args.parts c.args.groups r g n b (sym c.groups_to_come.ensures ∙ e))).1

pub returns-then-left-eq0-clause-shorter : goal.returns-then-left-eq0-clause-shorter
returns-then-left-eq0-clause-shorter c =
    let less = name_less c.args.parts c.args.groups c.loop-name.left c.loop-name.last c.in-Some.name c.loop-name.rest.now c.in-Some.behind.now c.in-Some.ensures.read in
    omega (arith, less, c.loop-name.invariant.shorter)

pub returns-then-left-eq0-clause-taken : goal.returns-then-left-eq0-clause-taken
returns-then-left-eq0-clause-taken c =
    let p = AtEntry c.args.parts c.args.groups c.args.more c.args.before in
    (last_passed c.loop-name.passed p c.args.bytes.now c.args.parts c.args.groups c.loop-name.left c.loop-name.last c.in-Some.name c.loop-name.rest.now
    c.in-Some.behind.now c.groups_to_come.result c.loop-name.invariant c.in-Some.ensures.read c.if-left-eq0.true c.groups_to_come.ensures).size

pub loop-name-smaller : goal.loop-name-smaller
loop-name-smaller c =
    name_less c.args.parts c.args.groups c.loop-name.left c.loop-name.last c.in-Some.name c.loop-name.rest.now c.in-Some.behind.now c.in-Some.ensures.read

pub loop-name-preserved : goal.loop-name-preserved
loop-name-preserved c =
    next_passed c.loop-name.passed (AtEntry c.args.parts c.args.groups c.args.more c.args.before) c.args.bytes.now c.args.parts c.args.groups c.loop-name.left
    c.loop-name.last c.in-Some.name c.loop-name.rest.now c.in-Some.behind.now c.loop-name.invariant c.in-Some.ensures.read c.if-left-eq0.false

pub returns-clause-count : goal.returns-clause-count
returns-clause-count c =
    (no_name c.loop-name.passed (AtEntry c.args.parts c.args.groups c.args.more c.args.before) c.args.bytes.now c.args.parts c.args.groups c.loop-name.left
    c.loop-name.last c.loop-name.rest.now c.loop-name.invariant c.in_default.ensures.read).0

pub returns-clause-items : goal.returns-clause-items
returns-clause-items c =
    (no_name c.loop-name.passed (AtEntry c.args.parts c.args.groups c.args.more c.args.before) c.args.bytes.now c.args.parts c.args.groups c.loop-name.left
    c.loop-name.last c.loop-name.rest.now c.loop-name.invariant c.in_default.ensures.read).1

pub returns-clause-shorter : goal.returns-clause-shorter
returns-clause-shorter c = omega (arith, c.loop-name.invariant.shorter)

pub returns-clause-taken : goal.returns-clause-taken
returns-clause-taken c = c.loop-name.invariant.size
