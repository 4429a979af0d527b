use Rattle.std.proofs.Common.{refl, sym, arith, length, ◌+◌, ◌*◌, ◌/◌, ◌-◌, ◌≤◌, drop}
use Rattle.mr_certform.specs.Walking.{items_left, halt}
use Rattle.mr_certform.specs.declared.grammar_state.GrammarState.TheVariants.{AtEntry}
use Rattle.mr_certform.specs.Places.{groups}
use Rattle.mr_certform.proofs.Rows.{none_ahead, all_passed, some_passed, same_stop}
use Rattle.mr_certform.proofs.walker.Walker.skip_entries.Goals as goal

pub returns-in_default : goal.returns-in_default
unfolding items_left halt
returns-in_default c =
    let v = c.args.self.now in
    let told = none_ahead v.version v.place v.rest.now (λ r g n b e. c.in_default.not-AtEntry r g n b e) in
    record { count = sym told.0; items = sym told.1; stop = refl }

pub returns-then-held-from : goal.returns-then-held-from
unfolding items_left halt
returns-then-held-from c =
    let v = c.args.self.now in
    let p = c.in-AtEntry in
    let k = c.from-awaited.result + 1 in
    let fits : k * 12 ≤ length v.rest.now = omega (arith, c.if-held-from.true) in
    let told = all_passed k p.parts p.groups p.before p.more v.place v.rest.now p.is (omega (arith, c.from-awaited.ensures)) fits in
    rw (c.groups_to_come-self.ensures, c.behind_row-self.ensures, c.in-V1.is) (record {
      count = told.0;
      items = told.1;
      stop = same_stop v.whole k v.place (groups p.parts p.groups) v.rest.now (drop (k * 12) v.rest.now) v.in_range fits refl told;
    })

pub returns-else-held-from : goal.returns-else-held-from
unfolding items_left halt
returns-else-held-from c =
    let v = c.args.self.now in
    let p = c.in-AtEntry in
    let k = length v.rest.now / 12 in
    let fits : k * 12 ≤ length v.rest.now = omega arith in
    let told = some_passed k (p.more - k) p.parts p.groups p.before p.more v.place v.rest.now p.is (omega (arith, c.if-held-from.false)) fits (omega arith) in
    rw (c.behind_row-self-in-V1.ensures, c.in-V1.is) (record {
      count = told.0;
      items = told.1;
      stop = same_stop v.whole k v.place (AtEntry p.parts p.groups (p.more - k) p.before) v.rest.now (drop (k * 12) v.rest.now) v.in_range fits refl told;
    })

pub returns-in-V2-clause-count : goal.returns-in-V2-clause-count
unfolding items_left
returns-in-V2-clause-count c = rw (c.in-V2.is, c.in-AtEntry.is) c.behind_names-passed.ensures.count

pub returns-in-V2-clause-items : goal.returns-in-V2-clause-items
unfolding items_left
returns-in-V2-clause-items c = rw (c.in-V2.is, c.in-AtEntry.is) c.behind_names-passed.ensures.items

pub returns-in-V2-clause-stop : goal.returns-in-V2-clause-stop
unfolding halt items_left
returns-in-V2-clause-stop c =
    let v = c.args.self.now in
    let told = c.behind_names-passed.ensures in
    rw (c.in-V2.is, c.in-AtEntry.is) (omega (arith, told.taken, told.shorter, v.in_range))
