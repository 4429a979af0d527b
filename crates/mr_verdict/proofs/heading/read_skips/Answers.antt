use Rattle.std.proofs.Common.{◌≡◌, ℕ, suc, ◌+◌, ◌-◌, ◌<◌, Option, Some, None, List, [], ◌∷◌, length, refl, ap, sym, ◌∙◌, inr, arith, Err, length-append}
use Rattle.std.proofs.lemmas.Result.{err_from_is_err_and}
use Rattle.mr_bytes.specs.declared.RecordName.{RecordName}
use Rattle.mr_splits.specs.Named.{NamedRecord}
use Rattle.mr_splits.specs.Cut.{records_of}
use Rattle.mr_certform.specs.declared.grammar_state.Item.{Item}
use Rattle.mr_certform.specs.declared.grammar_state.Item.TheVariants.{Skip}
use Rattle.mr_verdict.specs.declared.answers.No.{No}
use Rattle.mr_verdict.specs.declared.items.JudgeError.{JudgeError}
use Rattle.mr_verdict.specs.declared.items.JudgeError.TheVariants.{Fault, Device, TooLong, Output, LongOutput}
use Rattle.mr_verdict.specs.Verdict.{last_of}
use Rattle.mr_verdict.specs.Steps.{listed}
use Rattle.mr_verdict.specs.Items.{Coming, NextSkip, IsStopped}
use Rattle.mr_verdict.proofs.SkipLemmas.{last_more, listed_more, listed_fault, listed_stops, front_more, front_next}
use Rattle.mr_verdict.proofs.heading.read_skips.Goals as goal

one_less : (n i : ℕ) → i < n → n - i ≡ suc (n - (i + 1))
one_less n i h = omega (arith, h)

none_is : (o : Option No) → ((e : No) → o ≡ Some e → ⊥) → o ≡ None
none_is None h = refl
none_is (Some e) h = absurd (h e refl)

-- what an answer without a record says of all the items
ended : (rs : List NamedRecord) (old now new : Coming) (k m n : ℕ) (ss : List RecordName) (e : JudgeError) → k ≡ suc m
    → ((is : List Item) (at : ℕ) → now is at → (js : List Item) × (old js at × (listed rs at k ss is ≡ listed rs at n [] js)))
    → NextSkip now new (Err e) → (js : List Item) × ((at : ℕ) × (old js at × IsStopped (listed rs at n [] js) e))
ended rs old now new k m n ss (Fault e) d leads (at, (there, is)) =
    let t = leads [] at there in
    (t.0, (at, (t.1.0, sym t.1.1 ∙ (listed_stops rs at k m ss d ∙ ap Err (sym is)))))
ended rs old now new k m n ss Device d leads (is, (at, there)) = let t = leads is at there in (t.0, (at, (t.1.0, tt)))
ended rs old now new k m n ss TooLong d leads (is, (at, there)) = let t = leads is at there in (t.0, (at, (t.1.0, tt)))
ended rs old now new k m n ss (Output p) d leads (is, (at, there)) = let t = leads is at there in (t.0, (at, (t.1.0, tt)))
ended rs old now new k m n ss LongOutput d leads (is, (at, there)) = let t = leads is at there in (t.0, (at, (t.1.0, tt)))

pub next_skip-requires-clause-skip : goal.next_skip-requires-clause-skip
next_skip-requires-clause-skip g c is at there =
    let n = c.args.many in
    let i = c.loop-number.number in
    front_next (n - i) (n - (i + 1)) is (one_less n i c.loop-number-test.true) (c.loop-number.invariant.front is at there)

pub returns-in_err-name-clause-listed : goal.returns-in_err-name-clause-listed
returns-in_err-name-clause-listed g c =
    let gives = g.I.ItemSource.gives in
    let n = c.args.many in
    let i = c.loop-number.number in
    let p = err_from_is_err_and c.from_residual.result c.from_residual.ensures.1 in
    rw (p.1, p.2) (inr (ended (records_of c.args.plan.now) (gives c.args.items.now) (gives c.loop-number.items) (gives c.next_skip.new.items) (n - i) (n - (i + 1)) n c.loop-number.skips.items c.in_err-name.field-0.0 (one_less n i c.loop-number-test.true) c.loop-number.invariant.leads c.in_err-name.ensures.next))

pub returns-in-Some-clause-listed : goal.returns-in-Some-clause-listed
returns-in-Some-clause-listed g c =
    let rs = records_of c.args.plan.now in
    let n = c.args.many in
    let i = c.loop-number.number in
    let ss : List RecordName = c.loop-number.skips.items in
    let name = c.in_ok-name.name in
    let some = c.in_ok-name.ensures.some in
    let t = c.loop-number.invariant.leads (Skip name ∷ some.0) some.1.0 (c.in_ok-name.ensures.next some.0 some.1.0 some.1.1) in
    inr (t.0, (some.1.0, (t.1.0, sym t.1.1 ∙ listed_fault rs some.1.0 (n - i) (n - (i + 1)) c.from.result ss some.0 name c.loop-number.before c.fault_of.result c.in-Some.fault (one_less n i c.loop-number-test.true) c.loop-number.invariant.before (c.from.ensures ∙ c.loop-number.invariant.long) c.fault_of.ensures c.in-Some.is)))

pub loop-number-preserved : goal.loop-number-preserved
loop-number-preserved g c =
    let rs = records_of c.args.plan.now in
    let n = c.args.many in
    let i = c.loop-number.number in
    let d = one_less n i c.loop-number-test.true in
    let ss : List RecordName = c.loop-number.skips.items in
    let ts : List RecordName = c.keep.new.skips.items in
    let name = c.in_ok-name.name in
    let inv = c.loop-number.invariant in
    let kept = c.in_ok-keep.ensures in
    let none = none_is c.fault_of.result c.in_default.not-Some in
    record {
      leads = λ is at there. (let t = inv.leads (Skip name ∷ is) at (c.in_ok-name.ensures.next is at there) in
          (t.0, (t.1.0, listed_more rs at (n - i) (n - (i + 1)) c.from.result ss ts is name c.loop-number.before c.fault_of.result d kept inv.before (c.from.ensures ∙ inv.long) c.fault_of.ensures none ∙ t.1.1)));
      front = λ is at there. front_more (n - i) (n - (i + 1)) name is d (inv.front (Skip name ∷ is) at (c.in_ok-name.ensures.next is at there));
      long = omega (arith, inv.long, ap length kept, length-append ss (name ∷ []));
      before = sym (ap last_of kept ∙ last_more ss name);
      given = c.in_ok-name.ensures.some;
      sound = c.in_ok-name.ensures.sound;
      count = c.in_ok-name.ensures.stops ∙ inv.count;
      fewer = omega (arith, c.in_ok-name.ensures.fewer, inv.fewer);
    }
