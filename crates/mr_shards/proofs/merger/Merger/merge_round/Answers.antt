use Rattle.std.proofs.Common.{◌≡◌, ◌∙◌, ap, sym, subst, inl, inr, length, List, ℕ, Option, None, Some, refl}
use Rattle.std.specs.Prelude.{IfSome}
use Rattle.std.proofs.Common.{Vec}
use Rattle.std.specs.Global.{Global}
use Rattle.std.proofs.lemmas.List.{length-map}
use Rattle.std.proofs.lemmas.Result.{err_from_is_err_and}
use Rattle.mr_jobs.specs.JobSpec.{JobSpec}
use Rattle.mr_shards.specs.declared.cursor.Cursor.{Cursor}
use Rattle.mr_shards.specs.declared.cursor.Held.{Held}
use Rattle.mr_shards.specs.declared.merger.MergeFault.{MergeFault}
use Rattle.mr_shards.specs.declared.merger.Window.{Window}
use Rattle.mr_shards.specs.Cursors.{are_ended}
use Rattle.mr_shards.specs.Refused.{Blames}
use Rattle.mr_shards.specs.Rounds.{AreOpen, AreReadUpTo, AreWindows, AreWithin, IsAfter, OneGoes, Reading, Standing, cuts_at, outputs_of}
use Rattle.mr_shards.specs.Views.{Waits, WaitsFor}
use Rattle.mr_shards.proofs.EndLemmas.{after-nothing, dry-goes, dry-window, ended-last, further-count, have-bytes, merges, nothing-within, open-heads}
use Rattle.mr_shards.proofs.RefusedLemmas.{handed}
use Rattle.mr_shards.proofs.RoundLemmas.{going-opened, helds, mores}
use Rattle.mr_shards.proofs.merger.Merger.merge_round.Goals.{then-are_ended+in_ok-put, else-are_ended}
use Rattle.mr_shards.proofs.merger.Merger.merge_round.Goals as goal

-- the cursors are open at what the merger holds
opened : (job : JobSpec) (seen hs : List Held) (ws : List Window) (o : Option (Vec Cursor Global)) (cs : Vec Cursor Global) → seen ≡ hs → o ≡ Some cs
    → IfSome o (λ v. AreOpen job seen ws v.items) → AreOpen job hs ws cs.items
opened job seen hs ws o cs same is all =
    subst (λ (q : List Held). AreOpen job q ws cs.items) same (subst (λ (x : Option (Vec Cursor Global)). IfSome x (λ v. AreOpen job seen ws v.items)) is all)

pub returns-in_err-cursors-clause-err : goal.returns-in_err-cursors-clause-err
returns-in_err-cursors-clause-err c =
    let job = c.args.job.now in
    let m = c.args.self.now in
    let held = c.as_slice.ensures.value ∙ ap (λ (s : Standing). s.held) c.self.view_is in
    handed (λ (e : MergeFault). (rs : List Reading) (text : List ℕ) → IsAfter job rs text m → AreWindows rs c.args.windows.now → Blames job (outputs_of rs) e)
    c.from_residual.result c.in_err-cursors.field-0.0
    (err_from_is_err_and c.from_residual.result c.from_residual.ensures.1)
    (λ rs text a v. c.in_err-cursors.ensures.err rs (subst (λ (hs : List Held). AreReadUpTo job hs rs) (sym held) a.read) v)

pub returns-in_default-clause-ok : goal.returns-in_default-clause-ok
returns-in_default-clause-ok c =
    let job = c.args.job.now in
    let ws = c.args.windows.now in
    let m = c.args.self.now in
    let dry = c.in_ok-cursors.ensures.none c.in_default.is in
    record {
      within = subst (λ (ns : List ℕ). AreWithin ns ws) (sym c.in_ok-self-inside.ensures) (nothing-within ws);
      after = λ rs text a v. after-nothing job rs ws text m _ v (ap (λ (s : Standing). s.held) c.self.view_is) (ap (λ (s : Standing). s.waiting) c.self.view_is) c.clear.ensures.items c.in_ok-self-inside.ensures a;
      whole = λ rs text a v last. absurd (cc (sym last ∙ dry-window ws dry));
    }

pub merge_lines-requires-clause-heads : goal.merge_lines-requires-clause-heads
merge_lines-requires-clause-heads c =
    open-heads c.args.job.now c.as_slice.result.now c.args.windows.now c.in-Some.cursors.items
    (opened c.args.job.now c.as_slice.result.now c.as_slice.result.now c.args.windows.now c.in_ok-cursors.field-0 c.in-Some.cursors refl c.in-Some.is c.in_ok-cursors.ensures.some)

pub returns-in_err-merge_lines-clause-err : goal.returns-in_err-merge_lines-clause-err
returns-in_err-merge_lines-clause-err c =
    let job = c.args.job.now in
    let ws = c.args.windows.now in
    let m = c.args.self.now in
    let held = c.as_slice.ensures.value ∙ ap (λ (s : Standing). s.held) c.self.view_is in
    let cs = c.in-Some.cursors.items in
    let o = opened job c.as_slice.result.now m.held ws c.in_ok-cursors.field-0 c.in-Some.cursors held c.in-Some.is c.in_ok-cursors.ensures.some in
    handed (λ (e : MergeFault). (rs : List Reading) (text : List ℕ) → IsAfter job rs text m → AreWindows rs ws → Blames job (outputs_of rs) e)
    c.from_residual-in_err-merge_lines.result c.in_err-merge_lines.field-0.0
    (err_from_is_err_and c.from_residual-in_err-merge_lines.result c.from_residual-in_err-merge_lines.ensures.1)
    (λ rs text a v.
    c.in_err-merge_lines.ensures.err a.waiting (subst (λ (w : Waits). WaitsFor job w a.waiting) (sym (ap (λ (s : Standing). s.waiting) c.self.view_is)) a.waits) (outputs_of rs) (mores rs ws v) text
    (going-opened job rs ws cs text m v o (sym c.requires) a).0)

-- how many cursors there are
pub cuts_of-requires : goal.cuts_of-requires
cuts_of-requires c =
    let o = opened c.args.job.now c.as_slice.result.now c.as_slice.result.now c.args.windows.now c.in_ok-cursors.field-0 c.in-Some.cursors refl c.in-Some.is c.in_ok-cursors.ensures.some in
    ap length c.as_slice-4.ensures.value ∙ sym (further-count c.in-Some.cursors.items c.merge_lines.new.cursors.items c.in_ok-merge_lines.ensures.further) ∙ o.0

pub returns-clause-shards : goal.returns-clause-shards
returns-clause-shards c =
    let o = opened c.args.job.now c.as_slice.result.now c.as_slice.result.now c.args.windows.now c.in_ok-cursors.field-0 c.in-Some.cursors refl c.in-Some.is c.in_ok-cursors.ensures.some in
    ap length c.in_ok-self-inside-2.ensures ∙ length-map c.as_slice-3.result.now (λ (q : Cursor). q.held) ∙ ap length c.as_slice-3.ensures.value
    ∙ sym (further-count c.in-Some.cursors.items c.merge_lines.new.cursors.items c.in_ok-merge_lines.ensures.further) ∙ o.0 ∙ c.requires

pub returns-clause-goes : goal.returns-clause-goes
returns-clause-goes c = λ more some.
    let job = c.args.job.now in
    let ws = c.args.windows.now in
    let cs = c.in-Some.cursors.items in
    let ds = c.merge_lines.new.cursors.items in
    let further = c.in_ok-merge_lines.ensures.further in
    let o = opened job c.as_slice.result.now c.as_slice.result.now ws c.in_ok-cursors.field-0 c.in-Some.cursors refl c.in-Some.is c.in_ok-cursors.ensures.some in
    let bytes = have-bytes job c.as_slice.result.now ws cs o in
    let cuts = c.in_ok-self-inside-3.ensures ∙ ap (cuts_at ws) c.as_slice-4.ensures.value in
    elim c.in_ok-merge_lines.ensures.ends [
      | inl ended ↦ absurd (cc (sym more ∙ ended-last job ws cs ds bytes further c.in_ok-merge_lines.ensures.heads ended))
      | inr dry ↦ subst (OneGoes ws) (sym cuts) (dry-goes ws cs ds bytes further dry)
    ]

pub returns-clause-ok : goal.returns-clause-ok
returns-clause-ok c =
    let job = c.args.job.now in
    let ws = c.args.windows.now in
    let m = c.args.self.now in
    let held = c.as_slice.ensures.value ∙ ap (λ (s : Standing). s.held) c.self.view_is in
    let cs = c.in-Some.cursors.items in
    let ds = c.merge_lines.new.cursors.items in
    let o = opened job c.as_slice.result.now m.held ws c.in_ok-cursors.field-0 c.in-Some.cursors held c.in-Some.is c.in_ok-cursors.ensures.some in
    let same = ap (λ (s : Standing). s.waiting) c.self.view_is in
    merges job ws m _ cs ds c.merge_lines.new.out.items o (sym c.requires) c.in_ok-merge_lines.ensures.further c.in_ok-merge_lines.ensures.heads
    (λ w waits.
    (let l = c.in_ok-merge_lines.ensures.goes w (subst (λ (x : Waits). WaitsFor job x w) (sym same) waits) in
    elim c.if-are_ended.branch [
      | then-are_ended+in_ok-put b ↦ (
        l.0,
        None,
        l.2,
        subst (λ (x : Waits). WaitsFor job x None) (sym (ap (λ q. q.waiting) b.self-inside-is)) b.in_ok-put.ensures.none,
        inl (
          ap are_ended (sym c.as_slice-2.ensures.value) ∙ sym c.are_ended.ensures ∙ b.if-are_ended.true,
          refl,
          ap (λ q. q.text.items) b.self-inside-is ∙ b.in_ok-put.ensures.written l.0 l.1,
        ),
      )
      | else-are_ended b ↦ (
        l.0,
        l.0,
        l.2,
        subst (λ (x : Waits). WaitsFor job x l.0) (sym (ap (λ q. q.waiting) b.self-inside-is)) l.1,
        inr (
          ap are_ended (sym c.as_slice-2.ensures.value) ∙ sym c.are_ended.ensures ∙ b.if-are_ended.false,
          refl,
          ap (λ q. q.text.items) b.self-inside-is,
        ),
      )
    ]))
    (c.in_ok-self-inside-2.ensures ∙ ap helds c.as_slice-3.ensures.value) (c.in_ok-self-inside-3.ensures ∙ ap (cuts_at ws) c.as_slice-4.ensures.value) c.in_ok-merge_lines.ensures.ends
