use Rattle.std.proofs.Common.{◌≡◌, ◌∙◌, ◌++◌, ◌⊎◌, get_or, ap, sym, subst, inl, inr, arith, set, Some, None, ℕ, List, Option}
use Rattle.std.specs.List.{AllByRecursion}
use Rattle.std.proofs.lemmas.List.{append-nil, set-get_or}
use Rattle.std.proofs.lemmas.Result.{err_from_is_err_and}
use Rattle.mr_shards.specs.declared.cursor.Cursor.{Cursor}
use Rattle.mr_shards.specs.declared.line.Line.{Line}
use Rattle.mr_shards.specs.Cursors.{AreBehind, AreEnded, BlamesNext, IsAdvanced, IsFronted, IsHeadOf, MayGoOn, least_from, on}
use Rattle.mr_bytes.specs.Cut as Cut
use Rattle.mr_shards.specs.Merged.{Group}
use Rattle.mr_shards.specs.Rounds.{BlamesGoing, HasDryHead, IsGoing}
use Rattle.mr_shards.specs.Views.{WaitsFor}
use Rattle.mr_shards.proofs.FrontLemmas.{all-at}
use Rattle.mr_shards.proofs.LoopLemmas.{least-within}
use Rattle.mr_shards.proofs.RefusedLemmas.{handed}
use Rattle.mr_shards.proofs.RoundLemmas.{all-set, behind-next, dry-head, further-all, further-next, further-set, going-blames, going-large, going-step, head-is, heads-fronted, next-smaller, set-smaller, whole-head}
use Rattle.mr_shards.proofs.StepLemmas.{IsLeast, best-of}
use Rattle.mr_shards.proofs.merger.merge_lines.Goals as goal

-- the least of the cursors is the least of those that the vector holds
same-least : (cs seen : List Cursor) (o : Option (ℕ × Line)) (at : ℕ) (line : Line) → seen ≡ cs → o ≡ least_from None 0 seen → o ≡ Some (at, line) → Some (at, line) ≡ least_from None 0 cs
same-least cs seen o at line same found is = sym is ∙ found ∙ ap (least_from None 0) same

least : (cs : List Cursor) (at : ℕ) (line : Line) → Some (at, line) ≡ least_from None 0 cs → IsLeast cs at line
least cs at line e = best-of cs (Some (at, line)) e

pub loop-at-init : goal.loop-at-init
loop-at-init c = record {
  heads = c.requires.heads;
  further = further-all c.args.cursors.now.items;
  goes = λ w k. (
    w,
    k,
    λ os f text g. subst (IsGoing c.args.job.now os f c.args.cursors.now.items w) (sym (ap (λ (o : List ℕ). text ++ o) c.requires.empty ∙ append-nil text)) g,
  );
  behind = tt;
}

pub next_line-requires-clause-heads : goal.next_line-requires-clause-heads
next_line-requires-clause-heads c =
    subst (AllByRecursion (λ (q : Cursor). IsFronted q.head)) (sym c.deref.ensures.value) (heads-fronted c.args.job.now c.loop-at.cursors.items c.loop-at.invariant.heads)

pub next_line-requires-clause-behind : goal.next_line-requires-clause-behind
next_line-requires-clause-behind c = subst (AreBehind c.loop-at.last) (sym c.deref.ensures.value) c.loop-at.invariant.behind

pub index_mut-requires : goal.index_mut-requires
index_mut-requires c =
    let cs = c.loop-at.cursors.items in
    let l = least-within cs c.in-Some.at c.in-Some.line
    (least cs c.in-Some.at c.in-Some.line (same-least cs c.deref.result.now c.next_line.result c.in-Some.at c.in-Some.line c.deref.ensures.value c.next_line.ensures c.in-Some.is)) in
    omega (arith, l, c.loop-at.cursors.ok.0)

pub advance-requires : goal.advance-requires
advance-requires c =
    let cs = c.loop-at.cursors.items in
    let l = least-within cs c.in-Some.at c.in-Some.line
    (least cs c.in-Some.at c.in-Some.line (same-least cs c.deref.result.now c.next_line.result c.in-Some.at c.in-Some.line c.deref.ensures.value c.next_line.ensures c.in-Some.is)) in
    subst (λ (q : Cursor). IsFronted q.head) (sym c.index_mut.ensures.value)
    (all-at (λ (q : Cursor). IsFronted q.head) cs c.in-Some.at c.index_mut.result.now (heads-fronted c.args.job.now cs c.loop-at.invariant.heads) l)

pub returns-in_err-advance-clause-err : goal.returns-in_err-advance-clause-err
returns-in_err-advance-clause-err c =
    let job = c.args.job.now in
    let cs = c.loop-at.cursors.items in
    let at = c.in-Some.at in
    let one = c.index_mut.result.now in
    let l = least-within cs at c.in-Some.line
    (least cs at c.in-Some.line (same-least cs c.deref.result.now c.next_line.result at c.in-Some.line c.deref.ensures.value c.next_line.ensures c.in-Some.is)) in
    handed (λ e. (w : Option Group) → WaitsFor job c.args.waiting.now w → BlamesGoing job c.args.cursors.now.items w e) c.from_residual.result c.in_err-advance.field-0.0
    (err_from_is_err_and c.from_residual.result c.from_residual.ensures.1)
    (λ w k os f text g. (let i = c.loop-at.invariant.goes w k in
    going-blames job os f cs at one i.0 (text ++ c.loop-at.out.items) c.in_err-advance.field-0.0 l (i.2 os f text g)
    (subst (λ (q : Cursor). (more : List ℕ) → MayGoOn q.is_last more → BlamesNext job at (on q more) c.in_err-advance.field-0.0) c.index_mut.ensures.value c.in_err-advance.ensures.err)))

-- a cursor that stays is written back
same-cursors : (cs : List Cursor) (at : ℕ) (one d next : Cursor) → one ≡ get_or cs at d → next ≡ one → set cs at next ≡ cs
same-cursors cs at one d next is stays = ap (set cs at) (stays ∙ is) ∙ set-get_or cs at d

pub returns-then-not-branch-clause-goes : goal.returns-then-not-branch-clause-goes
returns-then-not-branch-clause-goes c = λ w k.
    let stays = c.in_ok-advance.ensures.stays c.if-not-branch.true in
    let same = same-cursors c.loop-at.cursors.items c.in-Some.at c.index_mut.result.now _ c.advance.new.cursor c.index_mut.ensures.value stays.0 in
    let i = c.loop-at.invariant.goes w k in
    (i.0, i.1, λ os f text g. subst (λ (cs : List Cursor). IsGoing c.args.job.now os f cs i.0 (text ++ c.loop-at.out.items)) (sym same) (i.2 os f text g))

pub returns-then-not-branch-clause-ends : goal.returns-then-not-branch-clause-ends
returns-then-not-branch-clause-ends c =
    let job = c.args.job.now in
    let cs = c.loop-at.cursors.items in
    let at = c.in-Some.at in
    let one = c.index_mut.result.now in
    let b = least cs at c.in-Some.line (same-least cs c.deref.result.now c.next_line.result at c.in-Some.line c.deref.ensures.value c.next_line.ensures c.in-Some.is) in
    let l = least-within cs at c.in-Some.line b in
    let n = c.in_ok-advance.ensures.stays c.if-not-branch.true in
    let same = same-cursors cs at one _ c.advance.new.cursor c.index_mut.ensures.value n.0 in
    subst (λ (qs : List Cursor). AreEnded qs ⊎ HasDryHead qs) (sym same)
    (inr (dry-head job cs at one c.in-Some.line l (whole-head job cs at one c.in-Some.line b l c.loop-at.invariant.heads)
    (subst (λ (q : Cursor). Cut.Lacks 10 q.rest.now) c.index_mut.ensures.value n.1) (ap (λ (q : Cursor). q.is_last) (sym c.index_mut.ensures.value) ∙ n.2)))

pub take_line-requires : goal.take_line-requires
take_line-requires c =
    let cs = c.loop-at.cursors.items in
    let at = c.in-Some.at in
    let b = least cs at c.in-Some.line (same-least cs c.deref.result.now c.next_line.result at c.in-Some.line c.deref.ensures.value c.next_line.ensures c.in-Some.is) in
    (whole-head c.args.job.now cs at c.index_mut.result.now c.in-Some.line b (least-within cs at c.in-Some.line b) c.loop-at.invariant.heads).kind

pub returns-in_err-take_line-clause-err : goal.returns-in_err-take_line-clause-err
returns-in_err-take_line-clause-err c =
    let job = c.args.job.now in
    let cs = c.loop-at.cursors.items in
    let at = c.in-Some.at in
    let one = c.index_mut.result.now in
    let e = same-least cs c.deref.result.now c.next_line.result at c.in-Some.line c.deref.ensures.value c.next_line.ensures c.in-Some.is in
    let l = least-within cs at c.in-Some.line (least cs at c.in-Some.line e) in
    let a = subst (λ (q : Cursor). IsAdvanced job q c.advance.new.cursor) c.index_mut.ensures.value (c.in_ok-advance.ensures.moves c.if-not-branch.false) in
    handed (λ e. (w : Option Group) → WaitsFor job c.args.waiting.now w → BlamesGoing job c.args.cursors.now.items w e) c.from_residual-in_err-take_line.result c.in_err-take_line.field-0.0
    (err_from_is_err_and c.from_residual-in_err-take_line.result c.from_residual-in_err-take_line.ensures.1)
    (λ w k os f text g. (let i = c.loop-at.invariant.goes w k in
    going-large job os f cs at _ c.advance.new.cursor c.in-Some.line i.0 (text ++ c.loop-at.out.items) c.in_err-take_line.field-0.0 l e a
    (i.2 os f text g) (c.in_err-take_line.ensures.err i.0 i.1)))

pub loop-at-smaller : goal.loop-at-smaller
loop-at-smaller c =
    let job = c.args.job.now in
    let cs = c.loop-at.cursors.items in
    let at = c.in-Some.at in
    let one = c.index_mut.result.now in
    let b = least cs at c.in-Some.line (same-least cs c.deref.result.now c.next_line.result at c.in-Some.line c.deref.ensures.value c.next_line.ensures c.in-Some.is) in
    let l = least-within cs at c.in-Some.line b in
    let a = subst (λ (q : Cursor). IsAdvanced job q c.advance.new.cursor) c.index_mut.ensures.value (c.in_ok-advance.ensures.moves c.if-not-branch.false) in
    set-smaller cs at _ c.advance.new.cursor l (next-smaller job _ c.advance.new.cursor c.in-Some.line (whole-head job cs at _ c.in-Some.line b l c.loop-at.invariant.heads) a)

pub loop-at-preserved : goal.loop-at-preserved
loop-at-preserved c =
    let job = c.args.job.now in
    let cs = c.loop-at.cursors.items in
    let at = c.in-Some.at in
    let one = c.index_mut.result.now in
    let line = c.in-Some.line in
    let next = c.advance.new.cursor in
    let e = same-least cs c.deref.result.now c.next_line.result at line c.deref.ensures.value c.next_line.ensures c.in-Some.is in
    let b = least cs at line e in
    let l = least-within cs at line b in
    let a = subst (λ (q : Cursor). IsAdvanced job q c.advance.new.cursor) c.index_mut.ensures.value (c.in_ok-advance.ensures.moves c.if-not-branch.false) in
    let w = whole-head job cs at _ line b l c.loop-at.invariant.heads in
    record {
      heads = all-set (λ (q : Cursor). IsHeadOf job q q.head) cs at next c.loop-at.invariant.heads a.opened.head;
      further = further-set c.args.cursors.now.items cs at _ next c.loop-at.invariant.further l (further-next job _ next line w a);
      goes = λ o k.
          (let i = c.loop-at.invariant.goes o k in
          let t = c.in_ok-take_line.ensures.ok i.0 i.1 in (
            Some t.0,
            t.1,
            λ os f text g. going-step job os f cs at _ next line i.0 t.0 text c.loop-at.out.items c.take_line.new.out.items l e (head-is cs at _ line b) w.kind a t.2 (i.2 os f text g),
          ));
      behind = behind-next job at cs _ next line b l c.loop-at.invariant.heads a;
    }

pub returns-clause-ends : goal.returns-clause-ends
returns-clause-ends c = inl (best-of c.loop-at.cursors.items None (sym c.in_default.is ∙ c.next_line.ensures ∙ ap (least_from None 0) c.deref.ensures.value))
