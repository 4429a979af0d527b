use Rattle.std.proofs.Common.{◌≡◌, ℕ, ◌∷◌, List, ◌++◌, ◌+◌, [], get_or, take, drop, refl, ap, sym, subst}
use Rattle.std.proofs.lemmas.List.{drop_more}
use Rattle.std.specs.List.{AllByRecursion}
use Rattle.mr_bytes.specs.declared.Name.{Name}
use Rattle.mr_certform.specs.Places.{first_name}
use Rattle.mr_certform.specs.declared.version.Version.{Version}
use Rattle.mr_certform.specs.Spelling.{u32}
use Rattle.mr_certform.specs.Value.{NameFits, CanRow, CanSpell}
use Rattle.mr_certform.specs.Flat.{chunks}
use Rattle.mr_certform.specs.Pieces.{names_bytes}
use Rattle.mr_certform.proofs.Pieces.{put_piece, groups_spelled, groups_behind, groups_room}
use Rattle.mr_certform.proofs.writing.put_groups.Goals as goal

fits_more : (cs : List ℕ) (n : ℕ) (ns : List ℕ) (rest : List Name) (Q : Type 0) → cs ≡ n ∷ ns → AllByRecursion NameFits (take n rest) → (AllByRecursion (AllByRecursion NameFits) (chunks cs rest) → Q) → AllByRecursion (AllByRecursion NameFits) (chunks ns (drop n rest)) → Q
fits_more cs n ns rest Q e here k h = k (subst (λ w. AllByRecursion (AllByRecursion NameFits) (chunks w rest)) (sym e) (here, h))

first_can : (v : Version) (cs : List ℕ) (n : ℕ) (ns : List ℕ) (rest : List Name) → cs ≡ n ∷ ns → CanSpell v (chunks cs rest) → CanRow v first_name (take n rest) × CanSpell v (chunks ns (drop n rest))
first_can v cs n ns rest e can = subst (λ w. CanSpell v (chunks w rest)) e can

pub put_names-requires : goal.put_names-requires
put_names-requires g c =
    let e : drop c.loop-count.count-index c.args.counts.now ≡ get_or c.args.counts.now c.loop-count.count-index 0 ∷ drop (c.loop-count.count-index + 1) c.args.counts.now = drop_more c.args.counts.now c.loop-count.count-index 0 c.loop-count-test.true in
    rw c.split_at-here.ensures.front ((first_can c.args.version _ _ _ c.loop-count.rest e c.loop-count.invariant.can).0)

pub loop-count-preserved : goal.loop-count-preserved
loop-count-preserved g c =
    let cs = c.args.counts.now in
    let i = c.loop-count.count-index in
    let n = get_or c.args.counts.now c.loop-count.count-index 0 in
    let rest = c.loop-count.rest in
    let inv = c.loop-count.invariant in
    let e : drop c.loop-count.count-index c.args.counts.now ≡ get_or c.args.counts.now c.loop-count.count-index 0 ∷ drop (c.loop-count.count-index + 1) c.args.counts.now = drop_more c.args.counts.now c.loop-count.count-index 0 c.loop-count-test.true in
    let back : c.split_at-here.result.1 ≡ drop (get_or c.args.counts.now c.loop-count.count-index 0) c.loop-count.rest = c.split_at-here.ensures.back in
    let fit : AllByRecursion NameFits (take (get_or c.args.counts.now c.loop-count.count-index 0) c.loop-count.rest) = subst (AllByRecursion NameFits) c.split_at-here.ensures.front (c.in_ok-put_names.ensures.1) in
    let here = take (get_or c.args.counts.now c.loop-count.count-index 0) c.loop-count.rest in
    let v = c.args.version in
    let names : names_bytes v first_name c.split_at-here.result.0 ≡ names_bytes v first_name (take (get_or c.args.counts.now c.loop-count.count-index 0) c.loop-count.rest) =
    ap (names_bytes v first_name) c.split_at-here.ensures.front in
    let text : g.O.Sink.takes c.loop-count.out c.put_names.new.out (u32 n ++ names_bytes v first_name here) =
    subst (λ w. g.O.Sink.takes c.loop-count.out c.put_names.new.out (u32 (get_or c.args.counts.now c.loop-count.count-index 0) ++ w)) names
    (g.met.O.Sink.joined c.loop-count.out c.put_number.new.out c.put_names.new.out (u32 n) _ c.in_ok-put_number.ensures c.in_ok-put_names.ensures.0) in
    rw back (record {
      spelled = put_piece g.O.Sink.takes g.met.O.Sink.joined c.args.out.now c.loop-count.out c.put_names.new.out _ _ _ _ text (groups_spelled v _ n _ rest [] _ e inv.room refl) inv.spelled;
      can = (first_can c.args.version _ _ _ c.loop-count.rest e inv.can).1;
      room = groups_room _ n _ rest e inv.room;
      behind = groups_behind _ n _ rest _ e inv.behind;
      fits = fits_more _ n _ rest _ e fit inv.fits;
    })
