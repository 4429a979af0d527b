use Rattle.std.proofs.Common.{◌≡◌, ℕ, ◌∷◌, List, ◌++◌, ◌+◌, [], get_or, take, drop, refl, ap, subst, arith}
use Rattle.std.proofs.lemmas.List.{drop_more, length-drop}
use Rattle.std.specs.List.{flat_map, AllByRecursion}
use Rattle.mr_bytes.specs.declared.Name.{Name}
use Rattle.mr_certform.specs.Spelling.{u32}
use Rattle.mr_certform.specs.declared.version.Version.{Version}
use Rattle.mr_certform.specs.Places.{first_name}
use Rattle.mr_certform.specs.Value.{NameFits, CanRow, CanSpell}
use Rattle.mr_certform.specs.Flat.{total, chunks}
use Rattle.mr_certform.specs.Pieces.{group_bytes}
use Rattle.mr_certform.proofs.Pieces.{put_piece, total_cut, parts_spelled, chunks_split, chunks_take, chunks_drop, All-append, All-take, All-drop}
use Rattle.mr_certform.proofs.writing.put_parts.Goals as goal

fits_more : (n : ℕ) (cs : List ℕ) (xs : List Name) (Q : Type 0) → AllByRecursion (AllByRecursion NameFits) (chunks (take n cs) xs) → (AllByRecursion (AllByRecursion NameFits) (chunks cs xs) → Q) → AllByRecursion (AllByRecursion NameFits) (chunks (drop n cs) (drop (total (take n cs)) xs)) → Q
fits_more n cs xs Q here k h = k (subst (AllByRecursion (AllByRecursion NameFits)) (chunks_split n cs xs) (All-append (AllByRecursion NameFits) _ _ here h))

-- what can be spelled of groups, of the first n and of the others
first_can : (v : Version) (n : ℕ) (cs : List ℕ) (xs : List Name) → CanSpell v (chunks cs xs) → CanSpell v (chunks (take n cs) xs)
first_can v n cs xs can = subst (CanSpell v) (chunks_take n cs xs) (All-take (CanRow v first_name) n (chunks cs xs) can)

others_can : (v : Version) (n : ℕ) (cs : List ℕ) (xs : List Name) → CanSpell v (chunks cs xs) → CanSpell v (chunks (drop n cs) (drop (total (take n cs)) xs))
others_can v n cs xs can = subst (CanSpell v) (chunks_drop n cs xs) (All-drop (CanRow v first_name) n (chunks cs xs) can)

pub put_groups-requires-clause-can : goal.put_groups-requires-clause-can
put_groups-requires-clause-can g c = rw c.split_at.ensures.front (first_can c.args.version (get_or c.args.group_counts.now c.loop-groups.groups-index 0) c.loop-groups.counts.now c.loop-groups.rest c.loop-groups.invariant.can)

pub put_groups-requires-clause-room : goal.put_groups-requires-clause-room
put_groups-requires-clause-room g c = rw c.split_at.ensures.front (omega (arith, total_cut (get_or c.args.group_counts.now c.loop-groups.groups-index 0) c.loop-groups.counts.now, c.loop-groups.invariant.room))

pub loop-groups-preserved : goal.loop-groups-preserved
loop-groups-preserved g c =
    let n = get_or c.args.group_counts.now c.loop-groups.groups-index 0 in
    let inv = c.loop-groups.invariant in
    let e : drop c.loop-groups.groups-index c.args.group_counts.now ≡ get_or c.args.group_counts.now c.loop-groups.groups-index 0 ∷ drop (c.loop-groups.groups-index + 1) c.args.group_counts.now = drop_more c.args.group_counts.now c.loop-groups.groups-index 0 c.loop-groups-test.true in
    let back : c.split_at.result.1.now ≡ drop (get_or c.args.group_counts.now c.loop-groups.groups-index 0) c.loop-groups.counts.now = c.split_at.ensures.back in
    let rest : c.in_ok-rest.rest ≡ drop (total (take (get_or c.args.group_counts.now c.loop-groups.groups-index 0) c.loop-groups.counts.now)) c.loop-groups.rest = cc (c.in_ok-rest.ensures.1, c.split_at.ensures.front) in
    let fit : AllByRecursion (AllByRecursion NameFits) (chunks (take (get_or c.args.group_counts.now c.loop-groups.groups-index 0) c.loop-groups.counts.now) c.loop-groups.rest) = subst (λ w. AllByRecursion (AllByRecursion NameFits) (chunks w c.loop-groups.rest)) c.split_at.ensures.front (c.in_ok-rest.ensures.2) in
    let groups : flat_map (group_bytes c.args.version) (chunks c.split_at.result.0.now c.loop-groups.rest) ≡ flat_map (group_bytes c.args.version) (chunks (take (get_or c.args.group_counts.now c.loop-groups.groups-index 0) c.loop-groups.counts.now) c.loop-groups.rest) =
    ap (λ w. flat_map (group_bytes c.args.version) (chunks w c.loop-groups.rest)) c.split_at.ensures.front in
    let text : g.O.Sink.takes c.loop-groups.out c.put_groups.new.out (u32 n ++ flat_map (group_bytes c.args.version) (chunks (take n c.loop-groups.counts.now) c.loop-groups.rest)) =
    subst (λ w. g.O.Sink.takes c.loop-groups.out c.put_groups.new.out (u32 (get_or c.args.group_counts.now c.loop-groups.groups-index 0) ++ w)) groups
    (g.met.O.Sink.joined c.loop-groups.out c.put_number.new.out c.put_groups.new.out (u32 n) _ c.in_ok-put_number.ensures c.in_ok-rest.ensures.0) in
    rw (back, rest) (record {
      spelled = put_piece g.O.Sink.takes g.met.O.Sink.joined c.args.out.now c.loop-groups.out c.put_groups.new.out _ _ _ _ text (parts_spelled c.args.version _ n _ c.loop-groups.counts.now c.loop-groups.rest [] _ e (omega (arith, inv.groups)) refl) inv.spelled;
      groups = omega (arith, ap total e, inv.groups, length-drop n c.loop-groups.counts.now);
      room = omega (arith, inv.room, total_cut n c.loop-groups.counts.now, length-drop (total (take n c.loop-groups.counts.now)) c.loop-groups.rest);
      can = others_can c.args.version n c.loop-groups.counts.now c.loop-groups.rest inv.can;
      fits = fits_more n c.loop-groups.counts.now c.loop-groups.rest _ fit inv.fits;
    })
