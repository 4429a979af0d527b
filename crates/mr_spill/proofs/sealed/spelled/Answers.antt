use Rattle.std.proofs.Common.{◌≡◌, ℕ, ◌+◌, ◌++◌, List, length, slice_range, sym, ◌∙◌, ap, subst, arith}
use Rattle.std.proofs.lemmas.Grind.{flat_map-append}
use Rattle.std.proofs.lemmas.List.{append-nil, append_assoc}
use Rattle.std.specs.List.{AllByRecursion, flat_map}
use Rattle.mr_bytes.specs.Pairs.{Triple}
use Rattle.mr_spill.specs.Groups.{nth_group, pairs_of}
use Rattle.mr_spill.specs.Spelling.{PairFits, header, pair_bytes}
use Rattle.mr_spill.proofs.SealedLemmas.{all-append, groups-more, groups-none}
use Rattle.mr_spill.proofs.sealed.spelled.Goals as goal

pub loop-g-preserved : goal.loop-g-preserved
loop-g-preserved c =
    let before : List Triple = flat_map pairs_of (slice_range c.args.groups.now c.args.range.0 c.loop-g.g) in
    let here : List Triple = (nth_group c.args.groups.now c.loop-g.g).pairs in
    let first : List ℕ = header c.args.split c.args.part (length (flat_map pairs_of (slice_range c.args.groups.now c.args.range.0 c.args.range.1))) in
    let more : flat_map pairs_of (slice_range c.args.groups.now c.args.range.0 (c.loop-g.g + 1)) ≡ before ++ here =
    groups-more c.args.groups.now c.args.range.0 c.loop-g.g c.loop-g.auto.g (omega (arith, c.loop-g-test.true, c.requires.within)) in
    record {
      text = c.in_ok-spell_group.ensures.text
          ∙ ap (λ (l : List ℕ). l ++ flat_map pair_bytes here) c.loop-g.invariant.text
          ∙ append_assoc first (flat_map pair_bytes before) (flat_map pair_bytes here)
          ∙ ap (λ (l : List ℕ). first ++ l) (sym (flat_map-append pair_bytes before here) ∙ ap (flat_map pair_bytes) (sym more));
      fit = subst (AllByRecursion PairFits) (sym more) (all-append PairFits before here c.loop-g.invariant.fit c.in_ok-spell_group.ensures.fit);
    }

pub loop-g-init : goal.loop-g-init
loop-g-init c =
    let first : List ℕ = header c.args.split c.args.part (length (flat_map pairs_of (slice_range c.args.groups.now c.args.range.0 c.args.range.1))) in
    record {
      text = c.in_ok-put_header.ensures
          ∙ ap (λ (l : List ℕ). l ++ header c.args.split c.args.part c.in_ok-count.count) c.in_ok-text.ensures.items
          ∙ ap (header c.args.split c.args.part) c.in_ok-count.ensures
          ∙ sym (append-nil first) ∙ ap (λ (ts : List Triple). first ++ flat_map pair_bytes ts) (sym (groups-none c.args.groups.now c.args.range.0));
      fit = subst (AllByRecursion PairFits) (sym (groups-none c.args.groups.now c.args.range.0)) tt;
    }

pub returns : goal.returns
returns c =
    let all : List Triple = flat_map pairs_of (slice_range c.args.groups.now c.args.range.0 c.args.range.1) in
    let end : c.loop-g.g ≡ c.args.range.1 = omega (arith, c.loop-g-test.false, c.loop-g.auto.g-end c.requires.order) in
    let first : List ℕ = header c.args.split c.args.part (length all) in
    record {
      is = c.loop-g.invariant.text ∙ ap (λ (n : ℕ). first ++ flat_map pair_bytes (flat_map pairs_of (slice_range c.args.groups.now c.args.range.0 n))) end;
      fit = subst (λ (n : ℕ). AllByRecursion PairFits (flat_map pairs_of (slice_range c.args.groups.now c.args.range.0 n))) end c.loop-g.invariant.fit;
      few = omega (arith, c.in_ok-count.ensures, c.ranges.split.fits);
    }
