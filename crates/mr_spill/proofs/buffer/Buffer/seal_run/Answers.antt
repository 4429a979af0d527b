use Rattle.std.proofs.Common.{◌≡◌, ℕ, List, map, get_or, refl, ap, sym, ◌∙◌, subst, arith, []}
use Rattle.std.proofs.lemmas.List.{length-map}
use Rattle.std.specs.List.{AllByRecursion}
use Rattle.mr_bytes.specs.Pairs.{Triple}
use Rattle.mr_partition.specs.Hosts.{partition_by}
use Rattle.mr_spill.specs.Buffer.{Buffered}
use Rattle.mr_spill.specs.Regions.{region}
use Rattle.mr_spill.specs.Sealed.{IsText, RunText, SpellsRun}
use Rattle.mr_spill.proofs.RegionLaws.{names-under}
use Rattle.mr_spill.proofs.SealedLemmas.{region-spells}
use Rattle.mr_spill.proofs.buffer.Buffer.seal_run.Goals as goal

pub cut_pairs-requires-clause-rise : goal.cut_pairs-requires-clause-rise
cut_pairs-requires-clause-rise c = names-under c.self.inside.pairs c.self.invariant.rise

pub spelled_all-requires : goal.spelled_all-requires
spelled_all-requires c = record { few = omega (arith, c.in_ok-cut.ensures.count, c.ranges.parts.fits); within = c.in_ok-cut.ensures.within }

pub returns-clause-ok : goal.returns-clause-ok
returns-clause-ok c =
    let ts : List Triple = c.self.inside.pairs in
    let split : ℕ = c.args.split in
    let parts : ℕ = c.args.parts in
    let part : List ℕ → ℕ = λ k. partition_by c.args.by k parts in
    let same : ts ≡ c.args.self.now.pairs = ap (λ (b : Buffered). b.pairs) c.self.view_is in
    let own : AllByRecursion (λ (t : Triple). t.name.split ≡ split) ts = subst (AllByRecursion (λ (t : Triple). t.name.split ≡ split)) (sym same) c.requires.own in
    let texts : List (List ℕ) = map (λ b. b.items) c.in_ok-regions.regions.items in
    let run : RunText = record { split = split; regions = texts } in
    subst (λ (us : List Triple). SpellsRun run split parts (region part us)) same
    (record {
      own = refl;
      count = length-map c.in_ok-regions.regions.items (λ b. b.items) ∙ c.in_ok-regions.ensures.count ∙ c.in_ok-cut.ensures.count;
      each = λ p h. region-spells part ts split p (get_or texts p []) own
          (subst (λ (us : List Triple). IsText split p us (get_or texts p [])) (c.in_ok-cut.ensures.each p h)
          (c.in_ok-regions.ensures.each p (omega (arith, h, c.in_ok-cut.ensures.count))));
    })
