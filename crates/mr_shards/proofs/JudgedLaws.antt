-- What a judge says yes to is a shard whose outputs can be merged, and of which its verdict is true.
use Rattle.std.proofs.Common.{◌≡◌, ℕ, ◌<◌, ◌^◌, List, [], ◌∷◌, length, refl, sym, ap, ◌∙◌, subst, arith}
use Rattle.std.proofs.lemmas.List.Sums.{sum_by-cons}
use Rattle.std.specs.List.{AllByRecursion}
use Rattle.mr_input.specs.Files.{total_size}
use Rattle.mr_sequential.specs.Emitted.{emitted}
use Rattle.mr_sequential.specs.Sequential.{sequential}
use Rattle.mr_shards.specs.Spots.{SkipsExist, spots_of}
use Rattle.mr_sequential.proofs.SourceLemmas.{emitted-count, few_pairs}
use Rattle.mr_shards.specs.Judged.{GoodIsJudged, StretchIsTrue}
use Rattle.mr_shards.specs.RangeNotes.{assembled}
use Rattle.mr_shards.specs.RangeVerdicts.{AreNotesOfRanges}
use Rattle.mr_shards.specs.Truth.{AreNotesOf, notes_for, ranges_for}
use Rattle.mr_shards.proofs.RangeLaws.{ranges_are_files}
use Rattle.mr_shards.proofs.StretchLemmas.{begin-zero, lines-end, notes-are}

small-files : (files : List (List ℕ)) → total_size files < 2 ^ 64 → AllByRecursion (λ f. length f < 2 ^ 64) files
small-files [] h = tt
small-files (f ∷ fs) h =
    let e = sum_by-cons (length {A = ℕ}) f fs in (omega (arith, e, h), small-files fs (omega (arith, e, h)))

pub good_is_judged : GoodIsJudged
good_is_judged request files outputs c few small good cut = record {
  skips_exist = good.skips_exist;
  few_pairs = omega (arith, few_pairs request.job c.skips request.split files few small, emitted-count request files c.skips);
  few_files = omega (arith, few);
  small_files = small-files files (omega (arith, small));
}

parts-are : (names files : List (List ℕ)) → length names ≡ length files → AreNotesOf (notes_for names files) files
parts-are [] [] e = tt
parts-are [] (f ∷ fs) e = absurd (cc e)
parts-are (n ∷ ns) [] e = absurd (cc e)
parts-are (n ∷ ns) (f ∷ fs) e = ((refl, refl), parts-are ns fs (omega (arith, e)))

-- each range is a file of its own, since only the first one may begin inside its file
pub true-of-stretch : StretchIsTrue
true-of-stretch request names files part_names outputs from ends skips pairs named parts_named rise exist count sequential_is all =
    let notes : AreNotesOfRanges (ranges_for names from files ends) files = notes-are names files from ends named in
    let whole : files ≡ assembled (ranges_for names from files ends) files =
    sym (ranges_are_files (ranges_for names from files ends) files notes (begin-zero names files from ends)) in
    record {
      asks = (refl, refl, refl, refl, refl);
      outputs_are = parts-are part_names outputs parts_named;
      of_ranges = record {
        notes = notes;
        lines = lines-end names files from ends named;
        skips = skips;
        rise = rise;
        exist = subst (λ fs. SkipsExist request.split fs skips) whole exist;
        spots = ap (λ fs. spots_of request.split fs skips) whole;
        count = count;
        sequential_is = λ p inside. sequential_is p inside ∙ ap (λ fs. sequential request fs skips p) whole;
        all = all ∙ ap (λ fs. length (emitted request.job request.split fs skips)) whole;
      };
    }
