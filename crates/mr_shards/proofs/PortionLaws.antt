-- The merged groups of portions are those of the whole.
use Rattle.std.proofs.Common.{◌≡◌, ℕ, List, [], ◌∷◌, ◌++◌, false, map, refl, sym, ◌∙◌, ap}
use Rattle.mr_bytes.specs.Pairs.{Triple}
use Rattle.mr_jobs.specs.JobSpec.{RequestSpec}
use Rattle.mr_jobs.specs.Emissions.{Emission}
use Rattle.mr_sequential.specs.Rules.{part}
use Rattle.mr_sequential.specs.Emitted.{emitted}
use Rattle.mr_shards.specs.Merged.{Group, group_for, merged, texts}
use Rattle.mr_shards.specs.Portions.{Portion, Part, Shift, merged_portions, part_of, shifted_group, whole_of, shift_of}
use Rattle.mr_shards.specs.Spots.{left_out_of}
use Rattle.mr_shards.specs.PortionLaws.{MergedIsWhole, OutputsAreTexts, pairs_of, shifted_pair}
use Rattle.mr_shards.proofs.LeftOutLemmas.{flags-whole}
use Rattle.mr_shards.proofs.GroupLemmas.{groups-both, groups-pairs, groups-shifted, groups_in}
use Rattle.std.specs.List.{flat_map}
use Rattle.mr_bytes.specs.declared.Value.{Value}
use Rattle.mr_reduce.specs.Text.{text_of}
use Rattle.mr_sequential.specs.Sequential.{keys_of, values_of}
use Rattle.mr_shards.proofs.EmissionLemmas.{all_pairs, emitted-all}

text-told : (text : List ℕ → List Value → List ℕ) (ts : List Triple) (ks : List (List ℕ))
    → flat_map (λ k. text k (values_of ts k)) ks ≡ flat_map (λ (g : Group). text g.key g.values) (map (group_for ts) ks)
text-told text ts [] = refl
text-told text ts (k ∷ ks) = ap (λ l. text k (values_of ts k) ++ l) (text-told text ts ks)

pub outputs_are_texts : OutputsAreTexts
outputs_are_texts request p s =
    let ts : List Triple = emitted request.job request.split s.files s.skips in
    text-told (text_of request.job) ts (keys_of (part request) (map (λ (t : Triple). t.key) ts) p)

-- the groups of all pairs are the merged groups of the portions
groups-all : (request : RequestSpec) (portions : List Portion) (p : ℕ)
    → groups_in (part request) (all_pairs request.job request.split portions) p ≡ merged_portions (map (part_of request p) portions)
groups-all request [] p = refl
groups-all request (s ∷ ss) p =
    let chosen : List ℕ → ℕ = part request in
    let ts : List Triple = emitted request.job request.split s.files s.skips in
    let later : List Emission = all_pairs request.job request.split ss in
    let h : Shift = shift_of s in
    let a : Part = part_of request p s in
    groups-both chosen (pairs_of ts) (map (shifted_pair h) later) p
    ∙ ap (λ gs. merged gs (groups_in chosen (map (shifted_pair h) later) p)) (groups-pairs chosen ts p)
    ∙ ap (merged a.groups) (groups-shifted chosen h later p)
    ∙ ap (λ gs. merged a.groups (map (shifted_group h) gs)) (groups-all request ss p)

pub merged_is_whole : MergedIsWhole
merged_is_whole request portions p some cut =
    let chosen : List ℕ → ℕ = part request in
    let ts : List Triple = emitted request.job request.split (whole_of portions) (left_out_of request.split portions) in
    sym (
    outputs_are_texts request p (record { cut = false; files = whole_of portions; skips = left_out_of request.split portions })
    ∙ ap (texts request.job)
    (sym (groups-pairs chosen ts p)
    ∙ ap (λ es. groups_in chosen es p) (emitted-all request.job request.split portions (left_out_of request.split portions) cut (flags-whole request.split portions some cut))
    ∙ groups-all request portions p))
