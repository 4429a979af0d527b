-- The lines of the portions' outputs, merged, are the output of the whole.
use Rattle.std.proofs.Common.{◌≡◌, ℕ, ◌<◌, ◌^◌, List, [], ◌∷◌, ◌++◌, length, map, replicate, refl, sym, ◌∙◌, ap, subst, arith, inl, inr}
use Rattle.std.specs.List.{AllByRecursion, flat_map}
use Rattle.mr_bytes.specs.declared.Value.{Value}
use Rattle.mr_bytes.specs.declared.Value.TheVariants.{One, At}
use Rattle.mr_bytes.specs.Cut.{Lacks}
use Rattle.mr_bytes.specs.Lists.{Has, Rises}
use Rattle.mr_bytes.specs.Order.{key_order}
use Rattle.mr_bytes.proofs.ListLaws.{Has-all, Has-flat_map_from, all_from_Has}
use Rattle.mr_shards.specs.declared.merger.ShardText.{ShardText}
use Rattle.mr_jobs.specs.JobSpec.{JobSpec, RequestSpec, group_text_of}
use Rattle.mr_jobs.specs.declared.job.GroupText.{GroupText}
use Rattle.mr_jobs.specs.declared.job.GroupText.TheVariants.{Count, Lines, Files}
use Rattle.mr_reduce.specs.Text.{file_in, files_line, files_of}
use Rattle.mr_sequential.specs.Sequential.{sequential}
use Rattle.mr_shards.specs.Lines.{HasLine, groups_for, groups_in, places_in}
use Rattle.mr_shards.specs.Merged.{Group, merged, texts, texts_for, with_group}
use Rattle.mr_shards.proofs.MergedLaws.{keys, merged-rise}
use Rattle.mr_shards.proofs.MergeLemmas.{with_group-joined}
use Rattle.mr_shards.proofs.PairLemmas.{IsCounted}
use Rattle.mr_shards.proofs.ReadingLemmas.{groups-read, index-line, none-read}
use Rattle.mr_shards.proofs.WholeLaws.{IsFineGroup, all-texts, groups-fine, merged-append, one-each}
use Rattle.mr_shards.specs.Portions.{Part, Portion, Shift, merged_portions, part_of, shift_of, shifted_group}
use Rattle.mr_shards.specs.PortionLines.{LinesAreWhole, part_read}
use Rattle.mr_shards.proofs.AlikeLemmas.{AreAlike, AreLikeParts, alike-portions, alike-texts, places-alike}
use Rattle.mr_shards.proofs.FileNumberLemmas.{sorted-in, told-in}
use Rattle.mr_shards.proofs.PortionLaws.{merged_is_whole, outputs_are_texts}
use Rattle.mr_shards.specs.Outputs.{AreOutputsOf, IsJudged, IsOutputOfAll, parts_in}
use Rattle.mr_shards.proofs.ShiftLemmas.{shifted-rise}

-- ---- the groups that the lines of groups tell

abbrev files_read : Group → Group
files_read g = record { key = g.key; values = places_in (files_of g.values) }

abbrev read_groups : GroupText → List Group → List Group
read_groups Count gs = gs
read_groups Lines gs = flat_map (λ (g : Group). one-each g.key g.values) gs
read_groups Files gs = map files_read gs

ones : (vs : List Value) → AllByRecursion (λ v. v ≡ One) vs → vs ≡ replicate (length vs) One
ones [] all = refl
ones (v ∷ vs) all = let here = all.0 in let rest = ones vs all.1 in λ i. here i ∷ rest i

count-lines : (gs : List Group) → AllByRecursion (IsFineGroup Count) gs → AllByRecursion (HasLine Count) gs
count-lines [] all = tt
count-lines (g ∷ gs) all = ((all.0.clear, all.0.few, ones g.values all.0.values), count-lines gs all.1)

each-line : (k : List ℕ) (vs : List Value) → Lacks 10 k → AllByRecursion (IsCounted Lines) vs → AllByRecursion (HasLine Lines) (one-each k vs)
unfolding one-each
each-line k [] clear all = tt
each-line k (v ∷ vs) clear all = let w = all.0 in ((clear, (w.0, w.1, w.2, w.3, ap (λ (u : Value). u ∷ []) w.4)), each-line k vs clear all.1)

all-append : {X : Type 0} (P : X → Type 0) (xs ys : List X) → AllByRecursion P xs → AllByRecursion P ys → AllByRecursion P (xs ++ ys)
all-append P [] ys a b = b
all-append P (x ∷ xs) ys a b = (a.0, all-append P xs ys a.1 b)

place-lines : (gs : List Group) → AllByRecursion (IsFineGroup Lines) gs → AllByRecursion (HasLine Lines) (flat_map (λ (g : Group). one-each g.key g.values) gs)
place-lines [] all = tt
place-lines (g ∷ gs) all =
    all-append (HasLine Lines) (one-each g.key g.values) (flat_map (λ (h : Group). one-each h.key h.values) gs)
    (each-line g.key g.values all.0.clear all.0.values) (place-lines gs all.1)

has-some : (xs : List ℕ) (x : ℕ) → Has xs x → (n : ℕ) × (ns : List ℕ) × (xs ≡ n ∷ ns)
has-some [] x h = absurd h
has-some (n ∷ ns) x h = (n, ns, refl)

files-some : (vs : List Value) → 0 < length vs → AllByRecursion (IsCounted Files) vs → (n : ℕ) × (ns : List ℕ) × (files_of vs ≡ n ∷ ns)
files-some [] some all = absurd (omega (arith, some))
files-some (v ∷ vs) some all =
    let w = all.0 in
    has-some (files_of (v ∷ vs)) w.0 (sorted-in (v ∷ vs) w.0 (subst (λ u. Has (flat_map file_in (u ∷ vs)) w.0) (sym w.4) (inl refl)))

files-small : (vs : List Value) → AllByRecursion (IsCounted Files) vs → AllByRecursion (λ f. f < 2 ^ 64) (files_of vs)
files-small vs all =
    all_from_Has (λ f. f < 2 ^ 64) (files_of vs)
    (λ f h. (let t = Has-flat_map_from file_in vs f (told-in vs f h) in
    let w = Has-all (IsCounted Files) vs t.0 all t.1 in
    one f w.0 w.1 w.2 (subst (λ u. Has (file_in u) f) w.4 t.2)))
  where
    one : (f file offset : ℕ) → file < 2 ^ 64 → Has (file_in (At file offset)) f → f < 2 ^ 64
    one f file offset small (inl e) = subst (λ k. k < 2 ^ 64) e small
    one f file offset small (inr none) = absurd none

index-read : (gs : List Group) → AllByRecursion (IsFineGroup Files) gs → groups_for Files (texts_for Files gs) ≡ map files_read gs
index-read [] all = none-read Files
index-read (g ∷ gs) all =
    let some = files-some g.values all.0.some all.0.values in
    let is : files_of g.values ≡ some.0 ∷ some.1 = some.2 in
    let small : AllByRecursion (λ f. f < 2 ^ 64) (some.0 ∷ some.1) = subst (AllByRecursion (λ f. f < 2 ^ 64)) is (files-small g.values all.0.values) in
    ap (λ fs. groups_for Files (files_line g.key fs ++ texts_for Files gs)) is
    ∙ index-line g.key some.0 some.1 (texts_for Files gs) all.0.clear small
    ∙ ap (λ fs. record { key = g.key; values = places_in fs } ∷ groups_for Files (texts_for Files gs)) (sym is)
    ∙ ap (λ l. files_read g ∷ l) (index-read gs all.1)

-- ---- the text of groups is read as what their lines tell

texts-read : (form : GroupText) (gs : List Group) → AllByRecursion (IsFineGroup form) gs → groups_for form (texts_for form gs) ≡ read_groups form gs
texts-read Count gs all = groups-read Count gs (count-lines gs all)
texts-read Lines gs all = ap (groups_for Lines) (sym (all-texts gs)) ∙ groups-read Lines (flat_map (λ (g : Group). one-each g.key g.values) gs) (place-lines gs all)
texts-read Files gs all = index-read gs all

-- ---- lines merge as their groups do

merged-each : (k : List ℕ) (v : Value) (vs : List Value) (hs : List Group) → Rises key_order (keys hs)
    → merged (one-each k (v ∷ vs)) hs ≡ with_group (record { key = k; values = v ∷ vs }) hs
unfolding one-each
merged-each k v [] hs rise = refl
merged-each k v (w ∷ ws) hs rise =
    ap (with_group (record { key = k; values = v ∷ [] })) (merged-each k w ws hs rise)
    ∙ with_group-joined (record { key = k; values = v ∷ [] }) (record { key = k; values = w ∷ ws }) hs refl rise

merged-group : (g : Group) (hs : List Group) → 0 < length g.values → Rises key_order (keys hs) → merged (one-each g.key g.values) hs ≡ with_group g hs
merged-group g hs some rise = by g.values refl some
  where
    by : (vs : List Value) → g.values ≡ vs → 0 < length vs → merged (one-each g.key g.values) hs ≡ with_group g hs
    by [] e h = absurd (omega (arith, h))
    by (v ∷ vs) e h =
        ap (λ (us : List Value). merged (one-each g.key us) hs) e ∙ merged-each g.key v vs hs rise
        ∙ (λ i. with_group (record { key = g.key; values = sym e i }) hs)

merged-places : (gs hs : List Group) → AllByRecursion (IsFineGroup Lines) gs → Rises key_order (keys hs)
    → merged (flat_map (λ (g : Group). one-each g.key g.values) gs) hs ≡ merged gs hs
merged-places [] hs all rise = refl
merged-places (g ∷ gs) hs all rise =
    merged-append (one-each g.key g.values) (flat_map (λ (h : Group). one-each h.key h.values) gs) hs
    ∙ ap (merged (one-each g.key g.values)) (merged-places gs hs all.1 rise)
    ∙ merged-group g (merged gs hs) all.0.some (merged-rise gs hs rise)

-- a part with what its lines tell
abbrev lines_part : GroupText → Part → Part
lines_part form a = record { shift = a.shift; groups = read_groups form a.groups }

abbrev AreFine : GroupText → Part → Type 0
AreFine form a = AllByRecursion (IsFineGroup form) a.groups

same-parts : (parts : List Part) → map (lines_part Count) parts ≡ parts
same-parts [] = refl
same-parts (a ∷ parts) = ap (λ ps. a ∷ ps) (same-parts parts)

places-whole : (parts : List Part) → AllByRecursion (AreFine Lines) parts → merged_portions (map (lines_part Lines) parts) ≡ merged_portions parts
places-whole [] fine = refl
places-whole (a ∷ parts) fine =
    let s : Shift = a.shift in
    ap (λ gs. merged (read_groups Lines a.groups) (map (shifted_group s) gs)) (places-whole parts fine.1)
    ∙ merged-places a.groups (map (shifted_group s) (merged_portions parts)) fine.0
    (shifted-rise s parts)

files-alike : (gs : List Group) → AreAlike (map files_read gs) gs
files-alike [] = tt
files-alike (g ∷ gs) = (refl, places-alike g.values, files-alike gs)

parts-alike : (parts : List Part) → AreLikeParts (map (lines_part Files) parts) parts
parts-alike [] = tt
parts-alike (a ∷ parts) = (refl, files-alike a.groups, parts-alike parts)

lines-merge : (form : GroupText) (parts : List Part) → AllByRecursion (AreFine form) parts
    → texts_for form (merged_portions (map (lines_part form) parts)) ≡ texts_for form (merged_portions parts)
lines-merge Count parts fine = ap (λ ps. texts_for Count (merged_portions ps)) (same-parts parts)
lines-merge Lines parts fine = ap (texts_for Lines) (places-whole parts fine)
lines-merge Files parts fine =
    alike-texts (merged_portions (map (lines_part Files) parts)) (merged_portions parts) (alike-portions (map (lines_part Files) parts) parts (parts-alike parts))

-- ---- all portions

part-lines : (request : RequestSpec) (p : ℕ) (s : Portion) → 0 < request.split → IsJudged request s → part_read request p s ≡ lines_part (group_text_of request.job) (part_of request p s)
part-lines request p s some judged =
    let form : GroupText = group_text_of request.job in
    let gs : List Group = (part_of request p s).groups in
    let here : groups_for form (sequential request s.files s.skips p) ≡ read_groups form gs =
    ap (groups_for form) (outputs_are_texts request p s)
    ∙ texts-read form gs (groups-fine request s p some judged) in
    λ i. record { shift = shift_of s; groups = here i }

parts-lines : (request : RequestSpec) (p : ℕ) (portions : List Portion) → 0 < request.split → AllByRecursion (IsJudged request) portions
    → map (part_read request p) portions ≡ map (lines_part (group_text_of request.job)) (map (part_of request p) portions)
parts-lines request p [] some judged = refl
parts-lines request p (s ∷ ss) some judged =
    let here = part-lines request p s some judged.0 in let rest = parts-lines request p ss some judged.1 in λ i. here i ∷ rest i

parts-fine : (request : RequestSpec) (p : ℕ) (portions : List Portion) → 0 < request.split → AllByRecursion (IsJudged request) portions
    → AllByRecursion (AreFine (group_text_of request.job)) (map (part_of request p) portions)
parts-fine request p [] some judged = tt
parts-fine request p (s ∷ ss) some judged =
    (groups-fine request s p some judged.0, parts-fine request p ss some judged.1)

pub lines_are_whole : LinesAreWhole
lines_are_whole request portions p some cut judged =
    ap (λ ps. texts request.job (merged_portions ps)) (parts-lines request p portions some judged)
    ∙ lines-merge (group_text_of request.job) (map (part_of request p) portions) (parts-fine request p portions some judged)
    ∙ merged_is_whole request portions p some cut

-- ---- outputs of shards

parts-are : (request : RequestSpec) (p : ℕ) (shards : List Portion) (os : List ShardText) → AreOutputsOf request p shards os
    → parts_in request.job os ≡ map (part_read request p) shards
parts-are request p [] [] outs = refl
parts-are request p [] (o ∷ os) outs = absurd outs
parts-are request p (s ∷ ss) [] outs = absurd outs
parts-are request p (s ∷ ss) (o ∷ os) outs =
    let shift = outs.0 in
    let groups = ap (groups_in request.job) outs.1 in
    let rest = parts-are request p ss os outs.2 in
    λ i. record { shift = shift i; groups = groups i } ∷ rest i

pub output-of_all : (job : JobSpec) (outputs : List ShardText) (text : List ℕ) → text ≡ texts job (merged_portions (parts_in job outputs)) → IsOutputOfAll job outputs text
output-of_all job outputs text is request shards p same some cut judged outs =
    is ∙ ap (λ (t : JobSpec). texts t (merged_portions (parts_in t outputs))) same
    ∙ ap (λ ps. texts request.job (merged_portions ps)) (parts-are request p shards outputs outs)
    ∙ lines_are_whole request shards p some cut judged
