-- Groups whose lines are alike, merged and moved.
use Rattle.std.proofs.Common.{◌≡◌, ℕ, ◌+◌, List, [], ◌∷◌, ◌++◌, map, refl, sym, ◌∙◌, ap, subst, inl, inr}
use Rattle.std.proofs.lemmas.Grind.{flat_map-append}
use Rattle.std.specs.List.{flat_map}
use Rattle.std.specs.Ordering.{match_ordering}
use Rattle.std.specs.declared.cmp.Ordering.{Ordering}
use Rattle.std.specs.declared.cmp.Ordering.TheVariants.{Less, Equal, Greater}
use Rattle.mr_bytes.specs.declared.Value.{Value}
use Rattle.mr_bytes.specs.Lists.{Has}
use Rattle.mr_bytes.specs.Order.{key_order}
use Rattle.mr_bytes.proofs.ListLaws.{Has-append_cases, Has-append_left, Has-append_right, Has-map, Has-map_from, same_rising}
use Rattle.mr_jobs.specs.declared.job.GroupText.TheVariants.{Files}
use Rattle.mr_reduce.specs.Text.{file_in, files_line, files_of}
use Rattle.mr_reduce.proofs.FileLemmas.{files_rise}
use Rattle.std.proofs.lemmas.Cmp.{nat_cmp_total}
use Rattle.mr_shards.specs.Merged.{Group, joined, merged, texts_for, with_group}
use Rattle.mr_shards.specs.Portions.{Part, Shift, merged_portions, shifted_group, shifted_value}
use Rattle.mr_shards.specs.Lines.{places_in}
use Rattle.mr_shards.proofs.FileNumberLemmas.{files-shifted, sorted-in, told-in}

-- values with the same files
pub record HaveSameFiles (vs ws : List Value) : Type 0 where
  pub there : (f : ℕ) → Has (flat_map file_in vs) f → Has (flat_map file_in ws) f
  pub back : (f : ℕ) → Has (flat_map file_in ws) f → Has (flat_map file_in vs) f

abbrev pub AreAlike : List Group → List Group → Type 0
AreAlike [] [] = Unit {0}
AreAlike [] (h ∷ hs) = ⊥
AreAlike (g ∷ gs) [] = ⊥
AreAlike (g ∷ gs) (h ∷ hs) = (g.key ≡ h.key) × HaveSameFiles g.values h.values × AreAlike gs hs

alike-append : (vs vs' ws ws' : List Value) → HaveSameFiles vs vs' → HaveSameFiles ws ws' → HaveSameFiles (vs ++ ws) (vs' ++ ws')
alike-append vs vs' ws ws' a b = record {
  there = λ f h. subst (λ l. Has l f) (sym (flat_map-append file_in vs' ws'))
      (elim (Has-append_cases (flat_map file_in vs) (flat_map file_in ws) f (subst (λ l. Has l f) (flat_map-append file_in vs ws) h)) [
        | inl x ↦ Has-append_left (flat_map file_in vs') (flat_map file_in ws') f (a.there f x)
        | inr y ↦ Has-append_right (flat_map file_in vs') (flat_map file_in ws') f (b.there f y)
      ]);
  back = λ f h. subst (λ l. Has l f) (sym (flat_map-append file_in vs ws))
      (elim (Has-append_cases (flat_map file_in vs') (flat_map file_in ws') f (subst (λ l. Has l f) (flat_map-append file_in vs' ws') h)) [
        | inl x ↦ Has-append_left (flat_map file_in vs) (flat_map file_in ws) f (a.back f x)
        | inr y ↦ Has-append_right (flat_map file_in vs) (flat_map file_in ws) f (b.back f y)
      ]);
}

shifted-has : (s : Shift) (vs ws : List Value) (f : ℕ) → ((g : ℕ) → Has (flat_map file_in vs) g → Has (flat_map file_in ws) g)
    → Has (flat_map file_in (map (shifted_value s) vs)) f → Has (flat_map file_in (map (shifted_value s) ws)) f
shifted-has s vs ws f there h =
    let w = Has-map_from (λ g. s.files + g) (flat_map file_in vs) f (subst (λ l. Has l f) (files-shifted s vs) h) in
    subst (λ l. Has l f) (sym (files-shifted s ws)) (subst (Has (map (λ g. s.files + g) (flat_map file_in ws))) w.2 (Has-map (λ g. s.files + g) (flat_map file_in ws) w.0 (there w.0 w.1)))

alike-shifted : (s : Shift) (gs hs : List Group) → AreAlike gs hs → AreAlike (map (shifted_group s) gs) (map (shifted_group s) hs)
alike-shifted s [] [] a = tt
alike-shifted s [] (h ∷ hs) a = absurd a
alike-shifted s (g ∷ gs) [] a = absurd a
alike-shifted s (g ∷ gs) (h ∷ hs) a = (
  a.0,
  record { there = λ f k. shifted-has s g.values h.values f a.1.there k; back = λ f k. shifted-has s h.values g.values f a.1.back k },
  alike-shifted s gs hs a.2,
)

alike-with : (g h : Group) (gs hs : List Group) → g.key ≡ h.key → HaveSameFiles g.values h.values → AreAlike gs hs → AreAlike (with_group g gs) (with_group h hs)
alike-with g h [] [] e a all = (e, a, tt)
alike-with g h [] (y ∷ ys) e a all = absurd all
alike-with g h (x ∷ xs) [] e a all = absurd all
alike-with g h (x ∷ xs) (y ∷ ys) e a all =
    subst (λ o. AreAlike (match_ordering (key_order g.key x.key) (g ∷ x ∷ xs) (joined g x ∷ xs) (x ∷ with_group g xs)) (match_ordering o (h ∷ y ∷ ys) (joined h y ∷ ys) (y ∷ with_group h ys)))
    (ap (λ k. key_order k x.key) e ∙ ap (key_order h.key) all.0)
    (by (key_order g.key x.key) (alike-with g h xs ys e a all.2))
  where
    by : (o : Ordering) → AreAlike (with_group g xs) (with_group h ys)
        → AreAlike (match_ordering o (g ∷ x ∷ xs) (joined g x ∷ xs) (x ∷ with_group g xs)) (match_ordering o (h ∷ y ∷ ys) (joined h y ∷ ys) (y ∷ with_group h ys))
    by Less rest = (e, a, all)
    by Equal rest = (e, alike-append g.values h.values x.values y.values a all.1, all.2)
    by Greater rest = (all.0, all.1, rest)

alike-merged : (xs ys gs hs : List Group) → AreAlike xs ys → AreAlike gs hs → AreAlike (merged xs gs) (merged ys hs)
alike-merged [] [] gs hs a all = all
alike-merged [] (b ∷ qs) gs hs a all = absurd a
alike-merged (a ∷ ps) [] gs hs x all = absurd x
alike-merged (a ∷ ps) (b ∷ qs) gs hs x all = alike-with a b (merged ps gs) (merged qs hs) x.0 x.1 (alike-merged ps qs gs hs x.2 all)

-- parts of the same files, with groups that are alike
abbrev pub AreLikeParts : List Part → List Part → Type 0
AreLikeParts [] [] = Unit {0}
AreLikeParts [] (b ∷ qs) = ⊥
AreLikeParts (a ∷ ps) [] = ⊥
AreLikeParts (a ∷ ps) (b ∷ qs) = (a.shift ≡ b.shift) × AreAlike a.groups b.groups × AreLikeParts ps qs

pub alike-portions : (ps qs : List Part) → AreLikeParts ps qs → AreAlike (merged_portions ps) (merged_portions qs)
alike-portions [] [] x = tt
alike-portions [] (b ∷ qs) x = absurd x
alike-portions (a ∷ ps) [] x = absurd x
alike-portions (a ∷ ps) (b ∷ qs) x =
    let s : Shift = a.shift in
    subst (λ t. AreAlike (merged a.groups (map (shifted_group s) (merged_portions ps))) (merged b.groups (map (shifted_group t) (merged_portions qs)))) x.0
    (alike-merged a.groups b.groups (map (shifted_group s) (merged_portions ps)) (map (shifted_group s) (merged_portions qs)) x.1
    (alike-shifted s (merged_portions ps) (merged_portions qs) (alike-portions ps qs x.2)))

same-files : (vs ws : List Value) → HaveSameFiles vs ws → files_of vs ≡ files_of ws
same-files vs ws a =
    same_rising nat_cmp_total (files_of vs) (files_of ws) (files_rise vs) (files_rise ws)
    (λ f h. sorted-in ws f (a.there f (told-in vs f h))) (λ f h. sorted-in vs f (a.back f (told-in ws f h)))

pub alike-texts : (gs hs : List Group) → AreAlike gs hs → texts_for Files gs ≡ texts_for Files hs
alike-texts [] [] a = refl
alike-texts [] (h ∷ hs) a = absurd a
alike-texts (g ∷ gs) [] a = absurd a
alike-texts (g ∷ gs) (h ∷ hs) a =
    ap (λ k. files_line k (files_of g.values) ++ texts_for Files gs) a.0
    ∙ ap (λ fs. files_line h.key fs ++ texts_for Files gs) (same-files g.values h.values a.1)
    ∙ ap (λ l. files_line h.key (files_of h.values) ++ l) (alike-texts gs hs a.2)

files-of_places : (fs : List ℕ) → flat_map file_in (places_in fs) ≡ fs
files-of_places [] = refl
files-of_places (f ∷ fs) = ap (λ l. f ∷ l) (files-of_places fs)

-- a place in each file that values tell, and the values
pub places-alike : (vs : List Value) → HaveSameFiles (places_in (files_of vs)) vs
places-alike vs = record {
  there = λ f h. told-in vs f (subst (λ l. Has l f) (files-of_places (files_of vs)) h);
  back = λ f h. subst (λ l. Has l f) (sym (files-of_places (files_of vs))) (sorted-in vs f h);
}
