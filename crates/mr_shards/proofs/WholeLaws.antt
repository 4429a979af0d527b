-- The groups of judged portions have lines, and what the text of lines of places is.
use Rattle.std.proofs.Common.{◌≡◌, ℕ, suc, ◌<◌, ◌≤◌, ◌^◌, ◌++◌, List, [], ◌∷◌, length, refl, ap, sym, ◌∙◌, subst, inl, inr, ◌⊎◌, arith, Bool, true, false, cond, map}
use Rattle.std.proofs.lemmas.List.{append-nil}
use Rattle.std.specs.List.{AllByRecursion, flat_map}
use Rattle.std.specs.Str.{bytes_eq}
use Rattle.mr_bytes.specs.declared.Value.{Value}
use Rattle.mr_bytes.specs.Lists.{Has}
use Rattle.mr_jobs.specs.JobSpec.{RequestSpec, group_text_of}
use Rattle.mr_jobs.specs.declared.job.GroupText.{GroupText}
use Rattle.mr_jobs.specs.declared.job.GroupText.TheVariants.{Lines}
use Rattle.mr_bytes.specs.Cut.{Lacks}
use Rattle.mr_reduce.specs.Text.{place_line}
use Rattle.mr_bytes.specs.Pairs.{Triple}
use Rattle.mr_sequential.specs.Emitted.{emitted}
use Rattle.mr_sequential.specs.Rules.{part}
use Rattle.mr_sequential.specs.Sequential.{keys_of, triples_with, values_of}
use Rattle.mr_sequential.proofs.KeyLaws.{bytes_eq-same, keys_rise}
use Rattle.mr_bytes.proofs.ListLaws.{all_from_Has, Has-map_from}
use Rattle.mr_sequential.proofs.SourceLemmas.{flat_map-append}
use Rattle.mr_shards.specs.Merged.{Group, group_for, group_text_for, texts_for, with_group, merged}
use Rattle.mr_shards.specs.Outputs.{IsJudged}
use Rattle.mr_shards.specs.Portions.{Portion, part_of}
use Rattle.mr_shards.proofs.PairLemmas.{IsFinePair, IsCounted, pairs-fine}

-- ---- the values of a key

-- each triple of the key is one of them
with-Has : (ts : List Triple) (k : List ℕ) (t : Triple) → Has (triples_with ts k) t → Has ts t
with-Has [] k t h = absurd h
with-Has (u ∷ ts) k t h = by (bytes_eq u.key k) h (with-Has ts k t)
  where
    by : (b : Bool) → Has (cond b (u ∷ triples_with ts k) (triples_with ts k)) t → (Has (triples_with ts k) t → Has ts t) → (u ≡ t) ⊎ Has ts t
    by true (inl e) rest = inl e
    by true (inr a) rest = inr (rest a)
    by false a rest = inr (rest a)

-- where a triple has the key, there is a value
some-value : (ts : List Triple) (k : List ℕ) (t : Triple) → Has ts t → t.key ≡ k → 0 < length (values_of ts k)
some-value [] k t h e = absurd h
some-value (u ∷ ts) k t (inl is) e =
    subst (λ (b : Bool). 0 < length (map (λ (v : Triple). v.value) (cond b (u ∷ triples_with ts k) (triples_with ts k))))
    (sym (ap (λ (q : List ℕ). bytes_eq q k) (ap (λ (v : Triple). v.key) is ∙ e) ∙ bytes_eq-same k)) (omega arith)
some-value (u ∷ ts) k t (inr h) e = by (bytes_eq u.key k) (some-value ts k t h e)
  where
    by : (b : Bool) → 0 < length (values_of ts k) → 0 < length (map (λ (v : Triple). v.value) (cond b (u ∷ triples_with ts k) (triples_with ts k)))
    by true rest = omega arith
    by false rest = rest

few-values : (ts : List Triple) (k : List ℕ) → length (values_of ts k) ≤ length ts
few-values [] k = omega arith
few-values (u ∷ ts) k = by (bytes_eq u.key k) (few-values ts k)
  where
    by : (b : Bool) → length (values_of ts k) ≤ length ts → length (map (λ (v : Triple). v.value) (cond b (u ∷ triples_with ts k) (triples_with ts k))) ≤ suc (length ts)
    by true h = omega arith
    by false h = omega (arith, h)

-- a group of fine pairs: its key has no line feed, its values can be counted, and there are some
pub record IsFineGroup (form : GroupText) (g : Group) : Type 0 where
  pub clear : Lacks 10 g.key
  pub some : 0 < length g.values
  pub few : length g.values < 2 ^ 64
  pub values : AllByRecursion (IsCounted form) g.values

fine-group : (form : GroupText) (ts : List Triple) (k : List ℕ) → ((t : Triple) → Has ts t → IsFinePair form t) → length ts < 2 ^ 64 → Has (map (λ (t : Triple). t.key) ts) k → IsFineGroup form (group_for ts k)
fine-group form ts k fine few h =
    let w = Has-map_from (λ (t : Triple). t.key) ts k h in
    record {
      clear = subst (Lacks 10) w.2 (fine w.0 w.1).clear;
      some = some-value ts k w.0 w.1 w.2;
      few = omega (arith, few, few-values ts k);
      values = all_from_Has (IsCounted form) (values_of ts k)
          (λ v a. (let u = Has-map_from (λ (t : Triple). t.value) (triples_with ts k) v a in subst (IsCounted form) u.2 (fine u.0 (with-Has ts k u.0 u.1)).value_is));
    }

pub groups-fine : (request : RequestSpec) (s : Portion) (p : ℕ) → 0 < request.split → IsJudged request s → AllByRecursion (IsFineGroup (group_text_of request.job)) (part_of request p s).groups
groups-fine request s p some judged =
    let ts : List Triple = emitted request.job request.split s.files s.skips in
    let ks : List (List ℕ) = keys_of (part request) (map (λ (t : Triple). t.key) ts) p in
    all_from_Has (IsFineGroup (group_text_of request.job)) (map (group_for ts) ks)
    (λ g h. (let w = Has-map_from (group_for ts) ks g h in
    subst (IsFineGroup (group_text_of request.job)) w.2 (fine-group (group_text_of request.job) ts w.0 (λ t a. pairs-fine request s t some judged a) judged.few_pairs (((keys_rise (part request) (map (λ (t : Triple). t.key) ts) p).1 w.0).0 w.1).0)))

-- ---- the lines of groups: of a total one for each group, of places one for each value

unfoldable pub one-each : List ℕ → List Value → List Group
one-each k [] = []
one-each k (v ∷ vs) = record { key = k; values = v ∷ [] } ∷ one-each k vs

each-text : (k : List ℕ) (vs : List Value) → texts_for Lines (one-each k vs) ≡ flat_map (place_line k) vs
unfolding one-each
each-text k [] = refl
each-text k (v ∷ vs) = ap (λ (l : List ℕ). l ++ texts_for Lines (one-each k vs)) (append-nil (place_line k v)) ∙ ap (λ (l : List ℕ). place_line k v ++ l) (each-text k vs)

pub all-texts : (gs : List Group) → texts_for Lines (flat_map (λ (g : Group). one-each g.key g.values) gs) ≡ texts_for Lines gs
all-texts [] = refl
all-texts (g ∷ gs) =
    flat_map-append (group_text_for Lines) (one-each g.key g.values) (flat_map (λ (h : Group). one-each h.key h.values) gs)
    ∙ ap (λ (l : List ℕ). l ++ texts_for Lines (flat_map (λ (h : Group). one-each h.key h.values) gs)) (each-text g.key g.values)
    ∙ ap (λ (l : List ℕ). flat_map (place_line g.key) g.values ++ l) (all-texts gs)

-- ---- lines merge as their groups do

pub merged-append : (xs ys hs : List Group) → merged (xs ++ ys) hs ≡ merged xs (merged ys hs)
merged-append [] ys hs = refl
merged-append (x ∷ xs) ys hs = ap (with_group x) (merged-append xs ys hs)
