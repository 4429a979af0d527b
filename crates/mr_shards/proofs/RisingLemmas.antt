-- The files of merged lines never fall, so an index may be written as its values come.
use Rattle.std.proofs.Common.{◌≡◌, ℕ, zero, suc, ◌+◌, ◌<◌, ◌≤◌, ◌++◌, List, [], ◌∷◌, refl, ap, sym, ◌∙◌, subst, inl, inr, Bool, true, false, not, cond, map, arith, Option, None, Some}
use Rattle.std.proofs.lemmas.List.{append-nil, append_assoc}
use Rattle.std.proofs.lemmas.Cmp.{nat_list_cmp_total, ranked}
use Rattle.std.specs.List.{AllByRecursion, flat_map}
use Rattle.std.specs.Ordering.{nat_cmp}
use Rattle.std.specs.Str.{bytes_eq}
use Rattle.std.specs.declared.cmp.Ordering.{Ordering}
use Rattle.std.specs.declared.cmp.Ordering.TheVariants.{Less, Equal, Greater}
use Rattle.mr_bytes.specs.declared.Value.{Value}
use Rattle.mr_bytes.specs.declared.Value.TheVariants.{One, At}
use Rattle.mr_bytes.specs.Lists.{Rises}
use Rattle.mr_bytes.specs.Order.{key_order}
use Rattle.mr_jobs.specs.JobSpec.{JobSpec, group_text_of, is_lines}
use Rattle.mr_jobs.specs.declared.job.GroupText.{GroupText}
use Rattle.mr_jobs.specs.declared.job.GroupText.TheVariants.{Count, Lines, Files}
use Rattle.mr_reduce.specs.Files.{NeverFalls, Tells}
use Rattle.mr_reduce.specs.Writing.{values_text}
use Rattle.mr_reduce.proofs.WritingLemmas.{rising-text}
use Rattle.mr_sequential.proofs.KeyLaws.{bytes_eq-is}
use Rattle.mr_shards.specs.declared.merger.ShardText.{ShardText}
use Rattle.mr_shards.specs.Merged.{Group, group_text_for, texts, texts_for, written, written_texts}
use Rattle.mr_shards.specs.Lines.{HasLine, groups_in, places_in}
use Rattle.mr_shards.specs.Outputs.{parts_in}
use Rattle.mr_shards.specs.Portions.{Shift, behind, merged_groups, merged_portions, no_shift, past_shard, shifted_group, shifted_parts, shifted_value}
use Rattle.mr_shards.specs.Refused.{AreInFiles, InTurn, IsShardText, MayFollow}
use Rattle.mr_shards.proofs.MergedLaws.{keys, merged-values, told, told-all, values-before, values_at}
use Rattle.mr_shards.proofs.MergeLemmas.{merged_groups-rise}
use Rattle.mr_shards.proofs.ReadingLemmas.{one_reading}
use Rattle.mr_shards.proofs.RefusedLemmas.{have-lines, own-file}
use Rattle.mr_shards.proofs.ShiftLemmas.{merged_at_once}
use Rattle.mr_shards.proofs.StepLemmas.{all-map, turned}

-- ---- files that don't fall

-- none is before the one in front of it, and the first is not before the floor
abbrev pub RisesFrom : ℕ → List Value → Type 0
RisesFrom floor [] = Unit {0}
RisesFrom floor (One ∷ vs) = RisesFrom floor vs
RisesFrom floor (At file offset ∷ vs) = (floor ≤ file) × RisesFrom file vs

abbrev EndsAt : ℕ → List Value → Type 0
EndsAt top [] = Unit {0}
EndsAt top (One ∷ vs) = EndsAt top vs
EndsAt top (At file offset ∷ vs) = (file ≤ top) × EndsAt top vs

rises-lower : (a b : ℕ) (vs : List Value) → a ≤ b → RisesFrom b vs → RisesFrom a vs
rises-lower a b [] l r = tt
rises-lower a b (One ∷ vs) l r = rises-lower a b vs l r
rises-lower a b (At file offset ∷ vs) l r = (omega (arith, l, r.0), r.1)

rises-append : (floor top : ℕ) (xs ys : List Value) → floor ≤ top → RisesFrom floor xs → EndsAt top xs → RisesFrom top ys → RisesFrom floor (xs ++ ys)
rises-append floor top [] ys l r e s = rises-lower floor top ys l s
rises-append floor top (One ∷ xs) ys l r e s = rises-append floor top xs ys l r e s
rises-append floor top (At file offset ∷ xs) ys l r e s = (r.0, rises-append file top xs ys e.0 r.1 e.1 s)

back : (v : Value) (vs : List Value) (at f : ℕ) → Tells (v ∷ vs) (suc at) f → Tells vs at f
back v vs at f t = (omega (arith, t.0), t.1)

low : (floor : ℕ) (vs : List Value) → RisesFrom floor vs → (at f : ℕ) → Tells vs at f → floor ≤ f
low floor [] r at f t = absurd (omega (arith, t.0))
low floor (One ∷ vs) r zero f t = absurd t.1
low floor (One ∷ vs) r (suc at) f t = low floor vs r at f (back One vs at f t)
low floor (At file offset ∷ vs) r zero f t = elim t.1 [ inl e ↦ omega (arith, r.0, e) | inr never ↦ absurd never ]
low floor (At file offset ∷ vs) r (suc at) f t = omega (arith, r.0, low file vs r.1 at f (back (At file offset) vs at f t))

never-falls : (floor : ℕ) (vs : List Value) → RisesFrom floor vs → NeverFalls vs
never-falls floor [] r i j f g less a b = absurd (omega (arith, a.0))
never-falls floor (One ∷ vs) r i zero f g less a b = absurd (omega (arith, less))
never-falls floor (One ∷ vs) r zero (suc j) f g less a b = absurd a.1
never-falls floor (One ∷ vs) r (suc i) (suc j) f g less a b = never-falls floor vs r i j f g (omega (arith, less)) (back One vs i f a) (back One vs j g b)
never-falls floor (At file offset ∷ vs) r i zero f g less a b = absurd (omega (arith, less))
never-falls floor (At file offset ∷ vs) r zero (suc j) f g less a b =
    elim a.1 [ inl e ↦ omega (arith, e, low file vs r.1 j g (back (At file offset) vs j g b)) | inr never ↦ absurd never ]
never-falls floor (At file offset ∷ vs) r (suc i) (suc j) f g less a b =
    never-falls file vs r.1 i j f g (omega (arith, less)) (back (At file offset) vs i f a) (back (At file offset) vs j g b)

-- ---- the lines of one shard, moved

rises-places : (s : Shift) (floor : ℕ) (ns : List ℕ) → Rises nat_cmp ns → AllByRecursion (λ n. floor ≤ n) ns → RisesFrom (s.files + floor) (map (shifted_value s) (places_in ns))
rises-places s floor [] r all = tt
rises-places s floor (n ∷ ns) r all = (
  omega (arith, all.0),
  rises-places s n ns r.1 (all-map (λ m. nat_cmp n m ≡ Less) (λ m. n ≤ m) ns (λ m h. (let less = ranked n m Less (sym h) in omega (arith, less))) r.0),
)

ends-places : (s : Shift) (count top : ℕ) (ns : List ℕ) → AreInFiles count (places_in ns) → ((f : ℕ) → f < count → s.files + f ≤ top) → EndsAt top (map (shifted_value s) (places_in ns))
ends-places s count top [] own fits = tt
ends-places s count top (n ∷ ns) own fits = (fits n (own n 0 (inl refl)), ends-places s count top ns (λ f offset h. own f offset (inr h)) fits)

from-none : (ns : List ℕ) → AllByRecursion (λ n. 0 ≤ n) ns
from-none [] = tt
from-none (n ∷ ns) = (omega arith, from-none ns)

-- the values of a line rise, and end before the next shard's begin
abbrev Within : Shift → ℕ → List Value → Type 0
Within s top vs = RisesFrom s.files vs × EndsAt top vs

line-within : (s : Shift) (count top : ℕ) (g : Group) → HasLine Files g → AreInFiles count g.values → ((f : ℕ) → f < count → s.files + f ≤ top)
    → Within s top (map (shifted_value s) g.values)
line-within s count top g line own fits =
    let ns : List ℕ = line.1.0 ∷ line.1.1 in
    let is : g.values ≡ places_in ns = line.1.4 in
    subst (λ (vs : List Value). Within s top (map (shifted_value s) vs)) (sym is) (
      rises-lower s.files (s.files + 0) (map (shifted_value s) (places_in ns)) (omega arith) (rises-places s 0 ns line.1.2 (from-none ns)),
      ends-places s count top ns (subst (AreInFiles count) is own) fits,
    )

-- a job whose text lists files
module _ (job : JobSpec) (files : group_text_of job ≡ Files) where
  after : (k j : List ℕ) → MayFollow job (Some k) j → key_order k j ≡ Less
  after k j f = by (key_order j k) refl
    where
      by : (o : Ordering) → key_order j k ≡ o → key_order k j ≡ Less
      by Less e = absurd (f.0 e)
      by Equal e = absurd (f.1 (ap (λ form. not (is_lines form)) files) e)
      by Greater e = turned j k e

  later : (k : List ℕ) (s : Shift) (gs : List Group) → InTurn job (Some k) gs → AllByRecursion (λ j. key_order k j ≡ Less) (keys (map (shifted_group s) gs))
  later k s [] t = tt
  later k s (g ∷ gs) t =
      let less = after k g.key t.0 in
      (less, all-map (λ j. key_order g.key j ≡ Less) (λ j. key_order k j ≡ Less) (keys (map (shifted_group s) gs)) (λ j h. nat_list_cmp_total.trans k g.key j less h) (later g.key s gs t.1))

  part-within : (s : Shift) (count top : ℕ) (gs : List Group) (last : Option (List ℕ)) → InTurn job last gs → AllByRecursion (HasLine Files) gs
      → AllByRecursion (λ (g : Group). AreInFiles count g.values) gs → ((f : ℕ) → f < count → s.files + f ≤ top) → (k : List ℕ) → Within s top (values_at (map (shifted_group s) gs) k)
  part-within s count top [] last turn lines own fits k = (tt, tt)
  part-within s count top (g ∷ gs) last turn lines own fits k = by (bytes_eq g.key k) refl (part-within s count top gs (Some g.key) turn.1 lines.1 own.1 fits k)
    where
      by : (b : Bool) → bytes_eq g.key k ≡ b → Within s top (values_at (map (shifted_group s) gs) k)
          → Within s top (cond b (map (shifted_value s) g.values) [] ++ values_at (map (shifted_group s) gs) k)
      by false is rest = rest
      by true is rest =
          let none : values_at (map (shifted_group s) gs) k ≡ [] =
          values-before k (map (shifted_group s) gs) (subst (λ (q : List ℕ). AllByRecursion (λ j. key_order q j ≡ Less) (keys (map (shifted_group s) gs))) (bytes_eq-is g.key k is) (later g.key s gs turn.1)) in
          subst (Within s top) (sym (ap (λ (vs : List Value). map (shifted_value s) g.values ++ vs) none ∙ append-nil (map (shifted_value s) g.values)))
          (line-within s count top g lines.0 own.0 fits)

  -- ---- the lines of all

  merged-rise : (s : Shift) (os : List ShardText) → AllByRecursion (IsShardText job) os → (k : List ℕ)
      → RisesFrom s.files (values_at (merged_groups (shifted_parts s (parts_in job os))) k)
  merged-rise s [] all k = tt
  merged-rise s (o ∷ os) all k =
      let next : Shift = behind s (past_shard o.files) in
      let gs : List Group = map (shifted_group s) (groups_in job o.text.now) in
      let hs : List Group = merged_groups (shifted_parts next (parts_in job os)) in
      let rest = all.0.0 in
      let lines = have-lines job rest.groups rest.lines in
      let same : groups_in job o.text.now ≡ rest.groups = ap (groups_in job) rest.text_is ∙ one_reading job rest.groups lines in
      let here : Within s next.files (values_at gs k) =
      subst (λ (qs : List Group). Within s next.files (values_at (map (shifted_group s) qs) k)) (sym same)
      (part-within s o.files.count next.files rest.groups None rest.in_turn (subst (λ form. AllByRecursion (HasLine form) rest.groups) files lines) (subst (AllByRecursion (λ (g : Group). AreInFiles o.files.count g.values)) same all.0.1)
      (λ f less. omega (arith, own-file o.files f less)) k) in
      subst (RisesFrom s.files) (sym (merged-values gs hs k)) (rises-append s.files next.files (values_at gs k) (values_at hs k) (omega arith) here.0 here.1 (merged-rise next os all.1 k))

-- what is written of a group is its text, where the files of an index never fall
written-group : (g : Group) → RisesFrom 0 g.values → written Files g ≡ group_text_for Files g
written-group g r =
    append_assoc g.key (9 ∷ values_text Files [] None g.values) (10 ∷ [])
    ∙ ap (λ (t : List ℕ). g.key ++ 9 ∷ (t ++ 10 ∷ [])) (rising-text g.values (never-falls 0 g.values r))

written-told : (f : List ℕ → List Value) (ks : List (List ℕ)) → ((k : List ℕ) → RisesFrom 0 (f k)) → flat_map (written Files) (map (told f) ks) ≡ texts_for Files (map (told f) ks)
written-told f [] r = refl
written-told f (k ∷ ks) r =
    let here = written-group (told f k) (r k) in
    let rest = written-told f ks r in
    λ i. here i ++ rest i

written-as : (form : GroupText) (f : List ℕ → List Value) (ks : List (List ℕ)) → (form ≡ Files → (k : List ℕ) → RisesFrom 0 (f k))
    → flat_map (written form) (map (told f) ks) ≡ texts_for form (map (told f) ks)
written-as Count f ks r = refl
written-as Lines f ks r = refl
written-as Files f ks r = written-told f ks (r refl)

-- what is written of the merge of outputs that stand is its text
pub written-all : (job : JobSpec) (os : List ShardText) → AllByRecursion (IsShardText job) os
    → written_texts job (merged_portions (parts_in job os)) ≡ texts job (merged_portions (parts_in job os))
written-all job os all =
    let m : List Group = merged_groups (shifted_parts no_shift (parts_in job os)) in
    let same : merged_portions (parts_in job os) ≡ map (told (values_at m)) (keys m) =
    merged_at_once (parts_in job os) ∙ told-all m (merged_groups-rise (shifted_parts no_shift (parts_in job os))) in
    ap (written_texts job) same ∙ written-as (group_text_of job) (values_at m) (keys m) (λ files. merged-rise job files no_shift os all) ∙ ap (texts job) (sym same)
