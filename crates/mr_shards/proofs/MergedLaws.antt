-- The groups of what two inputs emit are the merged groups of each.
use Rattle.std.proofs.Common.{◌≡◌, ℕ, ◌++◌, List, [], ◌∷◌, refl, ap, sym, ◌∙◌, subst, inl, inr, ◌⊎◌, Bool, true, false, cond, map, filter}
use Rattle.std.proofs.lemmas.Bool.{false_from_ne_true}
use Rattle.std.proofs.lemmas.List.{append-nil, append_assoc, map-append}
use Rattle.std.proofs.lemmas.List.Elements.{filter-append}
use Rattle.std.proofs.lemmas.Cmp.{nat_list_cmp_total, tied_itself}
use Rattle.std.specs.List.{AllByRecursion, flat_map}
use Rattle.std.specs.Ordering.{match_ordering}
use Rattle.std.specs.Str.{bytes_eq}
use Rattle.std.specs.declared.cmp.Ordering.{Ordering}
use Rattle.std.specs.declared.cmp.Ordering.TheVariants.{Less, Equal, Greater}
use Rattle.mr_bytes.specs.declared.Value.{Value}
use Rattle.mr_bytes.specs.Lists.{Has, Rises}
use Rattle.mr_bytes.specs.Order.{key_order}
use Rattle.mr_bytes.specs.Pairs.{Triple}
use Rattle.mr_sequential.specs.Laws.{HasJust}
use Rattle.mr_sequential.specs.Sequential.{with_key, keys_of, values_of}
use Rattle.mr_sequential.proofs.KeyLaws.{bytes_eq-is, bytes_eq-same, key_tie, with_key-cases, with_key-new, with_key-old, with_key-rises, keys_rise, keys_are_unique}
use Rattle.mr_bytes.proofs.ListLaws.{Has-all, Has-append_left, Has-append_right, Has-append_cases}
use Rattle.mr_shards.specs.Merged.{Group, groups_of, joined, with_group, merged}

abbrev pub keys : List Group → List (List ℕ)
keys gs = map (λ (g : Group). g.key) gs

-- a group's values, where the key is its own
abbrev pub values_if : List ℕ → Group → List Value
values_if k g = cond (bytes_eq g.key k) g.values []

-- the values that groups have for a key
abbrev pub values_at : List Group → List ℕ → List Value
values_at gs k = flat_map (values_if k) gs

-- ---- the values of merged groups

differs : (j k : List ℕ) (o : Ordering) → key_order j k ≡ o → (Equal ≡ o → ⊥) → bytes_eq j k ≡ false
differs j k o is ne = false_from_ne_true (bytes_eq j k) (λ e. ne (sym (tied_itself nat_list_cmp_total j) ∙ ap (key_order j) (bytes_eq-is j k e) ∙ is))

cond-append : (b : Bool) (xs ys zs : List Value) → cond b (xs ++ ys) [] ++ zs ≡ cond b xs [] ++ (cond b ys [] ++ zs)
cond-append true xs ys zs = append_assoc xs ys zs
cond-append false xs ys zs = refl

-- two keys that differ: one of the two gives nothing
swap-cond : (a b : Bool) (xs ys zs : List Value) → (a ≡ true → b ≡ true → ⊥) → cond b ys [] ++ (cond a xs [] ++ zs) ≡ cond a xs [] ++ (cond b ys [] ++ zs)
swap-cond true true xs ys zs ne = absurd (ne refl refl)
swap-cond true false xs ys zs ne = refl
swap-cond false true xs ys zs ne = refl
swap-cond false false xs ys zs ne = refl

pub with_group-values : (g : Group) (hs : List Group) (k : List ℕ) → values_at (with_group g hs) k ≡ values_if k g ++ values_at hs k
with_group-values g [] k = refl
with_group-values g (h ∷ hs) k = by (key_order g.key h.key) refl (with_group-values g hs k)
  where
    by : (o : Ordering) → key_order g.key h.key ≡ o → values_at (with_group g hs) k ≡ values_if k g ++ values_at hs k
        → values_at (match_ordering o (g ∷ h ∷ hs) (joined g h ∷ hs) (h ∷ with_group g hs)) k ≡ values_if k g ++ (values_if k h ++ values_at hs k)
    by Less is rest = refl
    by Equal is rest =
        cond-append (bytes_eq g.key k) g.values h.values (values_at hs k)
        ∙ ap (λ (q : List ℕ). values_if k g ++ (cond (bytes_eq q k) h.values [] ++ values_at hs k)) (key_tie g.key h.key is)
    by Greater is rest =
        ap (λ (l : List Value). values_if k h ++ l) rest
        ∙ swap-cond (bytes_eq g.key k) (bytes_eq h.key k) g.values h.values (values_at hs k)
        (λ a b. (let same : g.key ≡ h.key = bytes_eq-is g.key k a ∙ sym (bytes_eq-is h.key k b) in
        let tie : Equal ≡ Greater = sym (tied_itself nat_list_cmp_total g.key) ∙ ap (key_order g.key) same ∙ is in cc tie))

pub merged-values : (gs hs : List Group) (k : List ℕ) → values_at (merged gs hs) k ≡ values_at gs k ++ values_at hs k
merged-values [] hs k = refl
merged-values (g ∷ gs) hs k =
    with_group-values g (merged gs hs) k ∙ ap (λ (l : List Value). values_if k g ++ l) (merged-values gs hs k)
    ∙ sym (append_assoc (values_if k g) (values_at gs k) (values_at hs k))

-- ---- the keys of merged groups

-- keys put among rising keys
abbrev pub with_keys : List (List ℕ) → List (List ℕ) → List (List ℕ)
with_keys [] js = js
with_keys (k ∷ ks) js = with_key k (with_keys ks js)

pub with_group-keys : (g : Group) (hs : List Group) → keys (with_group g hs) ≡ with_key g.key (keys hs)
with_group-keys g [] = refl
with_group-keys g (h ∷ hs) = by (key_order g.key h.key) refl (with_group-keys g hs)
  where
    by : (o : Ordering) → key_order g.key h.key ≡ o → keys (with_group g hs) ≡ with_key g.key (keys hs)
        → keys (match_ordering o (g ∷ h ∷ hs) (joined g h ∷ hs) (h ∷ with_group g hs)) ≡ match_ordering o (g.key ∷ h.key ∷ keys hs) (h.key ∷ keys hs) (h.key ∷ with_key g.key (keys hs))
    by Less is rest = refl
    by Equal is rest = ap (λ (k : List ℕ). k ∷ keys hs) (key_tie g.key h.key is)
    by Greater is rest = ap (λ (l : List (List ℕ)). h.key ∷ l) rest

pub merged-keys : (gs hs : List Group) → keys (merged gs hs) ≡ with_keys (keys gs) (keys hs)
merged-keys [] hs = refl
merged-keys (g ∷ gs) hs = with_group-keys g (merged gs hs) ∙ ap (with_key g.key) (merged-keys gs hs)

with_keys-rise : (ks js : List (List ℕ)) → Rises key_order js → Rises key_order (with_keys ks js)
with_keys-rise [] js r = r
with_keys-rise (k ∷ ks) js r = with_key-rises k (with_keys ks js) (with_keys-rise ks js r)

pub with_keys-cases : (ks js : List (List ℕ)) (x : List ℕ) → Has (with_keys ks js) x → Has ks x ⊎ Has js x
with_keys-cases [] js x h = inr h
with_keys-cases (k ∷ ks) js x h =
    elim (with_key-cases k (with_keys ks js) x h) [
      | inl e ↦ inl (inl e)
      | inr more ↦ elim (with_keys-cases ks js x more) [ inl a ↦ inl (inr a) | inr b ↦ inr b ]
    ]

with_keys-first : (ks js : List (List ℕ)) (x : List ℕ) → Has ks x → Has (with_keys ks js) x
with_keys-first [] js x h = absurd h
with_keys-first (k ∷ ks) js x (inl e) = subst (λ (q : List ℕ). Has (with_key k (with_keys ks js)) q) e (with_key-new k (with_keys ks js))
with_keys-first (k ∷ ks) js x (inr h) = with_key-old k (with_keys ks js) x (with_keys-first ks js x h)

with_keys-second : (ks js : List (List ℕ)) (x : List ℕ) → Has js x → Has (with_keys ks js) x
with_keys-second [] js x h = h
with_keys-second (k ∷ ks) js x h = with_key-old k (with_keys ks js) x (with_keys-second ks js x h)

pub merged-rise : (gs hs : List Group) → Rises key_order (keys hs) → Rises key_order (keys (merged gs hs))
merged-rise gs hs r = subst (Rises key_order) (sym (merged-keys gs hs)) (with_keys-rise (keys gs) (keys hs) r)

-- ---- groups with rising keys are told by their keys and the values of each

-- a group of each key, with the values that a function gives it
abbrev pub told : (List ℕ → List Value) → List ℕ → Group
told f k = record { key = k; values = f k }

pub values-before : (k : List ℕ) (gs : List Group) → AllByRecursion (λ j. key_order k j ≡ Less) (keys gs) → values_at gs k ≡ []
values-before k [] all = refl
values-before k (g ∷ gs) all =
    let other : bytes_eq g.key k ≡ false =
    false_from_ne_true (bytes_eq g.key k) (λ e. (let tie : Equal ≡ Less = sym (tied_itself nat_list_cmp_total k) ∙ ap (key_order k) (sym (bytes_eq-is g.key k e)) ∙ all.0 in cc tie)) in
    ap (λ (b : Bool). cond b g.values [] ++ values_at gs k) other ∙ values-before k gs all.1

-- from here on, a function that agrees with the first groups
told-from : (f : List ℕ → List Value) (gs : List Group) → Rises key_order (keys gs) → ((k : List ℕ) → Has (keys gs) k → f k ≡ values_at gs k) → gs ≡ map (told f) (keys gs)
told-from f [] rises same = refl
told-from f (g ∷ gs) rises same =
    let here : g.values ≡ f g.key =
    sym (same g.key (inl refl) ∙ ap (λ (b : Bool). cond b g.values [] ++ values_at gs g.key) (bytes_eq-same g.key)
    ∙ ap (λ (l : List Value). g.values ++ l) (values-before g.key gs rises.0) ∙ append-nil g.values) in
    let rest : gs ≡ map (told f) (keys gs) =
    told-from f gs rises.1 (λ k h. same k (inr h) ∙ ap (λ (b : Bool). cond b g.values [] ++ values_at gs k)
    (false_from_ne_true (bytes_eq g.key k) (λ e. (let less : key_order g.key k ≡ Less = Has-all (λ j. key_order g.key j ≡ Less) (keys gs) k rises.0 h in
    let tie : Equal ≡ Less = sym (tied_itself nat_list_cmp_total g.key) ∙ ap (key_order g.key) (bytes_eq-is g.key k e) ∙ less in cc tie)))) in
    λ i. record { key = g.key; values = here i } ∷ rest i

pub told-all : (gs : List Group) → Rises key_order (keys gs) → gs ≡ map (told (values_at gs)) (keys gs)
told-all gs rises = told-from (values_at gs) gs rises (λ k h. refl)

pub told-same : (f g : List ℕ → List Value) (ks : List (List ℕ)) → ((k : List ℕ) → Has ks k → f k ≡ g k) → map (told f) ks ≡ map (told g) ks
told-same f g [] same = refl
told-same f g (k ∷ ks) same =
    let here : f k ≡ g k = same k (inl refl) in
    let rest : map (told f) ks ≡ map (told g) ks = told-same f g ks (λ j h. same j (inr h)) in
    λ i. record { key = k; values = here i } ∷ rest i

-- ---- the groups of a partition

keys-told : (f : List ℕ → List Value) (ks : List (List ℕ)) → keys (map (told f) ks) ≡ ks
keys-told f [] = refl
keys-told f (k ∷ ks) = ap (λ (l : List (List ℕ)). k ∷ l) (keys-told f ks)

has_or_not : (ks : List (List ℕ)) (k : List ℕ) → Has ks k ⊎ (Has ks k → ⊥)
has_or_not [] k = inr (λ h. h)
has_or_not (j ∷ ks) k = by (bytes_eq j k) refl (has_or_not ks k)
  where
    by : (b : Bool) → bytes_eq j k ≡ b → Has ks k ⊎ (Has ks k → ⊥) → ((j ≡ k) ⊎ Has ks k) ⊎ ((j ≡ k) ⊎ Has ks k → ⊥)
    by true is rest = inl (inl (bytes_eq-is j k is))
    by false is (inl h) = inl (inr h)
    by false is (inr none) =
        inr (λ h. elim h [
          | inl e ↦ (let t : true ≡ false = sym (bytes_eq-same j) ∙ ap (bytes_eq j) e ∙ is in cc t)
          | inr a ↦ none a
        ])

values-told_none : (f : List ℕ → List Value) (ks : List (List ℕ)) (k : List ℕ) → (Has ks k → ⊥) → values_at (map (told f) ks) k ≡ []
values-told_none f [] k none = refl
values-told_none f (j ∷ ks) k none =
    ap (λ (b : Bool). cond b (f j) [] ++ values_at (map (told f) ks) k) (false_from_ne_true (bytes_eq j k) (λ e. none (inl (bytes_eq-is j k e))))
    ∙ values-told_none f ks k (λ h. none (inr h))

values-told : (f : List ℕ → List Value) (ks : List (List ℕ)) (k : List ℕ) → Rises key_order ks → Has ks k → values_at (map (told f) ks) k ≡ f k
values-told f [] k rises h = absurd h
values-told f (j ∷ ks) k rises (inl e) =
    let later : values_at (map (told f) ks) j ≡ [] = values-before j (map (told f) ks) (subst (AllByRecursion (λ q. key_order j q ≡ Less)) (sym (keys-told f ks)) rises.0) in
    let at_j : values_at (map (told f) (j ∷ ks)) j ≡ f j =
    ap (λ (b : Bool). cond b (f j) [] ++ values_at (map (told f) ks) j) (bytes_eq-same j) ∙ ap (λ (l : List Value). f j ++ l) later ∙ append-nil (f j) in
    subst (λ (q : List ℕ). values_at (map (told f) (j ∷ ks)) q ≡ f q) e at_j
values-told f (j ∷ ks) k rises (inr h) =
    let less : key_order j k ≡ Less = Has-all (λ q. key_order j q ≡ Less) ks k rises.0 h in
    ap (λ (b : Bool). cond b (f j) [] ++ values_at (map (told f) ks) k)
    (false_from_ne_true (bytes_eq j k) (λ e. (let tie : Equal ≡ Less = sym (tied_itself nat_list_cmp_total j) ∙ ap (key_order j) (bytes_eq-is j k e) ∙ less in cc tie)))
    ∙ values-told f ks k rises.1 h

abbrev pub keys_in : List Triple → List (List ℕ)
keys_in ts = map (λ (t : Triple). t.key) ts

none-values : (ts : List Triple) (k : List ℕ) → (Has (keys_in ts) k → ⊥) → values_of ts k ≡ []
none-values [] k none = refl
none-values (t ∷ ts) k none =
    ap (λ (b : Bool). map (λ (u : Triple). u.value) (cond b (t ∷ filter (λ u. bytes_eq u.key k) ts) (filter (λ u. bytes_eq u.key k) ts)))
    (false_from_ne_true (bytes_eq t.key k) (λ e. none (inl (bytes_eq-is t.key k e))))
    ∙ none-values ts k (λ h. none (inr h))

pub values_of-append : (ts us : List Triple) (k : List ℕ) → values_of (ts ++ us) k ≡ values_of ts k ++ values_of us k
values_of-append ts us k =
    ap (map (λ (t : Triple). t.value)) (filter-append (λ (t : Triple). bytes_eq t.key k) ts us)
    ∙ map-append (λ (t : Triple). t.value) (filter (λ (t : Triple). bytes_eq t.key k) ts) (filter (λ (t : Triple). bytes_eq t.key k) us)

module _ (part : List ℕ → ℕ) (p : ℕ) where
  -- a key of the partition has the values that it has among the triples
  group-values : (ts : List Triple) (k : List ℕ) → part k ≡ p → values_at (groups_of part ts p) k ≡ values_of ts k
  group-values ts k here =
      let ks : List (List ℕ) = keys_of part (keys_in ts) p in
      elim (has_or_not (keys_in ts) k) [
        | inl h ↦ values-told (values_of ts) ks k (keys_rise part (keys_in ts) p).0 (((keys_rise part (keys_in ts) p).1 k).1 (h, here))
        | inr none ↦ values-told_none (values_of ts) ks k (λ h. none (((keys_rise part (keys_in ts) p).1 k).0 h).0) ∙ sym (none-values ts k none)
      ]

  group-keys : (ts : List Triple) → keys (groups_of part ts p) ≡ keys_of part (keys_in ts) p
  group-keys ts = keys-told (values_of ts) (keys_of part (keys_in ts) p)

  pub groups-rise : (ts : List Triple) → Rises key_order (keys (groups_of part ts p))
  groups-rise ts = subst (Rises key_order) (sym (group-keys ts)) (keys_rise part (keys_in ts) p).0

  keys-merged : (ts us : List Triple) → keys (merged (groups_of part ts p) (groups_of part us p)) ≡ keys_of part (keys_in (ts ++ us)) p
  keys-merged ts us =
      let ks = keys_of part (keys_in ts) p in
      let js = keys_of part (keys_in us) p in
      let a : HasJust part (keys_in ts) p ks = (keys_rise part (keys_in ts) p).1 in
      let b : HasJust part (keys_in us) p js = (keys_rise part (keys_in us) p).1 in
      let both : keys_in (ts ++ us) ≡ keys_in ts ++ keys_in us = map-append (λ (t : Triple). t.key) ts us in
      merged-keys (groups_of part ts p) (groups_of part us p)
      ∙ ap (λ l. with_keys l (keys (groups_of part us p))) (group-keys ts) ∙ ap (with_keys ks) (group-keys us)
      ∙ keys_are_unique part (keys_in ts ++ keys_in us) p (with_keys ks js) (with_keys-rise ks js (keys_rise part (keys_in us) p).0)
      (λ k. (
        λ h. elim (with_keys-cases ks js k h) [
          | inl f ↦ (let r = (a k).0 f in (Has-append_left (keys_in ts) (keys_in us) k r.0, r.1))
          | inr s ↦ (let r = (b k).0 s in (Has-append_right (keys_in ts) (keys_in us) k r.0, r.1))
        ],
        λ h. elim (Has-append_cases (keys_in ts) (keys_in us) k h.0) [
          | inl f ↦ with_keys-first ks js k ((a k).1 (f, h.1))
          | inr s ↦ with_keys-second ks js k ((b k).1 (s, h.1))
        ],
      ))
      ∙ ap (λ l. keys_of part l p) (sym both)

  -- the groups of what two inputs emit
  pub groups-append : (ts us : List Triple) → groups_of part (ts ++ us) p ≡ merged (groups_of part ts p) (groups_of part us p)
  groups-append ts us =
      let m : List Group = merged (groups_of part ts p) (groups_of part us p) in
      let all : List (List ℕ) = keys_of part (keys_in (ts ++ us)) p in
      sym (told-all m (merged-rise (groups_of part ts p) (groups_of part us p) (groups-rise us))
      ∙ ap (map (told (values_at m))) (keys-merged ts us)
      ∙ told-same (values_at m) (values_of (ts ++ us)) all (λ k h. (
      let here : part k ≡ p = (((keys_rise part (keys_in (ts ++ us)) p).1 k).0 h).1 in
      merged-values (groups_of part ts p) (groups_of part us p) k
      ∙ ap (λ l. l ++ values_at (groups_of part us p) k) (group-values ts k here) ∙ ap (λ l. values_of ts k ++ l) (group-values us k here)
      ∙ sym (values_of-append ts us k))))
