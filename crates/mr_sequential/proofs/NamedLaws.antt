-- The triple under a name, and the triples that some of a list are.
use Rattle.std.proofs.Common.{◌≡◌, Option, Some, None, List, [], ◌∷◌, map, refl, ap, sym, ◌∙◌, subst, inl, inr, ◌⊎◌, Bool, true, false, eqb, IsSome}
use Rattle.std.proofs.lemmas.Bool.{and_parts, and_from, eqb-true, eq-eqb, false_from_ne_true}
use Rattle.std.specs.List.{filter_map, cons_option}
use Rattle.std.specs.declared.cmp.Ordering.{Ordering}
use Rattle.std.specs.declared.cmp.Ordering.TheVariants.{Less}
use Rattle.mr_bytes.specs.declared.Name.{Name}
use Rattle.mr_bytes.specs.Lists.{Has, Rises, Distinct}
use Rattle.mr_bytes.specs.Order.{name_order}
use Rattle.mr_bytes.specs.Pairs.{Triple}
use Rattle.mr_sequential.specs.Good.{has_name, named}
use Rattle.mr_bytes.proofs.ListLaws.{Has-all, all_from_Has, Has-map}

-- the triples under these names
abbrev pub triples_under : List Triple → List Name → List Triple
triples_under ts ns = filter_map (named ts) ns

named-is : (n : Name) (t : Triple) → has_name n t ≡ true → t.name ≡ n
named-is n t e =
    let first = and_parts (eqb t.name.split n.split) _ e in
    let second = and_parts (eqb t.name.rec n.rec) _ first.1 in
    λ i. record {
      split = eqb-true t.name.split n.split first.0 i;
      rec = eqb-true t.name.rec n.rec second.0 i;
      place = eqb-true t.name.place n.place second.1 i;
    }

named-same : (t : Triple) → has_name t.name t ≡ true
named-same t =
    and_from _ _ (eq-eqb t.name.split t.name.split refl) (and_from _ _ (eq-eqb t.name.rec t.name.rec refl) (eq-eqb t.name.place t.name.place refl))

pub some_is : {X : Type 0} (o : Option X) → IsSome o → (x : X) × (o ≡ Some x)
some_is None h = absurd cc
some_is (Some x) h = (x, refl)

-- the triple under a name is one of them, and has this name
pub named-Has : (ts : List Triple) (n : Name) (t : Triple) → named ts n ≡ Some t → Has ts t × (t.name ≡ n)
named-Has [] n t e = absurd cc
named-Has (u ∷ ts) n t e = by (has_name n u) refl (named-Has ts n t)
  where
    by : (b : Bool) → has_name n u ≡ b → (named ts n ≡ Some t → Has ts t × (t.name ≡ n)) → ((u ≡ t) ⊎ Has ts t) × (t.name ≡ n)
    by true is rest =
        let found : Some u ≡ Some t = rw is at e in
        let same : u ≡ t = cc found in
        (inl same, ap (λ (w : Triple). w.name) (sym same) ∙ named-is n u is)
    by false is rest = let later = rest (rw is at e) in (inr (later.0), later.1)

-- where no name stands twice, each triple is the one under its name
pub named-of : (ts : List Triple) (t : Triple) → Distinct (map (λ (u : Triple). u.name) ts) → Has ts t → named ts t.name ≡ Some t
named-of [] t d h = absurd h
named-of (u ∷ ts) t d (inl e) = rw (subst (λ (w : Triple). has_name w.name u ≡ true) e (named-same u)) (ap Some e)
named-of (u ∷ ts) t d (inr h) =
    let other : has_name t.name u ≡ false =
    false_from_ne_true _ (λ e. d.0 (subst (Has (map (λ (w : Triple). w.name) ts)) (sym (named-is t.name u e)) (Has-map (λ (w : Triple). w.name) ts t h))) in
    rw other (named-of ts t d.1 h)

-- ---- what stands in a part of a list

pub Has-filter_map : {X Y : Type 0} (h : X → Option Y) (xs : List X) (x : X) (y : Y) → Has xs x → h x ≡ Some y → Has (filter_map h xs) y
Has-filter_map h [] x y g e = absurd g
Has-filter_map {X} {Y} h (z ∷ xs) x y (inl d) e = subst (λ w. Has (cons_option w (filter_map h xs)) y) (sym (ap h d ∙ e)) (inl refl)
Has-filter_map {X} {Y} h (z ∷ xs) x y (inr g) e = by (h z) (Has-filter_map h xs x y g e)
  where
    by : (o : Option Y) → Has (filter_map h xs) y → Has (cons_option o (filter_map h xs)) y
    by None g = g
    by (Some w) g = inr g

pub Has-filter_map_from : {X Y : Type 0} (h : X → Option Y) (xs : List X) (y : Y) → Has (filter_map h xs) y → (x : X) × Has xs x × (h x ≡ Some y)
Has-filter_map_from h [] y g = absurd g
Has-filter_map_from {X} {Y} h (z ∷ xs) y g = by (h z) refl g (Has-filter_map_from h xs y)
  where
    by : (o : Option Y) → h z ≡ o → Has (cons_option o (filter_map h xs)) y → (Has (filter_map h xs) y → (x : X) × Has xs x × (h x ≡ Some y))
        → (x : X) × ((z ≡ x) ⊎ Has xs x) × (h x ≡ Some y)
    by None is g rest = let r = rest g in (r.0, inr (r.1), r.2)
    by (Some w) is (inl e) rest = (z, inl refl, is ∙ ap Some e)
    by (Some w) is (inr g) rest = let r = rest g in (r.0, inr (r.1), r.2)

-- ---- the order of triples is that of their names

abbrev pub triple_order : Triple → Triple → Ordering
triple_order t u = name_order t.name u.name

pub rises_by_name : (ts : List Triple) → Rises name_order (map (λ (t : Triple). t.name) ts) → Rises triple_order ts
rises_by_name [] r = tt
rises_by_name (t ∷ ts) r = (
  all_from_Has (λ u. triple_order t u ≡ Less) ts
      (λ u h. Has-all (λ n. name_order t.name n ≡ Less) _ _ r.0 (Has-map (λ (w : Triple). w.name) ts u h)),
  rises_by_name ts r.1,
)

-- triples under names that rise
pub triples-rise : (ts : List Triple) (ns : List Name) → Rises name_order ns → Rises triple_order (triples_under ts ns)
triples-rise ts [] r = tt
triples-rise ts (n ∷ ns) r = by (named ts n) refl (triples-rise ts ns r.1)
  where
    by : (o : Option Triple) → named ts n ≡ o → Rises triple_order (triples_under ts ns) → Rises triple_order (cons_option o (triples_under ts ns))
    by None is s = s
    by (Some t) is s = (
      all_from_Has (λ u. triple_order t u ≡ Less) (triples_under ts ns) (λ u h.
          let from = Has-filter_map_from (named ts) ns u h in
          let first : n ≡ t.name = sym ((named-Has ts n t is).1) in
          let second : from.0 ≡ u.name = sym ((named-Has ts from.0 u from.2).1) in
          subst (λ w. name_order w u.name ≡ Less) first
          (subst (λ w. name_order n w ≡ Less) second (Has-all (λ m. name_order n m ≡ Less) ns from.0 r.0 from.1))),
      s,
    )
