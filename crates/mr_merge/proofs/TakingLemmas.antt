-- Regions taken pair by pair over their bytes.
use Rattle.std.proofs.Common.{◌≡◌, ℕ, zero, suc, Bool, true, ◌<◌, arith, get_or, Option, Some, List, [], ◌∷◌, ◌++◌, length, refl, sym, ◌∙◌, ap, subst, append_assoc, map}
use Rattle.std.proofs.lemmas.List.{append-nil, flat_map_more, map-append}
use Rattle.std.specs.List.{AllByRecursion}
use Rattle.std.specs.Prelude.{IsTrue, MatchOption, ◌&&◌}
use Rattle.std.proofs.lemmas.Bool.{and_parts}
use Rattle.mr_bytes.specs.declared.Name.{Name}
use Rattle.mr_bytes.specs.Lists.{Distinct, Has, Rises}
use Rattle.mr_bytes.specs.Pairs.{Triple, pair_order}
use Rattle.mr_spill.specs.declared.cursor.RegionCursor.{RegionCursor}
use Rattle.mr_spill.specs.declared.cursor.RegionPair.{RegionPair}
use Rattle.mr_spill.specs.Column.{names_of}
use Rattle.mr_spill.specs.Cursor.{AreAhead, EndsWithKey, IsNextOf, IsOpened, lent_pair}
use Rattle.mr_spill.specs.Lent.{RegionText}
use Rattle.mr_spill.specs.Regions.{RisesUnderKeys}
use Rattle.mr_spill.specs.Spelling.{SpellsRegion}
use Rattle.mr_spill.proofs.CursorLemmas.{none-some, some-is}
use Rattle.mr_spill.proofs.ReadingLemmas.{spells-one}
use Rattle.mr_merge.specs.declared.reduction.Gathering.{Gathering}
use Rattle.mr_merge.specs.Bytes.{AreSpelled}
use Rattle.mr_merge.specs.Merged.{AreSound, NamesDiffer, joined}
use Rattle.mr_bytes.proofs.ListLaws.{Has-map}
use Rattle.mr_merge.specs.Distinct.{packed}
use Rattle.mr_merge.specs.Reduction.{Collected, IsOfRegions}
use Rattle.mr_merge.specs.Taking.{AreInTurn, IsBegun, IsPast, IsPut, IsTaken, IsUpTo}
use Rattle.mr_merge.proofs.GatherLemmas.{All-weaker, differs, follows, later-last}
use Rattle.mr_group.proofs.ListLemmas.{All-more}

-- ---- a pair of a region

All-names : (P : Name → Type 0) (ts : List Triple) (t : Triple) → AllByRecursion P (names_of ts) → P t.name → AllByRecursion P (names_of (ts ++ t ∷ []))
All-names P ts t all p = subst (AllByRecursion P) (sym (map-append (λ (u : Triple). u.name) ts (t ∷ []))) (All-more P (names_of ts) t.name all p)

pub begun-more : (partition : ℕ) (region : RegionText) (was past : Bool) (old now new : Gathering) (cursor later : RegionCursor) (p : RegionPair)
    → IsBegun partition region was old now cursor → IsNextOf (lent_pair p) cursor later → later.last ≡ Some p
    → IsPut old.last p past now new → IsBegun partition region (was && past) old new later
begun-more partition region was past old now new cursor later p b next last put = record {
  taken = b.taken ++ lent_pair p ∷ [];
  takes = record {
    is = put.is ∙ ap (λ (l : List Triple). l ++ lent_pair p ∷ []) b.takes.is ∙ append_assoc old.pairs b.taken (lent_pair p ∷ []);
    past = λ both. let each = and_parts was past both in All-names (IsPast old.last) b.taken (lent_pair p) (b.takes.past each.0) (put.past each.1);
    before = λ n h. put.up n (b.takes.before n h);
    up_to = All-names (IsUpTo new.last) b.taken (lent_pair p) (All-weaker (IsUpTo now.last) (IsUpTo new.last) (names_of b.taken) put.up b.takes.up_to) put.it;
  };
  on = λ us a. subst (SpellsRegion region.bytes region.split partition) (sym (append_assoc b.taken (lent_pair p ∷ []) us)) (b.on (lent_pair p ∷ us) (next.on us a));
  left = λ ts h. let was = b.left ts h in let n = next.only was.0 was.1 in (n.0, n.2);
  key = λ q e. subst (λ (r : RegionPair). EndsWithKey new.pairs r.key.now) (some-is p q (sym last ∙ e)) put.key;
}

-- none was taken yet
pub begun-start : (partition : ℕ) (region : RegionText) (all : Gathering) (cursor : RegionCursor) (bytes : List ℕ) (split : ℕ)
    → IsOpened bytes split partition cursor → bytes ≡ region.bytes → split ≡ region.split → IsBegun partition region true all all cursor
begun-start partition region all cursor bytes split o b s = record {
  taken = [];
  takes = record { is = sym (append-nil all.pairs); past = λ _. tt; before = λ n h. h; up_to = tt };
  on = λ us a. subst (λ (w : ℕ). SpellsRegion region.bytes w partition us) s (subst (λ (l : List ℕ). SpellsRegion l split partition us) b (o.on us a));
  left = λ ts h. (ts, o.only ts (subst (λ (w : ℕ). SpellsRegion bytes w partition ts) (sym s) (subst (λ (l : List ℕ). SpellsRegion l region.split partition ts) (sym b) h)));
  key = λ p e. absurd (none-some p (sym o.none ∙ e));
}

distinct-from_map : {X Y : Type 0} (f : X → Y) (xs : List X) → Distinct (map f xs) → Distinct xs
distinct-from_map f [] d = tt
distinct-from_map f (x ∷ xs) d = (λ h. d.0 (Has-map f xs x h), distinct-from_map f xs d.1)

-- those that were taken have names of these numbers
abbrev pub IsNamed : ℕ → RegionText → Bool → Gathering → Gathering → RegionCursor → List ℕ → Type 0
IsNamed partition region in_turn old new cursor names = (b : IsBegun partition region in_turn old new cursor) × (names ≡ map packed (names_of b.taken))

pub named-start : (partition : ℕ) (region : RegionText) (all : Gathering) (cursor : RegionCursor) (bytes : List ℕ) (split : ℕ)
    → IsOpened bytes split partition cursor → bytes ≡ region.bytes → split ≡ region.split → IsNamed partition region true all all cursor []
unfolding begun-start
named-start partition region all cursor bytes split o b s = (begun-start partition region all cursor bytes split o b s, refl)

pub named-more : (partition : ℕ) (region : RegionText) (was past : Bool) (old now new : Gathering) (cursor later : RegionCursor) (p : RegionPair) (names : List ℕ)
    → IsNamed partition region was old now cursor names → IsNextOf (lent_pair p) cursor later → later.last ≡ Some p
    → IsPut old.last p past now new → IsNamed partition region (was && past) old new later (names ++ packed p.name ∷ [])
unfolding begun-more
named-more partition region was past old now new cursor later p names b next last put = (
  begun-more partition region was past old now new cursor later p b.0 next last put,
  ap (λ (l : List ℕ). l ++ packed p.name ∷ []) b.1 ∙ sym (ap (map packed) (map-append (λ (u : Triple). u.name) b.0.taken (lent_pair p ∷ [])) ∙ map-append packed (names_of b.0.taken) (p.name ∷ [])),
)

-- and here all were; where their numbers differ, their names do
pub named-end : (partition : ℕ) (region : RegionText) (in_turn differ : Bool) (old new : Gathering) (cursor : RegionCursor) (names : List ℕ)
    → IsNamed partition region in_turn old new cursor names → AreAhead cursor [] → (IsTrue differ → IsTrue in_turn × Distinct names) → IsTaken partition region differ old new
named-end partition region in_turn differ old new cursor names b a d = record {
  value = b.0.taken;
  takes = record { is = b.0.takes.is; past = λ h. b.0.takes.past ((d h).0); before = b.0.takes.before; up_to = b.0.takes.up_to };
  spelled = subst (SpellsRegion region.bytes region.split partition) (append-nil b.0.taken) (b.0.on [] a);
  differ = λ h. distinct-from_map packed (names_of b.0.taken) (subst Distinct b.1 ((d h).1));
}

pub taken-some : (partition : ℕ) (region : RegionText) (old new : Gathering) (o : Option Bool) (in_turn : Bool) → o ≡ Some in_turn
    → MatchOption o ((ts : List Triple) → SpellsRegion region.bytes region.split partition ts → ⊥) (λ t. IsTaken partition region t old new)
    → IsTaken partition region in_turn old new
taken-some partition region old new o in_turn is m =
    subst (λ (w : Option Bool). MatchOption w ((ts : List Triple) → SpellsRegion region.bytes region.split partition ts → ⊥) (λ t. IsTaken partition region t old new)) is m

-- ---- a region

pub spelled-more : (partition : ℕ) (rs : List RegionText) (r : RegionText) (vs : List (List Triple)) (ts : List Triple) → AreSpelled partition rs vs
    → SpellsRegion r.bytes r.split partition ts → AreSpelled partition (rs ++ r ∷ []) (vs ++ ts ∷ [])
spelled-more partition [] r [] ts a s = (s, tt)
spelled-more partition [] r (v ∷ vs) ts a s = absurd a
spelled-more partition (q ∷ rs) r [] ts a s = absurd a
spelled-more partition (q ∷ rs) r (v ∷ vs) ts a s = (a.0, spelled-more partition rs r vs ts a.1 s)

-- regions that are in turn stay so with one more that is
pub in_turn-more : (partition : ℕ) (r : RegionText) (in_turn : Bool) (old new : Gathering) → AreInTurn old → IsTrue in_turn → IsTaken partition r in_turn old new → AreInTurn new
in_turn-more partition r in_turn old new a h t = record {
  rise = subst RisesUnderKeys (sym t.takes.is) (follows old.pairs t.value old.last a.rise t.spelled.rise a.up_to (names_of t.value) refl (t.takes.past h));
  differ = subst NamesDiffer (sym t.takes.is) (differs old.pairs t.value old.last a.differ (t.differ h) a.up_to (names_of t.value) refl (t.takes.past h));
  up_to = λ u g. later-last old.pairs t.value old.last new.last (names_of t.value) refl t.takes.before a.up_to t.takes.up_to u
      (subst (λ (l : List Triple). Has l u) t.takes.is g);
}

-- one more region was taken
pub taken-more : (rs : List RegionText) (r : RegionText) (old new : Collected) (ts : List Triple) → IsOfRegions rs old → SpellsRegion r.bytes r.split old.partition ts
    → new.partition ≡ old.partition → new.pairs ≡ old.pairs ++ ts → IsOfRegions (rs ++ r ∷ []) new
taken-more rs r old new ts t s same is = record {
  values = t.values ++ ts ∷ [];
  spelled = subst (λ (p : ℕ). AreSpelled p (rs ++ r ∷ []) (t.values ++ ts ∷ [])) (sym same) (spelled-more old.partition rs r t.values ts t.spelled s);
  is = is ∙ ap (λ (l : List Triple). l ++ ts) t.is ∙ flat_map_more (λ (l : List Triple). l) [] t.values ts;
}

-- ---- what regions spell

pub spelled-one : (partition : ℕ) (rs : List RegionText) (vs ws : List (List Triple)) → AreSpelled partition rs vs → AreSpelled partition rs ws → ws ≡ vs
spelled-one partition [] [] [] a b = refl
spelled-one partition [] [] (w ∷ ws) a b = absurd b
spelled-one partition [] (v ∷ vs) ws a b = absurd a
spelled-one partition (r ∷ rs) [] ws a b = absurd a
spelled-one partition (r ∷ rs) (v ∷ vs) [] a b = absurd b
spelled-one partition (r ∷ rs) (v ∷ vs) (w ∷ ws) a b =
    let e = spells-one r.bytes r.split partition partition v w a.0 b.0 in
    let f = spelled-one partition rs vs ws a.1 b.1 in
    (λ i. e i ∷ f i)

pub spelled-at : (partition : ℕ) (rs : List RegionText) (i : ℕ) (r : RegionText) (vs : List (List Triple)) → i < length rs → r ≡ get_or rs i r → AreSpelled partition rs vs
    → (ts : List Triple) × SpellsRegion r.bytes r.split partition ts
spelled-at partition [] i r vs h e a = absurd (omega (arith, h))
spelled-at partition (q ∷ rs) i r [] h e a = absurd a
spelled-at partition (q ∷ rs) zero r (v ∷ vs) h e a = (v, subst (λ (w : RegionText). SpellsRegion w.bytes w.split partition v) (sym e) a.0)
spelled-at partition (q ∷ rs) (suc i) r (v ∷ vs) h e a = spelled-at partition rs i r vs (omega (arith, h)) e a.1

spelled-rise : (partition : ℕ) (rs : List RegionText) (vs : List (List Triple)) → AreSpelled partition rs vs → AllByRecursion (Rises pair_order) vs
spelled-rise partition [] [] a = tt
spelled-rise partition [] (v ∷ vs) a = absurd a
spelled-rise partition (r ∷ rs) [] a = absurd a
spelled-rise partition (r ∷ rs) (v ∷ vs) a = (a.0.rise, spelled-rise partition rs vs a.1)

pub spelled-sound : (partition : ℕ) (rs : List RegionText) (vs : List (List Triple)) → AreSpelled partition rs vs → NamesDiffer (joined vs) → AreSound vs
spelled-sound partition rs vs a d = record { in_order = spelled-rise partition rs vs a; names_differ = d }
