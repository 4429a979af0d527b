-- A pair taken from the front of what is still to come.
use Rattle.std.proofs.Common.{◌≡◌, ℕ, suc, List, [], ◌∷◌, ◌++◌, Option, Some, None, refl, sym, ◌∙◌, ap, subst, arith, append_assoc}
use Rattle.std.specs.List.{AllByRecursion, flat_map}
use Rattle.std.specs.declared.cmp.Ordering.TheVariants.{Less}
use Rattle.mr_bytes.specs.Lists.{Rises}
use Rattle.mr_bytes.specs.Pairs.{Triple, pair_order}
use Rattle.mr_bytes.proofs.ListLaws.{Has-all, all_from_Has}
use Rattle.mr_spill.specs.declared.cursor.RegionPair.{RegionPair}
use Rattle.mr_spill.specs.declared.cursor.RegionCursor.{RegionCursor}
use Rattle.mr_spill.specs.Cursor.{AreAhead, EndsWithKey, IsBehind, IsKeyOf, IsNextOf, IsOpened, RiseBehind, lent_pair}
use Rattle.mr_spill.specs.Spelling.{PairFits, SpellsRegion, pair_bytes}
use Rattle.mr_spill.proofs.ReadingLemmas.{pair-front}
use Rattle.mr_spill.proofs.RegionLaws.{pair_total}

-- ---- rising behind the last pair

rise-more : (last : Option RegionPair) (t : Triple) (us : List Triple) → IsBehind last t.key t.name → Rises pair_order (t ∷ us) → RiseBehind last (t ∷ us)
rise-more None t us b r = r
rise-more (Some l) t us b r =
    ((b, all_from_Has (λ u. pair_order (lent_pair l) u ≡ Less) us (λ u h. pair_total.trans (lent_pair l) t u b (Has-all (λ w. pair_order t w ≡ Less) us u r.0 h))), r)

rise-on : (last : Option RegionPair) (t : Triple) (us : List Triple) → RiseBehind last (t ∷ us) → Rises pair_order (t ∷ us)
rise-on None t us r = r
rise-on (Some l) t us r = r.1

rise-first : (last : Option RegionPair) (t : Triple) (us : List Triple) → RiseBehind last (t ∷ us) → IsBehind last t.key t.name
rise-first None t us r = tt
rise-first (Some l) t us r = r.0.0

-- ---- the next pair

pub none-left : (old : RegionCursor) → ((t : Triple) (rest : List ℕ) → PairFits t → old.rest.now ≡ pair_bytes t ++ rest → ⊥)
    → (ts : List Triple) → AreAhead old ts → ts ≡ []
none-left old refused [] a = refl
none-left old refused (u ∷ us) a = absurd (refused u (flat_map pair_bytes us) a.fit.0 a.text)

pub not-next : (old : RegionCursor) (t : Triple) (rest : List ℕ) → old.rest.now ≡ pair_bytes t ++ rest → PairFits t
    → (t.name.split ≡ old.split → IsBehind old.last t.key t.name → ⊥) → (ts : List Triple) → AreAhead old ts → ts ≡ []
not-next old t rest text fit refused [] a = refl
not-next old t rest text fit refused (u ∷ us) a =
    let f = pair-front u t (flat_map pair_bytes us) rest a.fit.0 fit (sym a.text ∙ text) in
    absurd (subst (λ (w : Triple). (w.name.split ≡ old.split → IsBehind old.last w.key w.name → ⊥)) (sym f.0) refused a.own.0 (rise-first old.last u us a.rise))

pub next-of : (p : RegionPair) (old new : RegionCursor) → new.last ≡ Some p → new.split ≡ old.split → old.left ≡ suc new.left
    → old.rest.now ≡ pair_bytes (lent_pair p) ++ new.rest.now → PairFits (lent_pair p) → p.name.split ≡ old.split → IsBehind old.last p.key.now p.name
    → IsNextOf (lent_pair p) old new
next-of p old new last split left text fit own behind = record { on = on; only = only; fewer = omega (arith, left) }
  where
    on : (us : List Triple) → AreAhead new us → AreAhead old (lent_pair p ∷ us)
    on us a = record {
      text = text ∙ ap (λ (l : List ℕ). pair_bytes (lent_pair p) ++ l) a.text;
      all = omega (arith, a.all, left);
      rise = rise-more old.last (lent_pair p) us behind (subst (λ (l : Option RegionPair). RiseBehind l us) last a.rise);
      own = (own, subst (λ (s : ℕ). AllByRecursion (λ (u : Triple). u.name.split ≡ s) us) split a.own);
      fit = (fit, a.fit);
    }

    only : (ts : List Triple) → AreAhead old ts → (us : List Triple) × (ts ≡ lent_pair p ∷ us) × AreAhead new us
    only [] a = absurd (omega (arith, a.all, left))
    only (u ∷ us) a =
        let f = pair-front u (lent_pair p) (flat_map pair_bytes us) new.rest.now a.fit.0 fit (sym a.text ∙ text) in (
          us,
          (λ i. f.0 i ∷ us),
          record {
            text = sym f.1;
            all = omega (arith, a.all, left);
            rise = subst (λ (l : Option RegionPair). RiseBehind l us) (sym last) (subst (λ (w : Triple). Rises pair_order (w ∷ us)) f.0 (rise-on old.last u us a.rise));
            own = subst (λ (s : ℕ). AllByRecursion (λ (w : Triple). w.name.split ≡ s) us) (sym split) a.own.1;
            fit = a.fit.1;
          },
        )

-- ---- pairs that are kept

pub none-some : (p : RegionPair) → ◌≡◌ {A = Option RegionPair} None (Some p) → ⊥
none-some p e = cc e

pub some-is : (p q : RegionPair) → Some p ≡ Some q → p ≡ q
some-is p q e = cc e

-- the pairs of the bytes are those that were kept and those that are still to come
pub record AreKept (bytes : List ℕ) (split partition : ℕ) (pairs : List Triple) (cursor : RegionCursor) : Type 0 where
  pub on : (us : List Triple) → AreAhead cursor us → SpellsRegion bytes split partition (pairs ++ us)
  pub left : (ts : List Triple) → SpellsRegion bytes split partition ts → (us : List Triple) × AreAhead cursor us
  pub key : (p : RegionPair) → cursor.last ≡ Some p → EndsWithKey pairs p.key.now

pub kept-start : (bytes : List ℕ) (split partition : ℕ) (cursor : RegionCursor) → IsOpened bytes split partition cursor → AreKept bytes split partition [] cursor
kept-start bytes split partition cursor o = record { on = o.on; left = λ ts h. (ts, o.only ts h); key = λ p e. absurd (none-some p (sym o.none ∙ e)) }

pub kept-more : (bytes : List ℕ) (split partition : ℕ) (pairs more : List Triple) (cursor later : RegionCursor) (p : RegionPair)
    → AreKept bytes split partition pairs cursor → IsNextOf (lent_pair p) cursor later → later.last ≡ Some p
    → more ≡ pairs ++ lent_pair p ∷ [] → EndsWithKey more p.key.now → AreKept bytes split partition more later
kept-more bytes split partition pairs more cursor later p kept next last is ends = record {
  on = λ us a. subst (SpellsRegion bytes split partition) (sym (ap (λ (l : List Triple). l ++ us) is ∙ append_assoc pairs (lent_pair p ∷ []) us)) (kept.on (lent_pair p ∷ us) (next.on us a));
  left = λ ts h. let was = kept.left ts h in let n = next.only was.0 was.1 in (n.0, n.2);
  key = λ q e. subst (λ (r : RegionPair). EndsWithKey more r.key.now) (some-is p q (sym last ∙ e)) ends;
}

-- a pair that has the key of the one before it
pub kept-again : (last : Option RegionPair) (key : List ℕ) (pairs : List Triple) → IsKeyOf last key → ((p : RegionPair) → last ≡ Some p → EndsWithKey pairs p.key.now)
    → EndsWithKey pairs key
kept-again None key pairs same ends = absurd same
kept-again (Some l) key pairs same ends = let e = ends l refl in (e.0, e.1 ∙ same)
