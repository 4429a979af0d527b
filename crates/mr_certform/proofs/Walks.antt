-- Items in a row: what stands up to the end is spelled so, and what is spelled stands.
use Rattle.std.proofs.Common.{◌≡◌, ℕ, zero, suc, ◌+◌, Option, Some, None, List, [], ◌∷◌, ◌++◌, length, take, refl, ap, sym, ◌∙◌, subst, inl, inr, ◌⊎◌, true, append_assoc}
use Rattle.std.proofs.lemmas.Bool.{false≢true}
use Rattle.std.proofs.Math.Seq.{take-append_seam}
use Rattle.mr_certform.specs.declared.grammar_state.Item.{Item}
use Rattle.mr_certform.specs.declared.grammar_state.Item.TheVariants.{Magic, End}
use Rattle.mr_certform.specs.declared.grammar_state.GrammarState.{GrammarState}
use Rattle.mr_certform.specs.declared.grammar_state.GrammarState.TheVariants.{AtMagic, AtJob, AtEnd, Behind}
use Rattle.mr_certform.specs.declared.version.Version.{Version}
use Rattle.mr_certform.specs.declared.version.Version.TheVariants.{V1, V2}
use Rattle.mr_certform.specs.Places.{behind}
use Rattle.mr_certform.specs.Spelling.{Front, magic, version_of, standing, walk, items_from, items_of, bytes_at, bytes_from, is_ended, stop}
use Rattle.mr_certform.specs.Grammar.{MayStand, InOrder, InOrderIn, Follow, AreBytes}
use Rattle.mr_certform.proofs.Fuel.{walk_from, walk-suc, items_here, items_none}
use Rattle.mr_certform.proofs.ItemLaws.{is_front, again, end_at}

-- ---- the end among items

ended_behind : (i : Item) (is : List Item) → is_ended (i ∷ is) ≡ true → (is_ended is ≡ true) ⊎ ((i ≡ End) × (is ≡ []))
ended_behind End [] e = inr (refl, refl)
ended_behind End (j ∷ js) e = inl e
ended_behind i is e = inl e

pub ended_more : (i : Item) (is : List Item) → is_ended is ≡ true → is_ended (i ∷ is) ≡ true
ended_more End [] e = absurd (false≢true e)
ended_more End (j ∷ js) e = e
ended_more i is e = e

ended_last : (i : Item) (is : List Item) → i ≡ End → is ≡ [] → is_ended (i ∷ is) ≡ true
ended_last i is e d = ap (λ (w : Item). is_ended (w ∷ is)) e ∙ ap (λ w. is_ended (End ∷ w)) d

module _ (v : Version) where
  -- behind the end nothing follows
  behind_end : (p : GrammarState) (i : Item) (is : List Item) → MayStand p i → Follow v (behind p i) is → i ≡ End → is ≡ []
  behind_end p i [] may h e = refl
  behind_end p i (j ∷ js) may h e =
      let at : p ≡ AtEnd = end_at p (subst (MayStand p) e may) in
      let place : behind p i ≡ Behind = ap (λ q. behind q i) at in
      let none : Follow v Behind (j ∷ js) = subst (λ q. Follow v q (j ∷ js)) place h in
      absurd (none.0)

  -- what is spelled stands
  pub stands : (p : GrammarState) (is : List Item) → Follow v p is → items_from v p (bytes_from v p is) ≡ is
  stands p [] h = items_none v p [] (ap (λ q. standing v q []) h)
  stands p (i ∷ is) h =
      let rest : List ℕ = bytes_from v (behind p i) is in
      let front : standing v p (bytes_at v p i ++ bytes_from v (behind p i) is) ≡ Some (record { item = i; rest = bytes_from v (behind p i) is }) =
      again v (bytes_from v (behind p i) is) p i h.0 h.1 (λ e. ap (bytes_from v (behind p i)) (behind_end p i is h.0 h.2 e)) in
      items_here v p (bytes_at v p i ++ bytes_from v (behind p i) is) (record { item = i; rest = bytes_from v (behind p i) is }) front ∙ ap (λ js. i ∷ js) (stands (behind p i) is h.2)

  abbrev pub Whole : GrammarState → List ℕ → List Item → Type 0
  Whole p bytes is = Follow v p is × (bytes ≡ bytes_from v p is)

  -- what stands up to the end follows, and is spelled so
  pub whole : (k : ℕ) (p : GrammarState) (bytes : List ℕ) → AreBytes bytes → is_ended (walk v k p bytes) ≡ true → Whole p bytes (walk v k p bytes)
  whole zero p bytes fits e = absurd (false≢true e)
  whole (suc k) p bytes fits e =
      subst (Whole p bytes) (sym (walk-suc v k p bytes)) (by (standing v p bytes) refl (subst (λ is. is_ended is ≡ true) (walk-suc v k p bytes) e) (λ q rest. whole k q rest))
    where
      by : (o : Option Front) → standing v p bytes ≡ o → is_ended (walk_from v k p o) ≡ true → ((q : GrammarState) (rest : List ℕ) → AreBytes rest → is_ended (walk v k q rest) ≡ true → Whole q rest (walk v k q rest)) → Whole p bytes (walk_from v k p o)
      by None is e more = absurd (false≢true e)
      by (Some f) is e more =
          let h = is_front v bytes fits p f is in
          elim (ended_behind f.item (walk v k (behind p f.item) f.rest) e) [
            | inl ends ↦ (let w = more (behind p f.item) f.rest h.rest ends in ((h.may, h.can, w.0), h.spelled ∙ ap (λ r. bytes_at v p f.item ++ r) w.1))
            | inr last ↦ (
                let at : p ≡ AtEnd = end_at p (subst (MayStand p) last.0 h.may) in
                let place : behind p f.item ≡ Behind = ap (λ q. behind q f.item) at in
                let none : Follow v (behind p f.item) (walk v k (behind p f.item) f.rest) = subst (Follow v (behind p f.item)) (sym last.1) place in
                let empty : f.rest ≡ bytes_from v (behind p f.item) (walk v k (behind p f.item) f.rest) = h.end last.0 ∙ ap (bytes_from v (behind p f.item)) (sym last.1) in
                ((h.may, h.can, none), h.spelled ∙ ap (λ r. bytes_at v p f.item ++ r) empty)
                )
          ]

  pub whole_from : (p : GrammarState) (bytes : List ℕ) → AreBytes bytes → is_ended (items_from v p bytes) ≡ true → Whole p bytes (items_from v p bytes)
  unfolding items_from
  whole_from p bytes fits e = whole (length bytes + 1) p bytes fits e

  -- ---- the items that stand are the longest such list

  none_behind : (is : List Item) → InOrderIn v Behind is → is ≡ []
  none_behind [] h = refl
  none_behind (i ∷ is) h = absurd (h.0)

  pub longest : (p : GrammarState) (is : List Item) (more : List ℕ) → InOrderIn v p is → (is_ended is ≡ true → more ≡ []) → (js : List Item) × (items_from v p (bytes_from v p is ++ more) ≡ is ++ js)
  longest p [] more h e = (items_from v p more, refl)
  longest p (i ∷ is) more h e =
      let rest : List ℕ = bytes_from v (behind p i) is ++ more in
      let last : i ≡ End → bytes_from v (behind p i) is ++ more ≡ [] = λ d. (
      let at : p ≡ AtEnd = end_at p (subst (MayStand p) d h.0) in
      let place : behind p i ≡ Behind = ap (λ q. behind q i) at in
      let none : is ≡ [] = none_behind is (subst (λ q. InOrderIn v q is) place h.2) in
      ap (λ js. bytes_from v (behind p i) js ++ more) none ∙ e (ended_last i is d none)
      ) in
      let front : standing v p (bytes_at v p i ++ (bytes_from v (behind p i) is ++ more)) ≡ Some (record { item = i; rest = bytes_from v (behind p i) is ++ more }) = again v (bytes_from v (behind p i) is ++ more) p i h.0 h.1 last in
      let ih = longest (behind p i) is more h.2 (λ d. e (ended_more i is d)) in (
        ih.0,
        ap (items_from v p) (append_assoc (bytes_at v p i) (bytes_from v (behind p i) is) more)
            ∙ (items_here v p (bytes_at v p i ++ (bytes_from v (behind p i) is ++ more)) (record { item = i; rest = bytes_from v (behind p i) is ++ more }) front ∙ ap (λ js. i ∷ js) ih.1),
      )

  -- ---- the bytes that are read, and those that are left

  abbrev Read : GrammarState → List ℕ → List Item → Type 0
  Read p bytes is = (rest : List ℕ) × InOrderIn v p is × (bytes ≡ bytes_from v p is ++ rest)

  read_within : (k : ℕ) (p : GrammarState) (bytes : List ℕ) → AreBytes bytes → Read p bytes (walk v k p bytes)
  read_within zero p bytes fits = (bytes, tt, refl)
  read_within (suc k) p bytes fits =
      subst (Read p bytes) (sym (walk-suc v k p bytes)) (by (standing v p bytes) refl (λ q rest. read_within k q rest))
    where
      by : (o : Option Front) → standing v p bytes ≡ o → ((q : GrammarState) (rest : List ℕ) → AreBytes rest → Read q rest (walk v k q rest)) → Read p bytes (walk_from v k p o)
      by None is more = (bytes, tt, refl)
      by (Some f) is more =
          let h = is_front v bytes fits p f is in
          let ih = more (behind p f.item) f.rest h.rest in
          (ih.0, (h.may, h.can, ih.1), h.spelled ∙ (ap (λ r. bytes_at v p f.item ++ r) ih.2 ∙ sym (append_assoc (bytes_at v p f.item) (bytes_from v (behind p f.item) (walk v k (behind p f.item) f.rest)) ih.0)))

-- the version that a magic tells
pub version_front : (v : Version) (rest : List ℕ) → version_of (magic v ++ rest) ≡ v
version_front V1 rest = refl
version_front V2 rest = refl

pub in_order : (v : Version) (p : GrammarState) (is : List Item) → InOrderIn v p is → InOrder p is
in_order v p [] h = tt
in_order v p (i ∷ is) h = (h.0, in_order v (behind p i) is h.2)

pub read_in : (bytes : List ℕ) → AreBytes bytes → InOrderIn (version_of bytes) AtMagic (items_of bytes) × (take (stop bytes) bytes ≡ bytes_from (version_of bytes) AtMagic (items_of bytes))
unfolding items_of items_from stop
read_in bytes fits =
    let r = read_within (version_of bytes) (length bytes + 1) AtMagic bytes fits in
    let front : List ℕ = bytes_from (version_of bytes) AtMagic (walk (version_of bytes) (length bytes + 1) AtMagic bytes) in (
      r.1,
      ap (take (length (bytes_from (version_of bytes) AtMagic (walk (version_of bytes) (length bytes + 1) AtMagic bytes)))) r.2
          ∙ take-append_seam (bytes_from (version_of bytes) AtMagic (walk (version_of bytes) (length bytes + 1) AtMagic bytes)) r.0,
    )

pub read_front : (bytes : List ℕ) → AreBytes bytes → InOrder AtMagic (items_of bytes) × (take (stop bytes) bytes ≡ bytes_from (version_of bytes) AtMagic (items_of bytes))
read_front bytes fits = let r = read_in bytes fits in (in_order (version_of bytes) AtMagic (items_of bytes) r.0, r.1)

pub longest_items : (v : Version) (bytes : List ℕ) (is : List Item) (more : List ℕ) → InOrderIn v AtMagic is → (is_ended is ≡ true → more ≡ []) → bytes ≡ bytes_from v AtMagic is ++ more → (js : List Item) × (items_of bytes ≡ is ++ js)
unfolding items_of
longest_items v bytes [] more h e d = (items_of bytes, refl)
longest_items v bytes (Magic ∷ is) more h e d =
    let l = longest v AtMagic (Magic ∷ is) more h e in
    let front : bytes ≡ magic v ++ (bytes_from v AtJob is ++ more) = d ∙ append_assoc (magic v) (bytes_from v AtJob is) more in
    let told : version_of bytes ≡ v = ap version_of front ∙ version_front v (bytes_from v AtJob is ++ more) in
    (l.0, ap (λ w. items_from w AtMagic bytes) told ∙ (ap (items_from v AtMagic) d ∙ l.1))
longest_items v bytes (i ∷ is) more h e d = absurd h.0
