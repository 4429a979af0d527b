-- The identities of names, one name more.
use Rattle.std.proofs.Common.{◌≡◌, ◌↔◌, ◌⊎◌, inl, inr, ℕ, zero, suc, Bool, true, false, cond, Option, Some, None, List, [], ◌∷◌, ◌++◌, refl, sym, ap, ◌∙◌, subst, append_assoc, append-nil, arith}
use Rattle.std.specs.Prelude.{Contains, unwrap_or}
use Rattle.std.specs.List.{AllByRecursion}
use Rattle.std.specs.Str.{bytes_eq}
use Rattle.std.specs.Cmp.Lexicographic.{bytes_decides}
use Rattle.std.specs.declared.string.String.{String}
use Rattle.std.specs.Global.{Global}
use Rattle.std.specs.BTreeSet.{BTreeSet, contains_text}
use Rattle.std.proofs.lemmas.List.Elements.{Contains-append_left, Contains-append_right, Contains-push, Contains-push_cases}
use Rattle.mr_files.specs.Identities.{AreApart, AreKnown, AreOthers, AreTwo, HasSeen, IsFirstShared, Known, Sees}

known_more : (known : Known) (ns : List (List ℕ)) (is : List (Option (List ℕ))) (n : List ℕ) (i : Option (List ℕ)) → AreKnown known ns is → known n i → AreKnown known (ns ++ n ∷ []) (is ++ i ∷ [])
known_more known [] [] n i k h = (h, tt)
known_more known [] (j ∷ is) n i k h = absurd k
known_more known (m ∷ ns) [] n i k h = absurd k
known_more known (m ∷ ns) (j ∷ is) n i k h = (k.0, known_more known ns is n i k.1 h)

some_is : (a b : List ℕ) → ◌≡◌ {A = Option (List ℕ)} (Some a) (Some b) → a ≡ b
some_is a b e = ap (λ (o : Option (List ℕ)). unwrap_or o []) e

module _ (old new : BTreeSet (String Global)) (ids : List (Option (List ℕ))) (just : (id : List ℕ) → contains_text old id ≡ true ↔ Contains ids (Some id)) where
  just_more : (i : Option (List ℕ)) (was : Bool) → Sees old new i was → (id : List ℕ) → contains_text new id ≡ true ↔ Contains (ids ++ i ∷ []) (Some id)
  just_more None was s id = subst (λ (v : BTreeSet (String Global)). contains_text v id ≡ true ↔ Contains (ids ++ None ∷ []) (Some id)) (sym s.1)
      ((λ h. Contains-append_left ids (None ∷ []) (Some id) ((just id).0 h)), (λ h. (just id).1 (kept (Contains-push_cases ids None (Some id) h))))
    where
      kept : Contains ids (Some id) ⊎ (None ≡ Some id) → Contains ids (Some id)
      kept (inl h) = h
      kept (inr e) = absurd (cc e)
  just_more (Some own) was s id = (
    (λ h. to (bytes_eq own id) (bytes_decides own id).0 (sym (s.1 id) ∙ h)),
    (λ h. s.1 id ∙ from (bytes_eq own id) (bytes_decides own id).1 (Contains-push_cases ids (Some own) (Some id) h)),
  )
    where
      to : (b : Bool) → (b ≡ true → own ≡ id) → cond b true (contains_text old id) ≡ true → Contains (ids ++ Some own ∷ []) (Some id)
      to true same h = subst (λ (v : List ℕ). Contains (ids ++ Some own ∷ []) (Some v)) (same refl) (Contains-push ids (Some own))
      to false same h = Contains-append_left ids (Some own ∷ []) (Some id) ((just id).0 h)

      from : (b : Bool) → (own ≡ id → b ≡ true) → Contains ids (Some id) ⊎ (Some own ≡ Some id) → cond b true (contains_text old id) ≡ true
      from true same h = refl
      from false same (inl h) = (just id).1 h
      from false same (inr e) = absurd (cc (same (some_is own id e)))

  -- what wasn't seen has another identity than each of these names
  all_two : (known : Known) (names : List (List ℕ)) (js : List (Option (List ℕ))) (name : List ℕ) (own : Option (List ℕ)) → AreKnown known names js → known name own
      → ((id : List ℕ) → own ≡ Some id → ¬ Contains js (Some id)) → AllByRecursion (AreTwo known name) names
  all_two known [] [] name own k h other = tt
  all_two known [] (j ∷ js) name own k h other = absurd k
  all_two known (n ∷ ns) [] name own k h other = absurd k
  all_two known (n ∷ ns) (j ∷ js) name own k h other = (
    (own, j, h, k.0, others own other),
    all_two known ns js name own k.1 h (λ id e c. other id e (Contains-append_right (j ∷ []) js (Some id) c)),
  )
    where
      others : (o : Option (List ℕ)) → ((id : List ℕ) → o ≡ Some id → ¬ Contains (j ∷ js) (Some id)) → AreOthers o j
      others None f = tt
      others (Some id) f = λ e. f id refl (zero, omega arith, e)

  not_again : (i : Option (List ℕ)) (was : Bool) → Sees old new i was → was ≡ false → (id : List ℕ) → i ≡ Some id → ¬ Contains ids (Some id)
  not_again None was s e id is = λ h. absurd (cc is)
  not_again (Some own) was s e id is = λ h.
      let there : contains_text old own ≡ true = (just own).1 (subst (λ (v : List ℕ). Contains ids (Some v)) (sym (some_is own id is)) h) in
      cc (e, s.0, there)

  has_been : (i : Option (List ℕ)) (was : Bool) → Sees old new i was → was ≡ true → (own : List ℕ) × (i ≡ Some own) × Contains ids (Some own)
  has_been None was s e = absurd (cc (e, s.0))
  has_been (Some own) was s e = (own, refl, (just own).0 (sym s.0 ∙ e))

-- which of the names has an identity
named_so : (known : Known) (names : List (List ℕ)) (ids : List (Option (List ℕ))) (id : List ℕ) → AreKnown known names ids → Contains ids (Some id) → (n : List ℕ) × Contains names n × known n (Some id)
named_so known [] [] id k c = absurd (omega (arith, c.1))
named_so known [] (i ∷ is) id k c = absurd k
named_so known (n ∷ ns) [] id k c = absurd k
named_so known (n ∷ ns) (i ∷ is) id k (zero, less, e) = (n, (zero, omega arith, refl), subst (known n) e k.0)
named_so known (n ∷ ns) (i ∷ is) id k (suc at, less, e) =
    let found = named_so known ns is id k.1 (at, omega (arith, less), e) in
    (found.0, Contains-append_right (n ∷ []) ns found.0 found.1, found.2)

apart_more : (known : Known) (read written : List (List ℕ)) (name : List ℕ) → AreApart known read written → AllByRecursion (AreTwo known name) (read ++ written) → AreApart known read (written ++ name ∷ [])
apart_more known read [] name a all = (subst (AllByRecursion (AreTwo known name)) (append-nil read) all, tt)
apart_more known read (w ∷ ws) name a all = (a.0, apart_more known (read ++ w ∷ []) ws name a.1 (subst (AllByRecursion (AreTwo known name)) (sym (append_assoc read (w ∷ []) ws)) all))

-- one name more is seen
pub seen_more : (known : Known) (old new : BTreeSet (String Global)) (names all : List (List ℕ)) (name : List ℕ) (i : Option (List ℕ)) (was : Bool)
    → all ≡ names ++ name ∷ [] → HasSeen known old names → known name i → Sees old new i was → HasSeen known new all
seen_more known old new names all name i was is h k s = subst (HasSeen known new) (sym is) (record {
  ids = h.ids ++ i ∷ [];
  are = known_more known names h.ids name i h.are k;
  just = just_more old new h.ids h.just i was s;
})

-- a file that wasn't seen yet
pub apart_next : (known : Known) (old new : BTreeSet (String Global)) (read written all : List (List ℕ)) (name : List ℕ) (i : Option (List ℕ)) (was : Bool)
    → all ≡ written ++ name ∷ [] → HasSeen known old (read ++ written) → known name i → Sees old new i was → was ≡ false → AreApart known read written → AreApart known read all
apart_next known old new read written all name i was is h k s e a =
    subst (AreApart known read) (sym is) (apart_more known read written name a (all_two old new h.ids h.just known (read ++ written) h.ids name i h.are k (not_again old new h.ids h.just i was s e)))

-- one that was
pub shared_here : (known : Known) (old new : BTreeSet (String Global)) (read written before after : List (List ℕ)) (name told : List ℕ) (i : Option (List ℕ)) (was : Bool)
    → written ≡ before ++ name ∷ after → told ≡ name → HasSeen known old (read ++ before) → known name i → Sees old new i was → was ≡ true → AreApart known read before → IsFirstShared known read written told
shared_here known old new read written before after name told i was is same h k s e a =
    let (own, is_own, again) = has_been old new h.ids h.just i was s e in
    let (other, of_them, known_so) = named_so known (read ++ before) h.ids own h.are again in
    subst (IsFirstShared known read written) (sym same) (record {
      before = before;
      after = after;
      names_are = is;
      first = a;
      other = other;
      of_them = of_them;
      shared = (own, subst (known name) is_own k, known_so);
    })
