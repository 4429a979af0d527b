-- Names seen before.
use Rattle.std.proofs.Common.{◌≡◌, ◌⊎◌, inl, inr, ℕ, zero, suc, ◌+◌, ◌<◌, ◌++◌, Bool, true, false, cond, List, [], ◌∷◌, length, map, take, get_or, refl, ap, sym, ◌∙◌, subst, arith, ◌||◌, ◌↔◌}
use Rattle.std.proofs.lemmas.List.{append-nil}
use Rattle.mr_shards.specs.Gaps.{goes_on_at}
use Rattle.mr_shards.specs.RangeNotes.{RangeNote, goes_on, names_from, names_of}
use Rattle.std.specs.Prelude.{not}
use Rattle.std.specs.List.{list_any}
use Rattle.std.specs.Ordering.{is_eq, match_ordering}
use Rattle.std.specs.Str.{bytes_eq}
use Rattle.std.specs.declared.cmp.Ordering.{Ordering}
use Rattle.std.specs.declared.cmp.Ordering.TheVariants.{Less, Equal, Greater}
use Rattle.std.specs.BTreeSet.{insert_key}
use Rattle.mr_bytes.specs.Lists.{Distinct, Has}
use Rattle.mr_bytes.proofs.ListLaws.{Distinct-append, Has-append_cases, Has-append_left, Has-append_right}
use Rattle.mr_sequential.proofs.KeyLaws.{bytes_eq-is, bytes_eq-same}

pub not-false : (b : Bool) → not b ≡ false → b ≡ true
not-false true e = refl
not-false false e = absurd (cc e)

-- keys by their bytes, where a comparison tells bytes apart
module _ {X : Type 0} (f : X → List ℕ) (cmp : X → X → Ordering) (ties : (a b : X) → is_eq (cmp a b) ≡ bytes_eq (f a) (f b)) where
  pub any-has : (k : X) (xs : List X) → list_any (λ x. is_eq (cmp k x)) xs ≡ true → Has (map f xs) (f k)
  any-has k [] e = absurd (cc e)
  any-has k (x ∷ xs) e = by (is_eq (cmp k x)) refl e (any-has k xs)
    where
      by : (b : Bool) → is_eq (cmp k x) ≡ b → (b || list_any (λ y. is_eq (cmp k y)) xs) ≡ true → (list_any (λ y. is_eq (cmp k y)) xs ≡ true → Has (map f xs) (f k)) → Has (f x ∷ map f xs) (f k)
      by true is h rest = inl (sym (bytes_eq-is (f k) (f x) (sym (ties k x) ∙ is)))
      by false is h rest = inr (rest h)

  pub has-any : (k : X) (xs : List X) → Has (map f xs) (f k) → list_any (λ x. is_eq (cmp k x)) xs ≡ true
  has-any k [] h = absurd h
  has-any k (x ∷ xs) (inl e) =
      let same : is_eq (cmp k x) ≡ true = ties k x ∙ ap (bytes_eq (f k)) e ∙ bytes_eq-same (f k) in
      ap (λ b. b || list_any (λ y. is_eq (cmp k y)) xs) same
  has-any k (x ∷ xs) (inr h) = by (is_eq (cmp k x)) (has-any k xs h)
    where
      by : (b : Bool) → list_any (λ y. is_eq (cmp k y)) xs ≡ true → (b || list_any (λ y. is_eq (cmp k y)) xs) ≡ true
      by true rest = refl
      by false rest = rest

  pub inserted : (k : X) (xs : List X) (n : List ℕ) → Has (map f (insert_key cmp xs k)) n → Has (map f xs) n ⊎ (f k ≡ n)
  inserted k [] n (inl e) = inr e
  inserted k [] n (inr h) = absurd h
  inserted k (x ∷ xs) n h = by (cmp k x) h (inserted k xs n)
    where
      later : Has (map f xs) n ⊎ (f k ≡ n) → Has (f x ∷ map f xs) n ⊎ (f k ≡ n)
      later (inl a) = inl (inr a)
      later (inr e) = inr e

      front : Has (f k ∷ f x ∷ map f xs) n → Has (f x ∷ map f xs) n ⊎ (f k ≡ n)
      front (inl e) = inr e
      front (inr a) = inl a

      back : Has (f x ∷ map f (insert_key cmp xs k)) n → (Has (map f (insert_key cmp xs k)) n → Has (map f xs) n ⊎ (f k ≡ n)) → Has (f x ∷ map f xs) n ⊎ (f k ≡ n)
      back (inl e) rest = inl (inl e)
      back (inr a) rest = later (rest a)

      by : (o : Ordering) → Has (map f (match_ordering o (k ∷ x ∷ xs) (x ∷ xs) (x ∷ insert_key cmp xs k))) n → (Has (map f (insert_key cmp xs k)) n → Has (map f xs) n ⊎ (f k ≡ n)) → Has (f x ∷ map f xs) n ⊎ (f k ≡ n)
      by Less a rest = front a
      by Equal a rest = inl a
      by Greater a rest = back a rest

  pub keeps : (k : X) (xs : List X) (n : List ℕ) → Has (map f xs) n → Has (map f (insert_key cmp xs k)) n
  keeps k [] n h = absurd h
  keeps k (x ∷ xs) n h = by (cmp k x) h (keeps k xs n)
    where
      back : Has (f x ∷ map f xs) n → (Has (map f xs) n → Has (map f (insert_key cmp xs k)) n) → Has (f x ∷ map f (insert_key cmp xs k)) n
      back (inl e) rest = inl e
      back (inr a) rest = inr (rest a)

      by : (o : Ordering) → Has (f x ∷ map f xs) n → (Has (map f xs) n → Has (map f (insert_key cmp xs k)) n) → Has (map f (match_ordering o (k ∷ x ∷ xs) (x ∷ xs) (x ∷ insert_key cmp xs k))) n
      by Less a rest = inr a
      by Equal a rest = a
      by Greater a rest = back a rest

  pub puts : (k : X) (xs : List X) → Has (map f (insert_key cmp xs k)) (f k)
  puts k [] = inl refl
  puts k (x ∷ xs) = by (cmp k x) (ties k x) (puts k xs)
    where
      by : (o : Ordering) → is_eq o ≡ bytes_eq (f k) (f x) → Has (map f (insert_key cmp xs k)) (f k) → Has (map f (match_ordering o (k ∷ x ∷ xs) (x ∷ xs) (x ∷ insert_key cmp xs k))) (f k)
      by Less e rest = inl refl
      by Equal e rest = inl (sym (bytes_eq-is (f k) (f x) (sym e)))
      by Greater e rest = inr rest

-- the names that begin among the ranges behind this one, with one range more
from-next : (m : RangeNote) (ns : List RangeNote) (i : ℕ) (d : RangeNote) → i < length ns
    → names_from m (take (suc i) ns) ≡ names_from m (take i ns) ++ cond (goes_on_at (m ∷ ns) (suc i)) [] ((get_or ns i d).name ∷ [])
from-next m [] i d less = absurd (omega (arith, less))
from-next m (n ∷ ns) zero d less = refl
from-next m (n ∷ ns) (suc i) d less = ap (λ l. cond (goes_on m n) l (n.name ∷ l)) (from-next n ns i d (omega (arith, less))) ∙ by (goes_on m n)
  where
    more : List (List ℕ)
    more = cond (goes_on_at (n ∷ ns) (suc i)) [] ((get_or ns i d).name ∷ [])

    by : (b : Bool) → cond b (names_from n (take i ns) ++ more) (n.name ∷ (names_from n (take i ns) ++ more)) ≡ cond b (names_from n (take i ns)) (n.name ∷ names_from n (take i ns)) ++ more
    by true = refl
    by false = refl

names-next : (ns : List RangeNote) (i : ℕ) (d : RangeNote) → i < length ns
    → names_of (take (i + 1) ns) ≡ names_of (take i ns) ++ cond (goes_on_at ns i) [] ((get_or ns i d).name ∷ [])
names-next ns i d less = (let e : i + 1 ≡ suc i = omega arith in ap (λ k. names_of (take k ns)) e) ∙ by ns i less
  where
    by : (ns : List RangeNote) (i : ℕ) → i < length ns → names_of (take (suc i) ns) ≡ names_of (take i ns) ++ cond (goes_on_at ns i) [] ((get_or ns i d).name ∷ [])
    by [] i less = absurd (omega (arith, less))
    by (n ∷ ns) zero less = refl
    by (n ∷ ns) (suc i) less = ap (λ l. n.name ∷ l) (from-next n ns i d (omega (arith, less)))

-- those seen are the names of the first, and these differ
pub record AreSeen (seen names : List (List ℕ)) : Type 0 where
  pub same : (n : List ℕ) → Has seen n ↔ Has names n
  pub once : Distinct names

only : (n m : List ℕ) → Has (n ∷ []) m → n ≡ m
only n m (inl e) = e
only n m (inr h) = absurd h

-- the name of a range that goes on was seen, and one that begins is new
pub seen-same : (ns : List RangeNote) (i : ℕ) (d : RangeNote) (seen : List (List ℕ)) → i < length ns → goes_on_at ns i ≡ true
    → AreSeen seen (names_of (take i ns)) → AreSeen seen (names_of (take (i + 1) ns))
seen-same ns i d seen less goes was =
    subst (AreSeen seen) (sym (names-next ns i d less ∙ ap (λ b. names_of (take i ns) ++ cond b [] ((get_or ns i d).name ∷ [])) goes ∙ append-nil (names_of (take i ns)))) was

pub seen-next : (ns : List RangeNote) (i : ℕ) (d : RangeNote) (old new : List (List ℕ)) (n : List ℕ) → i < length ns → n ≡ (get_or ns i d).name → goes_on_at ns i ≡ false
    → AreSeen old (names_of (take i ns)) → (Has old n → ⊥) → ((m : List ℕ) → Has new m ↔ (Has old m ⊎ (n ≡ m))) → AreSeen new (names_of (take (i + 1) ns))
seen-next ns i d old new n less is begins was fresh grows =
    subst (AreSeen new) (sym (names-next ns i d less ∙ ap (λ b. names ++ cond b [] ((get_or ns i d).name ∷ [])) begins ∙ ap (λ (m : List ℕ). names ++ m ∷ []) (sym is))) (record {
      same = λ m. (λ h. to m ((grows m).0 h), λ h. (grows m).1 (from m (Has-append_cases names (n ∷ []) m h)));
      once = Distinct-append names (n ∷ []) was.once ((λ h. h), tt) (λ m h k. fresh ((was.same n).1 (subst (Has names) (sym (only n m k)) h)));
    })
  where
    names : List (List ℕ)
    names = names_of (take i ns)

    to : (m : List ℕ) → Has old m ⊎ (n ≡ m) → Has (names ++ n ∷ []) m
    to m (inl h) = Has-append_left names (n ∷ []) m ((was.same m).0 h)
    to m (inr e) = Has-append_right names (n ∷ []) m (inl e)

    from : (m : List ℕ) → Has names m ⊎ Has (n ∷ []) m → Has old m ⊎ (n ≡ m)
    from m (inl h) = inl ((was.same m).1 h)
    from m (inr k) = inr (only n m k)
