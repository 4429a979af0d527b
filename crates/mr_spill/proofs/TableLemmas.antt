-- Pairs as numbers of keys and what they have beside them, and the pairs of each key.
use Rattle.std.proofs.Common.{◌≡◌, ℕ, zero, suc, ◌<◌, true, false, cond, List, [], ◌∷◌, ◌++◌, length, get_or, map, refl, sym, ◌∙◌, ap, arith, inl, inr, All}
use Rattle.std.proofs.lemmas.Bool.{cases_Bool, cases_eq, cases_lt}
use Rattle.std.proofs.lemmas.List.{length-map, map-append}
use Rattle.std.proofs.lemmas.List.Elements.{All-head, All-tail}
use Rattle.std.proofs.lemmas.Slice.Eq.{bytes_eq-Decides}
use Rattle.std.specs.List.{zip}
use Rattle.std.specs.Str.{bytes_eq}
use Rattle.mr_bytes.specs.Pairs.{Triple}
use Rattle.mr_group.specs.Buckets.{bucket}
use Rattle.mr_spill.specs.Entries.{Entry, beside, under_key}
use Rattle.mr_group.specs.Column.{keyed}
use Rattle.mr_spill.specs.Groups.{under}
use Rattle.mr_group.specs.Interner.{key_at}
use Rattle.mr_group.proofs.BucketLemmas.{bucket-cons, one-other, one-same}
use Rattle.mr_spill.proofs.EntryLemmas.{zip-length, zip-push}

abbrev pub pair_of : List ℕ × Entry → Triple
pair_of e = under_key e.0 e.1

pub beside-push : (ks : List (List ℕ)) (es : List Entry) (k : List ℕ) (e : Entry) → length es ≡ length ks
    → beside (ks ++ k ∷ []) (es ++ e ∷ []) ≡ beside ks es ++ under_key k e ∷ []
beside-push ks es k e same = ap (map pair_of) (zip-push ks es k e (sym same)) ∙ map-append pair_of (zip ks es) ((k, e) ∷ [])

pub length-beside : (ks : List (List ℕ)) (es : List Entry) → length es ≡ length ks → length (beside ks es) ≡ length ks
length-beside ks es same = length-map (zip ks es) pair_of ∙ zip-length ks es (sym same) ∙ same

pub beside-nth : (ks : List (List ℕ)) (es : List Entry) (i : ℕ) (e : Entry) (t : Triple) → i < length ks → length es ≡ length ks
    → get_or (beside ks es) i t ≡ under_key (key_at ks i) (get_or es i e)
beside-nth [] es i e t h same = absurd (omega (arith, h))
beside-nth (k ∷ ks) [] i e t h same = absurd (omega (arith, same))
beside-nth (k ∷ ks) (w ∷ es) zero e t h same = refl
beside-nth (k ∷ ks) (w ∷ es) (suc i) e t h same = beside-nth ks es i e t (omega (arith, h)) (omega (arith, same))

pub keys-beside : (ks : List (List ℕ)) (es : List Entry) → length es ≡ length ks → map (λ (t : Triple). t.key) (beside ks es) ≡ ks
keys-beside [] es same = refl
keys-beside (k ∷ ks) [] same = absurd (omega (arith, same))
keys-beside (k ∷ ks) (e ∷ es) same = ap (λ l. k ∷ l) (keys-beside ks es (omega (arith, same)))

-- ---- the pairs of a key

pub equal-bytes : (a b : List ℕ) → a ≡ b → bytes_eq a b ≡ true
equal-bytes a b e = (bytes_eq-Decides a b).1 e

other-bytes : (a b : List ℕ) → (a ≡ b → ⊥) → bytes_eq a b ≡ false
other-bytes a b ne = elim (cases_Bool (bytes_eq a b)) [ inl is ↦ absurd (ne ((bytes_eq-Decides a b).0 is)) | inr isnt ↦ isnt ]

module _ (ks : List (List ℕ)) (apart : (j k : ℕ) → j < k → k < length ks → key_at ks j ≡ key_at ks k → ⊥) where
  pub differ : (i k : ℕ) → i < length ks → k < length ks → (i ≡ k → ⊥) → key_at ks i ≡ key_at ks k → ⊥
  differ i k h g ne e = elim (cases_lt i k) [
    | inl low ↦ apart i k low g e
    | inr high ↦ apart k i (let less : k < i = grind (arith, high, ne) in less) h (sym e)
  ]

  -- the entries of a number, under its key, are the pairs of the key
  pub bucket-under : (is : List ℕ) (es : List Entry) (k : ℕ) → All (λ i. i < length ks) is → k < length ks
      → map (under_key (key_at ks k)) (bucket k (zip is es)) ≡ under (beside (keyed ks is) es) (key_at ks k)
  bucket-under [] es k all h = refl
  bucket-under (i ∷ is) [] k all h = refl
  bucket-under (i ∷ is) (e ∷ es) k all h =
      let rest = bucket-under is es k (All-tail (λ j. j < length ks) i is all) h in
      let t : Triple = under_key (key_at ks i) e in
      let us : List Triple = under (beside (keyed ks is) es) (key_at ks k) in
      elim (cases_eq i k) [
        | inl same ↦
            ap (map (under_key (key_at ks k))) (bucket-cons k (i, e) (zip is es) ∙ ap (λ l. l ++ bucket k (zip is es)) (one-same k (i, e) same))
            ∙ ap (λ l. under_key (key_at ks k) e ∷ l) rest
            ∙ ap (λ (j : ℕ). under_key (key_at ks j) e ∷ us) (sym same)
            ∙ sym (ap (λ b. cond b (t ∷ us) us) (equal-bytes (key_at ks i) (key_at ks k) (ap (key_at ks) same)))
        | inr other ↦
            ap (map (under_key (key_at ks k))) (bucket-cons k (i, e) (zip is es) ∙ ap (λ l. l ++ bucket k (zip is es)) (one-other k (i, e) other))
            ∙ rest
            ∙ sym (ap (λ b. cond b (t ∷ us) us) (other-bytes (key_at ks i) (key_at ks k) (differ i k (All-head (λ j. j < length ks) i is all) h other)))
      ]
