-- The entries that are passed on the way to the one of a name.
use Rattle.std.proofs.Common.{◌≡◌, ◌≢◌, ◌↔◌, ◌+◌, ◌<◌, ℕ, suc, List, [], ◌∷◌, length, get_or, drop, refl, sym, ap, subst, arith, inl, inr, ◌∙◌, Bool, true, false}
use Rattle.std.specs.Prelude.{string_bytes}
use Rattle.std.proofs.Math.Seq.{drop-cons}
use Rattle.mr_files.specs.declared.memory.Entry.{Entry}
use Rattle.mr_files.specs.Memory.{Found, Stands, OneContent, IsPut, IsUnreadable, IsUnwritable}

pass : (x : Entry) (xs : List Entry) (name : List ℕ) (e : Entry) → string_bytes x.name ≢ name → Found (x ∷ xs) name e → Found xs name e
pass x xs name e other (inl h) = absurd (other h.0)
pass x xs name e other (inr h) = h.1

-- an entry of another name is passed
pub found_more : (xs : List Entry) (i : ℕ) (d : Entry) (name : List ℕ) → i < length xs → string_bytes (get_or xs i d).name ≢ name
    → ((e : Entry) → Found (drop i xs) name e ↔ Found xs name e) → (e : Entry) → Found (drop (i + 1) xs) name e ↔ Found xs name e
found_more xs i d name h other same e =
    let here : drop i xs ≡ get_or xs i d ∷ drop (suc i) xs = drop-cons xs i d h in
    let next : suc i ≡ i + 1 = omega arith in (
      λ k. (same e).0 (subst (λ (v : List Entry). Found v name e) (sym here) (inr (other, subst (λ (v : ℕ). Found (drop v xs) name e) (sym next) k))),
      λ k. subst (λ (v : ℕ). Found (drop v xs) name e) next (pass (get_or xs i d) (drop (suc i) xs) name e other (subst (λ (v : List Entry). Found v name e) here ((same e).1 k))),
    )

-- the first entry of the name
pub found_here : (xs : List Entry) (i : ℕ) (d : Entry) (name : List ℕ) → i < length xs → string_bytes (get_or xs i d).name ≡ name
    → ((e : Entry) → Found (drop i xs) name e ↔ Found xs name e) → Found xs name (get_or xs i d)
found_here xs i d name h is same = (same (get_or xs i d)).0 (subst (λ (v : List Entry). Found v name (get_or xs i d)) (sym (drop-cons xs i d h)) (inl (is, refl)))

-- what is put stands under its name, and under other names stands what stood
pub put_stands : (old new : List Entry) (name bytes : List ℕ) (fails : Bool) → IsPut old new name bytes fails → Stands new name bytes
unfolding Stands IsPut
put_stands old new name bytes fails (e, n, b, f, is) = subst (λ (v : List Entry). (x : Entry) × Found v name x × (x.bytes.items ≡ bytes)) (sym is) (e, inl (n, refl), b)

stands_behind : (e : Entry) (es : List Entry) (m b : List ℕ) → string_bytes e.name ≢ m → Stands es m b ↔ Stands (e ∷ es) m b
unfolding Stands
stands_behind e es m b differs = ((λ (x, h, i). (x, inr (differs, h), i)), (λ (x, h, i). (x, pass e es m x differs h, i)))

pub put_others : (old new : List Entry) (name bytes : List ℕ) (fails : Bool) → IsPut old new name bytes fails → (m b : List ℕ) → m ≢ name → Stands old m b ↔ Stands new m b
unfolding IsPut
put_others old new name bytes fails (e, n, k, f, is) m b other =
    subst (λ (v : List Entry). Stands old m b ↔ Stands v m b) (sym is) (stands_behind e old m b (λ h. other (sym h ∙ n)))

pub same_others : (old new : List Entry) (name : List ℕ) → new ≡ old → (m b : List ℕ) → m ≢ name → Stands old m b ↔ Stands new m b
same_others old new name is m b other = subst (λ (v : List Entry). Stands old m b ↔ Stands v m b) (sym is) ((λ h. h), (λ h. h))

one_entry : (xs : List Entry) (name : List ℕ) (e d : Entry) → Found xs name e → Found xs name d → e ≡ d
one_entry [] name e d h k = absurd h
one_entry (x ∷ xs) name e d (inl h) (inl k) = h.1 ∙ sym k.1
one_entry (x ∷ xs) name e d (inl h) (inr k) = absurd (k.0 h.0)
one_entry (x ∷ xs) name e d (inr h) (inl k) = absurd (h.0 k.0)
one_entry (x ∷ xs) name e d (inr h) (inr k) = one_entry xs name e d h.1 k.1

behind_failing : (e : Entry) (es : List Entry) (m : List ℕ) (d : Entry) → e.fails ≡ false → Found (e ∷ es) m d → d.fails ≡ true → (x : Entry) × Found es m x × (x.fails ≡ true)
behind_failing e es m d f (inl h) fails = absurd (cc (f, h.1, fails))
behind_failing e es m d f (inr h) fails = (d, h.1, fails)

-- nothing else stands under its name
pub put_only : (old new : List Entry) (name bytes : List ℕ) (fails : Bool) → IsPut old new name bytes fails → (b : List ℕ) → Stands new name b → b ≡ bytes
unfolding Stands IsPut
put_only old new name bytes fails (e, n, k, f, is) b (d, found, same) = sym same ∙ (ap (λ (x : Entry). x.bytes.items) (one_entry new name d e found (subst (λ (v : List Entry). Found v name e) (sym is) (inl (n, refl)))) ∙ k)

-- what can't be written then couldn't be before
pub put_still : (old new : List Entry) (name bytes : List ℕ) → IsPut old new name bytes false → (m : List ℕ) → IsUnwritable new m → IsUnwritable old m
unfolding IsPut IsUnwritable
put_still old new name bytes (e, n, k, f, is) m (d, found, fails) = behind_failing e old m d f (subst (λ (v : List Entry). Found v m d) is found) fails

pub is_put : (old new : List Entry) (name bytes : List ℕ) (fails : Bool) (e : Entry) → string_bytes e.name ≡ name → e.bytes.items ≡ bytes → e.fails ≡ fails → new ≡ e ∷ old → IsPut old new name bytes fails
unfolding IsPut
is_put old new name bytes fails e n b f is = (e, n, b, f, is)

pub found_stands : (entries : List Entry) (name : List ℕ) (e : Entry) → Found entries name e → Stands entries name e.bytes.items
unfolding Stands
found_stands entries name e h = (e, h, refl)

pub unreadable_none : (entries : List Entry) (name : List ℕ) → ((e : Entry) → Found entries name e → ⊥) → IsUnreadable entries name
unfolding IsUnreadable
unreadable_none entries name h = inl h

pub unreadable_failing : (entries : List Entry) (name : List ℕ) (e : Entry) → Found entries name e → e.fails ≡ true → IsUnreadable entries name
unfolding IsUnreadable
unreadable_failing entries name e h f = inr (e, h, f)

pub unwritable_failing : (entries : List Entry) (name : List ℕ) (e : Entry) → Found entries name e → e.fails ≡ true → IsUnwritable entries name
unfolding IsUnwritable
unwritable_failing entries name e h f = (e, h, f)

-- at most one list of bytes stands under a name
pub one_content : OneContent
unfolding Stands
one_content xs name b k (e, h, is) (d, g, same) = sym is ∙ (ap (λ (x : Entry). x.bytes.items) (one_entry xs name e d h g) ∙ same)
