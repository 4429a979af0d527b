-- The emissions that entries show, as key bytes are appended.
use Rattle.std.proofs.Common.{◌≡◌, ℕ, ◌+◌, ◌-◌, ◌≤◌, List, [], ◌∷◌, ◌++◌, All, length, take, drop, refl, sym, ◌∙◌, ap, subst, arith, slice_range, length-append, append_assoc}
use Rattle.std.specs.List.{AllByRecursion}
use Rattle.std.proofs.lemmas.List.{drop-append-le, take-append-le, take_all, length-drop, map-append}
use Rattle.std.proofs.lemmas.List.Elements.{All-push, recursion_from_All}
use Rattle.std.proofs.Math.Seq.{drop-append_seam}
use Rattle.mr_bytes.specs.declared.Value.{Value}
use Rattle.mr_jobs.specs.declared.emissions.Entry.{Entry}
use Rattle.mr_jobs.specs.Emissions.{Emission}
use Rattle.mr_jobs.specs.Views.{IsIn, entries_seen, emission_at, entry_for}

range_kept : (keys more : List ℕ) (s e : ℕ) → s ≤ e → e ≤ length keys → slice_range (keys ++ more) s e ≡ slice_range keys s e
range_kept keys more s e order within =
    ap (take (e - s)) (drop-append-le s keys more (omega arith))
    ∙ take-append-le (e - s) (drop s keys) more (omega (arith, length-drop s keys))

seen-kept : (keys more : List ℕ) (es : List Entry) → AllByRecursion (IsIn keys) es → entries_seen (keys ++ more) es ≡ entries_seen keys es
seen-kept keys more [] h = refl
seen-kept keys more (e ∷ es) h =
    ap (λ k. (k, e.value) ∷ entries_seen (keys ++ more) es) (range_kept keys more e.start e.end h.0.0 h.0.1)
    ∙ ap (λ l. emission_at keys e ∷ l) (seen-kept keys more es h.1)

range_last : (keys key : List ℕ) → slice_range (keys ++ key) (length keys) (length keys + length key) ≡ key
range_last keys key =
    ap (take (length keys + length key - length keys)) (drop-append_seam keys key)
    ∙ take_all (length keys + length key - length keys) key (omega arith)

-- one emission more
pub seen-push : (keys key : List ℕ) (value : Value) (es : List Entry) → All (IsIn keys) es
    → entries_seen (keys ++ key) (es ++ entry_for keys key value ∷ []) ≡ entries_seen keys es ++ (key, value) ∷ []
seen-push keys key value es h =
    map-append (emission_at (keys ++ key)) es (entry_for keys key value ∷ [])
    ∙ ap (λ l. l ++ emission_at (keys ++ key) (entry_for keys key value) ∷ []) (seen-kept keys key es (recursion_from_All (IsIn keys) es h))
    ∙ ap (λ k. entries_seen keys es ++ (k, value) ∷ []) (range_last keys key)

pub is_in-push : (keys key : List ℕ) (value : Value) (es : List Entry) → All (IsIn keys) es
    → All (IsIn (keys ++ key)) (es ++ entry_for keys key value ∷ [])
is_in-push keys key value es h =
    All-push (IsIn (keys ++ key)) es (entry_for keys key value)
    (λ k d less. (omega (arith, (h k d less).0), omega (arith, length-append keys key, (h k d less).1)))
    (omega arith, omega (arith, length-append keys key))

-- what is kept of a list that grows twice
pub take-kept : {A : Type 0} (n : ℕ) (first now more later : List A) → later ≡ now ++ more → n ≤ length now → take n now ≡ first → take n later ≡ first
take-kept n first now more later is h e = ap (take n) is ∙ take-append-le n now more h ∙ e

-- a turn of the loop that appends what an emitter has left
pub all-more : (keys key more : List ℕ) (value : Value) (es more_es : List Entry) (emitter left goal : List Emission) → All (IsIn keys) es
    → more ≡ keys ++ key → more_es ≡ es ++ entry_for keys key value ∷ [] → emitter ≡ (key, value) ∷ left
    → entries_seen keys es ++ emitter ≡ goal → entries_seen more more_es ++ left ≡ goal
all-more keys key more value es more_es emitter left goal within keys_is es_is emitter_is before =
    ap (λ ks. entries_seen ks more_es ++ left) keys_is ∙ ap (λ l. entries_seen (keys ++ key) l ++ left) es_is
    ∙ ap (λ l. l ++ left) (seen-push keys key value es within)
    ∙ append_assoc (entries_seen keys es) ((key, value) ∷ []) left ∙ ap (λ l. entries_seen keys es ++ l) (sym emitter_is) ∙ before

pub within-more : (keys key more : List ℕ) (value : Value) (es more_es : List Entry) → All (IsIn keys) es
    → more ≡ keys ++ key → more_es ≡ es ++ entry_for keys key value ∷ [] → All (IsIn more) more_es
within-more keys key more value es more_es within keys_is es_is =
    subst (λ (ks : List ℕ). All (IsIn ks) more_es) (sym keys_is)
    (subst (λ (l : List Entry). All (IsIn (keys ++ key)) l) (sym es_is) (is_in-push keys key value es within))
