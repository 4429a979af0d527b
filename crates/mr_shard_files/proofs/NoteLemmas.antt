-- The notes of outputs, one behind another.
use Rattle.std.proofs.Common.{◌≡◌, ℕ, zero, suc, ◌+◌, ◌<◌, ◌++◌, List, [], ◌∷◌, get_or, length, length-append, refl, ap, sym, ◌∙◌, arith, take}
use Rattle.std.proofs.lemmas.List.{length-map, length-take-le}
use Rattle.std.specs.Prelude.{Vec}
use Rattle.std.specs.Global.{Global}
use Rattle.mr_input.specs.Files.{contents}
use Rattle.mr_files.specs.Names.{part_file, part_files}
use Rattle.mr_files.proofs.Lists.{names_more}
use Rattle.mr_shards.specs.Verdict.{Note}
use Rattle.mr_shards.specs.Truth.{AreNotesOf, note_for, notes_for}

notes_more : (ns fs : List (List ℕ)) (n f : List ℕ) → length ns ≡ length fs → notes_for (ns ++ n ∷ []) (fs ++ f ∷ []) ≡ notes_for ns fs ++ note_for n f ∷ []
notes_more [] [] n f e = refl
notes_more [] (g ∷ fs) n f e = absurd (omega (arith, e))
notes_more (m ∷ ns) [] n f e = absurd (omega (arith, e))
notes_more (m ∷ ns) (g ∷ fs) n f e = ap (λ (l : List Note). note_for m g ∷ l) (notes_more ns fs n f (omega (arith, e)))

files_next : (n : ℕ) → part_files (n + 1) ≡ part_files n ++ part_file n ∷ []
unfolding part_files
files_next n = let e : n + 1 ≡ suc n = omega arith in ap part_files e

pub files_count : (n : ℕ) → length (part_files n) ≡ n
unfolding part_files
files_count zero = refl
files_count (suc n) = let e = length-append (part_files n) (part_file n ∷ []) in let rest = files_count n in omega (arith, e, rest)

-- the note of one output more
pub notes_next : (fs : List (List ℕ)) (f : List ℕ) (n : ℕ) → length fs ≡ n → notes_for (part_files (n + 1)) (fs ++ f ∷ []) ≡ notes_for (part_files n) fs ++ note_for (part_file n) f ∷ []
notes_next fs f n e =
    ap (λ (l : List (List ℕ)). notes_for l (fs ++ f ∷ [])) (files_next n)
    ∙ notes_more (part_files n) fs (part_file n) f (files_count n ∙ sym e)

pub notes_of : (ns fs : List (List ℕ)) → length ns ≡ length fs → AreNotesOf (notes_for ns fs) fs
notes_of [] [] e = tt
notes_of [] (f ∷ fs) e = absurd (omega (arith, e))
notes_of (n ∷ ns) [] e = absurd (omega (arith, e))
notes_of (n ∷ ns) (f ∷ fs) e = ((refl, refl), notes_of ns fs (omega (arith, e)))

pub notes_none : notes_for (part_files 0) [] ≡ []
unfolding part_files
notes_none = refl

pub notes_pushed : (outputs : List (Vec ℕ Global)) (i : ℕ) (d : Vec ℕ Global) (notes after : List Note) (note : Note) (text : List ℕ) → i < length outputs → text ≡ (get_or outputs i d).items
    → note ≡ note_for (part_file i) text → after ≡ notes ++ note ∷ [] → notes ≡ notes_for (part_files i) (contents (take i outputs))
    → after ≡ notes_for (part_files (i + 1)) (contents (take (i + 1) outputs))
notes_pushed outputs i d notes after note text less is one more was =
    let before : List (List ℕ) = contents (take i outputs) in
    let here : List ℕ = (get_or outputs i d).items in
    let count : length before ≡ i = omega (arith, length-map (take i outputs) (λ o. o.items), length-take-le i outputs (omega (arith, less))) in
    more ∙ ap (λ (l : List Note). l ++ note ∷ []) was ∙ ap (λ (n : Note). notes_for (part_files i) before ++ n ∷ []) (one ∙ ap (note_for (part_file i)) is)
    ∙ sym (notes_next before here i count) ∙ ap (notes_for (part_files (i + 1))) (sym (names_more (λ o. o.items) outputs i d less))
