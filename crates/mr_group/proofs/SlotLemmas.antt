-- Slots of keys, with one key more.
use Rattle.std.proofs.Common.{◌≡◌, ℕ, ◌<◌, List, [], ◌∷◌, ◌++◌, length, All, ap, sym, subst, ◌∙◌, arith, length-append}
use Rattle.std.proofs.Math.Seq.{get_or-append_seam}
use Rattle.std.proofs.lemmas.List.{get_or_append_left}
use Rattle.mr_group.specs.Print.{IsPrint}
use Rattle.mr_group.specs.Interner.{IsSlotOf, key_at}
use Rattle.mr_group.specs.declared.slots.Slot.{Slot}

-- a slot of keys is one where they are more
slot-more : (keys : List (List ℕ)) (key : List ℕ) (s : Slot) → IsSlotOf keys s → IsSlotOf (keys ++ key ∷ []) s
slot-more keys key s is short =
    let was = is short in
    let same : key_at (keys ++ key ∷ []) s.number ≡ key_at keys s.number = get_or_append_left keys (key ∷ []) [] s.number was.0 in
    (omega (arith, was.0, length-append keys (key ∷ [])), ap length same ∙ was.1, subst (IsPrint s.print) (sym same) was.2)

pub slots-more : (keys : List (List ℕ)) (key : List ℕ) (slots : List Slot) → All (IsSlotOf keys) slots → All (IsSlotOf (keys ++ key ∷ [])) slots
slots-more keys key slots all = λ k d h. slot-more keys key _ (all k d h)

-- the slot of the last key
pub slot-last : (keys : List (List ℕ)) (key : List ℕ) (s : Slot) → s.number ≡ length keys → (s.length < 17 → s.length ≡ length key) → IsPrint s.print key → IsSlotOf (keys ++ key ∷ []) s
slot-last keys key s number tells print short =
    let last : key_at (keys ++ key ∷ []) s.number ≡ key = ap (key_at (keys ++ key ∷ [])) number ∙ get_or-append_seam keys key [] [] in
    (omega (arith, number, length-append keys (key ∷ [])), ap length last ∙ sym (tells short), subst (IsPrint s.print) (sym last) print)
