-- What a writer that was empty holds.
use Rattle.std.proofs.Common.{◌≡◌, ◌⊎◌, ℕ, ◌≤◌, List, [], ◌++◌, Option, Some, None, length, take, sym, ap, subst, ◌∙◌, inl, inr, arith, Result, Ok, Err}
use Rattle.std.specs.Prelude.{OnOk, OnErr}
use Rattle.std.proofs.lemmas.List.{take_all}
use Rattle.std.specs.Io.KnownBytes.{append_known}
use Rattle.mr_store.specs.Devices.{Seen, TookAll, TookSome}
use Rattle.mr_files.specs.Holding.{Agrees, Begins, Shrinks}

known : (was : Option (List ℕ)) (bytes b : List ℕ) → Agrees was [] → append_known was bytes ≡ Some b → b ≡ bytes
known None bytes b h e = absurd (cc e)
known (Some xs) bytes b h e = cc (e, ap (λ (v : List ℕ). v ++ bytes) h)

-- the bytes that it holds are a beginning of those that were to be written
pub held : {T E : Type 0} (r : Result T E) (was is : Seen) (bytes b : List ℕ) → Agrees was.contents [] → OnOk r (TookAll was is bytes) → OnErr r (TookSome was is bytes) → is.contents ≡ Some b
    → (k : ℕ) × (k ≤ length bytes) × (b ≡ take k bytes)
held (Ok v) was is bytes b h took some e = (length bytes, omega arith, known was.contents bytes b h (sym (ap (λ (w : Seen). w.contents) took) ∙ e) ∙ sym (take_all (length bytes) bytes (omega arith)))
held (Err v) was is bytes b h took (k, le, same) e = (k, le, known was.contents (take k bytes) b h (sym (ap (λ (w : Seen). w.contents) same) ∙ e))

pub either : {A B C D : Type 0} → (A → C) → (B → D) → A ⊎ B → C ⊎ D
either f g (inl a) = inl (f a)
either f g (inr b) = inr (g b)

pub begun : {T E : Type 0} (r : Result T E) (was is : Seen) (bytes : List ℕ) (old mid new : List ℕ → List ℕ → Type 0) (name first last : List ℕ)
    → Agrees was.contents [] → OnOk r (TookAll was is bytes) → OnErr r (TookSome was is bytes) → first ≡ name → last ≡ name
    → Shrinks old mid first → ((b : List ℕ) → new last b → mid last b ⊎ (is.contents ≡ Some b)) → Begins old new name bytes
begun r was is bytes old mid new name first last h took some f l shrinks begins b stands =
    either (λ p. subst (λ (n : List ℕ). old n b) f (shrinks b (subst (λ (n : List ℕ). mid n b) (l ∙ sym f) p))) (λ e. held r was is bytes b h took some e)
    (begins b (subst (λ (n : List ℕ). new n b) (sym l) stands))
