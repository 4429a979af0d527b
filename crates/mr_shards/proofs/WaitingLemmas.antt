-- What waits: values that are added to it, and what is written of it.
use Rattle.std.proofs.Common.{◌≡◌, ℕ, ◌+◌, ◌++◌, List, [], ◌∷◌, map, refl, ap, sym, ◌∙◌, subst, inl, inr, ◌⊎◌, true, false, Option, None, Some, Bor, replicate}
use Rattle.std.proofs.lemmas.List.{append-nil, append_assoc, replicate-append-replicate}
use Rattle.std.specs.Prelude.{Err, Ok, OnOk, Result}
use Rattle.std.specs.List.{flat_map}
use Rattle.mr_bytes.specs.declared.Value.{Value}
use Rattle.mr_bytes.specs.declared.Value.TheVariants.{One, At}
use Rattle.mr_jobs.specs.JobSpec.{JobSpec, group_text_of}
use Rattle.mr_jobs.specs.declared.job.GroupText.{GroupText}
use Rattle.mr_jobs.specs.declared.job.GroupText.TheVariants.{Count, Lines, Files as Listing}
use Rattle.mr_reduce.specs.Text.{place_line, text_for, text_of}
use Rattle.mr_reduce.specs.Writing.{file_text, last_file, values_text}
use Rattle.mr_sequential.proofs.SourceLemmas.{flat_map-append}
use Rattle.mr_shards.specs.declared.line.Line.{Line}
use Rattle.mr_shards.specs.declared.line.Tally.{Tally}
use Rattle.mr_shards.specs.declared.line.Tally.TheVariants.{Total, Place, Files}
use Rattle.mr_shards.specs.Merged.{Group, joined, written, written_texts}
use Rattle.mr_shards.specs.Lines.{joins, numbers_in, places_in}
use Rattle.mr_shards.specs.Cursors.{Goes, with_waiting}
use Rattle.mr_shards.specs.Portions.{Shift, shifted_value}
use Rattle.mr_shards.specs.Views.{HoldsFor, HoldsValues, IsFor, IsTallyFor, Waits, WaitsFor, group_of, values_of}

-- ---- values that are added

pub holds-total : (job : JobSpec) (t : Tally) (n : ℕ) (w v : Waits) (vs : List Value) → t ≡ Total n → IsFor job t → v.total ≡ w.total + n → HoldsValues job w vs → HoldsValues job v (vs ++ values_of t)
holds-total job t n w v vs is kind sum h = subst (λ (u : Tally). HoldsValues job v (vs ++ values_of u)) (sym is) (by (group_text_of job) (subst (IsFor job) is kind) h)
  where
    more : vs ≡ replicate w.total One → vs ++ replicate n One ≡ replicate v.total One
    more e = ap (λ (l : List Value). l ++ replicate n One) e ∙ replicate-append-replicate w.total n One ∙ ap (λ k. replicate k One) (sym sum)

    by : (form : GroupText) → IsTallyFor form (Total n) → HoldsFor form w vs → HoldsFor form v (vs ++ replicate n One)
    by Count k h = more h
    by form k h = absurd k

pub holds-place : (job : JobSpec) (t : Tally) (file offset : ℕ) (w v : Waits) (vs : List Value) → t ≡ Place file offset → IsFor job t → v.total ≡ w.total → v.key ≡ w.key
    → v.text ≡ w.text ++ text_of job w.key (At file offset ∷ []) → HoldsValues job w vs → HoldsValues job v (vs ++ values_of t)
holds-place job t file offset w v vs is kind total key text h = subst (λ (u : Tally). HoldsValues job v (vs ++ values_of u)) (sym is) (by (group_text_of job) (subst (IsFor job) is kind) text h)
  where
    by : (form : GroupText) → IsTallyFor form (Place file offset) → v.text ≡ w.text ++ text_for form w.key (At file offset ∷ []) → HoldsFor form w vs → HoldsFor form v (vs ++ At file offset ∷ [])
    by Lines k e h = (
      total ∙ h.0,
      e ∙ ap (λ (l : List ℕ). l ++ flat_map (place_line w.key) (At file offset ∷ [])) h.1 ∙ sym (flat_map-append (place_line w.key) vs (At file offset ∷ []))
          ∙ ap (λ (k : List ℕ). flat_map (place_line k) (vs ++ At file offset ∷ [])) (sym key),
    )
    by form k e h = absurd k

text-more : (o : Option ℕ) (vs ws : List Value) → values_text Listing [] o (vs ++ ws) ≡ values_text Listing [] o vs ++ values_text Listing [] (last_file o vs) ws
text-more o [] ws = refl
text-more o (One ∷ vs) ws = text-more o vs ws
text-more o (At file offset ∷ vs) ws =
    ap (λ (l : List ℕ). file_text o file ++ l) (text-more (Some file) vs ws)
    ∙ sym (append_assoc (file_text o file) (values_text Listing [] (Some file) vs) (values_text Listing [] (last_file (Some file) vs) ws))

last-more : (o : Option ℕ) (vs ws : List Value) → last_file o (vs ++ ws) ≡ last_file (last_file o vs) ws
last-more o [] ws = refl
last-more o (One ∷ vs) ws = last-more o vs ws
last-more o (At file offset ∷ vs) ws = last-more (Some file) vs ws

pub holds-files : (job : JobSpec) (t : Tally) (list : Bor (List ℕ)) (end : ℕ) (moved : Shift) (w v : Waits) (vs : List Value) → t ≡ Files list end moved → IsFor job t → v.total ≡ w.total → v.key ≡ w.key
    → v.text ≡ w.text ++ values_text Listing [] w.last (map (shifted_value moved) (places_in (numbers_in list.now)))
    → v.last ≡ last_file w.last (map (shifted_value moved) (places_in (numbers_in list.now))) → HoldsValues job w vs → HoldsValues job v (vs ++ values_of t)
holds-files job t list end moved w v vs is kind total key text last h =
    subst (λ (u : Tally). HoldsValues job v (vs ++ values_of u)) (sym is) (by (group_text_of job) (subst (IsFor job) is kind) h)
  where
    ws : List Value
    ws = map (shifted_value moved) (places_in (numbers_in list.now))

    by : (form : GroupText) → IsTallyFor form (Files list end moved) → HoldsFor form w vs → HoldsFor form v (vs ++ ws)
    by Listing k h = (
      total ∙ h.0,
      text ∙ (λ i. h.1 i ++ values_text Listing [] (h.2 i) ws)
          ∙ append_assoc w.key (9 ∷ values_text Listing [] None vs) (values_text Listing [] (last_file None vs) ws)
          ∙ (λ i. sym key i ++ 9 ∷ sym (text-more None vs ws) i),
      last ∙ ap (λ (o : Option ℕ). last_file o ws) h.2 ∙ sym (last-more None vs ws),
    )
    by form k h = absurd k

-- ---- a line is taken

-- a group waits that goes on with the line
abbrev pub Takes : JobSpec → Waits → Option Group → Group → List ℕ → List ℕ → Type 0
Takes job new w g old out = (next : Group) × WaitsFor job new (Some next) × Goes job w g next old out

pub take-joined : (job : JobSpec) (line : Line) (old new : Waits) (w : Option Group) (out : List ℕ) → old.some ≡ true → old.key ≡ line.key.now
    → ((vs : List Value) → HoldsValues job old vs → HoldsValues job new (vs ++ values_of line.tally)) → new.some ≡ old.some → new.key ≡ old.key → WaitsFor job old w
    → Takes job new w (group_of line) out out
take-joined job line old new None out some key holds same kept h = absurd (cc (sym some ∙ h))
take-joined job line old new (Some g) out some key holds same kept h = (
  joined g (group_of line),
  (same ∙ some, kept ∙ h.1, holds g.values h.2),
  inl (sym h.1 ∙ key, refl, refl),
)

pub take-apart : (job : JobSpec) (line : Line) (old begun new : Waits) (w : Option Group) (out out' : List ℕ)
    → (old.some ≡ true → (old.key ≡ line.key.now → ⊥) ⊎ (joins job ≡ false)) → WaitsFor job old w → out' ≡ out ++ written_texts job (with_waiting w [])
    → begun.some ≡ true → begun.key ≡ line.key.now → HoldsValues job begun []
    → ((vs : List Value) → HoldsValues job begun vs → HoldsValues job new (vs ++ values_of line.tally)) → new.some ≡ begun.some → new.key ≡ begun.key
    → Takes job new w (group_of line) out out'
take-apart job line old begun new None out out' apart h e some key none holds same kept = (
  group_of line,
  (same ∙ some, kept ∙ key, holds [] none),
  (refl, e ∙ append-nil out),
)
take-apart job line old begun new (Some g) out out' apart h e some key none holds same kept = (
  group_of line,
  (same ∙ some, kept ∙ key, holds [] none),
  inr (
    refl,
    e ∙ ap (λ (l : List ℕ). out ++ l) (append-nil (written (group_text_of job) g)),
    elim (apart h.0) [ inl ne ↦ inl (λ is. ne (h.1 ∙ is)) | inr lines ↦ inr lines ],
  ),
)

-- three facts of a call that succeeds make another
pub on-ok : {T E : Type 0} (r : Result T E) (A B C D : Type 0) → (A → B → C → D) → OnOk r A → OnOk r B → OnOk r C → OnOk r D
on-ok {T} {E} (Ok x) A B C D f a b c = f a b c
on-ok {T} {E} (Err e) A B C D f a b c = tt
