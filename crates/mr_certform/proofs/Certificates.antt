-- Bytes and certificates.
use Rattle.std.proofs.Common.{◌≡◌, ℕ, List, [], ◌∷◌, ◌++◌, true, false, refl, ap, sym, ◌∙◌, subst, append_assoc}
use Rattle.std.proofs.lemmas.Bool.{false≢true}
use Rattle.mr_certform.specs.declared.grammar_state.Item.{Item}
use Rattle.mr_certform.specs.declared.grammar_state.Item.TheVariants.{Magic, End}
use Rattle.mr_certform.specs.declared.grammar_state.GrammarState.TheVariants.{AtMagic, AtJob}
use Rattle.mr_certform.specs.declared.version.Version.{Version}
use Rattle.mr_certform.specs.Spelling.{items_of, items_from, is_ended, bytes_from, version_of}
use Rattle.mr_certform.specs.Value.{Contents, job_items, input_items, skip_items, group_part_items, certificate_items, spelling, Spells}
use Rattle.mr_certform.specs.Grammar.{AreBytes}
use Rattle.mr_certform.specs.Flat.{Told, nothing_told, told_by, contents_of, IsWhole}
use Rattle.mr_certform.proofs.Drafts.{flat_of, items_told, contents_again, one_value, flat_is_whole}
use Rattle.mr_certform.proofs.Walks.{stands, whole_from, version_front}
use Rattle.mr_certform.proofs.Tails.{found_of, items_follow}

-- bytes that spell a certificate tell in which version
pub version_told : (v : Version) (bytes : List ℕ) (c : Contents) → bytes ≡ spelling v c → version_of bytes ≡ v
unfolding spelling certificate_items
version_told v bytes c e =
    ap version_of e ∙ version_front v (bytes_from v AtJob (job_items c ++ (input_items c ++ (skip_items c ++ (group_part_items c ++ End ∷ [])))))

-- what is spelled is read again, item by item
pub spelled_items : (bytes : List ℕ) (c : Contents) → Spells bytes c → items_of bytes ≡ certificate_items c
unfolding items_of spelling
spelled_items bytes c h =
    let v = h.version in
    let s = h.is in
    ap (λ w. items_from w AtMagic bytes) (version_told h.version bytes c s.spelled)
    ∙ (ap (items_from h.version AtMagic) s.spelled ∙ stands h.version AtMagic (certificate_items c) (items_follow h.version c s.fits s.can))

-- items that end are those of a certificate, and the bytes spell it
pub ended_items : (bytes : List ℕ) → AreBytes bytes → is_ended (items_of bytes) ≡ true → (c : Contents) × (items_of bytes ≡ certificate_items c) × Spells bytes c
unfolding items_of spelling
ended_items bytes fits e =
    let v : Version = version_of bytes in
    let w = whole_from (version_of bytes) AtMagic bytes fits e in
    let f = found_of (version_of bytes) (items_from (version_of bytes) AtMagic bytes) w.0 in
    (f.0, f.1, record { version = version_of bytes; is = record { fits = f.2; can = f.3; spelled = w.1 ∙ ap (bytes_from (version_of bytes) AtMagic) f.1 } })

-- two values with one spelling are one
pub one_certificate : (bytes : List ℕ) (c d : Contents) → Spells bytes c → Spells bytes d → c ≡ d
one_certificate bytes c d hc hd = one_value c d (sym (spelled_items bytes c hc) ∙ spelled_items bytes d hd)

-- what items that end tell is whole, and the bytes spell it
pub told_is_whole : (bytes : List ℕ) (t : Told) → AreBytes bytes → is_ended (items_of bytes) ≡ true → t ≡ told_by nothing_told (items_of bytes) → IsWhole t × Spells bytes (contents_of t)
told_is_whole bytes t fits e is =
    let f = ended_items bytes fits e in
    let same : t ≡ flat_of f.0 = is ∙ (ap (told_by nothing_told) f.1 ∙ items_told f.0) in
    (subst IsWhole (sym same) (flat_is_whole f.0 (f.2).is.fits), subst (Spells bytes) (sym (contents_again f.0) ∙ ap contents_of (sym same)) f.2)

-- the items of a certificate end
ended_append : (is : List Item) → is_ended (is ++ End ∷ []) ≡ true
ended_append [] = refl
ended_append (i ∷ is) = cons i (is ++ End ∷ []) (ended_append is)
  where
    cons : (i : Item) (js : List Item) → is_ended js ≡ true → is_ended (i ∷ js) ≡ true
    cons End [] e = absurd (false≢true e)
    cons End (j ∷ js) e = e
    cons i js e = e

items_end : (c : Contents) → is_ended (certificate_items c) ≡ true
unfolding certificate_items
items_end c =
    let whole : List Item = Magic ∷ (job_items c ++ (input_items c ++ (skip_items c ++ group_part_items c))) in
    let glue : Magic ∷ (job_items c ++ (input_items c ++ (skip_items c ++ (group_part_items c ++ End ∷ [])))) ≡ (Magic ∷ (job_items c ++ (input_items c ++ (skip_items c ++ group_part_items c)))) ++ End ∷ [] = ends (job_items c) (input_items c) (skip_items c) (group_part_items c) in
    ap is_ended glue ∙ ended_append (Magic ∷ (job_items c ++ (input_items c ++ (skip_items c ++ group_part_items c))))
  where
    ends : (a b d g : List Item) → Magic ∷ (a ++ (b ++ (d ++ (g ++ End ∷ [])))) ≡ (Magic ∷ (a ++ (b ++ (d ++ g)))) ++ End ∷ []
    ends a b d g = ap (λ w. Magic ∷ w) (sym (append_assoc a (b ++ (d ++ g)) (End ∷ []) ∙ ap (λ w. a ++ w) (append_assoc b (d ++ g) (End ∷ []) ∙ ap (λ w. b ++ w) (append_assoc d g (End ∷ [])))))

-- bytes whose items don't end spell no certificate
pub spells_none : (bytes : List ℕ) → is_ended (items_of bytes) ≡ false → (c : Contents) → Spells bytes c → ⊥
spells_none bytes e c h = false≢true (sym e ∙ (ap is_ended (spelled_items bytes c h) ∙ items_end c))
