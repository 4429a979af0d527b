-- The items that stand come one by one.
use Rattle.std.proofs.Common.{◌≡◌, ℕ, zero, suc, ◌+◌, ◌<◌, ◌≤◌, Option, Some, None, List, [], ◌∷◌, length, take, drop, refl, ap, sym, ◌∙◌, subst, inl, inr, ◌⊎◌, arith, Bool, cond, leb, ltb, eqb, ◌&&◌, length-append}
use Rattle.std.proofs.lemmas.Bool.{ltb-false}
use Rattle.std.proofs.lemmas.List.{length-drop, length-take}
use Rattle.std.specs.Cmp.Lexicographic.{bytes_decides, pointwise}
use Rattle.std.specs.Int.{w32, w64, from_be_bytes}
use Rattle.mr_bytes.specs.declared.Name.{Name}
use Rattle.mr_certform.specs.declared.grammar_state.Item.{Item}
use Rattle.mr_certform.specs.declared.grammar_state.Item.TheVariants.{Magic, Job, Flags, LiteralLength, LiteralByte, Parts, SplitSize, Files, FileLength, Skips, Skip, Groups, Entries, Entry, End}
use Rattle.mr_certform.specs.declared.grammar_state.GrammarState.{GrammarState}
use Rattle.mr_certform.specs.declared.grammar_state.GrammarState.TheVariants.{AtMagic, AtJob, AtFlags, AtLiteralLength, AtLiteralByte, AtParts, AtSplitSize, AtFiles, AtFileLength, AtSkips, AtSkip, AtGroups, AtEntries, AtEntry, AtEnd, Behind}
use Rattle.mr_certform.specs.Places.{behind, onward}
use Rattle.mr_certform.specs.declared.version.Version.{Version}
use Rattle.mr_certform.specs.declared.version.Version.TheVariants.{V1, V2}
use Rattle.mr_certform.specs.Spelling.{Front, magic, number, any, of_bytes, entry_at, entry_of, skip_at, name_at, standing, walk, items_from, left_behind, bytes_at, bytes_from}
use Rattle.mr_certform.specs.Short.{NameFront, short_name_at}
use Rattle.mr_certform.proofs.Chosen.{chosen, not_chosen}
use Rattle.mr_certform.proofs.ShortLaws.{name_passes}
use Rattle.mr_certform.proofs.ShortSizes.{name_sized}

-- ---- what stands has a byte, but for the end

abbrev pub Shorter : List ℕ → List ℕ → Type 0
Shorter rest bytes = length rest < length bytes

abbrev pub Goes : List ℕ → Front → Type 0
Goes bytes f = Shorter f.rest bytes × (f.item ≡ End → ⊥)

sized : (size : ℕ) (item : Item) (bytes : List ℕ) (f : Front) → 1 ≤ size → (item ≡ End → ⊥) → of_bytes size item bytes ≡ Some f → Goes bytes f
sized size item bytes f some other e =
    let c = not_chosen (ltb (length bytes) size) (Some (record { item = item; rest = drop size bytes })) f e in
    let same : record { item = item; rest = drop size bytes } ≡ f = cc (c.1) in
    let long : size ≤ length bytes = ltb-false (length bytes) size (c.0) in
    subst (Goes bytes) same (omega (arith, length-drop size bytes), other)

numbered : (size : ℕ) (value : List ℕ → ℕ) (ok : ℕ → Bool) (item : ℕ → Item) (bytes : List ℕ) (f : Front) → 1 ≤ size → ((n : ℕ) → item n ≡ End → ⊥) → number size value ok item bytes ≡ Some f → Goes bytes f
numbered size value ok item bytes f some other e =
    let n = value (take size bytes) in
    let c = not_chosen (ltb (length bytes) size) (cond (ok n) (Some (record { item = item n; rest = drop size bytes })) None) f e in
    let d = chosen (ok n) (record { item = item n; rest = drop size bytes }) f (c.1) in
    let long : size ≤ length bytes = ltb-false (length bytes) size (c.0) in
    subst (Goes bytes) (d.1) (omega (arith, length-drop size bytes), other n)

entry_shorter : (v : Version) (before : Name) (bytes : List ℕ) (f : Front) → entry_at v before bytes ≡ Some f → Goes bytes f
entry_shorter V1 before bytes f e = sized 12 (Entry (name_at bytes)) bytes f (omega arith) (λ z. cc z) e
entry_shorter V2 before bytes f e = by (short_name_at before bytes) refl e
  where
    by : (o : Option NameFront) → short_name_at before bytes ≡ o → entry_of o ≡ Some f → Goes bytes f
    by None is e = absurd (cc e)
    by (Some n) is e =
        let same : record { item = Entry n.name; rest = n.rest } ≡ f = cc e in
        subst (Goes bytes) same ((name_passes before bytes n is).0, λ z. cc z)

sized_entry : (v : Version) (r g n : ℕ) (before : Name) (bytes : List ℕ) (f : Front) → entry_at v before bytes ≡ Some f
    → length (bytes_at v (AtEntry r g n before) f.item) + length f.rest ≡ length bytes
sized_entry V1 r g n before bytes f e =
    let c = not_chosen (ltb (length bytes) 12) (Some (record { item = Entry (name_at bytes); rest = drop 12 bytes })) f e in
    let same : record { item = Entry (name_at bytes); rest = drop 12 bytes } ≡ f = cc (c.1) in
    let enough : 12 ≤ length bytes = ltb-false (length bytes) 12 (c.0) in
    subst (λ (h : Front). length (bytes_at V1 (AtEntry r g n before) h.item) + length h.rest ≡ length bytes) same (omega (arith, length-drop 12 bytes))
sized_entry V2 r g n before bytes f e = by (short_name_at before bytes) refl e
  where
    by : (o : Option NameFront) → short_name_at before bytes ≡ o → entry_of o ≡ Some f → length (bytes_at V2 (AtEntry r g n before) f.item) + length f.rest ≡ length bytes
    by None is e = absurd (cc e)
    by (Some m) is e =
        let same : record { item = Entry m.name; rest = m.rest } ≡ f = cc e in
        subst (λ (h : Front). length (bytes_at V2 (AtEntry r g n before) h.item) + length h.rest ≡ length bytes) same (name_sized before bytes m is)

-- the end, or an item behind which a walker goes on
pub end_or_not : (i : Item) → (i ≡ End) ⊎ (((js : List Item) → left_behind i js ≡ js) × ((p : GrammarState) → onward p i ≡ behind p i))
end_or_not End = inl refl
end_or_not i = inr (λ js. refl, λ p. refl)

module _ (v : Version) where
  magic_shorter : (bytes : List ℕ) (f : Front) → standing v AtMagic bytes ≡ Some f → Goes bytes f
  magic_shorter bytes f e =
      let c = chosen (pointwise eqb (take 8 bytes) (magic v)) (record { item = Magic; rest = drop 8 bytes }) f e in
      let eight : take 8 bytes ≡ (magic v) = (bytes_decides (take 8 bytes) (magic v)).0 (c.0) in
      subst (Goes bytes) (c.1) (omega (arith, length-drop 8 bytes, length-take 8 bytes, ap length eight), λ z. cc z)

  pub shorter : (p : GrammarState) (bytes : List ℕ) (f : Front) → standing v p bytes ≡ Some f → Goes bytes f ⊎ ((f.item ≡ End) × (p ≡ AtEnd))
  shorter AtMagic bytes f e = inl (magic_shorter bytes f e)
  shorter AtJob bytes f e = inl (numbered 4 (from_be_bytes w32) any Job bytes f (omega arith) (λ n z. cc z) e)
  shorter AtFlags bytes f e = inl (numbered 4 (from_be_bytes w32) any Flags bytes f (omega arith) (λ n z. cc z) e)
  shorter AtLiteralLength bytes f e = inl (numbered 4 (from_be_bytes w32) (λ n. leb n 4096) LiteralLength bytes f (omega arith) (λ n z. cc z) e)
  shorter (AtLiteralByte m) [] f e = absurd (cc e)
  shorter (AtLiteralByte m) (b ∷ bytes) f e = let same : record { item = LiteralByte b; rest = bytes } ≡ f = cc e in inl (subst (Goes (b ∷ bytes)) same (omega arith, λ z. cc z))
  shorter AtParts bytes f e = inl (numbered 4 (from_be_bytes w32) (λ n. leb 1 n && leb n 1024) Parts bytes f (omega arith) (λ n z. cc z) e)
  shorter (AtSplitSize r) bytes f e = inl (numbered 4 (from_be_bytes w32) any SplitSize bytes f (omega arith) (λ n z. cc z) e)
  shorter (AtFiles r) bytes f e = inl (numbered 4 (from_be_bytes w32) (λ n. leb n 1024) Files bytes f (omega arith) (λ n z. cc z) e)
  shorter (AtFileLength r n) bytes f e = inl (numbered 8 (from_be_bytes w64) any FileLength bytes f (omega arith) (λ n z. cc z) e)
  shorter (AtSkips r) bytes f e = inl (numbered 4 (from_be_bytes w32) any Skips bytes f (omega arith) (λ n z. cc z) e)
  shorter (AtSkip r n) bytes f e = inl (sized 8 (Skip (skip_at bytes)) bytes f (omega arith) (λ z. cc z) e)
  shorter (AtGroups r) bytes f e = inl (numbered 4 (from_be_bytes w32) any Groups bytes f (omega arith) (λ n z. cc z) e)
  shorter (AtEntries r g) bytes f e = inl (numbered 4 (from_be_bytes w32) (λ n. leb 1 n) Entries bytes f (omega arith) (λ n z. cc z) e)
  shorter (AtEntry r g n before) bytes f e = inl (entry_shorter v before bytes f e)
  shorter AtEnd [] f e = let same : record { item = End; rest = [] } ≡ f = cc e in inr (ap (λ (g : Front). g.item) (sym same), refl)
  shorter AtEnd (b ∷ bytes) f e = absurd (cc e)
  shorter Behind bytes f e = absurd (cc e)

  -- ---- one by one

  abbrev pub walk_from : ℕ → GrammarState → Option Front → List Item
  walk_from k p None = []
  walk_from k p (Some f) = f.item ∷ walk v k (behind p f.item) f.rest

  pub walk-suc : (k : ℕ) (p : GrammarState) (bytes : List ℕ) → walk v (suc k) p bytes ≡ walk_from k p (standing v p bytes)
  walk-suc k p bytes = by (standing v p bytes)
    where
      by : (o : Option Front) → (elim o [ None ↦ [] | Some f ↦ f.item ∷ walk v k (behind p f.item) f.rest ]) ≡ walk_from k p o
      by None = refl
      by (Some f) = refl

  walk-behind : (k : ℕ) (bytes : List ℕ) → walk v k Behind bytes ≡ []
  walk-behind zero bytes = refl
  walk-behind (suc k) bytes = refl

  behind_end : (p : GrammarState) (i : Item) → i ≡ End → p ≡ AtEnd → behind p i ≡ Behind
  behind_end p i e d = ap (λ q. behind q i) d

  -- how far the walk may go doesn't matter, if it may go far enough
  enough : (k j : ℕ) (p : GrammarState) (bytes : List ℕ) → length bytes < k → length bytes < j → walk v k p bytes ≡ walk v j p bytes
  enough zero j p bytes a b = absurd (omega arith)
  enough (suc k) zero p bytes a b = absurd (omega arith)
  enough (suc k) (suc j) p bytes a b = walk-suc k p bytes ∙ (by (standing v p bytes) refl (λ q rest. enough k j q rest) ∙ sym (walk-suc j p bytes))
    where
      by : (o : Option Front) → standing v p bytes ≡ o → ((q : GrammarState) (rest : List ℕ) → length rest < k → length rest < j → walk v k q rest ≡ walk v j q rest) → walk_from k p o ≡ walk_from j p o
      by None is more = refl
      by (Some f) is more =
          elim (shorter p bytes f is) [
            | inl less ↦ (let l = less.0 in ap (λ js. f.item ∷ js) (more (behind p f.item) f.rest (omega arith) (omega arith)))
            | inr last ↦ (let e = behind_end p f.item last.0 last.1 in ap (λ js. f.item ∷ js) (ap (λ q. walk v k q f.rest) e ∙ (walk-behind k f.rest ∙ (sym (walk-behind j f.rest) ∙ ap (λ q. walk v j q f.rest) (sym e)))))
          ]

  pub items_here : (p : GrammarState) (bytes : List ℕ) (f : Front) → standing v p bytes ≡ Some f → items_from v p bytes ≡ f.item ∷ items_from v (behind p f.item) f.rest
  unfolding items_from
  items_here p bytes f is =
      let far : walk v (length bytes + 1) p bytes ≡ walk v (suc (length bytes)) p bytes = enough (length bytes + 1) (suc (length bytes)) p bytes (omega arith) (omega arith) in
      far ∙ (walk-suc (length bytes) p bytes ∙ (ap (walk_from (length bytes) p) is ∙
      (elim (shorter p bytes f is) [
        | inl less ↦ (let l = less.0 in ap (λ js. f.item ∷ js) (enough (length bytes) (length f.rest + 1) (behind p f.item) f.rest (omega arith) (omega arith)))
        | inr last ↦ (let e = behind_end p f.item last.0 last.1 in ap (λ js. f.item ∷ js) (ap (λ q. walk v (length bytes) q f.rest) e ∙ (walk-behind (length bytes) f.rest ∙ (sym (walk-behind (length f.rest + 1) f.rest) ∙ ap (λ q. walk v (length f.rest + 1) q f.rest) (sym e)))))
      ])))

  pub items_none : (p : GrammarState) (bytes : List ℕ) → standing v p bytes ≡ None → items_from v p bytes ≡ []
  unfolding items_from
  items_none p bytes is =
      let far : walk v (length bytes + 1) p bytes ≡ walk v (suc (length bytes)) p bytes = enough (length bytes + 1) (suc (length bytes)) p bytes (omega arith) (omega arith) in
      far ∙ (walk-suc (length bytes) p bytes ∙ ap (walk_from (length bytes) p) is)

  -- behind the end nothing stands
  pub items_end : (p : GrammarState) (bytes : List ℕ) (f : Front) → standing v p bytes ≡ Some f → f.item ≡ End → items_from v p bytes ≡ End ∷ []
  unfolding items_from
  items_end p bytes f is e =
      elim (shorter p bytes f is) [
        | inl less ↦ absurd (less.1 e)
        | inr last ↦ items_here p bytes f is ∙ (ap (λ (i : Item). i ∷ items_from v (behind p f.item) f.rest) e ∙ ap (λ js. End ∷ js) (ap (λ z. items_from v z f.rest) (behind_end p f.item e last.1) ∙ walk-behind (length f.rest + 1) f.rest))
      ]

  -- ---- the bytes that items take

  -- the item and what is behind it are as long as the bytes
  abbrev pub Sized : GrammarState → List ℕ → Front → Type 0
  Sized p bytes f = length (bytes_at v p f.item) + length f.rest ≡ length bytes

  sized_bytes : (p : GrammarState) (size : ℕ) (item : Item) (bytes : List ℕ) (f : Front) → length (bytes_at v p item) ≡ size → of_bytes size item bytes ≡ Some f → Sized p bytes f
  sized_bytes p size item bytes f long e =
      let c = not_chosen (ltb (length bytes) size) (Some (record { item = item; rest = drop size bytes })) f e in
      let same : record { item = item; rest = drop size bytes } ≡ f = cc (c.1) in
      let enough : size ≤ length bytes = ltb-false (length bytes) size (c.0) in
      subst (Sized p bytes) same (omega (arith, long, length-drop size bytes))

  sized_number : (p : GrammarState) (size : ℕ) (value : List ℕ → ℕ) (ok : ℕ → Bool) (item : ℕ → Item) (bytes : List ℕ) (f : Front) → ((n : ℕ) → length (bytes_at v p (item n)) ≡ size) → number size value ok item bytes ≡ Some f → Sized p bytes f
  sized_number p size value ok item bytes f long e =
      let n = value (take size bytes) in
      let c = not_chosen (ltb (length bytes) size) (cond (ok n) (Some (record { item = item n; rest = drop size bytes })) None) f e in
      let d = chosen (ok n) (record { item = item n; rest = drop size bytes }) f (c.1) in
      let enough : size ≤ length bytes = ltb-false (length bytes) size (c.0) in
      subst (Sized p bytes) (d.1) (omega (arith, long n, length-drop size bytes))

  sized_magic : (bytes : List ℕ) (f : Front) → standing v AtMagic bytes ≡ Some f → Sized AtMagic bytes f
  sized_magic bytes f e =
      let c = chosen (pointwise eqb (take 8 bytes) (magic v)) (record { item = Magic; rest = drop 8 bytes }) f e in
      let eight : take 8 bytes ≡ (magic v) = (bytes_decides (take 8 bytes) (magic v)).0 (c.0) in
      subst (Sized AtMagic bytes) (c.1) (omega (arith, length-drop 8 bytes, length-take 8 bytes, ap length eight))

  pub sized_here : (p : GrammarState) (bytes : List ℕ) (f : Front) → standing v p bytes ≡ Some f → Sized p bytes f
  sized_here AtMagic bytes f e = sized_magic bytes f e
  sized_here AtJob bytes f e = sized_number AtJob 4 (from_be_bytes w32) any Job bytes f (λ n. refl) e
  sized_here AtFlags bytes f e = sized_number AtFlags 4 (from_be_bytes w32) any Flags bytes f (λ n. refl) e
  sized_here AtLiteralLength bytes f e = sized_number AtLiteralLength 4 (from_be_bytes w32) (λ n. leb n 4096) LiteralLength bytes f (λ n. refl) e
  sized_here (AtLiteralByte m) [] f e = absurd (cc e)
  sized_here (AtLiteralByte m) (b ∷ bytes) f e = let same : record { item = LiteralByte b; rest = bytes } ≡ f = cc e in subst (Sized (AtLiteralByte m) (b ∷ bytes)) same (omega arith)
  sized_here AtParts bytes f e = sized_number AtParts 4 (from_be_bytes w32) (λ n. leb 1 n && leb n 1024) Parts bytes f (λ n. refl) e
  sized_here (AtSplitSize r) bytes f e = sized_number (AtSplitSize r) 4 (from_be_bytes w32) any SplitSize bytes f (λ n. refl) e
  sized_here (AtFiles r) bytes f e = sized_number (AtFiles r) 4 (from_be_bytes w32) (λ n. leb n 1024) Files bytes f (λ n. refl) e
  sized_here (AtFileLength r n) bytes f e = sized_number (AtFileLength r n) 8 (from_be_bytes w64) any FileLength bytes f (λ n. refl) e
  sized_here (AtSkips r) bytes f e = sized_number (AtSkips r) 4 (from_be_bytes w32) any Skips bytes f (λ n. refl) e
  sized_here (AtSkip r n) bytes f e = sized_bytes (AtSkip r n) 8 (Skip (skip_at bytes)) bytes f refl e
  sized_here (AtGroups r) bytes f e = sized_number (AtGroups r) 4 (from_be_bytes w32) any Groups bytes f (λ n. refl) e
  sized_here (AtEntries r g) bytes f e = sized_number (AtEntries r g) 4 (from_be_bytes w32) (λ n. leb 1 n) Entries bytes f (λ n. refl) e
  sized_here (AtEntry r g n before) bytes f e = sized_entry v r g n before bytes f e
  sized_here AtEnd [] f e = let same : record { item = End; rest = [] } ≡ f = cc e in subst (Sized AtEnd []) same refl
  sized_here AtEnd (b ∷ bytes) f e = absurd (cc e)
  sized_here Behind bytes f e = absurd (cc e)

  -- how many bytes the items from here on take
  abbrev pub taken : GrammarState → List ℕ → ℕ
  taken p bytes = length (bytes_from v p (items_from v p bytes))

  pub taken_none : (p : GrammarState) (bytes : List ℕ) → standing v p bytes ≡ None → taken p bytes ≡ 0
  taken_none p bytes is = ap (λ w. length (bytes_from v p w)) (items_none p bytes is)

  pub taken_here : (p : GrammarState) (bytes : List ℕ) (f : Front) → standing v p bytes ≡ Some f → taken p bytes + length f.rest ≡ length bytes + taken (behind p f.item) f.rest
  taken_here p bytes f is =
      omega (
        arith,
        ap (λ w. length (bytes_from v p w)) (items_here p bytes f is),
        length-append (bytes_at v p f.item) (bytes_from v (behind p f.item) (items_from v (behind p f.item) f.rest)),
        sized_here p bytes f is,
      )

  -- ---- a walker's step

  pub item_step : (p q : GrammarState) (bytes rest : List ℕ) (i : Item) → standing v p bytes ≡ Some (record { item = i; rest = rest }) → q ≡ onward p i → items_from v p bytes ≡ i ∷ left_behind i (items_from v q rest)
  item_step p q bytes rest i is e =
      let f : Front = record { item = i; rest = rest } in
      elim (end_or_not i) [
        | inl last ↦ items_end p bytes f is last ∙ sym (ap (λ (j : Item). j ∷ left_behind j (items_from v q rest)) last)
        | inr more ↦ items_here p bytes f is ∙ ap (λ js. i ∷ js) (sym (more.0 (items_from v q rest) ∙ ap (λ w. items_from v w rest) (e ∙ more.1 p)))
      ]

  at_end_rest : (bytes : List ℕ) (f : Front) → standing v AtEnd bytes ≡ Some f → f.rest ≡ bytes
  at_end_rest [] f is = let same : record { item = End; rest = [] } ≡ f = cc is in ap (λ (g : Front). g.rest) (sym same)
  at_end_rest (b ∷ bytes) f is = absurd (cc is)

  -- behind the end the same is left
  pub end_step : (p q : GrammarState) (bytes rest : List ℕ) (i : Item) → standing v p bytes ≡ Some (record { item = i; rest = rest }) → q ≡ onward p i → i ≡ End → items_from v q rest ≡ items_from v p bytes
  end_step p q bytes rest i is e last =
      elim (shorter p bytes (record { item = i; rest = rest }) is) [
        | inl less ↦ absurd (less.1 last)
        | inr z ↦ (
            let f : Front = record { item = i; rest = rest } in
            let at : standing v AtEnd bytes ≡ Some f = subst (λ w. standing v w bytes ≡ Some f) z.1 is in
            let same : rest ≡ bytes = at_end_rest bytes f at in
            let stays : q ≡ p = e ∙ ap (onward p) last in
            ap (λ w. items_from v w rest) stays ∙ ap (items_from v p) same
            )
      ]

  -- the place where the items end is the same from behind an item
  pub taken_step : (p q : GrammarState) (bytes rest : List ℕ) (i : Item) → standing v p bytes ≡ Some (record { item = i; rest = rest }) → q ≡ onward p i → taken p bytes + length rest ≡ length bytes + taken q rest
  taken_step p q bytes rest i is e =
      let f : Front = record { item = i; rest = rest } in
      elim (end_or_not i) [
        | inl last ↦ (elim (shorter p bytes f is) [
          | inl less ↦ absurd (less.1 last)
          | inr z ↦ (
              let at : standing v AtEnd bytes ≡ Some f = subst (λ w. standing v w bytes ≡ Some f) z.1 is in
              let same : rest ≡ bytes = at_end_rest bytes f at in
              let stays : q ≡ p = e ∙ ap (onward p) last in
              omega (arith, ap length same, ap (λ w. taken w rest) stays, ap (taken p) same)
              )
        ])
        | inr more ↦ omega (arith, taken_here p bytes f is, ap (λ w. taken w rest) (e ∙ more.1 p))
      ]

  walk_few : (k : ℕ) (p : GrammarState) (bytes : List ℕ) → length (walk v k p bytes) ≤ k
  walk_few zero p bytes = omega arith
  walk_few (suc k) p bytes = subst (λ is. length is ≤ suc k) (sym (walk-suc k p bytes)) (by (standing v p bytes) (λ q rest. walk_few k q rest))
    where
      by : (o : Option Front) → ((q : GrammarState) (rest : List ℕ) → length (walk v k q rest) ≤ k) → length (walk_from k p o) ≤ suc k
      by None more = omega arith
      by (Some f) more = omega (arith, more (behind p f.item) f.rest)

  -- each item but the last has a byte
  pub items_few : (p : GrammarState) (bytes : List ℕ) → length (items_from v p bytes) ≤ length bytes + 1
  unfolding items_from
  items_few p bytes = walk_few (length bytes + 1) p bytes
