-- One item: what stands is spelled so, and what is spelled stands.
use Rattle.std.proofs.Common.{◌≡◌, ℕ, suc, ◌+◌, ◌^◌, ◌<◌, ◌≤◌, Option, Some, None, List, [], ◌∷◌, ◌++◌, length, take, drop, refl, ap, sym, ◌∙◌, subst, inl, inr, arith, Bool, true, false, cond, leb, ltb, eqb, ◌&&◌, append_assoc}
use Rattle.std.proofs.lemmas.Bool.{and_parts, leb-true, ltb-false, le-ltb, le-leb, cases_lt}
use Rattle.std.proofs.lemmas.List.{get_or-drop, get_or-take, get_or_past, length-take, length-drop, take-append-drop, drop-drop, append-nil}
use Rattle.std.proofs.lemmas.Nat.{be_bytes_4, be_bytes_8, from_be_bytes-to_be_bytes_4, from_be_bytes-to_be_bytes_8}
use Rattle.std.specs.Int.{w32, w64, from_be_bytes}
use Rattle.std.specs.Cmp.Lexicographic.{bytes_decides, pointwise}
use Rattle.mr_bytes.specs.declared.Name.{Name}
use Rattle.mr_bytes.specs.declared.RecordName.{RecordName}
use Rattle.mr_certform.specs.declared.grammar_state.Item.{Item}
use Rattle.mr_certform.specs.declared.grammar_state.Item.TheVariants.{Magic, Job, Flags, LiteralLength, LiteralByte, Parts, SplitSize, Files, FileLength, Skips, Skip, Groups, Entries, Entry, End}
use Rattle.mr_certform.specs.declared.grammar_state.GrammarState.{GrammarState}
use Rattle.mr_certform.specs.declared.grammar_state.GrammarState.TheVariants.{AtMagic, AtJob, AtFlags, AtLiteralLength, AtLiteralByte, AtParts, AtSplitSize, AtFiles, AtFileLength, AtSkips, AtSkip, AtGroups, AtEntries, AtEntry, AtEnd, Behind}
use Rattle.mr_certform.specs.declared.version.Version.{Version}
use Rattle.mr_certform.specs.declared.version.Version.TheVariants.{V1, V2}
use Rattle.mr_certform.specs.Spelling.{u32, u64, Front, magic, number, number32, any, of_bytes, at, skip_at, name_at, name_bytes, entry_at, entry_of, standing, bytes_at}
use Rattle.mr_certform.specs.Short.{NameFront, short_name_at}
use Rattle.mr_certform.specs.Value.{NameFits, SkipFits, CanFollow}
use Rattle.mr_certform.specs.Grammar.{MayStand, CanStand, AreBytes}
use Rattle.mr_certform.proofs.Chosen.{chosen, not_chosen}
use Rattle.mr_certform.proofs.ShortLaws.{is_short_name, name_again}

pub AreBytes-drop : (n : ℕ) (bytes : List ℕ) → AreBytes bytes → AreBytes (drop n bytes)
AreBytes-drop n bytes h i = rw get_or-drop (h (n + i))

pub AreBytes-take : (n : ℕ) (bytes : List ℕ) → AreBytes bytes → AreBytes (take n bytes)
AreBytes-take n bytes h i =
    elim (cases_lt i n) [
      | inl lt ↦ rw (get_or-take n bytes i 0 lt) (h i)
      | inr le ↦ rw (get_or_past (take n bytes) i 0 (omega (arith, length-take n bytes))) (omega arith)
    ]

below32 : (bytes : List ℕ) → AreBytes bytes → from_be_bytes w32 bytes < 2 ^ 32
below32 bytes fits = omega (arith, fits 0, fits 1, fits 2, fits 3)

below64 : (bytes : List ℕ) → AreBytes bytes → from_be_bytes w64 bytes < 2 ^ 64
below64 bytes fits = omega (arith, fits 0, fits 1, fits 2, fits 3, fits 4, fits 5, fits 6, fits 7)

at_below : (bytes : List ℕ) (n : ℕ) → AreBytes bytes → at bytes n < 2 ^ 32
at_below bytes n fits = below32 (take 4 (drop n bytes)) (AreBytes-take 4 (drop n bytes) (AreBytes-drop n bytes fits))

-- ---- what stands

-- what is read is asked for there, its bytes are the front, and the end is behind all of them
pub record IsFront (v : Version) (p : GrammarState) (bytes : List ℕ) (f : Front) : Type 0 where
  pub may : MayStand p f.item
  pub can : CanStand v p f.item
  pub spelled : bytes ≡ bytes_at v p f.item ++ f.rest
  pub end : f.item ≡ End → f.rest ≡ []
  pub rest : AreBytes f.rest

-- a number that was read
record IsNumber (size limit : ℕ) (spell : ℕ → List ℕ) (ok : ℕ → Bool) (item : ℕ → Item) (bytes : List ℕ) (f : Front) : Type 0 where
  is : ℕ
  same : record { item = item is; rest = drop size bytes } ≡ f
  passes : ok is ≡ true
  below : is < limit
  spelled : bytes ≡ spell is ++ drop size bytes

number32_is : (ok : ℕ → Bool) (item : ℕ → Item) (bytes : List ℕ) (f : Front) → AreBytes bytes → number32 ok item bytes ≡ Some f → IsNumber 4 (2 ^ 32) u32 ok item bytes f
number32_is ok item bytes f fits e =
    let n = from_be_bytes w32 (take 4 bytes) in
    let c = not_chosen (ltb (length bytes) 4) (cond (ok n) (Some (record { item = item n; rest = drop 4 bytes })) None) f e in
    let d = chosen (ok n) (record { item = item n; rest = drop 4 bytes }) f (c.1) in
    let long : 4 ≤ length bytes = ltb-false (length bytes) 4 (c.0) in
    record {
      is = n;
      same = d.1;
      passes = d.0;
      below = below32 (take 4 bytes) (AreBytes-take 4 bytes fits);
      spelled = sym (take-append-drop 4 bytes) ∙ ap (λ w. w ++ drop 4 bytes) (sym (be_bytes_4 (take 4 bytes) n (omega (arith, length-take 4 bytes)) (AreBytes-take 4 bytes fits) refl));
    }

number64_is : (item : ℕ → Item) (bytes : List ℕ) (f : Front) → AreBytes bytes → number 8 (from_be_bytes w64) any item bytes ≡ Some f → IsNumber 8 (2 ^ 64) u64 any item bytes f
number64_is item bytes f fits e =
    let n = from_be_bytes w64 (take 8 bytes) in
    let c = not_chosen (ltb (length bytes) 8) (cond (any n) (Some (record { item = item n; rest = drop 8 bytes })) None) f e in
    let d = chosen (any n) (record { item = item n; rest = drop 8 bytes }) f (c.1) in
    let long : 8 ≤ length bytes = ltb-false (length bytes) 8 (c.0) in
    record {
      is = n;
      same = d.1;
      passes = d.0;
      below = below64 (take 8 bytes) (AreBytes-take 8 bytes fits);
      spelled = sym (take-append-drop 8 bytes) ∙ ap (λ w. w ++ drop 8 bytes) (sym (be_bytes_8 (take 8 bytes) n (omega (arith, length-take 8 bytes)) (AreBytes-take 8 bytes fits) refl));
    }

-- an item of n bytes that stands
sized_is : (size : ℕ) (item : Item) (bytes : List ℕ) (f : Front) → of_bytes size item bytes ≡ Some f → (size ≤ length bytes) × (record { item = item; rest = drop size bytes } ≡ f)
sized_is size item bytes f e =
    let c = not_chosen (ltb (length bytes) size) (Some (record { item = item; rest = drop size bytes })) f e in
    (ltb-false (length bytes) size (c.0), cc (c.1))

-- a number of four bytes behind n others
next4 : (bytes : List ℕ) (n : ℕ) → AreBytes bytes → n + 4 ≤ length bytes → drop n bytes ≡ u32 (at bytes n) ++ drop (n + 4) bytes
next4 bytes n fits long =
    let four : u32 (at bytes n) ≡ take 4 (drop n bytes) = be_bytes_4 (take 4 (drop n bytes)) (at bytes n) (omega (arith, length-take 4 (drop n bytes), length-drop n bytes)) (AreBytes-take 4 (drop n bytes) (AreBytes-drop n bytes fits)) refl in
    sym (take-append-drop 4 (drop n bytes)) ∙ (ap (λ w. w ++ drop 4 (drop n bytes)) (sym four) ∙ ap (λ w. u32 (at bytes n) ++ w) (drop-drop 4 n bytes))

le_both : (n : ℕ) → (leb 1 n && leb n 1024) ≡ true → (1 ≤ n) × (n ≤ 1024)
le_both n e = let b = and_parts (leb 1 n) (leb n 1024) e in (leb-true 1 n b.0, leb-true n 1024 b.1)

-- an entry that stands
entry_front : (v : Version) (bytes : List ℕ) → AreBytes bytes → (r g m : ℕ) (before : Name) (f : Front) → entry_at v before bytes ≡ Some f → IsFront v (AtEntry r g m before) bytes f
entry_front V1 bytes fits r g m before f e =
    let s = sized_is 12 (Entry (name_at bytes)) bytes f e in
    let long : 12 ≤ length bytes = s.0 in
    let last : drop 4 bytes ≡ u32 (at bytes 4) ++ (u32 (at bytes 8) ++ drop 12 bytes) = next4 bytes 4 fits (omega arith) ∙ ap (λ w. u32 (at bytes 4) ++ w) (next4 bytes 8 fits (omega arith)) in
    subst (IsFront V1 (AtEntry r g m before) bytes) (s.1) (record {
      may = record { split = at_below bytes 0 fits; rec = at_below bytes 4 fits; place = at_below bytes 8 fits };
      can = tt;
      spelled = next4 bytes 0 fits (omega arith) ∙ (ap (λ w. u32 (at bytes 0) ++ w) last ∙ refl);
      end = λ d. absurd (cc d);
      rest = AreBytes-drop 12 bytes fits;
    })
entry_front V2 bytes fits r g m before f e = by (short_name_at before bytes) refl e
  where
    by : (o : Option NameFront) → short_name_at before bytes ≡ o → entry_of o ≡ Some f → IsFront V2 (AtEntry r g m before) bytes f
    by None is e = absurd (cc e)
    by (Some n) is e =
        let same : record { item = Entry n.name; rest = n.rest } ≡ f = cc e in
        let h = is_short_name before bytes n fits is in
        subst (IsFront V2 (AtEntry r g m before) bytes) same (record {
          may = h.fits;
          can = h.least;
          spelled = h.spelled;
          end = λ d. absurd (cc d);
          rest = h.rest;
        })

module _ (v : Version) (bytes : List ℕ) (fits : AreBytes bytes) where
  -- a front at a number
  of_number : (p : GrammarState) (size limit : ℕ) (spell : ℕ → List ℕ) (ok : ℕ → Bool) (item : ℕ → Item) (f : Front) → IsNumber size limit spell ok item bytes f → ((n : ℕ) → ok n ≡ true → n < limit → MayStand p (item n)) → ((n : ℕ) → CanStand v p (item n)) → ((n : ℕ) → bytes_at v p (item n) ≡ spell n) → ((n : ℕ) → item n ≡ End → ⊥) → IsFront v p bytes f
  of_number p size limit spell ok item f n may can text other =
      subst (IsFront v p bytes) n.same (record {
        may = may n.is n.passes n.below;
        can = can n.is;
        spelled = n.spelled ∙ ap (λ w. w ++ drop size bytes) (sym (text n.is));
        end = λ d. absurd (other n.is d);
        rest = AreBytes-drop size bytes fits;
      })

  pub is_front : (p : GrammarState) (f : Front) → standing v p bytes ≡ Some f → IsFront v p bytes f
  is_front AtMagic f e =
      let c = chosen (pointwise eqb (take 8 bytes) (magic v)) (record { item = Magic; rest = drop 8 bytes }) f e in
      let eight : take 8 bytes ≡ (magic v) = (bytes_decides (take 8 bytes) (magic v)).0 (c.0) in
      subst (IsFront v AtMagic bytes) (c.1) (record { may = tt; can = tt; spelled = sym (take-append-drop 8 bytes) ∙ ap (λ w. w ++ drop 8 bytes) eight; end = λ d. absurd (cc d); rest = AreBytes-drop 8 bytes fits })
  is_front AtJob f e = of_number AtJob 4 (2 ^ 32) u32 any Job f (number32_is any Job bytes f fits e) (λ n t l. l) (λ n. tt) (λ n. refl) (λ n d. cc d)
  is_front AtFlags f e = of_number AtFlags 4 (2 ^ 32) u32 any Flags f (number32_is any Flags bytes f fits e) (λ n t l. l) (λ n. tt) (λ n. refl) (λ n d. cc d)
  is_front AtLiteralLength f e = of_number AtLiteralLength 4 (2 ^ 32) u32 (λ n. leb n 4096) LiteralLength f (number32_is (λ n. leb n 4096) LiteralLength bytes f fits e) (λ n t l. leb-true n 4096 t) (λ n. tt) (λ n. refl) (λ n d. cc d)
  is_front (AtLiteralByte m) f e = literal bytes fits e
    where
      literal : (bs : List ℕ) → AreBytes bs → standing v (AtLiteralByte m) bs ≡ Some f → IsFront v (AtLiteralByte m) bs f
      literal [] fit e = absurd (cc e)
      literal (b ∷ bs) fit e =
          let same : record { item = LiteralByte b; rest = bs } ≡ f = cc e in
          subst (IsFront v (AtLiteralByte m) (b ∷ bs)) same (record { may = fit 0; can = tt; spelled = refl; end = λ d. absurd (cc d); rest = λ i. fit (suc i) })
  is_front AtParts f e = of_number AtParts 4 (2 ^ 32) u32 (λ n. leb 1 n && leb n 1024) Parts f (number32_is (λ n. leb 1 n && leb n 1024) Parts bytes f fits e) (λ n t l. le_both n t) (λ n. tt) (λ n. refl) (λ n d. cc d)
  is_front (AtSplitSize r) f e = of_number (AtSplitSize r) 4 (2 ^ 32) u32 any SplitSize f (number32_is any SplitSize bytes f fits e) (λ n t l. l) (λ n. tt) (λ n. refl) (λ n d. cc d)
  is_front (AtFiles r) f e = of_number (AtFiles r) 4 (2 ^ 32) u32 (λ n. leb n 1024) Files f (number32_is (λ n. leb n 1024) Files bytes f fits e) (λ n t l. leb-true n 1024 t) (λ n. tt) (λ n. refl) (λ n d. cc d)
  is_front (AtFileLength r m) f e = of_number (AtFileLength r m) 8 (2 ^ 64) u64 any FileLength f (number64_is FileLength bytes f fits e) (λ n t l. l) (λ n. tt) (λ n. refl) (λ n d. cc d)
  is_front (AtSkips r) f e = of_number (AtSkips r) 4 (2 ^ 32) u32 any Skips f (number32_is any Skips bytes f fits e) (λ n t l. l) (λ n. tt) (λ n. refl) (λ n d. cc d)
  is_front (AtSkip r m) f e =
      let s = sized_is 8 (Skip (skip_at bytes)) bytes f e in
      let long : 8 ≤ length bytes = s.0 in
      subst (IsFront v (AtSkip r m) bytes) (s.1) (record {
        may = record { split = at_below bytes 0 fits; rec = at_below bytes 4 fits };
        can = tt;
        spelled = next4 bytes 0 fits (omega arith) ∙ (ap (λ w. u32 (at bytes 0) ++ w) (next4 bytes 4 fits (omega arith)) ∙ sym (append_assoc (u32 (at bytes 0)) (u32 (at bytes 4)) (drop 8 bytes)));
        end = λ d. absurd (cc d);
        rest = AreBytes-drop 8 bytes fits;
      })
  is_front (AtGroups r) f e = of_number (AtGroups r) 4 (2 ^ 32) u32 any Groups f (number32_is any Groups bytes f fits e) (λ n t l. l) (λ n. tt) (λ n. refl) (λ n d. cc d)
  is_front (AtEntries r g) f e = of_number (AtEntries r g) 4 (2 ^ 32) u32 (λ n. leb 1 n) Entries f (number32_is (λ n. leb 1 n) Entries bytes f fits e) (λ n t l. (leb-true 1 n t, l)) (λ n. tt) (λ n. refl) (λ n d. cc d)
  is_front (AtEntry r g m before) f e = entry_front v bytes fits r g m before f e
  is_front AtEnd f e = ended bytes fits e
    where
      ended : (bs : List ℕ) → AreBytes bs → standing v AtEnd bs ≡ Some f → IsFront v AtEnd bs f
      ended [] fit e = let same : record { item = End; rest = [] } ≡ f = cc e in subst (IsFront v AtEnd []) same (record { may = tt; can = tt; spelled = refl; end = λ d. refl; rest = fit })
      ended (b ∷ bs) fit e = absurd (cc e)
  is_front Behind f e = absurd (cc e)

-- ---- what is spelled

-- a magic that is spelled
magic_again : (v : Version) (rest : List ℕ) → standing v AtMagic (magic v ++ rest) ≡ Some (record { item = Magic; rest = rest })
magic_again V1 rest = refl
magic_again V2 rest = refl

-- an entry that is spelled
whole_again : (rest : List ℕ) (n before : Name) → NameFits n → entry_at V1 before (name_bytes V1 before n ++ rest) ≡ Some (record { item = Entry n; rest = rest })
whole_again rest n before fits =
    let long : ltb (length (name_bytes V1 before n ++ rest)) 12 ≡ false = le-ltb (length (name_bytes V1 before n ++ rest)) 12 (omega arith) in
    let a : from_be_bytes w32 (u32 n.split) ≡ n.split = from_be_bytes-to_be_bytes_4 n.split fits.split in
    let b : from_be_bytes w32 (u32 n.rec) ≡ n.rec = from_be_bytes-to_be_bytes_4 n.rec fits.rec in
    let c : from_be_bytes w32 (u32 n.place) ≡ n.place = from_be_bytes-to_be_bytes_4 n.place fits.place in
    ap (λ t. cond t None (Some (record { item = Entry (record { split = from_be_bytes w32 (u32 n.split); rec = from_be_bytes w32 (u32 n.rec); place = from_be_bytes w32 (u32 n.place) }); rest = rest }))) long
    ∙ (ap (λ m. Some (record { item = Entry (record { split = m; rec = from_be_bytes w32 (u32 n.rec); place = from_be_bytes w32 (u32 n.place) }); rest = rest })) a
    ∙ (ap (λ m. Some (record { item = Entry (record { split = n.split; rec = m; place = from_be_bytes w32 (u32 n.place) }); rest = rest })) b
    ∙ ap (λ m. Some (record { item = Entry (record { split = n.split; rec = n.rec; place = m }); rest = rest })) c))

entry_again : (v : Version) (rest : List ℕ) (n before : Name) → NameFits n → CanFollow v before n → entry_at v before (name_bytes v before n ++ rest) ≡ Some (record { item = Entry n; rest = rest })
entry_again V1 rest n before fits can = whole_again rest n before fits
entry_again V2 rest n before fits can = ap entry_of (name_again before n rest fits can)

module _ (v : Version) (rest : List ℕ) where
  abbrev Again : GrammarState → Item → Type 0
  Again p i = standing v p (bytes_at v p i ++ rest) ≡ Some (record { item = i; rest = rest })

  number32_again : (ok : ℕ → Bool) (item : ℕ → Item) (n : ℕ) → n < 2 ^ 32 → ok n ≡ true → number32 ok item (u32 n ++ rest) ≡ Some (record { item = item n; rest = rest })
  number32_again ok item n small passes =
      let long : ltb (length (u32 n ++ rest)) 4 ≡ false = le-ltb (length (u32 n ++ rest)) 4 (omega arith) in
      let value : from_be_bytes w32 (u32 n) ≡ n = from_be_bytes-to_be_bytes_4 n small in
      ap (λ b. cond b None (cond (ok (from_be_bytes w32 (u32 n))) (Some (record { item = item (from_be_bytes w32 (u32 n)); rest = rest })) None)) long
      ∙ (ap (λ m. cond (ok m) (Some (record { item = item m; rest = rest })) None) value ∙ ap (λ b. cond b (Some (record { item = item n; rest = rest })) None) passes)

  number64_again : (item : ℕ → Item) (n : ℕ) → n < 2 ^ 64 → number 8 (from_be_bytes w64) any item (u64 n ++ rest) ≡ Some (record { item = item n; rest = rest })
  number64_again item n small =
      let long : ltb (length (u64 n ++ rest)) 8 ≡ false = le-ltb (length (u64 n ++ rest)) 8 (omega arith) in
      let value : from_be_bytes w64 (u64 n) ≡ n = from_be_bytes-to_be_bytes_8 n small in
      ap (λ b. cond b None (Some (record { item = item (from_be_bytes w64 (u64 n)); rest = rest }))) long
      ∙ ap (λ m. Some (record { item = item m; rest = rest })) value

  within : (n : ℕ) → (1 ≤ n) × (n ≤ 1024) → (leb 1 n && leb n 1024) ≡ true
  within n h = ap (λ b. b && leb n 1024) (le-leb 1 n h.0) ∙ le-leb n 1024 h.1

  skip_again : (s : RecordName) → SkipFits s → of_bytes 8 (Skip (skip_at ((u32 s.split ++ u32 s.rec) ++ rest))) ((u32 s.split ++ u32 s.rec) ++ rest) ≡ Some (record { item = Skip s; rest = rest })
  skip_again s fits =
      let long : ltb (length ((u32 s.split ++ u32 s.rec) ++ rest)) 8 ≡ false = le-ltb (length ((u32 s.split ++ u32 s.rec) ++ rest)) 8 (omega arith) in
      let a : from_be_bytes w32 (u32 s.split) ≡ s.split = from_be_bytes-to_be_bytes_4 s.split fits.split in
      let b : from_be_bytes w32 (u32 s.rec) ≡ s.rec = from_be_bytes-to_be_bytes_4 s.rec fits.rec in
      ap (λ t. cond t None (Some (record { item = Skip (record { split = from_be_bytes w32 (u32 s.split); rec = from_be_bytes w32 (u32 s.rec) }); rest = rest }))) long
      ∙ (ap (λ m. Some (record { item = Skip (record { split = m; rec = from_be_bytes w32 (u32 s.rec) }); rest = rest })) a
      ∙ ap (λ m. Some (record { item = Skip (record { split = s.split; rec = m }); rest = rest })) b)

  pub again : (p : GrammarState) (i : Item) → MayStand p i → CanStand v p i → (i ≡ End → rest ≡ []) → Again p i
  again AtMagic Magic h can e = magic_again v rest
  again AtJob (Job n) h can e = number32_again any Job n h refl
  again AtFlags (Flags n) h can e = number32_again any Flags n h refl
  again AtLiteralLength (LiteralLength n) h can e = number32_again (λ n. leb n 4096) LiteralLength n (omega arith) (le-leb n 4096 h)
  again (AtLiteralByte m) (LiteralByte b) h can e = refl
  again AtParts (Parts n) h can e = number32_again (λ n. leb 1 n && leb n 1024) Parts n (omega arith) (within n h)
  again (AtSplitSize r) (SplitSize n) h can e = number32_again any SplitSize n h refl
  again (AtFiles r) (Files n) h can e = number32_again (λ n. leb n 1024) Files n (omega arith) (le-leb n 1024 h)
  again (AtFileLength r m) (FileLength n) h can e = number64_again FileLength n h
  again (AtSkips r) (Skips n) h can e = number32_again any Skips n h refl
  again (AtSkip r m) (Skip s) h can e = skip_again s h
  again (AtGroups r) (Groups n) h can e = number32_again any Groups n h refl
  again (AtEntries r g) (Entries n) h can e = number32_again (λ n. leb 1 n) Entries n h.1 (le-leb 1 n h.0)
  again (AtEntry r g m before) (Entry n) h can e = entry_again v rest n before h can
  again AtEnd End h can e = rw (e refl) refl
  again p i h can e = absurd h

pub end_at : (p : GrammarState) → MayStand p End → p ≡ AtEnd
end_at AtEnd h = refl
end_at p h = absurd h

-- before the end no spelling of an item begins another
pub apart : (v : Version) (p : GrammarState) (i j : Item) (more : List ℕ) → MayStand p i → CanStand v p i → MayStand p j → CanStand v p j → (i ≡ End → ⊥) → bytes_at v p j ≡ bytes_at v p i ++ more → i ≡ j
apart v p i j more hi ci hj cj other e =
    let first : standing v p (bytes_at v p i ++ more) ≡ Some (record { item = i; rest = more }) = again v more p i hi ci (λ d. absurd (other d)) in
    let second : standing v p (bytes_at v p j ++ []) ≡ Some (record { item = j; rest = [] }) = again v [] p j hj cj (λ d. refl) in
    let whole : standing v p (bytes_at v p j) ≡ Some (record { item = j; rest = [] }) = ap (standing v p) (sym (append-nil (bytes_at v p j))) ∙ second in
    let both : Some (record { item = i; rest = more }) ≡ Some (record { item = j; rest = [] }) = sym first ∙ (ap (standing v p) (sym e) ∙ whole) in
    ap (λ (o : Option Front). elim o [ None ↦ i | Some f ↦ f.item ]) both
