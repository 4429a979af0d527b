-- Items of bytes that are read piece by piece.
use Rattle.std.proofs.Common.{◌≡◌, ℕ, zero, suc, ◌+◌, ◌-◌, ◌≤◌, Option, Some, None, List, [], ◌∷◌, ◌++◌, length, take, drop, refl, ap, sym, ◌∙◌, subst, inl, inr, ◌⊎◌, arith, Bool, true, false, cond, ltb, leb, eqb, ◌&&◌, append-nil, append_assoc, length-append}
use Rattle.std.proofs.lemmas.Bool.{ltb-false, ltb-true}
use Rattle.std.proofs.lemmas.List.{length-drop, length-take, take-append-le, drop-append-le}
use Rattle.std.specs.Cmp.Lexicographic.{pointwise, bytes_decides}
use Rattle.std.specs.Int.{w32, w64, from_be_bytes}
use Rattle.mr_certform.specs.declared.grammar_state.Item.{Item}
use Rattle.mr_certform.specs.declared.grammar_state.Item.TheVariants.{Magic, Job, Flags, LiteralLength, LiteralByte, Parts, SplitSize, Files, FileLength, Skips, Skip, Groups, Entries, Entry, End}
use Rattle.mr_certform.specs.declared.grammar_state.GrammarState.{GrammarState}
use Rattle.mr_certform.specs.declared.grammar_state.GrammarState.TheVariants.{AtMagic, AtJob, AtFlags, AtLiteralLength, AtLiteralByte, AtParts, AtSplitSize, AtFiles, AtFileLength, AtSkips, AtSkip, AtGroups, AtEntries, AtEntry, AtEnd, Behind}
use Rattle.std.specs.Prelude.{IfSome, Result, Ok, Err}
use Rattle.std.specs.Io.KnownBytes.{Consumes, Keeps, IsAtEnd}
use Rattle.mr_certform.specs.declared.stream.StreamFault.{StreamFault}
use Rattle.mr_certform.specs.declared.stream.StreamFault.TheVariants.{Malformed, Device}
use Rattle.mr_bytes.specs.declared.Name.{Name}
use Rattle.mr_certform.specs.declared.version.Version.{Version}
use Rattle.mr_certform.specs.declared.version.Version.TheVariants.{V1, V2}
use Rattle.mr_certform.specs.Places.{onward, behind, first_name, literal_bytes, file_lengths, partitions, skips, groups, entries}
use Rattle.mr_certform.specs.Grammar.{AreBytes}
use Rattle.mr_certform.specs.Streaming.{Stream, coming_from, Agrees, MayCome, IsToCome, version_at, Gives, Told}
use Rattle.mr_certform.specs.Spelling.{Front, magic, version_of, number, any, of_bytes, at, skip_at, name_at, entry_at, entry_of, standing, left_behind, items_from, items_of, bytes_at, bytes_from, stop}
use Rattle.mr_certform.specs.Short.{NameFront, short_name_at}
use Rattle.mr_certform.proofs.Chosen.{chosen, not_chosen}
use Rattle.mr_certform.proofs.Fuel.{items_none, items_end, item_step, end_or_not, end_step, shorter, taken_step, sized_here}
use Rattle.mr_certform.proofs.ShortLaws.{name_before, name_long}
use Rattle.mr_certform.proofs.ShortSizes.{name_cut}

-- ---- what stands in front of more bytes

-- where an item stands, with these bytes behind it
abbrev pub before : List ℕ → Option Front → Option Front
before more None = None
before more (Some f) = Some (record { item = f.item; rest = f.rest ++ more })

abbrev stood : Item → List ℕ → Option Front
stood i rest = Some (record { item = i; rest = rest })

not_less : (n size : ℕ) → size ≤ n → ltb n size ≡ false
not_less n size h = by (ltb n size) refl
  where
    by : (t : Bool) → ltb n size ≡ t → ltb n size ≡ false
    by true e = let less = ltb-true n size e in absurd (omega (arith, h))
    by false e = e

long_more : (size : ℕ) (xs ys : List ℕ) → size ≤ length xs → size ≤ length (xs ++ ys)
long_more size xs ys h = omega (arith, h, length-append xs ys)

long_number : (size : ℕ) (value : List ℕ → ℕ) (ok : ℕ → Bool) (item : ℕ → Item) (xs ys : List ℕ) → size ≤ length xs → number size value ok item (xs ++ ys) ≡ before ys (number size value ok item xs)
long_number size value ok item xs ys h =
    let n = value (take size xs) in
    let front : take size (xs ++ ys) ≡ take size xs = take-append-le size xs ys h in
    let back : drop size (xs ++ ys) ≡ drop size xs ++ ys = drop-append-le size xs ys h in
    let one : number size value ok item (xs ++ ys) ≡ cond {A = Option Front} (ok (value (take size xs))) (Some (record { item = item (value (take size xs)); rest = drop size xs ++ ys })) None =
    ap (λ t. cond {A = Option Front} t None (cond {A = Option Front} (ok (value (take size (xs ++ ys)))) (Some (record { item = item (value (take size (xs ++ ys))); rest = drop size (xs ++ ys) })) None)) (not_less (length (xs ++ ys)) size (long_more size xs ys h))
    ∙ (ap (λ w. cond {A = Option Front} (ok (value w)) (Some (record { item = item (value w); rest = drop size (xs ++ ys) })) None) front
    ∙ ap (λ w. cond {A = Option Front} (ok (value (take size xs))) (Some (record { item = item (value (take size xs)); rest = w })) None) back) in
    let other : number size value ok item xs ≡ cond {A = Option Front} (ok (value (take size xs))) (Some (record { item = item (value (take size xs)); rest = drop size xs })) None =
    ap (λ t. cond {A = Option Front} t None (cond {A = Option Front} (ok (value (take size xs))) (Some (record { item = item (value (take size xs)); rest = drop size xs })) None)) (not_less (length xs) size h) in
    one ∙ (by (ok (value (take size xs))) ∙ sym (ap (before ys) other))
  where
    by : (t : Bool) → cond {A = Option Front} t (Some (record { item = item (value (take size xs)); rest = drop size xs ++ ys })) None ≡ before ys (cond {A = Option Front} t (Some (record { item = item (value (take size xs)); rest = drop size xs })) None)
    by true = refl
    by false = refl

long_bytes : (size : ℕ) (one other : Item) (xs ys : List ℕ) → size ≤ length xs → one ≡ other → of_bytes size one (xs ++ ys) ≡ before ys (of_bytes size other xs)
long_bytes size one other xs ys h same =
    let back : drop size (xs ++ ys) ≡ drop size xs ++ ys = drop-append-le size xs ys h in
    let first : of_bytes size one (xs ++ ys) ≡ Some (record { item = other; rest = drop size xs ++ ys }) =
    ap (λ t. cond {A = Option Front} t None (Some (record { item = one; rest = drop size (xs ++ ys) }))) (not_less (length (xs ++ ys)) size (long_more size xs ys h))
    ∙ (ap (λ (w : Item). stood w (drop size (xs ++ ys))) same ∙ ap (stood other) back) in
    let second : of_bytes size other xs ≡ Some (record { item = other; rest = drop size xs }) =
    ap (λ t. cond {A = Option Front} t None (Some (record { item = other; rest = drop size xs }))) (not_less (length xs) size h) in
    first ∙ sym (ap (before ys) second)

at_more : (i : ℕ) (xs ys : List ℕ) → i + 4 ≤ length xs → at (xs ++ ys) i ≡ at xs i
at_more i xs ys h =
    ap (λ w. from_be_bytes w32 (take 4 w)) (drop-append-le i xs ys (omega (arith, h))) ∙ ap (from_be_bytes w32) (take-append-le 4 (drop i xs) ys (omega (arith, h, length-drop i xs)))

long_entry : (v : Version) (b : Name) (xs ys : List ℕ) → 15 ≤ length xs → entry_at v b (xs ++ ys) ≡ before ys (entry_at v b xs)
long_entry V1 b xs ys h =
    long_bytes 12 (Entry (name_at (xs ++ ys))) (Entry (name_at xs)) xs ys (omega (arith, h))
    (ap (λ n. Entry (record { split = n; rec = at (xs ++ ys) 4; place = at (xs ++ ys) 8 })) (at_more 0 xs ys (omega (arith, h)))
    ∙ (ap (λ n. Entry (record { split = at xs 0; rec = n; place = at (xs ++ ys) 8 })) (at_more 4 xs ys (omega (arith, h)))
    ∙ ap (λ n. Entry (record { split = at xs 0; rec = at xs 4; place = n })) (at_more 8 xs ys (omega (arith, h)))))
long_entry V2 b xs ys h = ap entry_of (name_long b xs ys h) ∙ by (short_name_at b xs)
  where
    by : (o : Option NameFront) → entry_of (name_before ys o) ≡ before ys (entry_of o)
    by None = refl
    by (Some n) = refl

module _ (v : Version) where
  long_magic : (xs ys : List ℕ) → 15 ≤ length xs → standing v AtMagic (xs ++ ys) ≡ before ys (standing v AtMagic xs)
  long_magic xs ys h =
      let front : take 8 (xs ++ ys) ≡ take 8 xs = take-append-le 8 xs ys (omega (arith, h)) in
      let back : drop 8 (xs ++ ys) ≡ drop 8 xs ++ ys = drop-append-le 8 xs ys (omega (arith, h)) in
      ap (λ w. cond {A = Option Front} (pointwise eqb w (magic v)) (Some (record { item = Magic; rest = drop 8 (xs ++ ys) })) None) front
      ∙ (ap (λ w. cond {A = Option Front} (pointwise eqb (take 8 xs) (magic v)) (Some (record { item = Magic; rest = w })) None) back ∙ by (pointwise eqb (take 8 xs) (magic v)))
    where
      by : (t : Bool) → cond {A = Option Front} t (Some (record { item = Magic; rest = drop 8 xs ++ ys })) None ≡ before ys (cond {A = Option Front} t (Some (record { item = Magic; rest = drop 8 xs })) None)
      by true = refl
      by false = refl

  four_long : (p : GrammarState) (ok : ℕ → Bool) (item : ℕ → Item) (xs ys : List ℕ) → 15 ≤ length xs → number 4 (from_be_bytes w32) ok item (xs ++ ys) ≡ before ys (number 4 (from_be_bytes w32) ok item xs)
  four_long p ok item xs ys h = long_number 4 (from_be_bytes w32) ok item xs ys (omega (arith, h))

  -- an item is seen by its own bytes: the same stands in front of more, where these are as many as the longest has
  long : (p : GrammarState) (xs ys : List ℕ) → 15 ≤ length xs → standing v p (xs ++ ys) ≡ before ys (standing v p xs)
  long AtMagic xs ys h = long_magic xs ys h
  long AtJob xs ys h = four_long AtJob any Job xs ys h
  long AtFlags xs ys h = four_long AtFlags any Flags xs ys h
  long AtLiteralLength xs ys h = four_long AtLiteralLength (λ n. leb n 4096) LiteralLength xs ys h
  long (AtLiteralByte m) [] ys h = absurd (omega (arith, h))
  long (AtLiteralByte m) (x ∷ xs) ys h = refl
  long AtParts xs ys h = four_long AtParts (λ n. leb 1 n && leb n 1024) Parts xs ys h
  long (AtSplitSize r) xs ys h = four_long (AtSplitSize r) any SplitSize xs ys h
  long (AtFiles r) xs ys h = four_long (AtFiles r) (λ n. leb n 1024) Files xs ys h
  long (AtFileLength r m) xs ys h = long_number 8 (from_be_bytes w64) any FileLength xs ys (omega (arith, h))
  long (AtSkips r) xs ys h = four_long (AtSkips r) any Skips xs ys h
  long (AtSkip r m) xs ys h =
      long_bytes 8 (Skip (skip_at (xs ++ ys))) (Skip (skip_at xs)) xs ys (omega (arith, h))
      (ap (λ n. Skip (record { split = n; rec = at (xs ++ ys) 4 })) (at_more 0 xs ys (omega (arith, h))) ∙ ap (λ n. Skip (record { split = at xs 0; rec = n })) (at_more 4 xs ys (omega (arith, h))))
  long (AtGroups r) xs ys h = four_long (AtGroups r) any Groups xs ys h
  long (AtEntries r g) xs ys h = four_long (AtEntries r g) (λ n. leb 1 n) Entries xs ys h
  long (AtEntry r g m b) xs ys h = long_entry v b xs ys h
  long AtEnd [] ys h = absurd (omega (arith, h))
  long AtEnd (x ∷ xs) ys h = refl
  long Behind xs ys h = refl

before_none : (o : Option Front) → before [] o ≡ o
before_none None = refl
before_none (Some f) = ap (stood f.item) (append-nil f.rest)

-- or nothing is behind them
pub seen : (v : Version) (p : GrammarState) (xs ys : List ℕ) → (15 ≤ length xs) ⊎ (ys ≡ []) → standing v p (xs ++ ys) ≡ before ys (standing v p xs)
seen v p xs ys (inl h) = long v p xs ys h
seen v p xs ys (inr e) = ap (λ w. standing v p (xs ++ w)) e ∙ (ap (standing v p) (append-nil xs) ∙ (sym (before_none (standing v p xs)) ∙ ap (λ w. before w (standing v p xs)) (sym e)))

-- ---- how many bytes an item takes

abbrev pub Cut : List ℕ → Front → Type 0
Cut xs f = (k : ℕ) × (k ≤ length xs) × (f.rest ≡ drop k xs)

cut_bytes : (size : ℕ) (item : Item) (xs : List ℕ) (f : Front) → of_bytes size item xs ≡ Some f → Cut xs f
cut_bytes size item xs f e =
    let c = not_chosen (ltb (length xs) size) (Some (record { item = item; rest = drop size xs })) f e in
    let same : record { item = item; rest = drop size xs } ≡ f = cc (c.1) in
    (size, ltb-false (length xs) size (c.0), ap (λ (g : Front). g.rest) (sym same))

cut_number : (size : ℕ) (value : List ℕ → ℕ) (ok : ℕ → Bool) (item : ℕ → Item) (xs : List ℕ) (f : Front) → number size value ok item xs ≡ Some f → Cut xs f
cut_number size value ok item xs f e =
    let n = value (take size xs) in
    let c = not_chosen (ltb (length xs) size) (cond (ok n) (Some (record { item = item n; rest = drop size xs })) None) f e in
    let d = chosen (ok n) (record { item = item n; rest = drop size xs }) f (c.1) in
    (size, ltb-false (length xs) size (c.0), ap (λ (g : Front). g.rest) (sym (d.1)))

cut_magic : (v : Version) (xs : List ℕ) (f : Front) → standing v AtMagic xs ≡ Some f → Cut xs f
cut_magic v xs f e =
    let c = chosen (pointwise eqb (take 8 xs) (magic v)) (record { item = Magic; rest = drop 8 xs }) f e in
    let eight : take 8 xs ≡ (magic v) = (bytes_decides (take 8 xs) (magic v)).0 (c.0) in
    (8, omega (arith, length-take 8 xs, ap length eight), ap (λ (g : Front). g.rest) (sym (c.1)))

cut_entry : (v : Version) (b : Name) (xs : List ℕ) (f : Front) → entry_at v b xs ≡ Some f → Cut xs f
cut_entry V1 b xs f e = cut_bytes 12 (Entry (name_at xs)) xs f e
cut_entry V2 b xs f e = by (short_name_at b xs) refl e
  where
    by : (o : Option NameFront) → short_name_at b xs ≡ o → entry_of o ≡ Some f → Cut xs f
    by None is e = absurd (cc e)
    by (Some n) is e =
        let same : record { item = Entry n.name; rest = n.rest } ≡ f = cc e in
        let k = name_cut b xs n is in
        (k.0, k.1, ap (λ (g : Front). g.rest) (sym same) ∙ k.2)

pub cut : (v : Version) (p : GrammarState) (xs : List ℕ) (f : Front) → standing v p xs ≡ Some f → Cut xs f
cut v AtMagic xs f e = cut_magic v xs f e
cut v AtJob xs f e = cut_number 4 (from_be_bytes w32) any Job xs f e
cut v AtFlags xs f e = cut_number 4 (from_be_bytes w32) any Flags xs f e
cut v AtLiteralLength xs f e = cut_number 4 (from_be_bytes w32) (λ n. leb n 4096) LiteralLength xs f e
cut v (AtLiteralByte m) [] f e = absurd (cc e)
cut v (AtLiteralByte m) (x ∷ xs) f e = let same : record { item = LiteralByte x; rest = xs } ≡ f = cc e in (1, omega arith, ap (λ (g : Front). g.rest) (sym same))
cut v AtParts xs f e = cut_number 4 (from_be_bytes w32) (λ n. leb 1 n && leb n 1024) Parts xs f e
cut v (AtSplitSize r) xs f e = cut_number 4 (from_be_bytes w32) any SplitSize xs f e
cut v (AtFiles r) xs f e = cut_number 4 (from_be_bytes w32) (λ n. leb n 1024) Files xs f e
cut v (AtFileLength r m) xs f e = cut_number 8 (from_be_bytes w64) any FileLength xs f e
cut v (AtSkips r) xs f e = cut_number 4 (from_be_bytes w32) any Skips xs f e
cut v (AtSkip r m) xs f e = cut_bytes 8 (Skip (skip_at xs)) xs f e
cut v (AtGroups r) xs f e = cut_number 4 (from_be_bytes w32) any Groups xs f e
cut v (AtEntries r g) xs f e = cut_number 4 (from_be_bytes w32) (λ n. leb 1 n) Entries xs f e
cut v (AtEntry r g m b) xs f e = cut_entry v b xs f e
cut v AtEnd [] f e = let same : record { item = End; rest = [] } ≡ f = cc e in (0, omega arith, ap (λ (g : Front). g.rest) (sym same))
cut v AtEnd (x ∷ xs) f e = absurd (cc e)
cut v Behind xs f e = absurd (cc e)

-- ---- the bytes that are still to come

pub agrees_read : (known left : Option (List ℕ)) (got more : List ℕ) → Consumes known left got → Agrees left more → Agrees known (got ++ more)
agrees_read None left got more c a = tt
agrees_read (Some xs) None got more c a = absurd c
agrees_read (Some xs) (Some ys) got more c a = ap (λ w. got ++ w) a ∙ sym c

pub agrees_kept : (known left : Option (List ℕ)) (more : List ℕ) → Keeps known left → Agrees left more → Agrees known more
agrees_kept None left more c a = tt
agrees_kept (Some xs) None more c a = absurd c
agrees_kept (Some xs) (Some ys) more c a = a ∙ c

pub agrees_end : (left : Option (List ℕ)) → IsAtEnd left → Agrees left []
agrees_end None e = tt
agrees_end (Some xs) e = sym e

no_bytes : (xs : List ℕ) → length xs ≡ 0 → xs ≡ []
no_bytes [] e = refl
no_bytes (x ∷ xs) e = absurd (omega (arith, e))

-- none are bytes
pub none_are : AreBytes []
none_are i = omega arith

pub both_are : (xs ys : List ℕ) → AreBytes xs → AreBytes ys → AreBytes (xs ++ ys)
both_are [] ys h k i = k i
both_are (x ∷ xs) ys h k zero = h 0
both_are (x ∷ xs) ys h k (suc i) = both_are xs ys (λ j. h (suc j)) k i

-- where what is known are bytes, bytes may come
pub come_bytes : (known : Option (List ℕ)) (more : List ℕ) → IfSome known AreBytes → MayCome known more → AreBytes more
come_bytes None more k m = m
come_bytes (Some xs) more k m = subst AreBytes (sym m) k

pub come_agrees : (known : Option (List ℕ)) (more : List ℕ) → MayCome known more → Agrees known more
come_agrees None more m = tt
come_agrees (Some xs) more m = m

come_read : (known left : Option (List ℕ)) (got more : List ℕ) → Consumes known left got → AreBytes got → IfSome left AreBytes → MayCome left more → MayCome known (got ++ more)
come_read None left got more c are k m = both_are got more are (come_bytes left more k m)
come_read (Some xs) None got more c are k m = absurd c
come_read (Some xs) (Some ys) got more c are k m = ap (λ w. got ++ w) m ∙ sym c

come_kept : (known left : Option (List ℕ)) (more : List ℕ) → Keeps known left → IfSome left AreBytes → MayCome left more → MayCome known more
come_kept None left more c k m = come_bytes left more k m
come_kept (Some xs) None more c k m = absurd c
come_kept (Some xs) (Some ys) more c k m = m ∙ c

-- more is read
pub to_come_read : (old new : Stream) (got : List ℕ) → new.held ≡ old.held ++ got → AreBytes got → Consumes old.coming new.coming got → IfSome new.coming AreBytes → (bytes : List ℕ) → IsToCome new bytes → IsToCome old bytes
to_come_read old new got h are c k bytes t =
    (got ++ t.0, t.1 ∙ (ap (λ w. w ++ t.0) h ∙ append_assoc old.held got t.0), come_read old.coming new.coming got t.0 c are k t.2)

-- more is read by a walker that knows of no end
pub filled_more : (old new : Stream) (exhausted : Bool) (known left : Option (List ℕ)) (got : List ℕ) → exhausted ≡ false → old.coming ≡ coming_from exhausted known → new.coming ≡ coming_from exhausted left → new.held ≡ old.held ++ got → AreBytes got
    → Consumes known left got → IfSome left AreBytes → (bytes : List ℕ) → IsToCome new bytes → IsToCome old bytes
filled_more old new exhausted known left got none was is h are c k =
    let before : old.coming ≡ known = was ∙ ap (λ b. coming_from b known) none in
    let behind : new.coming ≡ left = is ∙ ap (λ b. coming_from b left) none in
    to_come_read old new got h are (subst (λ w. Consumes w new.coming got) (sym before) (subst (λ w. Consumes known w got) (sym behind) c)) (subst (λ (w : Option (List ℕ)). IfSome w AreBytes) (sym behind) k)

-- ---- an answer

pub gives_back : (old new : Stream) → new.version ≡ old.version → new.place ≡ old.place → new.passed ≡ old.passed → ((bytes : List ℕ) → IsToCome new bytes → IsToCome old bytes) → (is : List Item) (stopped : ℕ) → Gives new is stopped → Gives old is stopped
gives_back old new v p n back is stopped g =
    let same : version_at new.version new.place g.0 ≡ version_at old.version old.place g.0 = ap (λ w. version_at w new.place g.0) v ∙ ap (λ w. version_at old.version w g.0) p in (
      g.0,
      back g.0 g.1,
      g.2 ∙ (ap (λ w. items_from w new.place g.0) same ∙ ap (λ w. items_from (version_at old.version old.place g.0) w g.0) p),
      g.3
          ∙ (ap (λ w. w + length (bytes_from (version_at new.version new.place g.0) new.place is)) n
          ∙ (ap (λ w. old.passed + length (bytes_from w new.place is)) same
          ∙ ap (λ w. old.passed + length (bytes_from (version_at old.version old.place g.0) w is)) p)),
    )

pub told_back : (old mid new : Stream) (r : Result Item StreamFault) → ((is : List Item) (stopped : ℕ) → Gives mid is stopped → Gives old is stopped) → Told mid new r → Told old new r
told_back old mid new (Ok End) back t = λ is stopped g. let h = t is stopped g in (back is stopped h.0, h.1)
told_back old mid new (Ok i) back t = λ is stopped g. back (i ∷ is) stopped (t is stopped g)
told_back old mid new (Err (Malformed place)) back t = λ is stopped g. let h = t is stopped g in (back is stopped h.0, h.1, h.2)
told_back old mid new (Err Device) back t = λ is stopped g. back is stopped (t is stopped g)

-- an item's bytes are held, or all that there are
abbrev pub Filled : Stream → Type 0
Filled s = (15 ≤ length s.held) ⊎ (s.coming ≡ Some [])

pub filled_stream : (s : Stream) (exhausted : Bool) (known : Option (List ℕ)) → s.coming ≡ coming_from exhausted known → (15 ≤ length s.held) ⊎ (exhausted ≡ true) → Filled s
filled_stream s exhausted known e (inl h) = inl h
filled_stream s exhausted known e (inr h) = inr (e ∙ ap (λ w. coming_from w known) h)

filled_with : (s : Stream) (more : List ℕ) → Filled s → MayCome s.coming more → (15 ≤ length s.held) ⊎ (more ≡ [])
filled_with s more (inl h) a = inl h
filled_with s more (inr e) a = inr (subst (λ w. MayCome w more) e a)

-- ---- the version of the items that come

-- the magic is seen by its own bytes
version_more : (xs ys : List ℕ) → (15 ≤ length xs) ⊎ (ys ≡ []) → version_of (xs ++ ys) ≡ version_of xs
version_more xs ys (inl h) = ap (λ w. cond {A = Version} (pointwise eqb w (magic V2)) V2 V1) (take-append-le 8 xs ys (omega (arith, h)))
version_more xs ys (inr e) = ap (λ w. version_of (xs ++ w)) e ∙ ap version_of (append-nil xs)

version_ahead : (v : Version) (p : GrammarState) (xs ys : List ℕ) → (15 ≤ length xs) ⊎ (ys ≡ []) → version_at v p (xs ++ ys) ≡ version_at v p xs
version_ahead v AtMagic xs ys h = version_more xs ys h
version_ahead v p xs ys h = refl

-- no magic is awaited behind an item
literal_version : (v : Version) (n : ℕ) (xs : List ℕ) → version_at v (literal_bytes n) xs ≡ v
literal_version v zero xs = refl
literal_version v (suc n) xs = refl

lengths_version : (v : Version) (r n : ℕ) (xs : List ℕ) → version_at v (file_lengths r n) xs ≡ v
lengths_version v r zero xs = refl
lengths_version v r (suc n) xs = refl

parts_version : (v : Version) (n : ℕ) (xs : List ℕ) → version_at v (partitions n) xs ≡ v
parts_version v zero xs = refl
parts_version v (suc n) xs = refl

skips_version : (v : Version) (r n : ℕ) (xs : List ℕ) → version_at v (skips r n) xs ≡ v
skips_version v r zero xs = parts_version v r xs
skips_version v r (suc n) xs = refl

groups_version : (v : Version) (r n : ℕ) (xs : List ℕ) → version_at v (groups r n) xs ≡ v
groups_version v r zero xs = parts_version v r xs
groups_version v r (suc n) xs = refl

entries_version : (v : Version) (r g n : ℕ) (b : Name) (xs : List ℕ) → version_at v (entries r g n b) xs ≡ v
entries_version v r g zero b xs = groups_version v r g xs
entries_version v r g (suc n) b xs = refl

behind_version : (v : Version) (p : GrammarState) (i : Item) (xs : List ℕ) → version_at v (behind p i) xs ≡ v
behind_version v AtLiteralLength (LiteralLength n) xs = literal_version v n xs
behind_version v (AtLiteralByte n) i xs = literal_version v n xs
behind_version v AtParts (Parts r) xs = refl
behind_version v (AtFiles r) (Files n) xs = lengths_version v r n xs
behind_version v (AtFileLength r n) i xs = lengths_version v r n xs
behind_version v (AtSkips r) (Skips n) xs = skips_version v r n xs
behind_version v (AtSkip r n) i xs = skips_version v r n xs
behind_version v (AtGroups r) (Groups n) xs = groups_version v r n xs
behind_version v (AtEntries r g) (Entries n) xs = entries_version v r g n first_name xs
behind_version v (AtEntry r g n b) (Entry name) xs = entries_version v r g n name xs
behind_version v p i xs = refl

elsewhere_version : (v : Version) (p : GrammarState) (xs : List ℕ) → (p ≡ AtMagic → ⊥) → version_at v p xs ≡ v
elsewhere_version v AtMagic xs h = absurd (h refl)
elsewhere_version v p xs h = refl

onward_version : (v : Version) (p : GrammarState) (held xs : List ℕ) (f : Front) → standing v p held ≡ Some f → version_at v (onward p f.item) xs ≡ v
onward_version v p held xs f is =
    elim (end_or_not f.item) [
      | inl last ↦ ap (λ (i : Item). version_at v (onward p i) xs) last ∙ elsewhere_version v p xs (λ e. elim (shorter v p held f is) [
        | inl less ↦ less.1 last
        | inr z ↦ (let bad : AtMagic ≡ AtEnd = sym e ∙ z.1 in cc bad)
      ])
      | inr more ↦ ap (λ q. version_at v q xs) (more.1 p) ∙ behind_version v p f.item xs
    ]

-- an item that was told, in the version that what is held tells
record Stepped (v : Version) (old new : Stream) (i : Item) : Type 0 where
  rest : List ℕ
  stands : standing v old.place old.held ≡ Some (record { item = i; rest = rest })
  told : version_at old.version old.place old.held ≡ v
  filled : Filled old
  version : new.version ≡ v
  place : new.place ≡ onward old.place i
  held : new.held ≡ rest
  coming : new.coming ≡ old.coming
  passed : new.passed ≡ old.passed + (length old.held - length rest)

shorter_rest : (v : Version) (p : GrammarState) (xs : List ℕ) (f : Front) → standing v p xs ≡ Some f → length f.rest ≤ length xs
shorter_rest v p xs f e = let c = cut v p xs f e in omega (arith, ap length c.2, length-drop c.0 xs)

stands_more : (v : Version) (old new : Stream) (i : Item) (s : Stepped v old new i) (more : List ℕ) → MayCome old.coming more → standing v old.place (old.held ++ more) ≡ Some (record { item = i; rest = s.rest ++ more })
stands_more v old new i s more a = seen v old.place old.held more (filled_with old more s.filled a) ∙ ap (before more) s.stands

-- before the item and behind it the bytes are of this version
version_before : (v : Version) (old new : Stream) (i : Item) → Stepped v old new i → (more : List ℕ) → MayCome old.coming more → version_at old.version old.place (old.held ++ more) ≡ v
version_before v old new i s more a = version_ahead old.version old.place old.held more (filled_with old more s.filled a) ∙ s.told

version_behind : (v : Version) (old new : Stream) (i : Item) → Stepped v old new i → (xs : List ℕ) → version_at new.version new.place xs ≡ v
version_behind v old new i s xs =
    ap (λ w. version_at w new.place xs) s.version
    ∙ (ap (λ q. version_at v q xs) s.place ∙ onward_version v old.place old.held xs (record { item = i; rest = s.rest }) s.stands)

step_gives : (v : Version) (old new : Stream) (i : Item) → Stepped v old new i → (is : List Item) (stopped : ℕ) → Gives new is stopped → Gives old (i ∷ left_behind i is) stopped
step_gives v old new i s is stopped (bytes, (more, eb, a), ei, ea) =
    let here : MayCome old.coming more = subst (λ w. MayCome w more) s.coming a in
    let ahead : List ℕ = old.held ++ more in
    let behind : List ℕ = s.rest ++ more in
    let st : standing v old.place (old.held ++ more) ≡ Some (record { item = i; rest = s.rest ++ more }) = stands_more v old new i s more here in
    let same : bytes ≡ s.rest ++ more = eb ∙ ap (λ w. w ++ more) s.held in
    let told : items_from v old.place (old.held ++ more) ≡ i ∷ left_behind i (items_from v new.place (s.rest ++ more)) = item_step v old.place new.place (old.held ++ more) (s.rest ++ more) i st s.place in
    let later : version_at new.version new.place bytes ≡ v = version_behind v old new i s bytes in
    let first : version_at old.version old.place (old.held ++ more) ≡ v = version_before v old new i s more here in
    let left : is ≡ items_from v new.place (s.rest ++ more) = ei ∙ (ap (λ w. items_from w new.place bytes) later ∙ ap (items_from v new.place) same) in
    let all : i ∷ left_behind i is ≡ items_from v old.place (old.held ++ more) = ap (λ w. i ∷ left_behind i w) left ∙ sym told in (
      old.held ++ more,
      (more, refl, here),
      all ∙ ap (λ w. items_from w old.place (old.held ++ more)) (sym first),
      omega (
        arith,
        ea,
        s.passed,
        ap (λ w. length (bytes_from w new.place is)) later,
        ap (λ w. length (bytes_from w old.place (i ∷ left_behind i is))) first,
        ap (λ w. length (bytes_from v new.place w)) left,
        ap (λ w. length (bytes_from v old.place w)) all,
        taken_step v old.place new.place (old.held ++ more) (s.rest ++ more) i st s.place,
        length-append old.held more,
        length-append s.rest more,
        shorter_rest v old.place old.held (record { item = i; rest = s.rest }) s.stands,
      ),
    )

end_left : (v : Version) (old new : Stream) (i : Item) → Stepped v old new i → i ≡ End → (is : List Item) (stopped : ℕ) → Gives new is stopped → is ≡ End ∷ []
end_left v old new i s e is stopped (bytes, (more, eb, a), ei, ea) =
    let here : MayCome old.coming more = subst (λ w. MayCome w more) s.coming a in
    let st : standing v old.place (old.held ++ more) ≡ Some (record { item = i; rest = s.rest ++ more }) = stands_more v old new i s more here in
    ei
    ∙ (ap (λ w. items_from w new.place bytes) (version_behind v old new i s bytes)
    ∙ (ap (items_from v new.place) (eb ∙ ap (λ w. w ++ more) s.held)
    ∙ (end_step v old.place new.place (old.held ++ more) (s.rest ++ more) i st s.place e
    ∙ items_end v old.place (old.held ++ more) (record { item = i; rest = s.rest ++ more }) st e)))

stepped : (v : Version) (old new : Stream) (i : Item) → Stepped v old new i → Told old new (Ok i)
stepped v old new End s = λ is stopped g. let e = end_left v old new End s refl is stopped g in (subst (λ w. Gives old w stopped) (sym e) (step_gives v old new End s is stopped g), e)
stepped v old new i s = λ is stopped g. step_gives v old new i s is stopped g

pub told_item : (v : Version) (old new : Stream) (i : Item) (rest : List ℕ) → version_at old.version old.place old.held ≡ v → standing v old.place old.held ≡ Some (record { item = i; rest = rest }) → Filled old
    → new.version ≡ v → new.place ≡ onward old.place i → new.held ≡ rest → new.coming ≡ old.coming → new.passed ≡ old.passed + (length old.held - length rest) → Told old new (Ok i)
told_item v old new i rest told st filled version place held coming passed =
    stepped v old new i (record { rest = rest; stands = st; told = told; filled = filled; version = version; place = place; held = held; coming = coming; passed = passed })

pub told_none : (v : Version) (old : Stream) → version_at old.version old.place old.held ≡ v → standing v old.place old.held ≡ None → Filled old → Told old old (Err (Malformed old.passed))
told_none v old told st filled = λ is stopped g. (
    let full = filled_with old g.1.0 filled g.1.2 in
    let none : standing v old.place (old.held ++ g.1.0) ≡ None = seen v old.place old.held g.1.0 full ∙ ap (before g.1.0) st in
    let here : version_at old.version old.place g.0 ≡ v = ap (version_at old.version old.place) g.1.1 ∙ (version_ahead old.version old.place old.held g.1.0 full ∙ told) in
    let empty : is ≡ [] =
    g.2 ∙ (ap (λ w. items_from w old.place g.0) here ∙ (ap (items_from v old.place) g.1.1 ∙ items_none v old.place (old.held ++ g.1.0) none)) in
    (g, empty, omega (arith, g.3, ap (λ w. length (bytes_from (version_at old.version old.place g.0) old.place w)) empty))
    )

pub rest_told : (v : Version) (p : GrammarState) (xs rest : List ℕ) (i : Item) → standing v p xs ≡ Some (record { item = i; rest = rest }) → (length rest ≤ length xs) × (drop (length xs - length rest) xs ≡ rest) × (length (bytes_at v p i) ≡ length xs - length rest)
rest_told v p xs rest i st =
    let f : Front = record { item = i; rest = rest } in
    let c = cut v p xs (record { item = i; rest = rest }) st in
    let size = length-drop c.0 xs in
    let count : length xs - length rest ≡ c.0 = omega (arith, ap length c.2, size, c.1) in
    (omega (arith, ap length c.2, size), ap (λ w. drop w xs) count ∙ sym c.2, omega (arith, sized_here v p xs (record { item = i; rest = rest }) st))

-- at the front
pub begun : (new : Stream) (known : Option (List ℕ)) → new.place ≡ AtMagic → new.passed ≡ 0 → new.held ≡ [] → new.coming ≡ known → (is : List Item) (stopped : ℕ) → Gives new is stopped
    → (bytes : List ℕ) × MayCome known bytes × (is ≡ items_of bytes) × (stopped ≡ stop bytes)
unfolding items_of stop
begun new known p n h c is stopped (bytes, (more, eb, a), ei, ea) =
    let all : bytes ≡ more = eb ∙ ap (λ w. w ++ more) h in
    let front : version_at new.version new.place bytes ≡ version_of bytes = ap (λ q. version_at new.version q bytes) p in
    let items : is ≡ items_from (version_of bytes) AtMagic bytes = ei ∙ (ap (λ w. items_from w new.place bytes) front ∙ ap (λ w. items_from (version_of bytes) w bytes) p) in (
      bytes,
      subst (MayCome known) (sym all) (subst (λ w. MayCome w more) c a),
      items,
      omega (
        arith,
        ea,
        n,
        ap (λ w. length (bytes_from w new.place is)) front,
        ap (λ w. length (bytes_from (version_of bytes) w is)) p,
        ap (λ w. length (bytes_from (version_of bytes) AtMagic w)) items,
      ),
    )

-- some items may always come
pub some_given : (s : Stream) → (is : List Item) × ((stopped : ℕ) × Gives s is stopped)
some_given s = by s.coming (λ more a. given_behind more a)
  where
    given_behind : (more : List ℕ) → MayCome s.coming more → (is : List Item) × ((stopped : ℕ) × Gives s is stopped)
    given_behind more a =
        let v : Version = version_at s.version s.place (s.held ++ more) in
        let items : List Item = items_from v s.place (s.held ++ more) in
        (items, (s.passed + length (bytes_from v s.place items), (s.held ++ more, (more, refl, a), refl, refl)))

    by : (known : Option (List ℕ)) → ((more : List ℕ) → MayCome known more → (is : List Item) × ((stopped : ℕ) × Gives s is stopped)) → (is : List Item) × ((stopped : ℕ) × Gives s is stopped)
    by None found = found [] none_are
    by (Some xs) found = found xs refl
