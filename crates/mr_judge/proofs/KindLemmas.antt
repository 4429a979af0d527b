-- The items of bytes are of the kinds that are awaited, whatever the bytes are.
use Rattle.std.proofs.Common.{◌≡◌, ℕ, zero, suc, ◌+◌, Bool, cond, Option, Some, None, List, [], ◌∷◌, length, take, drop, refl, sym, subst, ltb, leb, eqb, ◌&&◌}
use Rattle.std.specs.Cmp.Lexicographic.{pointwise}
use Rattle.std.specs.Int.{w32, w64, from_be_bytes}
use Rattle.mr_certform.specs.declared.grammar_state.Item.{Item}
use Rattle.mr_certform.specs.declared.grammar_state.Item.TheVariants.{Magic, Job, Flags, LiteralLength, LiteralByte, Parts, SplitSize, Files, FileLength, Skips, Skip, Groups, Entries, Entry, End}
use Rattle.mr_certform.specs.declared.grammar_state.GrammarState.{GrammarState}
use Rattle.mr_certform.specs.declared.grammar_state.GrammarState.TheVariants.{AtMagic, AtJob, AtFlags, AtLiteralLength, AtLiteralByte, AtParts, AtSplitSize, AtFiles, AtFileLength, AtSkips, AtSkip, AtGroups, AtEntries, AtEntry, AtEnd, Behind}
use Rattle.mr_certform.specs.Places.{behind}
use Rattle.mr_certform.specs.Grammar.{MayStand, InOrder}
use Rattle.mr_bytes.specs.declared.Name.{Name}
use Rattle.mr_certform.specs.declared.version.Version.{Version}
use Rattle.mr_certform.specs.declared.version.Version.TheVariants.{V1, V2}
use Rattle.mr_certform.specs.Short.{NameFront, short_name_at}
use Rattle.mr_certform.specs.Spelling.{Front, magic, number, any, of_bytes, skip_at, name_at, entry_at, entry_of, version_of, standing, walk, items_from, items_of}
use Rattle.mr_certform.proofs.Chosen.{chosen, not_chosen}
use Rattle.mr_judge.specs.Kinds.{IsOfKind, InKind}

-- ---- what stands in order is of the awaited kinds

kind_of : (p : GrammarState) (i : Item) → MayStand p i → IsOfKind p i
kind_of AtMagic Magic h = tt
kind_of AtJob (Job n) h = tt
kind_of AtFlags (Flags n) h = tt
kind_of AtLiteralLength (LiteralLength n) h = tt
kind_of (AtLiteralByte m) (LiteralByte b) h = tt
kind_of AtParts (Parts n) h = tt
kind_of (AtSplitSize r) (SplitSize n) h = tt
kind_of (AtFiles r) (Files n) h = tt
kind_of (AtFileLength r m) (FileLength n) h = tt
kind_of (AtSkips r) (Skips n) h = tt
kind_of (AtSkip r m) (Skip s) h = tt
kind_of (AtGroups r) (Groups n) h = tt
kind_of (AtEntries r g) (Entries n) h = tt
kind_of (AtEntry r g m before) (Entry n) h = tt
kind_of AtEnd End h = tt
kind_of p i h = absurd h

pub in_order : (p : GrammarState) (i : Item) (is : List Item) → InOrder p (i ∷ is) → IsOfKind p i × InOrder (behind p i) is
in_order p i is h = (kind_of p i h.0, h.1)

pub in_kind : (p : GrammarState) (i : Item) (is : List Item) → InKind p (i ∷ is) → IsOfKind p i × InKind (behind p i) is
in_kind p i is h = h

-- ---- an item that stands is of the awaited kind

sized : (p : GrammarState) (size : ℕ) (item : Item) (bytes : List ℕ) (f : Front) → IsOfKind p item → of_bytes size item bytes ≡ Some f → IsOfKind p f.item
sized p size item bytes f kind e =
    let c = not_chosen (ltb (length bytes) size) (Some (record { item = item; rest = drop size bytes })) f e in
    let same : record { item = item; rest = drop size bytes } ≡ f = cc (c.1) in
    subst (λ (g : Front). IsOfKind p g.item) same kind

numbered : (p : GrammarState) (size : ℕ) (value : List ℕ → ℕ) (ok : ℕ → Bool) (item : ℕ → Item) (bytes : List ℕ) (f : Front) → ((n : ℕ) → IsOfKind p (item n)) → number size value ok item bytes ≡ Some f → IsOfKind p f.item
numbered p size value ok item bytes f kind e =
    let n = value (take size bytes) in
    let c = not_chosen (ltb (length bytes) size) (cond (ok n) (Some (record { item = item n; rest = drop size bytes })) None) f e in
    let d = chosen (ok n) (record { item = item n; rest = drop size bytes }) f (c.1) in
    subst (λ (g : Front). IsOfKind p g.item) (d.1) (kind n)

entry_kind : (v : Version) (r g m : ℕ) (b : Name) (bytes : List ℕ) (f : Front) → entry_at v b bytes ≡ Some f → IsOfKind (AtEntry r g m b) f.item
entry_kind V1 r g m b bytes f e = sized (AtEntry r g m b) 12 (Entry (name_at bytes)) bytes f tt e
entry_kind V2 r g m b bytes f e = by (short_name_at b bytes) e
  where
    by : (o : Option NameFront) → entry_of o ≡ Some f → IsOfKind (AtEntry r g m b) f.item
    by None e = absurd (cc e)
    by (Some n) e = let same : record { item = Entry n.name; rest = n.rest } ≡ f = cc e in subst (λ (h : Front). IsOfKind (AtEntry r g m b) h.item) same tt

module _ (v : Version) where
  kind_stands : (p : GrammarState) (bytes : List ℕ) (f : Front) → standing v p bytes ≡ Some f → IsOfKind p f.item
  kind_stands AtMagic bytes f e =
      let c = chosen (pointwise eqb (take 8 bytes) (magic v)) (record { item = Magic; rest = drop 8 bytes }) f e in
      subst (λ (g : Front). IsOfKind AtMagic g.item) (c.1) tt
  kind_stands AtJob bytes f e = numbered AtJob 4 (from_be_bytes w32) any Job bytes f (λ n. tt) e
  kind_stands AtFlags bytes f e = numbered AtFlags 4 (from_be_bytes w32) any Flags bytes f (λ n. tt) e
  kind_stands AtLiteralLength bytes f e = numbered AtLiteralLength 4 (from_be_bytes w32) (λ n. leb n 4096) LiteralLength bytes f (λ n. tt) e
  kind_stands (AtLiteralByte m) [] f e = absurd (cc e)
  kind_stands (AtLiteralByte m) (x ∷ bytes) f e = let same : record { item = LiteralByte x; rest = bytes } ≡ f = cc e in subst (λ (g : Front). IsOfKind (AtLiteralByte m) g.item) same tt
  kind_stands AtParts bytes f e = numbered AtParts 4 (from_be_bytes w32) (λ n. leb 1 n && leb n 1024) Parts bytes f (λ n. tt) e
  kind_stands (AtSplitSize r) bytes f e = numbered (AtSplitSize r) 4 (from_be_bytes w32) any SplitSize bytes f (λ n. tt) e
  kind_stands (AtFiles r) bytes f e = numbered (AtFiles r) 4 (from_be_bytes w32) (λ n. leb n 1024) Files bytes f (λ n. tt) e
  kind_stands (AtFileLength r m) bytes f e = numbered (AtFileLength r m) 8 (from_be_bytes w64) any FileLength bytes f (λ n. tt) e
  kind_stands (AtSkips r) bytes f e = numbered (AtSkips r) 4 (from_be_bytes w32) any Skips bytes f (λ n. tt) e
  kind_stands (AtSkip r m) bytes f e = sized (AtSkip r m) 8 (Skip (skip_at bytes)) bytes f tt e
  kind_stands (AtGroups r) bytes f e = numbered (AtGroups r) 4 (from_be_bytes w32) any Groups bytes f (λ n. tt) e
  kind_stands (AtEntries r g) bytes f e = numbered (AtEntries r g) 4 (from_be_bytes w32) (λ n. leb 1 n) Entries bytes f (λ n. tt) e
  kind_stands (AtEntry r g m b) bytes f e = entry_kind v r g m b bytes f e
  kind_stands AtEnd [] f e = let same : record { item = End; rest = [] } ≡ f = cc e in subst (λ (g : Front). IsOfKind AtEnd g.item) same tt
  kind_stands AtEnd (x ∷ bytes) f e = absurd (cc e)
  kind_stands Behind bytes f e = absurd (cc e)

  abbrev walk_from : ℕ → GrammarState → Option Front → List Item
  walk_from k p None = []
  walk_from k p (Some f) = f.item ∷ walk v k (behind p f.item) f.rest

  walk_is : (k : ℕ) (p : GrammarState) (bytes : List ℕ) → walk v (suc k) p bytes ≡ walk_from k p (standing v p bytes)
  walk_is k p bytes = by (standing v p bytes)
    where
      by : (o : Option Front) → elim o [ None ↦ [] | Some f ↦ f.item ∷ walk v k (behind p f.item) f.rest ] ≡ walk_from k p o
      by None = refl
      by (Some f) = refl

  kinds_walked : (k : ℕ) (p : GrammarState) (bytes : List ℕ) → InKind p (walk v k p bytes)
  kinds_walked zero p bytes = tt
  kinds_walked (suc k) p bytes = subst (InKind p) (sym (walk_is k p bytes)) (by (standing v p bytes) refl (λ q rest. kinds_walked k q rest))
    where
      by : (o : Option Front) → standing v p bytes ≡ o → ((q : GrammarState) (rest : List ℕ) → InKind q (walk v k q rest)) → InKind p (walk_from k p o)
      by None is more = tt
      by (Some f) is more = (kind_stands p bytes f is, more (behind p f.item) f.rest)

pub kinds_of : (bytes : List ℕ) → InKind AtMagic (items_of bytes)
unfolding items_of items_from
kinds_of bytes = kinds_walked (version_of bytes) (length bytes + 1) AtMagic bytes
