-- Entries that are passed over.
use Rattle.std.proofs.Common.{◌≡◌, ℕ, zero, suc, ◌+◌, ◌-◌, ◌*◌, ◌<◌, ◌≤◌, Option, Some, None, List, [], ◌∷◌, length, take, drop, refl, ap, sym, ◌∙◌, subst, inl, inr, arith, Bool, true, false, cond, ltb, nat_le, eqb, ◌&&◌}
use Rattle.std.proofs.lemmas.Bool.{ltb-false, ltb-true}
use Rattle.std.proofs.lemmas.List.{length-drop, drop-drop}
use Rattle.std.specs.Cmp.Lexicographic.{pointwise}
use Rattle.std.specs.Int.{w32, w64, from_be_bytes}
use Rattle.mr_bytes.specs.declared.Name.{Name}
use Rattle.mr_certform.specs.declared.grammar_state.Item.{Item}
use Rattle.mr_certform.specs.declared.grammar_state.Item.TheVariants.{Magic, Job, Flags, LiteralLength, LiteralByte, Parts, SplitSize, Files, FileLength, Skips, Skip, Groups, Entries, Entry, End}
use Rattle.mr_certform.specs.declared.grammar_state.GrammarState.{GrammarState}
use Rattle.mr_certform.specs.declared.grammar_state.GrammarState.TheVariants.{AtMagic, AtJob, AtFlags, AtLiteralLength, AtLiteralByte, AtParts, AtSplitSize, AtFiles, AtFileLength, AtSkips, AtSkip, AtGroups, AtEntries, AtEntry, AtEnd, Behind}
use Rattle.mr_certform.specs.declared.version.Version.{Version}
use Rattle.mr_certform.specs.declared.version.Version.TheVariants.{V1, V2}
use Rattle.mr_certform.specs.Places.{behind, onward, groups, entries}
use Rattle.mr_certform.specs.Spelling.{Front, magic, number, any, skip_at, name_at, entry_of, standing, items_from, left_behind}
use Rattle.mr_certform.specs.Short.{NameFront, short_name_at}
use Rattle.mr_certform.specs.Rows.{entries_ahead, behind_entries}
use Rattle.mr_certform.proofs.Chosen.{chosen, not_chosen}
use Rattle.mr_certform.proofs.Fuel.{shorter, items_here, items_none, item_step, taken, taken_here, taken_none, taken_step}

-- ---- one entry of version 1

stands : (r g n : ℕ) (b : Name) (bytes : List ℕ) → 12 ≤ length bytes → standing V1 (AtEntry r g n b) bytes ≡ Some (record { item = Entry (name_at bytes); rest = drop 12 bytes })
stands r g n b bytes h = by (ltb (length bytes) 12) refl
  where
    by : (t : Bool) → ltb (length bytes) 12 ≡ t → cond {A = Option Front} (ltb (length bytes) 12) None (Some (record { item = Entry (name_at bytes); rest = drop 12 bytes })) ≡ Some (record { item = Entry (name_at bytes); rest = drop 12 bytes })
    by true e = let less = ltb-true (length bytes) 12 e in absurd (omega arith)
    by false e = ap (λ t. cond {A = Option Front} t None (Some (record { item = Entry (name_at bytes); rest = drop 12 bytes }))) e

lacks : (r g n : ℕ) (b : Name) (bytes : List ℕ) → length bytes < 12 → standing V1 (AtEntry r g n b) bytes ≡ None
lacks r g n b bytes h = by (ltb (length bytes) 12) refl
  where
    by : (t : Bool) → ltb (length bytes) 12 ≡ t → cond {A = Option Front} (ltb (length bytes) 12) None (Some (record { item = Entry (name_at bytes); rest = drop 12 bytes })) ≡ None
    by true e = ap (λ t. cond {A = Option Front} t None (Some (record { item = Entry (name_at bytes); rest = drop 12 bytes }))) e
    by false e = let more = ltb-false (length bytes) 12 e in absurd (omega arith)

-- ---- a row of them

-- what is told of walks from two places: these stand one after the other, k entries apart
abbrev Apart : ℕ → GrammarState → List ℕ → GrammarState → List ℕ → Type 0
Apart k p bytes q rest =
    (entries_ahead (items_from V1 p bytes) ≡ k + entries_ahead (items_from V1 q rest))
    × (behind_entries (items_from V1 p bytes) ≡ behind_entries (items_from V1 q rest))
    × (taken V1 p bytes ≡ 12 * k + taken V1 q rest)

-- the name before bears on nothing
any_before : (r g n : ℕ) (b c : Name) (bytes : List ℕ) → Apart 0 (entries r g n b) bytes (entries r g n c) bytes
any_before r g zero b c bytes = (omega arith, refl, omega arith)
any_before r g (suc n) b c bytes = by (ltb (length bytes) 12) refl
  where
    by : (t : Bool) → ltb (length bytes) 12 ≡ t → Apart 0 (AtEntry r g n b) bytes (AtEntry r g n c) bytes
    by true e =
        let less = ltb-true (length bytes) 12 e in
        let one = items_none V1 (AtEntry r g n b) bytes (lacks r g n b bytes less) in
        let other = items_none V1 (AtEntry r g n c) bytes (lacks r g n c bytes less) in
        let same = one ∙ sym other in
        (omega (arith, ap entries_ahead same), ap behind_entries same, omega (arith, taken_none V1 (AtEntry r g n b) bytes (lacks r g n b bytes less), taken_none V1 (AtEntry r g n c) bytes (lacks r g n c bytes less)))
    by false e =
        let more = ltb-false (length bytes) 12 e in
        let f : Front = record { item = Entry (name_at bytes); rest = drop 12 bytes } in
        let one = items_here V1 (AtEntry r g n b) bytes f (stands r g n b bytes more) in
        let other = items_here V1 (AtEntry r g n c) bytes f (stands r g n c bytes more) in
        let same = one ∙ sym other in
        (omega (arith, ap entries_ahead same), ap behind_entries same, omega (arith, taken_here V1 (AtEntry r g n b) bytes f (stands r g n b bytes more), taken_here V1 (AtEntry r g n c) bytes f (stands r g n c bytes more)))

pub row : (k m n r g : ℕ) (b c : Name) (bytes : List ℕ) → n ≡ k + m → 12 * k ≤ length bytes → Apart k (entries r g n b) bytes (entries r g m c) (drop (12 * k) bytes)
row zero m n r g b c bytes e h =
    let same : n ≡ m = omega (arith, e) in
    subst (λ w. Apart 0 (entries r g w b) bytes (entries r g m c) bytes) (sym same) (any_before r g m b c bytes)
row (suc k) m zero r g b c bytes e h = absurd (omega (arith, e))
row (suc k) m (suc n) r g b c bytes e h =
    let f : Front = record { item = Entry (name_at bytes); rest = drop 12 bytes } in
    let long : 12 ≤ length bytes = omega (arith, h) in
    let here = items_here V1 (AtEntry r g n b) bytes f (stands r g n b bytes long) in
    let size = length-drop 12 bytes in
    let ih = row k m n r g (name_at bytes) c (drop 12 bytes) (omega (arith, e)) (omega (arith, h, size)) in
    let far : 12 + 12 * k ≡ 12 * (suc k) = omega arith in
    let rest : drop (12 * k) (drop 12 bytes) ≡ drop (12 * suc k) bytes = drop-drop (12 * k) 12 bytes ∙ ap (λ w. drop w bytes) far in
    let told : Apart (suc k) (AtEntry r g n b) bytes (entries r g m c) (drop (12 * k) (drop 12 bytes)) = (
      omega (arith, ap entries_ahead here, ih.0),
      ap behind_entries here ∙ ih.1,
      omega (arith, taken_here V1 (AtEntry r g n b) bytes f (stands r g n b bytes long), ih.2, size),
    ) in
    subst (Apart (suc k) (AtEntry r g n b) bytes (entries r g m c)) rest told

-- ---- behind a row

abbrev Other : List Item → Type 0
Other is = (entries_ahead is ≡ 0) × (behind_entries is ≡ is)

module _ (v : Version) where
  other_from : (p : GrammarState) (bytes : List ℕ) → ((f : Front) (js : List Item) → standing v p bytes ≡ Some f → Other (f.item ∷ js)) → Other (items_from v p bytes)
  other_from p bytes h = by (standing v p bytes) refl
    where
      by : (o : Option Front) → standing v p bytes ≡ o → Other (items_from v p bytes)
      by None e = subst Other (sym (items_none v p bytes e)) (refl, refl)
      by (Some f) e = subst Other (sym (items_here v p bytes f e)) (h f (items_from v (behind p f.item) f.rest) e)

  other_number : (size : ℕ) (value : List ℕ → ℕ) (item : ℕ → Item) (ok : ℕ → Bool) (bytes : List ℕ) (f : Front) (js : List Item) → ((n : ℕ) → Other (item n ∷ js)) → number size value ok item bytes ≡ Some f → Other (f.item ∷ js)
  other_number size value item ok bytes f js other e =
      let n = value (take size bytes) in
      let c = not_chosen (ltb (length bytes) size) (cond (ok n) (Some (record { item = item n; rest = drop size bytes })) None) f e in
      let d = chosen (ok n) (record { item = item n; rest = drop size bytes }) f (c.1) in
      subst (λ (g : Front). Other (g.item ∷ js)) (d.1) (other n)

  other_four : (p : GrammarState) (item : ℕ → Item) (ok : ℕ → Bool) (bytes : List ℕ) → ((n : ℕ) (js : List Item) → Other (item n ∷ js)) → standing v p bytes ≡ number 4 (from_be_bytes w32) ok item bytes → Other (items_from v p bytes)
  other_four p item ok bytes other is = other_from p bytes (λ f js e. other_number 4 (from_be_bytes w32) item ok bytes f js (λ n. other n js) (sym is ∙ e))

  other_magic : (bytes : List ℕ) (f : Front) (js : List Item) → standing v AtMagic bytes ≡ Some f → Other (f.item ∷ js)
  other_magic bytes f js e =
      let c = chosen (pointwise eqb (take 8 bytes) (magic v)) (record { item = Magic; rest = drop 8 bytes }) f e in
      subst (λ (g : Front). Other (g.item ∷ js)) (c.1) (refl, refl)

  other_skip : (r n : ℕ) (bytes : List ℕ) (f : Front) (js : List Item) → standing v (AtSkip r n) bytes ≡ Some f → Other (f.item ∷ js)
  other_skip r n bytes f js e =
      let c = not_chosen (ltb (length bytes) 8) (Some (record { item = Skip (skip_at bytes); rest = drop 8 bytes })) f e in
      let same : record { item = Skip (skip_at bytes); rest = drop 8 bytes } ≡ f = cc (c.1) in
      subst (λ (g : Front). Other (g.item ∷ js)) same (refl, refl)

  other_byte : (n : ℕ) (bytes : List ℕ) (f : Front) (js : List Item) → standing v (AtLiteralByte n) bytes ≡ Some f → Other (f.item ∷ js)
  other_byte n [] f js e = absurd (cc e)
  other_byte n (b ∷ bytes) f js e = let same : record { item = LiteralByte b; rest = bytes } ≡ f = cc e in subst (λ (g : Front). Other (g.item ∷ js)) same (refl, refl)

  other_end : (bytes : List ℕ) (f : Front) (js : List Item) → standing v AtEnd bytes ≡ Some f → Other (f.item ∷ js)
  other_end [] f js e = let same : record { item = End; rest = [] } ≡ f = cc e in subst (λ (g : Front). Other (g.item ∷ js)) same (refl, refl)
  other_end (b ∷ bytes) f js e = absurd (cc e)

  other_elsewhere : (p : GrammarState) (bytes : List ℕ) → ((r g n : ℕ) (b : Name) → p ≡ AtEntry r g n b → ⊥) → Other (items_from v p bytes)
  other_elsewhere AtMagic bytes h = other_from AtMagic bytes (other_magic bytes)
  other_elsewhere AtJob bytes h = other_four AtJob Job any bytes (λ n js. (refl, refl)) refl
  other_elsewhere AtFlags bytes h = other_four AtFlags Flags any bytes (λ n js. (refl, refl)) refl
  other_elsewhere AtLiteralLength bytes h = other_four AtLiteralLength LiteralLength (λ n. nat_le n 4096) bytes (λ n js. (refl, refl)) refl
  other_elsewhere (AtLiteralByte m) bytes h = other_from (AtLiteralByte m) bytes (other_byte m bytes)
  other_elsewhere AtParts bytes h = other_four AtParts Parts (λ n. nat_le 1 n && nat_le n 1024) bytes (λ n js. (refl, refl)) refl
  other_elsewhere (AtSplitSize r) bytes h = other_four (AtSplitSize r) SplitSize any bytes (λ n js. (refl, refl)) refl
  other_elsewhere (AtFiles r) bytes h = other_four (AtFiles r) Files (λ n. nat_le n 1024) bytes (λ n js. (refl, refl)) refl
  other_elsewhere (AtFileLength r m) bytes h = other_from (AtFileLength r m) bytes (λ f js e. other_number 8 (from_be_bytes w64) FileLength any bytes f js (λ n. (refl, refl)) e)
  other_elsewhere (AtSkips r) bytes h = other_four (AtSkips r) Skips any bytes (λ n js. (refl, refl)) refl
  other_elsewhere (AtSkip r m) bytes h = other_from (AtSkip r m) bytes (other_skip r m bytes)
  other_elsewhere (AtGroups r) bytes h = other_four (AtGroups r) Groups any bytes (λ n js. (refl, refl)) refl
  other_elsewhere (AtEntries r g) bytes h = other_four (AtEntries r g) Entries (λ n. nat_le 1 n) bytes (λ n js. (refl, refl)) refl
  other_elsewhere (AtEntry r g n b) bytes h = absurd (h r g n b refl)
  other_elsewhere AtEnd bytes h = other_from AtEnd bytes (other_end bytes)
  other_elsewhere Behind bytes h = other_from Behind bytes (λ f js e. absurd (cc e))

groups_elsewhere : (r m r2 g2 n : ℕ) (b : Name) → groups r m ≡ AtEntry r2 g2 n b → ⊥
groups_elsewhere zero zero r2 g2 n b e = cc e
groups_elsewhere (suc r) zero r2 g2 n b e = cc e
groups_elsewhere r (suc m) r2 g2 n b e = cc e

-- ---- the walker's step

abbrev pub Passed : ℕ → GrammarState → List ℕ → GrammarState → List ℕ → Type 0
Passed k p bytes q rest =
    (k ≡ entries_ahead (items_from V1 p bytes))
    × (items_from V1 q rest ≡ behind_entries (items_from V1 p bytes))
    × (taken V1 p bytes ≡ k * 12 + taken V1 q rest)

-- all that the group has are held
pub all_passed : (k r g : ℕ) (b : Name) (n : ℕ) (p : GrammarState) (bytes : List ℕ) → p ≡ AtEntry r g n b → k ≡ n + 1 → k * 12 ≤ length bytes → Passed k p bytes (groups r g) (drop (k * 12) bytes)
all_passed k r g b n p bytes is e h =
    let same : 12 * k ≡ k * 12 = omega arith in
    let told = subst (λ w. Apart k (AtEntry r g n b) bytes (groups r g) (drop w bytes)) same (row k 0 (suc n) r g b b bytes (omega (arith, e)) (omega (arith, h))) in
    let none = other_elsewhere V1 (groups r g) (drop (k * 12) bytes) (groups_elsewhere r g) in
    subst (λ w. Passed k w bytes (groups r g) (drop (k * 12) bytes)) (sym is) (omega (arith, told.0, none.0), sym (told.1 ∙ none.1), omega (arith, told.2))

-- fewer are held
pub some_passed : (k m r g : ℕ) (b : Name) (n : ℕ) (p : GrammarState) (bytes : List ℕ) → p ≡ AtEntry r g n b → n ≡ k + m → k * 12 ≤ length bytes → length bytes < k * 12 + 12 → Passed k p bytes (AtEntry r g m b) (drop (k * 12) bytes)
some_passed k m r g b n p bytes is e h short =
    let same : 12 * k ≡ k * 12 = omega arith in
    let told = subst (λ w. Apart k (AtEntry r g n b) bytes (AtEntry r g m b) (drop w bytes)) same (row k (suc m) (suc n) r g b b bytes (omega (arith, e)) (omega (arith, h))) in
    let size = length-drop (k * 12) bytes in
    let none = items_none V1 (AtEntry r g m b) (drop (k * 12) bytes) (lacks r g m b (drop (k * 12) bytes) (omega (arith, size, short, h))) in
    subst (λ w. Passed k w bytes (AtEntry r g m b) (drop (k * 12) bytes)) (sym is) (omega (arith, told.0, ap entries_ahead none), none ∙ sym (told.1 ∙ ap behind_entries none), omega (arith, told.2))

-- and the place where the items stop is the same
pub same_stop : (whole k : ℕ) (p q : GrammarState) (bytes rest : List ℕ) → length bytes ≤ whole → k * 12 ≤ length bytes → rest ≡ drop (k * 12) bytes → Passed k p bytes q rest
    → whole - length rest + taken V1 q rest ≡ whole - length bytes + taken V1 p bytes
same_stop whole k p q bytes rest fits h e told = omega (arith, fits, h, ap length e, length-drop (k * 12) bytes, told.2)

-- ---- item by item

is_entry : (v : Version) (r g n : ℕ) (b : Name) (bytes : List ℕ) (i : Item) (rest : List ℕ) → standing v (AtEntry r g n b) bytes ≡ Some (record { item = i; rest = rest }) → (name : Name) × (i ≡ Entry name)
is_entry V1 r g n b bytes i rest e =
    let c = not_chosen (ltb (length bytes) 12) (Some (record { item = Entry (name_at bytes); rest = drop 12 bytes })) (record { item = i; rest = rest }) e in
    let same : record { item = Entry (name_at bytes); rest = drop 12 bytes } ≡ record { item = i; rest = rest } = cc (c.1) in
    (name_at bytes, ap (λ (f : Front). f.item) (sym same))
is_entry V2 r g n b bytes i rest e = by (short_name_at b bytes) e
  where
    by : (o : Option NameFront) → entry_of o ≡ Some (record { item = i; rest = rest }) → (name : Name) × (i ≡ Entry name)
    by None e = absurd (cc e)
    by (Some m) e =
        let same : record { item = Entry m.name; rest = m.rest } ≡ record { item = i; rest = rest } = cc e in
        (m.name, ap (λ (f : Front). f.item) (sym same))

-- elsewhere than at an entry none is ahead
pub none_ahead : (v : Version) (p : GrammarState) (bytes : List ℕ) → ((r g n : ℕ) (b : Name) → p ≡ AtEntry r g n b → ⊥)
    → (entries_ahead (items_from v p bytes) ≡ 0) × (behind_entries (items_from v p bytes) ≡ items_from v p bytes)
none_ahead v p bytes h = other_elsewhere v p bytes h

-- an item that stands where an entry is awaited is one
pub entry_ahead : (v : Version) (p q : GrammarState) (bytes rest : List ℕ) (i : Item) (r g n : ℕ) (b : Name) → p ≡ AtEntry r g n b
    → standing v p bytes ≡ Some (record { item = i; rest = rest }) → q ≡ onward p i
    → (entries_ahead (items_from v p bytes) ≡ 1 + entries_ahead (items_from v q rest)) × (behind_entries (items_from v p bytes) ≡ behind_entries (items_from v q rest))
entry_ahead v p q bytes rest i r g n b at is on =
    let here : items_from v p bytes ≡ i ∷ left_behind i (items_from v q rest) = item_step v p q bytes rest i is on in
    by i here (is_entry v r g n b bytes i rest (subst (λ w. standing v w bytes ≡ Some (record { item = i; rest = rest })) at is))
  where
    by : (i : Item) → items_from v p bytes ≡ i ∷ left_behind i (items_from v q rest) → (name : Name) × (i ≡ Entry name)
        → (entries_ahead (items_from v p bytes) ≡ 1 + entries_ahead (items_from v q rest)) × (behind_entries (items_from v p bytes) ≡ behind_entries (items_from v q rest))
    by i here e =
        let all : items_from v p bytes ≡ Entry e.0 ∷ items_from v q rest = here ∙ ap (λ (w : Item). w ∷ left_behind w (items_from v q rest)) e.1 in
        (ap entries_ahead all, ap behind_entries all)

-- and has a byte
pub entry_less : (v : Version) (p : GrammarState) (bytes rest : List ℕ) (i : Item) (r g n : ℕ) (b : Name) → p ≡ AtEntry r g n b
    → standing v p bytes ≡ Some (record { item = i; rest = rest }) → length rest < length bytes
entry_less v p bytes rest i r g n b at is =
    elim (shorter v p bytes (record { item = i; rest = rest }) is) [
      | inl less ↦ less.0
      | inr last ↦ (let bad : AtEntry r g n b ≡ AtEnd = sym at ∙ last.1 in absurd (cc bad))
    ]

-- ---- names of version 2, one after another

-- what is told of walks from two places: these stand one after the other, so many entries apart
pub record NamesPassed (k : ℕ) (p : GrammarState) (bytes : List ℕ) (q : GrammarState) (rest : List ℕ) : Type 0 where
  pub count : entries_ahead (items_from V2 p bytes) ≡ k + entries_ahead (items_from V2 q rest)
  pub items : behind_entries (items_from V2 p bytes) ≡ behind_entries (items_from V2 q rest)
  pub size : taken V2 p bytes ≡ length bytes - length rest + taken V2 q rest
  pub shorter : k + length rest ≤ length bytes

pub nothing_passed : (p : GrammarState) (bytes : List ℕ) → NamesPassed 0 p bytes p bytes
nothing_passed p bytes = record { count = omega arith; items = refl; size = omega arith; shorter = omega arith }

-- one name more
pub name_passed : (k : ℕ) (p : GrammarState) (bytes : List ℕ) (r g n : ℕ) (b name : Name) (rest behind : List ℕ) → NamesPassed k p bytes (AtEntry r g n b) rest
    → short_name_at b rest ≡ Some (record { name = name; rest = behind }) → NamesPassed (k + 1) p bytes (entries r g n name) behind
name_passed k p bytes r g n b name rest behind was is =
    let here : standing V2 (AtEntry r g n b) rest ≡ Some (record { item = Entry name; rest = behind }) = ap entry_of is in
    let one = entry_ahead V2 (AtEntry r g n b) (entries r g n name) rest behind (Entry name) r g n b refl here refl in
    let less = entry_less V2 (AtEntry r g n b) rest behind (Entry name) r g n b refl here in
    let step = taken_step V2 (AtEntry r g n b) (entries r g n name) rest behind (Entry name) here refl in
    record {
      count = omega (arith, was.count, one.0);
      items = was.items ∙ one.1;
      size = omega (arith, was.size, was.shorter, step, less);
      shorter = omega (arith, was.shorter, less);
    }

-- where no name stands, nothing comes
pub no_name : (k : ℕ) (p : GrammarState) (bytes : List ℕ) (r g n : ℕ) (b : Name) (rest : List ℕ) → NamesPassed k p bytes (AtEntry r g n b) rest → short_name_at b rest ≡ None
    → (k ≡ entries_ahead (items_from V2 p bytes)) × (items_from V2 (AtEntry r g n b) rest ≡ behind_entries (items_from V2 p bytes))
no_name k p bytes r g n b rest was is =
    let nothing = items_none V2 (AtEntry r g n b) rest (ap entry_of is) in
    (omega (arith, was.count, ap entries_ahead nothing), nothing ∙ (sym (ap behind_entries nothing) ∙ sym was.items))

-- behind the last name of a group no entry stands
pub last_name : (k : ℕ) (p : GrammarState) (bytes : List ℕ) (q : GrammarState) (rest : List ℕ) → NamesPassed k p bytes q rest → ((r g n : ℕ) (b : Name) → q ≡ AtEntry r g n b → ⊥)
    → (k ≡ entries_ahead (items_from V2 p bytes)) × (items_from V2 q rest ≡ behind_entries (items_from V2 p bytes))
last_name k p bytes q rest was other =
    let none = none_ahead V2 q rest other in
    (omega (arith, was.count, none.0), sym none.1 ∙ sym was.items)

pub groups_no_entry : (r g r' g' n : ℕ) (b : Name) → groups r g ≡ AtEntry r' g' n b → ⊥
groups_no_entry zero zero r' g' n b e = cc e
groups_no_entry (suc r) zero r' g' n b e = cc e
groups_no_entry zero (suc g) r' g' n b e = cc e
groups_no_entry (suc r) (suc g) r' g' n b e = cc e

pub name_less : (r g n : ℕ) (b name : Name) (rest behind : List ℕ) → short_name_at b rest ≡ Some (record { name = name; rest = behind }) → length behind < length rest
name_less r g n b name rest behind is = entry_less V2 (AtEntry r g n b) rest behind (Entry name) r g n b refl (ap entry_of is)

-- the last name of a group, and another one
pub last_passed : (k : ℕ) (p : GrammarState) (bytes : List ℕ) (r g n : ℕ) (b name : Name) (rest behind : List ℕ) (q : GrammarState) → NamesPassed k p bytes (AtEntry r g n b) rest
    → short_name_at b rest ≡ Some (record { name = name; rest = behind }) → n ≡ 0 → q ≡ groups r g → NamesPassed (k + 1) p bytes q behind
last_passed k p bytes r g n b name rest behind q was is none at =
    subst (λ w. NamesPassed (k + 1) p bytes w behind) (ap (λ m. entries r g m name) none ∙ sym at) (name_passed k p bytes r g n b name rest behind was is)

pub next_passed : (k : ℕ) (p : GrammarState) (bytes : List ℕ) (r g n : ℕ) (b name : Name) (rest behind : List ℕ) → NamesPassed k p bytes (AtEntry r g n b) rest
    → short_name_at b rest ≡ Some (record { name = name; rest = behind }) → (n ≡ 0 → ⊥) → NamesPassed (k + 1) p bytes (AtEntry r g (n - 1) name) behind
next_passed k p bytes r g zero b name rest behind was is some = absurd (some refl)
next_passed k p bytes r g (suc n) b name rest behind was is some =
    let same : n ≡ suc n - 1 = omega arith in
    subst (λ m. NamesPassed (k + 1) p bytes (AtEntry r g m name) behind) same (name_passed k p bytes r g (suc n) b name rest behind was is)
