-- Items that follow one another up to the end are those of a certificate that fits, and the other way round.
use Rattle.std.proofs.Common.{◌≡◌, ℕ, zero, suc, ◌^◌, ◌<◌, ◌≤◌, List, [], ◌∷◌, ◌++◌, length, map, refl, ap, sym, ◌∙◌, subst, arith, append_assoc}
use Rattle.std.specs.List.{AllByRecursion, flat_map}
use Rattle.mr_bytes.specs.declared.Name.{Name}
use Rattle.mr_bytes.specs.declared.RecordName.{RecordName}
use Rattle.mr_certform.specs.declared.grammar_state.Item.{Item}
use Rattle.mr_certform.specs.declared.grammar_state.Item.TheVariants.{Magic, Job, Flags, LiteralLength, LiteralByte, Parts, SplitSize, Files, FileLength, Skips, Skip, Groups, Entries, Entry, End}
use Rattle.mr_certform.specs.declared.grammar_state.GrammarState.{GrammarState}
use Rattle.mr_certform.specs.declared.grammar_state.GrammarState.TheVariants.{AtMagic, AtJob, AtFlags, AtLiteralLength, AtLiteralByte, AtParts, AtSplitSize, AtFiles, AtFileLength, AtSkips, AtSkip, AtGroups, AtEntries, AtEntry, AtEnd, Behind}
use Rattle.mr_certform.specs.Places.{first_name, literal_bytes, file_lengths, partitions, skips, groups, entries}
use Rattle.mr_certform.specs.declared.version.Version.{Version}
use Rattle.mr_certform.specs.Value.{Contents, group_items, part_items, certificate_items, NameFits, SkipFits, GroupFits, PartFits, Fits, CanRow, CanSpell}
use Rattle.mr_certform.specs.Grammar.{Follow}

-- ---- what follows from each place on, up to the end

module _ (v : Version) where
  abbrev PartsTail : ℕ → List Item → Type 0
  PartsTail r is = (gss : List (List (List Name))) × (length gss ≡ r) × AllByRecursion PartFits gss × AllByRecursion (CanSpell v) gss × (is ≡ flat_map part_items gss ++ End ∷ [])

  abbrev GroupsTail : ℕ → ℕ → List Item → Type 0
  GroupsTail r m is = (gs : List (List Name)) × (length gs ≡ m) × AllByRecursion GroupFits gs × CanSpell v gs × (js : List Item) × PartsTail r js × (is ≡ flat_map group_items gs ++ js)

  abbrev EntriesTail : ℕ → ℕ → ℕ → Name → List Item → Type 0
  EntriesTail r m n before is = (ns : List Name) × (length ns ≡ n) × AllByRecursion NameFits ns × CanRow v before ns × (js : List Item) × GroupsTail r m js × (is ≡ map Entry ns ++ js)

  abbrev SkipsTail : ℕ → ℕ → List Item → Type 0
  SkipsTail r n is = (ss : List RecordName) × (length ss ≡ n) × AllByRecursion SkipFits ss × (js : List Item) × PartsTail r js × (is ≡ map Skip ss ++ js)

  abbrev SkipsItem : ℕ → List Item → Type 0
  SkipsItem r is = (n : ℕ) × (n < 2 ^ 32) × (js : List Item) × SkipsTail r n js × (is ≡ Skips n ∷ js)

  abbrev LengthsTail : ℕ → ℕ → List Item → Type 0
  LengthsTail r n is = (ls : List ℕ) × (length ls ≡ n) × AllByRecursion (λ l. l < 2 ^ 64) ls × (js : List Item) × SkipsItem r js × (is ≡ map FileLength ls ++ js)

  abbrev FilesItem : ℕ → List Item → Type 0
  FilesItem r is = (n : ℕ) × (n ≤ 1024) × (js : List Item) × LengthsTail r n js × (is ≡ Files n ∷ js)

  abbrev SizeItem : ℕ → List Item → Type 0
  SizeItem r is = (n : ℕ) × (n < 2 ^ 32) × (js : List Item) × FilesItem r js × (is ≡ SplitSize n ∷ js)

  abbrev PartsItem : List Item → Type 0
  PartsItem is = (n : ℕ) × ((1 ≤ n) × (n ≤ 1024)) × (js : List Item) × SizeItem n js × (is ≡ Parts n ∷ js)

  abbrev LiteralTail : ℕ → List Item → Type 0
  LiteralTail n is = (bs : List ℕ) × (length bs ≡ n) × AllByRecursion (λ b. b < 256) bs × (js : List Item) × PartsItem js × (is ≡ map LiteralByte bs ++ js)

  abbrev LiteralItem : List Item → Type 0
  LiteralItem is = (n : ℕ) × (n ≤ 4096) × (js : List Item) × LiteralTail n js × (is ≡ LiteralLength n ∷ js)

  abbrev FlagsItem : List Item → Type 0
  FlagsItem is = (n : ℕ) × (n < 2 ^ 32) × (js : List Item) × LiteralItem js × (is ≡ Flags n ∷ js)

  abbrev JobItem : List Item → Type 0
  JobItem is = (n : ℕ) × (n < 2 ^ 32) × (js : List Item) × FlagsItem js × (is ≡ Job n ∷ js)

  abbrev pub Tail : GrammarState → List Item → Type 0
  Tail AtMagic is = (js : List Item) × JobItem js × (is ≡ Magic ∷ js)
  Tail AtJob is = JobItem is
  Tail AtFlags is = FlagsItem is
  Tail AtLiteralLength is = LiteralItem is
  Tail (AtLiteralByte n) is = LiteralTail (suc n) is
  Tail AtParts is = PartsItem is
  Tail (AtSplitSize r) is = SizeItem r is
  Tail (AtFiles r) is = FilesItem r is
  Tail (AtFileLength r n) is = LengthsTail r (suc n) is
  Tail (AtSkips r) is = SkipsItem r is
  Tail (AtSkip r n) is = SkipsTail r (suc n) is
  Tail (AtGroups r) is = PartsTail (suc r) is
  Tail (AtEntries r g) is = GroupsTail r (suc g) is
  Tail (AtEntry r g n before) is = EntriesTail r g (suc n) before is
  Tail AtEnd is = is ≡ End ∷ []
  Tail Behind is = is ≡ []

  parts_tail : (r : ℕ) (is : List Item) → Tail (partitions r) is → PartsTail r is
  parts_tail zero is t = ([], refl, tt, tt, t)
  parts_tail (suc r) is t = t

  groups_tail : (r m : ℕ) (is : List Item) → Tail (groups r m) is → GroupsTail r m is
  groups_tail r zero is t = ([], refl, tt, tt, is, parts_tail r is t, refl)
  groups_tail r (suc m) is t = t

  entries_tail : (r m n : ℕ) (before : Name) (is : List Item) → Tail (entries r m n before) is → EntriesTail r m n before is
  entries_tail r m zero before is t = ([], refl, tt, tt, is, groups_tail r m is t, refl)
  entries_tail r m (suc n) before is t = t

  skips_tail : (r n : ℕ) (is : List Item) → Tail (skips r n) is → SkipsTail r n is
  skips_tail r zero is t = ([], refl, tt, is, parts_tail r is t, refl)
  skips_tail r (suc n) is t = t

  lengths_tail : (r n : ℕ) (is : List Item) → Tail (file_lengths r n) is → LengthsTail r n is
  lengths_tail r zero is t = ([], refl, tt, is, t, refl)
  lengths_tail r (suc n) is t = t

  literal_tail : (n : ℕ) (is : List Item) → Tail (literal_bytes n) is → LiteralTail n is
  literal_tail zero is t = ([], refl, tt, is, t, refl)
  literal_tail (suc n) is t = t

  pub tail_of : (p : GrammarState) (is : List Item) → Follow v p is → Tail p is
  tail_of Behind [] h = refl
  tail_of p [] h = absurd (cc h)
  tail_of AtMagic (Magic ∷ is) h = (is, tail_of AtJob is h.2, refl)
  tail_of AtJob (Job n ∷ is) h = (n, h.0, is, tail_of AtFlags is h.2, refl)
  tail_of AtFlags (Flags n ∷ is) h = (n, h.0, is, tail_of AtLiteralLength is h.2, refl)
  tail_of AtLiteralLength (LiteralLength n ∷ is) h = (n, h.0, is, literal_tail n is (tail_of (literal_bytes n) is h.2), refl)
  tail_of (AtLiteralByte m) (LiteralByte b ∷ is) h = let t = literal_tail m is (tail_of (literal_bytes m) is h.2) in (b ∷ t.0, ap suc t.1, (h.0, t.2), t.3, t.4, ap (λ js. LiteralByte b ∷ js) t.5)
  tail_of AtParts (Parts n ∷ is) h = (n, h.0, is, tail_of (AtSplitSize n) is h.2, refl)
  tail_of (AtSplitSize r) (SplitSize n ∷ is) h = (n, h.0, is, tail_of (AtFiles r) is h.2, refl)
  tail_of (AtFiles r) (Files n ∷ is) h = (n, h.0, is, lengths_tail r n is (tail_of (file_lengths r n) is h.2), refl)
  tail_of (AtFileLength r m) (FileLength n ∷ is) h = let t = lengths_tail r m is (tail_of (file_lengths r m) is h.2) in (n ∷ t.0, ap suc t.1, (h.0, t.2), t.3, t.4, ap (λ js. FileLength n ∷ js) t.5)
  tail_of (AtSkips r) (Skips n ∷ is) h = (n, h.0, is, skips_tail r n is (tail_of (skips r n) is h.2), refl)
  tail_of (AtSkip r m) (Skip s ∷ is) h = let t = skips_tail r m is (tail_of (skips r m) is h.2) in (s ∷ t.0, ap suc t.1, (h.0, t.2), t.3, t.4, ap (λ js. Skip s ∷ js) t.5)
  tail_of (AtGroups r) (Groups n ∷ is) h =
      let t = groups_tail r n is (tail_of (groups r n) is h.2) in
      let ps = t.5 in
      let front : is ≡ flat_map group_items t.0 ++ (flat_map part_items ps.0 ++ End ∷ []) = t.6 ∙ ap (λ js. flat_map group_items t.0 ++ js) ps.4 in (
        t.0 ∷ ps.0,
        ap suc ps.1,
        (record { count = omega (arith, t.1, h.0); groups = t.2 }, ps.2),
        (t.3, ps.3),
        ap (λ w. Groups w ∷ is) (sym t.1) ∙ ap (λ js. Groups (length t.0) ∷ js) (front ∙ sym (append_assoc (flat_map group_items t.0) (flat_map part_items ps.0) (End ∷ []))),
      )
  tail_of (AtEntries r m) (Entries n ∷ is) h =
      let t = entries_tail r m n first_name is (tail_of (entries r m n first_name) is h.2) in
      let gs = t.5 in
      let front : is ≡ map Entry t.0 ++ (flat_map group_items gs.0 ++ gs.4) = t.6 ∙ ap (λ js. map Entry t.0 ++ js) gs.6 in (
        t.0 ∷ gs.0,
        ap suc gs.1,
        (record { some_entry = omega (arith, t.1, h.0.0); count = omega (arith, t.1, h.0.1); names = t.2 }, gs.2),
        (t.3, gs.3),
        gs.4,
        gs.5,
        ap (λ w. Entries w ∷ is) (sym t.1) ∙ ap (λ js. Entries (length t.0) ∷ js) (front ∙ sym (append_assoc (map Entry t.0) (flat_map group_items gs.0) gs.4)),
      )
  tail_of (AtEntry r g m before) (Entry n ∷ is) h = let t = entries_tail r g m n is (tail_of (entries r g m n) is h.2) in (n ∷ t.0, ap suc t.1, (h.0, t.2), (h.1, t.3), t.4, t.5, ap (λ js. Entry n ∷ js) t.6)
  tail_of AtEnd (End ∷ is) h = ap (λ js. End ∷ js) (tail_of Behind is h.2)
  tail_of p (i ∷ is) h = absurd h.0

  -- ---- items up to the end are those of a certificate

  abbrev pub Found : List Item → Type 0
  Found is = (c : Contents) × (is ≡ certificate_items c) × Fits c × AllByRecursion (CanSpell v) c.groups

  found : (is : List Item) → Tail AtMagic is → Found is
  unfolding certificate_items
  found is (j1, (job, job_fits, j2, (flags, flags_fit, j3, (ll, ll_fits, j4, (bs, bs_long, bs_fit, j5, (r, r_fits, j6, (size, size_fits, j7, (f, f_fits, j8, (ls, ls_long, ls_fit, j9, (z, z_fits, j10, (ss, ss_long, ss_fit, j11, (gss, gss_long, gss_fit, gss_can, e11), e10), e9), e8), e7), e6), e5), e4), e3), e2), e1), e0) =
      let c : Contents = record { job = job; flags = flags; literal = bs; parts = r; split_size = size; lengths = ls; skips = ss; groups = gss } in
      let ends : List Item = flat_map part_items gss ++ End ∷ [] in
      let from_skips : j9 ≡ Skips (length ss) ∷ (map Skip ss ++ ends) = e9 ∙ (ap (λ w. Skips w ∷ j10) (sym ss_long) ∙ ap (λ js. Skips (length ss) ∷ js) (e10 ∙ ap (λ js. map Skip ss ++ js) e11)) in
      let from_files : j7 ≡ Files (length ls) ∷ (map FileLength ls ++ (Skips (length ss) ∷ (map Skip ss ++ ends))) = e7 ∙ (ap (λ w. Files w ∷ j8) (sym ls_long) ∙ ap (λ js. Files (length ls) ∷ js) (e8 ∙ ap (λ js. map FileLength ls ++ js) from_skips)) in
      let from_literal : j4 ≡ (map LiteralByte bs ++ (Parts r ∷ SplitSize size ∷ [])) ++ (Files (length ls) ∷ (map FileLength ls ++ (Skips (length ss) ∷ (map Skip ss ++ ends)))) =
      e4 ∙ (ap (λ js. map LiteralByte bs ++ js) (e5 ∙ ap (λ js. Parts r ∷ js) (e6 ∙ ap (λ js. SplitSize size ∷ js) from_files)) ∙ sym (append_assoc (map LiteralByte bs) (Parts r ∷ SplitSize size ∷ []) _)) in
      let same : is ≡ certificate_items c =
      e0 ∙ ap (λ js. Magic ∷ js) (e1 ∙ ap (λ js. Job job ∷ js) (e2 ∙ ap (λ js. Flags flags ∷ js) (e3 ∙ (ap (λ w. LiteralLength w ∷ j4) (sym bs_long) ∙ ap (λ js. LiteralLength (length bs) ∷ js) from_literal)))) in (
        c,
        same,
        record {
          job = job_fits;
          flags = flags_fit;
          literal = omega (arith, bs_long, ll_fits);
          literal_bytes = bs_fit;
          some_part = r_fits.0;
          parts = r_fits.1;
          split_size = size_fits;
          files = omega (arith, ls_long, f_fits);
          lengths = ls_fit;
          skips = omega (arith, ss_long, z_fits);
          each_skip = ss_fit;
          one_each = gss_long;
          groups = gss_fit;
        },
        gss_can,
      )

  pub found_of : (is : List Item) → Follow v AtMagic is → Found is
  found_of is h = found is (tail_of AtMagic is h)

  -- ---- the items of a certificate that fits follow one another

  names_follow : (r g : ℕ) (before : Name) (ns : List Name) (rest : List Item) → AllByRecursion NameFits ns → CanRow v before ns → Follow v (groups r g) rest → Follow v (entries r g (length ns) before) (map Entry ns ++ rest)
  names_follow r g before [] rest fits can h = h
  names_follow r g before (n ∷ ns) rest fits can h = (fits.0, can.0, names_follow r g n ns rest fits.1 can.1 h)

  groups_follow : (r : ℕ) (gs : List (List Name)) (rest : List Item) → AllByRecursion GroupFits gs → CanSpell v gs → Follow v (partitions r) rest → Follow v (groups r (length gs)) (flat_map group_items gs ++ rest)
  groups_follow r [] rest fits can h = h
  groups_follow r (ns ∷ gs) rest fits can h =
      let more = groups_follow r gs rest fits.1 can.1 h in
      let these = names_follow r (length gs) first_name ns (flat_map group_items gs ++ rest) (fits.0).names can.0 more in
      let glue : map Entry ns ++ (flat_map group_items gs ++ rest) ≡ (map Entry ns ++ flat_map group_items gs) ++ rest = sym (append_assoc (map Entry ns) (flat_map group_items gs) rest) in
      (((fits.0).some_entry, (fits.0).count), tt, subst (Follow v (entries r (length gs) (length ns) first_name)) glue these)

  parts_follow : (gss : List (List (List Name))) → AllByRecursion PartFits gss → AllByRecursion (CanSpell v) gss → Follow v (partitions (length gss)) (flat_map part_items gss ++ End ∷ [])
  parts_follow [] fits can = (tt, tt, refl)
  parts_follow (gs ∷ gss) fits can =
      let more = parts_follow gss fits.1 can.1 in
      let these = groups_follow (length gss) gs (flat_map part_items gss ++ End ∷ []) (fits.0).groups can.0 more in
      let glue : flat_map group_items gs ++ (flat_map part_items gss ++ End ∷ []) ≡ (flat_map group_items gs ++ flat_map part_items gss) ++ End ∷ [] = sym (append_assoc (flat_map group_items gs) (flat_map part_items gss) (End ∷ [])) in
      ((fits.0).count, tt, subst (Follow v (groups (length gss) (length gs))) glue these)

  skips_follow : (r : ℕ) (ss : List RecordName) (rest : List Item) → AllByRecursion SkipFits ss → Follow v (partitions r) rest → Follow v (skips r (length ss)) (map Skip ss ++ rest)
  skips_follow r [] rest fits h = h
  skips_follow r (s ∷ ss) rest fits h = (fits.0, tt, skips_follow r ss rest fits.1 h)

  lengths_follow : (r : ℕ) (ls : List ℕ) (rest : List Item) → AllByRecursion (λ n. n < 2 ^ 64) ls → Follow v (AtSkips r) rest → Follow v (file_lengths r (length ls)) (map FileLength ls ++ rest)
  lengths_follow r [] rest fits h = h
  lengths_follow r (l ∷ ls) rest fits h = (fits.0, tt, lengths_follow r ls rest fits.1 h)

  literal_follow : (bs : List ℕ) (rest : List Item) → AllByRecursion (λ b. b < 256) bs → Follow v AtParts rest → Follow v (literal_bytes (length bs)) (map LiteralByte bs ++ rest)
  literal_follow [] rest fits h = h
  literal_follow (b ∷ bs) rest fits h = (fits.0, tt, literal_follow bs rest fits.1 h)

  pub items_follow : (c : Contents) → Fits c → AllByRecursion (CanSpell v) c.groups → Follow v AtMagic (certificate_items c)
  unfolding certificate_items
  items_follow c fits can =
      let ends : List Item = flat_map part_items c.groups ++ End ∷ [] in
      let parts : Follow v (partitions c.parts) (flat_map part_items c.groups ++ End ∷ []) = subst (λ n. Follow v (partitions n) (flat_map part_items c.groups ++ End ∷ [])) fits.one_each (parts_follow c.groups fits.groups can) in
      let from_skips : Follow v (AtSkips c.parts) (Skips (length c.skips) ∷ (map Skip c.skips ++ (flat_map part_items c.groups ++ End ∷ []))) = (fits.skips, tt, skips_follow c.parts c.skips (flat_map part_items c.groups ++ End ∷ []) fits.each_skip parts) in
      let from_files : Follow v (AtFiles c.parts) (Files (length c.lengths) ∷ (map FileLength c.lengths ++ (Skips (length c.skips) ∷ (map Skip c.skips ++ (flat_map part_items c.groups ++ End ∷ []))))) = (fits.files, tt, lengths_follow c.parts c.lengths _ fits.lengths from_skips) in
      let from_parts : Follow v AtParts (Parts c.parts ∷ SplitSize c.split_size ∷ (Files (length c.lengths) ∷ (map FileLength c.lengths ++ (Skips (length c.skips) ∷ (map Skip c.skips ++ (flat_map part_items c.groups ++ End ∷ [])))))) = ((fits.some_part, fits.parts), tt, (fits.split_size, tt, from_files)) in
      let text : Follow v (literal_bytes (length c.literal)) (map LiteralByte c.literal ++ (Parts c.parts ∷ SplitSize c.split_size ∷ (Files (length c.lengths) ∷ (map FileLength c.lengths ++ (Skips (length c.skips) ∷ (map Skip c.skips ++ (flat_map part_items c.groups ++ End ∷ []))))))) = literal_follow c.literal _ fits.literal_bytes from_parts in
      let glue = sym (append_assoc (map LiteralByte c.literal) (Parts c.parts ∷ SplitSize c.split_size ∷ []) (Files (length c.lengths) ∷ (map FileLength c.lengths ++ (Skips (length c.skips) ∷ (map Skip c.skips ++ (flat_map part_items c.groups ++ End ∷ [])))))) in
      (tt, tt, (fits.job, tt, (fits.flags, tt, (fits.literal, tt, subst (Follow v (literal_bytes (length c.literal))) glue text))))
