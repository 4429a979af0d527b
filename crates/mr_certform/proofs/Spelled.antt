-- The spelling said by values is that of the items; and values that are whole, with numbers of their types, fit.
use Rattle.std.proofs.Common.{◌≡◌, ℕ, ◌^◌, ◌<◌, ◌≤◌, List, [], ◌∷◌, ◌++◌, length, map, drop, refl, ap, sym, ◌∙◌, arith, append_assoc}
use Rattle.std.proofs.lemmas.List.{length-take, length-drop}
use Rattle.std.specs.List.{AllByRecursion, flat_map}
use Rattle.mr_bytes.specs.declared.Name.{Name}
use Rattle.mr_bytes.specs.declared.RecordName.{RecordName}
use Rattle.mr_certform.specs.declared.grammar_state.Item.{Item}
use Rattle.mr_certform.specs.declared.grammar_state.Item.TheVariants.{LiteralByte, Parts, SplitSize, FileLength, Skip, Entry, End}
use Rattle.mr_certform.specs.declared.grammar_state.GrammarState.TheVariants.{AtParts, AtSkips}
use Rattle.mr_certform.specs.Places.{first_name, literal_bytes, file_lengths, partitions, skips, groups, entries}
use Rattle.mr_certform.specs.Spelling.{u32, u64, magic, name_bytes, skip_bytes, bytes_from}
use Rattle.mr_certform.specs.declared.version.Version.{Version}
use Rattle.mr_certform.specs.declared.version.Version.TheVariants.{V1}
use Rattle.mr_certform.specs.Value.{Contents, group_items, part_items, certificate_items, spelling, NameFits, GroupFits, PartFits, Fits, CanRow, CanSpell, SpellsIn}
use Rattle.mr_certform.specs.Flat.{Told, total, chunks, contents_of, IsWhole, HasNumbers, HasNames}
use Rattle.mr_certform.specs.Pieces.{names_bytes, group_bytes, part_bytes, all_bytes}
use Rattle.mr_certform.proofs.Pieces.{length-chunks, All-take, All-drop}

module _ (v : Version) where
  names_are : (r g : ℕ) (before : Name) (ns : List Name) (rest : List Item) → bytes_from v (entries r g (length ns) before) (map Entry ns ++ rest) ≡ names_bytes v before ns ++ bytes_from v (groups r g) rest
  names_are r g before [] rest = refl
  names_are r g before (n ∷ ns) rest = ap (λ w. name_bytes v before n ++ w) (names_are r g n ns rest) ∙ sym (append_assoc (name_bytes v before n) (names_bytes v n ns) (bytes_from v (groups r g) rest))

  groups_are : (r : ℕ) (gs : List (List Name)) (rest : List Item) → bytes_from v (groups r (length gs)) (flat_map group_items gs ++ rest) ≡ flat_map (group_bytes v) gs ++ bytes_from v (partitions r) rest
  groups_are r [] rest = refl
  groups_are r (ns ∷ gs) rest =
      ap (λ w. u32 (length ns) ++ bytes_from v (entries r (length gs) (length ns) first_name) w) (append_assoc (map Entry ns) (flat_map group_items gs) rest)
      ∙ (ap (λ w. u32 (length ns) ++ w) (names_are r (length gs) first_name ns (flat_map group_items gs ++ rest))
      ∙ (ap (λ w. u32 (length ns) ++ (names_bytes v first_name ns ++ w)) (groups_are r gs rest)
      ∙ glue (u32 (length ns)) (names_bytes v first_name ns) (flat_map (group_bytes v) gs) (bytes_from v (partitions r) rest)))
    where
      glue : (a b d e : List ℕ) → a ++ (b ++ (d ++ e)) ≡ ((a ++ b) ++ d) ++ e
      glue a b d e = simp append_assoc

  parts_are : (gss : List (List (List Name))) → bytes_from v (partitions (length gss)) (flat_map part_items gss ++ End ∷ []) ≡ flat_map (part_bytes v) gss
  parts_are [] = refl
  parts_are (gs ∷ gss) =
      ap (λ w. u32 (length gs) ++ bytes_from v (groups (length gss) (length gs)) w) (append_assoc (flat_map group_items gs) (flat_map part_items gss) (End ∷ []))
      ∙ (ap (λ w. u32 (length gs) ++ w) (groups_are (length gss) gs (flat_map part_items gss ++ End ∷ []))
      ∙ (ap (λ w. u32 (length gs) ++ (flat_map (group_bytes v) gs ++ w)) (parts_are gss)
      ∙ sym (append_assoc (u32 (length gs)) (flat_map (group_bytes v) gs) (flat_map (part_bytes v) gss))))

  skips_are : (r : ℕ) (ss : List RecordName) (rest : List Item) → bytes_from v (skips r (length ss)) (map Skip ss ++ rest) ≡ flat_map skip_bytes ss ++ bytes_from v (partitions r) rest
  skips_are r [] rest = refl
  skips_are r (s ∷ ss) rest = ap (λ w. skip_bytes s ++ w) (skips_are r ss rest) ∙ sym (append_assoc (skip_bytes s) (flat_map skip_bytes ss) (bytes_from v (partitions r) rest))

  lengths_are : (r : ℕ) (ls : List ℕ) (rest : List Item) → bytes_from v (file_lengths r (length ls)) (map FileLength ls ++ rest) ≡ flat_map u64 ls ++ bytes_from v (AtSkips r) rest
  lengths_are r [] rest = refl
  lengths_are r (l ∷ ls) rest = ap (λ w. u64 l ++ w) (lengths_are r ls rest) ∙ sym (append_assoc (u64 l) (flat_map u64 ls) (bytes_from v (AtSkips r) rest))

  literal_is : (bs : List ℕ) (rest : List Item) → bytes_from v (literal_bytes (length bs)) (map LiteralByte bs ++ rest) ≡ bs ++ bytes_from v AtParts rest
  literal_is [] rest = refl
  literal_is (b ∷ bs) rest = ap (λ w. b ∷ w) (literal_is bs rest)

  pub all_spelled : (c : Contents) → length c.groups ≡ c.parts → all_bytes v c ≡ spelling v c
  unfolding spelling certificate_items
  all_spelled c one = sym (
      ap (λ w. magic v ++ (u32 c.job ++ (u32 c.flags ++ (u32 (length c.literal) ++ bytes_from v (literal_bytes (length c.literal)) w)))) (append_assoc (map LiteralByte c.literal) (Parts c.parts ∷ SplitSize c.split_size ∷ []) _)
      ∙ (ap (λ w. magic v ++ (u32 c.job ++ (u32 c.flags ++ (u32 (length c.literal) ++ w)))) (literal_is c.literal _)
      ∙ (ap (λ w. magic v ++ (u32 c.job ++ (u32 c.flags ++ (u32 (length c.literal) ++ (c.literal ++ (u32 c.parts ++ (u32 c.split_size ++ (u32 (length c.lengths) ++ w)))))))) (lengths_are c.parts c.lengths _)
      ∙ (ap (λ w. magic v ++ (u32 c.job ++ (u32 c.flags ++ (u32 (length c.literal) ++ (c.literal ++ (u32 c.parts ++ (u32 c.split_size ++ (u32 (length c.lengths) ++ (flat_map u64 c.lengths ++ (u32 (length c.skips) ++ w)))))))))) (skips_are c.parts c.skips _)
      ∙ (ap (λ w. magic v ++ (u32 c.job ++ (u32 c.flags ++ (u32 (length c.literal) ++ (c.literal ++ (u32 c.parts ++ (u32 c.split_size ++ (u32 (length c.lengths) ++ (flat_map u64 c.lengths ++ (u32 (length c.skips) ++ (flat_map skip_bytes c.skips ++ w))))))))))) (ap (λ n. bytes_from v (partitions n) (flat_map part_items c.groups ++ End ∷ [])) (sym one) ∙ parts_are c.groups)
      ∙ glue (magic v) (u32 c.job) (u32 c.flags) (u32 (length c.literal)) c.literal (u32 c.parts) (u32 c.split_size) (u32 (length c.lengths)) (flat_map u64 c.lengths) (u32 (length c.skips)) (flat_map skip_bytes c.skips) (flat_map (part_bytes v) c.groups))))))
    where
      glue : (a b d e f g h i j k l m : List ℕ) → a ++ (b ++ (d ++ (e ++ (f ++ (g ++ (h ++ (i ++ (j ++ (k ++ (l ++ m)))))))))) ≡ (a ++ b ++ d ++ e ++ f ++ g ++ h) ++ (i ++ j) ++ (k ++ l) ++ m
      glue a b d e f g h i j k l m = simp append_assoc

-- ---- what fits

pub group_fits : (es : List ℕ) (ns : List Name) → total es ≤ length ns → AllByRecursion (λ n. 1 ≤ n) es → AllByRecursion (λ n. n < 2 ^ 32) es → AllByRecursion (AllByRecursion NameFits) (chunks es ns) → AllByRecursion GroupFits (chunks es ns)
group_fits [] ns room some small fits = tt
group_fits (e ∷ es) ns room some small fits = (
  record { some_entry = omega (arith, length-take e ns, some.0); count = omega (arith, length-take e ns, small.0); names = fits.0 },
  group_fits es (drop e ns) (omega (arith, length-drop e ns)) some.1 small.1 fits.1,
)

part_fits : (gs : List ℕ) (xs : List (List Name)) → AllByRecursion (λ n. n < 2 ^ 32) gs → AllByRecursion GroupFits xs → AllByRecursion PartFits (chunks gs xs)
part_fits [] xs small fits = tt
part_fits (g ∷ gs) xs small fits = (
  record { count = omega (arith, length-take g xs, small.0); groups = All-take GroupFits g xs fits },
  part_fits gs (drop g xs) small.1 (All-drop GroupFits g xs fits),
)

pub whole_fits : (t : Told) → IsWhole t → HasNumbers t → HasNames t → Fits (contents_of t)
whole_fits t whole numbers names = record {
  job = numbers.job;
  flags = numbers.flags;
  literal = whole.literal;
  literal_bytes = numbers.literal;
  some_part = whole.some_part;
  parts = whole.parts;
  split_size = numbers.split_size;
  files = whole.files;
  lengths = numbers.lengths;
  skips = whole.skips;
  each_skip = names.0;
  one_each = length-chunks t.group_counts (chunks t.entry_counts t.names) ∙ whole.one_each;
  groups = part_fits t.group_counts (chunks t.entry_counts t.names) numbers.group_counts (group_fits t.entry_counts t.names (omega (arith, whole.entries)) whole.some_entry numbers.entry_counts names.1);
}

-- version 1 spells any names
whole_row : (before : Name) (ns : List Name) → CanRow V1 before ns
whole_row before [] = tt
whole_row before (n ∷ ns) = (tt, whole_row n ns)

pub whole_groups : (gs : List (List Name)) → CanSpell V1 gs
whole_groups [] = tt
whole_groups (ns ∷ gs) = (whole_row first_name ns, whole_groups gs)

pub any_names : (gss : List (List (List Name))) → AllByRecursion (CanSpell V1) gss
any_names [] = tt
any_names (gs ∷ gss) = (whole_groups gs, any_names gss)

pub whole_spells : (v : Version) (bytes : List ℕ) (t : Told) → IsWhole t → HasNumbers t → AllByRecursion (CanSpell v) (contents_of t).groups → (bytes ≡ all_bytes v (contents_of t)) × HasNames t → SpellsIn v bytes (contents_of t)
whole_spells v bytes t whole numbers can h = record {
  fits = whole_fits t whole numbers h.1;
  can = can;
  spelled = h.0 ∙ all_spelled v (contents_of t) (length-chunks t.group_counts (chunks t.entry_counts t.names) ∙ whole.one_each);
}
