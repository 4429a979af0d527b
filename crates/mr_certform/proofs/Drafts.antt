-- What the items of a certificate tell is the certificate.
use Rattle.std.proofs.Common.{◌≡◌, ℕ, suc, ◌≤◌, List, [], ◌∷◌, ◌++◌, length, map, take, drop, refl, ap, sym, ◌∙◌, subst, arith, append_assoc, length-append}
use Rattle.std.proofs.lemmas.List.{append-nil}
use Rattle.std.specs.List.{AllByRecursion, flat_map}
use Rattle.mr_bytes.specs.declared.Name.{Name}
use Rattle.mr_bytes.specs.declared.RecordName.{RecordName}
use Rattle.mr_certform.specs.declared.grammar_state.Item.{Item}
use Rattle.mr_certform.specs.declared.grammar_state.Item.TheVariants.{LiteralByte, Parts, SplitSize, Files, FileLength, Skips, Skip, Groups, Entries, Entry, End}
use Rattle.mr_certform.specs.Value.{Contents, group_items, part_items, certificate_items, GroupFits, PartFits, Fits}
use Rattle.mr_certform.specs.Flat.{Told, nothing_told, told, told_by, total, chunks, contents_of, IsWhole}

told_append : (t : Told) (is js : List Item) → told_by t (is ++ js) ≡ told_by (told_by t is) js
told_append t [] js = refl
told_append t (i ∷ is) js = told_append (told t i) is js

-- one more in front of those behind
more : {X : Type 0} (xs : List X) (y : X) (ys : List X) → (xs ++ y ∷ []) ++ ys ≡ xs ++ y ∷ ys
more xs y ys = append_assoc xs (y ∷ []) ys

literal_told : (t : Told) (bs : List ℕ) → told_by t (map LiteralByte bs) ≡ record t { literal = t.literal ++ bs }
literal_told t [] = ap (λ w. record t { literal = w }) (sym (append-nil t.literal))
literal_told t (b ∷ bs) = literal_told (record t { literal = t.literal ++ b ∷ [] }) bs ∙ ap (λ w. record t { literal = w }) (more t.literal b bs)

lengths_told : (t : Told) (ls : List ℕ) → told_by t (map FileLength ls) ≡ record t { lengths = t.lengths ++ ls }
lengths_told t [] = ap (λ w. record t { lengths = w }) (sym (append-nil t.lengths))
lengths_told t (l ∷ ls) = lengths_told (record t { lengths = t.lengths ++ l ∷ [] }) ls ∙ ap (λ w. record t { lengths = w }) (more t.lengths l ls)

skips_told : (t : Told) (ss : List RecordName) → told_by t (map Skip ss) ≡ record t { skips = t.skips ++ ss }
skips_told t [] = ap (λ w. record t { skips = w }) (sym (append-nil t.skips))
skips_told t (s ∷ ss) = skips_told (record t { skips = t.skips ++ s ∷ [] }) ss ∙ ap (λ w. record t { skips = w }) (more t.skips s ss)

names_told : (t : Told) (ns : List Name) → told_by t (map Entry ns) ≡ record t { names = t.names ++ ns }
names_told t [] = ap (λ w. record t { names = w }) (sym (append-nil t.names))
names_told t (n ∷ ns) = names_told (record t { names = t.names ++ n ∷ [] }) ns ∙ ap (λ w. record t { names = w }) (more t.names n ns)

-- the names of groups, and of the groups of partitions
abbrev pub names_in : List (List Name) → List Name
names_in [] = []
names_in (ns ∷ gs) = ns ++ names_in gs

abbrev pub groups_in : List (List (List Name)) → List (List Name)
groups_in [] = []
groups_in (gs ∷ gss) = gs ++ groups_in gss

abbrev pub sizes : {X : Type 0} → List (List X) → List ℕ
sizes [] = []
sizes (xs ∷ xss) = length xs ∷ sizes xss

sizes_append : {X : Type 0} (xs ys : List (List X)) → sizes (xs ++ ys) ≡ sizes xs ++ sizes ys
sizes_append [] ys = refl
sizes_append (x ∷ xs) ys = ap (λ w. length x ∷ w) (sizes_append xs ys)

names_append : (gs hs : List (List Name)) → names_in (gs ++ hs) ≡ names_in gs ++ names_in hs
names_append [] hs = refl
names_append (ns ∷ gs) hs = ap (λ w. ns ++ w) (names_append gs hs) ∙ sym (append_assoc ns (names_in gs) (names_in hs))

groups_told : (t : Told) (gs : List (List Name)) → told_by t (flat_map group_items gs) ≡ record t { entry_counts = t.entry_counts ++ sizes gs; names = t.names ++ names_in gs }
groups_told t [] = ap (λ w. record t { entry_counts = w; names = t.names }) (sym (append-nil t.entry_counts)) ∙ ap (λ w. record t { entry_counts = t.entry_counts ++ []; names = w }) (sym (append-nil t.names))
groups_told t (ns ∷ gs) =
    let u : Told = record t { entry_counts = t.entry_counts ++ length ns ∷ [] } in
    let w : Told = record t { entry_counts = t.entry_counts ++ length ns ∷ []; names = t.names ++ ns } in
    told_append (told t (Entries (length ns))) (map Entry ns) (flat_map group_items gs)
    ∙ (ap (λ v. told_by v (flat_map group_items gs)) (names_told (told t (Entries (length ns))) ns)
    ∙ (groups_told (record t { entry_counts = t.entry_counts ++ length ns ∷ []; names = t.names ++ ns }) gs
    ∙ (ap (λ v. record t { entry_counts = v; names = (t.names ++ ns) ++ names_in gs }) (more t.entry_counts (length ns) (sizes gs))
    ∙ ap (λ v. record t { entry_counts = t.entry_counts ++ length ns ∷ sizes gs; names = v }) (append_assoc t.names ns (names_in gs)))))

abbrev grown : Told → List ℕ → List ℕ → List Name → Told
grown t gc ec ns = record t { group_counts = gc; entry_counts = ec; names = ns }

parts_told : (t : Told) (gss : List (List (List Name))) → told_by t (flat_map part_items gss) ≡ grown t (t.group_counts ++ sizes gss) (t.entry_counts ++ sizes (groups_in gss)) (t.names ++ names_in (groups_in gss))
parts_told t [] =
    ap (λ w. grown t w t.entry_counts t.names) (sym (append-nil t.group_counts))
    ∙ (ap (λ w. grown t (t.group_counts ++ []) w t.names) (sym (append-nil t.entry_counts)) ∙ ap (λ w. grown t (t.group_counts ++ []) (t.entry_counts ++ []) w) (sym (append-nil t.names)))
parts_told t (gs ∷ gss) =
    let gc : List ℕ = t.group_counts ++ length gs ∷ [] in
    told_append (told t (Groups (length gs))) (flat_map group_items gs) (flat_map part_items gss)
    ∙ (ap (λ v. told_by v (flat_map part_items gss)) (groups_told (told t (Groups (length gs))) gs)
    ∙ (parts_told (grown t (t.group_counts ++ length gs ∷ []) (t.entry_counts ++ sizes gs) (t.names ++ names_in gs)) gss
    ∙ (ap (λ v. grown t v ((t.entry_counts ++ sizes gs) ++ sizes (groups_in gss)) ((t.names ++ names_in gs) ++ names_in (groups_in gss))) (more t.group_counts (length gs) (sizes gss))
    ∙ (ap (λ v. grown t (t.group_counts ++ length gs ∷ sizes gss) v ((t.names ++ names_in gs) ++ names_in (groups_in gss))) (append_assoc t.entry_counts (sizes gs) (sizes (groups_in gss)) ∙ ap (λ v. t.entry_counts ++ v) (sym (sizes_append gs (groups_in gss))))
    ∙ ap (λ v. grown t (t.group_counts ++ length gs ∷ sizes gss) (t.entry_counts ++ sizes (gs ++ groups_in gss)) v) (append_assoc t.names (names_in gs) (names_in (groups_in gss)) ∙ ap (λ v. t.names ++ v) (sym (names_append gs (groups_in gss))))))))

-- all that a certificate tells
abbrev pub flat_of : Contents → Told
flat_of c = record {
  job = c.job;
  flags = c.flags;
  literal = c.literal;
  parts = c.parts;
  split_size = c.split_size;
  lengths = c.lengths;
  skips = c.skips;
  group_counts = sizes c.groups;
  entry_counts = sizes (groups_in c.groups);
  names = names_in (groups_in c.groups);
}

pub items_told : (c : Contents) → told_by nothing_told (certificate_items c) ≡ flat_of c
unfolding certificate_items
items_told c =
    let a : Told = record nothing_told { job = c.job; flags = c.flags } in
    let b : Told = record nothing_told { job = c.job; flags = c.flags; literal = c.literal } in
    let d : Told = record nothing_told { job = c.job; flags = c.flags; literal = c.literal; parts = c.parts; split_size = c.split_size } in
    let e : Told = record nothing_told { job = c.job; flags = c.flags; literal = c.literal; parts = c.parts; split_size = c.split_size; lengths = c.lengths } in
    let f : Told = record nothing_told { job = c.job; flags = c.flags; literal = c.literal; parts = c.parts; split_size = c.split_size; lengths = c.lengths; skips = c.skips } in
    let groups : List Item = flat_map part_items c.groups ++ End ∷ [] in
    let skips : List Item = (Skips (length c.skips) ∷ map Skip c.skips) ++ (flat_map part_items c.groups ++ End ∷ []) in
    let files : List Item = (Files (length c.lengths) ∷ map FileLength c.lengths) ++ ((Skips (length c.skips) ∷ map Skip c.skips) ++ (flat_map part_items c.groups ++ End ∷ [])) in
    told_append a (map LiteralByte c.literal ++ (Parts c.parts ∷ SplitSize c.split_size ∷ [])) files
    ∙ (ap (λ t. told_by t files) (told_append a (map LiteralByte c.literal) (Parts c.parts ∷ SplitSize c.split_size ∷ []) ∙ ap (λ t. told_by t (Parts c.parts ∷ SplitSize c.split_size ∷ [])) (literal_told a c.literal))
    ∙ (told_append d (map FileLength c.lengths) skips
    ∙ (ap (λ t. told_by t skips) (lengths_told d c.lengths)
    ∙ (told_append e (map Skip c.skips) groups
    ∙ (ap (λ t. told_by t groups) (skips_told e c.skips)
    ∙ (told_append f (flat_map part_items c.groups) (End ∷ [])
    ∙ ap (λ t. told_by t (End ∷ [])) (parts_told f c.groups)))))))

-- ---- the lists of lists are found again

take_front : {X : Type 0} (xs ys : List X) → take (length xs) (xs ++ ys) ≡ xs
take_front [] ys = refl
take_front (x ∷ xs) ys = ap (λ w. x ∷ w) (take_front xs ys)

drop_front : {X : Type 0} (xs ys : List X) → drop (length xs) (xs ++ ys) ≡ ys
drop_front [] ys = refl
drop_front (x ∷ xs) ys = drop_front xs ys

names_cut : (gs : List (List Name)) → chunks (sizes gs) (names_in gs) ≡ gs
names_cut [] = refl
names_cut (ns ∷ gs) = ap (λ w. w ∷ chunks (sizes gs) (drop (length ns) (ns ++ names_in gs))) (take_front ns (names_in gs)) ∙ ap (λ w. ns ∷ w) (ap (chunks (sizes gs)) (drop_front ns (names_in gs)) ∙ names_cut gs)

groups_cut : (gss : List (List (List Name))) → chunks (sizes gss) (groups_in gss) ≡ gss
groups_cut [] = refl
groups_cut (gs ∷ gss) = ap (λ w. w ∷ chunks (sizes gss) (drop (length gs) (gs ++ groups_in gss))) (take_front gs (groups_in gss)) ∙ ap (λ w. gs ∷ w) (ap (chunks (sizes gss)) (drop_front gs (groups_in gss)) ∙ groups_cut gss)

pub contents_again : (c : Contents) → contents_of (flat_of c) ≡ c
contents_again c = ap (λ w. record c { groups = w }) (ap (chunks (sizes c.groups)) (names_cut (groups_in c.groups)) ∙ groups_cut c.groups)

-- one value has one list of items
pub one_value : (c d : Contents) → certificate_items c ≡ certificate_items d → c ≡ d
one_value c d e = sym (contents_again c) ∙ (ap contents_of (sym (items_told c) ∙ (ap (told_by nothing_told) e ∙ items_told d)) ∙ contents_again d)

-- ---- the counts are those of the lists

total_sizes : (gs : List (List Name)) → total (sizes gs) ≡ length (names_in gs)
total_sizes [] = refl
total_sizes (ns ∷ gs) = omega (arith, total_sizes gs, length-append ns (names_in gs))

total_groups : (gss : List (List (List Name))) → total (sizes gss) ≡ length (groups_in gss)
total_groups [] = refl
total_groups (gs ∷ gss) = omega (arith, total_groups gss, length-append gs (groups_in gss))

length-sizes : {X : Type 0} (xss : List (List X)) → length (sizes xss) ≡ length xss
length-sizes [] = refl
length-sizes (xs ∷ xss) = ap suc (length-sizes xss)

some_in : (gs : List (List Name)) → AllByRecursion GroupFits gs → (hs : List ℕ) → AllByRecursion (λ n. 1 ≤ n) hs → AllByRecursion (λ n. 1 ≤ n) (sizes gs ++ hs)
some_in [] fits hs h = h
some_in (ns ∷ gs) fits hs h = ((fits.0).some_entry, some_in gs fits.1 hs h)

some_each : (gss : List (List (List Name))) → AllByRecursion PartFits gss → AllByRecursion (λ n. 1 ≤ n) (sizes (groups_in gss))
some_each [] fits = tt
some_each (gs ∷ gss) fits = subst (AllByRecursion (λ n. 1 ≤ n)) (sym (sizes_append gs (groups_in gss))) (some_in gs (fits.0).groups (sizes (groups_in gss)) (some_each gss fits.1))

pub flat_is_whole : (c : Contents) → Fits c → IsWhole (flat_of c)
flat_is_whole c fits = record {
  literal = fits.literal;
  some_part = fits.some_part;
  parts = fits.parts;
  files = fits.files;
  skips = fits.skips;
  one_each = length-sizes c.groups ∙ fits.one_each;
  some_entry = some_each c.groups fits.groups;
  groups = total_groups (c.groups) ∙ sym (length-sizes (groups_in c.groups));
  entries = total_sizes (groups_in c.groups);
}
