-- What a version can spell, of groups one behind another and of the groups of each partition.
use Rattle.std.proofs.Common.{ℕ, List, [], ◌∷◌, drop, sym, ◌∙◌, subst}
use Rattle.std.specs.List.{flat_map, AllByRecursion}
use Rattle.mr_bytes.specs.declared.Name.{Name}
use Rattle.mr_certform.specs.declared.version.Version.{Version}
use Rattle.mr_certform.specs.Places.{first_name}
use Rattle.mr_certform.specs.Value.{CanRow, CanSpell}
use Rattle.mr_certform.specs.Flat.{Told, chunks, contents_of, IsWhole}
use Rattle.mr_certform.proofs.Chunks.{pieces_joined}
use Rattle.mr_certform.proofs.Pieces.{length-chunks, All-append, All-take, All-drop}

all_in_pieces : {X : Type 0} (P : X → Type 0) (counts : List ℕ) (xs : List X) → AllByRecursion P xs → AllByRecursion (AllByRecursion P) (chunks counts xs)
all_in_pieces P [] xs h = tt
all_in_pieces P (n ∷ counts) xs h = (All-take P n xs h, all_in_pieces P counts (drop n xs) (All-drop P n xs h))

all_joined : {X : Type 0} (P : X → Type 0) (pieces : List (List X)) → AllByRecursion (AllByRecursion P) pieces → AllByRecursion P (flat_map (λ piece. piece) pieces)
all_joined P [] h = tt
all_joined P (xs ∷ pieces) h = All-append P xs (flat_map (λ piece. piece) pieces) h.0 (all_joined P pieces h.1)

pub parts_can : (v : Version) (t : Told) → CanSpell v (chunks t.entry_counts t.names) → AllByRecursion (CanSpell v) (contents_of t).groups
parts_can v t can = all_in_pieces (CanRow v first_name) t.group_counts (chunks t.entry_counts t.names) can

pub groups_can : (v : Version) (t : Told) → IsWhole t → AllByRecursion (CanSpell v) (contents_of t).groups → CanSpell v (chunks t.entry_counts t.names)
groups_can v t whole can =
    let groups : List (List Name) = chunks t.entry_counts t.names in
    subst (AllByRecursion (CanRow v first_name)) (pieces_joined t.group_counts (chunks t.entry_counts t.names) (whole.groups ∙ sym (length-chunks t.entry_counts t.names)))
    (all_joined (CanRow v first_name) (chunks t.group_counts (chunks t.entry_counts t.names)) can)
