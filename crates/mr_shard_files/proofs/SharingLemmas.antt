-- Names of parts, one behind another.
use Rattle.std.proofs.Common.{◌≡◌, ◌+◌, ◌++◌, ◌∷◌, ◌∙◌, ℕ, List, [], ap, append_assoc, append-nil, map, refl, sym, string_bytes}
use Rattle.std.proofs.lemmas.List.{map-append}
use Rattle.std.specs.declared.string.String.{String}
use Rattle.std.specs.Global.{Global}
use Rattle.mr_files.specs.Folders.{IsFolderOf}
use Rattle.mr_files.specs.Names.{name_of_part, part_names}
use Rattle.mr_files.proofs.Lists.{parts_more, parts_none}
use Rattle.mr_shard_files.specs.Sharing.{AreBeside}

pub none_added : (folder : List ℕ) (before : List (List ℕ)) → before ≡ before ++ part_names folder 0
none_added folder before = sym (ap (λ (l : List (List ℕ)). before ++ l) (parts_none folder) ∙ append-nil before)

pub one_added : (folder : List ℕ) (part : ℕ) (before : List (List ℕ)) (old new : List (String Global)) (name : String Global) → new ≡ old ++ name ∷ [] → string_bytes name ≡ name_of_part folder part
    → map string_bytes old ≡ before ++ part_names folder part → map string_bytes new ≡ before ++ part_names folder (part + 1)
one_added folder part before old new name more is was =
    ap (map string_bytes) more ∙ map-append string_bytes old (name ∷ []) ∙ ap (λ (l : List (List ℕ)). l ++ string_bytes name ∷ []) was ∙ append_assoc before (part_names folder part) (string_bytes name ∷ [])
    ∙ ap (λ (n : List ℕ). before ++ (part_names folder part ++ n ∷ [])) is ∙ sym (ap (λ (l : List (List ℕ)). before ++ l) (parts_more folder part))

pub beside_more : (parts : ℕ) (ns all : List (List ℕ)) (n folder : List ℕ) → IsFolderOf n folder → AreBeside parts ns all → AreBeside parts (ns ++ n ∷ []) (all ++ part_names folder parts)
beside_more parts [] all n folder f h =
    (folder, [], f, refl, ap (λ (l : List (List ℕ)). l ++ part_names folder parts) h ∙ sym (append-nil (part_names folder parts)))
beside_more parts (m ∷ ns) all n folder f h =
    let rest = beside_more parts ns h.1 n folder f h.3 in
    (h.0, h.1 ++ part_names folder parts, h.2, rest, ap (λ (l : List (List ℕ)). l ++ part_names folder parts) h.4 ∙ append_assoc (part_names h.0 parts) h.1 (part_names folder parts))
