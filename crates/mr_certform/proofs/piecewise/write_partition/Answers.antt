use Rattle.std.proofs.Common.{◌≡◌, ℕ, List, [], ◌∷◌, ◌++◌, length, ap, sym, ◌∙◌, arith, append_assoc}
use Rattle.std.proofs.lemmas.List.{append-nil}
use Rattle.std.specs.List.{flat_map}
use Rattle.mr_bytes.specs.declared.Name.{Name}
use Rattle.mr_certform.specs.Spelling.{u32}
use Rattle.mr_certform.specs.Flat.{chunks}
use Rattle.mr_certform.specs.declared.version.Version.{Version}
use Rattle.mr_certform.specs.Value.{Contents, PartFits, CanSpell}
use Rattle.mr_certform.specs.Pieces.{all_bytes, front_bytes, group_bytes, part_bytes}
use Rattle.mr_certform.proofs.Pieces.{All-append, length-chunks}
use Rattle.mr_certform.proofs.Spelled.{group_fits}
use Rattle.mr_certform.proofs.piecewise.write_partition.Goals as goal

-- one partition more, behind the others
parts-more : (v : Version) (parts : List (List (List Name))) (part : List (List Name)) → flat_map (part_bytes v) (parts ++ part ∷ []) ≡ flat_map (part_bytes v) parts ++ part_bytes v part
parts-more v [] part = append-nil (part_bytes v part)
parts-more v (p ∷ ps) part = ap (λ w. part_bytes v p ++ w) (parts-more v ps part) ∙ sym (append_assoc (part_bytes v p) (flat_map (part_bytes v) ps) (part_bytes v part))

text-more : (v : Version) (d : Contents) (counts : List ℕ) (names : List Name) (old mid new : List ℕ) → old ≡ all_bytes v d → mid ≡ old ++ u32 (length counts)
    → new ≡ mid ++ flat_map (group_bytes v) (chunks counts names) → new ≡ all_bytes v (record d { groups = d.groups ++ chunks counts names ∷ [] })
text-more v d counts names old mid new o m n =
    let part : List (List Name) = chunks counts names in
    let size : u32 (length counts) ≡ u32 (length part) = ap u32 (sym (length-chunks counts names)) in
    let front : List ℕ = front_bytes v d in
    let done : List ℕ = flat_map (part_bytes v) d.groups in
    n
    ∙ ap (λ w. w ++ flat_map (group_bytes v) part) (m ∙ (λ i. o i ++ size i))
    ∙ append_assoc (front ++ done) (u32 (length part)) (flat_map (group_bytes v) part)
    ∙ append_assoc front done (part_bytes v part)
    ∙ ap (λ w. front ++ w) (sym (parts-more v d.groups part))

pub returns : goal.returns
returns c = λ d so_far.
    let counts = c.args.counts.now in
    let names = c.args.names in
    let part : List (List Name) = chunks counts names in
    let fits : PartFits part = record {
      count = omega (arith, length-chunks counts names, c.requires.few);
      groups = group_fits counts names (omega (arith, c.requires.entries)) c.requires.some c.counts_fit.ensures c.in_ok-put_groups.ensures.2;
    } in
    record {
      text = text-more c.args.version d counts names c.args.out.now.items c.put_number.new.out.items c.put_groups.new.out.items so_far.text c.in_ok-put_number.ensures c.in_ok-put_groups.ensures.0;
      front = so_far.front;
      groups = All-append PartFits d.groups (part ∷ []) so_far.groups (fits, tt);
      can = All-append (CanSpell c.args.version) d.groups (part ∷ []) so_far.can (c.requires.can, tt);
    }
