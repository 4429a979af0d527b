-- Of bytes that spell a certificate, what was read is the certificate.
use Rattle.std.proofs.Common.{◌≡◌, ℕ, true, List, [], ◌∷◌, ◌++◌, length, map, refl, ap, ◌∙◌, append_assoc}
use Rattle.std.proofs.lemmas.Bool.{eq-eqb, false≢true}
use Rattle.std.proofs.lemmas.List.{append-nil}
use Rattle.std.specs.List.{flat_map}
use Rattle.mr_bytes.specs.declared.Name.{Name}
use Rattle.mr_bytes.specs.declared.RecordName.{RecordName}
use Rattle.mr_certform.specs.declared.grammar_state.Item.{Item}
use Rattle.mr_certform.specs.declared.grammar_state.Item.TheVariants.{LiteralByte, Parts, SplitSize, FileLength, Skip, Groups, Entries, Entry, End}
use Rattle.mr_certform.specs.Spelling.{is_ended}
use Rattle.mr_certform.specs.Value.{Contents, job_items, input_items, skip_items, group_items, part_items, certificate_items}
use Rattle.mr_certform.proofs.Certificates.{spelled_items, ended_items}
use Rattle.mr_verdict.specs.Verdict.{item_eq}
use Rattle.mr_verdict.specs.VerdictLaws.{skips_in, piece, parts_in}
use Rattle.mr_verdict.specs.FaultLaws.{names_in, groups_in, part_read, whole, whole_part, ReadIsSpelled, EndedIsSpelled}
use Rattle.mr_verdict.proofs.VerdictHeader.{AreEqual}
use Rattle.mr_verdict.proofs.FaultTruth.{through_ended, through_skips}

parts_behind : (i : Item) (is : List Item) → item_eq i i ≡ true → parts_in (i ∷ is) ≡ parts_in is
parts_behind (Groups n) is h = absurd (false≢true h)
parts_behind i is h = refl

through_parts : (ws is : List Item) → AreEqual ws → parts_in (ws ++ is) ≡ parts_in is
through_parts [] is h = refl
through_parts (w ∷ ws) is h = parts_behind w (ws ++ is) h.0 ∙ through_parts ws is h.1

literal_equal : (bs : List ℕ) (ws : List Item) → AreEqual ws → AreEqual (map LiteralByte bs ++ ws)
literal_equal [] ws h = h
literal_equal (b ∷ bs) ws h = (eq-eqb b b refl, literal_equal bs ws h)

lengths_equal : (ls : List ℕ) → AreEqual (map FileLength ls)
lengths_equal [] = tt
lengths_equal (l ∷ ls) = (eq-eqb l l refl, lengths_equal ls)

job_equal : (c : Contents) → AreEqual (job_items c)
job_equal c =
    let literal = literal_equal c.literal (Parts c.parts ∷ SplitSize c.split_size ∷ []) (eq-eqb c.parts c.parts refl, (eq-eqb c.split_size c.split_size refl, tt)) in
    (eq-eqb c.job c.job refl, (eq-eqb c.flags c.flags refl, (eq-eqb (length c.literal) (length c.literal) refl, literal)))

input_equal : (c : Contents) → AreEqual (input_items c)
input_equal c = (eq-eqb (length c.lengths) (length c.lengths) refl, lengths_equal c.lengths)

-- the partitions, up to the end
abbrev rest_of : List (List (List Name)) → List Item
rest_of parts = flat_map part_items parts ++ End ∷ []

-- ---- the left-out records

skips_front : (ss : List RecordName) (is : List Item) → skips_in (map Skip ss ++ is) ≡ ss ++ skips_in is
skips_front [] is = refl
skips_front (s ∷ ss) is = ap (λ l. s ∷ l) (skips_front ss is)

no_skips : (parts : List (List (List Name))) → skips_in (rest_of parts) ≡ []
no_skips [] = refl
no_skips (gs ∷ parts) = refl

-- ---- the partitions

parts_of_skips : (ss : List RecordName) (is : List Item) → parts_in (map Skip ss ++ is) ≡ parts_in is
parts_of_skips [] is = refl
parts_of_skips (s ∷ ss) is = parts_of_skips ss is

parts_of_names : (ns : List Name) (is : List Item) → parts_in (map Entry ns ++ is) ≡ parts_in is
parts_of_names [] is = refl
parts_of_names (n ∷ ns) is = parts_of_names ns is

piece_of_names : (ns : List Name) (is : List Item) → piece (map Entry ns ++ is) ≡ map Entry ns ++ piece is
piece_of_names [] is = refl
piece_of_names (n ∷ ns) is = ap (λ l. Entry n ∷ l) (piece_of_names ns is)

parts_of_groups : (gs : List (List Name)) (is : List Item) → parts_in (flat_map group_items gs ++ is) ≡ parts_in is
parts_of_groups [] is = refl
parts_of_groups (ns ∷ gs) is =
    ap parts_in (append_assoc (map Entry ns) (flat_map group_items gs) is) ∙ (parts_of_names ns (flat_map group_items gs ++ is) ∙ parts_of_groups gs is)

piece_of_groups : (gs : List (List Name)) (is : List Item) → piece is ≡ [] → piece (flat_map group_items gs ++ is) ≡ flat_map group_items gs
piece_of_groups [] is e = e
piece_of_groups (ns ∷ gs) is e =
    ap (λ l. Entries (length ns) ∷ l)
    (ap piece (append_assoc (map Entry ns) (flat_map group_items gs) is)
    ∙ (piece_of_names ns (flat_map group_items gs ++ is) ∙ ap (λ l. map Entry ns ++ l) (piece_of_groups gs is e)))

no_piece : (parts : List (List (List Name))) → piece (rest_of parts) ≡ []
no_piece [] = refl
no_piece (gs ∷ parts) = refl

parts_are : (parts : List (List (List Name))) → parts_in (rest_of parts) ≡ map part_items parts
parts_are [] = refl
parts_are (gs ∷ parts) =
    let behind = append_assoc (flat_map group_items gs) (flat_map part_items parts) (End ∷ []) in
    let here : piece ((flat_map group_items gs ++ flat_map part_items parts) ++ End ∷ []) ≡ flat_map group_items gs = ap piece behind ∙ piece_of_groups gs (rest_of parts) (no_piece parts) in
    let later : parts_in ((flat_map group_items gs ++ flat_map part_items parts) ++ End ∷ []) ≡ map part_items parts = ap parts_in behind ∙ (parts_of_groups gs (rest_of parts) ∙ parts_are parts) in
    λ i. (Groups (length gs) ∷ here i) ∷ later i

names_are : (ns : List Name) (gs : List (List Name)) → names_in (map Entry ns ++ flat_map group_items gs) ≡ ns
names_are [] [] = refl
names_are [] (ms ∷ gs) = refl
names_are (n ∷ ns) gs = ap (λ l. n ∷ l) (names_are ns gs)

groups_of_names : (ns : List Name) (is : List Item) → groups_in (map Entry ns ++ is) ≡ groups_in is
groups_of_names [] is = refl
groups_of_names (n ∷ ns) is = groups_of_names ns is

groups_are : (gs : List (List Name)) → groups_in (flat_map group_items gs) ≡ map whole gs
groups_are [] = refl
groups_are (ns ∷ gs) =
    let here = names_are ns gs in
    let later : groups_in (map Entry ns ++ flat_map group_items gs) ≡ map whole gs = groups_of_names ns (flat_map group_items gs) ∙ groups_are gs in
    λ i. record { announced = length ns; names = here i } ∷ later i

whole_parts : (parts : List (List (List Name))) → map part_read (map part_items parts) ≡ map whole_part parts
whole_parts [] = refl
whole_parts (gs ∷ parts) =
    let here = groups_are gs in
    let later = whole_parts parts in
    λ i. record { announced = length gs; groups = here i } ∷ later i

-- ---- the end

ended_skips : (ss : List RecordName) (is : List Item) → is_ended (map Skip ss ++ is) ≡ is_ended is
ended_skips [] is = refl
ended_skips (s ∷ ss) is = ended_skips ss is

ended_names : (ns : List Name) (is : List Item) → is_ended (map Entry ns ++ is) ≡ is_ended is
ended_names [] is = refl
ended_names (n ∷ ns) is = ended_names ns is

ended_groups : (gs : List (List Name)) (is : List Item) → is_ended (flat_map group_items gs ++ is) ≡ is_ended is
ended_groups [] is = refl
ended_groups (ns ∷ gs) is =
    ap is_ended (append_assoc (map Entry ns) (flat_map group_items gs) is) ∙ (ended_names ns (flat_map group_items gs ++ is) ∙ ended_groups gs is)

ended_parts : (parts : List (List (List Name))) → is_ended (rest_of parts) ≡ true
ended_parts [] = refl
ended_parts (gs ∷ parts) =
    ap is_ended (append_assoc (flat_map group_items gs) (flat_map part_items parts) (End ∷ [])) ∙ (ended_groups gs (rest_of parts) ∙ ended_parts parts)

pub read_is_spelled : ReadIsSpelled
unfolding certificate_items
read_is_spelled bytes c spells =
    let behind : List Item = skip_items c ++ rest_of c.groups in
    let items = spelled_items bytes c spells in (
      ap skips_in items
          ∙ (through_skips (job_items c) (input_items c ++ behind) (job_equal c)
          ∙ (through_skips (input_items c) behind (input_equal c)
          ∙ (skips_front c.skips (rest_of c.groups) ∙ (ap (λ l. c.skips ++ l) (no_skips c.groups) ∙ append-nil c.skips)))),
      ap (map part_read)
          (ap parts_in items
          ∙ (through_parts (job_items c) (input_items c ++ behind) (job_equal c)
          ∙ (through_parts (input_items c) behind (input_equal c)
          ∙ (parts_of_skips c.skips (rest_of c.groups) ∙ parts_are c.groups))))
          ∙ whole_parts c.groups,
      ap is_ended items
          ∙ (through_ended (job_items c) (input_items c ++ behind) (job_equal c)
          ∙ (through_ended (input_items c) behind (input_equal c)
          ∙ (ended_skips c.skips (rest_of c.groups) ∙ ended_parts c.groups))),
    )

pub ended_is_spelled : EndedIsSpelled
ended_is_spelled bytes are_bytes ended = let f = ended_items bytes are_bytes ended in (f.0, f.2)
