use Rattle.std.proofs.Common.{◌≡◌, ℕ, List, ◌++◌, ap, sym, ◌∙◌, subst, length}
use Rattle.std.proofs.lemmas.Result.{on_ok_weaker}
use Rattle.std.specs.List.{flat_map, AllByRecursion}
use Rattle.mr_bytes.specs.declared.Name.{Name}
use Rattle.mr_bytes.specs.declared.RecordName.{RecordName}
use Rattle.mr_certform.specs.Spelling.{u32, u64, skip_bytes}
use Rattle.mr_certform.specs.declared.version.Version.{Version}
use Rattle.mr_certform.specs.Value.{NameFits, SkipFits, CanSpell}
use Rattle.mr_certform.specs.Flat.{Told, chunks, contents_of}
use Rattle.mr_certform.specs.Pieces.{job_bytes, input_bytes, skips_bytes, groups_bytes, part_bytes}
use Rattle.mr_certform.proofs.writing.put_values.Goals as goal

all_joined : {S : Type 0} (takes : S → S → List ℕ → Type 0) (joined : (a b c : S) (xs ys : List ℕ) → takes a b xs → takes b c ys → takes a c (xs ++ ys))
    (o o1 o2 o3 o4 : S) (a b d e : List ℕ) → takes o o1 a → takes o1 o2 b → takes o2 o3 d → takes o3 o4 e → takes o o4 ((a ++ b ++ d) ++ e)
all_joined takes joined o o1 o2 o3 o4 a b d e p1 p2 p3 p4 =
    joined o o3 o4 (a ++ b ++ d) e (joined o o2 o3 (a ++ b) d (joined o o1 o2 a b p1 p2) p3) p4

-- each piece is that of the values, which the lists hold
input_text : (P : List ℕ → Type 0) (ls ms : List ℕ) → ls ≡ ms → P (u32 (length ls) ++ flat_map u64 ls) → P (u32 (length ms) ++ flat_map u64 ms)
input_text P ls ms e h = subst (λ w. P (u32 (length w) ++ flat_map u64 w)) e h

skips_text : (P : List ℕ → Type 0) (ls ms : List RecordName) → ls ≡ ms → P (u32 (length ls) ++ flat_map skip_bytes ls) → P (u32 (length ms) ++ flat_map skip_bytes ms)
skips_text P ls ms e h = subst (λ w. P (u32 (length w) ++ flat_map skip_bytes w)) e h

groups_text : (v : Version) (P : List ℕ → Type 0) (gs hs es fs : List ℕ) (ns ms : List Name) → gs ≡ hs → es ≡ fs → ns ≡ ms → P (flat_map (part_bytes v) (chunks gs (chunks es ns))) → P (flat_map (part_bytes v) (chunks hs (chunks fs ms)))
groups_text v P gs hs es fs ns ms e d k h =
    subst (λ w. P (flat_map (part_bytes v) (chunks hs (chunks fs w)))) k
    (subst (λ w. P (flat_map (part_bytes v) (chunks hs (chunks w ns)))) d (subst (λ w. P (flat_map (part_bytes v) (chunks w (chunks es ns)))) e h))

names_fit : (es fs : List ℕ) (ns ms : List Name) → es ≡ fs → ns ≡ ms → AllByRecursion (AllByRecursion NameFits) (chunks es ns) → AllByRecursion (AllByRecursion NameFits) (chunks fs ms)
names_fit es fs ns ms d k h = subst (λ w. AllByRecursion (AllByRecursion NameFits) (chunks fs w)) k (subst (λ w. AllByRecursion (AllByRecursion NameFits) (chunks w ns)) d h)

can_text : (v : Version) (es fs : List ℕ) (ns ms : List Name) → es ≡ fs → ns ≡ ms → CanSpell v (chunks es ns) → CanSpell v (chunks fs ms)
can_text v es fs ns ms d k h = subst (λ w. CanSpell v (chunks fs w)) k (subst (λ w. CanSpell v (chunks w ns)) d h)

pub put_parts-requires-clause-can : goal.put_parts-requires-clause-can
put_parts-requires-clause-can g c =
    let es : c.deref-4.result.now ≡ c.args.flat.now.entry_counts = c.deref-4.ensures.value ∙ ap (λ (t : Told). t.entry_counts) c.flat.view_is in
    let ns : c.names.result ≡ c.args.flat.now.names = c.names.ensures ∙ ap (λ (t : Told). t.names) c.flat.view_is in
    can_text c.args.version _ _ _ _ (sym es) (sym ns) c.requires.can

pub returns : goal.returns
returns g c =
    let ls : c.deref.result.now ≡ c.args.flat.now.lengths = c.deref.ensures.value ∙ ap (λ (t : Told). t.lengths) c.flat.view_is in
    let ss : c.deref-2.result.now ≡ c.args.flat.now.skips = c.deref-2.ensures.value ∙ ap (λ (t : Told). t.skips) c.flat.view_is in
    let gs : c.deref-3.result.now ≡ c.args.flat.now.group_counts = c.deref-3.ensures.value ∙ ap (λ (t : Told). t.group_counts) c.flat.view_is in
    let es : c.deref-4.result.now ≡ c.args.flat.now.entry_counts = c.deref-4.ensures.value ∙ ap (λ (t : Told). t.entry_counts) c.flat.view_is in
    let ns : c.names.result ≡ c.args.flat.now.names = c.names.ensures ∙ ap (λ (t : Told). t.names) c.flat.view_is in
    let takes = g.O.Sink.takes in
    on_ok_weaker c.put_parts.result (λ t. (
      all_joined g.O.Sink.takes g.met.O.Sink.joined c.args.out.now c.put_job.new.out c.put_input.new.out c.put_left_out.new.out c.put_parts.new.out
          (job_bytes c.args.version (contents_of c.args.flat.now)) (input_bytes (contents_of c.args.flat.now)) (skips_bytes (contents_of c.args.flat.now)) (groups_bytes c.args.version (contents_of c.args.flat.now))
          c.in_ok-put_job.ensures
          (input_text (takes c.put_job.new.out c.put_input.new.out) _ _ ls c.in_ok-put_input.ensures)
          (skips_text (takes c.put_input.new.out c.put_left_out.new.out) _ _ ss c.in_ok-put_left_out.ensures.0)
          (groups_text c.args.version (takes c.put_left_out.new.out c.put_parts.new.out) _ _ _ _ _ _ gs es ns t.0),
      (subst (AllByRecursion SkipFits) ss c.in_ok-put_left_out.ensures.1, names_fit _ _ _ _ es ns t.1),
    )) c.put_parts.ensures
