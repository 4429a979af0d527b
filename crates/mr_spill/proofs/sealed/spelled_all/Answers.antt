use Rattle.std.proofs.Common.{◌≡◌, ◌+◌, ℕ, ◌++◌, ◌∷◌, [], List, Vec, Global, length, get_or, map, slice_range, sym, ◌∙◌, ap, subst, arith, inl, inr}
use Rattle.std.proofs.lemmas.Bool.{cases_lt}
use Rattle.std.proofs.lemmas.List.{get_or_append_left, get_or_push, length-map, length_push, map-append}
use Rattle.std.specs.List.{flat_map}
use Rattle.mr_bytes.specs.Pairs.{Triple}
use Rattle.mr_spill.specs.Groups.{pairs_of, piece}
use Rattle.mr_spill.specs.Sealed.{IsText}
use Rattle.mr_spill.proofs.sealed.spelled_all.Goals as goal

pub spelled-requires : goal.spelled-requires
spelled-requires c =
    let within = c.requires.within c.loop-part.part (omega (arith, c.loop-part-test.true, c.len-part-end.ensures, c.args.cut.now.ends.ok.0)) in
    record { order = omega (arith, within.0); within = omega (arith, within.1) }

pub loop-part-preserved : goal.loop-part-preserved
loop-part-preserved c =
    let ends : List ℕ = c.args.cut.now.ends.items in
    let p : ℕ = c.loop-part.part in
    let was : List (List ℕ) = map (λ (b : Vec ℕ Global). b.items) c.loop-part.texts.items in
    let text : List ℕ = c.in_ok-spelled.field-0.items in
    let items : map (λ (b : Vec ℕ Global). b.items) c.push.new.self.items ≡ was ++ text ∷ [] =
    ap (map (λ (b : Vec ℕ Global). b.items)) c.in_ok-push.ensures.items ∙ map-append (λ (b : Vec ℕ Global). b.items) c.loop-part.texts.items (c.in_ok-spelled.field-0 ∷ []) in
    let long : length was ≡ p = length-map c.loop-part.texts.items (λ (b : Vec ℕ Global). b.items) ∙ c.loop-part.invariant.count in
    let is : ℕ → List ℕ → Type 0 = λ q l. IsText c.args.split q (flat_map pairs_of (piece c.args.cut.now.groups ends q)) l in
    record {
      count = ap length c.in_ok-push.ensures.items ∙ length_push c.loop-part.texts.items c.in_ok-spelled.field-0 ∙ ap (λ (n : ℕ). n + 1) c.loop-part.invariant.count;
      each = λ q h. elim (cases_lt q p) [
        | inl old ↦
            subst (is q) (sym (ap (λ (l : List (List ℕ)). get_or l q []) items ∙ get_or_append_left was (text ∷ []) [] q (omega (arith, old, long)))) (c.loop-part.invariant.each q old)
        | inr new ↦
            (let here : p ≡ q = omega (arith, h, new) in
            subst (is q) (sym (ap (λ (l : List (List ℕ)). get_or l q []) items ∙ get_or_push was text [] q (long ∙ here)))
            (subst (λ (n : ℕ). is n text) here
            (subst (λ (ts : List Triple). IsText c.args.split p ts text) (λ i. flat_map pairs_of (slice_range c.args.cut.now.groups (c.range_of-range.ensures.begin i) (c.range_of-range.ensures.end i))) c.in_ok-spelled.ensures)))
      ];
    }

pub loop-part-init : goal.loop-part-init
loop-part-init c = record { count = ap length c.in_ok-texts.ensures.items; each = λ p h. absurd (omega (arith, h)) }

pub returns : goal.returns
returns c =
    let end : c.loop-part.part ≡ length c.args.cut.now.ends.items = omega (arith, c.loop-part-test.false, c.loop-part.auto.part-end, c.len-part-end.ensures, c.args.cut.now.ends.ok.0) in
    record { count = c.loop-part.invariant.count ∙ end; each = λ p h. c.loop-part.invariant.each p (omega (arith, h, end)) }
