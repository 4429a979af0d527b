use Rattle.std.proofs.Common.{◌≡◌, ◌++◌, ◌∷◌, [], List, ℕ, length, ap, sym, subst, ◌∙◌, arith, length-append}
use Rattle.std.specs.List.{AllByRecursion}
use Rattle.mr_bytes.specs.declared.Span.{Span}
use Rattle.mr_group.specs.Interner.{IsWithin, texts_at}
use Rattle.mr_group.proofs.TextLemmas.{spans-more, texts-more}
use Rattle.mr_group.proofs.texts.Texts.push.Goals as goal

pub invariant_of-self-2 : goal.invariant_of-self-2
invariant_of-self-2 c =
    let t = c.self.inside in
    let text : List ℕ = c.args.text.now in
    let s : Span = c.in_ok-span.span in
    let bytes : c.extend_from_slice.new.self.items ≡ t.bytes.items ++ text =
    c.in_ok-extend_from_slice.ensures.items ∙ ap (λ (l : List ℕ). l ++ text) c.reserve.ensures.items in
    let spans : c.push_reserved.new.self.items ≡ t.spans.items ++ s ∷ [] =
    c.push_reserved.ensures.items ∙ ap (λ (l : List Span). l ++ s ∷ []) c.reserve-2.ensures.items in
    let start : s.start ≡ length t.bytes.items = c.in_ok-span.ensures.start ∙ c.len.ensures ∙ t.bytes.ok.0 in
    let end : s.end ≡ length (t.bytes.items ++ text) = omega (arith, c.in_ok-span.ensures.end, c.len.ensures, t.bytes.ok.0, length-append t.bytes.items text) in
    subst (λ (l : List ℕ). AllByRecursion (IsWithin l) c.push_reserved.new.self.items) (sym bytes)
    (subst (AllByRecursion (IsWithin (t.bytes.items ++ text))) (sym spans)
    (spans-more t.bytes.items text t.spans.items s c.self.invariant start end))

pub returns-clause-ok : goal.returns-clause-ok
returns-clause-ok c =
    let t = c.self.inside in
    let text : List ℕ = c.args.text.now in
    let s : Span = c.in_ok-span.span in
    let bytes : c.extend_from_slice.new.self.items ≡ t.bytes.items ++ text =
    c.in_ok-extend_from_slice.ensures.items ∙ ap (λ (l : List ℕ). l ++ text) c.reserve.ensures.items in
    let spans : c.push_reserved.new.self.items ≡ t.spans.items ++ s ∷ [] =
    c.push_reserved.ensures.items ∙ ap (λ (l : List Span). l ++ s ∷ []) c.reserve-2.ensures.items in
    let start : s.start ≡ length t.bytes.items = c.in_ok-span.ensures.start ∙ c.len.ensures ∙ t.bytes.ok.0 in
    let end : s.end ≡ length (t.bytes.items ++ text) = omega (arith, c.in_ok-span.ensures.end, c.len.ensures, t.bytes.ok.0, length-append t.bytes.items text) in
    ap (λ (l : List ℕ). texts_at l c.push_reserved.new.self.items) bytes
    ∙ ap (λ (l : List Span). texts_at (t.bytes.items ++ text) l) spans
    ∙ texts-more t.bytes.items text t.spans.items s c.self.invariant start end
    ∙ ap (λ (l : List (List ℕ)). l ++ text ∷ []) c.self.view_is
