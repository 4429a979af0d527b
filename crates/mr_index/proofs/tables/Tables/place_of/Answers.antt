use Rattle.std.proofs.Common.{◌<◌, ◌+◌, ◌∷◌, ◌∙◌, ℕ, List, ap, length, get_or, arith}
use Rattle.std.proofs.lemmas.List.{get_or_default}
use Rattle.mr_index.specs.Pairs.{pairs_seen}
use Rattle.mr_index.proofs.NumberedLemmas.{tells-none, tells-past, tells-there}
use Rattle.mr_index.proofs.tables.Tables.place_of.Goals as goal

pub returns-then-len-number : goal.returns-then-len-number
returns-then-len-number c first n rec place =
    let t = c.args.self.now in
    tells-none t.ends.items first c.args.number n (pairs_seen t.pairs) (omega (arith, c.if-len-number.true, c.len.ensures, t.ends.ok.0)) rec

pub returns-then-saturating_sub-place : goal.returns-then-saturating_sub-place
returns-then-saturating_sub-place c first n rec place =
    let t = c.args.self.now in
    let within : c.args.number < length t.ends.items = omega (arith, c.if-len-number.false, c.len.ensures, t.ends.ok.0) in
    let start = c.start_of-start.ensures ∙ ap (λ (l : List ℕ). get_or (0 ∷ l) c.args.number 0) c.as_slice.ensures.value in
    let end = c.index.ensures ∙ get_or_default t.ends.items c.args.number c.index.result.now 0 within in
    tells-past t.ends.items first c.args.number n (pairs_seen t.pairs) c.requires within rec
    (omega (arith, start, end, c.saturating_sub.ensures, c.if-saturating_sub-place.true, place))

pub returns : goal.returns
returns c first n rec place =
    let t = c.args.self.now in
    let within : c.args.number < length t.ends.items = omega (arith, c.if-len-number.false, c.len.ensures, t.ends.ok.0) in
    let start = c.start_of-start.ensures ∙ ap (λ (l : List ℕ). get_or (0 ∷ l) c.args.number 0) c.as_slice.ensures.value in
    let end = c.index.ensures ∙ get_or_default t.ends.items c.args.number c.index.result.now 0 within in
    tells-there t.ends.items first c.args.number (c.start_of-start.result + c.args.place) n (pairs_seen t.pairs) c.requires within rec
    (omega (arith, start, place)) (omega (arith, end, c.saturating_sub.ensures, c.if-saturating_sub-place.false))
