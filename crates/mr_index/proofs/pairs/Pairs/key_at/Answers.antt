use Rattle.std.proofs.Common.{arith, ap, sym, ◌∙◌, ◌≡◌, ◌∷◌, List, ℕ, length, get_or, slice_range}
use Rattle.std.proofs.lemmas.List.{get_or_default}
use Rattle.mr_jobs.specs.Emissions.{Emission}
use Rattle.mr_index.proofs.PairLemmas.{few-ends, pair-at, rise-at}
use Rattle.mr_index.proofs.pairs.Pairs.key_at.Goals as goal

pub start_of-start-requires : goal.start_of-start-requires
start_of-start-requires c = omega (arith, few-ends c.args.self.now c.args.i c.requires.sound c.requires.within, ap length c.as_slice.ensures.value)

pub index-requires : goal.index-requires
index-requires c = omega (arith, few-ends c.args.self.now c.args.i c.requires.sound c.requires.within, c.args.self.now.ends.ok.0)

pub returns-clause-key : goal.returns-clause-key
returns-clause-key c =
    let p = c.args.self.now in
    let few = few-ends p c.args.i c.requires.sound c.requires.within in
    let start : c.start_of-start.result ≡ get_or (0 ∷ p.ends.items) c.args.i 0 =
    c.start_of-start.ensures ∙ ap (λ (l : List ℕ). get_or (0 ∷ l) c.args.i 0) c.as_slice.ensures.value in
    let end : c.index.result.now ≡ get_or p.ends.items c.args.i 0 = c.index.ensures ∙ get_or_default p.ends.items c.args.i c.index.result.now 0 few in
    ap (λ (l : List ℕ). slice_range l c.start_of-start.result c.index.result.now) c.as_slice-2.ensures.value
    ∙ ap (λ (a : ℕ). slice_range p.keys.items a c.index.result.now) start
    ∙ ap (λ (b : ℕ). slice_range p.keys.items (get_or (0 ∷ p.ends.items) c.args.i 0) b) end
    ∙ ap (λ (e : Emission). e.0) (sym (pair-at 0 c.args.i p.keys.items p.ends.items p.values c.requires.sound.values few))

pub returns-clause-bounds : goal.returns-clause-bounds
returns-clause-bounds c =
    let p = c.args.self.now in
    let few = few-ends p c.args.i c.requires.sound c.requires.within in
    let start : c.start_of-start.result ≡ get_or (0 ∷ p.ends.items) c.args.i 0 =
    c.start_of-start.ensures ∙ ap (λ (l : List ℕ). get_or (0 ∷ l) c.args.i 0) c.as_slice.ensures.value in
    let end : c.index.result.now ≡ get_or p.ends.items c.args.i 0 = c.index.ensures ∙ get_or_default p.ends.items c.args.i c.index.result.now 0 few in
    let order = rise-at 0 (length p.keys.items) c.args.i p.ends.items c.requires.sound.rise few in
    (omega (arith, start, end, order.0), omega (arith, end, order.1, ap length c.as_slice-2.ensures.value))
