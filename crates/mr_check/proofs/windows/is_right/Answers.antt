use Rattle.std.proofs.Common.{◌≡◌, ℕ, ◌+◌, ◌/◌, ◌^◌, Some, slice_range, List, ap, sym, ◌∙◌, subst}
use Rattle.mr_bytes.specs.declared.Name.{Name}
use Rattle.mr_bytes.specs.Pairs.{Triple}
use Rattle.mr_index.specs.Windows.{PieceView, name_in, window_triples}
use Rattle.mr_index.proofs.WindowLemmas.{window_named}
use Rattle.mr_sequential.specs.Good.{named}
use Rattle.mr_check.specs.Claims.{name_of}
use Rattle.mr_check.specs.Lines.{told_key}
use Rattle.mr_check.proofs.LineKeyLemmas.{told_more}
use Rattle.mr_check.proofs.windows.is_right.Goals as goal

pub returns : goal.returns
returns c window told mapped =
    let g = c.args.given.now in
    let p : PieceView = c.args.piece.now in
    let job = g.request.now.job in
    let key : List ℕ = slice_range c.in-Some.keys.now c.in-Some.start c.in-Some.end in
    let here : Name = name_in p c.rec_in.result c.place_in.result in
    let n : Name = name_of c.args.bits window c.args.late.low in
    let view = mapped.piece in
    let same : here ≡ n =
    ap (λ (w : PieceView). name_in w c.rec_in.result c.place_in.result) view
    ∙ (ap (λ (r : ℕ). record { split = window.split; rec = window.from + r; place = c.place_in.result }) c.rec_in.ensures
    ∙ ap (λ (q : ℕ). record { split = window.split; rec = window.from + c.args.late.low / 2 ^ c.args.bits; place = q }) c.place_in.ensures) in
    let t : Triple = record { key = key; value = c.in-Some.ensures.value; name = here } in
    let found : named (window_triples job g.kept.now.cut g.kept.now.skips window.split window.from window.end) n ≡ Some t =
    subst (λ (m : Name). named (window_triples job g.kept.now.cut g.kept.now.skips window.split window.from window.end) m ≡ Some t) same
    (ap (λ (w : PieceView). named w.triples here) (sym view) ∙ c.in-Some.ensures.found) in
    let line = c.rest_at.ensures in (
      t,
      (
        window_named job g.kept.now.cut g.kept.now.skips window.split window.from window.end n t mapped.some found,
        ap told_key line.is ∙ told_more c.rest_at.result.now line.more key (c.tells.ensures told),
      ),
    )
