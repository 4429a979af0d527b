use Rattle.std.proofs.Common.{◌≡◌, ℕ, List, ◌++◌, map, sym, ◌∙◌, ap, subst}
use Rattle.std.proofs.lemmas.Result.{on_ok_weaker}
use Rattle.mr_explain.specs.Sifting.{IsSifting, KeptLines, kept_lines}
use Rattle.mr_explain.specs.Needles.{Lacks}
use Rattle.mr_explain.specs.Taking.{closing}
use Rattle.mr_explain.proofs.TakingLemmas.{last-dropped, last-kept}
use Rattle.mr_explain.proofs.sifting.Sifter.finish.Goals as goal

pub returns-then-can_drop-clause-sifted : goal.returns-then-can_drop-clause-sifted
returns-then-can_drop-clause-sifted c =
    let s = c.args.self.now in
    let so : List ℕ → Type 0 = Lacks s.needle.fold s.needle.literal.now in
    let new : List KeptLines = map kept_lines c.close.new.self.closed.items in
    let closed : List KeptLines = map kept_lines s.closed.items in
    on_ok_weaker c.close.result
    (λ (shut : new ≡ closed ++ closing (kept_lines s.current)) file h.
    subst (IsSifting so file) (sym shut)
    (last-dropped so file closed s.current.bytes.items s.current.lines_before s.current.bytes_before s.rest.items (c.can_drop.ensures.record c.if-can_drop.true) h.taken))
    c.close.ensures.closed

pub returns-clause-sifted : goal.returns-clause-sifted
returns-clause-sifted c =
    let s = c.args.self.now in
    let so : List ℕ → Type 0 = Lacks s.needle.fold s.needle.literal.now in
    let new : List KeptLines = map kept_lines c.close-2.new.self.closed.items in
    let closed : List KeptLines = map kept_lines s.closed.items in
    let with_rest : List ℕ → KeptLines = λ (bytes : List ℕ). record { bytes = bytes; lines_before = s.current.lines_before; bytes_before = s.current.bytes_before } in
    on_ok_weaker c.close-2.result
    (λ (shut : new ≡ closed ++ closing (with_rest c.append.new.to.items)) file h.
    subst (IsSifting so file) (sym (shut ∙ ap (λ (l : List ℕ). closed ++ closing (with_rest l)) c.in_ok-append.ensures.moved))
    (last-kept so file closed s.current.bytes.items s.current.lines_before s.current.bytes_before s.rest.items h.taken))
    c.close-2.ensures.closed
