use Rattle.std.proofs.Common.{◌≡◌, ℕ, ◌+◌, List, ◌++◌, map, take, sym, ◌∙◌, ap, subst, append_assoc}
use Rattle.std.proofs.lemmas.List.{take-append-drop}
use Rattle.mr_explain.specs.Sifting.{KeptLines, kept_lines}
use Rattle.mr_explain.specs.Needles.{Lacks}
use Rattle.mr_explain.specs.Taking.{IsTaken}
use Rattle.mr_explain.proofs.TakingLemmas.{taken-more}
use Rattle.mr_explain.proofs.sifting.Sifter.take.Goals as goal

pub returns-clause-taken : goal.returns-clause-taken
returns-clause-taken c before h =
    let s = c.take_lines.new.self in
    let so : List ℕ → Type 0 = Lacks s.needle.fold s.needle.literal.now in
    let closed : List KeptLines = map kept_lines s.closed.items in
    let lines : List ℕ = c.split_at.result.0.now in
    let unfinished : List ℕ = c.split_at.result.1.now in
    let t = c.in_ok-take_lines.ensures.taken before h in
    let read_is : (before ++ lines) ++ unfinished ≡ before ++ c.args.read.now =
    append_assoc before lines unfinished
    ∙ ap (λ (l : List ℕ). before ++ l)
    (ap (λ (l : List ℕ). l ++ unfinished) c.split_at.ensures.front ∙ ap (λ (l : List ℕ). take (c.in-Some.last + 1) c.args.read.now ++ l) c.split_at.ensures.back
    ∙ take-append-drop (c.in-Some.last + 1) c.args.read.now) in
    record {
      taken = subst (λ (l : List ℕ). IsTaken so (before ++ c.args.read.now) closed (kept_lines s.current) l) (sym c.in_ok-extend_from_slice-2.ensures.items)
          (subst (λ (l : List ℕ). IsTaken so l closed (kept_lines s.current) (s.rest.items ++ unfinished)) read_is
          (taken-more so (before ++ lines) closed (kept_lines s.current) s.rest.items unfinished t.taken));
      few = t.few;
    }
