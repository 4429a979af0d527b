use Rattle.std.proofs.Common.{◌≡◌, ◌≤◌, ◌^◌, ◌∙◌, ℕ, List, Err, ap, length, subst, sym, arith}
use Rattle.std.proofs.lemmas.List.{length-map}
use Rattle.mr_input.specs.Files.{contents, total_size}
use Rattle.mr_files.specs.Stretches.{AreTaken}
use Rattle.mr_commands.proofs.JudgingInputs.{as_many, few_read, input_fault}
use Rattle.mr_commands.proofs.input.read_input.Goals as goal

pub returns-in-Err-of-clause-refused : goal.returns-in-Err-of-clause-refused
returns-in-Err-of-clause-refused g c =
    let read = c.in-Ok.ensures in
    let of = c.of.ensures in
    input_fault (g.S.Store.holds c.args.store.now) (g.S.Store.unreadable c.args.store.now) c.args.stretch.now c.in-Ok.taken.0.items c.in-Ok.taken.1 c.in-Err-of.fault read.taken read.within
    (λ e. of.too_many.0 (c.in-Err-of.is ∙ ap Err e)) (λ e. of.too_large.0 (c.in-Err-of.is ∙ ap Err e))

pub returns-in-Ok-of-clause-read : goal.returns-in-Ok-of-clause-read
returns-in-Ok-of-clause-read g c =
    let holds = g.S.Store.holds c.args.store.now in
    let s = c.args.stretch.now in
    let files = c.in-Ok.taken.0.items in
    let ends = c.in-Ok.taken.1 in
    let few : length files ≤ 1024 = few_read (length files) (λ more. cc (c.of.ensures.too_many.1 more, c.in-Ok-of.is)) in
    let many : length (contents files) ≡ length files = length-map files (λ f. f.items) in
    record {
      taken = subst (λ (v : List (List ℕ)). AreTaken holds s v ends) (sym c.in-Ok-of.ensures.files) c.in-Ok.ensures.taken;
      few = omega (arith, few, many, as_many holds s (contents files) ends c.in-Ok.ensures.taken);
      small = subst (λ (v : List (List ℕ)). total_size v ≤ 2 ^ 30) (sym c.in-Ok-of.ensures.files) c.in-Ok.ensures.within;
    }
