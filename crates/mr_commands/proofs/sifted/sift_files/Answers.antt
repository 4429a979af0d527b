use Rattle.std.proofs.Common.{◌+◌, ◌-◌, ◌≤◌, true, length, ◌/◌, ◌∙◌, ℕ, List, [], Bor, ap, get_or, map, refl, subst, sym, arith}
use Rattle.std.proofs.lemmas.List.{length-map, take_all}
use Rattle.mr_jobs.specs.JobSpec.{JobSpec}
use Rattle.mr_files.proofs.StretchLemmas.{name_at, number_below}
use Rattle.mr_explain.specs.Explained.{IsUnwanted}
use Rattle.mr_commands.specs.Inputs.{IsInputRefusal}
use Rattle.mr_commands.specs.Sifted.{HasSifted, IsSiftedFile, whole_stretch, wholes}
use Rattle.mr_commands.proofs.JudgingInputs.{unread_file}
use Rattle.mr_commands.proofs.SiftedLemmas.{many_sifted, next_sifted, none_sifted, read_sifted, unsifted}
use Rattle.mr_commands.proofs.sifted.sift_files.Goals as goal

pub loop-file-init : goal.loop-file-init
loop-file-init g c = record {
  sifted = none_sifted (g.S.Store.holds c.args.store.now) (IsUnwanted c.args.request.now.job c.args.wanted) c.args.request.now.split c.most_of_each-most.result _ c.new.ensures.items c.new-2.ensures.items c.new-3.ensures.items refl refl;
  small = omega arith;
}

pub returns-in-Err-clause-refused : goal.returns-in-Err-clause-refused
returns-in-Err-clause-refused g c =
    let holds = g.S.Store.holds c.args.store.now in
    let unreadable = g.S.Store.unreadable c.args.store.now in
    let i = c.loop-file.file in
    let xs = c.args.names.now in
    let names : List (List ℕ) = map (λ s. s.now) xs in
    let less = c.loop-file-test.true in
    let known = g.S.Store.known_as c.args.store.now in
    subst (IsInputRefusal holds unreadable known (whole_stretch names) names [] c.args.request.now.split) (sym c.fault_of.ensures)
    (unread_file holds unreadable known (whole_stretch names) names [] c.args.request.now.split i c.in-Err.fault
    (unsifted holds (IsUnwanted c.args.request.now.job c.args.wanted) c.args.request.now.split c.most_of_each-most.result unreadable names i _ c.loop-file.files c.in-Err.fault
    (number_below (λ s. s.now) xs names i refl less) (name_at (λ s. s.now) xs names i _ refl less) c.loop-file.invariant.sifted c.in-Err.ensures.refused))

pub loop-file-preserved : goal.loop-file-preserved
loop-file-preserved g c =
    let holds = g.S.Store.holds c.args.store.now in
    let request = c.args.request.now in
    let i = c.loop-file.file in
    let xs = c.args.names.now in
    let names : List (List ℕ) = map (λ s. s.now) xs in
    let less = c.loop-file-test.true in
    let no_name : Bor (List ℕ) = record { ref_ptr = (0, 0); now = [] } in
    let added = c.in_ok-add-in-Ok.ensures in
    record {
      sifted = next_sifted holds (IsUnwanted request.job c.args.wanted) request.split c.most_of_each-most.result names i (get_or xs i no_name).now c.loop-file.files c.add.new.self c.in-Ok.sifted
          (number_below (λ s. s.now) xs names i refl less) (name_at (λ s. s.now) xs names i no_name refl less) c.loop-file.invariant.sifted
          (subst (λ (job : JobSpec). IsSiftedFile holds (get_or xs i no_name).now (IsUnwanted job c.args.wanted) c.loop-file.files.left c.most_of_each-most.result c.in-Ok.sifted) c.job.ensures.same c.in-Ok.ensures.sifted)
          added.sources added.excerpts added.lengths added.left (added.splits ∙ ap (λ (n : ℕ). c.loop-file.files.splits + (c.in-Ok.sifted.length + n - 1) / n) c.split_size.ensures.same);
      small = added.small;
    }

pub returns-then-names-gt-MAX_FILES-clause-refused : goal.returns-then-names-gt-MAX_FILES-clause-refused
returns-then-names-gt-MAX_FILES-clause-refused g c =
    let request = c.args.request.now in
    let xs = c.args.names.now in
    let names : List (List ℕ) = map (λ s. s.now) xs in
    let all = take_all c.loop-file.file names (omega (arith, c.loop-file-test.false, length-map xs (λ s. s.now))) in
    let h = subst (λ (ns : List (List ℕ)). HasSifted (g.S.Store.holds c.args.store.now) (IsUnwanted request.job c.args.wanted) request.split c.most_of_each-most.result ns c.loop-file.files) all c.loop-file.invariant.sifted in
    many_sifted (g.S.Store.holds c.args.store.now) (IsUnwanted request.job c.args.wanted) request.split c.most_of_each-most.result (g.S.Store.unreadable c.args.store.now) names c.loop-file.files
    h (omega (arith, c.if-names-gt-MAX_FILES.true, length-map xs (λ s. s.now)))

pub returns-then-files-clause-refused : goal.returns-then-files-clause-refused
returns-then-files-clause-refused g c =
    let request = c.args.request.now in
    let xs = c.args.names.now in
    let names : List (List ℕ) = map (λ s. s.now) xs in
    let all = take_all c.loop-file.file names (omega (arith, c.loop-file-test.false, length-map xs (λ s. s.now))) in
    let h = subst (λ (ns : List (List ℕ)). HasSifted (g.S.Store.holds c.args.store.now) (IsUnwanted request.job c.args.wanted) request.split c.most_of_each-most.result ns c.loop-file.files) all c.loop-file.invariant.sifted in
    let few : length names ≤ 1024 = omega (arith, c.if-names-gt-MAX_FILES.false, length-map xs (λ s. s.now)) in
    let read = read_sifted (g.S.Store.holds c.args.store.now) (IsUnwanted request.job c.args.wanted) request.split c.most_of_each-most.result names c.loop-file.files few h in
    (wholes h.files, true, read, tt, omega (arith, h.splits, c.if-files.true))

pub returns-clause-sifted : goal.returns-clause-sifted
returns-clause-sifted g c =
    let request = c.args.request.now in
    let xs = c.args.names.now in
    let names : List (List ℕ) = map (λ s. s.now) xs in
    let all = take_all c.loop-file.file names (omega (arith, c.loop-file-test.false, length-map xs (λ s. s.now))) in
    let h = subst (λ (ns : List (List ℕ)). HasSifted (g.S.Store.holds c.args.store.now) (IsUnwanted request.job c.args.wanted) request.split c.most_of_each-most.result ns c.loop-file.files) all c.loop-file.invariant.sifted in
    (c.most_of_each-most.result, c.most_of_each-most.ensures.few (omega (arith, c.if-names-gt-MAX_FILES.false)), h)
