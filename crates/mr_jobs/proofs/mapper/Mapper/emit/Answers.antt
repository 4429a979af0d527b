use Rattle.std.proofs.Common.{◌≡◌, ◌+◌, ◌∙◌, ℕ, List, length, ap, ap₂, sym, subst, refl, inl, inr}
use Rattle.std.specs.Prelude.{slice_range}
use Rattle.mr_bytes.specs.declared.Value.{Value}
use Rattle.mr_input.specs.Files.{nth_file}
use Rattle.mr_jobs.specs.Emissions.{emissions, words_from}
use Rattle.mr_jobs.specs.JobSpec.{JobSpec, ReadsWords}
use Rattle.mr_jobs.specs.Pieces.{read_as}
use Rattle.mr_jobs.specs.Hits.{Source}
use Rattle.mr_jobs.specs.Views.{spec_of}
use Rattle.mr_jobs.proofs.EmitLemmas.{reads-emitted}
use Rattle.mr_jobs.proofs.mapper.Mapper.emit.Goals as goal

pub returns-in-Words : goal.returns-in-Words
returns-in-Words c =
    let m = c.self.inside in
    let job : JobSpec = m.job.now in
    let file : ℕ = c.args.file in
    let start : ℕ = c.args.start in
    let line : List ℕ = c.args.line.now in
    let value : Value = c.value_at.result in
    let source : record { job = m.job.now; files = m.input.now } ≡ c.args.self.now = c.self.view_is in
    let bytes : slice_range c.file-text.result.now start (start + length line) ≡ line =
    ap (λ (text : List ℕ). slice_range text start (start + length line)) (c.file-text.ensures.bytes ∙ ap (λ (s : Source). nth_file s.files file) source) ∙ c.requires.line.bytes in
    let kind_reads : ReadsWords (spec_of c.job.inside.kind) =
    elim c.in-Words.is [
      | inl words ↦ subst (λ kind. ReadsWords (spec_of kind)) (sym words.1) tt
      | inr index ↦ subst (λ kind. ReadsWords (spec_of kind)) (sym index.1) tt
    ] in
    let reads : ReadsWords job = subst ReadsWords c.job.view_is kind_reads in (
      (refl, λ _. tt, c.self.view_is),
      record {
        same = tt;
        only = tt;
        emissions = c.emit.ensures
            ∙ c.in_ok-ready-in-Words.ensures.line value
            ∙ ap₂ (λ v l. words_from v l 0) c.value_at.ensures (ap₂ read_as c.self.invariant.folds bytes)
            ∙ reads-emitted job file start line reads
            ∙ ap (λ (s : Source). emissions s.job file start line) source;
      },
    )
