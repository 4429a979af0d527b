use Rattle.std.proofs.Common.{sym, subst, ◌∙◌}
use Rattle.mr_input.specs.Files.{contents}
use Rattle.mr_files.specs.Holding.{Holding}
use Rattle.mr_files.specs.Names.{part_names}
use Rattle.mr_commands.proofs.Streamed.{accepted_answers}
use Rattle.mr_commands.proofs.accepting.accept_files.Goals as goal

pub returns : goal.returns
returns g c =
    let holds = g.S.Store.holds c.args.store.now in
    let job = c.args.job.now in
    let options = job.asked.now.options in
    accepted_answers holds job (contents c.as_slice-outputs.result.now) (g.S.Reader.CountedRead.remaining c.in-Ok-reader.certificate) c.accept_read.result
    (subst (λ v. Holding holds (part_names options.out.now options.parts) (contents v)) (sym c.as_slice-outputs.ensures.value) c.in_ok-outputs.ensures)
    (λ b a. subst (λ n. holds n b) (c.as_str.ensures.value ∙ c.in-Ok.ensures) (c.in-Ok-reader.ensures.bytes b a))
    c.accept_read.ensures
