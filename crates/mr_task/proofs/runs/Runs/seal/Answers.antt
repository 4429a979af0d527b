use Rattle.std.proofs.Common.{ℕ, List, [], ◌∷◌, ◌++◌, ap, sym, ◌∙◌, subst}
use Rattle.std.proofs.lemmas.Result.{on_ok_weaker}
use Rattle.mr_bytes.specs.Pairs.{Triple}
use Rattle.mr_merge.specs.Merged.{joined}
use Rattle.mr_partition.specs.Hosts.{partition_by}
use Rattle.mr_spill.specs.Buffer.{Buffered}
use Rattle.mr_spill.specs.Regions.{region}
use Rattle.mr_spill.specs.Sealed.{RunText, SpellsRun}
use Rattle.mr_task.specs.Mapped.{Mapped}
use Rattle.mr_task.specs.Runs.{AreRuns, part_in}
use Rattle.mr_task.proofs.RunLemmas.{joined-one, runs-more}
use Rattle.mr_task.proofs.runs.Runs.seal.Goals as goal

pub returns-clause-taken : goal.returns-clause-taken
returns-clause-taken c =
    let old = c.args.self.now in
    let run : RunText = c.in_ok-run.run' in
    let spelled : SpellsRun run old.split old.sealed.parts (region (part_in old) old.buffer.pairs) =
    subst (λ (n : ℕ). SpellsRun run old.split n (region (λ k. partition_by old.by k n) old.buffer.pairs)) c.parts.ensures c.in_ok-run.ensures.ok in
    on_ok_weaker c.push.result
    (λ is pairs taken.
    let sealed : List (List Triple) = taken.sealed ++ old.buffer.pairs ∷ [] in
    record {
      sealed = sealed;
      each = subst (λ (m : Mapped). AreRuns old.split (λ k. partition_by old.by k m.parts) m.parts sealed m.runs) (sym is)
          (runs-more old.split (part_in old) old.sealed.parts taken.sealed old.buffer.pairs old.sealed.runs run taken.each spelled);
      all = ap (λ (b : Buffered). joined sealed ++ b.pairs) c.in_ok-run.ensures.empty
          ∙ ap (λ (l : List Triple). l ++ []) (joined-one taken.sealed old.buffer.pairs ∙ taken.all);
    })
    c.push.ensures
