use Rattle.std.proofs.Common.{List, subst}
use Rattle.mr_bytes.specs.Pairs.{Triple}
use Rattle.mr_task.specs.Mapped.{IsMapped}
use Rattle.mr_task.specs.Tasks.{IsPieceOf, MapState, between}
use Rattle.mr_task.proofs.RunLemmas.{written}
use Rattle.mr_task.proofs.map.MapTask.next_piece.Goals as goal

pub returns-clause-piece : goal.returns-clause-piece
returns-clause-piece g c =
    let old = c.self.inside in
    let given : List Triple = between old.records.plan.now old.records.job.now old.runs.split old.records.left_out.items old.next c.in_ok-next.next in
    subst (λ (t : MapState). IsPieceOf t c.in_ok-next.next c.in_ok-piece.piece) c.self.view_is
    (written (λ part n. IsMapped part n given c.in_ok-piece.piece) c.take_records.new.runs old.runs.by old.runs.sealed.parts
    c.in_ok-next.ensures.alike.by c.in_ok-next.ensures.alike.parts (c.in_ok-piece.ensures.all given c.in_ok-next.ensures.taken))
