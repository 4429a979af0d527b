use Rattle.std.proofs.Common.{subst, ◌≡◌}
use Rattle.std.specs.Prelude.{Some}
use Rattle.mr_core.specs.Master.{opening, replay}
use Rattle.mr_core.proofs.RunLaws.{replay_run}
use Rattle.mr_book.specs.View.{BookView}
use Rattle.mr_book.proofs.book.Book.shape.Goals as goal

pub returns-clause-replay : goal.returns-clause-replay
returns-clause-replay g c =
    let log = c.self.inside.log in
    subst (λ (v : BookView). replay v.shape v.history ≡ Some v.state) c.self.view_is (replay_run log.core.shape (opening log.core.shape) log.history log.core.state c.core.ensures.run.0)
