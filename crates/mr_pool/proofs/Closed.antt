-- The history of a book that is closed, and what is assembled from it.
use Rattle.std.proofs.Common.{◌≡◌, ℕ, List, Some, ap, sym, ◌∙◌, subst}
use Rattle.mr_certform.specs.Value.{Spells}
use Rattle.mr_core.specs.declared.event.End.{End}
use Rattle.mr_core.specs.declared.event.Event.{Event}
use Rattle.mr_core.specs.declared.event.Reply.{Reply}
use Rattle.mr_core.specs.Master.{Run, opening}
use Rattle.mr_core.specs.Promises.{Promises}
use Rattle.mr_task.specs.Laid.{Laid}
use Rattle.mr_task.specs.Values.{Reduced}
use Rattle.mr_jobs.specs.JobSpec.{RequestSpec}
use Rattle.mr_book.specs.Assembled.{assembled_certificate, assembled_outputs}
use Rattle.mr_book.specs.Assembling.{reduced_under}
use Rattle.mr_book.specs.View.{BookView, IsKept, StoresAccepted}
use Rattle.mr_book.specs.declared.book.History.{History}
use Rattle.mr_pool.specs.Outcomes.{IsHistory, IsDoneRun}

pub is_history : (b : BookView) (h : History) → h.shape ≡ b.shape → h.entries.items ≡ b.history → h.maps.items ≡ b.maps → h.reduces.items ≡ b.reduces
    → IsKept b → Promises b.shape b.history b.state → IsHistory b.shape h b.state
is_history b h shape entries maps reduces kept promises = record {
  shape = shape;
  run = subst (λ (e : List (Event × Reply)). Run b.shape (opening b.shape) e b.state) (sym entries) kept.run;
  promises = subst (λ (e : List (Event × Reply)). Promises b.shape e b.state) (sym entries) promises;
  stored =
      subst (λ (e : List (Event × Reply)). StoresAccepted e h.maps.items h.reduces.items) (sym entries)
      (subst (λ (m : List (ℕ × Laid)). StoresAccepted b.history m h.reduces.items) (sym maps)
      (subst (λ (r : List (ℕ × Reduced)). StoresAccepted b.history b.maps r) (sym reduces) kept.stored));
}

pub done_run : (request : RequestSpec) (files outputs : List (List ℕ)) (bytes : List ℕ) (b : BookView) (h : History) → IsHistory b.shape h b.state → h.reduces.items ≡ b.reduces → b.state.end ≡ Some End.Done
    → outputs ≡ assembled_outputs (reduced_under b.reduces) b.state → Spells bytes (assembled_certificate request files (reduced_under b.reduces) b.state) → IsDoneRun request files b.shape h outputs bytes
done_run request files outputs bytes b h history reduces ends made spelled = record {
  state = b.state;
  history = history;
  ends = ends;
  outputs_are = made ∙ ap (λ (r : List (ℕ × Reduced)). assembled_outputs (reduced_under r) b.state) (sym reduces);
  certificate_is = subst (λ (r : List (ℕ × Reduced)). Spells bytes (assembled_certificate request files (reduced_under r) b.state)) (sym reduces) spelled;
}
