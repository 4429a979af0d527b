-- Parts of the result that are written in pieces.
use Rattle.std.proofs.Common.{◌≡◌, ◌++◌, [], ℕ, List, ◌∙◌, ap, append-nil, subst, sym}
use Rattle.mr_shard_files.specs.declared.fault.ShardFault.{ShardFault}
use Rattle.mr_shard_files.specs.declared.fault.ShardFault.TheVariants.{CannotWrite, OutOfMemory}
use Rattle.mr_files.specs.Holding.{Agrees}
use Rattle.mr_store.specs.Devices.{Seen}
use Rattle.mr_shard_files.specs.declared.partition.Made.{Made}
use Rattle.mr_shard_files.specs.Made.{HasWritten, ReportsUnwritten}

-- where nothing is late, all of the text is written
pub all_written : {W : Type 0} (seen : W → Seen) (text : List ℕ) (made : Made W) → HasWritten seen text made → made.late.items ≡ [] → Agrees (seen made.writer).contents text
all_written seen text made h none = subst (Agrees (seen made.writer).contents) (sym (h.is ∙ ap (λ (l : List ℕ). h.front ++ l) none ∙ append-nil h.front)) h.contents

-- a part can't be written for what was known of it before
pub unwritten_back : (P Q : Type 0) (m n : List ℕ) (e : ShardFault) → (P → Q) → m ≡ n → ReportsUnwritten P m e → ReportsUnwritten Q n e
unwritten_back P Q m n (CannotWrite told) f s h = (f h.0, h.1 ∙ s)
unwritten_back P Q m n OutOfMemory f s h = tt
unwritten_back P Q m n e f s h = absurd h
