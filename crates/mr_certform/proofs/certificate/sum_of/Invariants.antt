use Rattle.std.proofs.Common.{◌≡◌, ◌+◌, drop}
use Rattle.mr_certform.specs.Flat.{total}
use Rattle.mr_certform.proofs.certificate.sum_of.Given as goal

abbrev pub invariant-loop-count : goal.invariant-loop-count
invariant-loop-count l = l.sum + total (drop l.count-index l.counts) ≡ total l.counts
