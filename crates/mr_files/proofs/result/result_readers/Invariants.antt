use Rattle.std.proofs.Common.{◌≡◌, ℕ, List, map, get_or}
use Rattle.mr_files.specs.Holding.{AllAgree, Holding}
use Rattle.mr_files.specs.Names.{part_names}
use Rattle.mr_files.proofs.result.result_readers.Given as goal

abbrev pub invariant-loop-part : goal.invariant-loop-part
invariant-loop-part g l = record {
  bytes : (outs : List (List ℕ)) → AllAgree (map (λ r. g.S.Reader.CountedRead.remaining r.reader) l.readers.items) outs → Holding (g.S.Store.holds l.store) (part_names l.dir l.part) outs;
  failed : (p : ℕ) → get_or (map (λ r. r.failed) l.readers.items) p 0 ≡ 0;
}
