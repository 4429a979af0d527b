use Rattle.std.proofs.Common.{ap, sym, ◌∙◌, List, length}
use Rattle.std.specs.List.{flat_map}
use Rattle.mr_splits.specs.Named.{NamedRecord, of_split}
use Rattle.mr_splits.specs.Cut.{Cut, records_of}
use Rattle.mr_sequential.specs.Emitted.{record_triples}
use Rattle.mr_index.proofs.GrowLemmas.{slice-all}
use Rattle.mr_index.proofs.JoinLemmas.{in-split}
use Rattle.mr_index.proofs.part.map_split.Goals as goal

pub returns-clause-part : goal.returns-clause-part
returns-clause-part g c =
    let gives = record_triples c.args.mapping.now.mapper.job c.args.kept.now.skips in
    let rs : List NamedRecord = records_of c.args.kept.now.cut in
    c.in_ok-tables.ensures.shows.triples
    ∙ (ap (flat_map gives)
    (slice-all (of_split c.args.split rs) c.records_in.result (c.records_in.ensures ∙ ap (λ (v : Cut). length (of_split c.args.split (records_of v))) c.plan.ensures))
    ∙ sym (in-split c.args.mapping.now.mapper.job c.args.kept.now.skips c.args.split rs))
