use Rattle.std.proofs.Common.{◌≡◌, ℕ, List, length, arith, ap, sym, ◌∙◌, subst, map, Vec, Global}
use Rattle.mr_bytes.specs.declared.RecordName.{RecordName}
use Rattle.mr_input.specs.Files.{contents}
use Rattle.mr_splits.specs.Kept.{Choice}
use Rattle.mr_certform.specs.Flat.{chunks}
use Rattle.mr_splits.specs.Named.{named_records}
use Rattle.mr_sequential.specs.Emitted.{silent_count}
use Rattle.mr_sequential.specs.Certified.{certificate_of}
use Rattle.mr_sequential.specs.Good.{IsGood}
use Rattle.mr_sequential.specs.Sequential.{sequential}
use Rattle.mr_sequential.proofs.CertifiedLaws.{sequential_is_good}
use Rattle.mr_sequential.proofs.sequence.execute.Goals as goal
use Rattle.std.proofs.lemmas.List.{length-map}

pub returns-clause-count : goal.returns-clause-count
returns-clause-count g c = sym (length-map c.in_ok-texts.texts.items (λ (v : Vec ℕ Global). v.items)) ∙ c.in_ok-texts.ensures.outputs.count

pub returns-clause-texts : goal.returns-clause-texts
returns-clause-texts g c = λ p h.
    c.in_ok-texts.ensures.outputs.texts p h ∙ ap (λ (k : Choice). sequential c.args.request.now k.cut.files k.skips p) c.in_ok-kept.ensures.ok

pub returns-clause-certificate : goal.returns-clause-certificate
returns-clause-certificate g c =
    let request = c.args.request.now in
    let files : List (List ℕ) = c.args.plan.now.files in
    let header = c.in_ok-header.ensures in
    let lengths : c.in_ok-header.header.lengths.items ≡ map length files = header.lengths ∙ ap (map (length {A = ℕ})) c.input-2.ensures in
    let groups : chunks c.in_ok-texts.groups.group_counts.items (chunks c.in_ok-texts.groups.entry_counts.items c.in_ok-texts.groups.names)
    ≡ (certificate_of request files c.args.skips.now).groups =
    c.in_ok-texts.ensures.outputs.groups ∙ ap (λ (k : Choice). (certificate_of request k.cut.files k.skips).groups) c.in_ok-kept.ensures.ok in
    c.of.ensures ∙ (λ i. record {
      job = header.job i;
      flags = header.flags i;
      literal = header.literal i;
      parts = c.in_ok-texts.ensures.outputs.parts i;
      split_size = header.split i;
      lengths = lengths i;
      skips = header.skips i;
      groups = groups i;
    })

pub returns-clause-is_good : goal.returns-clause-is_good
returns-clause-is_good g c =
    let request = c.args.request.now in
    let files : List (List ℕ) = c.args.plan.now.files in
    let skips : List RecordName = c.args.skips.now in
    let outs : List (List ℕ) = contents c.in_ok-texts.texts.items in
    subst (IsGood request files outs) (sym (returns-clause-certificate g c))
    (sequential_is_good request files outs skips
    (omega (arith, c.requires.some, c.requires.size))
    (omega (arith, c.parts-parts.ensures.same, c.parts-parts.ensures.within.0))
    c.requires.fault
    c.in_ok-texts.ensures.outputs.count
    (returns-clause-texts g c))

pub returns-clause-silent : goal.returns-clause-silent
returns-clause-silent g c =
    c.in_ok-texts.ensures.silent ∙ ap (λ (k : Choice). silent_count c.args.request.now.job k.cut.size k.cut.files k.skips) c.in_ok-kept.ensures.ok
    ∙ ap (λ (size : ℕ). silent_count c.args.request.now.job size c.args.plan.now.files c.args.skips.now) c.requires.size

pub returns-clause-records : goal.returns-clause-records
returns-clause-records g c =
    c.count.ensures.count ∙ ap (λ (size : ℕ). length (named_records size c.args.plan.now.files)) c.requires.size
