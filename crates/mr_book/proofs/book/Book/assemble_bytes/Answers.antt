use Rattle.std.proofs.Common.{◌≡◌, ℕ, ◌≤◌, List, length, ap, sym, ◌∙◌, subst, arith}
use Rattle.std.proofs.lemmas.List.{length-map}
use Rattle.mr_input.specs.Files.{contents}
use Rattle.mr_certform.specs.Value.{SpellsIn}
use Rattle.mr_certform.specs.declared.version.Version.{Version}
use Rattle.mr_sequential.specs.Good.{IsGoodResult}
use Rattle.mr_core.specs.Core.{CoreView, InLimits}
use Rattle.mr_book.specs.Assembled.{assembled_certificate, assembled_outputs, records_from}
use Rattle.mr_book.proofs.Done.{done_is_a_good_result, done_sets_are_fixed}
use Rattle.mr_book.specs.Assembling.{committed_groups, reduced_under, sets_of}
use Rattle.mr_book.proofs.Assemblies.{few_left_out}
use Rattle.mr_book.proofs.Faithful.{is_done}
use Rattle.mr_book.proofs.book.Book.assemble_bytes.Goals as goal

pub spelled-requires-clause-files : goal.spelled-requires-clause-files
spelled-requires-clause-files g c = omega (arith, ap length c.in_ok-header.ensures.lengths, length-map c.args.input.now (λ (f : List ℕ). length f), c.files-files.ensures.count, c.files-files.ensures.few)

pub spelled-requires-clause-skips : goal.spelled-requires-clause-skips
spelled-requires-clause-skips g c =
    let b = c.args.self.now in
    let k = c.core.result.now in
    let few = few_left_out k.shape b.history k.state c.core.ensures.run.1.skips c.limits-limits.ensures.within.skips in
    omega (arith, few, ap length c.in_ok-header.ensures.skips, ap length c.as_slice.ensures.value, ap length c.in_ok-skips.ensures, ap (λ (v : CoreView). length (records_from 0 (sets_of v.state))) c.core.ensures.core)

pub returns-clause-certificate : goal.returns-clause-certificate
returns-clause-certificate g c =
    let b = c.args.self.now in
    let limits : InLimits b.shape = subst (λ (v : CoreView). InLimits v.shape) c.core.ensures.core c.limits-limits.ensures.within in
    let skips = c.in_ok-header.ensures.skips ∙ c.as_slice.ensures.value ∙ c.in_ok-skips.ensures ∙ sym (done_sets_are_fixed b.shape b.history b.state limits.parts.0 limits.attempts.0 c.shape-shape.ensures.kept.run c.requires.done) in
    record {
      version = c.version_for.result;
      is = subst (SpellsIn c.version_for.result c.in_ok-certificate.certificate.items) (λ i. record {
        job = c.in_ok-header.ensures.job i;
        flags = c.in_ok-header.ensures.flags i;
        literal = c.in_ok-header.ensures.literal i;
        parts = c.requires.opened.parts i;
        split_size = c.in_ok-header.ensures.split i;
        lengths = c.in_ok-header.ensures.lengths i;
        skips = skips i;
        groups = committed_groups b.reduces b.state;
      })
          c.in_ok-certificate.ensures;
    }

pub returns-clause-version : goal.returns-clause-version
unfolding returns-clause-certificate
returns-clause-version g c = λ can.
    let b = c.args.self.now in
    subst (λ (v : Version). SpellsIn v c.in_ok-certificate.certificate.items (assembled_certificate c.args.request.now c.args.input.now (reduced_under b.reduces) b.state))
    (c.version_for.ensures.asked can) (returns-clause-certificate g c).is

pub returns-clause-good : goal.returns-clause-good
returns-clause-good g c = λ faithful.
    let b = c.args.self.now in
    let request = c.args.request.now in
    let files = c.args.input.now in
    let bytes = c.in_ok-certificate.certificate.items in
    let limits : InLimits b.shape = subst (λ (v : CoreView). InLimits v.shape) c.core.ensures.core c.limits-limits.ensures.within in
    let split : 1 ≤ request.split = omega (arith, c.split_size-size.ensures.within.0, c.split_size-size.ensures.same) in
    let done = is_done request files b split limits c.requires.opened c.shape-shape.ensures.kept c.requires.done faithful in
    let outputs : contents c.in_ok-texts.texts.items ≡ assembled_outputs (reduced_under b.reduces) b.state = c.in_ok-texts.ensures in
    subst (λ outs. IsGoodResult request files outs bytes) (sym outputs)
    (done_is_a_good_result request files b.shape b.history b.state (reduced_under b.reduces) done bytes (returns-clause-certificate g c))
