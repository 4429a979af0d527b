use Rattle.std.proofs.Common.{ℕ, List, sym, subst, arith}
use Rattle.std.specs.Prelude.{Ok}
use Rattle.mr_input.specs.Files.{contents}
use Rattle.mr_certform.specs.Grammar.{AreBytes}
use Rattle.mr_certform.specs.Streaming.{stream}
use Rattle.mr_certform.proofs.Streams.{some_given, come_bytes, come_agrees}
use Rattle.mr_certform.specs.declared.grammar_state.GrammarState.TheVariants.{AtMagic}
use Rattle.mr_judge.specs.Kinds.{InKind}
use Rattle.mr_judge.proofs.KindLemmas.{kinds_of}
use Rattle.mr_judge.specs.declared.readers.ByRef.{ByRef}
use Rattle.mr_judge.proofs.JudgeLemmas.{as_many}
use Rattle.mr_verdict.proofs.HeadlineLemmas.{certified}
use Rattle.mr_check.proofs.SectionLemmas.{some_more}
use Rattle.mr_check.proofs.checking.accept_read.Goals as goal

pub accept-requires-clause-given : goal.accept-requires-clause-given
accept-requires-clause-given g c =
    some_given (stream (λ (l : ByRef g.row.C.Denot). g.C.CountedRead.remaining l.reader.now) c.in-Ok.items)

pub accept-requires-clause-front : goal.accept-requires-clause-front
accept-requires-clause-front g c is at there =
    let b = c.in-Ok.ensures.items is at there in
    subst (InKind AtMagic) (sym b.2) (kinds_of b.0)

pub returns : goal.returns
returns g c =
    let o = c.args.computation.now.request.now in
    let files = c.args.computation.now.input.now in
    let outs : List (List ℕ) = contents c.args.outputs.now in
    let known = g.C.CountedRead.remaining c.args.certificate.now in
    some_more c.accept.result _ _
    (λ y j. (let b = c.in-Ok.ensures.items j.0 j.1.0 j.1.1.0 in
    let bytes : AreBytes b.0 = come_bytes known b.0 c.requires.known b.1 in
    let verdict = j.1.1.1.0 b.0 (record { bytes_are = bytes; items_are = b.2; stop_is = b.3 })
    (as_many c.args.outputs.now c.parts.result o.parts c.if-outputs-parts.false c.parts.ensures.same) in
    record {
      bytes = b.0;
      agrees = come_agrees known b.0 b.1;
      are_bytes = bytes;
      verdict = verdict;
      headline = certified o files outs b.0 (Ok y) bytes (omega (arith, c.split_size-size.ensures.same, c.split_size-size.ensures.within.0)) verdict;
    }))
    c.accept.ensures
