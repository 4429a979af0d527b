use Rattle.std.proofs.Common.{refl}
use Rattle.mr_certform.specs.declared.grammar_state.GrammarState.TheVariants.{AtMagic}
use Rattle.mr_certform.specs.declared.version.Version.TheVariants.{V1}
use Rattle.mr_certform.specs.Streaming.{Stream}
use Rattle.mr_certform.proofs.Streams.{begun}
use Rattle.mr_certform.proofs.stream.StreamWalker.new.Goals as goal

pub returns-clause-items : goal.returns-clause-items
returns-clause-items g c =
    let s : Stream = record { version = V1; place = AtMagic; passed = 0; held = c.in_ok-held.held; coming = g.R.CountedRead.remaining c.args.reader } in
    begun s (g.R.CountedRead.remaining c.args.reader) refl refl c.in_ok-held.ensures refl
