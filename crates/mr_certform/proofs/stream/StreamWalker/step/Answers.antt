use Rattle.std.proofs.Common.{ℕ, List, ◌-◌, length, drop, ap, sym, ◌∙◌, refl, arith}
use Rattle.mr_certform.specs.Spelling.{standing}
use Rattle.mr_certform.specs.Streaming.{Stream, stream}
use Rattle.mr_certform.proofs.Streams.{told_item, told_none, rest_told, filled_stream}
use Rattle.mr_certform.proofs.stream.StreamWalker.step.Goals as goal

pub returns-in-None-clause-told : goal.returns-in-None-clause-told
returns-in-None-clause-told g c =
    let w = c.args.self.now in
    let v = c.version_here-version.result in
    let s : Stream = stream g.R.CountedRead.remaining w in
    told_none v s (sym c.version_here-version.ensures) (ap (standing v w.place) (sym c.bytes-held.ensures) ∙ c.in-None.ensures.read) (filled_stream s w.exhausted (g.R.CountedRead.remaining w.reader) refl c.requires.filled)

pub returns-in-Some : goal.returns-in-Some
returns-in-Some g c =
    let w = c.args.self.now in
    let v = c.version_here-version.result in
    let s : Stream = stream g.R.CountedRead.remaining w in
    let xs : List ℕ = c.bytes-held.result.now in
    let st = c.in-Some.ensures.read in
    let t = rest_told v w.place c.bytes-held.result.now c.in-Some.rest.now c.in-Some.item st in
    record {
      told = told_item v s _ c.in-Some.item c.in-Some.rest.now (sym c.version_here-version.ensures) (ap (standing v w.place) (sym c.bytes-held.ensures) ∙ st)
          (filled_stream s w.exhausted (g.R.CountedRead.remaining w.reader) refl c.requires.filled)
          refl c.in-Some.ensures.place (c.pass.ensures ∙ (ap (drop (length xs - length c.in-Some.rest.now)) (sym c.bytes-held.ensures) ∙ t.1)) refl (omega (arith, ap length c.bytes-held.ensures));
      device = λ e. cc e;
      place = (c.in-Some.ensures.place, omega (arith, t.2));
      same = (refl, refl);
    }
