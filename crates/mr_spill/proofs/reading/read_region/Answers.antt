use Rattle.std.proofs.Common.{List, sym, subst}
use Rattle.mr_bytes.specs.Pairs.{Triple}
use Rattle.mr_spill.proofs.CursorLemmas.{AreKept, kept-again, kept-more, kept-start}
use Rattle.mr_spill.proofs.reading.read_region.Goals as goal

pub loop-pair-init : goal.loop-pair-init
loop-pair-init c =
    subst (λ (ts : List Triple). AreKept c.args.bytes.now c.args.split c.args.partition ts c.in-Some.cursor) (sym c.new-pairs.ensures)
    (kept-start c.args.bytes.now c.args.split c.args.partition c.in-Some.cursor c.in-Some.ensures)

pub loop-pair-preserved : goal.loop-pair-preserved
loop-pair-preserved c =
    kept-more c.args.bytes.now c.args.split c.args.partition c.loop-pair.pairs c.take.new.self c.loop-pair.cursor c.next.new.self c.in-Some-next.pair
    c.loop-pair.invariant c.in-Some-next.ensures.none c.in-Some-next.ensures.last c.in_ok-take.ensures.pair c.in_ok-take.ensures.last

pub take-requires : goal.take-requires
take-requires c = λ again.
    kept-again c.loop-pair.cursor.last c.in-Some-next.pair.key.now c.loop-pair.pairs (c.in-Some-next.ensures.again again) c.loop-pair.invariant.key
