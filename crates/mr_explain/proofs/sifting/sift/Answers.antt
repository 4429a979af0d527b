use Rattle.std.proofs.Common.{map, subst, arith}
use Rattle.mr_explain.specs.Sifting.{kept_lines}
use Rattle.mr_explain.specs.Explained.{IsUnwanted}
use Rattle.mr_explain.specs.Needles.{Lacks}
use Rattle.mr_explain.specs.declared.needle.Needle.{Needle}
use Rattle.mr_explain.proofs.TakingLemmas.{sifting-weaker}
use Rattle.mr_explain.proofs.sifting.sift.Goals as goal

pub returns-clause-sifted : goal.returns-clause-sifted
returns-clause-sifted g c =
    let read = c.in_ok-length.ensures in
    let took = read.took.2 in
    let s = c.take_all.new.sifter in
    record {
      file = took.got;
      consumed = took.consumed;
      end = read.end;
      length_is = omega (arith, read.took.1, took.count);
      within = omega (arith, took.count);
      sifting = sifting-weaker (Lacks s.needle.fold s.needle.literal.now) (IsUnwanted c.args.job.now c.args.wanted) took.got (map kept_lines c.finish.new.self.closed.items)
          (λ line lacks. c.needle_of.ensures line (subst (λ (n : Needle). Lacks n.fold n.literal.now line) read.needle lacks))
          (c.in_ok-finish.ensures.sifted took.got took.taken);
      few = omega (arith, c.in_ok-finish.ensures.few took.taken.few, read.most);
    }
