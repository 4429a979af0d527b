use Rattle.std.proofs.Common.{◌<◌, All, List, length, ap, ◌∙◌, sym, subst, arith}
use Rattle.std.proofs.lemmas.Result.{err_from_is_err_and}
use Rattle.mr_merge.specs.Merged.{Group, NamesDiffer, merged}
use Rattle.mr_merge.proofs.TakingLemmas.{spelled-sound}
use Rattle.mr_reduce.specs.Text.{text_of}
use Rattle.mr_task.specs.Values.{reduced}
use Rattle.mr_task.proofs.OutputLemmas.{groups-count, groups-few, pairs-of}
use Rattle.mr_task.proofs.reduce.reduce_pairs.Goals as goal

pub returns-in_err-limit-clause-damaged : goal.returns-in_err-limit-clause-damaged
returns-in_err-limit-clause-damaged c = λ regions h.
    let p = err_from_is_err_and c.from_residual.result c.from_residual.ensures.1 in
    rw p.1 (λ e can. omega (arith, c.in_err-limit.ensures.many.1, c.len.ensures, ap length (pairs-of regions c.args.pairs h can), can.few))

pub returns-in_err-groups-clause-damaged : goal.returns-in_err-groups-clause-damaged
returns-in_err-groups-clause-damaged c = λ regions h.
    let p = err_from_is_err_and c.from_residual-in_err-groups.result c.from_residual-in_err-groups.ensures.1 in
    rw p.1 (λ e can. c.in_err-groups.ensures.damaged (p.2.0 e) (subst NamesDiffer (sym (pairs-of regions c.args.pairs h can)) can.sound.names_differ))

pub of-requires-clause-few : goal.of-requires-clause-few
of-requires-clause-few c =
    subst (λ (gs : List Group). All (λ (g : Group). length g.pairs < 4294967296) gs) (sym c.in_ok-groups.ensures.groups)
    (groups-few c.args.pairs.pairs 4294967296 (omega (arith, c.in_ok-limit.ensures.few, c.len.ensures)))

pub of-requires-clause-count : goal.of-requires-clause-count
of-requires-clause-count c =
    subst (λ (gs : List Group). length gs < 4294967296) (sym c.in_ok-groups.ensures.groups)
    (omega (arith, c.in_ok-limit.ensures.few, c.len.ensures, groups-count c.args.pairs.pairs))

pub returns-clause-reduced : goal.returns-clause-reduced
returns-clause-reduced c = λ regions h. record {
  can = record {
    values = h.values;
    spelled = h.spelled;
    sound = spelled-sound c.args.pairs.partition regions h.values h.spelled (subst NamesDiffer h.is c.in_ok-groups.ensures.differ);
    few = omega (arith, c.in_ok-limit.ensures.few, c.len.ensures, ap length h.is);
  };
  is = c.in_ok-of.ensures ∙ ap (reduced (text_of c.args.job.now)) (c.in_ok-groups.ensures.groups ∙ ap merged h.is);
}
