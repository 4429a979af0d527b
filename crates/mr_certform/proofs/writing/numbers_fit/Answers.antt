use Rattle.std.proofs.Common.{rules, ◌<◌, ◌^◌, subst}
use Rattle.std.specs.List.{AllByRecursion}
use Rattle.mr_certform.proofs.writing.numbers_fit.Goals as goal

pub returns : goal.returns
returns c = rw (← c.flat.view_is) (record {
  job = search rules;
  flags = search rules;
  literal = subst (AllByRecursion (λ b. b < 256)) c.deref.ensures.value c.bytes_fit.ensures;
  split_size = search rules;
  lengths = subst (AllByRecursion (λ n. n < 2 ^ 64)) c.deref-2.ensures.value c.lengths_fit.ensures;
  group_counts = subst (AllByRecursion (λ n. n < 2 ^ 32)) c.deref-3.ensures.value c.counts_fit.ensures;
  entry_counts = subst (AllByRecursion (λ n. n < 2 ^ 32)) c.deref-4.ensures.value c.counts_fit-2.ensures;
})
