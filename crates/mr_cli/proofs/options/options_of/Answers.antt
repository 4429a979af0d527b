use Rattle.std.proofs.Common.{rules}
use Rattle.mr_cli.proofs.options.options_of.Goals as goal

pub returns : goal.returns
returns c = record {
  job = search rules;
  parts = search rules;
  split = search rules;
  max_skips = search rules;
  from = (c.get_one-5.result, search rules, search rules);
  to = search rules;
  keep_case = search rules;
  fold = search rules;
  by_host = search rules;
  field = search rules;
  separator = search rules;
  literal = search rules;
  out = search rules;
  files = search rules;
}
