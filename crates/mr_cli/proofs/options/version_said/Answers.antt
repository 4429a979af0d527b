use Rattle.std.proofs.Common.{rules}
use Rattle.mr_cli.proofs.options.version_said.Goals as goal

pub returns-in-2 : goal.returns-in-2
returns-in-2 c = (c.unwrap_or.result, search rules, search rules)

pub returns-in_default : goal.returns-in_default
returns-in_default c = (c.unwrap_or.result, search rules, search rules)
