use Rattle.mr_lanes.proofs.LawLemmas.{line_ends_are_line_feeds, line_ends_rise}
use Rattle.mr_lanes.proofs.lines.line_end_law.Goals as goal

pub returns-clause-places : goal.returns-clause-places
returns-clause-places c = line_ends_are_line_feeds

pub returns-clause-rise : goal.returns-clause-rise
returns-clause-rise c = line_ends_rise
