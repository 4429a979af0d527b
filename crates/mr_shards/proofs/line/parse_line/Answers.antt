use Rattle.std.proofs.Common.{refl, ◌++◌, ◌∷◌, subst}
use Rattle.mr_jobs.specs.JobSpec.{group_text_of}
use Rattle.mr_shards.proofs.LineLemmas.{Lacks-front, begun-same, cut-read, cut-text, told-for, told-still}
use Rattle.mr_bytes.specs.Cut.{Lacks}
use Rattle.mr_shards.proofs.line.parse_line.Goals as goal

pub returns-clause-read : goal.returns-clause-read
returns-clause-read c = λ rest.
    let is = c.in_ok-key.ensures in
    cut-read (group_text_of c.args.job.now) c.in_ok-key.tally (c.args.line.now ++ 10 ∷ rest) c.args.line.now c.in_ok-key.key.now is.0 rest
    (record { first = refl; clear = c.requires; last = is.1 }) is.2

pub returns-clause-kind : goal.returns-clause-kind
returns-clause-kind c = told-for (group_text_of c.args.job.now) c.in_ok-key.tally c.in_ok-key.ensures.0 c.in_ok-key.ensures.2

pub returns-clause-still : goal.returns-clause-still
returns-clause-still c = told-still (group_text_of c.args.job.now) c.in_ok-key.tally c.in_ok-key.ensures.0 c.in_ok-key.ensures.2

pub returns-clause-text : goal.returns-clause-text
returns-clause-text c = λ rest.
    let is = c.in_ok-key.ensures in
    cut-text (group_text_of c.args.job.now) c.in_ok-key.tally (c.args.line.now ++ 10 ∷ rest) c.args.line.now c.in_ok-key.key.now is.0 rest
    (record { first = refl; clear = c.requires; last = is.1 }) is.2

pub returns-in_err-key-clause-none : goal.returns-in_err-key-clause-none
returns-in_err-key-clause-none c = λ _ rest h.
    c.in_err-key.ensures h.key h.tally (h.told, begun-same c.args.job.now (c.args.line.now ++ 10 ∷ rest) c.args.line.now rest h refl c.requires, h.tells)

pub returns-clause-line : goal.returns-clause-line
returns-clause-line c =
    let is = c.in_ok-key.ensures in
    record {
      tally = c.in_ok-key.tally;
      told = is.0;
      clear = Lacks-front 10 c.in_ok-key.key.now (9 ∷ is.0) (subst (Lacks 10) is.1 c.requires);
      tells = is.2;
      values = refl;
    }
