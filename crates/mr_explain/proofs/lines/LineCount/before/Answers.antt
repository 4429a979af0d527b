use Rattle.std.proofs.Common.{◌≡◌, ◌≤◌, ℕ, List, ◌==◌, count_by, ap, arith, rules, ◌∙◌, slice_range}
use Rattle.mr_input.specs.Files.{nth_file}
use Rattle.mr_explain.specs.Explained.{feeds_before}
use Rattle.mr_explain.proofs.CountLemmas.{feeds-more}
use Rattle.mr_explain.proofs.lines.LineCount.before.Goals as goal
use Rattle.mr_explain.proofs.lines.LineCount.before.Goals.{then-self-file, else-self-file+else-place-self}

counted-so : goal.returns-clause-feeds
counted-so c =
    let files = c.args.input.now in
    let bytes : List ℕ = nth_file files c.args.file in
    let known : (c.if-self-file.self.at ≤ c.args.place) × (c.if-self-file.self.feeds ≡ feeds_before bytes c.if-self-file.self.at) =
    elim c.if-self-file.branch [
      | then-self-file w ↦ rw w.self-is (omega arith, search rules)
      | else-self-file+else-place-self w ↦
          rw w.self-is (w.if-place-self.false, c.requires.counted.feeds ∙ ap (λ (f : ℕ). feeds_before (nth_file files f) c.args.self.now.at) w.if-self-file.false)
    ] in
    feeds-more bytes c.if-self-file.self.at c.args.place c.if-self-file.self.feeds c.line_feeds.result known.0 known.1
    (c.line_feeds.ensures ∙ ap (λ (l : List ℕ). count_by (λ b. b == 10) (slice_range l c.if-self-file.self.at c.args.place)) c.file-bytes.ensures.bytes)

pub returns-clause-counted : goal.returns-clause-counted
returns-clause-counted c = record { within = c.requires.within; feeds = counted-so c }

pub returns-clause-feeds : goal.returns-clause-feeds
returns-clause-feeds c = counted-so c
