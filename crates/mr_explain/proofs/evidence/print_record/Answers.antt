use Rattle.std.proofs.Common.{◌≡◌, ℕ, List, [], ◌∷◌, ◌++◌, ap, ◌∙◌}
use Rattle.mr_store.specs.Devices.{Seen, with_bytes}
use Rattle.mr_input.specs.Files.{nth_file}
use Rattle.mr_explain.specs.Explained.{feeds_before, head_of, nth_source}
use Rattle.mr_explain.proofs.WrittenLemmas.{written}
use Rattle.mr_explain.proofs.evidence.print_record.Goals as goal

pub returns-clause-put : goal.returns-clause-put
returns-clause-put g c =
    let seen = g.W.CountedWrite.seen in
    let w0 : Seen = seen c.args.writer.now in
    let w1 : Seen = seen c.write_all.new.writer in
    let w2 : Seen = seen c.put_head.new.writer in
    let w3 : Seen = seen c.write_all-2.new.writer in
    let w4 : Seen = seen c.write_all-3.new.writer in
    let line = c.args.line in
    let query = c.args.query.now in
    let prefix : List ℕ = c.args.prefix.now in
    let head : List ℕ = head_of (nth_source query.sources.now line.file) (feeds_before (nth_file query.plan.now.files line.file) line.start) line.start in
    let feeds : c.before-feeds.result ≡ feeds_before (nth_file query.plan.now.files line.file) line.start =
    c.before-feeds.ensures.feeds ∙ ap (λ (files : List (List ℕ)). feeds_before (nth_file files line.file) line.start) c.input.ensures in
    let front : w2 ≡ with_bytes w1 head =
    c.in_ok-put_head.ensures.put ∙ ap (λ (n : ℕ). with_bytes w1 (head_of (nth_source query.sources.now line.file) n line.start)) feeds in
    written w0 w1 w4 prefix (head ++ line.bytes.now ++ 10 ∷ []) c.in_ok-write_all.ensures.whole
    (written w1 w3 w4 (head ++ line.bytes.now) (10 ∷ []) (written w1 w2 w3 head line.bytes.now front c.in_ok-write_all-2.ensures.whole) c.in_ok-write_all-3.ensures.whole)
