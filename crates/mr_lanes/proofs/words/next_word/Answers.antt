use Rattle.std.proofs.Common.{ℕ, List, ap, ◌∙◌, arith}
use Rattle.std.proofs.lemmas.Simd.{get_or-chunk}
use lib.Count.{count_trailing_zeros}
use Rattle.mr_bytes.specs.Bytes.{is_word_byte}
use Rattle.mr_lanes.proofs.NextLemmas.{IsRun, behind_runs, run_of, first_word}
use Rattle.mr_lanes.proofs.words.next_word.Goals as goal

pub overflow_add-result : goal.overflow_add-result
overflow_add-result c =
    let word : ℕ = c.few_word_bytes-word.result in
    let run : IsRun word (count_trailing_zeros 64 word) (count_trailing_zeros 64 (behind_runs word)) = run_of word c.few_word_bytes-word.type_inv (omega arith) in
    omega (arith, run.some, c.if-end-ge16.false, c.if-bytes-from-lt16.false, c.requires.fits)

pub returns : goal.returns
returns c =
    let bytes : List ℕ = c.args.bytes.now in
    let from : ℕ = c.args.from in
    let word : ℕ = c.few_word_bytes-word.result in
    let start : ℕ = count_trailing_zeros 64 word in
    let end : ℕ = count_trailing_zeros 64 (behind_runs word) in
    let run : IsRun word start end = run_of word c.few_word_bytes-word.type_inv (omega arith) in (
      omega arith,
      omega (arith, run.some),
      omega (arith, c.if-end-ge16.false, c.if-bytes-from-lt16.false),
      first_word bytes from start end word
          (λ i h. c.few_word_bytes-word.ensures i h ∙ ap is_word_byte (get_or-chunk from 16 bytes i 0 h))
          (omega (arith, c.if-bytes-from-lt16.false, c.requires.start)) (omega (arith, c.if-end-ge16.false)) run,
    )
