use Rattle.std.proofs.Common.{◌≡◌, ◌-◌, ◌∙◌, ◌∷◌, [], ℕ, List, length, ap, sym, arith}
use Rattle.std.proofs.lemmas.List.{take_all}
use Rattle.mr_bytes.specs.Words.{span_bytes}
use Rattle.mr_jobs.specs.Emissions.{still_emitted, words_from}
use Rattle.mr_jobs.proofs.EmitLemmas.{words_from-end}
use Rattle.mr_jobs.proofs.emitter.next_of_text.Goals as goal

pub returns-then-whole-clause-next : goal.returns-then-whole-clause-next
returns-then-whole-clause-next c = λ value.
    let text : List ℕ = c.args.text.now in
    let key : List ℕ = span_bytes text (record { start = 0; end = length text }) in
    let all : key ≡ text = take_all (length text - 0) text (omega arith) in
    ap (still_emitted text c.args.from value) c.if-whole.true
    ∙ ap (λ (k : List ℕ). (k, value) ∷ []) (sym all)
    ∙ ap (λ l. (key, value) ∷ l) (sym (words_from-end value text))

pub returns-then-from-text-clause-next : goal.returns-then-from-text-clause-next
returns-then-from-text-clause-next c = λ value.
    let text : List ℕ = c.args.text.now in
    ap (still_emitted text c.args.from value) c.if-whole.false
    ∙ ap (words_from value text) c.if-from-text.true
    ∙ words_from-end value text
