use Rattle.std.proofs.Common.{◌≡◌, ℕ, ◌<◌, List, length, map, take, get_or, ◌++◌, ◌∷◌, [], ap, sym, ◌∙◌, arith}
use Rattle.std.proofs.lemmas.List.{take_more, get_or-map, length-map}
use Rattle.mr_sequential.proofs.sequence.lengths_of.Goals as goal

pub loop-i-preserved : goal.loop-i-preserved
loop-i-preserved c =
    let files : List (List ℕ) = c.args.input.now in
    let sizes : List ℕ = map length files in
    let i : ℕ = c.loop-i.i in
    let within : i < length files = omega (arith, c.loop-i-test.true, c.files-i-end.ensures.count) in
    let size : get_or sizes i 0 ≡ c.len.result = get_or-map length files i [] 0 within ∙ sym c.len.ensures.bytes in
    c.in_ok-push.ensures.items ∙ ap (λ (l : List ℕ). l ++ c.len.result ∷ []) c.loop-i.invariant
    ∙ ap (λ n. take i sizes ++ n ∷ []) (sym size)
    ∙ sym (take_more sizes i 0 (omega (arith, within, length-map files (length {A = ℕ}))))
