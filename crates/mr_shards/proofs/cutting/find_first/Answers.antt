use Rattle.std.proofs.Common.{◌<◌, ℕ, Bool, eqb, false, get_or, map, take, w64, arith}
use Rattle.std.proofs.lemmas.Nat.Bits.{bit_at-trailing_zeros}
use lib.Count.{count_trailing_zeros}
use Rattle.mr_lanes.proofs.RestLemmas.{First, all_rest, first}
use Rattle.mr_shards.proofs.LineLemmas.{marked-near, marked-there, place-found, unmarked-lacks}
use Rattle.mr_shards.proofs.cutting.find_first.Goals as goal

pub returns-then-marked-ne0 : goal.returns-then-marked-ne0
returns-then-marked-ne0 c =
    let text = c.args.text.now in
    let mark = c.args.mark in
    let x = c.marked_lanes-marked.result in
    let t = count_trailing_zeros 64 x in
    let p : ℕ → Bool = λ i. get_or (map (λ b. eqb b mark) (take 32 text)) i false in
    let f : First p 0 t = first p 0 x (all_rest p x (omega arith) c.marked_lanes-marked.ensures) in
    let some : t < 64 = (bit_at-trailing_zeros w64 x (omega arith) (omega arith)).0 in
    let there = marked-there mark 32 text t (f.here some).1 in (
      there.0,
      there.1,
      unmarked-lacks mark 32 t text (marked-near mark 32 text t (f.here some).1) (omega (arith, there.0)) (λ j h. f.none j (omega arith) h),
    )

pub returns : goal.returns
returns c = place-found c.args.mark c.args.text.now c.memchr.result c.memchr.ensures
