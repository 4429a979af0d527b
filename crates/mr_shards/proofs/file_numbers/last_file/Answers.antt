use Rattle.std.proofs.Common.{◌++◌, [], ◌∷◌, ℕ, List, Option, Bor, refl, subst}
use Rattle.mr_shards.proofs.FieldLemmas.{AreReadSo, read-ends, read-more, read-refused}
use Rattle.mr_shards.proofs.file_numbers.last_file.Goals as goal

pub returns-in_err-number : goal.returns-in_err-number
returns-in_err-number c = rw c.from_residual.ensures (λ n given.
    let was = c.loop-left.invariant in
    let so = subst (λ (o : Option (Bor (List ℕ))). AreReadSo c.args.list.now o c.loop-left.last was.0) c.in-Some.is was.1 in
    read-refused c.args.list.now c.in-Some.text c.loop-left.last was.0 n so (c.in_err-number.ensures.none refl) given)

pub loop-left-preserved : goal.loop-left-preserved
loop-left-preserved c =
    let was = c.loop-left.invariant in
    let so = subst (λ (o : Option (Bor (List ℕ))). AreReadSo c.args.list.now o c.loop-left.last was.0) c.in-Some.is was.1 in
    let next = c.in_ok-number in (
      was.0 ++ next.number ∷ [],
      read-more c.args.list.now c.in-Some.text c.loop-left.last was.0 next.rest next.number so next.ensures.number next.ensures.past.0 next.ensures.past.1,
    )

pub returns : goal.returns
returns c =
    let was = c.loop-left.invariant in
    read-ends c.args.list.now c.loop-left.left c.loop-left.last was.0 c.in_default.is was.1
