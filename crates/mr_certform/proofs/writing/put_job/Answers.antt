use Rattle.std.proofs.Common.{◌≡◌, ℕ, List, ◌++◌, subst, length, arith}
use Rattle.std.proofs.lemmas.Result.{on_ok_weaker}
use Rattle.mr_certform.specs.Spelling.{u32, magic}
use Rattle.mr_certform.proofs.writing.put_job.Goals as goal

-- the literal f with its length, between what stands in front of it and what stands behind it
all_joined : {S : Type 0} (takes : S → S → List ℕ → Type 0) (joined : (a b c : S) (xs ys : List ℕ) → takes a b xs → takes b c ys → takes a c (xs ++ ys))
    (o o1 o2 o3 o4 o5 o6 o7 : S) (a b d f f2 e h : List ℕ) (n m : ℕ) → n ≡ m → f ≡ f2
    → takes o o1 a → takes o1 o2 b → takes o2 o3 d → takes o3 o4 (u32 n) → takes o4 o5 f → takes o5 o6 e → takes o6 o7 h
    → takes o o7 (a ++ b ++ d ++ u32 m ++ f2 ++ e ++ h)
all_joined takes joined o o1 o2 o3 o4 o5 o6 o7 a b d f f2 e h n m q q2 p1 p2 p3 p4 p5 p6 p7 =
    let size : takes o3 o4 (u32 m) = subst (λ k. takes o3 o4 (u32 k)) q p4 in
    let literal : takes o4 o5 f2 = subst (takes o4 o5) q2 p5 in
    joined o o6 o7 _ h (joined o o5 o6 _ e (joined o o4 o5 _ f2 (joined o o3 o4 _ (u32 m) (joined o o2 o3 _ d (joined o o1 o2 a b p1 p2) p3) size) literal) p6) p7

pub returns : goal.returns
returns g c =
    let long : c.len.result ≡ length c.flat.inside.header.literal.items = omega (arith, c.flat.inside.header.literal.ok.0, c.len.ensures) in
    rw (← c.flat.view_is) (on_ok_weaker c.put_number-5.result (all_joined g.O.Sink.takes g.met.O.Sink.joined c.args.out.now c.put.new.self c.put_number.new.out c.put_number-2.new.out c.put_number-3.new.out c.put-2.new.self c.put_number-4.new.out c.put_number-5.new.out
    (magic c.args.version) (u32 c.flat.inside.header.job) (u32 c.flat.inside.header.flags) c.deref.result.now c.flat.inside.header.literal.items (u32 c.flat.inside.parts) (u32 c.flat.inside.header.split_size) c.len.result (length c.flat.inside.header.literal.items)
    long c.deref.ensures.value (subst (g.O.Sink.takes c.args.out.now c.put.new.self) c.magic.ensures c.in_ok-put.ensures) c.in_ok-put_number.ensures c.in_ok-put_number-2.ensures c.in_ok-put_number-3.ensures c.in_ok-put-2.ensures c.in_ok-put_number-4.ensures) c.put_number-5.ensures)
