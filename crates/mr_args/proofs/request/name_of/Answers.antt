use Rattle.mr_args.proofs.SkipLists.{name_cut, name_needs_colon}
use Rattle.mr_args.proofs.request.name_of.Goals as goal

pub returns-in_err-front : goal.returns-in_err-front
returns-in_err-front c = rw c.from_residual.ensures (λ n h. name_needs_colon c.args.text.now n c.in_err-front.ensures h)

pub returns-in_err-split : goal.returns-in_err-split
returns-in_err-split c =
    let front = c.in_ok-front.front.now in
    let back = c.in_ok-front.back.now in
    rw c.from_residual-in_err-split.ensures (λ n h. c.in_err-split.ensures.spelled n.split (name_cut c.args.text.now front back n c.in_ok-front.ensures.0 c.in_ok-front.ensures.1 h).0)

pub returns-in_err-rec : goal.returns-in_err-rec
returns-in_err-rec c =
    let front = c.in_ok-front.front.now in
    let back = c.in_ok-front.back.now in
    rw c.from_residual-in_err-rec.ensures (λ n h. c.in_err-rec.ensures.spelled n.rec (name_cut c.args.text.now front back n c.in_ok-front.ensures.0 c.in_ok-front.ensures.1 h).1)
