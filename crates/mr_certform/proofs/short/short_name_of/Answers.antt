use Rattle.std.proofs.Common.{◌≡◌, None, Some, ap, ◌∙◌, subst}
use Rattle.mr_certform.specs.Short.{short_at, record_base, place_base, behind_number, named, short_name_at}
use Rattle.mr_certform.proofs.ShortLaws.{no_split, no_record, with_record}
use Rattle.mr_certform.proofs.short.short_name_of.Goals as goal

pub returns-in_err-split-clause-read : goal.returns-in_err-split-clause-read
returns-in_err-split-clause-read c =
    let none : short_name_at c.args.before c.args.bytes.now ≡ None = no_split c.args.before c.args.bytes.now c.in_err-split.ensures.read in
    rw c.from_residual.ensures none

pub returns-in_err-rec-clause-read : goal.returns-in_err-rec-clause-read
returns-in_err-rec-clause-read c =
    let before = c.args.before in
    let split = c.in_ok-split.split in
    let next = c.in_ok-split.next.now in
    let last : short_at (record_base before split) next ≡ None = subst (λ base. short_at base next ≡ None) c.base_of_record.ensures c.in_err-rec.ensures.read in
    let none : short_name_at before c.args.bytes.now ≡ None = no_record before c.args.bytes.now next split c.in_ok-split.ensures.read last in
    rw c.from_residual-in_err-rec.ensures none

pub returns-in_err-place-clause-read : goal.returns-in_err-place-clause-read
returns-in_err-place-clause-read c =
    let before = c.args.before in
    let split = c.in_ok-split.split in
    let next = c.in_ok-split.next.now in
    let rec = c.in_ok-rec.rec in
    let last = c.in_ok-rec.last.now in
    let rec_is : short_at (record_base before split) next ≡ Some (record { number = rec; rest = last }) = subst (λ base. short_at base next ≡ Some (record { number = rec; rest = last })) c.base_of_record.ensures c.in_ok-rec.ensures.read in
    let place_is : short_at (place_base before split rec) last ≡ None = subst (λ base. short_at base last ≡ None) c.base_of_place.ensures c.in_err-place.ensures.read in
    let none : short_name_at before c.args.bytes.now ≡ None =
    with_record before c.args.bytes.now next last split rec c.in_ok-split.ensures.read rec_is ∙ ap (λ o. behind_number o (named split rec)) place_is in
    rw c.from_residual-in_err-place.ensures none

pub returns-clause-read : goal.returns-clause-read
returns-clause-read c =
    let before = c.args.before in
    let split = c.in_ok-split.split in
    let next = c.in_ok-split.next.now in
    let rec = c.in_ok-rec.rec in
    let last = c.in_ok-rec.last.now in
    let place = c.in_ok-place.place in
    let rest = c.in_ok-place.rest.now in
    let rec_is : short_at (record_base before split) next ≡ Some (record { number = rec; rest = last }) = subst (λ base. short_at base next ≡ Some (record { number = rec; rest = last })) c.base_of_record.ensures c.in_ok-rec.ensures.read in
    let place_is : short_at (place_base before split rec) last ≡ Some (record { number = place; rest = rest }) = subst (λ base. short_at base last ≡ Some (record { number = place; rest = rest })) c.base_of_place.ensures c.in_ok-place.ensures.read in
    with_record before c.args.bytes.now next last split rec c.in_ok-split.ensures.read rec_is ∙ ap (λ o. behind_number o (named split rec)) place_is
