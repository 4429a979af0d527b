use Rattle.std.proofs.Common.{◌≡◌, ◌-◌, length, ap, arith}
use Rattle.mr_certform.specs.Short.{short}
use Rattle.mr_certform.proofs.ShortLaws.{number_room, name_written}
use Rattle.mr_certform.proofs.short.short_name.Goals as goal

pub push_number-requires-2 : goal.push_number-requires-2
push_number-requires-2 c = omega (arith, number_room _ _ _ 0 c.push_number.ensures (omega (arith, ap length c.new-out.ensures)))

pub push_number-requires-3 : goal.push_number-requires-3
push_number-requires-3 c =
    let first = number_room _ _ _ 0 c.push_number.ensures (omega (arith, ap length c.new-out.ensures)) in
    omega (arith, number_room _ _ _ 5 c.push_number-2.ensures (omega (arith, first)))

pub returns-clause-bytes : goal.returns-clause-bytes
returns-clause-bytes c =
    let first : c.push_number.new.self ≡ short (c.args.name.split - c.args.before.split) = cc in
    name_written c.args.before c.args.name _ _ _ c.base_of_record.result c.base_of_place.result first c.push_number-2.ensures c.push_number-3.ensures c.base_of_record.ensures c.base_of_place.ensures
