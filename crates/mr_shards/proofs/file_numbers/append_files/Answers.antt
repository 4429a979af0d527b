use Rattle.std.proofs.Common.{◌++◌, ◌+◌, ◌<◌, ◌≤◌, ◌^◌, [], ◌∷◌, ℕ, List, None, Option, Some, Bor, ap, map, refl, subst, sym, ◌∙◌, arith}
use Rattle.std.proofs.lemmas.List.{append-nil}
use Rattle.mr_jobs.specs.declared.job.GroupText.TheVariants.{Files}
use Rattle.mr_reduce.specs.Writing.{last_file, values_text}
use Rattle.mr_shards.specs.Index.{fields_left, number_past}
use Rattle.mr_shards.specs.Lines.{places_in}
use Rattle.mr_shards.specs.Portions.{shifted_value}
use Rattle.mr_shards.proofs.FieldLemmas.{AreReadSo, numbers-all, read-more, read-next, same-next, written-more}
use Rattle.mr_shards.proofs.file_numbers.append_files.Goals as goal

pub loop-left-init : goal.loop-left-init
loop-left-init c = (
  None,
  [],
  record { fields_are = refl; rise = tt; below = tt; past = tt; least_is = λ m h. omega arith; last_is = tt },
  record { text = sym (append-nil c.args.text.now.items); end_is = refl },
)

pub first_number-number-requires : goal.first_number-number-requires
first_number-number-requires c =
    let was = c.loop-left.invariant in
    let so = subst (λ (o : Option (Bor (List ℕ))). AreReadSo c.args.list.now o was.0 was.1) c.in-Some.is was.2 in
    let next = read-next c.args.list.now c.in-Some.rest was.0 was.1 c.args.last so c.requires.list in
    record { number = next.0; more = next.1; is = next.2; small = omega (arith, next.4, c.requires.list.0) }

pub overflow_cast-file : goal.overflow_cast-file
overflow_cast-file c =
    let was = c.loop-left.invariant in
    let so = subst (λ (o : Option (Bor (List ℕ))). AreReadSo c.args.list.now o was.0 was.1) c.in-Some.is was.2 in
    let next = read-next c.args.list.now c.in-Some.rest was.0 was.1 c.args.last so c.requires.list in
    let small : next.0 < 2 ^ 32 = omega (arith, next.4, c.requires.list.0) in
    let same = same-next c.in-Some.rest.now c.first_number-number.result.0 next.0 (fields_left c.first_number-number.result.1) next.1 c.first_number-number.ensures.number next.2 c.first_number-number.ensures.fits small in
    omega (arith, same, next.4, c.requires.fits, c.from.ensures)

pub loop-left-preserved : goal.loop-left-preserved
loop-left-preserved c =
    let was = c.loop-left.invariant in
    let so = subst (λ (o : Option (Bor (List ℕ))). AreReadSo c.args.list.now o was.0 was.1) c.in-Some.is was.2 in
    let next = read-next c.args.list.now c.in-Some.rest was.0 was.1 c.args.last so c.requires.list in
    let small : next.0 < 2 ^ 32 = omega (arith, next.4, c.requires.list.0) in
    let number = c.first_number-number.result.0 in
    let same = same-next c.in-Some.rest.now number next.0 (fields_left c.first_number-number.result.1) next.1 c.first_number-number.ensures.number next.2 c.first_number-number.ensures.fits small in
    let past : number_past was.0 ≤ number = omega (arith, same, next.3) in (
      Some number,
      was.1 ++ number ∷ [],
      read-more c.args.list.now c.in-Some.rest was.0 was.1 c.first_number-number.result.1 number so c.first_number-number.ensures.number past c.first_number-number.ensures.fits,
      written-more c.args.moved c.args.before c.args.text.now.items c.loop-left.text.items c.append_file.new.out.items was.1 c.loop-left.end number _ was.3
          (ap (λ n. c.args.moved.files + n) c.from.ensures) c.in_ok-append_file.ensures.ok,
    )

pub returns-clause-text : goal.returns-clause-text
returns-clause-text c =
    let was = c.loop-left.invariant in
    let same = numbers-all c.args.list.now c.loop-left.left was.0 was.1 c.in_default.is was.2 in
    was.3.text ∙ ap (λ ns. c.args.text.now.items ++ values_text Files [] c.args.before (map (shifted_value c.args.moved) (places_in ns))) (sym same)

pub returns-clause-last : goal.returns-clause-last
returns-clause-last c =
    let was = c.loop-left.invariant in
    let same = numbers-all c.args.list.now c.loop-left.left was.0 was.1 c.in_default.is was.2 in
    was.3.end_is ∙ ap (λ ns. last_file c.args.before (map (shifted_value c.args.moved) (places_in ns))) (sym same)
