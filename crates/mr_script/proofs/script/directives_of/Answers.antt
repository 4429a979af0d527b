use Rattle.std.proofs.Common.{◌≡◌, ℕ, List, ◌+◌, length, arith, subst, sym}
use Rattle.std.proofs.lemmas.Result.{err_from_is_err_and}
use Rattle.mr_script.specs.declared.script.Directive.{Directive}
use Rattle.mr_script.proofs.Walks.{Walked, walked_none, walked_more, walked_all, walked_fault}
use Rattle.mr_script.proofs.script.directives_of.Goals as goal

pub loop-line-init : goal.loop-line-init
loop-line-init c = record {
  few = omega arith;
  walked = subst (λ (ds : List Directive). Walked c.args.bytes.now 0 0 ds) (sym c.new-directives.ensures.items) (walked_none c.args.bytes.now);
}

pub loop-line-preserved : goal.loop-line-preserved
loop-line-preserved c =
    let bytes = c.args.bytes.now in
    let from = c.loop-line.from in
    let line = c.in-Some.line.now in
    let next : (from + length line) + 1 ≡ from + (length line + 1) = omega arith in
    record {
      few = omega arith;
      walked = subst (λ (n : ℕ). Walked bytes n (c.loop-line.number + 1) c.add_line.new.directives.items) next
          (walked_more bytes line from (from + length line + 1) c.loop-line.number c.loop-line.directives.items c.add_line.new.directives.items
          c.loop-line.invariant.walked c.in-Some.ensures.2 c.in_ok-add_line.ensures);
    }

pub returns-in_err-add_line : goal.returns-in_err-add_line
returns-in_err-add_line c =
    let p = err_from_is_err_and c.from_residual.result c.from_residual.ensures.1 in
    rw (p.1, p.2) (walked_fault c.args.bytes.now c.in-Some.line.now c.loop-line.from (c.loop-line.from + length c.in-Some.line.now + 1) c.loop-line.number c.loop-line.directives.items c.in_err-add_line.field-0.0
    c.loop-line.invariant.walked c.in-Some.ensures.2 c.in_err-add_line.ensures)

pub returns : goal.returns
returns c = walked_all c.args.bytes.now c.loop-line.from c.loop-line.number c.loop-line.directives.items c.loop-line.invariant.walked c.in_default.ensures
