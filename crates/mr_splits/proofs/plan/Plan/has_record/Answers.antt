use Rattle.std.proofs.Common.{arith, ap, subst, sym, ◌∙◌, ◌≡◌, ◌<◌, ◌≤◌, false, IsTrue, ltb, length, List, []}
use Rattle.std.proofs.lemmas.Bool.{le-ltb, false≢true}
use Rattle.mr_input.specs.Files.{split_total}
use Rattle.mr_splits.specs.Named.{NamedRecord, of_split}
use Rattle.mr_splits.specs.Cut.{Cut, records_of}
use Rattle.mr_splits.proofs.NameLemmas.{is_record-is, none-past}
use Rattle.mr_splits.proofs.plan.Plan.has_record.Goals as goal

pub returns-then-name-len-clause-same : goal.returns-then-name-len-clause-same
returns-then-name-len-clause-same c =
    let some : 0 < c.args.self.now.size = subst (λ (v : Cut). 0 < v.size) c.self.view_is c.self.invariant.some in
    ap (ltb c.args.name.rec) c.records_in.ensures ∙ sym (is_record-is c.args.self.now.size c.args.self.now.files c.args.name some)

pub returns-else-name-len-clause-same : goal.returns-else-name-len-clause-same
returns-else-name-len-clause-same c =
    let some : 0 < c.args.self.now.size = subst (λ (v : Cut). 0 < v.size) c.self.view_is c.self.invariant.some in
    let past : split_total c.args.self.now.size c.args.self.now.files ≤ c.args.name.split =
    omega (arith, c.if-name-len.false, c.len.ensures, c.self.inside.table.rows.ok.0, c.self.invariant.rows, ap (λ (v : Cut). split_total v.size v.files) c.self.view_is) in
    let none : of_split c.args.name.split (records_of c.args.self.now) ≡ [] = none-past c.args.self.now.size c.args.self.now.files c.args.name.split some past in
    le-ltb c.args.name.split c.len.result (omega (arith, c.if-name-len.false))
    ∙ sym (is_record-is c.args.self.now.size c.args.self.now.files c.args.name some
    ∙ ap (λ (l : List NamedRecord). ltb c.args.name.rec (length l)) none ∙ le-ltb c.args.name.rec 0 (omega arith))

pub returns-else-name-len-clause-place : goal.returns-else-name-len-clause-place
returns-else-name-len-clause-place c =
    let some : 0 < c.args.self.now.size = subst (λ (v : Cut). 0 < v.size) c.self.view_is c.self.invariant.some in
    let past : split_total c.args.self.now.size c.args.self.now.files ≤ c.args.name.split =
    omega (arith, c.if-name-len.false, c.len.ensures, c.self.inside.table.rows.ok.0, c.self.invariant.rows, ap (λ (v : Cut). split_total v.size v.files) c.self.view_is) in
    let none : length (of_split c.args.name.split (records_of c.args.self.now)) ≡ 0 =
    ap length (none-past c.args.self.now.size c.args.self.now.files c.args.name.split some past) in
    let no' : ltb c.args.name.split c.len.result ≡ false = le-ltb c.args.name.split c.len.result (omega (arith, c.if-name-len.false)) in
    (λ t. absurd (false≢true (subst IsTrue no' t)), λ h. absurd (omega (arith, h, none)))
