use Rattle.std.proofs.Common.{ℕ, List, arith}
use Rattle.std.proofs.lemmas.Result.{err_from_is_err_and}
use Rattle.mr_certform.specs.declared.reading.ReadFault.{ReadFault}
use Rattle.mr_certform.specs.declared.reading.ReadFault.TheVariants.{Malformed, OutOfMemory}
use Rattle.mr_certform.specs.Reading.{IsReadFault, IsHalted}
use Rattle.mr_certform.proofs.Certificates.{told_is_whole, spells_none}
use Rattle.mr_certform.proofs.reading.read.Goals as goal

fault_of : (bytes : List ℕ) (e : ReadFault) → IsHalted bytes e → IsReadFault bytes e
fault_of bytes (Malformed place) h = (spells_none bytes h.0, h.1)
fault_of bytes OutOfMemory h = tt

pub returns-in_err-flat-clause-fault : goal.returns-in_err-flat-clause-fault
returns-in_err-flat-clause-fault c =
    let p = err_from_is_err_and c.from_residual.result c.from_residual.ensures.1 in
    rw (p.1, p.2) (fault_of c.args.bytes.now c.in_err-flat.field-0.0 c.in_err-flat.ensures)

pub invariant_of-result : goal.invariant_of-result
invariant_of-result c = let h = c.in_ok-flat.ensures in (told_is_whole c.args.bytes.now c.in_ok-flat.flat (λ i. let b = c.type_inv.bytes i in omega arith) h.0 h.1).0

pub returns-clause-spelled : goal.returns-clause-spelled
returns-clause-spelled c = let h = c.in_ok-flat.ensures in (told_is_whole c.args.bytes.now c.in_ok-flat.flat (λ i. let b = c.type_inv.bytes i in omega arith) h.0 h.1).1
