use Rattle.mr_commands.proofs.commands.execute.Goals as goal

pub returns-in-Seq-clause-refused : goal.returns-in-Seq-clause-refused
returns-in-Seq-clause-refused g c = rw c.in-Seq.is c.seq.ensures.refused
