use Rattle.mr_files.proofs.Readers.{some_file}
use Rattle.mr_files.proofs.disk.DiskFilesStore.reader_from.Goals as goal

pub returns-clause-bytes : goal.returns-clause-bytes
returns-clause-bytes g c = λ b a. let (file, is) = some_file c.args.at b in (file, tt, is)
