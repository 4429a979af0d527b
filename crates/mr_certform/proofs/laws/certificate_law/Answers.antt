use Rattle.std.proofs.Common.{◌∙◌, sym}
use Rattle.mr_certform.proofs.Spelled.{all_spelled}
use Rattle.mr_certform.proofs.Certificates.{version_told, spelled_items, ended_items, one_certificate}
use Rattle.mr_certform.proofs.laws.certificate_law.Goals as goal

pub returns-clause-read : goal.returns-clause-read
returns-clause-read c = spelled_items

pub returns-clause-ended : goal.returns-clause-ended
returns-clause-ended c = ended_items

pub returns-clause-one : goal.returns-clause-one
returns-clause-one c = one_certificate

pub returns-clause-parts : goal.returns-clause-parts
returns-clause-parts c v bytes d spells = spells.spelled ∙ sym (all_spelled v d spells.fits.one_each)

pub returns-clause-version : goal.returns-clause-version
returns-clause-version c v bytes d spells = version_told v bytes d spells.spelled
