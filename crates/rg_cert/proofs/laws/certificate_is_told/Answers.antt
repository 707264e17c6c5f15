use Rattle.rg_cert.proofs.OneClaim.{told}
use Rattle.rg_cert.proofs.laws.certificate_is_told.Goals as goal

pub returns : goal.returns
returns c = told
