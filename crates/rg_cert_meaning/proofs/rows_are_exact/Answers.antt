use Rattle.rg_cert_meaning.proofs.Making.{rows_exact}
use Rattle.rg_cert_meaning.proofs.rows_are_exact.Goals as goal

pub returns : goal.returns
returns c = rows_exact
