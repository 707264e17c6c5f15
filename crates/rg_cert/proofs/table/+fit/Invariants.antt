use Rattle.std.proofs.Common.{length}
use Rattle.rg_cert.proofs.table.+fit.Given as goal

abbrev pub decreases-fit : goal.decreases-fit
decreases-fit l = length l.fields.now
