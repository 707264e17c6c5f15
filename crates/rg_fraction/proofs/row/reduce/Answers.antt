use Rattle.rg_integers.proofs.Casts.{back}
use Rattle.rg_fraction.proofs.row.reduce.Goals as goal

pub divide-requires-clause-divides : goal.divide-requires-clause-divides
divide-requires-clause-divides c = rw (back c.row_gcd-g.result c.row_gcd-g.ensures.in_range) c.row_gcd-g.ensures.value.divides
