use Rattle.rg_integers.proofs.Divisors.{gcd_below, gcd_below_is_one}
use Rattle.rg_integers.proofs.rows_have_a_divisor.Goals as goal

pub returns-clause-some : goal.returns-clause-some
returns-clause-some c = gcd_below

pub returns-clause-one : goal.returns-clause-one
returns-clause-one c = gcd_below_is_one
