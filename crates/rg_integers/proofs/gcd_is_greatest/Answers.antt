use Rattle.std.specs.Prelude.{unsigned_abs}
use Rattle.rg_integers.proofs.Divisors.{gcd_of-is, gcd_of-only}
use Rattle.rg_integers.proofs.gcd_is_greatest.Goals as goal

pub returns-clause-greatest : goal.returns-clause-greatest
returns-clause-greatest c = gcd_of-is

pub returns-clause-only : goal.returns-clause-only
returns-clause-only c = gcd_of-only

pub returns-clause-whole : goal.returns-clause-whole
returns-clause-whole c = λ a b. gcd_of-is (unsigned_abs a) (unsigned_abs b)
