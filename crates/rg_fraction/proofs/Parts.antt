-- What closes the goals of a quotient by a divisor, for `using`.
use Rattle.std.proofs.lemmas.Int.{to_z-of_z}
use Rattle.rg_integers.proofs.Divisors.{exact, exact_size}

pub ruleset parts = (to_z-of_z, exact, exact_size)
