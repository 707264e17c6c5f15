use Rattle.std.proofs.Common.{◌≡◌, rules}
use Rattle.std.specs.Prelude.{FitsSigned, int_div}
use Rattle.std.specs.Int.{w128}
use Rattle.std.proofs.lemmas.Int.{to_z-of_z}
use Rattle.rg_integers.proofs.Divisors.{exact}
use Rattle.rg_fraction.proofs.divisor.part.Goals as goal

pub returns-clause-exact : goal.returns-clause-exact
returns-clause-exact c =
    let fz : FitsSigned w128 c.args.z = search rules in
    let fg : FitsSigned w128 c.args.g = search rules in
    let fr : FitsSigned w128 c.quotient.result = search rules in
    let e : c.quotient.result ≡ int_div c.args.z c.args.g = simp to_z-of_z at c.quotient.ensures in
    rw (to_z-of_z w128 c.quotient.result fr) (rw e (exact c.args.z c.args.g c.requires.divides))
