use Rattle.std.proofs.Common.{◌≡◌, arith, rules}
use Rattle.std.specs.Prelude.{unsigned_abs, FitsSigned}
use Rattle.std.specs.Int.{w128}
use Rattle.std.proofs.lemmas.Int.{to_z-of_z}
use Rattle.rg_fraction.proofs.DivisorCasts.{cast_is_gcd, cast_is_int_gcd, cast_is_positive}
use Rattle.rg_fraction.proofs.divisor.gcd.Goals as goal

pub returns-clause-greatest : goal.returns-clause-greatest
returns-clause-greatest c =
    let fa : FitsSigned w128 c.args.a = search rules in
    let fb : FitsSigned w128 c.args.b = search rules in
    let p : c.unsigned_abs.result ≡ unsigned_abs c.args.a = simp to_z-of_z at c.unsigned_abs.ensures.value in
    let q : c.unsigned_abs-2.result ≡ unsigned_abs c.args.b = simp to_z-of_z at c.unsigned_abs-2.ensures.value in
    cast_is_gcd c.args.a c.args.b c.unsigned_abs.result c.unsigned_abs-2.result c.gcd_of_sizes.result p q
    c.gcd_of_sizes.ensures.greatest (omega arith)

pub returns-clause-positive : goal.returns-clause-positive
returns-clause-positive c =
    let fb : FitsSigned w128 c.args.b = search rules in
    let q : c.unsigned_abs-2.result ≡ unsigned_abs c.args.b = simp to_z-of_z at c.unsigned_abs-2.ensures.value in
    let fa : FitsSigned w128 c.args.a = search rules in
    let p : c.unsigned_abs.result ≡ unsigned_abs c.args.a = simp to_z-of_z at c.unsigned_abs.ensures.value in
    cast_is_positive c.args.a c.args.b c.unsigned_abs.result c.unsigned_abs-2.result c.gcd_of_sizes.result p q
    c.gcd_of_sizes.ensures.greatest (omega arith)

pub returns-clause-value : goal.returns-clause-value
returns-clause-value c =
    let fa : FitsSigned w128 c.args.a = search rules in
    let fb : FitsSigned w128 c.args.b = search rules in
    let p : c.unsigned_abs.result ≡ unsigned_abs c.args.a = simp to_z-of_z at c.unsigned_abs.ensures.value in
    let q : c.unsigned_abs-2.result ≡ unsigned_abs c.args.b = simp to_z-of_z at c.unsigned_abs-2.ensures.value in
    cast_is_int_gcd c.args.a c.args.b c.unsigned_abs.result c.unsigned_abs-2.result c.gcd_of_sizes.result p q
    c.gcd_of_sizes.ensures.greatest (omega arith)
