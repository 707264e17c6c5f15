use Rattle.std.proofs.Common.{rules, suc, arith}
use Rattle.std.specs.Prelude.{FitsSigned}
use Rattle.std.specs.Int.{w64}
use Rattle.std.proofs.lemmas.Int.{to_z-of_z}
use Rattle.rg_integers.specs.Sum.{number_at}
use Rattle.rg_integers.proofs.Casts.{back}
use Rattle.rg_revised.proofs.primitive.primitive_number.Goals as goal

pub divide_by_factor-requires-clause-divides : goal.divide_by_factor-requires-clause-divides
divide_by_factor-requires-clause-divides c =
    let fits : FitsSigned w64 (number_at c.args.row.now c.in-Some.slot) = search rules in
    let lt = c.in-Some.ensures.found.0 in
    let width = c.requires.row in
    rw (back c.args.factor c.requires.factor_in_range, to_z-of_z w64 (number_at c.args.row.now c.in-Some.slot) fits) (c.requires.factor.greatest.divides (suc c.in-Some.slot) (omega arith))
