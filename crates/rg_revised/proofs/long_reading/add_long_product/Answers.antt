use Rattle.std.proofs.Common.{rules, subst, sym}
use Rattle.std.specs.Prelude.{FitsSigned, ◌+ℤ◌, ◌*ℤ◌}
use Rattle.std.specs.Int.{w64, w128}
use Rattle.std.proofs.lemmas.Int.{to_z-of_z}
use Rattle.rg_integers.specs.Range.{InRange}
use Rattle.rg_integers.proofs.Casts.{back, fits}
use Rattle.rg_revised.proofs.long_reading.add_long_product.Goals as goal

pub overflow_add-result : goal.overflow_add-result
overflow_add-result c =
    let fa : FitsSigned w128 c.args.a = search rules in
    let fb : FitsSigned w64 c.args.by = search rules in
    let fx : FitsSigned w64 c.args.x = search rules in
    let value = rw (to_z-of_z w64 c.args.by fb, to_z-of_z w64 c.args.x fx) at c.product.ensures.value in
    rw (to_z-of_z w128 c.args.a fa, back c.product.result c.product.ensures.in_range, value) (fits (c.args.a +ℤ (c.args.by *ℤ c.args.x)) c.requires)

pub returns-clause-value : goal.returns-clause-value
returns-clause-value c =
    let fa : FitsSigned w128 c.args.a = search rules in
    let fb : FitsSigned w64 c.args.by = search rules in
    let fx : FitsSigned w64 c.args.x = search rules in
    let value = rw (to_z-of_z w64 c.args.by fb, to_z-of_z w64 c.args.x fx) at c.product.ensures.value in
    rw (to_z-of_z w128 c.args.a fa, back c.product.result c.product.ensures.in_range, value) (back (c.args.a +ℤ (c.args.by *ℤ c.args.x)) c.requires)

pub returns-clause-in_range : goal.returns-clause-in_range
returns-clause-in_range c = subst InRange (sym (returns-clause-value c)) c.requires
