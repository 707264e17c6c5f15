use Rattle.std.proofs.Common.{◌∙◌, subst, sym}
use Rattle.std.specs.Prelude.{◌*ℤ◌}
use Rattle.std.specs.Int.{w64}
use Rattle.std.proofs.lemmas.Int.{to_z-of_z}
use Rattle.rg_integers.specs.Range.{InRange}
use Rattle.rg_integers.proofs.Casts.{back, fits}
use Rattle.rg_integers.proofs.Short.{short_fits, short_in_range}
use Rattle.rg_revised.proofs.crossing.product.Goals as goal

pub overflow_mul-result : goal.overflow_mul-result
overflow_mul-result c =
    let f = short_fits c.args.a c.args.b c.args.a c.args.b c.ranges.a c.ranges.b c.ranges.a c.ranges.b in
    let a = c.from.ensures ∙ to_z-of_z w64 c.args.a c.ranges.a in
    let b = c.from-2.ensures ∙ to_z-of_z w64 c.args.b c.ranges.b in
    rw (a, b, back c.args.a (short_in_range c.args.a c.ranges.a), back c.args.b (short_in_range c.args.b c.ranges.b)) (fits (c.args.a *ℤ c.args.b) f.left)

pub returns-clause-value : goal.returns-clause-value
returns-clause-value c =
    let f = short_fits c.args.a c.args.b c.args.a c.args.b c.ranges.a c.ranges.b c.ranges.a c.ranges.b in
    let a = c.from.ensures ∙ to_z-of_z w64 c.args.a c.ranges.a in
    let b = c.from-2.ensures ∙ to_z-of_z w64 c.args.b c.ranges.b in
    rw (a, b, back c.args.a (short_in_range c.args.a c.ranges.a), back c.args.b (short_in_range c.args.b c.ranges.b)) (back (c.args.a *ℤ c.args.b) f.left)

pub returns-clause-in_range : goal.returns-clause-in_range
returns-clause-in_range c =
    let f = short_fits c.args.a c.args.b c.args.a c.args.b c.ranges.a c.ranges.b c.ranges.a c.ranges.b in
    subst InRange (sym (returns-clause-value c)) f.left
