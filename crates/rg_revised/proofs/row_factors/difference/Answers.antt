use Rattle.std.proofs.Common.{arith, ◌<◌, ◌^◌, subst, sym}
use Rattle.std.specs.Prelude.{◌*ℤ◌, ◌-ℤ◌, unsigned_abs}
use Rattle.std.specs.Int.{w64}
use Rattle.std.proofs.lemmas.Int.{to_z-of_z}
use Rattle.rg_revised.proofs.Products.{short_product, short_difference, fits_short}
use Rattle.rg_revised.proofs.row_factors.difference.Goals as goal

pub overflow_sub-result : goal.overflow_sub-result
overflow_sub-result c =
    let left = short_product c.args.a c.args.b c.requires.a c.requires.b in
    let right = short_product c.args.c c.args.d c.requires.c c.requires.d in
    let whole = short_difference (c.args.a *ℤ c.args.b) (c.args.c *ℤ c.args.d) left right in
    rw (
      to_z-of_z w64 c.args.a c.ranges.a,
      to_z-of_z w64 c.args.b c.ranges.b,
      to_z-of_z w64 c.args.c c.ranges.c,
      to_z-of_z w64 c.args.d c.ranges.d,
      to_z-of_z w64 (c.args.a *ℤ c.args.b) (fits_short (c.args.a *ℤ c.args.b) (omega (arith, left))),
      to_z-of_z w64 (c.args.c *ℤ c.args.d) (fits_short (c.args.c *ℤ c.args.d) (omega (arith, right))),
    )
    (fits_short ((c.args.a *ℤ c.args.b) -ℤ (c.args.c *ℤ c.args.d)) whole)

pub returns-clause-value : goal.returns-clause-value
returns-clause-value c =
    let left = short_product c.args.a c.args.b c.requires.a c.requires.b in
    let right = short_product c.args.c c.args.d c.requires.c c.requires.d in
    let whole = short_difference (c.args.a *ℤ c.args.b) (c.args.c *ℤ c.args.d) left right in
    rw (
      to_z-of_z w64 c.args.a c.ranges.a,
      to_z-of_z w64 c.args.b c.ranges.b,
      to_z-of_z w64 c.args.c c.ranges.c,
      to_z-of_z w64 c.args.d c.ranges.d,
      to_z-of_z w64 (c.args.a *ℤ c.args.b) (fits_short (c.args.a *ℤ c.args.b) (omega (arith, left))),
      to_z-of_z w64 (c.args.c *ℤ c.args.d) (fits_short (c.args.c *ℤ c.args.d) (omega (arith, right))),
    )
    (to_z-of_z w64 ((c.args.a *ℤ c.args.b) -ℤ (c.args.c *ℤ c.args.d)) (fits_short ((c.args.a *ℤ c.args.b) -ℤ (c.args.c *ℤ c.args.d)) whole))

pub returns-clause-above_least : goal.returns-clause-above_least
returns-clause-above_least c = subst (λ z. unsigned_abs z < 2 ^ 63) (sym (returns-clause-value c))
    (short_difference (c.args.a *ℤ c.args.b) (c.args.c *ℤ c.args.d) (short_product c.args.a c.args.b c.requires.a c.requires.b) (short_product c.args.c c.args.d c.requires.c c.requires.d))
