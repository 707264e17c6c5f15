use Rattle.rg_integers.proofs.Casts.{back}
use Rattle.rg_integers.proofs.Order.{positive_differs}
use Rattle.rg_fraction.proofs.Forms.{sum-positive}
use Rattle.rg_fraction.proofs.Outcomes.{sum_formed}
use Rattle.rg_fraction.proofs.fraction.Fraction.sum.Goals as goal

pub over-requires : goal.over-requires
over-requires c =
    let d = back c.args.self.denominator c.args.self.denominator_in_range in
    let e = back c.args.o.denominator c.args.o.denominator_in_range in
    let x = back c.split-d.result.0 c.split-d.ensures.first_in_range in
    let vx = rw (d, e) at c.split-d.ensures.first in
    rw (x, e, vx)
    (positive_differs _
    (sum-positive c.args.self.numerator c.args.self.denominator c.args.o.numerator c.args.o.denominator c.args.self.positive c.args.o.positive))

pub returns : goal.returns
returns c =
    let n = back c.args.self.numerator c.args.self.numerator_in_range in
    let d = back c.args.self.denominator c.args.self.denominator_in_range in
    let m = back c.args.o.numerator c.args.o.numerator_in_range in
    let e = back c.args.o.denominator c.args.o.denominator_in_range in
    let x = back c.split-d.result.0 c.split-d.ensures.first_in_range in
    let y = back c.split-d.result.1 c.split-d.ensures.second_in_range in
    let z = back c.negate-m.result c.negate-m.ensures.in_range in
    let vx = rw (d, e) at c.split-d.ensures.first in
    let vy = rw (d, e) at c.split-d.ensures.second in
    let vz = rw m at c.negate-m.ensures.value in
    let h = rw (n, y, z, x, e, vy, vz, vx) at c.over.ensures in
    sum_formed c.args.self.numerator c.args.self.denominator c.args.o.numerator c.args.o.denominator c.over.result
    c.args.self.positive c.args.o.positive h
