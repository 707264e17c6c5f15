use Rattle.std.proofs.Common.{rules}
use Rattle.std.specs.Prelude.{pos, ◌-ℤ◌, FitsSigned}
use Rattle.std.specs.Int.{w128}
use Rattle.std.proofs.lemmas.Int.{to_z-of_z}
use Rattle.rg_integers.proofs.Casts.{back}
use Rattle.rg_fraction.proofs.Floors.{floor-down-low, floor-down-high, floor-up-low, floor-up-high}
use Rattle.rg_fraction.proofs.fraction.Fraction.floor.Goals as goal

pub returns-then-r-lt0-clause-low : goal.returns-then-r-lt0-clause-low
returns-then-r-lt0-clause-low c =
    let n = back c.args.self.now.numerator c.args.self.now.numerator_in_range in
    let d = back c.args.self.now.denominator c.args.self.now.denominator_in_range in
    let q = rw (n, d) at c.quotient-q.ensures in
    let r = rw (n, d) at c.remainder-r.ensures in
    let fq : FitsSigned w128 c.quotient-q.result = search rules in
    let fr : FitsSigned w128 c.remainder-r.result = search rules in
    let bq = to_z-of_z w128 c.quotient-q.result fq in
    let br = to_z-of_z w128 c.remainder-r.result fr in
    let t = rw (br, r) at c.if-r-lt0.true in
    let f : FitsSigned w128 (c.quotient-q.result -ℤ pos 1) = search rules in
    rw bq (rw (to_z-of_z w128 (c.quotient-q.result -ℤ pos 1) f) (rw q (floor-down-low _ _ c.args.self.now.positive t)))

pub returns-then-r-lt0-clause-high : goal.returns-then-r-lt0-clause-high
returns-then-r-lt0-clause-high c =
    let n = back c.args.self.now.numerator c.args.self.now.numerator_in_range in
    let d = back c.args.self.now.denominator c.args.self.now.denominator_in_range in
    let q = rw (n, d) at c.quotient-q.ensures in
    let r = rw (n, d) at c.remainder-r.ensures in
    let fq : FitsSigned w128 c.quotient-q.result = search rules in
    let fr : FitsSigned w128 c.remainder-r.result = search rules in
    let bq = to_z-of_z w128 c.quotient-q.result fq in
    let br = to_z-of_z w128 c.remainder-r.result fr in
    let t = rw (br, r) at c.if-r-lt0.true in
    let f : FitsSigned w128 (c.quotient-q.result -ℤ pos 1) = search rules in
    rw bq (rw (to_z-of_z w128 (c.quotient-q.result -ℤ pos 1) f) (rw q (floor-down-high _ _ c.args.self.now.positive t)))

pub returns-else-r-lt0-clause-low : goal.returns-else-r-lt0-clause-low
returns-else-r-lt0-clause-low c =
    let n = back c.args.self.now.numerator c.args.self.now.numerator_in_range in
    let d = back c.args.self.now.denominator c.args.self.now.denominator_in_range in
    let q = rw (n, d) at c.quotient-q.ensures in
    let r = rw (n, d) at c.remainder-r.ensures in
    let fq : FitsSigned w128 c.quotient-q.result = search rules in
    let fr : FitsSigned w128 c.remainder-r.result = search rules in
    let bq = to_z-of_z w128 c.quotient-q.result fq in
    let br = to_z-of_z w128 c.remainder-r.result fr in
    let t = rw (br, r) at c.if-r-lt0.false in
    rw bq (rw q (floor-up-low _ _ c.args.self.now.positive t))

pub returns-else-r-lt0-clause-high : goal.returns-else-r-lt0-clause-high
returns-else-r-lt0-clause-high c =
    let n = back c.args.self.now.numerator c.args.self.now.numerator_in_range in
    let d = back c.args.self.now.denominator c.args.self.now.denominator_in_range in
    let q = rw (n, d) at c.quotient-q.ensures in
    let r = rw (n, d) at c.remainder-r.ensures in
    let fq : FitsSigned w128 c.quotient-q.result = search rules in
    let fr : FitsSigned w128 c.remainder-r.result = search rules in
    let bq = to_z-of_z w128 c.quotient-q.result fq in
    let br = to_z-of_z w128 c.remainder-r.result fr in
    let t = rw (br, r) at c.if-r-lt0.false in
    rw bq (rw q (floor-up-high _ _ c.args.self.now.positive t))
