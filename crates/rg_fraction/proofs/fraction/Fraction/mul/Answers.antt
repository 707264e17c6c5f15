use Rattle.std.proofs.Common.{rules}
use Rattle.rg_fraction.specs.Fractions.{IsProduct}
use Rattle.rg_integers.proofs.Casts.{back}
use Rattle.rg_fraction.proofs.Forms.{product-positive, product_form}
use Rattle.rg_fraction.proofs.Outcomes.{product_formed, product_shows}
use Rattle.rg_fraction.proofs.fraction.Fraction.mul.Goals as goal

pub returns-clause-product : goal.returns-clause-product
returns-clause-product c =
    let n = back c.args.self.numerator c.args.self.numerator_in_range in
    let d = back c.args.self.denominator c.args.self.denominator_in_range in
    let m = back c.args.o.numerator c.args.o.numerator_in_range in
    let e = back c.args.o.denominator c.args.o.denominator_in_range in
    let a = back c.split-n.result.0 c.split-n.ensures.first_in_range in
    let b = back c.split-n.result.1 c.split-n.ensures.second_in_range in
    let x = back c.split-m.result.0 c.split-m.ensures.first_in_range in
    let y = back c.split-m.result.1 c.split-m.ensures.second_in_range in
    let va = rw (n, e) at c.split-n.ensures.first in
    let vb = rw (n, e) at c.split-n.ensures.second in
    let vx = rw (m, d) at c.split-m.ensures.first in
    let vy = rw (m, d) at c.split-m.ensures.second in
    let h = rw (a, x, y, b, va, vx, vy, vb) at c.of_reduced.ensures in
    product_formed c.args.self.numerator c.args.self.denominator c.args.o.numerator c.args.o.denominator c.of_reduced.result
    c.args.self.positive c.args.o.positive h

pub returns-clause-numbers : goal.returns-clause-numbers
returns-clause-numbers c =
    product_shows c.args.self.numerator c.args.self.denominator c.args.o.numerator c.args.o.denominator c.of_reduced.result
    c.args.self.positive c.args.o.positive c.args.self.reduced c.args.o.reduced (returns-clause-product c)

pub returns-clause-reduced : goal.returns-clause-reduced
returns-clause-reduced c =
    product_form c.args.self.numerator c.args.self.denominator c.args.o.numerator c.args.o.denominator c.args.self.positive c.args.o.positive
    c.args.self.reduced c.args.o.reduced

pub returns-then-is_whole-2-clause-numbers : goal.returns-then-is_whole-2-clause-numbers
returns-then-is_whole-2-clause-numbers c =
    let p : IsProduct c.args.self.numerator c.args.self.denominator c.args.o.numerator c.args.o.denominator c.whole_product.result = search rules in
    product_shows c.args.self.numerator c.args.self.denominator c.args.o.numerator c.args.o.denominator c.whole_product.result
    c.args.self.positive c.args.o.positive c.args.self.reduced c.args.o.reduced p

pub returns-then-is_whole-2-clause-reduced : goal.returns-then-is_whole-2-clause-reduced
returns-then-is_whole-2-clause-reduced c =
    product_form c.args.self.numerator c.args.self.denominator c.args.o.numerator c.args.o.denominator c.args.self.positive c.args.o.positive
    c.args.self.reduced c.args.o.reduced

pub of_reduced-requires-clause-positive : goal.of_reduced-requires-clause-positive
of_reduced-requires-clause-positive c =
    let n = back c.args.self.numerator c.args.self.numerator_in_range in
    let d = back c.args.self.denominator c.args.self.denominator_in_range in
    let m = back c.args.o.numerator c.args.o.numerator_in_range in
    let e = back c.args.o.denominator c.args.o.denominator_in_range in
    let b = back c.split-n.result.1 c.split-n.ensures.second_in_range in
    let y = back c.split-m.result.1 c.split-m.ensures.second_in_range in
    let vb = rw (n, e) at c.split-n.ensures.second in
    let vy = rw (m, d) at c.split-m.ensures.second in
    rw (y, b, vy, vb)
    (product-positive c.args.self.numerator c.args.self.denominator c.args.o.numerator c.args.o.denominator c.args.self.positive c.args.o.positive)

pub of_reduced-requires-clause-reduced : goal.of_reduced-requires-clause-reduced
of_reduced-requires-clause-reduced c =
    let n = back c.args.self.numerator c.args.self.numerator_in_range in
    let d = back c.args.self.denominator c.args.self.denominator_in_range in
    let m = back c.args.o.numerator c.args.o.numerator_in_range in
    let e = back c.args.o.denominator c.args.o.denominator_in_range in
    let a = back c.split-n.result.0 c.split-n.ensures.first_in_range in
    let b = back c.split-n.result.1 c.split-n.ensures.second_in_range in
    let x = back c.split-m.result.0 c.split-m.ensures.first_in_range in
    let y = back c.split-m.result.1 c.split-m.ensures.second_in_range in
    let va = rw (n, e) at c.split-n.ensures.first in
    let vb = rw (n, e) at c.split-n.ensures.second in
    let vx = rw (m, d) at c.split-m.ensures.first in
    let vy = rw (m, d) at c.split-m.ensures.second in
    let form = product_form c.args.self.numerator c.args.self.denominator c.args.o.numerator c.args.o.denominator c.args.self.positive c.args.o.positive
    c.args.self.reduced c.args.o.reduced in
    rw (a, x, y, b, va, vx, vy, vb) form.reduced
