use Rattle.std.proofs.Common.{◌≡◌, subst, sym}
use Rattle.std.specs.Prelude.{pos, ◌*ℤ◌, int_div}
use Rattle.rg_integers.specs.Divisor.{int_gcd}
use Rattle.rg_integers.proofs.Casts.{back}
use Rattle.rg_integers.proofs.Order.{positive_differs}
use Rattle.rg_integers.proofs.Divisors.{parts_reduced}
use Rattle.rg_fraction.proofs.Ones.{is_one, one_is_reduced, first_part, second_part, times_gcd_with_one}
use Rattle.rg_fraction.proofs.divisor.split.Goals as goal

pub part-x-requires-clause-divides : goal.part-x-requires-clause-divides
part-x-requires-clause-divides c =
    let a = back c.args.a c.requires.a_in_range in
    let b = back c.args.b c.requires.b_in_range in
    let g = back c.gcd-g.result c.gcd-g.ensures.in_range in
    let h = rw (a, b) at c.gcd-g.ensures.greatest in
    rw (g, a) h.0

pub part-y-requires-clause-divides : goal.part-y-requires-clause-divides
part-y-requires-clause-divides c =
    let a = back c.args.a c.requires.a_in_range in
    let b = back c.args.b c.requires.b_in_range in
    let g = back c.gcd-g.result c.gcd-g.ensures.in_range in
    let h = rw (a, b) at c.gcd-g.ensures.greatest in
    rw (g, b) h.1

pub returns-clause-first : goal.returns-clause-first
returns-clause-first c =
    let a = back c.args.a c.requires.a_in_range in
    let b = back c.args.b c.requires.b_in_range in
    let g = back c.gcd-g.result c.gcd-g.ensures.in_range in
    let x = back c.part-x.result c.part-x.ensures.in_range in
    let y = back c.part-y.result c.part-y.ensures.in_range in
    let v = rw (a, b) at c.gcd-g.ensures.value in
    rw x (rw (a, g, v) at c.part-x.ensures.value)

pub returns-clause-second : goal.returns-clause-second
returns-clause-second c =
    let a = back c.args.a c.requires.a_in_range in
    let b = back c.args.b c.requires.b_in_range in
    let g = back c.gcd-g.result c.gcd-g.ensures.in_range in
    let x = back c.part-x.result c.part-x.ensures.in_range in
    let y = back c.part-y.result c.part-y.ensures.in_range in
    let v = rw (a, b) at c.gcd-g.ensures.value in
    rw y (rw (b, g, v) at c.part-y.ensures.value)

pub returns-clause-exact_first : goal.returns-clause-exact_first
returns-clause-exact_first c =
    let a = back c.args.a c.requires.a_in_range in
    let b = back c.args.b c.requires.b_in_range in
    let g = back c.gcd-g.result c.gcd-g.ensures.in_range in
    let x = back c.part-x.result c.part-x.ensures.in_range in
    let y = back c.part-y.result c.part-y.ensures.in_range in
    let v = rw (a, b) at c.gcd-g.ensures.value in
    rw x (rw (a, g, v) at c.part-x.ensures.exact)

pub returns-clause-exact_second : goal.returns-clause-exact_second
returns-clause-exact_second c =
    let a = back c.args.a c.requires.a_in_range in
    let b = back c.args.b c.requires.b_in_range in
    let g = back c.gcd-g.result c.gcd-g.ensures.in_range in
    let x = back c.part-x.result c.part-x.ensures.in_range in
    let y = back c.part-y.result c.part-y.ensures.in_range in
    let v = rw (a, b) at c.gcd-g.ensures.value in
    rw y (rw (b, g, v) at c.part-y.ensures.exact)

pub returns-clause-reduced : goal.returns-clause-reduced
returns-clause-reduced c =
    let a = back c.args.a c.requires.a_in_range in
    let b = back c.args.b c.requires.b_in_range in
    let g = back c.gcd-g.result c.gcd-g.ensures.in_range in
    let x = back c.part-x.result c.part-x.ensures.in_range in
    let y = back c.part-y.result c.part-y.ensures.in_range in
    let v = rw (a, b) at c.gcd-g.ensures.value in
    let h = rw (a, b) at c.gcd-g.ensures.greatest in
    let p = rw b at c.gcd-g.ensures.positive in
    rw (x, y) (parts_reduced c.args.a c.args.b c.gcd-g.result c.part-x.result c.part-y.result h
    (positive_differs c.gcd-g.result (p c.requires.nonzero)) (rw (g, a) at c.part-x.ensures.exact) (rw (g, b) at c.part-y.ensures.exact))

pub returns-then-b-eq1-clause-first : goal.returns-then-b-eq1-clause-first
returns-then-b-eq1-clause-first c =
    let e = is_one c.args.b c.requires.b_in_range c.if-b-eq1.true in
    rw (back c.args.a c.requires.a_in_range) (subst (λ b. c.args.a ≡ int_div c.args.a (int_gcd c.args.a b)) (sym e) (sym (first_part c.args.a)))

pub returns-then-b-eq1-clause-second : goal.returns-then-b-eq1-clause-second
returns-then-b-eq1-clause-second c =
    let e = is_one c.args.b c.requires.b_in_range c.if-b-eq1.true in
    subst (λ b. pos 1 ≡ int_div b (int_gcd c.args.a b)) (sym e) (sym (second_part c.args.a))

pub returns-then-b-eq1-clause-exact_first : goal.returns-then-b-eq1-clause-exact_first
returns-then-b-eq1-clause-exact_first c =
    let e = is_one c.args.b c.requires.b_in_range c.if-b-eq1.true in
    rw (back c.args.a c.requires.a_in_range) (subst (λ b. c.args.a *ℤ int_gcd c.args.a b ≡ c.args.a) (sym e) (times_gcd_with_one c.args.a c.args.a))

pub returns-then-b-eq1-clause-exact_second : goal.returns-then-b-eq1-clause-exact_second
returns-then-b-eq1-clause-exact_second c =
    let e = is_one c.args.b c.requires.b_in_range c.if-b-eq1.true in
    subst (λ b. pos 1 *ℤ int_gcd c.args.a b ≡ b) (sym e) (times_gcd_with_one c.args.a (pos 1))

pub returns-then-b-eq1-clause-reduced : goal.returns-then-b-eq1-clause-reduced
returns-then-b-eq1-clause-reduced c = one_is_reduced _
