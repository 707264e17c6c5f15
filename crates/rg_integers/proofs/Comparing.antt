-- What `cmp` answers for numbers that are shifted, negated or whole.
use Rattle.std.proofs.Common.{◌≡◌, ℕ, ◌+◌, ◌<◌, ◌⊎◌, ⊎_elim, ap, sym, ◌∙◌, Less, Equal, Greater, arith}
use Rattle.std.specs.Prelude.{pos}
use Rattle.std.specs.Ordering.{nat_cmp, int_cmp}
use Rattle.std.specs.Cmp.{nat_cmp_is, int_cmp_is}
use Rattle.std.proofs.lemmas.Int.{ints}
use Rattle.std.proofs.lemmas.Bool.{cases_order}

pub cmp-shifted : (k a b : ℕ) → nat_cmp (k + a) (k + b) ≡ nat_cmp a b
cmp-shifted k a b = ⊎_elim
    (λ (e : a ≡ b). sym (nat_cmp_is (k + a) (k + b) Equal (omega arith)) ∙ nat_cmp_is a b Equal e)
    (λ (h : (a < b) ⊎ (b < a)). ⊎_elim
    (λ (l : a < b). sym (nat_cmp_is (k + a) (k + b) Less (omega arith)) ∙ nat_cmp_is a b Less l)
    (λ (r : b < a). sym (nat_cmp_is (k + a) (k + b) Greater (omega arith)) ∙ nat_cmp_is a b Greater r) h)
    (cases_order a b)

pub cmp-pos : (a b : ℕ) → nat_cmp a b ≡ int_cmp (pos a) (pos b)
cmp-pos a b = ⊎_elim
    (λ (e : a ≡ b). sym (nat_cmp_is a b Equal e) ∙ int_cmp_is (pos a) (pos b) Equal (ap pos e))
    (λ (h : (a < b) ⊎ (b < a)). ⊎_elim
    (λ (l : a < b). sym (nat_cmp_is a b Less l) ∙ int_cmp_is (pos a) (pos b) Less (omega (arith, ints)))
    (λ (r : b < a). sym (nat_cmp_is a b Greater r) ∙ int_cmp_is (pos a) (pos b) Greater (omega (arith, ints))) h)
    (cases_order a b)
