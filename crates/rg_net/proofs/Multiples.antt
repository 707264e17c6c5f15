-- Multiples, told by the rest.
use Rattle.std.proofs.Common.{◌≡◌, ◌≢◌, ◌↔◌, ℕ, zero, suc, ◌+◌, ◌*◌, ◌/◌, ◌%◌, ◌<◌, ◌==◌, IsTrue, eqb-true, eq-eqb, refl, ap, ◌∙◌, arith}
use Rattle.std.proofs.lemmas.Nat.{div-add-mod', mod-mul-add}
use Rattle.rg_theory.specs.Class.{IsMultiple}

pub multiple_by_rest : (n m : ℕ) → n ≢ 0 → IsTrue ((m % n) == 0) ↔ IsMultiple n m
multiple_by_rest n m some = (
  (λ is. (m / n, whole m (m / n * n) (m % n) (div-add-mod' m n) (eqb-true (m % n) 0 is))),
  (λ (times, e). eq-eqb (m % n) 0 (ap (λ k. k % n) (e ∙ more (times * n)) ∙ mod-mul-add times n 0 (positive n some))),
)
  where
    whole : (m k r : ℕ) → k + r ≡ m → r ≡ 0 → m ≡ k
    whole m k r e none = omega arith

    more : (k : ℕ) → k ≡ k + 0
    more k = omega arith

    positive : (n : ℕ) → n ≢ 0 → 0 < n
    positive zero some = absurd (some refl)
    positive (suc n) some = omega arith
