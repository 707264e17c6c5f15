-- Sums over the numbers that pass a test, and over those that do not.
use Rattle.std.proofs.Common.{◌≡◌, ℕ, zero, suc, ◌+◌, not, Bool, true, false, if◌then◌else◌, ◌∷◌, ap, ap₂, sym, ◌∙◌, arith}
use Rattle.std.specs.Prelude.{ℤ, pos, ◌+ℤ◌}
use Rattle.std.proofs.lemmas.Int.{ints}
use Rattle.rg_integers.specs.Sum.{sum_below, sum_over}
use Rattle.rg_integers.proofs.Sums.{sum_below-same, sum_below-split}
use Rattle.rg_folds.specs.Substitution.{numbers_where}

-- the numbers that pass a test and those that do not are all numbers
pub both_sums : (test : ℕ → Bool) (g : ℕ → ℤ) (a n : ℕ) → sum_over g (numbers_where test a n) +ℤ sum_over g (numbers_where (λ t. not (test t)) a n) ≡ sum_below n (λ i. g (a + i))
both_sums test g a zero = omega (arith, ints)
both_sums test g a (suc n) = go (test a) (both_sums test g (suc a) n)
  where
    front : sum_below (suc n) (λ i. g (a + i)) ≡ g a +ℤ sum_below n (λ i. g (suc a + i))
    front = ap (λ k. sum_below k (λ i. g (a + i))) (one_more n) ∙ sum_below-split 1 n (λ i. g (a + i))
        ∙ ap₂ (λ x y. (pos 0 +ℤ x) +ℤ y) (ap g (last a)) (sum_below-same n (λ i. g (a + (1 + i))) (λ i. g (suc a + i)) (λ i lt. ap g (shift a i)))
        ∙ none (g a) (sum_below n (λ i. g (suc a + i)))
      where
        one_more : (n : ℕ) → suc n ≡ 1 + n
        one_more n = omega arith

        last : (a : ℕ) → a + 0 ≡ a
        last a = omega arith

        shift : (a i : ℕ) → a + (1 + i) ≡ suc a + i
        shift a i = omega arith

        none : (x y : ℤ) → (pos 0 +ℤ x) +ℤ y ≡ x +ℤ y
        none x y = omega (arith, ints)

    go : (b : Bool) → sum_over g (numbers_where test (suc a) n) +ℤ sum_over g (numbers_where (λ t. not (test t)) (suc a) n) ≡ sum_below n (λ i. g (suc a + i))
        → sum_over g (if b then (a ∷ numbers_where test (suc a) n) else numbers_where test (suc a) n) +ℤ sum_over g
        (if not b then (a ∷ numbers_where (λ t. not (test t)) (suc a) n) else numbers_where (λ t. not (test t)) (suc a) n) ≡ sum_below (suc n) (λ i. g (a + i))
    go true ih = close (g a) (sum_over g (numbers_where test (suc a) n)) (sum_over g (numbers_where (λ t. not (test t)) (suc a) n)) (sum_below n (λ i. g (suc a + i))) ih ∙ sym front
      where
        close : (x y z s : ℤ) → y +ℤ z ≡ s → (x +ℤ y) +ℤ z ≡ x +ℤ s
        close x y z s e = omega (arith, ints)
    go false ih = close (g a) (sum_over g (numbers_where test (suc a) n)) (sum_over g (numbers_where (λ t. not (test t)) (suc a) n)) (sum_below n (λ i. g (suc a + i))) ih ∙ sym front
      where
        close : (x y z s : ℤ) → y +ℤ z ≡ s → y +ℤ (x +ℤ z) ≡ x +ℤ s
        close x y z s e = omega (arith, ints)
