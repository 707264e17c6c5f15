-- How many more make a number a multiple.
use Rattle.std.proofs.Common.{◌≡◌, ℕ, suc, ◌+◌, ◌-◌, ◌*◌, ◌/◌, ◌%◌, ◌<◌, ◌≤◌, ◌⊎◌, inl, inr, ap, ◌∙◌, arith}
use Rattle.std.proofs.Math.Nat.{suc-mul, mul-le-mul_right}
use Rattle.std.proofs.lemmas.Nat.{div-add-mod', mod-mul-add, mod_below}
use Rattle.std.proofs.lemmas.Bool.{cases_lt}
use Rattle.rg_theory.specs.Class.{IsMultiple}
use Rattle.rg_case_folds.specs.Placing.{missing}

small_rest : (x n : ℕ) → x < n → x % n ≡ x
small_rest x n lt = ap (λ k. k % n) (from_zero x n) ∙ mod-mul-add 0 n x lt
  where
    from_zero : (x n : ℕ) → x ≡ 0 * n + x
    from_zero x n = omega arith

own_rest : (n : ℕ) → 0 < n → n % n ≡ 0
own_rest n some = ap (λ k. k % n) (once n) ∙ mod-mul-add 1 n 0 some
  where
    once : (n : ℕ) → n ≡ 1 * n + 0
    once n = omega arith

missing_none : (n m : ℕ) → 0 < n → m % n ≡ 0 → missing n m ≡ 0
missing_none n m some e = ap (λ r. (n - r) % n) e ∙ ap (λ k. k % n) (none_off n) ∙ own_rest n some
  where
    none_off : (n : ℕ) → n - 0 ≡ n
    none_off n = omega arith

missing_some : (n m : ℕ) → 0 < m % n → m % n < n → missing n m ≡ n - m % n
missing_some n m some lt = small_rest (n - m % n) n (omega arith)

next_multiple : (q n : ℕ) → suc q * n ≡ q * n + n
next_multiple q n = suc-mul q n

-- nothing between a multiple and the next one is a multiple
none_between : (q n x t : ℕ) → 0 < x → x < n → q * n + x ≡ t * n → ⊥
none_between q n x t some lt e = by (cases_lt q t)
  where
    by : (q < t) ⊎ (t ≤ q) → ⊥
    by (inl less) = let h : suc q * n ≤ t * n = mul-le-mul_right n (omega arith) in omega (arith, h, next_multiple q n)
    by (inr most) = let h : t * n ≤ q * n = mul-le-mul_right n most in omega (arith, h)

pub missing_is_least : (n m : ℕ) → 0 < n → IsMultiple n (m + missing n m) × ((k : ℕ) → k < missing n m → ¬ IsMultiple n (m + k))
missing_is_least n m some = by (cases_lt 0 (m % n))
  where
    parts : m / n * n + m % n ≡ m
    parts = div-add-mod' m n

    rest : m % n < n
    rest = mod_below m n some

    by : (0 < m % n) ⊎ (m % n ≤ 0) → IsMultiple n (m + missing n m) × ((k : ℕ) → k < missing n m → ¬ IsMultiple n (m + k))
    by (inr none) = let e = missing_none n m some (omega arith) in ((m / n, omega (arith, parts, e)), (λ k lt. absurd (omega (arith, e))))
    by (inl more) =
        let e = missing_some n m more rest in
        ((suc (m / n), omega (arith, parts, e, rest, next_multiple (m / n) n)), (λ k lt (t, is). none_between (m / n) n (m % n + k) t (omega arith) (omega (arith, e)) (omega (arith, parts, is))))
