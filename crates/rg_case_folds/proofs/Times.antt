-- Numbers times a positive number keep all rows, over as many times the scale; where no constant counts, over the scale 1.
use Rattle.std.proofs.Common.{◌≡◌, ℕ, ◌*◌, ◌<◌, ◌≤◌, false, List, [], ◌∷◌, IsNone, IfSome, Option, Some, None, unwrap_or, refl, sym, ap, subst, ◌∙◌, arith}
use Rattle.std.specs.Prelude.{ℤ, pos, ◌+ℤ◌, ◌-ℤ◌, ◌*ℤ◌, ◌<ℤ◌, ◌≤ℤ◌, unsigned_abs}
use Rattle.std.proofs.Math.IntN.{*ℤ-zero}
use Rattle.std.proofs.lemmas.Int.{ints, by_lt_z, unsigned_abs-mul}
use Rattle.rg_theory.specs.declared.Class.{Class}
use Rattle.rg_theory.specs.declared.Problem.{Problem}
use Rattle.rg_theory.specs.Class.{IsMultiple, AllowsStart}
use Rattle.rg_theory.specs.ClassWords.{HasNumbersInRange}
use Rattle.rg_theory.specs.System.{System}
use Rattle.rg_integers.proofs.Ring.{ring}
use Rattle.rg_integers.proofs.Order.{mul_positive, mul_not_negative, mul_negative}
use Rattle.rg_cert_meaning.specs.Expression.{Term, value_in}
use Rattle.rg_cert_meaning.specs.declared.Variable.{Variable}
use Rattle.rg_cert_meaning.specs.Row.{row_expression, Says}
use Rattle.rg_cert_meaning.specs.declared.RowName.{RowName}
use Rattle.rg_case_folds.specs.Meaning.{value_over, KeepsRowsOver, HasSolution, HasWholeSolutionIn}
use Rattle.rg_case_folds.proofs.CaseRows.{says, said}
use Rattle.rg_case_folds.proofs.Whole.{at_one, solve_kept}
use Rattle.rg_cert_meaning.specs.declared.RowName.TheVariants as row_name
use Rattle.rg_case_folds.proofs.Products.{once}
use Rattle.rg_cert_meaning.specs.declared.Variable.TheVariants.{Tokens}

abbrev pub times : ℤ → (Variable → ℤ) → Variable → ℤ
times n x v = n *ℤ x v

terms_times : (n : ℤ) (x : Variable → ℤ) (ts : List Term) → value_in (times n x) ts ≡ n *ℤ value_in x ts
terms_times n x [] = sym (*ℤ-zero n)
terms_times n x (t ∷ ts) = ap (λ z. (t.coefficient *ℤ (n *ℤ x t.variable)) +ℤ z) (terms_times n x ts) ∙ turn t.coefficient n (x t.variable) (value_in x ts)
  where
    turn : (c n z v : ℤ) → (c *ℤ (n *ℤ z)) +ℤ (n *ℤ v) ≡ n *ℤ ((c *ℤ z) +ℤ v)
    turn c n z v = simp ring

value_times : (n scale c v : ℤ) → (n *ℤ v) +ℤ (c *ℤ (n *ℤ scale)) ≡ n *ℤ (v +ℤ (c *ℤ scale))
value_times n scale c v = simp ring

says_times : (name : RowName) (n z : ℤ) → pos 0 <ℤ n → Says name z → Says name (n *ℤ z)
says_times (row_name.Arc a) n z positive h = ap (λ w. n *ℤ w) h ∙ *ℤ-zero n
says_times name n z positive h = says name (n *ℤ z) (λ none. none) (mul_not_negative n z (omega (arith, ints)) (said name z h))

pub times_over : (lts : System) (class : Class) (problem : Problem) (number : ℕ) (n scale : ℤ) (x : Variable → ℤ) → pos 0 <ℤ n
    → KeepsRowsOver lts class problem number scale x → KeepsRowsOver lts class problem number (n *ℤ scale) (times n x)
times_over lts class problem number n scale x positive keeps name stands =
    let e = row_expression lts class problem number [] name in
    subst (Says name) (sym (ap (λ z. z +ℤ (e.constant *ℤ (n *ℤ scale))) (terms_times n x e.terms) ∙ value_times n scale e.constant (value_in x e.terms)))
    (says_times name n (value_over scale x e) positive (keeps name stands))

-- in a class neither plain nor bounded whole numbers may be multiplied
pub times_keeps : (lts : System) (class : Class) (problem : Problem) (number : ℕ) (n scale : ℤ) (x : Variable → ℤ) → class.plain ≡ false → IsNone class.bound → pos 0 <ℤ n
    → pos 0 <ℤ scale → KeepsRowsOver lts class problem number scale x → KeepsRowsOver lts class problem number (pos 1) (times n x)
times_keeps lts class problem number n scale x plain bound positive above keeps =
    at_one lts class problem number (n *ℤ scale) (times n x) plain bound (mul_positive n scale positive above) (times_over lts class problem number n scale x positive keeps)

-- and are multiples then
pub is_times : (n : ℕ) (z : ℤ) → IsMultiple n (unsigned_abs (pos n *ℤ z))
is_times n z = (unsigned_abs z, unsigned_abs-mul (pos n) z ∙ turn n (unsigned_abs z))
  where
    turn : (a b : ℕ) → a * b ≡ b * a
    turn a b = omega arith

-- so many tokens at the start are allowed where they are so many steps
pub allows_by : (class : Class) (z u : ℤ) → z ≡ pos (unwrap_or class.marking 1) *ℤ u → AllowsStart class (unsigned_abs z)
allows_by class z u e = by class.marking e
  where
    by : (o : Option ℕ) → z ≡ pos (unwrap_or o 1) *ℤ u → IfSome o (λ n. IsMultiple n (unsigned_abs z))
    by None e = tt
    by (Some n) e = subst (λ w. IsMultiple n (unsigned_abs w)) (sym e) (is_times n u)

-- and they are so many steps where they are allowed
pub steps_by : (class : Class) (m : ℕ) → AllowsStart class m → (w : ℤ) × (pos m ≡ pos (unwrap_or class.marking 1) *ℤ w)
steps_by class m allows = by class.marking allows
  where
    turn : (a b : ℕ) → pos (a * b) ≡ pos b *ℤ pos a
    turn a b = omega (arith, ints)

    by : (o : Option ℕ) → IfSome o (λ n. IsMultiple n m) → (w : ℤ) × (pos m ≡ pos (unwrap_or o 1) *ℤ w)
    by None h = (pos m, once (pos m))
    by (Some n) (t, e) = (pos t, ap pos e ∙ turn t n)

pub multiple_positive : (class : Class) → HasNumbersInRange class → pos 0 <ℤ pos (unwrap_or class.marking 1)
multiple_positive class numbers = by class.marking numbers.marking
  where
    by : (o : Option ℕ) → IfSome o (λ n. (0 < n) × (n ≤ 255)) → pos 0 <ℤ pos (unwrap_or o 1)
    by None h = omega (arith, ints)
    by (Some n) (some, few) = omega (arith, ints)

-- in a class neither plain nor bounded each solution gives a whole one
pub whole_of_solution : (lts : System) (class : Class) (problem : Problem) (number : ℕ) → class.plain ≡ false → IsNone class.bound → HasNumbersInRange class
    → HasSolution lts class problem number → HasWholeSolutionIn lts class problem number
whole_of_solution lts class problem number plain bound numbers (scale, x, positive, keeps) =
    let n = pos (unwrap_or class.marking 1) in
    solve_kept lts class problem number (times n x) (times_keeps lts class problem number n scale x plain bound (multiple_positive class numbers) positive keeps)
    (allows_by class (n *ℤ x (Tokens lts.initial)) (x (Tokens lts.initial)) refl)

-- ---- where the start is whole, no rest is left

-- k*a + r = k*m with a rest r below k
pub rest_none : (k a r m : ℤ) → pos 0 ≤ℤ r → r <ℤ k → (k *ℤ a) +ℤ r ≡ k *ℤ m → (r ≡ pos 0) × (a ≡ m)
rest_none k a r m low high e =
    let part : k *ℤ (m -ℤ a) ≡ r = simp ring (omega (arith, ints)) in
    let same : m -ℤ a ≡ pos 0 = by_lt_z (m -ℤ a) (pos 0)
    (λ less. (let h = mul_negative (m -ℤ a) k less (omega (arith, ints)) in let t : (m -ℤ a) *ℤ k ≡ k *ℤ (m -ℤ a) = simp ring in absurd (omega (arith, ints))))
    (λ most. by_lt_z (m -ℤ a) (pos 1) (λ few. omega (arith, ints))
    (λ more. (let h = mul_not_negative ((m -ℤ a) -ℤ pos 1) k (omega (arith, ints)) (omega (arith, ints)) in
    let t : ((m -ℤ a) -ℤ pos 1) *ℤ k ≡ (k *ℤ (m -ℤ a)) -ℤ k = simp ring (omega (arith, ints)) in absurd (omega (arith, ints))))) in
    let nothing : k *ℤ (m -ℤ a) ≡ pos 0 = ap (λ z. k *ℤ z) same ∙ *ℤ-zero k in
    (omega (arith, ints), omega (arith, ints))

-- a whole number of steps of the start, at numbers over the scale with a rest
pub start_steps : (n : ℕ) (k z a r u : ℤ) → pos 0 ≤ℤ r → r <ℤ k → z ≡ (k *ℤ a) +ℤ r → z ≡ k *ℤ (pos n *ℤ u) → a ≡ pos n *ℤ u
start_steps n k z a r u low high parts whole = (rest_none k a r (pos n *ℤ u) low high (sym parts ∙ whole)).1
