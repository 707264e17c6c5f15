-- Sums of absolute values that are no greater than a sum in range.
use Rattle.std.proofs.Common.{◌≡◌, ℕ, suc, ◌+◌, ◌^◌, ◌<◌, ◌≤◌, Bool, true, false, if◌then◌else◌, List, [], ◌∷◌, length, Option, Some, None, Result, Ok, Err, Contains, ap, refl, subst, sym, ◌∙◌, arith}
use Rattle.std.specs.Prelude.{ℤ, pos, neg_ℤ, ◌-ℤ◌, ◌*ℤ◌, unsigned_abs}
use Rattle.std.proofs.Math.Nat.{mul-le-mul_left}
use Rattle.std.proofs.lemmas.Int.{ints, unsigned_abs-mul}
use Rattle.rg_integers.specs.Range.{InRange}
use Rattle.rg_integers.specs.Sign.{size}
use Rattle.rg_integers.proofs.Ranges.{in_range-neg}
use Rattle.rg_integers.proofs.Signs.{abs-plus}
use Rattle.rg_integers.specs.declared.term.Wide.{Wide}
use Rattle.rg_cert_meaning.specs.Expression.{same_variable, coefficient_in}
use Rattle.rg_cert_meaning.specs.declared.Variable.{Variable}
use Rattle.rg_cert_data.specs.declared.term.Term.{Term}
use Rattle.rg_cert_data.specs.declared.term.Term.TheVariants.{Plus, Minus}
use Rattle.rg_cert_data.specs.Sums.{term_of, terms_in}
use Rattle.rg_folds.specs.Fold.{each, further, whole_sum, whole_product}
use Rattle.rg_farkas.specs.declared.multiplied.Row.{Row}
use Rattle.rg_farkas.specs.View.{size_fold, coefficient_at}

-- ---- products and sums that are in range

pub fits_product : (x y : ℤ) → InRange (x *ℤ y) → whole_product x y (Ok ((x *ℤ y) -ℤ (pos 0 *ℤ pos 0)))
fits_product x y range = (record { left = range; right = omega arith; difference = subst InRange (same (x *ℤ y)) range }, refl)
  where
    same : (p : ℤ) → p ≡ p -ℤ (pos 0 *ℤ pos 0)
    same p = omega (arith, ints)

fits_sum : (m n : ℕ) → m + n < 2 ^ 127 → whole_sum (pos m) (pos n) (Ok (pos (m + n)))
fits_sum m n lt = (
  record {
    left = subst InRange (one m) (omega arith);
    right = subst InRange (other n) (in_range-neg (pos n) (omega arith));
    difference = subst InRange (whole m n) (omega arith);
  },
  whole m n,
)
  where
    one : (m : ℕ) → pos m ≡ pos m *ℤ pos 1
    one m = omega (arith, ints)

    other : (n : ℕ) → neg_ℤ (pos n) ≡ neg_ℤ (pos n) *ℤ pos 1
    other n = omega (arith, ints)

    whole : (m n : ℕ) → pos (m + n) ≡ (pos m *ℤ pos 1) -ℤ (neg_ℤ (pos n) *ℤ pos 1)
    whole m n = omega (arith, ints)

pub made_sum : (m n : ℕ) (z : ℤ) → whole_sum (pos m) (pos n) (Ok z) → (z ≡ pos (m + n)) × (m + n < 2 ^ 127)
made_sum m n z (fits, e) = (e ∙ sym (whole m n), small (m + n) (subst InRange (sym (whole m n)) fits.difference))
  where
    whole : (m n : ℕ) → pos (m + n) ≡ (pos m *ℤ pos 1) -ℤ (neg_ℤ (pos n) *ℤ pos 1)
    whole m n = omega (arith, ints)

    small : (k : ℕ) → InRange (pos k) → k < 2 ^ 127
    small k range = range

pub made_product : (x y z : ℤ) → whole_product x y (Ok z) → (z ≡ x *ℤ y) × InRange (x *ℤ y)
made_product x y z (fits, e) = (e ∙ same (x *ℤ y), fits.left)
  where
    same : (p : ℤ) → p -ℤ (pos 0 *ℤ pos 0) ≡ p
    same p = omega (arith, ints)

pub smaller_product : (m x y : ℤ) → unsigned_abs x ≤ unsigned_abs y → unsigned_abs (m *ℤ x) ≤ unsigned_abs (m *ℤ y)
smaller_product m x y le =
    let a = unsigned_abs-mul m x in
    let b = unsigned_abs-mul m y in
    let more = mul-le-mul_left (unsigned_abs m) le in
    omega (arith, a, b, more)

-- ---- one sum and a smaller one

smaller_size : (f g : Row → ℤ) (r : Row) (z : ℤ) → unsigned_abs (f r) ≤ unsigned_abs (g r) → size_fold g r (Ok z)
    → (n : ℕ) × (k : ℕ) × (z ≡ pos n) × (k ≤ n) × size_fold f r (Ok (pos k))
smaller_size f g r z le (x, product, e) =
    let made = made_product r.multiplier (g r) x product in
    let less = smaller_product r.multiplier (f r) (g r) le in (
      unsigned_abs x,
      unsigned_abs (r.multiplier *ℤ f r),
      e,
      subst (λ y. unsigned_abs (r.multiplier *ℤ f r) ≤ unsigned_abs y) (sym made.0) less,
      ((r.multiplier *ℤ f r) -ℤ (pos 0 *ℤ pos 0), fits_product r.multiplier (f r) (omega (arith, less, made.1)), ap size (sym (same (r.multiplier *ℤ f r)))),
    )
  where
    same : (p : ℤ) → p -ℤ (pos 0 *ℤ pos 0) ≡ p
    same p = omega (arith, ints)

pub smaller_sum : (f g : Row → ℤ) (rows : List Row) → ((r : Row) → Contains rows r → unsigned_abs (f r) ≤ unsigned_abs (g r)) → (m n : ℕ) (t : ℤ) → m ≤ n
    → further whole_sum (size_fold g) (pos n) rows (Ok t) → (s : ℤ) × further whole_sum (size_fold f) (pos m) rows (Ok s)
smaller_sum f g [] less m n t le e = (pos m, refl)
smaller_sum f g (r ∷ rows) less m n t le (z, made, (more, joins, rest)) =
    let (a, b, is, below, own) = smaller_size f g r z (less r (0, omega arith, refl)) made in
    let sum = made_sum n a more (subst (λ y. whole_sum (pos n) y (Ok more)) is joins) in
    let (s, later) = smaller_sum f g rows (λ u (k, lt, e). less u (suc k, omega arith, e)) (m + b) (n + a) t (omega (arith, below))
    (subst (λ y. further whole_sum (size_fold g) y rows (Ok t)) sum.0 rest) in
    (s, (pos b, own, (pos (m + b), fits_sum m b (omega (arith, sum.1, below)), later)))

-- ---- coefficients

pub coefficient_most : (entries : List (Option Term)) (v : Variable) → unsigned_abs (coefficient_in (terms_in entries) v) ≤ length entries
coefficient_most [] v = omega arith
coefficient_most (None ∷ more) v = let rest = coefficient_most more v in omega arith
coefficient_most (Some t ∷ more) v =
    let both = abs-plus (if same_variable (term_of t).variable v then (term_of t).coefficient else pos 0) (coefficient_in (terms_in more) v) 1 (length more)
    (one t (same_variable (term_of t).variable v)) (coefficient_most more v) in
    omega (arith, both)
  where
    one : (t : Term) (b : Bool) → unsigned_abs (if b then (term_of t).coefficient else pos 0) ≤ 1
    one (Plus u) true = omega arith
    one (Minus u) true = omega arith
    one t false = omega arith

-- ---- sums for all variables

each_has : {A : Type 0} (make : A → Result ℤ Wide → Type 0) (items : List A) → ((a : A) → (s : ℤ) × make a (Ok s)) → (sums : List ℤ) × each make items (Ok sums)
each_has make [] has = ([], refl)
each_has make (a ∷ items) has =
    let (s, made) = has a in
    let (sums, rest) = each_has make items has in
    (s ∷ sums, (s, made, (sums, rest, refl)))

-- where the sum of three times the multipliers is in range, each variable's is
pub all_summed : (rows : List Row) (t : ℤ) → further whole_sum (size_fold (λ r. pos 3)) (pos 0) rows (Ok t) → (variables : List Variable)
    → (sums : List ℤ) × each (λ v. further whole_sum (size_fold (coefficient_at v)) (pos 0) rows) variables (Ok sums)
all_summed rows t most variables = each_has (λ v. further whole_sum (size_fold (coefficient_at v)) (pos 0) rows) variables
    (λ v. smaller_sum (coefficient_at v) (λ r. pos 3) rows
    (λ r has. subst (λ n. unsigned_abs (coefficient_at v r) ≤ n) r.expression.places (coefficient_most r.expression.terms v)) 0 0 t (omega arith) most)

-- a result that is Ok
pub all_summed_where : (rows : List Row) (r : Result ℤ Wide) → further whole_sum (size_fold (λ r. pos 3)) (pos 0) rows r → Rattle.std.specs.Result.is_ok r ≡ true → (variables : List Variable)
    → (sums : List ℤ) × each (λ v. further whole_sum (size_fold (coefficient_at v)) (pos 0) rows) variables (Ok sums)
all_summed_where rows (Ok t) most ok variables = all_summed rows t most variables
all_summed_where rows (Err w) most ok variables = absurd cc
