-- The sizes of sums over the columns whose constant is not 0.
use Rattle.std.proofs.Common.{◌≡◌, ℕ, ◌+◌, ◌*◌, ◌^◌, ◌<◌, ◌≤◌, List, [], ◌∷◌, length, take, get_or, ap, refl, subst, sym, ◌∙◌, arith, le_refl, le_trans, mul-le-mul}
use Rattle.std.proofs.Math.IntN.{*ℤ-zero}
use Rattle.std.proofs.lemmas.List.Sums.{sum_by-cons, sum_by-take-le}
use Rattle.std.specs.List.{sum_by}
use Rattle.std.specs.Int.{w64}
use Rattle.std.proofs.lemmas.Int.{ints}
use Rattle.std.specs.Prelude.{ℤ, pos, ◌+ℤ◌, ◌*ℤ◌, unsigned_abs, FitsSigned}
use Rattle.rg_integers.specs.Range.{InRange}
use Rattle.rg_integers.specs.Sum.{number_at, sum_below, sum_over}
use Rattle.rg_integers.proofs.Signs.{abs-plus, abs-times}
use Rattle.rg_linear.specs.Norm.{row_norm}
use Rattle.rg_linear.specs.Room.{total}
use Rattle.rg_revised.specs.Rows.{RowWithin}
use Rattle.rg_revised.specs.Reading.{IsSmallRow, AreNamed}
use Rattle.rg_revised.specs.Long.{IsSummable}
use Rattle.rg_revised.proofs.Indices.{next_total}
use Rattle.rg_revised.proofs.Small.{abs-sum, total-times}
use Rattle.rg_revised.proofs.Sizes.{fits_64, product_in_range}

sum_size : (f : ℕ → ℤ) (xs : List ℕ) → unsigned_abs (sum_over f xs) ≤ sum_by (λ t. unsigned_abs (f t)) xs
sum_size f [] = le_refl 0
sum_size f (x ∷ xs) = subst (λ n. unsigned_abs (f x +ℤ sum_over f xs) ≤ n) (sym (sum_by-cons (λ t. unsigned_abs (f t)) x xs))
    (abs-plus (f x) (sum_over f xs) (unsigned_abs (f x)) (sum_by (λ t. unsigned_abs (f t)) xs) (le_refl (unsigned_abs (f x))) (sum_size f xs))

sum_whole : (g : ℕ → ℕ) (xs : List ℕ) → sum_over (λ t. pos (g t)) xs ≡ pos (sum_by g xs)
sum_whole g [] = refl
sum_whole g (x ∷ xs) = ap (λ z. pos (g x) +ℤ z) (sum_whole g xs) ∙ ap pos (sym (sum_by-cons g x xs))

module _ (most : ℕ) (coeffs constants : List ℤ) (constant d : ℤ) (indices : List ℕ) (named : AreNamed constants indices)
    (columns : length constants ≡ length coeffs) (within : RowWithin most constants) (d_within : unsigned_abs d ≤ most) where
  abbrev size_of : ℕ → ℕ
  size_of t = unsigned_abs (number_at coeffs t *ℤ number_at constants t)

  named_size : sum_by size_of indices ≤ total (length coeffs) (λ t. unsigned_abs (number_at coeffs t)) * most
  named_size =
      let whole = sym (sum_whole size_of indices)
      ∙ named (λ t. pos (size_of t)) (λ t lt none. ap (λ z. pos (unsigned_abs (number_at coeffs t *ℤ z))) none ∙ ap (λ z. pos (unsigned_abs z)) (*ℤ-zero (number_at coeffs t)))
      ∙ ap (λ n. sum_below n (λ t. pos (size_of t))) columns in
      let b = abs-sum (length coeffs) (λ t. pos (size_of t)) (λ t. unsigned_abs (number_at coeffs t) * most)
      (λ t lt. abs-times (number_at coeffs t) (number_at constants t) (unsigned_abs (number_at coeffs t)) most (le_refl (unsigned_abs (number_at coeffs t))) (within t (omega arith))) in
      subst (λ n. sum_by size_of indices ≤ n) (total-times (length coeffs) (λ t. unsigned_abs (number_at coeffs t)) most)
      (subst (λ z. unsigned_abs z ≤ total (length coeffs) (λ t. unsigned_abs (number_at coeffs t) * most)) (sym whole) b)

  share : unsigned_abs (constant *ℤ d) ≤ unsigned_abs constant * most
  share = abs-times constant d (unsigned_abs constant) most (le_refl (unsigned_abs constant)) d_within

  part_sum_size : (k : ℕ) → unsigned_abs (sum_over (λ t. number_at coeffs t *ℤ number_at constants t) (take k indices) +ℤ (constant *ℤ d)) ≤ row_norm coeffs constant * most
  part_sum_size k =
      let a = le_trans (sum_size (λ t. number_at coeffs t *ℤ number_at constants t) (take k indices)) (le_trans (sum_by-take-le size_of indices k) named_size) in
      le_trans (abs-plus (sum_over (λ t. number_at coeffs t *ℤ number_at constants t) (take k indices)) (constant *ℤ d) _ _ a share)
      (joined (total (length coeffs) (λ t. unsigned_abs (number_at coeffs t))) (unsigned_abs constant))
    where
      joined : (a c : ℕ) → a * most + c * most ≤ (a + c) * most
      joined a c = omega arith

-- ---- in 64 bits

module _ (norm most : ℕ) (coeffs constants : List ℤ) (constant d : ℤ) (indices : List ℕ) (small : IsSmallRow norm most coeffs constant) (named : AreNamed constants indices)
    (columns : length constants ≡ length coeffs) (within : RowWithin most constants) (d_within : unsigned_abs d ≤ most) where
  -- each sum on the way is in range
  pub part_fits : (k : ℕ) → FitsSigned w64 (sum_over (λ t. number_at coeffs t *ℤ number_at constants t) (take k indices) +ℤ (constant *ℤ d))
  part_fits k =
      let m = mul-le-mul small.1 (le_refl most) in
      let r = small.2 in
      fits_64 _ (below (row_norm coeffs constant) (part_sum_size most coeffs constants constant d indices named columns within d_within k) m r)
    where
      below : {z : ℕ} (n : ℕ) → z ≤ n * most → n * most ≤ norm * most → (norm + 1) * most < 2 ^ 63 → z < 2 ^ 63
      below n h m r = omega arith

  pub first_fits : FitsSigned w64 (constant *ℤ d)
  first_fits = subst (FitsSigned w64) (none (constant *ℤ d)) (part_fits 0)
    where
      none : (z : ℤ) → pos 0 +ℤ z ≡ z
      none z = omega (arith, ints)

  pub next_fits : (k : ℕ) (s : ℤ) → k < length indices → s ≡ sum_over (λ t. number_at coeffs t *ℤ number_at constants t) (take k indices) +ℤ (constant *ℤ d)
      → FitsSigned w64 (s +ℤ (number_at coeffs (get_or indices k 0) *ℤ number_at constants (get_or indices k 0)))
  next_fits k s lt is = subst (FitsSigned w64) (sym (next_total (λ t. number_at coeffs t *ℤ number_at constants t) indices k s _ (constant *ℤ d) lt is refl)) (part_fits (k + 1))

-- ---- in 128 bits

module _ (norm most : ℕ) (coeffs constants : List ℤ) (constant d : ℤ) (indices : List ℕ) (small : IsSummable norm most coeffs constant) (named : AreNamed constants indices)
    (columns : length constants ≡ length coeffs) (within : RowWithin most constants) (d_within : unsigned_abs d ≤ most) where
  pub part_sum_in_range : (k : ℕ) → InRange (sum_over (λ t. number_at coeffs t *ℤ number_at constants t) (take k indices) +ℤ (constant *ℤ d))
  part_sum_in_range k = product_in_range norm most coeffs constant small (sum_over (λ t. number_at coeffs t *ℤ number_at constants t) (take k indices) +ℤ (constant *ℤ d)) _ small.0
      (part_sum_size most coeffs constants constant d indices named columns within d_within k)

  pub next_in_range : (k : ℕ) (s : ℤ) → k < length indices → s ≡ sum_over (λ t. number_at coeffs t *ℤ number_at constants t) (take k indices) +ℤ (constant *ℤ d)
      → InRange (s +ℤ (number_at coeffs (get_or indices k 0) *ℤ number_at constants (get_or indices k 0)))
  next_in_range k s lt is = subst InRange (sym (next_total (λ t. number_at coeffs t *ℤ number_at constants t) indices k s _ (constant *ℤ d) lt is refl)) (part_sum_in_range (k + 1))
