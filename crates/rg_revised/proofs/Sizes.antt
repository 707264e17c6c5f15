-- The sizes of sums over columns, and rows that are added.
use Rattle.std.proofs.Common.{◌≡◌, ⊎_elim, ℕ, zero, suc, ◌+◌, ◌*◌, ◌-◌, ◌^◌, ◌<◌, ◌≤◌, ◌==◌, if◌then◌else◌, List, length, ap, refl, subst, sym, ◌∙◌, arith, le_refl, le_trans, get_or-set_other, get_or-set_same}
use Rattle.std.proofs.Math.ListN.{set, length-set}
use Rattle.std.proofs.Math.Nat.{mul-le-mul}
use Rattle.std.proofs.lemmas.Int.{ints, fits_signed_from_abs}
use Rattle.std.specs.Int.{w64}
use Rattle.std.specs.Prelude.{ℤ, pos, ◌+ℤ◌, ◌*ℤ◌, unsigned_abs, FitsSigned}
use Rattle.std.proofs.Math.IntN.{*ℤ-zero}
use Rattle.rg_integers.specs.Range.{InRange}
use Rattle.rg_integers.specs.Sum.{number_at, sum_below}
use Rattle.rg_integers.proofs.Signs.{abs-plus, abs-times}
use Rattle.rg_linear.specs.Room.{total}
use Rattle.rg_linear.specs.Norm.{row_norm}
use Rattle.rg_linear.proofs.Members.{equal_or_not, differs, same}
use Rattle.rg_revised.specs.Reading.{IsSmallRow, IsAdded}
use Rattle.rg_revised.specs.Long.{IsSummable}
use Rattle.rg_revised.proofs.Small.{abs-sum, total-times, total_more}

pub total_one : (n t : ℕ) (g : ℕ → ℕ) → t < n → g t ≤ total n g
total_one n t g lt = let le = total_more (suc t) n g lt in omega arith

pub fits_64 : (z : ℤ) → unsigned_abs z < 2 ^ 63 → FitsSigned w64 z
fits_64 z h = fits_signed_from_abs w64 z h

-- the sum over the first columns
part_size : (most : ℕ) (coeffs : List ℤ) (x : ℕ → ℤ) (n : ℕ) → n ≤ length coeffs → ((t : ℕ) → t < length coeffs → unsigned_abs (x t) ≤ most)
    → unsigned_abs (sum_below n (λ t. number_at coeffs t *ℤ x t)) ≤ total (length coeffs) (λ t. unsigned_abs (number_at coeffs t)) * most
part_size most coeffs x n le each = le_trans
    (subst (λ m. unsigned_abs (sum_below n (λ t. number_at coeffs t *ℤ x t)) ≤ m) (total-times n (λ t. unsigned_abs (number_at coeffs t)) most)
    (abs-sum n (λ t. number_at coeffs t *ℤ x t) (λ t. unsigned_abs (number_at coeffs t) * most)
    (λ t lt. abs-times (number_at coeffs t) (x t) (unsigned_abs (number_at coeffs t)) most (le_refl (unsigned_abs (number_at coeffs t))) (each t (omega arith)))))
    (mul-le-mul (total_more n (length coeffs) (λ t. unsigned_abs (number_at coeffs t)) le) (le_refl most))

-- that over all, with a share of the constant
whole_size : (most : ℕ) (coeffs : List ℤ) (constant : ℤ) (x : ℕ → ℤ) (d : ℤ) → ((t : ℕ) → t < length coeffs → unsigned_abs (x t) ≤ most) → unsigned_abs d ≤ most
    → unsigned_abs (sum_below (length coeffs) (λ t. number_at coeffs t *ℤ x t) +ℤ (d *ℤ constant)) ≤ row_norm coeffs constant * most
whole_size most coeffs constant x d each h = le_trans
    (abs-plus _ (d *ℤ constant) _ (most * unsigned_abs constant) (part_size most coeffs x (length coeffs) (le_refl (length coeffs)) each)
    (abs-times d constant most (unsigned_abs constant) h (le_refl (unsigned_abs constant))))
    (joined (total (length coeffs) (λ t. unsigned_abs (number_at coeffs t))) (unsigned_abs constant))
  where
    joined : (a c : ℕ) → a * most + most * c ≤ (a + c) * most
    joined a c = omega arith

module _ (norm most : ℕ) (coeffs : List ℤ) (constant : ℤ) (small : IsSmallRow norm most coeffs constant) where
  sizes : ℕ → ℕ
  sizes t = unsigned_abs (number_at coeffs t)

  norm_fits : (n : ℕ) → n ≤ norm → n < 2 ^ 63
  norm_fits n h =
      let a = small.0 in
      let b = small.2 in
      let m = mul-le-mul (le_refl (norm + 1)) a in
      omega arith

  product_fits : (n : ℕ) → n ≤ norm * most → n < 2 ^ 63
  product_fits n h = let b = small.2 in omega arith

  pub coefficient_fits : (t : ℕ) → t < length coeffs → FitsSigned w64 (number_at coeffs t)
  coefficient_fits t lt = fits_64 (number_at coeffs t) (norm_fits _ (let a = total_one (length coeffs) t (λ j. unsigned_abs (number_at coeffs j)) lt in let b = small.1 in omega arith))

  pub constant_fits : FitsSigned w64 constant
  constant_fits = fits_64 constant (norm_fits _ (let b = small.1 in omega arith))

  pub term_fits : (t : ℕ) (x : ℤ) → t < length coeffs → unsigned_abs x ≤ most → FitsSigned w64 (number_at coeffs t *ℤ x)
  term_fits t x lt h = fits_64 _
      (product_fits _ (le_trans (abs-times (number_at coeffs t) x norm most (let a = total_one (length coeffs) t (λ j. unsigned_abs (number_at coeffs j)) lt in let b = small.1 in omega arith) h)
      (le_refl (norm * most))))

  pub sum_fits : (x : ℕ → ℤ) (n : ℕ) → n ≤ length coeffs → ((t : ℕ) → t < length coeffs → unsigned_abs (x t) ≤ most) → FitsSigned w64 (sum_below n (λ t. number_at coeffs t *ℤ x t))
  sum_fits x n le each = fits_64 _ (product_fits _ (le_trans (part_size most coeffs x n le each) (mul-le-mul (let b = small.1 in less b) (le_refl most))))
    where
      less : row_norm coeffs constant ≤ norm → total (length coeffs) (λ t. unsigned_abs (number_at coeffs t)) ≤ norm
      less b = omega arith

  pub share_fits : (d : ℤ) → unsigned_abs d ≤ most → FitsSigned w64 (d *ℤ constant)
  share_fits d h = fits_64 _ (product_fits _ (le_trans (abs-times d constant most norm h (let b = small.1 in omega arith)) (turned most norm)))
    where
      turned : (a b : ℕ) → a * b ≤ b * a
      turned a b = omega arith

  pub whole_fits : (x : ℕ → ℤ) (d : ℤ) → ((t : ℕ) → t < length coeffs → unsigned_abs (x t) ≤ most) → unsigned_abs d ≤ most
      → FitsSigned w64 (sum_below (length coeffs) (λ t. number_at coeffs t *ℤ x t) +ℤ (d *ℤ constant))
  whole_fits x d each h = fits_64 _ (product_fits _ (le_trans (whole_size most coeffs constant x d each h) (mul-le-mul small.1 (le_refl most))))

  pub sum_small : (x : ℕ → ℤ) → ((t : ℕ) → t < length coeffs → unsigned_abs (x t) ≤ most) → unsigned_abs (sum_below (length coeffs) (λ t. number_at coeffs t *ℤ x t)) ≤ 2 ^ 63 - 1
  sum_small x each =
      let p = part_size most coeffs x (length coeffs) (le_refl (length coeffs)) each in
      let a : total (length coeffs) (λ t. unsigned_abs (number_at coeffs t)) ≤ norm = (let b = small.1 in omega arith) in
      let m = mul-le-mul a (le_refl most) in
      let b = small.2 in
      omega arith

  pub whole_small : (x : ℕ → ℤ) (d : ℤ) → ((t : ℕ) → t < length coeffs → unsigned_abs (x t) ≤ most) → unsigned_abs d ≤ most
      → unsigned_abs (sum_below (length coeffs) (λ t. number_at coeffs t *ℤ x t) +ℤ (d *ℤ constant)) ≤ 2 ^ 63 - 1
  whole_small x d each h =
      let p = whole_size most coeffs constant x d each h in
      let m = mul-le-mul small.1 (le_refl most) in
      let b = small.2 in
      omega arith

-- ---- sums in 128 bits

module _ (norm most : ℕ) (coeffs : List ℤ) (constant : ℤ) (small : IsSummable norm most coeffs constant) where
  pub product_in_range : (z : ℤ) (n : ℕ) → n ≤ norm → unsigned_abs z ≤ n * most → InRange z
  product_in_range z n le h =
      let a = small.1 in
      let b = small.2 in
      let x : n ≤ 2 ^ 63 - 1 = omega arith in
      let y : most ≤ 2 ^ 63 - 1 = omega arith in
      let m = mul-le-mul x y in
      omega arith

  pub coefficient_short : (t : ℕ) → t < length coeffs → FitsSigned w64 (number_at coeffs t)
  coefficient_short t lt = fits_64 (number_at coeffs t)
      (let a = total_one (length coeffs) t (λ j. unsigned_abs (number_at coeffs j)) lt in let b = small.0 in let c = small.1 in omega arith)

  pub constant_short : FitsSigned w64 constant
  constant_short = fits_64 constant (let b = small.0 in let c = small.1 in omega arith)

  pub part_in_range : (x : ℕ → ℤ) (n : ℕ) → n ≤ length coeffs → ((t : ℕ) → t < length coeffs → unsigned_abs (x t) ≤ most) → InRange (sum_below n (λ t. number_at coeffs t *ℤ x t))
  part_in_range x n le each = product_in_range (sum_below n (λ t. number_at coeffs t *ℤ x t)) _ (less small.0) (part_size most coeffs x n le each)
    where
      less : row_norm coeffs constant ≤ norm → total (length coeffs) (λ t. unsigned_abs (number_at coeffs t)) ≤ norm
      less b = omega arith

  pub whole_in_range : (x : ℕ → ℤ) (d : ℤ) → ((t : ℕ) → t < length coeffs → unsigned_abs (x t) ≤ most) → unsigned_abs d ≤ most
      → InRange (sum_below (length coeffs) (λ t. number_at coeffs t *ℤ x t) +ℤ (d *ℤ constant))
  whole_in_range x d each h = product_in_range (sum_below (length coeffs) (λ t. number_at coeffs t *ℤ x t) +ℤ (d *ℤ constant)) _ small.0 (whole_size most coeffs constant x d each h)

-- ---- a row is added

own_index : (t : ℕ) (d : ℤ) → (if t == t then d else pos 0) ≡ d
own_index t d = rw (same t) refl

pub own_at : (row : List ℤ) (t : ℕ) (d : ℤ) → ((s : ℕ) → s < length row → number_at row s ≡ (if s == t then d else pos 0)) → t < length row → number_at row t ≡ d
own_at row t d own lt = own t lt ∙ own_index t d

pub own_added : (by d : ℤ) (row old : List ℤ) (t : ℕ) (z : ℤ) → ((s : ℕ) → s < length row → number_at row s ≡ (if s == t then d else pos 0)) → length row ≡ length old → t < length old
    → z ≡ number_at old t +ℤ (by *ℤ d) → IsAdded by row old (set old t z)
own_added by d row old t z own size lt is = record {
  same_length = length-set old t z;
  numbers = λ s less. ⊎_elim (λ e. here s e) (λ ne. get_or-set_other old t s z (pos 0) ne ∙ stays (number_at old s) by (number_at row s) (own s (omega arith) ∙ rw (differs s t ne) refl))
      (equal_or_not s t);
}
  where
    stays : (x b y : ℤ) → y ≡ pos 0 → x ≡ x +ℤ (b *ℤ y)
    stays x b y e = rw e (let n = *ℤ-zero b in omega (arith, ints))

    here : (s : ℕ) → s ≡ t → number_at (set old t z) s ≡ number_at old s +ℤ (by *ℤ number_at row s)
    here s e = subst (λ x. number_at (set old t z) x ≡ number_at old x +ℤ (by *ℤ number_at row x)) (sym e)
        (get_or-set_same old t z (pos 0) lt ∙ is ∙ ap (λ y. number_at old t +ℤ (by *ℤ y)) (sym (own_at row t d own (omega arith))))
