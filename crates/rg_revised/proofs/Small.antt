-- Small numbers in the columns' relations: no term of an exchange is out of range.
use Rattle.std.proofs.Common.{◌≡◌, ◌⊎◌, ℕ, zero, suc, ◌+◌, ◌-◌, ◌*◌, ◌^◌, ◌<◌, ◌≤◌, List, length, ap, subst, sym, inl, inr, arith, le_refl, le_trans}
use Rattle.std.specs.Prelude.{ℤ, pos, ◌*ℤ◌, unsigned_abs}
use Rattle.std.proofs.lemmas.Int.{ints}
use Rattle.std.proofs.lemmas.Bool.{cases_lt}
use Rattle.std.proofs.lemmas.List.{get_or_past}
use Rattle.std.proofs.Math.Nat.{mul-le-mul}
use Rattle.rg_linear.specs.System.{LinearSystem, row_at, entry}
use Rattle.rg_integers.specs.Sum.{sum_below}
use Rattle.rg_linear.specs.Dictionary.{Relation}
use Rattle.rg_linear.specs.Exchange.{AllFit, IsReduced}
use Rattle.rg_linear.specs.Room.{total}
use Rattle.rg_linear.specs.Norm.{norm_at}
use Rattle.rg_integers.proofs.Signs.{abs-plus, abs-times, abs-factor}
use Rattle.rg_revised.specs.Basis.{IsRelationOf, IsBasis, row_over, IsWithin, AreWithin, HasNorms, IsSmall}
use Rattle.rg_revised.proofs.Relations.{reduced_from}
use Rattle.rg_revised.proofs.RowRelations.{row_follows}
use Rattle.rg_revised.proofs.Fitting.{AllWithin, fits_where_small}

-- ---- sums

pub abs-sum : (n : ℕ) (f : ℕ → ℤ) (g : ℕ → ℕ) → ((j : ℕ) → j < n → unsigned_abs (f j) ≤ g j) → unsigned_abs (sum_below n f) ≤ total n g
abs-sum zero f g each = omega (arith, ints)
abs-sum (suc n) f g each = abs-plus (sum_below n f) (f n) (total n g) (g n) (abs-sum n f g (λ j lt. each j (omega arith))) (each n (omega arith))

pub total-times : (n : ℕ) (g : ℕ → ℕ) (b : ℕ) → total n (λ j. g j * b) ≡ total n g * b
total-times zero g b = omega arith
total-times (suc n) g b = let ih = total-times n g b in omega arith

sized : (n : ℕ) (a x : ℕ → ℤ) (b : ℕ) → ((j : ℕ) → j < n → unsigned_abs (x j) ≤ b) → unsigned_abs (sum_below n (λ j. a j *ℤ x j)) ≤ total n (λ j. unsigned_abs (a j)) * b
sized n a x b each = subst (λ m. unsigned_abs (sum_below n (λ j. a j *ℤ x j)) ≤ m) (total-times n (λ j. unsigned_abs (a j)) b)
    (abs-sum n (λ j. a j *ℤ x j) (λ j. unsigned_abs (a j) * b) (λ j lt. abs-times (a j) (x j) (unsigned_abs (a j)) b (le_refl (unsigned_abs (a j))) (each j lt)))

-- ---- a row's norm is over its coefficients, of which those behind the last column aren't counted, and those that are missing are 0

pub total_more : (n m : ℕ) (f : ℕ → ℕ) → n ≤ m → total n f ≤ total m f
total_more n zero f le = let e : n ≡ 0 = omega arith in subst (λ k. total k f ≤ 0) (sym e) (le_refl 0)
total_more n (suc m) f le = go (total_more n m f) (cases_lt m n)
  where
    go : (n ≤ m → total n f ≤ total m f) → (m < n) ⊎ (n ≤ m) → total n f ≤ total (suc m) f
    go more (inl past) = let e : n ≡ suc m = omega arith in subst (λ k. total k f ≤ total (suc m) f) (sym e) (le_refl (total (suc m) f))
    go more (inr least) = let h = more least in omega arith

total_short : (n m : ℕ) (f : ℕ → ℕ) → ((j : ℕ) → m ≤ j → f j ≡ 0) → total n f ≤ total m f
total_short zero m f none = omega arith
total_short (suc n) m f none = go (total_short n m f none) (cases_lt n m)
  where
    go : total n f ≤ total m f → (n < m) ⊎ (m ≤ n) → total (suc n) f ≤ total m f
    go h (inl below) = total_more (suc n) m f below
    go h (inr past) = let e = none n past in omega arith

-- the norm is at least the sum over the columns
norm_over : (system : LinearSystem) (i : ℕ) → total system.columns (λ j. unsigned_abs (entry system i j)) + unsigned_abs (row_at system i).constant ≤ norm_at system.rows i
norm_over system i =
    let h = total_short system.columns (length (row_at system i).coeffs) (λ j. unsigned_abs (entry system i j)) (λ j past. ap unsigned_abs (get_or_past (row_at system i).coeffs j (pos 0) past)) in
    omega arith

-- ---- a row's relation

module _ (system : LinearSystem) (d : ℤ) (relation : ℕ → Relation) (b n : ℕ) (within : AreWithin system b relation) (d_within : unsigned_abs d ≤ b) (norms : HasNorms system n) where
  some_norm : (a c : ℕ) → a + c ≤ n → (a * b + b * c ≤ (n + 1) * b) × (a * b ≤ (n + 1) * b) × (b ≤ (n + 1) * b)
  some_norm a c h = let e = mul-le-mul h (le_refl b) in (omega arith, omega arith, omega arith)

  pub row_within : (i : ℕ) → i < length system.rows → IsWithin ((n + 1) * b) (row_over system d relation i)
  row_within i lt =
      let (whole, part, one) = some_norm (total system.columns (λ j. unsigned_abs (entry system i j))) (unsigned_abs (row_at system i).constant) (le_trans (norm_over system i) (norms i lt)) in
      record {
        d = le_trans d_within one;
        constant = le_trans (abs-plus (sum_below system.columns (λ j. entry system i j *ℤ (relation j).constant)) (d *ℤ (row_at system i).constant) _ _
            (sized system.columns (entry system i) (λ j. (relation j).constant) b (λ j below. (within j below).constant)) (abs-times d (row_at system i).constant b _ d_within (le_refl _))) whole;
        coefficients = λ m. le_trans (sized system.columns (entry system i) (λ j. (relation j).coefficient m) b (λ j below. (within j below).coefficients m)) part;
      }

-- ---- primitive relations have no larger numbers

reduced-within : (b : ℕ) (raw l : Relation) → IsReduced raw l → IsWithin b raw → IsWithin b l
reduced-within b raw l r g = record {
  d = abs-factor r.factor _ _ b r.positive r.d g.d;
  constant = abs-factor r.factor _ _ b r.positive r.constant g.constant;
  coefficients = λ m. abs-factor
      r.factor _ _ b r.positive (r.coefficients m) (g.coefficients m);
}

within_more : (b n : ℕ) (k : Relation) → IsWithin b k → IsWithin ((n + 1) * b) k
within_more b n k g = record { d = raise _ g.d; constant = raise _ g.constant; coefficients = λ m. raise _ (g.coefficients m) }
  where
    raise : (x : ℕ) → x ≤ b → x ≤ (n + 1) * b
    raise x h = omega arith

set_within : (system : LinearSystem) (members : List ℕ) (d : ℤ) (relation : ℕ → Relation) (n b : ℕ) → IsBasis system members d relation → HasNorms system n → AreWithin system b relation
    → unsigned_abs d ≤ b → AllWithin system ((n + 1) * b) members
set_within system members d relation n b basis norms within d_within w k row = at (cases_lt w system.columns)
  where
    at : (w < system.columns) ⊎ (system.columns ≤ w) → IsWithin ((n + 1) * b) k
    at (inl below) = reduced-within _ (relation w) k (reduced_from system members w (relation w) k (basis.columns w below) row) (within_more b n (relation w) (within w below))
    at (inr past) =
        let i : ℕ = w - system.columns in
        let e : system.columns + i ≡ w = omega arith in
        let less = row.variable in
        let lt : i < length system.rows = omega arith in
        reduced-within _ (row_over system d relation i) k
        (reduced_from system members w (row_over system d relation i) k
        (subst (λ x. IsRelationOf system members x (row_over system d relation i)) e (row_follows system members d relation basis i lt)) row)
        (row_within system d relation b n within d_within norms i lt)

-- where numbers of the columns' relations and of the pivot's are small, no term of the exchange is out of range
pub pivot_fits : (system : LinearSystem) (members : List ℕ) (d : ℤ) (relation : ℕ → Relation) (n b largest i j : ℕ) (k : Relation) → IsBasis system members d relation → HasNorms system n
    → AreWithin system b relation → unsigned_abs d ≤ b → IsRelationOf system members i k → IsWithin largest k → ((n + 1) * b) * largest < 2 ^ 126 → AllFit system members i j
pivot_fits system members d relation n b largest i j k basis norms within d_within is small fits = fits_where_small system members i j ((n + 1) * b) largest
    (set_within system members d relation n b basis norms within d_within) (λ l row. reduced-within largest k l (reduced_from system members i k l is row) small) fits

pub small_is_not_wide : (system : LinearSystem) (members : List ℕ) (d : ℤ) (relation : ℕ → Relation) (i j : ℕ) → IsBasis system members d relation → IsSmall system members d relation
    → AllFit system members i j
small_is_not_wide system members d relation i j basis s =
    let all = set_within system members d relation s.norm s.most basis s.norms s.within s.d_within in
    fits_where_small system members i j ((s.norm + 1) * s.most) ((s.norm + 1) * s.most) all (λ k row. all i k row) (square_fits _ s.room)
  where
    square_fits : (b : ℕ) → b < 2 ^ 63 → b * b < 2 ^ 126
    square_fits b h =
        let le : b ≤ 2 ^ 63 - 1 = omega arith in
        let m = mul-le-mul le le in
        omega arith
