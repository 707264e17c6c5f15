-- Taking the common factor out of a relation.
use Rattle.std.proofs.Common.{◌≡◌, ⊎_elim, ℕ, ◌*◌, ◌<◌, ◌≤◌, List, Contains, ap, ap₂, subst, sym, ◌∙◌, arith}
use Rattle.std.specs.Prelude.{ℤ, pos, ◌+ℤ◌, ◌*ℤ◌, ◌≤ℤ◌, ◌<ℤ◌, unsigned_abs, int_div}
use Rattle.std.specs.Int.{IsGcd, ◌∣◌}
use Rattle.std.proofs.lemmas.Int.{ints, unsigned_abs-mul}
use Rattle.std.proofs.lemmas.Bool.{cases_lt}
use Rattle.std.proofs.lemmas.Nat.Gcd.{dvd_trans, dvd-zero}
use Rattle.std.proofs.Math.Nat.{pos_of_dvd_of_pos, mul-dvd-mul_right, dvd_of_mul-dvd-mul_right, eq-one_of_dvd-one}
use Rattle.rg_linear.specs.System.{LinearSystem, variables}
use Rattle.rg_integers.specs.Sum.{sum_below}
use Rattle.rg_linear.specs.Dictionary.{IsFree, Relation, Holds, IsOver, DictionaryRow}
use Rattle.rg_linear.specs.Exchange.{IsReduced}
use Rattle.rg_integers.proofs.Ring.{mul_assoc, mul-add}
use Rattle.std.proofs.Math.IntN.{*ℤ_comm}
use Rattle.rg_integers.proofs.Order.{mul-cancel_left, mul_is_zero, positive_differs, factor_positive}
use Rattle.rg_integers.specs.Divisor.{gcd_of, IsGcdBelow}
use Rattle.rg_integers.proofs.Divisors.{gcd_of-is, gcd_below, exact}
use Rattle.rg_integers.proofs.Sums.{sum_below-same, sum_below-times}

-- every relation with d other than 0 has a common factor that can be taken out
pub reduce : (raw : Relation) (n : ℕ) → pos 0 <ℤ raw.d → ((m : ℕ) → n ≤ m → raw.coefficient m ≡ pos 0) → (l : Relation) × IsReduced raw l
reduce raw n positive none = (
  divided,
  record {
    factor = pos g;
    positive = factor_positive_lem;
    d = sym (out raw.d d_divided);
    constant = sym (out raw.constant c_divided);
    coefficients = λ m. sym (out (raw.coefficient m) (m_divided m));
    primitive = λ e de ce me. one e (all.2 (e * g) (first_is.2 (e * g) (scaled e raw.d d_divided de) (scaled e raw.constant c_divided ce))
        (named_is.greatest (e * g) (λ m lt. scaled e (raw.coefficient m) (m_divided m) (me m))));
  },
)
  where
    first : ℕ
    first = gcd_of (unsigned_abs raw.d) (unsigned_abs raw.constant)

    first_is : IsGcd (unsigned_abs raw.d) (unsigned_abs raw.constant) first
    first_is = gcd_of-is (unsigned_abs raw.d) (unsigned_abs raw.constant)

    named : ℕ
    named = (gcd_below n (λ m. unsigned_abs (raw.coefficient m))).0

    named_is : IsGcdBelow n (λ m. unsigned_abs (raw.coefficient m)) named
    named_is = (gcd_below n (λ m. unsigned_abs (raw.coefficient m))).1

    g : ℕ
    g = gcd_of first named

    all : IsGcd first named g
    all = gcd_of-is first named

    d_divided : g ∣ unsigned_abs raw.d
    d_divided = dvd_trans g all.0 first_is.0

    c_divided : g ∣ unsigned_abs raw.constant
    c_divided = dvd_trans g all.0 first_is.1

    size_positive : (z : ℤ) → pos 0 <ℤ z → 0 < unsigned_abs z
    size_positive z h = omega (arith, ints)

    g_positive : 0 < g
    g_positive = pos_of_dvd_of_pos d_divided (size_positive raw.d positive)

    is_positive : (n : ℕ) → 0 < n → pos 0 <ℤ pos n
    is_positive n h = omega (arith, ints)

    factor_positive_lem : pos 0 <ℤ pos g
    factor_positive_lem = is_positive g g_positive

    m_divided : (m : ℕ) → g ∣ unsigned_abs (raw.coefficient m)
    m_divided m = ⊎_elim (λ lt. dvd_trans g all.1 (named_is.divides m lt)) (λ past. subst (λ z. g ∣ unsigned_abs z) (sym (none m past)) (dvd-zero g)) (cases_lt m n)

    divided : Relation
    divided = record { d = int_div raw.d (pos g); constant = int_div raw.constant (pos g); coefficient = λ m. int_div (raw.coefficient m) (pos g) }

    out : (z : ℤ) → g ∣ unsigned_abs z → pos g *ℤ int_div z (pos g) ≡ z
    out z h = *ℤ_comm (pos g) (int_div z (pos g)) ∙ exact z (pos g) h

    scaled : (e : ℕ) (z : ℤ) → g ∣ unsigned_abs z → e ∣ unsigned_abs (int_div z (pos g)) → (e * g) ∣ unsigned_abs z
    scaled e z h d = subst (λ n. (e * g) ∣ n) (sym (unsigned_abs-mul (int_div z (pos g)) (pos g)) ∙ ap unsigned_abs (exact z (pos g) h)) (mul-dvd-mul_right e d g)

    one : (e : ℕ) → (e * g) ∣ g → e ≡ 1
    one e d = eq-one_of_dvd-one (dvd_of_mul-dvd-mul_right {k = g} e g_positive (subst (λ n. (e * g) ∣ n) (sym (one-mul g)) d))
      where
        one-mul : (g : ℕ) → 1 * g ≡ g
        one-mul g = omega arith

-- ---- a relation whose numbers are divided by a positive factor

pub divided-holds : (system : LinearSystem) (w : ℕ) (raw l : Relation) (f : ℤ) → pos 0 <ℤ f → raw.d ≡ f *ℤ l.d → raw.constant ≡ f *ℤ l.constant → ((m : ℕ) → raw.coefficient m ≡ f *ℤ l.coefficient m)
    → Holds system w raw → Holds system w l
divided-holds system w raw l f positive d constant coefficients holds scale v p =
    mul-cancel_left f _ _ (positive_differs f positive)
    (sym (mul_assoc f l.d (v w))
    ∙ ap (λ z. z *ℤ v w) (sym d)
    ∙ holds scale v p
    ∙ ap₂ ◌+ℤ◌ (ap (λ z. z *ℤ scale) constant ∙ mul_assoc f l.constant scale)
    (sum_below-same (variables system) _ _ (λ m lt. ap (λ z. z *ℤ v m) (coefficients m) ∙ mul_assoc f (l.coefficient m) (v m))
    ∙ sum_below-times (variables system) f (λ m. l.coefficient m *ℤ v m))
    ∙ sym (mul-add f (l.constant *ℤ scale) (sum_below (variables system) (λ m. l.coefficient m *ℤ v m))))

pub divided-over : (members : List ℕ) (raw l : Relation) (f : ℤ) → pos 0 <ℤ f → ((m : ℕ) → raw.coefficient m ≡ f *ℤ l.coefficient m) → IsOver members raw → IsOver members l
divided-over members raw l f positive coefficients over m lacks = mul_is_zero (l.coefficient m) f (positive_differs f positive) (*ℤ_comm (l.coefficient m) f ∙ sym (coefficients m) ∙ over m lacks)

pub reduced-positive : (raw l : Relation) → IsReduced raw l → pos 0 <ℤ raw.d → pos 0 <ℤ l.d
reduced-positive raw l r h = let weak : pos 0 ≤ℤ r.factor = not_negative r.factor r.positive in factor_positive r.factor l.d weak (subst (λ z. pos 0 <ℤ z) r.d h)
  where
    not_negative : (z : ℤ) → pos 0 <ℤ z → pos 0 ≤ℤ z
    not_negative z p = omega (arith, ints)

-- a relation that holds over a free set is the one over it, once its common factor is out
pub reduced_row : (system : LinearSystem) (members : List ℕ) (w : ℕ) (raw l : Relation) → IsFree system members → w < variables system
    → ¬ Contains members w → pos 0 <ℤ raw.d → IsOver members raw → Holds system w raw → IsReduced raw l → DictionaryRow system members w l
reduced_row system members w raw l free lt outside positive over holds r = record {
  free = free;
  variable = lt;
  outside = outside;
  positive = reduced-positive raw l r positive;
  over = divided-over members raw l r.factor r.positive r.coefficients over;
  primitive = r.primitive;
  holds = divided-holds system w raw l r.factor r.positive r.d r.constant r.coefficients holds;
}
