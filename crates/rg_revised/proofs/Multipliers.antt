-- The primitive relation of the row that fails: its numbers divided by their common factor.
use Rattle.std.proofs.Common.{◌≡◌, ◌≢◌, ◌⊎◌, Option, Some, unwrap_or, ℕ, zero, suc, ◌+◌, ◌*◌, ◌/◌, ◌<◌, ◌≤◌, List, ◌∷◌, length, get_or, Contains, ap, refl, subst, sym, ◌∙◌, inl, inr, arith}
use Rattle.std.specs.Prelude.{ℤ, pos, neg_ℤ, ◌==◌, if◌then◌else◌, ◌*ℤ◌, ◌<ℤ◌, unsigned_abs}
use Rattle.std.specs.Int.{◌∣◌}
use Rattle.std.proofs.lemmas.Int.{ints, unsigned_abs-mul}
use Rattle.std.proofs.lemmas.Bool.{cases_lt}
use Rattle.std.proofs.lemmas.List.{get_or_default}
use Rattle.std.proofs.lemmas.Nat.Gcd.{dvd-zero}
use Rattle.std.proofs.Math.Nat.{dvd-mul_right, dvd_of_mul-dvd-mul_left, div-mul_cancel}
use Rattle.rg_integers.specs.Sum.{number_at}
use Rattle.rg_integers.proofs.Order.{mul-cancel_left, positive_differs}
use Rattle.rg_linear.specs.System.{LinearSystem, row_variable}
use Rattle.rg_linear.specs.Dictionary.{Relation, DictionaryRow}
use Rattle.rg_linear.specs.Descent.{multiplier_of}
use Rattle.rg_linear.specs.Exchange.{IsReduced}
use Rattle.rg_linear.proofs.Members.{is_member, differs, same}
use Rattle.rg_revised.specs.Held.{AreDistinct, relation_of}
use Rattle.rg_revised.specs.View.{RevisedState}
use Rattle.rg_revised.specs.Settling.{IsCommonFactor, IsRefutedAt}
use Rattle.rg_revised.proofs.Relations.{factor_zero, reduced_from}
use Rattle.rg_linear.proofs.TableLemmas.{beside_none}
use Rattle.rg_revised.proofs.Slots.{beside_at}

module _ (slots : List ℕ) (d : ℤ) (numbers : List ℤ) (k : Relation) (distinct : AreDistinct slots) (width : length numbers ≡ length slots + 1)
    (reduced : IsReduced (relation_of slots d numbers) k) where
  slot_number : (s v : ℕ) → s < length slots → get_or slots s 0 ≡ v → (relation_of slots d numbers).coefficient v ≡ number_at numbers s
  slot_number s v lt e = subst (λ m. (relation_of slots d numbers).coefficient m ≡ number_at numbers s) e (beside_at slots numbers s distinct lt (omega arith))

  -- what divides d and the numbers divides each number of the relation
  divides_coefficient : (g : ℕ) → ((n : ℕ) → n < suc (length numbers) → g ∣ unsigned_abs (number_at (d ∷ numbers) n)) → (m : ℕ) → g ∣ unsigned_abs ((relation_of slots d numbers).coefficient m)
  divides_coefficient g each m = go (is_member slots m)
    where
      go : Contains slots m ⊎ ¬ Contains slots m → g ∣ unsigned_abs ((relation_of slots d numbers).coefficient m)
      go (inl (q, lt, at)) = subst (λ z. g ∣ unsigned_abs z) (sym (slot_number q m lt (at_default slots q m lt at))) (each (suc q) (omega arith))
        where
          at_default : (xs : List ℕ) (q m : ℕ) → q < length xs → get_or xs q m ≡ m → get_or xs q 0 ≡ m
          at_default xs q m lt e = get_or_default xs q 0 m lt ∙ e
      go (inr lacks) = subst (λ z. g ∣ unsigned_abs z) (sym (beside_none slots numbers m lacks)) (dvd-zero g)

  -- the factor divides each number
  factor_divides : (raw part : ℤ) → raw ≡ reduced.factor *ℤ part → unsigned_abs reduced.factor ∣ unsigned_abs raw
  factor_divides raw part e = subst (λ n. unsigned_abs reduced.factor ∣ n) (sym (ap unsigned_abs e ∙ unsigned_abs-mul reduced.factor part))
      (dvd-mul_right (unsigned_abs reduced.factor) (unsigned_abs part))

  number_divides : (n : ℕ) → n < suc (length numbers) → unsigned_abs reduced.factor ∣ unsigned_abs (number_at (d ∷ numbers) n)
  number_divides zero lt = factor_divides d k.d reduced.d
  number_divides (suc s) lt = go (cases_lt s (length slots))
    where
      go : (s < length slots) ⊎ (length slots ≤ s) → unsigned_abs reduced.factor ∣ unsigned_abs (number_at numbers s)
      go (inl below) = subst (λ z. unsigned_abs reduced.factor ∣ unsigned_abs z) (slot_number s (get_or slots s 0) below refl)
          (factor_divides _ (k.coefficient (get_or slots s 0)) (reduced.coefficients (get_or slots s 0)))
      go (inr last) = let e : s ≡ length slots = omega arith in subst (λ n. unsigned_abs reduced.factor ∣ unsigned_abs (number_at numbers n)) (sym e) (factor_divides _ k.constant reduced.constant)

  module _ (factor : ℤ) (common : IsCommonFactor d numbers factor) where
    -- the quotient by the factor divides what is left
    rest_divides : (q : ℕ) → unsigned_abs factor ≡ unsigned_abs reduced.factor * q → (raw part : ℤ) → raw ≡ reduced.factor *ℤ part → unsigned_abs factor ∣ unsigned_abs raw → q ∣ unsigned_abs part
    rest_divides q e raw part is divides = dvd_of_mul-dvd-mul_left q positive
        (subst (λ n. n ∣ unsigned_abs reduced.factor * unsigned_abs part) e (subst (λ n. unsigned_abs factor ∣ n) (ap unsigned_abs is ∙ unsigned_abs-mul reduced.factor part) divides))
      where
        positive : 0 < unsigned_abs reduced.factor
        positive = size (reduced.factor) reduced.positive
          where
            size : (z : ℤ) → pos 0 <ℤ z → 0 < unsigned_abs z
            size z h = omega (arith, ints)

    one_left : (q : ℕ) → unsigned_abs factor ≡ unsigned_abs reduced.factor * q → q ≡ 1
    one_left q e = reduced.primitive q
        (rest_divides q e d k.d reduced.d (common.greatest.divides 0 (omega arith)))
        (rest_divides q e (number_at numbers (length slots)) k.constant reduced.constant (common.greatest.divides (suc (length slots)) (omega arith)))
        (λ m. rest_divides q e _ (k.coefficient m) (reduced.coefficients m) (divides_coefficient (unsigned_abs factor) common.greatest.divides m))

    pub factor_is : factor ≡ reduced.factor
    factor_is = go (common.greatest.greatest (unsigned_abs reduced.factor) number_divides)
      where
        same_size : (a b : ℤ) (q : ℕ) → pos 0 <ℤ a → pos 0 <ℤ b → q ≡ 1 → unsigned_abs a ≡ unsigned_abs b * q → a ≡ b
        same_size a b q h g one e = let f : unsigned_abs a ≡ unsigned_abs b = e ∙ ap (λ n. unsigned_abs b * n) one ∙ times_one (unsigned_abs b) in omega (arith, ints)
          where
            times_one : (n : ℕ) → n * 1 ≡ n
            times_one n = omega arith

        turned : (a b q : ℕ) → q * b ≡ a → a ≡ b * q
        turned a b q e = omega arith

        go : unsigned_abs reduced.factor ∣ unsigned_abs factor → factor ≡ reduced.factor
        go h =
            let q : ℕ = unsigned_abs factor / unsigned_abs reduced.factor in
            let e = turned (unsigned_abs factor) (unsigned_abs reduced.factor) q (div-mul_cancel (unsigned_abs reduced.factor) h) in
            same_size factor reduced.factor q common.positive reduced.positive (one_left q e) e

    pub quotient_is : (raw part z : ℤ) → raw ≡ reduced.factor *ℤ part → factor *ℤ z ≡ raw → z ≡ part
    quotient_is raw part z is e = mul-cancel_left reduced.factor z part (positive_differs reduced.factor reduced.positive) (ap (λ f. f *ℤ z) (sym factor_is) ∙ e ∙ is)

    pub own_multiplier : (z : ℤ) → factor *ℤ z ≡ d → z ≡ k.d
    own_multiplier z e = quotient_is d k.d z reduced.d e

    pub slot_multiplier : (s v : ℕ) (z : ℤ) → s < length slots → get_or slots s 0 ≡ v → factor *ℤ z ≡ number_at numbers s → z ≡ k.coefficient v
    slot_multiplier s v z lt at e = quotient_is _ (k.coefficient v) z (reduced.coefficients v) (e ∙ sym (slot_number s v lt at))

    pub none_multiplier : (v : ℕ) → ¬ Contains slots v → k.coefficient v ≡ pos 0
    none_multiplier v lacks = factor_zero reduced.factor (k.coefficient v) _ reduced.positive (reduced.coefficients v) (beside_none slots numbers v lacks)

-- ---- the multipliers after a refutation

module _ (system : LinearSystem) (members : List ℕ) (i : ℕ) (r : RevisedState) (is : IsRefutedAt system members i r) where
  pub divides_over : unsigned_abs r.factor ∣ unsigned_abs r.tableau.over
  divides_over = is.common.greatest.divides 0 (omega arith)

  pub divides_number : (s : ℕ) → s < length r.tableau.basis.slots → unsigned_abs r.factor ∣ unsigned_abs (number_at r.tableau.numbers s)
  divides_number s lt = is.common.greatest.divides (suc s) (let w = is.held.width in omega arith)

  pub columns_are : system.columns ≡ length r.tableau.basis.slots
  columns_are = sym is.held.held.held.count

  module _ (k : Relation) (row : DictionaryRow system members (row_variable system i) k) where
    reduced : IsReduced (relation_of r.tableau.basis.slots r.tableau.over r.tableau.numbers) k
    reduced = reduced_from system members (row_variable system i) (relation_of r.tableau.basis.slots r.tableau.over r.tableau.numbers) k is.relation row

    pub failing_row : (n : ℕ) (z : ℤ) → n ≡ i → r.factor *ℤ z ≡ r.tableau.over → z ≡ multiplier_of system k i n
    failing_row n z e is_d = own_multiplier r.tableau.basis.slots r.tableau.over r.tableau.numbers k is.held.held.held.distinct is.held.width reduced r.factor is.common z is_d
        ∙ sym (ap (λ b. if b then k.d else neg_ℤ (k.coefficient (row_variable system n))) (ap (λ m. n == m) (sym e) ∙ same n))

    pub slot_row : (n s : ℕ) (z : ℤ) → n ≢ i → s < length r.tableau.basis.slots → get_or r.tableau.basis.slots s 0 ≡ length r.tableau.basis.slots + n
        → r.factor *ℤ z ≡ number_at r.tableau.numbers s → neg_ℤ z ≡ multiplier_of system k i n
    slot_row n s z ne lt at is_number =
        ap neg_ℤ (slot_multiplier r.tableau.basis.slots r.tableau.over r.tableau.numbers k is.held.held.held.distinct is.held.width reduced r.factor
        is.common s (row_variable system n) z lt (at ∙ ap (λ m. m + n) (sym columns_are)) is_number)
        ∙ sym (ap (λ b. if b then k.d else neg_ℤ (k.coefficient (row_variable system n))) (differs n i ne))

    pub other_row : (n : ℕ) → n ≢ i → ¬ Contains r.tableau.basis.slots (length r.tableau.basis.slots + n) → pos 0 ≡ multiplier_of system k i n
    other_row n ne lacks =
        sym (ap neg_ℤ (none_multiplier r.tableau.basis.slots r.tableau.over r.tableau.numbers k is.held.held.held.distinct is.held.width reduced r.factor is.common (row_variable system n)
        (λ has. lacks (subst (Contains r.tableau.basis.slots) (ap (λ m. m + n) columns_are) has))))
        ∙ sym (ap (λ b. if b then k.d else neg_ℤ (k.coefficient (row_variable system n))) (differs n i ne))

pub same_row : (o : Option ℕ) (n i : ℕ) → o ≡ Some n → o ≡ Some i → n ≡ i
same_row o n i e f = ap (λ x. unwrap_or x 0) (sym e ∙ f)
