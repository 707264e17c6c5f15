-- Relations with a common factor, and what they say of their variable.
use Rattle.std.proofs.Common.{◌≡◌, ◌≢◌, ◌⊎◌, ℕ, ◌<◌, List, Contains, length, ap, subst, sym, ◌∙◌, inl, inr, arith}
use Rattle.std.specs.Prelude.{ℤ, pos, ◌*ℤ◌, ◌≤ℤ◌, ◌<ℤ◌}
use Rattle.std.proofs.lemmas.Int.{ints, by_lt_z}
use Rattle.std.proofs.Math.IntN.{*ℤ_comm, *ℤ-zero}
use Rattle.rg_linear.specs.System.{LinearSystem, variables, row_variable, IsPoint}
use Rattle.rg_linear.specs.Dictionary.{Relation, IsFree, DictionaryRow}
use Rattle.rg_linear.specs.Exchange.{IsReduced}
use Rattle.rg_linear.specs.Descent.{IsSatisfied, IsStuck, Chooses, IsAtZero}
use Rattle.rg_linear.specs.Cycle.{IsSkipped, Picks}
use Rattle.rg_integers.proofs.Order.{mul_is_zero, positive_differs, mul_not_negative, factor_not_negative}
use Rattle.rg_linear.proofs.Members.{is_member}
use Rattle.rg_linear.proofs.Unique.{same_relation}
use Rattle.rg_linear.proofs.Reducing.{reduce, reduced_row}
use Rattle.rg_linear.proofs.Having.{none_past}
use Rattle.rg_linear.proofs.Points.{constant_alone, zero_point_of}
use Rattle.rg_revised.specs.Basis.{IsRelationOf}

-- the primitive relation of a variable outside the set, from any relation of it
pub multiple_row : (system : LinearSystem) (members : List ℕ) (w : ℕ) (k : Relation) → IsFree system members → w < variables system → ¬ Contains members w → IsRelationOf system members w k
    → (l : Relation) × DictionaryRow system members w l × IsReduced k l
multiple_row system members w k free lt outside is =
    let (l, r) = reduce k (variables system) is.positive (none_past system members k free is.over) in
    (l, reduced_row system members w k l free lt outside is.positive is.over is.holds r, r)

pub reduced_from : (system : LinearSystem) (members : List ℕ) (w : ℕ) (k l : Relation) → IsRelationOf system members w k → DictionaryRow system members w l → IsReduced k l
reduced_from system members w k l is row =
    let (l', row', r) = multiple_row system members w k row.free row.variable row.outside is in
    subst (IsReduced k) (same_relation system members w l' l row' row) r

-- where every member is 0, so is a member: it has no constant
pub member_has_no_constant : (system : LinearSystem) (members : List ℕ) (w : ℕ) (k : Relation) → IsFree system members → Contains members w → IsRelationOf system members w k → k.constant ≡ pos 0
member_has_no_constant system members w k free member is = let (scale, v, p, zeros) = zero_point_of system members free in at scale v p zeros
  where
    at : (scale : ℤ) (v : ℕ → ℤ) → IsPoint system scale v → IsAtZero members v → k.constant ≡ pos 0
    at scale v p zeros = mul_is_zero k.constant scale (positive_differs scale p.positive)
        (sym (constant_alone system members w k is.over is.holds scale v p zeros) ∙ ap (λ z. k.d *ℤ z) (zeros w member) ∙ *ℤ-zero k.d)

pub failing_is_outside : (system : LinearSystem) (members : List ℕ) (w : ℕ) (k : Relation) → IsFree system members → IsRelationOf system members w k → k.constant <ℤ pos 0 → ¬ Contains members w
failing_is_outside system members w k free is negative member = let e = member_has_no_constant system members w k free member is in omega (arith, ints)

-- ---- a positive factor changes no sign, and no 0

pub factor_fails : (f x y : ℤ) → pos 0 <ℤ f → y ≡ f *ℤ x → y <ℤ pos 0 → x <ℤ pos 0
factor_fails f x y h e negative = by_lt_z x (pos 0) (λ less. less) (λ most. (let weak : pos 0 ≤ℤ f = omega (arith, ints) in let more = mul_not_negative f x weak most in absurd (omega (arith, ints))))

pub factor_zero : (f x y : ℤ) → pos 0 <ℤ f → y ≡ f *ℤ x → y ≡ pos 0 → x ≡ pos 0
factor_zero f x y h e none = mul_is_zero x f (positive_differs f h) (*ℤ_comm x f ∙ sym e ∙ none)

pub zero_stays : (f x y : ℤ) → y ≡ f *ℤ x → x ≡ pos 0 → y ≡ pos 0
zero_stays f x y e none = e ∙ ap (λ z. f *ℤ z) none ∙ *ℤ-zero f

-- ---- what a row comes to

module _ (system : LinearSystem) (members : List ℕ) (i : ℕ) (k : Relation) (free : IsFree system members) (lt : i < length system.rows)
    (is : IsRelationOf system members (row_variable system i) k) where
  variable : row_variable system i < variables system
  variable = omega arith

  pub row_passes : pos 0 ≤ℤ k.constant → IsSatisfied system members i
  row_passes least = go (is_member members (row_variable system i))
    where
      go : Contains members (row_variable system i) ⊎ ¬ Contains members (row_variable system i) → IsSatisfied system members i
      go (inl member) = inl member
      go (inr lacks) =
          let (l, row, r) = multiple_row system members (row_variable system i) k free variable lacks is in
          inr (l, row, factor_not_negative r.factor l.constant r.positive (subst (λ z. pos 0 ≤ℤ z) r.constant least))

  module _ (fixed : List ℕ) (negative : k.constant <ℤ pos 0) where
    lacks : ¬ Contains members (row_variable system i)
    lacks = failing_is_outside system members (row_variable system i) k free is negative

    pub row_stuck : ((m : ℕ) → Contains members m → ¬ Contains fixed m → k.coefficient m ≡ pos 0) → IsStuck system members fixed i
    row_stuck none =
        let (l, row, r) = multiple_row system members (row_variable system i) k free variable lacks is in
        record {
          k = l;
          row = row;
          negative = factor_fails r.factor l.constant k.constant r.positive r.constant negative;
          none = λ m has left. factor_zero r.factor (l.coefficient m) (k.coefficient m) r.positive (r.coefficients m) (none m has left);
        }

    pub row_chooses : (j : ℕ) → Contains members j → ¬ Contains fixed j → k.coefficient j ≢ pos 0 → ((m : ℕ) → Contains members m → ¬ Contains fixed m → m < j → k.coefficient m ≡ pos 0)
        → Chooses system members fixed i j
    row_chooses j member left named least =
        let (l, row, r) = multiple_row system members (row_variable system i) k free variable lacks is in
        record {
          k = l;
          row = row;
          negative = factor_fails r.factor l.constant k.constant r.positive r.constant negative;
          member = member;
          not_fixed = left;
          named = λ e. named (zero_stays r.factor (l.coefficient j) (k.coefficient j) (r.coefficients j) e);
          least = λ m has free_m less. factor_zero r.factor (l.coefficient m) (k.coefficient m) r.positive (r.coefficients m) (least m has free_m less);
        }

-- ---- what a row of the cycle walk comes to

module _ (system : LinearSystem) (members : List ℕ) (i : ℕ) (k : Relation) (free : IsFree system members) (lt : i < length system.rows) (outside : ¬ Contains members (row_variable system i))
    (is : IsRelationOf system members (row_variable system i) k) where
  below : row_variable system i < variables system
  below = omega arith

  pub row_skipped : ((t : ℕ) → t < system.columns → k.coefficient t ≡ pos 0) → IsSkipped system members i
  row_skipped none =
      let (l, row, r) = multiple_row system members (row_variable system i) k free below outside is in
      record { k = l; row = row; none = λ t less. factor_zero r.factor (l.coefficient t) (k.coefficient t) r.positive (r.coefficients t) (none t less) }

  pub row_picks : (j : ℕ) → j < system.columns → k.coefficient j ≢ pos 0 → ((t : ℕ) → t < j → k.coefficient t ≡ pos 0) → Picks system members i j
  row_picks j column named least =
      let (l, row, r) = multiple_row system members (row_variable system i) k free below outside is in
      record {
        k = l;
        row = row;
        column = column;
        named = λ e. named (zero_stays r.factor (l.coefficient j) (k.coefficient j) (r.coefficients j) e);
        least = λ t less. factor_zero r.factor (l.coefficient t) (k.coefficient t) r.positive (r.coefficients t) (least t less);
      }
