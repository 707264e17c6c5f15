-- What an exchange makes of the relations of the columns.
use Rattle.std.proofs.Common.{◌≡◌, ◌≢◌, ℕ, ◌<◌, List, Contains, ap, refl, subst, sym, ◌∙◌, arith}
use Rattle.std.specs.Prelude.{ℤ, pos, ◌*ℤ◌, ◌≤ℤ◌, ◌<ℤ◌}
use Rattle.std.proofs.lemmas.Int.{ints}
use Rattle.rg_linear.specs.System.{LinearSystem, variables}
use Rattle.rg_integers.specs.Sign.{size}
use Rattle.rg_linear.specs.Dictionary.{Relation, IsFree}
use Rattle.rg_linear.specs.Exchange.{exchanged, renewed}
use Rattle.rg_integers.proofs.Order.{mul-cancel_left, mul_positive, factor_positive, positive_differs}
use Rattle.rg_integers.proofs.Signs.{size_positive}
use Rattle.rg_linear.proofs.Exchanging.{exchanged_free}
use Rattle.rg_linear.proofs.Reducing.{divided-holds, divided-over}
use Rattle.rg_linear.proofs.Renewed.{renewed_holds, renewed_over}
use Rattle.rg_revised.specs.Basis.{IsRelationOf, IsBasis, IsMultiple, AreRenewed}
use Rattle.rg_revised.proofs.Relations.{multiple_row, zero_stays}

-- ---- division

pub divided_is_relation : (system : LinearSystem) (members : List ℕ) (w : ℕ) (f : ℤ) (raw l : Relation) → pos 0 <ℤ f → IsMultiple f raw l → IsRelationOf system members w raw
    → IsRelationOf system members w l
divided_is_relation system members w f raw l h r is = record {
  positive = factor_positive f l.d (weak f h) (subst (λ z. pos 0 <ℤ z) r.d is.positive);
  over = divided-over members raw l f h r.coefficients is.over;
  holds = divided-holds system w raw l f h r.d r.constant r.coefficients is.holds;
}
  where
    weak : (x : ℤ) → pos 0 <ℤ x → pos 0 ≤ℤ x
    weak x h = omega (arith, ints)

-- ---- the exchange

module _ (system : LinearSystem) (members : List ℕ) (i j : ℕ) (k : Relation) (free : IsFree system members) (variable : i < variables system) (outside : ¬ Contains members i)
    (is : IsRelationOf system members i k) (member : Contains members j) (named : k.coefficient j ≢ pos 0) where
  pub basis_free : IsFree system (exchanged members i j)
  basis_free =
      let (l, row, r) = multiple_row system members i k free variable outside is in
      exchanged_free system members i j l row member (λ e. named (zero_stays r.factor (l.coefficient j) (k.coefficient j) (r.coefficients j) e))

  module _ (w : ℕ) (l : Relation) (target : IsRelationOf system members w l) where
    renewed-positive : pos 0 <ℤ (renewed k i j l).d
    renewed-positive = mul_positive l.d (size (k.coefficient j)) target.positive (size_positive (k.coefficient j) named)

    renewed_relation : IsRelationOf system (exchanged members i j) w (renewed k i j l)
    renewed_relation = record {
      positive = renewed-positive;
      over = renewed_over members i j k outside is.over member l target.over;
      holds = renewed_holds system members i j k variable outside is.over is.holds w l target.over target.holds;
    }

-- the relations after an exchange may be divided by any factor, if it is the same one for all
pub basis_renewed : (system : LinearSystem) (members : List ℕ) (d : ℤ) (relation : ℕ → Relation) (i j : ℕ) (k : Relation) → IsBasis system members d relation → i < variables system
    → ¬ Contains members i → IsRelationOf system members i k → Contains members j → k.coefficient j ≢ pos 0 → (f d' : ℤ) → pos 0 <ℤ f → d *ℤ size (k.coefficient j) ≡ f *ℤ d'
    → (relation' : ℕ → Relation) → AreRenewed system f k i j relation relation' → IsBasis system (exchanged members i j) d' relation'
basis_renewed system members d relation i j k basis variable outside is member named f d' h e relation' renewal = record {
  free = basis_free system members i j k basis.free variable outside is member named;
  positive = factor_positive f d' (weak f h) (subst (λ z. pos 0 <ℤ z) e (mul_positive d (size (k.coefficient j)) basis.positive (size_positive (k.coefficient j) named)));
  columns = λ t lt. divided_is_relation system (exchanged members i j) t f (renewed k i j (relation t)) (relation' t) h (renewal t lt)
      (renewed_relation system members i j k basis.free variable outside is member named t (relation t) (basis.columns t lt));
  denominator = λ t lt. mul-cancel_left f (relation' t).d d' (positive_differs f h)
      (sym (renewal t lt).d ∙ ap (λ z. z *ℤ size (k.coefficient j)) (basis.denominator t lt) ∙ e);
}
  where
    weak : (x : ℤ) → pos 0 <ℤ x → pos 0 ≤ℤ x
    weak x h = omega (arith, ints)

pub basis_exchanged : (system : LinearSystem) (members : List ℕ) (d : ℤ) (relation : ℕ → Relation) (i j : ℕ) (k : Relation) → IsBasis system members d relation → i < variables system
    → ¬ Contains members i → IsRelationOf system members i k → k.d ≡ d → Contains members j → k.coefficient j ≢ pos 0 → (relation' : ℕ → Relation) → AreRenewed system d k i j relation relation'
    → IsBasis system (exchanged members i j) (size (k.coefficient j)) relation'
basis_exchanged system members d relation i j k basis variable outside is same_d member named relation' renewal =
    basis_renewed system members d relation i j k basis variable outside is member named d (size (k.coefficient j)) basis.positive refl relation' renewal
