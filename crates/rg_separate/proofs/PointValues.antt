-- The values of the columns at the point of a set.
use Rattle.std.proofs.Common.{◌≡◌, inl, inr, ⊎_elim, ℕ, ◌<◌, List, Contains, subst, ◌∙◌}
use Rattle.std.specs.Prelude.{ℤ, pos}
use Rattle.std.proofs.Math.IntN.{*ℤ_comm, zero-*ℤ}
use Rattle.rg_integers.proofs.Order.{positive_differs}
use Rattle.rg_integers.proofs.Values.{SameValue-trans}
use Rattle.rg_fraction.specs.declared.fraction.Fraction.{Fraction}
use Rattle.rg_fraction.specs.Fractions.{IsValue, numerator_of, denominator_of}
use Rattle.rg_linear.specs.System.{LinearSystem, variables}
use Rattle.rg_linear.specs.Dictionary.{Relation, DictionaryRow, HasDictionary}
use Rattle.rg_linear.proofs.Members.{is_member}
use Rattle.rg_linear.proofs.Points.{constant_left, zero_point_of}
use Rattle.rg_linear.specs.Descent.{IsBasicPoint}
use Rattle.rg_folds.specs.Fold.{whole, ratio_of, IsRatio}
use Rattle.rg_case_folds.specs.Shown.{IsValueAt}
use Rattle.rg_folds.proofs.FoldLemmas.{ratio_one, new_step}
use Rattle.rg_case_folds.proofs.Scaling.{whole_ratio}

-- ---- the values at a set

module _ (system : LinearSystem) (members : List ℕ) (has : HasDictionary system members) where
  value_member : (j : ℕ) (f : Fraction) (scale : ℤ) (v : ℕ → ℤ) → IsBasicPoint system members scale v → IsValue f (v j) scale → Contains members j → ratio_of f ≡ whole (pos 0)
  value_member j f scale v basic at member =
      let ne = positive_differs scale basic.point.positive in
      let zero_is : IsValue f (pos 0) scale = subst (λ z. IsValue f z scale) (basic.zero j member) at in
      ratio_one (ratio_of f) (whole (pos 0)) (pos 0) scale (new_step f (pos 0) scale ne zero_is) (whole_ratio (pos 0) (pos 0) scale ne (zero-*ℤ scale))

  value_relation : (j : ℕ) (f : Fraction) (k : Relation) (scale : ℤ) (v : ℕ → ℤ) → IsBasicPoint system members scale v → IsValue f (v j) scale
      → DictionaryRow system members j k → IsRatio (ratio_of f) k.constant k.d
  value_relation j f k scale v basic at row =
      let ne = positive_differs scale basic.point.positive in
      new_step f k.constant k.d (positive_differs k.d row.positive)
      (SameValue-trans (numerator_of f) (denominator_of f) (v j) scale k.constant k.d ne at (*ℤ_comm (v j) k.d ∙ constant_left system members j k row scale v basic.point basic.zero))

  -- the fraction is the value of variable j where every member is 0
  pub value_at : (j : ℕ) (f : Fraction) → j < variables system → ((scale : ℤ) (v : ℕ → ℤ) → IsBasicPoint system members scale v → IsValue f (v j) scale) → IsValueAt system members j (ratio_of f)
  value_at j f lt is =
      let (scale, v, point, at_zero) = zero_point_of system members has.free in
      let basic : IsBasicPoint system members scale v = record { point = point; zero = at_zero } in
      ⊎_elim
      (λ member. inl (member, value_member j f scale v basic (is scale v basic) member))
      (λ out. (let (k, row) = has.rows j lt out in inr (k, row, value_relation j f k scale v basic (is scale v basic) row)))
      (is_member members j)
