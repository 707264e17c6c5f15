-- Values where every member is 0.
use Rattle.std.proofs.Common.{ℕ, List, sym, ◌∙◌}
use Rattle.std.specs.Prelude.{ℤ}
use Rattle.std.proofs.Math.IntN.{*ℤ_comm}
use Rattle.rg_integers.proofs.Order.{positive_differs}
use Rattle.rg_integers.proofs.Values.{SameValue-trans}
use Rattle.rg_fraction.specs.declared.fraction.Fraction.{Fraction}
use Rattle.rg_fraction.specs.Fractions.{IsValue, numerator_of, denominator_of}
use Rattle.rg_linear.specs.System.{LinearSystem}
use Rattle.rg_linear.specs.Dictionary.{Relation}
use Rattle.rg_linear.proofs.Points.{constant_alone}
use Rattle.rg_linear.specs.Descent.{IsBasicPoint}
use Rattle.rg_revised.specs.Basis.{IsRelationOf}

pub relation_value : (system : LinearSystem) (members : List ℕ) (w : ℕ) (k : Relation) → IsRelationOf system members w k → (scale : ℤ) (v : ℕ → ℤ) → IsBasicPoint system members scale v
    → (f : Fraction) → IsValue f k.constant k.d → IsValue f (v w) scale
relation_value system members w k is scale v basic f shown = SameValue-trans (numerator_of f) (denominator_of f) k.constant k.d (v w) scale (positive_differs k.d is.positive) shown
    (sym (constant_alone system members w k is.over is.holds scale v basic.point basic.zero) ∙ *ℤ_comm k.d (v w))
