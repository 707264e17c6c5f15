-- What all problems of a system share, and one case of a problem.
use Rattle.std.specs.Prelude.{ℕ, List}
use Rattle.rg_theory.specs.declared.Arc.{Arc}
use Rattle.rg_theory.specs.System.{System}
use Rattle.rg_theory.specs.declared.Class.{Class}
use Rattle.rg_theory.specs.declared.Problem.{Problem}
use Rattle.rg_linear.specs.Cycle.{CycleBasis}

-- a system with its tree, the basis of its chords, and the class of places that are asked for
pub record Setting : Type 0 where
  pub lts : System
  pub tree : List Arc
  pub basis : CycleBasis
  pub class : Class

abbrev pub setting_at : System → List Arc → CycleBasis → Class → Setting
setting_at lts tree basis class = record { lts = lts; tree = tree; basis = basis; class = class }

-- a problem of the system, and the number of one of its cases
pub record CaseSetting : Type 0 where
  pub setting : Setting
  pub open setting use *
  pub problem : Problem
  pub number : ℕ

abbrev pub case_at : Setting → Problem → ℕ → CaseSetting
case_at s problem number = record { setting = s; problem = problem; number = number }
