-- What a point over the columns of a case's system says of Start and of the free labels.
use Rattle.std.specs.Prelude.{ℕ, ◌<◌, ◌==◌, if◌then◌else◌, List, [], ◌∷◌, map, drop, length, ℤ, pos}
use Rattle.rg_theory.specs.System.{System}
use Rattle.rg_theory.specs.declared.Class.{Class}
use Rattle.rg_theory.specs.declared.Problem.{Problem}
use Rattle.rg_integers.specs.Value.{SameValue}
use Rattle.rg_fraction.specs.declared.fraction.Fraction.{Fraction}
use Rattle.rg_linear.specs.System.{IsPoint, MeetsRows}
use Rattle.rg_linear.specs.Branching.{FormsWhole}
use Rattle.rg_linear.specs.Cycle.{CycleBasis}
use Rattle.rg_case_folds.specs.Setting.{Setting, case_at}
use Rattle.rg_folds.specs.Fold.{Ratio, whole, ratio_of}
use Rattle.rg_case_folds.specs.Rewriting.{free_columns, has_start, CaseSystem, rows_of}
use Rattle.rg_case_folds.specs.Placing.{ratio_at}
use Rattle.rg_case_folds.specs.Meaning.{IsCaseOver, first_column}

-- the numbers of the columns
abbrev pub ratios_of : List Fraction → List Ratio
ratios_of point = map ratio_of point

-- the number at the index of a label, 0 if it has none
abbrev pub ratio_beside : List ℕ → List Ratio → ℕ → Ratio
ratio_beside [] ratios f = whole (pos 0)
ratio_beside (x ∷ labels) [] f = whole (pos 0)
ratio_beside (x ∷ labels) (r ∷ ratios) f = if x == f then r else ratio_beside labels ratios f

-- Start at the point: its first column, and 0 where it is none
abbrev pub point_start : Class → List Fraction → Ratio
point_start class point = if has_start class then ratio_at (ratios_of point) 0 else whole (pos 0)

-- the value of a free label at the point, that of its column
abbrev pub point_value : System → CycleBasis → Class → List Fraction → ℕ → Ratio
point_value lts basis class point = ratio_beside (free_columns lts basis) (drop (first_column class) (ratios_of point))

-- the columns of the point v over the scale have these values
abbrev pub HasValues : ℤ → (ℕ → ℤ) → List Fraction → Type 0
HasValues scale v point = (j : ℕ) → j < length point → SameValue (ratio_at (ratios_of point) j).top (ratio_at (ratios_of point) j).bottom (v j) scale

-- the point meets every row of the system of some case of the problem, and its forms are whole
pub record SolvesCase (s : Setting) (problem : Problem) (point : List Fraction) : Type 0 where
  pub number : ℕ
  pub case : CaseSystem
  pub of_case : IsCaseOver (case_at s problem number) case
  pub scale : ℤ
  pub v : ℕ → ℤ
  pub is_point : IsPoint (rows_of case) scale v
  pub meets : MeetsRows (rows_of case) v
  pub whole : FormsWhole (rows_of case) case.forms scale v
  pub values : HasValues scale v point
