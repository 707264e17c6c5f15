-- The numbers of the states that are made on the way to a place, and what a place that is made is.
use Rattle.std.specs.Prelude.{◌≡◌, ℕ, ◌+◌, ◌<◌, ◌≤◌, IsTrue, IsFalse, List, [], ◌∷◌, ◌++◌, map, length, slice_index_or, All, Contains, ℤ, pos, ◌*ℤ◌, ◌<ℤ◌, unsigned_abs, Result, Ok}
use Rattle.std.specs.Int.{IsGcd}
use Rattle.rg_theory.specs.System.{System, states, labels}
use Rattle.rg_theory.specs.Net.{Place}
use Rattle.rg_theory.specs.declared.Class.{Class}
use Rattle.rg_theory.specs.Region.{RegionIn}
use Rattle.rg_theory.specs.declared.Problem.{Problem}
use Rattle.rg_theory.specs.Problem.{Separates}
use Rattle.rg_integers.specs.Range.{greatest}
use Rattle.rg_integers.specs.Sum.{dot}
use Rattle.rg_integers.specs.Value.{SameValue}
use Rattle.rg_integers.specs.declared.term.Wide.{Wide}
use Rattle.rg_linear.specs.Branching.{form_at}
use Rattle.rg_linear.specs.Cycle.{CycleBasis}
use Rattle.rg_folds.specs.Fold.{◌>>=◌, each, Ratio, whole}
use Rattle.rg_case_folds.specs.Setting.{Setting}
use Rattle.rg_case_folds.specs.Rewriting.{free_columns, all_numbers, has_start, CaseSystem}
use Rattle.rg_case_folds.specs.Values.{column_values}
use Rattle.rg_case_folds.specs.Meaning.{first_column}
use Rattle.rg_case_folds.specs.Placing.{effect_fold, made_whole, ratio_at, along_tree, shift_fold, top_at}

-- in lowest terms
abbrev pub IsReduced : Ratio → Type 0
IsReduced r = IsGcd (unsigned_abs r.top) (unsigned_abs r.bottom) 1

-- Start and the values of the free labels with an arc are this number and these effects, over the scale
pub record AreValuesOf (lts : System) (basis : CycleBasis) (start : Ratio) (value : ℕ → Ratio) (number : ℤ) (effect : ℕ → ℤ) (scale : ℤ) : Type 0 where
  pub positive : pos 0 <ℤ scale
  pub start_bottom : pos 0 <ℤ start.bottom
  pub start_reduced : IsReduced start
  pub start_is : SameValue start.top start.bottom number scale
  pub reduced : (f : ℕ) → Contains (free_columns lts basis) f → IsReduced (value f)
  pub bottoms : (f : ℕ) → Contains (free_columns lts basis) f → pos 0 <ℤ (value f).bottom
  pub values : (f : ℕ) → Contains (free_columns lts basis) f → SameValue (value f).top (value f).bottom (effect f) scale

-- Start, where it is a column, and the values of the free labels with an arc are those of the columns at the point v over the scale
pub record AreAtPoint (lts : System) (basis : CycleBasis) (class : Class) (scale : ℤ) (v : ℕ → ℤ) (start : Ratio) (value : ℕ → Ratio) : Type 0 where
  pub start_bottom : pos 0 <ℤ start.bottom
  pub start_reduced : IsReduced start
  pub start_is : IsTrue (has_start class) → SameValue start.top start.bottom (v 0) scale
  pub no_start : IsFalse (has_start class) → start ≡ whole (pos 0)
  pub reduced : (i : ℕ) → i < length (free_columns lts basis) → IsReduced (value (slice_index_or (free_columns lts basis) i 0))
  pub bottoms : (i : ℕ) → i < length (free_columns lts basis) → pos 0 <ℤ (value (slice_index_or (free_columns lts basis) i 0)).bottom
  pub values : (i : ℕ) → i < length (free_columns lts basis)
      → SameValue (value (slice_index_or (free_columns lts basis) i 0)).top (value (slice_index_or (free_columns lts basis) i 0)).bottom
      (v (first_column class + i)) scale

-- every form of the case is a whole number where Start and the effects over the scale are these
abbrev pub AreFormsWhole : Setting → CaseSystem → ℤ → (ℕ → ℤ) → ℤ → Type 0
AreFormsWhole s case first effect scale = (f : ℕ) → f < length case.forms
    → (u : ℤ) × (dot (form_at case.forms f).coeffs (column_values s.lts s.basis s.class first effect) ≡ u *ℤ ((form_at case.forms f).scale *ℤ scale))

-- the numbers of the states that Start and the values of the free labels make on the way to a place
abbrev pub numbers_fold : Setting → Problem → Ratio → (ℕ → Ratio) → Result (List Ratio) Wide → Type 0
numbers_fold s problem start value = do
  effects ← each (effect_fold s.lts s.basis value) (all_numbers (labels s.lts))
  found ← made_whole s.class (effects ++ start ∷ [])
  number ← along_tree (ratio_at found) (λ q. ratio_at found (labels s.lts)) s.tree
  shift_fold s.lts s.class problem (map number (all_numbers (states s.lts)))

-- the tokens of the states by these numbers
abbrev pub tokens_of : List Ratio → ℕ → ℕ
tokens_of numbers s = unsigned_abs (top_at numbers s)

-- no number of the place or of the states is greater than the greatest number
pub record NumbersFit (place : Place) (m : ℕ → ℕ) : Type 0 where
  pub start : place.start ≤ greatest
  pub pre : All (λ n. n ≤ greatest) place.pre
  pub post : All (λ n. n ≤ greatest) place.post
  pub tokens : (s : ℕ) → m s ≤ greatest

-- the place, with the numbers of the states that are made on the way to it, is a region of the class that separates, and its numbers fit
pub record PlaceIsMade (s : Setting) (problem : Problem) (start : Ratio) (value : ℕ → Ratio) (place : Place) : Type 0 where
  pub numbers : List Ratio
  pub made : numbers_fold s problem start value (Ok numbers)
  pub region : RegionIn s.lts s.class place (tokens_of numbers)
  pub separates : Separates place (tokens_of numbers) problem
  pub fit : NumbersFit place (tokens_of numbers)
