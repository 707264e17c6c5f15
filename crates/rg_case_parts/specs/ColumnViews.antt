-- How the columns that code keeps are seen.
use Rattle.std.specs.Prelude.{◌≡◌, ℕ, ◌<◌, Bool, false, List, length, slice_index_or}
use Rattle.rg_theory.specs.declared.Class.{Class}
use Rattle.rg_theory.specs.System.{System, labels}
use Rattle.rg_case_folds.specs.Rewriting.{has_label, has_start}
use Rattle.rg_case_parts.specs.declared.columns.Columns.{Columns}

-- of each label whether it has an arc
pub record TellsUsedLabels (lts : System) (used : List Bool) : Type 0 where
  pub one_each : length used ≡ labels lts
  pub each : (t : ℕ) → t < labels lts → slice_index_or used t false ≡ has_label t lts.arcs

-- the columns are those of the system in the class
pub record AreColumns (lts : System) (class : Class) (columns : Columns) : Type 0 where
  pub start : columns.start ≡ has_start class
  pub used : TellsUsedLabels lts columns.used.items
