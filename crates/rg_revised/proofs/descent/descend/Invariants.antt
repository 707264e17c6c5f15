use Rattle.std.proofs.Common.{◌≡◌, ◌≤◌, ℕ, List, length, reverse, vec_capacity}
use Rattle.rg_linear.specs.System.{LinearSystem}
use Rattle.rg_linear.specs.View.{linear_system}
use Rattle.rg_linear.specs.Stack.{work_left}
use Rattle.rg_linear.proofs.Descending.{LeadsTo, LeadsOn}
use Rattle.rg_revised.specs.State.{IsTableauOf}
use Rattle.rg_revised.specs.Lists.{rows_of}
use Rattle.rg_revised.specs.Reaching.{Extends}
use Rattle.rg_revised.proofs.descent.descend.Given as goal

abbrev pub invariant-rows : goal.invariant-rows
invariant-rows l = record {
  columns : length l.tableau.basis.slots ≡ length l.fn.tableau.basis.slots;
  room : vec_capacity l.fn.stack ≤ vec_capacity l.stack;
  norm : l.tableau.norm ≡ l.fn.tableau.norm;
  passed : l.i ≤ l.below;
  leads : (members : List ℕ) × IsTableauOf (linear_system l.columns (rows_of l.rows)) members l.tableau
      × LeadsOn (linear_system l.columns (rows_of l.rows)) members l.stack.items l.below l.i;
  onward : (system : LinearSystem) → Extends (linear_system l.columns (rows_of l.rows)) l.fn.tableau.norm system
      → (members : List ℕ) × IsTableauOf system members l.tableau × LeadsTo system members l.stack.items l.i;
}

abbrev pub decreases-rows : goal.decreases-rows
decreases-rows l = work_left (length (rows_of l.rows)) (reverse l.stack.items) l.i
