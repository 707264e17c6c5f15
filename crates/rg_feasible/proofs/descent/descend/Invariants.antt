use Rattle.std.proofs.Common.{◌≤◌, reverse, vec_capacity}
use Rattle.rg_linear.specs.System.{LinearSystem}
use Rattle.rg_linear.specs.Stack.{work_left}
use Rattle.rg_feasible.specs.Contents.{IsDictionary, SameShape}
use Rattle.rg_linear.proofs.Descending.{LeadsOn}
use Rattle.rg_feasible.proofs.descent.descend.Given as goal

abbrev pub invariant-rows : goal.invariant-rows
invariant-rows l = record {
  shape : SameShape l.fn.table l.table;
  room : vec_capacity l.fn.stack ≤ vec_capacity l.stack;
  whole : (system : LinearSystem) → IsDictionary system l.fn.table → IsDictionary system l.table;
  leads : (system : LinearSystem) → IsDictionary system l.fn.table → LeadsOn system l.table.members l.stack.items l.below l.i;
}

abbrev pub decreases-rows : goal.decreases-rows
decreases-rows l = work_left l.rows (reverse l.stack.items) l.i
