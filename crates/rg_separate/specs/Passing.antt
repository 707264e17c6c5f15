-- What is shown of a number that passes.
use Rattle.std.specs.Prelude.{ℕ, List, [], None}
use Rattle.rg_cert_meaning.specs.Row.{Side}
use Rattle.rg_integers.specs.declared.term.Wide.{Wide}
use Rattle.rg_case_folds.specs.Shown as shown
use Rattle.rg_case_folds.specs.Shown.{Shown}
use Rattle.rg_cycles.specs.declared.stop.CycleWide.{CycleWide}
use Rattle.rg_outcome.specs.Casing.{step_at, term_at}
use Rattle.rg_feasible.specs.Settling.{wide_at}
use Rattle.rg_feasible.specs.declared.settled.PivotWide.{PivotWide}
use Rattle.rg_case_parts.specs.declared.setting.CaseSetting.{CaseSetting}
use Rattle.rg_cert_data.specs.declared.wide_at.Stage.{Stage}
use Rattle.rg_separate.specs.View.{stage_of}

-- the first step out of range in this stage of a case, below these sides
abbrev pub passed_at : Stage → CaseSetting → List Side → Wide → Shown
passed_at stage c above w = step_at (stage_of stage) c.problem c.number above w

-- the term of the walk over the chords
abbrev pub cycle_passed : CycleWide → Shown
cycle_passed w = record {
  stage = shown.Stage.cycle;
  problem = None;
  case_number = 0;
  above = [];
  members = w.members.items;
  pivot_variable = w.pivot;
  leaves = w.leaves;
  target = w.target;
  entry = w.entry;
  wide = w.wide;
}

-- the term of an exchange in the descent of a node below these sides, at this set
abbrev pub pivot_at : CaseSetting → List Side → List ℕ → PivotWide → Shown
pivot_at c above members at = term_at c.problem c.number above (wide_at members at)
