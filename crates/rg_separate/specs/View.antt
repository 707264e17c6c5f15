-- What a term out of range shows.
use Rattle.std.specs.Prelude.{map}
use Rattle.rg_cert_meaning.specs.Sides.{side_of}
use Rattle.rg_case_folds.specs.Shown as shown
use Rattle.rg_case_folds.specs.Shown.{Shown}
use Rattle.rg_cert_data.specs.declared.wide_at.Stage.{Stage}
use Rattle.rg_cert_data.specs.declared.wide_at.Stage.TheVariants.{Cycle, Row, Pivot, Place, Spread}
use Rattle.rg_cert_data.specs.declared.wide_at.WideAt.{WideAt}

abbrev pub stage_of : Stage → shown.Stage
stage_of Cycle = shown.Stage.cycle
stage_of Row = shown.Stage.row
stage_of Pivot = shown.Stage.pivot
stage_of Place = shown.Stage.place
stage_of Spread = shown.Stage.spread

-- the term in the words of the definitions
abbrev pub shown_of : WideAt → Shown
shown_of w = record {
  stage = stage_of w.stage;
  problem = w.problem;
  case_number = w.case;
  above = map side_of w.above.items;
  members = w.members.items;
  pivot_variable = w.pivot;
  leaves = w.leaves;
  target = w.target;
  entry = w.entry;
  wide = w.wide;
}
