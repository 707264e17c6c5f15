use Rattle.std.proofs.Common.{map, take, All}
use Rattle.rg_cert_data.specs.Trees.{named_row}
use Rattle.rg_verify.specs.Judged.{IsRightRow}
use Rattle.rg_verify.specs.Settings.{StandsIn}
use Rattle.rg_verify.proofs.leaves.row_defect.Given as goal

abbrev pub invariant-loop-name : goal.invariant-loop-name
invariant-loop-name l = All (IsRightRow (StandsIn l.lts l.problem_case l.above)) (map named_row (take l.name-index l.rows))
