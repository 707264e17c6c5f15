use Rattle.std.proofs.Common.{map, take}
use Rattle.rg_cert_data.specs.Trees.{named_row}
use Rattle.rg_verify.specs.Settings.{expression_in}
use Rattle.rg_verify.specs.Sums.{IsTableOf, AreSumsOf}
use Rattle.rg_verify.proofs.sums.Sums.add_rows.Given as goal

abbrev pub invariant-loop-name : goal.invariant-loop-name
invariant-loop-name l = record {
  table : IsTableOf l.lts l.self;
  sums : AreSumsOf (expression_in l.lts l.problem_case l.above) (map named_row (take l.name-index l.rows)) l.self;
}
