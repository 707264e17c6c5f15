use Rattle.std.proofs.Common.{map}
use Rattle.rg_cert_data.specs.Trees.{named_row}
use Rattle.rg_verify.specs.Settings.{StandsIn, expression_in}
use Rattle.rg_verify.proofs.Defects.{leaf_judged}
use Rattle.rg_verify.proofs.leaves.leaf_defect.Goals as goal
use Rattle.rg_verify.proofs.leaves.leaf_defect.Goals.{in-Ok, in-Err-Passes}

pub returns-clause-judged : goal.returns-clause-judged
returns-clause-judged c =
    let lts = c.args.lts.now in
    let setting = c.args.problem_case in
    let above = c.args.above.now in
    elim c.match-add_rows.branch [
      | in-Ok w ↦ rw w.defect-is (leaf_judged lts (StandsIn lts setting above) (expression_in lts setting above) (map named_row c.args.rows.now) c.add_rows.new.self
          w.defect-defect.result c.in_default.ensures c.requires.rows w.in-Ok.ensures.table w.in-Ok.ensures.ok w.defect-defect.ensures)
      | in-Err-Passes w ↦ rw w.defect-is (c.in_default.ensures, w.in-Err-Passes.ensures.passes w.in-Err-Passes.field-0-is)
    ]
