use Rattle.rg_cert_data.proofs.Within.{row_within}
use Rattle.rg_verify.proofs.Rows.{reduced_row, all_forms}
use Rattle.rg_verify.proofs.opposites.row_expression.Goals as goal

pub returns : goal.returns
returns c =
    let case = c.args.problem_case in
    let lts = c.args.lts.now in
    reduced_row lts c.expression.result c.without_opposites.result _ c.expression.ensures c.without_opposites.ensures.terms c.without_opposites.ensures.constant
    (row_within lts c.is_well_formed.ensures.in_range.initial case.class c.args.above.now
    (all_forms lts c.args.above.now c.requires.sides) case.problem case.number c.requires.asked c.args.name c.requires.name)
