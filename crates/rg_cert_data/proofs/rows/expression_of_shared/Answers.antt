use Rattle.std.proofs.Common.{◌≡◌, subst, ◌∙◌}
use Rattle.rg_cert_meaning.specs.Row.{side_expression}
use Rattle.rg_cert_data.specs.Sums.{expression_of}
use Rattle.rg_cert_data.proofs.Places.{get_is}
use Rattle.rg_cert_data.proofs.rows.expression_of_shared.Goals as goal

pub returns-in-Above : goal.returns-in-Above
returns-in-Above c =
    let is = c.copied.ensures ∙ get_is c.args.above.now c.in-Above.depth c.get.result c.get.ensures.lookup in
    rw c.in-Above.is (subst (λ o. expression_of c.of_side.result ≡ side_expression c.args.class c.args.lts.now.initial o) is c.of_side.ensures)
