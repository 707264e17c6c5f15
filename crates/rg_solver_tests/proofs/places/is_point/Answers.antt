use Rattle.std.proofs.Common.{length, sym, ◌∙◌, eqb-true}
use Rattle.rg_solver_tests.proofs.places.is_point.Goals as goal

pub returns : goal.returns
returns c = λ e. sym (eqb-true c.count.result (length c.args.point.now) e) ∙ c.count.ensures c.args.setting.lts.now c.args.setting.class (sym c.requires) c.in_ok-columns.ensures.columns
