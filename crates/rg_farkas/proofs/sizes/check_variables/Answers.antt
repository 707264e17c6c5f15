use Rattle.std.proofs.Common.{◌∙◌, sym}
use Rattle.rg_case_folds.specs.Spreading.{variables_of}
use Rattle.rg_farkas.proofs.Bounded.{all_summed_where}
use Rattle.rg_farkas.proofs.sizes.check_variables.Goals as goal

pub returns-then-is_ok-clause-sums : goal.returns-then-is_ok-clause-sums
returns-then-is_ok-clause-sums c = all_summed_where c.args.rows.now c.greatest_sizes.result c.greatest_sizes.ensures (sym c.is_ok.ensures.value ∙ c.if-is_ok.true) (variables_of c.args.lts.now)
