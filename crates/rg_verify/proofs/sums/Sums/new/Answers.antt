use Rattle.std.proofs.Common.{◌∙◌}
use Rattle.rg_verify.proofs.Tables.{clear_table}
use Rattle.rg_verify.proofs.sums.Sums.new.Goals as goal

pub returns : goal.returns
returns c =
    clear_table c.args.lts.now _ (c.in_ok-zeros.ensures.length ∙ c.states.ensures.value) (c.in_ok-zeros-2.ensures.length ∙ c.labels.ensures.value)
    c.in_ok-zeros.ensures.zero c.in_ok-zeros-2.ensures.zero c.new.ensures.items c.zero.ensures.size
