use Rattle.std.proofs.Common.{◌-◌}
use Rattle.rg_phase.proofs.AnswersLemmas.{shown_where_ok}
use Rattle.rg_phase.proofs.alone.block.Goals as goal

pub returns : goal.returns
returns g c = shown_where_ok g.T.Task.show (g.T.Task.answer c.args.task.now) c.args.from (c.args.to - c.args.from) (λ v. v.items) c.block_of_parts.result c.block_of_parts.ensures
