use Rattle.std.proofs.Common.{refl}
use Rattle.rg_revised.proofs.Ended.{rows_behind}
use Rattle.rg_revised.proofs.rows.Rows.of.Goals as goal

pub returns : goal.returns
returns c = rows_behind c.args.system.now c.args.system.now.columns c.lists.result.0.now c.lists.result.1.now c.args.further.now refl c.lists.ensures.value
