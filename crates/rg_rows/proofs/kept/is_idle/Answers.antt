use Rattle.rg_rows.proofs.kept.is_idle.Goals as goal

pub returns : goal.returns
returns c = c.args.row.now.idle_is
