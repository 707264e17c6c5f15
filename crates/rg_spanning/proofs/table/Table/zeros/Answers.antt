-- Zeros are rows of zeros.
use Rattle.std.proofs.Common.{◌∙◌, ap}
use Rattle.rg_spanning.specs.Rows.{rows_of}
use Rattle.rg_spanning.proofs.RowLaws.{rows-replicate}
use Rattle.rg_spanning.proofs.table.Table.zeros.Goals as goal

pub returns : goal.returns
returns c =
    ap (rows_of c.args.rows c.args.width) (c.in_ok-cells.ensures.items_if_clones_equal (λ y e. e))
    ∙ rows-replicate c.args.rows c.args.width 0
