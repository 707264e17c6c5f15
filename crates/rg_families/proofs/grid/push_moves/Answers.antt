use Rattle.std.proofs.Common.{map}
use Rattle.rg_families.specs.Named.{triple_of, row}
use Rattle.rg_families.specs.Grid.{move}
use Rattle.rg_families.proofs.Lists.{some_more}
use Rattle.rg_families.proofs.grid.push_moves.Goals as goal

pub loop-i-preserved : goal.loop-i-preserved
loop-i-preserved c =
    some_more (map triple_of c.args.arcs.now.items) c.loop-i.i (λ i. row c.args.columns (move c.args.direction i)) (map triple_of c.loop-i.arcs.items)
    (map triple_of c.push_moves_of_row.new.arcs.items) c.in_ok-push_moves_of_row.ensures c.loop-i.invariant
