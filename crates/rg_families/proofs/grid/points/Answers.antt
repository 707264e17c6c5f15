use Rattle.std.proofs.Common.{◌+◌, []}
use Rattle.rg_families.specs.Named.{names_of, row}
use Rattle.rg_families.specs.Grid.{point}
use Rattle.rg_families.proofs.Lists.{some_more}
use Rattle.rg_families.proofs.grid.points.Goals as goal

pub loop-i-preserved : goal.loop-i-preserved
loop-i-preserved c =
    some_more [] c.loop-i.i (λ i. row (c.args.n + 1) (point i)) (names_of c.loop-i.names.items) (names_of c.push_row.new.names.items) c.in_ok-push_row.ensures c.loop-i.invariant
