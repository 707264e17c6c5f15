use Rattle.std.proofs.Common.{map}
use Rattle.rg_families.specs.Named.{triple_of}
use Rattle.rg_families.specs.Grid.{move}
use Rattle.rg_families.proofs.Lists.{one_more}
use Rattle.rg_families.proofs.Pushed.{pushed}
use Rattle.rg_families.proofs.grid.push_moves_of_row.Goals as goal

pub loop-j-preserved : goal.loop-j-preserved
loop-j-preserved c =
    one_more (map triple_of c.args.arcs.now.items) c.loop-j.j (move c.args.direction c.args.i) (map triple_of c.loop-j.arcs.items) (map triple_of c.push.new.self.items)
    (pushed triple_of c.loop-j.arcs.items c.push.new.self.items c.in_ok-move_from.field-0 (move c.args.direction c.args.i c.loop-j.j) c.in_ok-push.ensures.items c.in_ok-move_from.ensures)
    c.loop-j.invariant
