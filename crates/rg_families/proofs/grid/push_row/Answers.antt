use Rattle.std.proofs.Common.{string_bytes}
use Rattle.rg_families.specs.Named.{names_of}
use Rattle.rg_families.specs.Grid.{point}
use Rattle.rg_families.proofs.Lists.{one_more}
use Rattle.rg_families.proofs.Pushed.{pushed}
use Rattle.rg_families.proofs.grid.push_row.Goals as goal

pub loop-j-preserved : goal.loop-j-preserved
loop-j-preserved c =
    one_more (names_of c.args.names.now.items) c.loop-j.j (point c.args.i) (names_of c.loop-j.names.items) (names_of c.push.new.self.items)
    (pushed string_bytes c.loop-j.names.items c.push.new.self.items c.in_ok-point.field-0 (point c.args.i c.loop-j.j) c.in_ok-push.ensures.items c.in_ok-point.ensures) c.loop-j.invariant
