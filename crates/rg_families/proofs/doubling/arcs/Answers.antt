use Rattle.std.proofs.Common.{[], map}
use Rattle.rg_families.specs.Named.{triple_of}
use Rattle.rg_families.specs.Doubling.{doubled}
use Rattle.rg_families.proofs.Lists.{some_more}
use Rattle.rg_families.proofs.doubling.arcs.Goals as goal

pub loop-i-preserved : goal.loop-i-preserved
loop-i-preserved c =
    some_more [] c.loop-i.i doubled (map triple_of c.loop-i.arcs.items) (map triple_of c.push_doubling.new.arcs.items) c.in_ok-push_doubling.ensures c.loop-i.invariant
