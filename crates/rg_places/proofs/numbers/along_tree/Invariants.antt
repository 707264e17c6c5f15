use Rattle.rg_places.specs.PointValues.{ratios_of}
use Rattle.rg_places.proofs.AlongTree.{AlongLeads}
use Rattle.rg_places.proofs.numbers.along_tree.Given as goal

abbrev pub invariant-loop-a : goal.invariant-loop-a
invariant-loop-a l = AlongLeads l.lts l.tree (ratios_of l.found) l.a-index (ratios_of l.numbers.items)
