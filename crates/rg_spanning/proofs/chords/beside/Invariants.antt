-- What was taken so far, with what is beside the tree of the rest, is all that is beside it.
use Rattle.std.proofs.Common.{◌≡◌, ◌++◌, drop}
use Rattle.rg_theory.specs.Tree.{arcs_without}
use Rattle.rg_spanning.proofs.chords.beside.Given as goal

abbrev pub invariant-loop-a : goal.invariant-loop-a
invariant-loop-a l = l.beside.items ++ arcs_without l.growth.arcs.items (drop l.a-index l.a-items) ≡ arcs_without l.growth.arcs.items l.a-items
