use Rattle.std.proofs.Common.{◌≤◌}
use Rattle.std.specs.List.{AllWithin}
use Rattle.rg_blocks_tests.proofs.places.has_dead.Given as goal

abbrev pub invariant-loop-arc : goal.invariant-loop-arc
invariant-loop-arc l = AllWithin (λ a. l.labels ≤ a.label) l.lts.arcs 0 l.arc-index
