use Rattle.std.specs.List.{AllWithin}
use Rattle.rg_net.specs.Shown.{shown_place}
use Rattle.rg_net_tests.specs.Regions.{Moves}
use Rattle.rg_net_tests.proofs.separated.all_move.Given as goal

abbrev pub invariant-loop-a : goal.invariant-loop-a
invariant-loop-a l = AllWithin (Moves (shown_place l.place) l.tokens) l.arcs 0 l.a-index
