use Rattle.std.proofs.Common.{◌≡◌, map, take}
use Rattle.rg_net_grammar.specs.View.{transitions_in}
use Rattle.rg_netfile.proofs.EntryFaults.{name_of}
use Rattle.rg_netfile.proofs.building.transition_table.Given as goal

-- the names so far are there
abbrev pub invariant-loop-transition : goal.invariant-loop-transition
invariant-loop-transition l = l.table ≡ map name_of (transitions_in l.bytes (take l.transition-index l.transitions))
