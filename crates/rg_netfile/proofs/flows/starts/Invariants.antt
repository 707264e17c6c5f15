-- The places so far with tokens at the start.
use Rattle.std.proofs.Common.{◌≡◌, take}
use Rattle.rg_net.specs.NetText.{starts}
use Rattle.rg_netfile.specs.ListedSets.{members_of}
use Rattle.rg_netfile.proofs.flows.starts.Given as goal

abbrev pub invariant-loop-i : goal.invariant-loop-i
invariant-loop-i l = l.set.items ≡ members_of (take l.i (starts l.net))
