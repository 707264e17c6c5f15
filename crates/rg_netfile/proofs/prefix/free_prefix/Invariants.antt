use Rattle.std.proofs.Common.{◌≡◌, ◌-◌}
use Rattle.rg_net.specs.NetText.{first_free, place_prefix}
use Rattle.rg_netfile.proofs.prefix.free_prefix.Given as goal

-- no prefix so far is free
abbrev pub invariant-loop-k : goal.invariant-loop-k
invariant-loop-k l = first_free l.lts.label_names l.k (257 - l.k) ≡ place_prefix l.lts.label_names
