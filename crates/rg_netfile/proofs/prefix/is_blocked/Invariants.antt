use Rattle.std.proofs.Common.{◌≡◌, drop}
use Rattle.std.specs.List.{list_any}
use Rattle.rg_net.specs.NetText.{blocks}
use Rattle.rg_netfile.proofs.prefix.is_blocked.Given as goal

-- the labels that are left tell
abbrev pub invariant-loop-t : goal.invariant-loop-t
invariant-loop-t l = list_any (blocks l.prefix) (drop l.t l.lts.label_names) ≡ list_any (blocks l.prefix) l.lts.label_names
