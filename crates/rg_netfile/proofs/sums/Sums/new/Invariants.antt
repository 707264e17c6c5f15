use Rattle.std.proofs.Common.{◌≡◌, map, replicate}
use Rattle.rg_net.specs.Shown.{shown_place}
use Rattle.rg_netfile.proofs.Ranges.{zero_place}
use Rattle.rg_netfile.proofs.sums.Sums.new.Given as goal

abbrev pub invariant-loop : goal.invariant-loop
invariant-loop l = map shown_place l.places.items ≡ replicate l.counter (zero_place l.labels)
