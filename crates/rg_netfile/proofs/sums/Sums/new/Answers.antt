use Rattle.std.proofs.Common.{map, arith}
use Rattle.rg_net.specs.Shown.{shown_place}
use Rattle.rg_netfile.proofs.Ranges.{zeros_in_range}
use Rattle.rg_netfile.proofs.sums.Sums.new.Goals as goal

pub invariant_of-result : goal.invariant_of-result
invariant_of-result c = zeros_in_range c.args.labels c.loop.counter (map shown_place c.loop.places.items) c.loop.invariant (omega arith)
