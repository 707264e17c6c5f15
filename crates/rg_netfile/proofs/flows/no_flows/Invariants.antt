-- So many flows so far, all empty.
use Rattle.std.proofs.Common.{◌≡◌, [], length, All}
use Rattle.rg_netfile.proofs.flows.no_flows.Given as goal

abbrev pub invariant-loop : goal.invariant-loop
invariant-loop l = (length l.flows.items ≡ l.counter) × All (λ f. f.taken.items ≡ []) l.flows.items × All (λ f. f.put.items ≡ []) l.flows.items
