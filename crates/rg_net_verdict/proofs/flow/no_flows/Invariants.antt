-- So many lists so far, all empty.
use Rattle.std.proofs.Common.{◌≡◌, [], length, All}
use Rattle.rg_net_verdict.proofs.flow.no_flows.Given as goal

abbrev pub invariant-loop : goal.invariant-loop
invariant-loop l = (length l.flows.items ≡ l.counter) × All (λ f. f.items ≡ []) l.flows.items
