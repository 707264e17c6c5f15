use Rattle.std.proofs.Common.{◌≡◌, length}
use Rattle.rg_net_verdict.proofs.rows.begin_rows.Given as goal

abbrev pub invariant-loop : goal.invariant-loop
invariant-loop l = length l.rows.items ≡ l.counter
