use Rattle.std.proofs.Common.{◌≡◌, All, length}
use Rattle.rg_verify.proofs.sums.zeros.Given as goal

abbrev pub invariant-loop : goal.invariant-loop
invariant-loop l = record { length : length l.sums.items ≡ l.counter; zero : All (λ s. s.size ≡ 0) l.sums.items }
