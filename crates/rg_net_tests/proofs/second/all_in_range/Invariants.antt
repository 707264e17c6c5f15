use Rattle.std.proofs.Common.{ℕ, ◌<◌, ◌≤◌, get_or}
use Rattle.rg_integers.specs.Range.{greatest}
use Rattle.rg_net_tests.proofs.second.all_in_range.Given as goal

-- the numbers before this one are in range
abbrev pub invariant-loop-tokens : goal.invariant-loop-tokens
invariant-loop-tokens l = (k d : ℕ) → k < l.tokens-index → get_or l.marking k d ≤ greatest
