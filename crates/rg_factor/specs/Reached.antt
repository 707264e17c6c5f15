-- The states that are met, in order.
use Rattle.std.specs.Prelude.{ℕ, List, Option, length, filter}
use Rattle.std.specs.List.{range_with_len}
use Rattle.rg_checks.specs.declared.walks.Step.{Step}
use Rattle.rg_checks.specs.Closure.{is_met}

abbrev pub all_met : ℕ → List (Option Step) → List ℕ
all_met initial steps = filter (is_met initial steps) (range_with_len 0 (length steps))
