-- How many problems a system has at most.
use Rattle.std.specs.Prelude.{ℕ, ◌+◌, ◌*◌, ◌-◌, ◌/◌}
use Rattle.rg_theory.specs.System.{System, states, labels}

-- how many pairs so many states make
abbrev pub pairs : ℕ → ℕ
pairs n = n * (n - 1) / 2

-- an event problem for each state and label, and a state problem for each pair of states
abbrev pub most_problems : System → ℕ
most_problems lts = states lts * labels lts + pairs (states lts)
