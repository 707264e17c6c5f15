use Rattle.std.proofs.Common.{◌≡◌, ℕ, List, map, take, Bor}
use Rattle.rg_split.proofs.building.state_names.Given as goal

abbrev pub invariant-loop-s : goal.invariant-loop-s
invariant-loop-s l = map (λ (n : Bor (List ℕ)). n.now) l.names.items ≡ take l.s l.of.state_names
