use Rattle.std.proofs.Common.{◌≡◌, ℕ, List, map, take, Bor}
use Rattle.rg_split.proofs.building.label_names.Given as goal

abbrev pub invariant-loop-t : goal.invariant-loop-t
invariant-loop-t l = map (λ (n : Bor (List ℕ)). n.now) l.names.items ≡ take l.t l.of.label_names
