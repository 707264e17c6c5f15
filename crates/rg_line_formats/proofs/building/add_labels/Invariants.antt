use Rattle.std.proofs.Common.{◌≡◌, ℕ, List, map, take, Bor}
use Rattle.rg_line_formats.proofs.building.add_labels.Given as goal

abbrev pub invariant-loop-name : goal.invariant-loop-name
invariant-loop-name l = l.builder ≡ record l.fn.builder { label_names = take l.name-index (map (λ (n : Bor (List ℕ)). n.now) l.names) }
