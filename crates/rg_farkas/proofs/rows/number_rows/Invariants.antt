use Rattle.std.proofs.Common.{◌≡◌, ◌+◌, ◌++◌, map, drop, length}
use Rattle.rg_cert_data.specs.Trees.{named_row}
use Rattle.rg_case_folds.specs.Spreading.{named_from, arc_name}
use Rattle.rg_farkas.specs.Leaves.{share_of}
use Rattle.rg_farkas.proofs.rows.number_rows.Given as goal

abbrev pub invariant-loop-k : goal.invariant-loop-k
invariant-loop-k l = map named_row l.rows.items
    ++ named_from (map (λ s. s.name) (map share_of (drop l.k l.named)) ++ map arc_name l.chords) (drop l.k l.numbers)
    ≡ named_from (map (λ s. s.name) (map share_of l.named) ++ map arc_name l.chords) l.numbers

abbrev pub invariant-loop-k-2 : goal.invariant-loop-k-2
invariant-loop-k-2 l = map named_row l.rows.items ++ named_from (map arc_name (drop l.k l.chords)) (drop (length l.named + l.k) l.numbers)
    ≡ named_from (map (λ s. s.name) (map share_of l.named) ++ map arc_name l.chords) l.numbers
