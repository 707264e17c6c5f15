use Rattle.std.proofs.Common.{◌≡◌, ◌++◌, map, drop}
use Rattle.rg_cert_data.specs.Trees.{named_row}
use Rattle.rg_case_folds.specs.Spreading.{named_from, not_zero}
use Rattle.rg_farkas.specs.Leaves.{share_of}
use Rattle.rg_farkas.proofs.listing.named_rows.Given as goal

abbrev pub invariant-loop-k : goal.invariant-loop-k
invariant-loop-k l = map named_row l.rows.items
    ++ not_zero (named_from (map (λ s. s.name) (map share_of (drop l.k l.named))) (drop l.k l.multipliers))
    ≡ not_zero (named_from (map (λ s. s.name) (map share_of l.named)) l.multipliers)
