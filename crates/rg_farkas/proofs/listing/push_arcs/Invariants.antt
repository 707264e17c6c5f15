use Rattle.std.proofs.Common.{◌≡◌, ◌++◌, map, drop}
use Rattle.rg_cert_data.specs.Trees.{named_row}
use Rattle.rg_case_folds.specs.Spreading.{not_zero, multiplier_among, arc_name}
use Rattle.rg_farkas.proofs.listing.push_arcs.Given as goal

abbrev pub invariant-loop-k : goal.invariant-loop-k
invariant-loop-k l = map named_row l.rows.items ++ not_zero
    (map (λ a. record { multiplier = multiplier_among l.arcs l.multipliers a; name = arc_name a }) (drop l.k l.system)) ≡ map named_row l.initial.rows.items ++
    not_zero (map (λ a. record { multiplier = multiplier_among l.arcs l.multipliers a; name = arc_name a }) l.system)
