use Rattle.std.proofs.Common.{◌≡◌, ◌++◌, length, map, take, codes, decimal}
use Rattle.std.specs.List.{flat_map, range_with_len}
use Rattle.rg_factor.specs.View.{shown_factor}
use Rattle.rg_messages.specs.FactorTexts.{factor_lines, tuple_line}
use Rattle.rg_messages.proofs.factored.factors_text.Given as goal

abbrev pub invariant-loop-i : goal.invariant-loop-i
invariant-loop-i l = l.text.items ≡ codes "factors " ++ decimal (length l.factors) ++ codes "\n" ++ factor_lines 0 (take l.i (map shown_factor l.factors))

abbrev pub invariant-loop-s : goal.invariant-loop-s
invariant-loop-s l =
    l.text.items ≡ codes "factors " ++ decimal (length l.factors) ++ codes "\n" ++ factor_lines 0 (map shown_factor l.factors)
    ++ flat_map (tuple_line l.lts (map shown_factor l.factors) (map (λ t. t.items) l.tuples)) (range_with_len 0 l.s)
