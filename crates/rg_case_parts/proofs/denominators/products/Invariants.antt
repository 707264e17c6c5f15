use Rattle.std.proofs.Common.{map, drop, List, Result}
use Rattle.rg_integers.specs.declared.term.Wide.{Wide}
use Rattle.rg_folds.specs.Fold.{Ratio, ratio_of, whole, each, mul}
use Rattle.rg_folds.proofs.Folding.{behind}
use Rattle.rg_case_parts.proofs.denominators.products.Given as goal

abbrev pub invariant-loop-fraction : goal.invariant-loop-fraction
invariant-loop-fraction l = (r : Result (List Ratio) Wide)
    → each (λ f. mul f (whole l.number)) (drop l.fraction-index (map ratio_of l.fractions)) r
    → each (λ f. mul f (whole l.number)) (map ratio_of l.fractions) (behind (map ratio_of l.products.items) r)
