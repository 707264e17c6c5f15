use Rattle.std.proofs.Common.{map, drop, Result}
use Rattle.std.specs.Prelude.{ℤ, pos, ◌<ℤ◌}
use Rattle.rg_integers.specs.Range.{InRange}
use Rattle.rg_integers.specs.declared.term.Wide.{Wide}
use Rattle.rg_fraction.specs.Fractions.{denominator_of}
use Rattle.rg_folds.specs.Fold.{gives, further, common_multiple, multiple_of_all}
use Rattle.rg_case_parts.proofs.denominators.common_denominator.Given as goal

abbrev pub invariant-loop-fraction : goal.invariant-loop-fraction
invariant-loop-fraction l = record {
  so_far : (r : Result ℤ Wide) → further common_multiple gives l.multiple (drop l.fraction-index (map denominator_of l.rest)) r → multiple_of_all (map denominator_of l.fractions) r;
  in_range : InRange l.multiple;
  positive : pos 0 <ℤ l.multiple;
}
