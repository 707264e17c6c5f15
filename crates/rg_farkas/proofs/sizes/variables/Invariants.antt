use Rattle.std.proofs.Common.{◌≡◌, ◌-◌, ◌++◌, map, true}
use Rattle.rg_theory.specs.System.{states, labels}
use Rattle.rg_folds.specs.Substitution.{numbers_where}
use Rattle.rg_case_folds.specs.Rewriting.{all_numbers}
use Rattle.rg_farkas.proofs.sizes.variables.Given as goal
use Rattle.rg_cert_meaning.specs.declared.Variable.TheVariants.{Tokens, Effect}

abbrev pub invariant-loop-q : goal.invariant-loop-q
invariant-loop-q l = l.variables.items ++ map Tokens (numbers_where (λ i. true) l.q (states l.lts - l.q)) ≡ map Tokens (all_numbers (states l.lts))

abbrev pub invariant-loop-t : goal.invariant-loop-t
invariant-loop-t l = l.variables.items ++ map Effect (numbers_where (λ i. true) l.t (labels l.lts - l.t)) ≡ map Tokens (all_numbers (states l.lts)) ++ map Effect (all_numbers (labels l.lts))
