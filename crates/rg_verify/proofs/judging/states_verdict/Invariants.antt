use Rattle.std.proofs.Common.{◌≡◌, ℕ, ◌<◌, [], Some, map, slice_get}
use Rattle.rg_theory.specs.declared.Problem.TheVariants.{States}
use Rattle.rg_cert_meaning.specs.Refutes.{Tree, TreeRefutes}
use Rattle.rg_cert_data.specs.Certificates.{case_tree}
use Rattle.rg_verify.specs.Sums.{IsClear}
use Rattle.rg_verify.proofs.judging.states_verdict.Given as goal

abbrev pub invariant-loop-number : goal.invariant-loop-number
invariant-loop-number l = record {
  clear : IsClear l.lts l.sums;
  before : (number : ℕ) (tree : Tree) → number < l.number → slice_get (map case_tree l.cases) number ≡ Some tree → TreeRefutes l.lts l.class (States l.s l.other) number [] tree;
}
