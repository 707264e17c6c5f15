use Rattle.std.proofs.Common.{◌≡◌}
use Rattle.rg_cert_data.specs.Certificates.{case_tree}
use Rattle.rg_cert_data.specs.Trees.{nodes_of}
use Rattle.rg_verify.specs.Sums.{IsClear}
use Rattle.rg_verify.proofs.Walking.{IsAtNode}
use Rattle.rg_verify.proofs.cases.case_defect.Given as goal

abbrev pub invariant-loop-node : goal.invariant-loop-node
invariant-loop-node l = record {
  items : l.content-items ≡ l.case.nodes.items;
  clear : IsClear l.lts l.sums;
  at_node : IsAtNode l.lts l.problem_case.class l.problem_case.problem l.problem_case.number (case_tree l.case) (nodes_of l.case) l.node l.above.items;
}
