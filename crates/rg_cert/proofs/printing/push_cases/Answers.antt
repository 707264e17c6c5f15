use Rattle.std.proofs.Common.{arith}
use Rattle.rg_cert_data.specs.Trees.{nodes_of}
use Rattle.rg_cert.specs.Text.{version_two}
use Rattle.rg_cert.specs.Drafts.{nodes_lines, IsCase}
use Rattle.rg_cert.proofs.Printed.{all_at, more_lines}
use Rattle.rg_cert.proofs.printing.push_cases.Goals as goal

pub push_case-requires : goal.push_case-requires
push_case-requires c =
    all_at (IsCase c.args.lts.now version_two) nodes_of c.args.cases.now c.loop-case.case-index c.case-item.result c.requires (omega arith) c.case-item.is

pub loop-case-preserved : goal.loop-case-preserved
loop-case-preserved c =
    more_lines nodes_of (nodes_lines c.args.lts.now) c.args.cases.now c.loop-case.case-index c.case-item.result c.loop-case.text.items c.push_case.new.text.items _
    (omega arith) c.case-item.is c.in_ok-push_case.ensures c.loop-case.invariant
