use Rattle.std.proofs.Common.{arith}
use Rattle.rg_cert_data.specs.Trees.{node_of}
use Rattle.rg_cert.specs.Text.{node_lines}
use Rattle.rg_cert_data.specs.Certificates.{IsNodeOf}
use Rattle.rg_cert.proofs.Printed.{all_at, more_lines}
use Rattle.rg_cert.proofs.printing.push_nodes.Goals as goal

pub push_node-requires : goal.push_node-requires
push_node-requires c =
    all_at (IsNodeOf c.args.lts.now) node_of c.args.nodes.now c.loop-node.node-index c.node-item.result c.requires (omega arith) c.node-item.is

pub loop-node-preserved : goal.loop-node-preserved
loop-node-preserved c =
    more_lines node_of (node_lines c.args.lts.now) c.args.nodes.now c.loop-node.node-index c.node-item.result c.loop-node.text.items c.push_node.new.text.items _
    (omega arith) c.node-item.is c.in_ok-push_node.ensures c.loop-node.invariant
