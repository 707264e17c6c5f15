use Rattle.std.proofs.Common.{◌≡◌, map, drop}
use Rattle.std.specs.List.{list_any}
use Rattle.rg_cert_data.specs.Trees.{node_of}
use Rattle.rg_cert.specs.Text.{splits_start}
use Rattle.rg_cert.proofs.printing.nodes_split_start.Given as goal

abbrev pub invariant-loop-node : goal.invariant-loop-node
invariant-loop-node l = list_any splits_start (map node_of (drop l.node-index l.nodes)) ≡ list_any splits_start (map node_of l.nodes)
