use Rattle.std.proofs.Common.{◌≡◌, ◌++◌, map, drop}
use Rattle.std.specs.List.{flat_map}
use Rattle.rg_text.specs.Line.{fed}
use Rattle.rg_cert_data.specs.Trees.{node_of}
use Rattle.rg_cert.specs.Text.{spaced}
use Rattle.rg_cert.specs.Text.{node_lines}
use Rattle.rg_cert.proofs.printing.push_nodes.Given as goal

abbrev pub invariant-loop-node : goal.invariant-loop-node
invariant-loop-node l =
    l.text.items ++ fed (map spaced (flat_map (node_lines l.lts) (map node_of (drop l.node-index l.nodes))))
    ≡ l.fn.text.items ++ fed (map spaced (flat_map (node_lines l.lts) (map node_of l.nodes)))
