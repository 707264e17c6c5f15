use Rattle.std.proofs.Common.{◌≡◌, ◌++◌, map, drop}
use Rattle.std.specs.List.{flat_map}
use Rattle.rg_text.specs.Line.{fed}
use Rattle.rg_cert_data.specs.Trees.{nodes_of}
use Rattle.rg_cert.specs.Text.{spaced}
use Rattle.rg_cert.specs.Drafts.{nodes_lines}
use Rattle.rg_cert.proofs.printing.push_cases.Given as goal

abbrev pub invariant-loop-case : goal.invariant-loop-case
invariant-loop-case l =
    l.text.items ++ fed (map spaced (flat_map (nodes_lines l.lts) (map nodes_of (drop l.case-index l.cases))))
    ≡ l.fn.text.items ++ fed (map spaced (flat_map (nodes_lines l.lts) (map nodes_of l.cases)))
