use Rattle.std.proofs.Common.{◌≡◌, map, drop}
use Rattle.std.specs.List.{flat_map, list_any}
use Rattle.rg_cert_data.specs.Trees.{nodes_of}
use Rattle.rg_cert.specs.Text.{splits_start}
use Rattle.rg_cert.proofs.printing.cases_split_start.Given as goal

abbrev pub invariant-loop-case : goal.invariant-loop-case
invariant-loop-case l = list_any splits_start (flat_map (λ nodes. nodes) (map nodes_of (drop l.case-index l.cases))) ≡ list_any splits_start (flat_map (λ nodes. nodes) (map nodes_of l.cases))
