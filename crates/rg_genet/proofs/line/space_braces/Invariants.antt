use Rattle.std.proofs.Common.{◌≡◌, ◌++◌, drop}
use Rattle.std.specs.List.{flat_map}
use Rattle.rg_genet.specs.Form.{apart, uncommented}
use Rattle.rg_genet.proofs.line.space_braces.Given as goal

abbrev pub invariant-loop-b : goal.invariant-loop-b
invariant-loop-b l = l.text.items ++ flat_map apart (drop l.b-index (uncommented l.line)) ≡ flat_map apart (uncommented l.line)
