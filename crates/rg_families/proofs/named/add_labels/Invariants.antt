use Rattle.std.proofs.Common.{◌≡◌, take}
use Rattle.rg_families.specs.Named.{names_of}
use Rattle.rg_families.proofs.named.add_labels.Given as goal

abbrev pub invariant-loop-name : goal.invariant-loop-name
invariant-loop-name l = l.builder ≡ record l.fn.builder { label_names = take l.name-index (names_of l.names) }
