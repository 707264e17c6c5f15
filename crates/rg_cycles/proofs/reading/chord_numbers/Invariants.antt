use Rattle.std.proofs.Common.{◌≡◌, take}
use Rattle.rg_linear.specs.Dictionary.{Relation}
use Rattle.rg_linear.specs.Table.{numbers_of}
use Rattle.rg_cycles.specs.Basis.{vector_numbers}
use Rattle.rg_cycles.proofs.reading.chord_numbers.Given as goal

abbrev pub invariant-loop-index : goal.invariant-loop-index
invariant-loop-index l = (k : Relation) → l.numbers ≡ numbers_of l.members k → l.chords.items ≡ vector_numbers l.labels l.kept (take l.index l.members) k
