use Rattle.std.proofs.Common.{◌≡◌, drop}
use Rattle.rg_cycles.specs.Basis.{number_with}
use Rattle.rg_farkas.proofs.chords.chord_number.Given as goal

abbrev pub invariant-loop-chord : goal.invariant-loop-chord
invariant-loop-chord l = number_with (drop l.chord-index l.relation.chords.items) l.index ≡ number_with l.relation.chords.items l.index
