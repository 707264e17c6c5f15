use Rattle.std.proofs.Common.{◌≡◌, ℕ, ◌<◌, All, length}
use Rattle.rg_integers.specs.Range.{InRange}
use Rattle.rg_linear.specs.Cycle.{vector_at}
use Rattle.rg_cycles.specs.Vectors.{vectors_by}
use Rattle.rg_test_bases.proofs.bases.are_vectors.Given as goal

abbrev pub invariant-loop-chord : goal.invariant-loop-chord
invariant-loop-chord g l = (c : ℕ) → c < l.chord-index → (length (vector_at (vectors_by g.N.ChordEntry.numbers l.chords) c) ≡ l.labels)
    × All InRange (vector_at (vectors_by g.N.ChordEntry.numbers l.chords) c)
