-- The vectors of the chords, and their basis.
use Rattle.std.specs.Prelude.{ℕ, List, map, slice_index_or, ℤ}
use Rattle.rg_theory.specs.declared.Arc.{Arc}
use Rattle.rg_theory.specs.System.{System, labels}
use Rattle.rg_theory.specs.Tree.{chords, chord_entry}
use Rattle.rg_linear.specs.System.{LinearSystem}
use Rattle.rg_linear.specs.Dictionary.{numbers_from}
use Rattle.rg_linear.specs.Cycle.{KeepsVectors, vector_system, CycleBasis, IsCycleBasis}

-- the chord's number of each label
abbrev pub chord_vector : System → List Arc → Arc → List ℤ
chord_vector lts tree a = map (chord_entry tree a) (numbers_from 0 (labels lts))

-- the vectors of the chords, in the order of the chords
abbrev pub chord_vectors : System → List Arc → List (List ℤ)
chord_vectors lts tree = map (chord_vector lts tree) (chords lts tree)

-- the chord at a place
abbrev pub chord_at : System → List Arc → ℕ → Arc
chord_at lts tree i = slice_index_or (chords lts tree) i (record { from = 0; label = 0; to = 0 })

-- these places are kept: those of different vectors that are not 0, each at its first place
abbrev pub KeepsChords : System → List Arc → List ℕ → Type 0
KeepsChords lts tree kept = KeepsVectors (chord_vectors lts tree) kept

-- the system whose columns are the labels, and whose rows are the vectors of the kept chords
abbrev pub chord_system : System → List Arc → List ℕ → LinearSystem
chord_system lts tree kept = vector_system (labels lts) (chord_vectors lts tree) kept

-- the basis of the chords
abbrev pub IsBasis : System → List Arc → CycleBasis → Type 0
IsBasis lts tree basis = IsCycleBasis (labels lts) (chord_vectors lts tree) basis
