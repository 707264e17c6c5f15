-- The limits of a system.
use Rattle.std.specs.Prelude.{ℕ}

-- the most states, labels and arcs
abbrev pub most_states : ℕ
most_states = 4096

abbrev pub most_labels : ℕ
most_labels = 256

abbrev pub most_arcs : ℕ
most_arcs = 262144
