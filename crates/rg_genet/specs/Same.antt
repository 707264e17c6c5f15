-- Systems that are the same but for the numbers of their states and labels.
use Rattle.std.specs.Prelude.{◌≡◌, ◌↔◌, ℕ, List, map, Contains}
use Rattle.rg_theory.specs.System.{System}
use Rattle.rg_genet.specs.Contents.{Triple}
use Rattle.rg_genet.specs.Text.{name_at, names_of}

-- the two have the same names of states and of labels, the same name of the initial state, and arcs between the same names
pub record IsSameByNames (a b : System) : Type 0 where
  pub states : (name : List ℕ) → Contains a.state_names name ↔ Contains b.state_names name
  pub labels : (name : List ℕ) → Contains a.label_names name ↔ Contains b.label_names name
  pub initial : name_at a.state_names a.initial ≡ name_at b.state_names b.initial
  pub arcs : (t : Triple) → Contains (map (names_of a) a.arcs) t ↔ Contains (map (names_of b) b.arcs) t
