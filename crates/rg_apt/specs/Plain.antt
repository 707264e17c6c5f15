-- The plain layout: a line for each name and each arc, in three sections.
use Rattle.std.specs.Prelude.{◌≡◌, ◌↔◌, ℕ, ◌+◌, ◌==◌, List, [], ◌∷◌, ◌++◌, map, Contains, codes, if◌then◌else◌, slice_index_or}
use Rattle.rg_text.specs.Line.{fed}
use Rattle.rg_theory.specs.declared.Arc.{Arc}
use Rattle.rg_theory.specs.System.{System}
use Rattle.rg_lts.specs.WellFormed.{IsWellFormed}

-- the line of state s: its name, and directly after that of the initial state its mark
abbrev pub state_line : ℕ → ℕ → List ℕ → List ℕ
state_line initial s name = if s == initial then name ++ codes "[initial]" else name

-- the lines of the states from s on
abbrev pub state_lines : ℕ → ℕ → List (List ℕ) → List (List ℕ)
state_lines initial s [] = []
state_lines initial s (name ∷ names) = state_line initial s name ∷ state_lines initial (s + 1) names

-- the name at a number
abbrev pub name_at : List (List ℕ) → ℕ → List ℕ
name_at names i = slice_index_or names i []

-- the line of an arc: three names with a space between
abbrev pub arc_line : System → Arc → List ℕ
arc_line lts a = name_at lts.state_names a.from ++ 32 ∷ (name_at lts.label_names a.label ++ 32 ∷ name_at lts.state_names a.to)

-- the lines of a file that lists the arcs in this order
abbrev pub plain_lines : System → List Arc → List (List ℕ)
plain_lines lts listed =
    codes ".type LTS" ∷ codes ".states"
    ∷ (state_lines lts.initial 0 lts.state_names
    ++ codes ".labels"
    ∷ (lts.label_names
    ++ codes ".arcs"
    ∷ map (arc_line lts) listed))

-- the plain text of the system, which lists its arcs in order
abbrev pub lts_text : System → List ℕ
lts_text lts = fed (plain_lines lts lts.arcs)

-- the bytes are a plain text of the system, which lists its arcs in any order, each once or more often
pub record IsPlainText (bytes : List ℕ) (lts : System) : Type 0 where
  pub well_formed : IsWellFormed lts
  pub listed : List Arc
  pub members : (a : Arc) → Contains listed a ↔ Contains lts.arcs a
  pub text : bytes ≡ fed (plain_lines lts listed)
