-- What a state graph spells, and its first fault.
use Rattle.std.specs.Prelude.{◌≡◌, ℕ, List, [], ◌∷◌, map}
use Rattle.std.specs.Str.{bytes_eq}
use Rattle.rg_theory.specs.System.{System}
use Rattle.rg_text.specs.Faults.{IsFirst, AreNone}
use Rattle.rg_line_formats.specs.First.{number_of}
use Rattle.rg_line_formats.specs.Numbered.{Line}
use Rattle.rg_line_formats.specs.Parts.{IsSystemWith}
use Rattle.rg_genet.specs.declared.fault.GraphFault.{GraphFault}
use Rattle.rg_genet.specs.Contents.{Triple, body, triples, markings, state_names, label_names, arc_of, faults}

-- the states: those on arcs, or the marked one alone where there is no arc
abbrev pub or_alone : List (List ℕ) → List ℕ → List (List ℕ)
or_alone [] marked = marked ∷ []
or_alone (state ∷ states) marked = state ∷ states

-- the system of these arcs in which the state with this name is initial
abbrev pub IsGraphOf : List Triple → List ℕ → System → Type 0
IsGraphOf arcs marked lts =
    let states = or_alone (state_names arcs) marked in
    let labels = label_names arcs in
    IsSystemWith states labels (map (arc_of states labels) arcs) (number_of bytes_eq states marked) lts

-- no line is wrong, one has the marking, and the system is that of the arcs and the marked state
pub record Spells (bytes : List ℕ) (lts : System) : Type 0 where
  pub none : AreNone (faults bytes)
  pub marking : Line
  pub only : markings (body bytes) ≡ marking ∷ []
  pub system : IsGraphOf (triples (body bytes)) marking.1 lts

-- the first fault of a text
abbrev pub FirstFault : List ℕ → GraphFault → Type 0
FirstFault bytes fault = IsFirst (faults bytes) fault
