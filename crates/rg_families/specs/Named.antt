-- Systems given by the names of their states and labels.
use Rattle.std.specs.Prelude.{◌≡◌, ◌↔◌, ℕ, ◌≤◌, List, length, map, Contains, String, string_bytes}
use Rattle.std.specs.List.{flat_map, range_with_len}
use Rattle.std.specs.Str.{bytes_eq}
use Rattle.std.specs.declared.alloc.Global.{Global}
use Rattle.rg_theory.specs.declared.Arc.{Arc}
use Rattle.rg_theory.specs.System.{System}
use Rattle.rg_theory.specs.Limits.{most_states, most_labels, most_arcs}
use Rattle.rg_lts.specs.WellFormed.{AreNames}
use Rattle.rg_lts.specs.Draft.{Draft}
use Rattle.rg_line_formats.specs.First.{number_of}
use Rattle.rg_line_formats.specs.Parts.{IsSystemWith}
use Rattle.rg_families.specs.declared.named.NamedArc.{NamedArc}

-- an arc by names: those of the state that it leaves, of its label and of the state that it enters
pub record Triple : Type 0 where
  pub from : List ℕ
  pub label : List ℕ
  pub to : List ℕ

abbrev pub triple : List ℕ → List ℕ → List ℕ → Triple
triple from label to = record { from = from; label = label; to = to }

-- the names of states and labels in order, the arcs in any order, and the name of the initial state
pub record Drawing : Type 0 where
  pub states : List (List ℕ)
  pub labels : List (List ℕ)
  pub arcs : List Triple
  pub initial : List ℕ

abbrev pub drawing : List (List ℕ) → List (List ℕ) → List Triple → List ℕ → Drawing
drawing states labels arcs initial = record { states = states; labels = labels; arcs = arcs; initial = initial }

-- the arc with these names, by numbers
abbrev pub arc_of : List (List ℕ) → List (List ℕ) → Triple → Arc
arc_of states labels t = record {
  from = number_of bytes_eq states t.from;
  label = number_of bytes_eq labels t.label;
  to = number_of bytes_eq states t.to;
}

-- the system has these states and labels, these arcs and no other, and this initial state
abbrev pub IsSystemOf : Drawing → System → Type 0
IsSystemOf d lts = IsSystemWith d.states d.labels (map (arc_of d.states d.labels) d.arcs) (number_of bytes_eq d.states d.initial) lts

-- all three names of the arc are there
pub record IsKnown (states labels : List (List ℕ)) (t : Triple) : Type 0 where
  pub from : Contains states t.from
  pub label : Contains labels t.label
  pub to : Contains states t.to

-- names differ, arcs have names that are there, and no limit is passed
pub record IsSound (d : Drawing) : Type 0 where
  pub state_names : AreNames d.states
  pub label_names : AreNames d.labels
  pub known : (t : Triple) → Contains d.arcs t → IsKnown d.states d.labels t
  pub initial : Contains d.states d.initial
  pub few_states : length d.states ≤ most_states
  pub few_labels : length d.labels ≤ most_labels
  pub few_arcs : length d.arcs ≤ most_arcs

-- the draft has these arcs, and all else is as in an earlier one
pub record HasArcs (old new : Draft) (arcs : List Triple) : Type 0 where
  pub rest : new ≡ record old { arcs = new.arcs }
  pub members : (a : Arc) → Contains new.arcs a ↔ Contains (map (arc_of old.state_names old.label_names) arcs) a

-- the names of strings, and of the arcs of the code
abbrev pub names_of : List (String Global) → List (List ℕ)
names_of names = map string_bytes names

abbrev pub triple_of : NamedArc → Triple
triple_of a = triple (string_bytes a.from) (string_bytes a.label) (string_bytes a.to)

-- the lists f 0, f 1, and so on to f (n - 1), one after the other
abbrev pub each_below : {X : Type 0} → ℕ → (ℕ → List X) → List X
each_below n f = flat_map f (range_with_len 0 n)

-- the things f 0, f 1, and so on: so many as there are columns
abbrev pub row : {X : Type 0} → ℕ → (ℕ → X) → List X
row columns f = map f (range_with_len 0 columns)
