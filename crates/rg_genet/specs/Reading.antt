-- How far a state graph is read. Contracts of the crate's private functions cite it.
use Rattle.std.specs.Prelude.{◌≡◌, ◌↔◌, ◌⊎◌, map, ℕ, ◌<◌, ◌≤◌, nat_lt, Bool, true, slice_get, List, [], ◌∷◌, ◌++◌, length, Option, None, Some, Contains, string_bytes}
use Rattle.rg_theory.specs.declared.Arc.{Arc}
use Rattle.std.specs.List.{after_first, before_first, enumerate_from, list_any}
use Rattle.rg_text.specs.Byte.{IsName}
use Rattle.rg_text.specs.Line.{lines}
use Rattle.rg_text.specs.Faults.{faults_after, if_not, IsFirst, AreNone}
use Rattle.rg_genet.specs.declared.fault.GraphFault.{GraphFault}
use Rattle.rg_genet.specs.declared.fault.GraphFault.TheVariants.{NoEnd, NoMarking, UnknownState}
use Rattle.rg_genet.specs.declared.reading.Marking.{Marking}
use Rattle.rg_lts.specs.WellFormed.{IsWellFormed}
use Rattle.rg_theory.specs.Limits.{most_states, most_labels, most_arcs}
use Rattle.rg_lts.specs.Draft.{Draft}
use Rattle.rg_lts.specs.declared.fault.BuildFault.{BuildFault}
use Rattle.rg_lts.specs.declared.fault.BuildFault.TheVariants.{TooManyStates, TooManyLabels, TooManyArcs, NoMemory}
use Rattle.rg_line_formats.specs.Numbered.{Line}
use Rattle.rg_line_formats.specs.First.{firsts, same_arc}
use Rattle.rg_theory.specs.System.{System}
use Rattle.rg_genet.specs.Spells.{or_alone}
use Rattle.rg_genet.specs.Contents.{Triple, opens, heading_fault, closes, line_fault, triples, markings, state_names, label_names, arcs_of}

-- the draft has these arcs and their names, and nothing else
pub record HasTriples (arcs : List Triple) (d : Draft) : Type 0 where
  pub states : d.state_names ≡ state_names arcs
  pub labels : d.label_names ≡ label_names arcs
  pub members : (a : Arc) → Contains d.arcs a ↔ Contains (arcs_of arcs) a
  pub unmarked : d.initial ≡ None
  pub few_states : length d.state_names ≤ most_states
  pub few_labels : length d.label_names ≤ most_labels

-- there are no more states, labels and arcs than there may be
pub record AreFew (listed : List Triple) : Type 0 where
  pub states : length (state_names listed) ≤ most_states
  pub labels : length (label_names listed) ≤ most_labels
  pub arcs : length (firsts same_arc (arcs_of listed)) ≤ most_arcs

-- the first of the three that are too many
abbrev pub AreTooMany : List Triple → BuildFault → Type 0
AreTooMany arcs TooManyStates = most_states < length (state_names arcs)
AreTooMany arcs TooManyLabels = (length (state_names arcs) ≤ most_states) × (most_labels < length (label_names arcs))
AreTooMany arcs TooManyArcs =
    (length (state_names arcs) ≤ most_states) × (length (label_names arcs) ≤ most_labels) × (most_arcs < length (firsts same_arc (arcs_of arcs)))
AreTooMany arcs _ = ⊥

-- a limit is passed, or there is no memory
abbrev pub IsLimitFault : BuildFault → Type 0
IsLimitFault TooManyStates = Unit {0}
IsLimitFault TooManyLabels = Unit {0}
IsLimitFault TooManyArcs = Unit {0}
IsLimitFault NoMemory = Unit {0}
IsLimitFault _ = ⊥

-- the marked state's name is a name
abbrev pub IsMarkNamed : Option Marking → Type 0
IsMarkNamed None = Unit {0}
IsMarkNamed (Some m) = IsName (string_bytes m.name)

-- the marking, as the list of one line or of none
abbrev pub marking_in : Option Marking → List Line
marking_in None = []
marking_in (Some m) = (m.line, string_bytes m.name) ∷ []

-- what is kept of the lines before
pub record Shows (lines : List Line) (d : Draft) (has_arcs : Bool) (marking : Option Marking) : Type 0 where
  pub arcs : HasTriples (triples lines) d
  pub some : has_arcs ≡ nat_lt 0 (length (triples lines))
  pub marks : markings lines ≡ marking_in marking

-- the faults of the lines that are left up to `.end`, and that it is missing
abbrev pub rest_faults : List Line → List Line → List (Option GraphFault)
rest_faults before rest = faults_after line_fault before (before_first closes rest) ++ if_not (list_any closes rest) NoEnd

-- the lines of a text, the first of which has this number
abbrev pub lines_from : ℕ → List ℕ → List Line
lines_from n text = enumerate_from n (lines text)

-- all lines are those before and the rest, as far as they count
pub record ReadsTo (all before rest : List Line) : Type 0 where
  pub body : before_first closes all ≡ before ++ before_first closes rest
  pub first : (f : GraphFault) → IsFirst (rest_faults before rest) f → IsFirst (rest_faults [] all) f
  pub none : AreNone (rest_faults before rest) → AreNone (rest_faults [] all)

-- the heading of all lines is that of the rest, as far as it counts, and what follows it is the same
pub record HeadsTo (all rest : List Line) : Type 0 where
  pub first : (f : GraphFault) → IsFirst (map heading_fault (before_first opens rest)) f → IsFirst (map heading_fault (before_first opens all)) f
  pub none : AreNone (map heading_fault (before_first opens rest)) → AreNone (map heading_fault (before_first opens all))
  pub after : after_first opens all ≡ after_first opens rest

-- a line of the heading is wrong, or nothing follows it
abbrev pub IsHeadFault : List Line → GraphFault → Type 0
IsHeadFault all f =
    IsFirst (map heading_fault (before_first opens all)) f
    ⊎ ((f ≡ NoEnd) × AreNone (map heading_fault (before_first opens all)) × (after_first opens all ≡ []))

-- the state of this name is the initial one, and there alone where there was none
pub record IsMarked (old new : Draft) (name : List ℕ) : Type 0 where
  pub state : ℕ
  pub at : slice_get (or_alone old.state_names name) state ≡ Some name
  pub new_is : new ≡ record old { state_names = or_alone old.state_names name; initial = Some state }

-- the system of a draft and a marking
pub record IsFinished (d : Draft) (marking : Option Marking) (lts : System) : Type 0 where
  pub mark : Marking
  pub is : marking ≡ Some mark
  pub at : slice_get (or_alone d.state_names (string_bytes mark.name)) lts.initial ≡ Some (string_bytes mark.name)
  pub well_formed : IsWellFormed lts
  pub state_names : lts.state_names ≡ or_alone d.state_names (string_bytes mark.name)
  pub label_names : lts.label_names ≡ d.label_names
  pub arcs : lts.arcs ≡ d.arcs

-- there is no marking, or it names no state on an arc
abbrev pub IsUnfinished : Draft → Bool → Option Marking → GraphFault → Type 0
IsUnfinished d has_arcs None f = f ≡ NoMarking
IsUnfinished d has_arcs (Some m) f = (f ≡ UnknownState m.line) × (has_arcs ≡ true) × ¬ Contains d.state_names (string_bytes m.name)
