-- What the lines of a state graph declare, and what may be wrong with them.
use Rattle.std.specs.Prelude.{ℕ, nat_lt, Bool, ◌||◌, List, [], ◌∷◌, ◌++◌, length, map, Option, None, Some, if◌then◌else◌}
use Rattle.std.specs.List.{list_any, flat_map, before_first, after_first}
use Rattle.std.specs.Str.{bytes_eq}
use Rattle.rg_theory.specs.declared.Arc.{Arc}
use Rattle.rg_text.specs.Faults.{faults_after, if_not}
use Rattle.rg_text.specs.Limits.{most_name_bytes}
use Rattle.rg_theory.specs.Limits.{most_states, most_labels, most_arcs}
use Rattle.rg_line_formats.specs.First.{firsts, number_of, same_arc}
use Rattle.rg_line_formats.specs.Numbered.{Line, numbered}
use Rattle.rg_genet.specs.declared.fault.GraphFault.{GraphFault}
use Rattle.rg_genet.specs.declared.fault.GraphFault.TheVariants.{Expected, NoMarking, UnknownState, NoEnd, TooManyStates, TooManyLabels, TooManyArcs, LongName}
use Rattle.rg_genet.specs.Form.{tokens, opens_by, passes_by, Form, blank, arc_line, marking_line, closing, other, form_of, is_closing}

-- ---- the parts of a text

abbrev pub opens : Line → Bool
opens line = opens_by (tokens line.1)

abbrev pub says : Line → Form
says line = form_of (tokens line.1)

abbrev pub closes : Line → Bool
closes line = is_closing (says line)

-- the lines before `.state graph`
abbrev pub heading : List ℕ → List Line
heading bytes = before_first opens (numbered bytes)

-- the lines between `.state graph` and `.end`
abbrev pub body : List ℕ → List Line
body bytes = before_first closes (after_first opens (numbered bytes))

-- `.end` comes after `.state graph`
abbrev pub is_closed : List ℕ → Bool
is_closed bytes = list_any closes (after_first opens (numbered bytes))

-- ---- what the lines between them declare

-- the names of an arc
pub record Triple : Type 0 where
  pub from : List ℕ
  pub label : List ℕ
  pub to : List ℕ

abbrev pub triple : List ℕ → List ℕ → List ℕ → Triple
triple from label to = record { from = from; label = label; to = to }

abbrev pub triples_by : Form → List Triple
triples_by (arc_line from label to) = triple from label to ∷ []
triples_by _ = []

abbrev pub markings_by : ℕ → Form → List Line
markings_by n (marking_line name) = (n, name) ∷ []
markings_by n _ = []

-- the arcs, in the order of the lines
abbrev pub triples : List Line → List Triple
triples lines = flat_map (λ line. triples_by (says line)) lines

-- the names of the markings, each with the number of its line
abbrev pub markings : List Line → List Line
markings lines = flat_map (λ line. markings_by line.0 (says line)) lines

abbrev pub ends : Triple → List (List ℕ)
ends t = t.from ∷ t.to ∷ []

-- the names of states and of labels on arcs, in the order of first appearance
abbrev pub state_names : List Triple → List (List ℕ)
state_names arcs = firsts bytes_eq (flat_map ends arcs)

abbrev pub label_names : List Triple → List (List ℕ)
label_names arcs = firsts bytes_eq (map (λ (t : Triple). t.label) arcs)

-- the arc with the numbers of its names
abbrev pub arc_of : List (List ℕ) → List (List ℕ) → Triple → Arc
arc_of states labels t =
    record { from = number_of bytes_eq states t.from; label = number_of bytes_eq labels t.label; to = number_of bytes_eq states t.to }

-- the arcs, as the numbers of their names
abbrev pub arcs_of : List Triple → List Arc
arcs_of arcs = map (arc_of (state_names arcs) (label_names arcs)) arcs

-- ---- what may be wrong

abbrev pub is_long : List ℕ → Bool
is_long name = nat_lt most_name_bytes (length name)

-- a line of the heading has no word, or a first one that begins with a `.`
abbrev pub heading_fault : Line → Option GraphFault
heading_fault line = if passes_by (tokens line.1) then None else Some (Expected line.0)

-- the fault of an arc in line n, the last of these arcs
abbrev pub arc_fault : ℕ → Triple → List Triple → Option GraphFault
arc_fault n t arcs =
    if is_long t.from || (is_long t.label || is_long t.to) then Some (LongName n)
    else (if nat_lt most_states (length (state_names arcs)) then Some (TooManyStates n)
    else (if nat_lt most_labels (length (label_names arcs)) then Some (TooManyLabels n)
    else (if nat_lt most_arcs (length (firsts same_arc (arcs_of arcs))) then Some (TooManyArcs n)
    else None)))

-- the fault of a marking in line n, by the markings before it
abbrev pub marking_fault : ℕ → List ℕ → List Line → Option GraphFault
marking_fault n name [] = if is_long name then Some (LongName n) else None
marking_fault n name (first ∷ more) = Some (Expected n)

abbrev pub fault_by : List Line → ℕ → Form → Option GraphFault
fault_by before n blank = None
fault_by before n (arc_line from label to) = arc_fault n (triple from label to) (triples before ++ triple from label to ∷ [])
fault_by before n (marking_line name) = marking_fault n name (markings before)
fault_by before n closing = None
fault_by before n other = Some (Expected n)

-- the fault of a line between `.state graph` and `.end`, by the lines between them before it
abbrev pub line_fault : List Line → Line → Option GraphFault
line_fault before line = fault_by before line.0 (says line)

-- there is a marking, and where there are arcs it names a state
abbrev pub last_faults : List (List ℕ) → List Line → List (Option GraphFault)
last_faults states [] = Some NoMarking ∷ []
last_faults [] (marking ∷ more) = []
last_faults (state ∷ states) (marking ∷ more) = if_not (list_any (bytes_eq marking.1) (state ∷ states)) (UnknownState marking.0)

-- all that may be wrong, in the order in which it counts
abbrev pub faults : List ℕ → List (Option GraphFault)
faults bytes =
    map heading_fault (heading bytes)
    ++ faults_after line_fault [] (body bytes)
    ++ if_not (is_closed bytes) NoEnd
    ++ last_faults (state_names (triples (body bytes))) (markings (body bytes))
