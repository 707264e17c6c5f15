-- What the items of a system file declare.
use Rattle.std.specs.Prelude.{◌≡◌, ℕ, ◌+◌, ◌↔◌, nat_le, Bool, true, false, not, ◌&&◌, List, [], ◌∷◌, ◌++◌, length, map, Option, None, Some, slice_get, position, Contains, Any, AllPairs, codes, if◌then◌else◌}
use Rattle.std.specs.List.{list_any, flat_map}
use Rattle.std.specs.Str.{bytes_eq}
use Rattle.rg_theory.specs.Limits.{most_states, most_labels, most_arcs}
use Rattle.rg_theory.specs.declared.Arc.{Arc}
use Rattle.rg_theory.specs.System.{System, IsArcBefore}
use Rattle.rg_lexer.specs.Lexeme.{Lexeme}
use Rattle.rg_apt.specs.declared.fault.TextFault.{TextFault}
use Rattle.rg_apt.specs.declared.fault.TextFault.TheVariants.{NoType, TwiceState, TwiceLabel, UnknownState, UnknownLabel, TwoInitial, NoInitial, TooManyStates, TooManyLabels, TooManyArcs}
use Rattle.rg_grammar.specs.declared.list_position.Setting.{Setting}
use Rattle.rg_grammar.specs.declared.list_position.Setting.TheVariants.{Alone, Valued}
use Rattle.rg_grammar.specs.Entry.{Entry, value_text}
pub use Rattle.rg_apt.specs.declared.found.StateEntry.{StateEntry}
pub use Rattle.rg_apt.specs.declared.found.ArcNames.{ArcNames}
use Rattle.rg_text.specs.Faults.{faults_after, if_not}
use Rattle.rg_apt.specs.Item.{Triple, Item, type, states, labels, arcs}

abbrev pub is_initial : Lexeme → Bool
is_initial key = bytes_eq key.text (codes "initial")

abbrev pub is_true : Lexeme → Bool
is_true value = bytes_eq (value_text value) (codes "true")

-- an option that marks the initial state
abbrev pub marks : Setting Lexeme → Bool
marks (Alone key) = is_initial key
marks (Valued key value) = is_initial key && is_true value

-- all that a file declares
pub record Declared : Type 0 where
  pub typed : Bool
  pub states : List (StateEntry Lexeme)
  pub labels : List Lexeme
  pub arcs : List (ArcNames Lexeme)

abbrev pub is_type : Item → Bool
is_type (type name) = true
is_type _ = false

abbrev pub states_in : Item → List (StateEntry Lexeme)
states_in (states entries) = map (λ (e : Entry). record { name = e.name; initial = list_any marks e.settings }) entries
states_in _ = []

abbrev pub labels_in : Item → List Lexeme
labels_in (labels entries) = map (λ (e : Entry). e.name) entries
labels_in _ = []

abbrev pub arcs_in : Item → List (ArcNames Lexeme)
arcs_in (arcs triples) = map (λ (t : Triple). record { from = t.from; label = t.label; to = t.to }) triples
arcs_in _ = []

-- what the items declare, each list in the order of the file
abbrev pub declared : List Item → Declared
declared items = record {
  typed = list_any is_type items;
  states = flat_map states_in items;
  labels = flat_map labels_in items;
  arcs = flat_map arcs_in items;
}

-- two tokens with the same bytes
abbrev pub same_text : Lexeme → Lexeme → Bool
same_text a b = bytes_eq a.text b.text

abbrev pub is_state : Declared → Lexeme → Bool
is_state d name = list_any (λ (e : StateEntry Lexeme). same_text name e.name) d.states

abbrev pub is_label : Declared → Lexeme → Bool
is_label d name = list_any (same_text name) d.labels

abbrev pub same_arc : ArcNames Lexeme → ArcNames Lexeme → Bool
same_arc a b = same_text a.from b.from && same_text a.label b.label && same_text a.to b.to

-- how many different arcs there are
abbrev pub different : List (ArcNames Lexeme) → ℕ
different [] = 0
different (a ∷ more) = if list_any (same_arc a) more then different more else different more + 1

-- the fault of a state's entry, by the entries before it
abbrev pub state_fault : List (StateEntry Lexeme) → StateEntry Lexeme → Option TextFault
state_fault before e =
    if list_any (λ (b : StateEntry Lexeme). same_text e.name b.name) before then Some (TwiceState e.name.at)
    else (if nat_le most_states (length before) then Some (TooManyStates e.name.at)
    else (if e.initial && list_any (λ (b : StateEntry Lexeme). b.initial) before then Some (TwoInitial e.name.at)
    else None))

-- the fault of a label's entry, by the labels before it
abbrev pub label_fault : List Lexeme → Lexeme → Option TextFault
label_fault before name =
    if list_any (same_text name) before then Some (TwiceLabel name.at)
    else (if nat_le most_labels (length before) then Some (TooManyLabels name.at)
    else None)

-- the fault of a triple, by the triples before it
abbrev pub arc_fault : Declared → List (ArcNames Lexeme) → ArcNames Lexeme → Option TextFault
arc_fault d before a =
    if not (is_state d a.from) then Some (UnknownState a.from.at)
    else (if not (is_label d a.label) then Some (UnknownLabel a.label.at)
    else (if not (is_state d a.to) then Some (UnknownState a.to.at)
    else (if nat_le most_arcs (different before) && not (list_any (same_arc a) before) then Some (TooManyArcs a.from.at)
    else None)))

-- all that may be wrong with what is declared, in the order in which it counts
abbrev pub faults : Declared → List (Option TextFault)
faults d =
    if_not d.typed NoType
    ++ faults_after state_fault [] d.states
    ++ faults_after label_fault [] d.labels
    ++ faults_after (arc_fault d) [] d.arcs
    ++ if_not (list_any (λ (e : StateEntry Lexeme). e.initial) d.states) NoInitial

-- the arc has these names
abbrev pub HasNames : System → Arc → ArcNames Lexeme → Type 0
HasNames lts a names = (slice_get lts.state_names a.from ≡ Some names.from.text)
    × (slice_get lts.label_names a.label ≡ Some names.label.text) × (slice_get lts.state_names a.to ≡ Some names.to.text)

-- the system of what is declared: names in the order of their entries, each arc once and in order
pub record IsSystemOf (d : Declared) (lts : System) : Type 0 where
  pub state_names : lts.state_names ≡ map (λ (e : StateEntry Lexeme). e.name.text) d.states
  pub label_names : lts.label_names ≡ map (λ (x : Lexeme). x.text) d.labels
  pub initial : position (λ (e : StateEntry Lexeme). e.initial) d.states ≡ Some lts.initial
  pub arcs : (a : Arc) → Contains lts.arcs a ↔ Any (HasNames lts a) d.arcs
  pub in_order : AllPairs IsArcBefore lts.arcs
