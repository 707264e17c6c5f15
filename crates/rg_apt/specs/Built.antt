-- How far a system is built of what is declared. Contracts of the crate's private functions cite it.
use Rattle.std.specs.Prelude.{◌≡◌, ◌<◌, ◌≤◌, ◌⊎◌, ◌↔◌, ℕ, Bool, List, [], length, map, position, All, Any, Contains}
use Rattle.rg_theory.specs.declared.Arc.{Arc}
use Rattle.rg_lexer.specs.Lexeme.{Lexeme}
use Rattle.rg_lts.specs.Draft.{Draft, HasNames, IsArcNamed, IsArcOverLimit}
use Rattle.rg_apt.specs.Contents.{StateEntry, ArcNames, Declared}
use Rattle.rg_apt.specs.declared.fault.TextFault.{TextFault}
use Rattle.rg_apt.specs.declared.fault.TextFault.TheVariants.{UnknownState, UnknownLabel}

abbrev pub state_text : StateEntry Lexeme → List ℕ
state_text e = e.name.text

abbrev pub label_text : Lexeme → List ℕ
label_text x = x.text

abbrev pub is_marked : StateEntry Lexeme → Bool
is_marked e = e.initial

-- the draft has these states alone
pub record HasStates (states : List (StateEntry Lexeme)) (draft : Draft) : Type 0 where
  pub state_names : draft.state_names ≡ map state_text states
  pub initial : draft.initial ≡ position is_marked states
  pub label_names : draft.label_names ≡ []
  pub arcs : draft.arcs ≡ []

-- the draft has these states and labels alone
pub record HasLabels (states : List (StateEntry Lexeme)) (labels : List Lexeme) (draft : Draft) : Type 0 where
  pub state_names : draft.state_names ≡ map state_text states
  pub initial : draft.initial ≡ position is_marked states
  pub label_names : draft.label_names ≡ map label_text labels
  pub arcs : draft.arcs ≡ []

-- a is the arc with these names
abbrev pub IsArcOfNames : Draft → ArcNames Lexeme → Arc → Type 0
IsArcOfNames draft names a = IsArcNamed draft names.from.text names.label.text names.to.text a

-- the draft has all states and labels, and the arcs of these names alone
pub record HasArcs (d : Declared) (arcs : List (ArcNames Lexeme)) (draft : Draft) : Type 0 where
  pub state_names : draft.state_names ≡ map state_text d.states
  pub initial : draft.initial ≡ position is_marked d.states
  pub label_names : draft.label_names ≡ map label_text d.labels
  pub named : All (λ (names : ArcNames Lexeme). (a : Arc) × IsArcOfNames draft names a) arcs
  pub members : (a : Arc) → Contains draft.arcs a ↔ Any (λ (names : ArcNames Lexeme). IsArcOfNames draft names a) arcs

-- there is no such name yet, and room for it
pub record IsNewName (names : List (List ℕ)) (limit : ℕ) (name : List ℕ) : Type 0 where
  pub new : ¬ Contains names name
  pub room : length names < limit

-- the name is there, or there is no room for it
abbrev pub IsNameFault : List (List ℕ) → ℕ → List ℕ → TextFault → TextFault → TextFault → Type 0
IsNameFault names limit name twice too_many fault =
    ((fault ≡ twice) × Contains names name) ⊎ ((fault ≡ too_many) × (¬ Contains names name) × (limit ≤ length names))

-- the first of an arc's names that isn't there, in the order from, label, to, each with its position
abbrev pub IsUnknown : Draft → List ℕ → List ℕ → List ℕ → ℕ → ℕ → ℕ → TextFault → Type 0
IsUnknown draft from label to at_from at_label at_to fault =
    ((fault ≡ UnknownState at_from) × ¬ Contains draft.state_names from)
    ⊎ (((fault ≡ UnknownLabel at_label) × Contains draft.state_names from × ¬ Contains draft.label_names label)
    ⊎ ((fault ≡ UnknownState at_to) × Contains draft.state_names from × Contains draft.label_names label × ¬ Contains draft.state_names to))

abbrev pub IsUnknownOf : Draft → ArcNames Lexeme → TextFault → Type 0
IsUnknownOf draft x fault = IsUnknown draft x.from.text x.label.text x.to.text x.from.at x.label.at x.to.at fault

abbrev pub HasNamesOf : Draft → ArcNames Lexeme → Type 0
HasNamesOf draft names = HasNames draft names.from.text names.label.text names.to.text

abbrev pub IsOverLimit : Draft → ArcNames Lexeme → Type 0
IsOverLimit draft names = IsArcOverLimit draft names.from.text names.label.text names.to.text
