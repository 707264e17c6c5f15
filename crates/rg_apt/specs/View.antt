-- How the code's positions, and what it has found, are seen.
use Rattle.std.specs.Prelude.{ℕ, List, map, All}
use Rattle.rg_lexer.specs.declared.token.Token.{Token}
use Rattle.rg_lexer.specs.Lexeme.{Lexeme, lexeme}
use Rattle.rg_grammar.specs.Entry.{IsNameOf}
use Rattle.rg_grammar.specs.ListPosition.{list_position_in, HoldsKey}
use Rattle.rg_apt.specs.Table.{Position, Start, TypeName, PassedText, InSection, AfterEntry, Second, Third, InList}
use Rattle.rg_apt.specs.declared.found.Found.{Found}
use Rattle.rg_apt.specs.Contents.{StateEntry, ArcNames, Declared}

-- a position, with the bytes that its tokens have in the text
abbrev pub position_in : List ℕ → Position Token → Position Lexeme
position_in bytes Start = Start
position_in bytes TypeName = TypeName
position_in bytes PassedText = PassedText
position_in bytes (InSection s) = InSection s
position_in bytes (AfterEntry s) = AfterEntry s
position_in bytes (Second from) = Second (lexeme bytes from)
position_in bytes (Third from label) = Third (lexeme bytes from) (lexeme bytes label)
position_in bytes (InList s position) = InList s (list_position_in bytes position)

-- what a position holds are names of the text
abbrev pub HoldsTokens : List ℕ → Position Token → Type 0
HoldsTokens bytes (Second from) = IsNameOf bytes from
HoldsTokens bytes (Third from label) = IsNameOf bytes from × IsNameOf bytes label
HoldsTokens bytes (InList s position) = HoldsKey bytes position
HoldsTokens bytes _ = Unit {0}

abbrev pub state_in : List ℕ → StateEntry Token → StateEntry Lexeme
state_in bytes s = record { name = lexeme bytes s.name; initial = s.initial }

abbrev pub arc_in : List ℕ → ArcNames Token → ArcNames Lexeme
arc_in bytes a = record { from = lexeme bytes a.from; label = lexeme bytes a.label; to = lexeme bytes a.to }

abbrev pub states_in : List ℕ → List (StateEntry Token) → List (StateEntry Lexeme)
states_in bytes states = map (state_in bytes) states

abbrev pub labels_in : List ℕ → List Token → List Lexeme
labels_in bytes labels = map (lexeme bytes) labels

abbrev pub arcs_in : List ℕ → List (ArcNames Token) → List (ArcNames Lexeme)
arcs_in bytes arcs = map (arc_in bytes) arcs

-- what is found, with the bytes that its tokens have in the text
abbrev pub found_in : List ℕ → Found → Declared
found_in bytes f = record {
  typed = f.typed;
  states = states_in bytes f.states.items;
  labels = labels_in bytes f.labels.items;
  arcs = arcs_in bytes f.arcs.items;
}

-- the names of what is found are names of the text
abbrev pub IsStateOf : List ℕ → StateEntry Token → Type 0
IsStateOf bytes s = IsNameOf bytes s.name

abbrev pub IsArcOf : List ℕ → ArcNames Token → Type 0
IsArcOf bytes a = IsNameOf bytes a.from × IsNameOf bytes a.label × IsNameOf bytes a.to

pub record HoldsNames (bytes : List ℕ) (f : Found) : Type 0 where
  pub states : All (IsStateOf bytes) f.states.items
  pub labels : All (IsNameOf bytes) f.labels.items
  pub arcs : All (IsArcOf bytes) f.arcs.items
