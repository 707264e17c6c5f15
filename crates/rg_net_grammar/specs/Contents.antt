-- What the items of a net file declare.
use Rattle.std.specs.Prelude.{ℕ, Bool, true, false, List, [], ◌∷◌, Option, None, Some, map, codes, if◌then◌else◌}
use Rattle.std.specs.List.{list_any, flat_map}
use Rattle.std.specs.Option.{option_or}
use Rattle.std.specs.Str.{bytes_eq}
use Rattle.rg_lexer.specs.Lexeme.{Lexeme}
use Rattle.rg_grammar.specs.declared.list_position.Setting.{Setting}
use Rattle.rg_grammar.specs.declared.list_position.Setting.TheVariants.{Alone, Valued}
use Rattle.rg_grammar.specs.Entry.{Entry, value_text}
use Rattle.rg_net_grammar.specs.Item.{Member, Flow, Item, type, places, transitions, flows, marking}
pub use Rattle.rg_net_grammar.specs.declared.found.Transition.{Transition}

-- all that a file declares, each list in the order of the file
pub record Declared : Type 0 where
  pub typed : Bool
  pub places : List Lexeme
  pub transitions : List (Transition Lexeme)
  pub flows : List Flow
  pub marking : List (Member Lexeme)

-- the value that an option gives to a label, if it gives one
abbrev pub label_in : Setting Lexeme → Option Lexeme
label_in (Alone key) = None
label_in (Valued key value) = if bytes_eq key.text (codes "label") then Some value else None

-- the first value that options give to a label
abbrev pub first_label : List (Setting Lexeme) → Option Lexeme
first_label [] = None
first_label (setting ∷ more) = option_or (label_in setting) (first_label more)

-- the label of a transition: the value that its options give, or its own name where they give none
abbrev pub label_by : Lexeme → Option Lexeme → List ℕ
label_by name None = name.text
label_by name (Some value) = value_text value

abbrev pub label_of : Transition Lexeme → List ℕ
label_of t = label_by t.name t.label

abbrev pub is_type : Item → Bool
is_type (type name) = true
is_type _ = false

abbrev pub places_in : Item → List Lexeme
places_in (places entries) = map (λ (e : Entry). e.name) entries
places_in _ = []

abbrev pub transitions_in : Item → List (Transition Lexeme)
transitions_in (transitions entries) = map (λ (e : Entry). record { name = e.name; label = first_label e.settings }) entries
transitions_in _ = []

abbrev pub flows_in : Item → List Flow
flows_in (flows many) = many
flows_in _ = []

abbrev pub marking_in : Item → List (Member Lexeme)
marking_in (marking members) = members
marking_in _ = []

-- what the items declare
abbrev pub declared : List Item → Declared
declared items = record {
  typed = list_any is_type items;
  places = flat_map places_in items;
  transitions = flat_map transitions_in items;
  flows = flat_map flows_in items;
  marking = flat_map marking_in items;
}
