-- How the code's positions, and what it has found, are seen.
use Rattle.std.specs.Prelude.{ℕ, List, All, IfSome, map, slice_range}
use Rattle.std.specs.List.{AllPass}
use Rattle.std.specs.Char.{is_ascii_digit}
use Rattle.std.specs.Option.{option_map}
use Rattle.rg_lexer.specs.declared.token.Token.{Token}
use Rattle.rg_lexer.specs.Lexeme.{Lexeme, lexeme}
use Rattle.rg_grammar.specs.Entry.{IsNameOf, IsValueOf}
use Rattle.rg_net_grammar.specs.declared.found.FoundFlow.{FoundFlow}
use Rattle.rg_net_grammar.specs.declared.found.Found.{Found}
use Rattle.rg_net_grammar.specs.Item.{Member, Flow}
use Rattle.rg_net_grammar.specs.Contents.{Transition, Declared}
use Rattle.rg_grammar.specs.ListPosition.{list_position_in, HoldsKey}
use Rattle.rg_net_grammar.specs.Table.{Position, Start, TypeName, PassedText, InSection, AfterEntry, InList, InFlows, AfterFlowName, BeforeSet, InSet, AfterPre, SetPosition, FirstMember, NextMember, AfterName, AfterStar, AfterMember}

abbrev pub member_in : List ℕ → Member Token → Member Lexeme
member_in bytes m = record { number = option_map (lexeme bytes) m.number; place = lexeme bytes m.place }

abbrev pub members_in : List ℕ → List (Member Token) → List (Member Lexeme)
members_in bytes members = map (member_in bytes) members

abbrev pub flow_in : List ℕ → FoundFlow → Flow
flow_in bytes f = record { name = lexeme bytes f.name; pre = members_in bytes f.pre.items; post = members_in bytes f.post.items }

abbrev pub transition_in : List ℕ → Transition Token → Transition Lexeme
transition_in bytes t = record { name = lexeme bytes t.name; label = option_map (lexeme bytes) t.label }

abbrev pub places_in : List ℕ → List Token → List Lexeme
places_in bytes places = map (lexeme bytes) places

abbrev pub transitions_in : List ℕ → List (Transition Token) → List (Transition Lexeme)
transitions_in bytes transitions = map (transition_in bytes) transitions

abbrev pub flows_in : List ℕ → List FoundFlow → List Flow
flows_in bytes flows = map (flow_in bytes) flows

-- what is found, with the bytes that its tokens have in the text
abbrev pub found_in : List ℕ → Found → Declared
found_in bytes f = record {
  typed = f.typed;
  places = places_in bytes f.places.items;
  transitions = transitions_in bytes f.transitions.items;
  flows = flows_in bytes f.flows.items;
  marking = members_in bytes f.marking.items;
}

-- a token of the text that is a number
abbrev pub IsNumberOf : List ℕ → Token → Type 0
IsNumberOf bytes token = IsNameOf bytes token × AllPass is_ascii_digit (slice_range bytes token.from token.to)

abbrev pub IsMemberOf : List ℕ → Member Token → Type 0
IsMemberOf bytes m = IfSome m.number (IsNumberOf bytes) × IsNameOf bytes m.place

abbrev pub IsFlowOf : List ℕ → FoundFlow → Type 0
IsFlowOf bytes f = IsNameOf bytes f.name × All (IsMemberOf bytes) f.pre.items × All (IsMemberOf bytes) f.post.items

abbrev pub IsTransitionOf : List ℕ → Transition Token → Type 0
IsTransitionOf bytes t = IsNameOf bytes t.name × IfSome t.label (IsValueOf bytes)

-- the tokens of what is found are names, numbers and values of the text
pub record HoldsNames (bytes : List ℕ) (f : Found) : Type 0 where
  pub places : All (IsNameOf bytes) f.places.items
  pub transitions : All (IsTransitionOf bytes) f.transitions.items
  pub flows : All (IsFlowOf bytes) f.flows.items
  pub marking : All (IsMemberOf bytes) f.marking.items

abbrev pub set_position_in : List ℕ → SetPosition Token → SetPosition Lexeme
set_position_in bytes FirstMember = FirstMember
set_position_in bytes NextMember = NextMember
set_position_in bytes (AfterName name) = AfterName (lexeme bytes name)
set_position_in bytes (AfterStar number) = AfterStar (lexeme bytes number)
set_position_in bytes AfterMember = AfterMember

-- a position, with the bytes that its tokens have in the text
abbrev pub position_in : List ℕ → Position Token → Position Lexeme
position_in bytes Start = Start
position_in bytes TypeName = TypeName
position_in bytes PassedText = PassedText
position_in bytes (InSection s) = InSection s
position_in bytes (AfterEntry s) = AfterEntry s
position_in bytes (InList s position) = InList s (list_position_in bytes position)
position_in bytes InFlows = InFlows
position_in bytes AfterFlowName = AfterFlowName
position_in bytes (BeforeSet side) = BeforeSet side
position_in bytes (InSet side position) = InSet side (set_position_in bytes position)
position_in bytes AfterPre = AfterPre

-- what a position holds are names and numbers of the text
abbrev pub HoldsMember : List ℕ → SetPosition Token → Type 0
HoldsMember bytes (AfterName name) = IsNameOf bytes name
HoldsMember bytes (AfterStar number) = IsNumberOf bytes number
HoldsMember bytes _ = Unit {0}

abbrev pub HoldsTokens : List ℕ → Position Token → Type 0
HoldsTokens bytes (InList s position) = HoldsKey bytes position
HoldsTokens bytes (InSet side position) = HoldsMember bytes position
HoldsTokens bytes _ = Unit {0}
