-- The positions of an option list, as a table, and how those of code are seen.
use Rattle.std.specs.Prelude.{Option, None, Some, ℕ, List}
use Rattle.rg_lexer.specs.Lexeme.{Lexeme, lexeme}
use Rattle.rg_lexer.specs.declared.token.Kind.{Kind}
use Rattle.rg_lexer.specs.declared.token.Kind.TheVariants.{Name, Text, RightBracket, Comma, Equals}
use Rattle.rg_lexer.specs.declared.token.Want.{Want}
use Rattle.rg_lexer.specs.declared.token.Want.TheVariants as want
pub use Rattle.rg_grammar.specs.declared.list_position.ListPosition.{ListPosition}
pub use Rattle.rg_grammar.specs.declared.list_position.ListPosition.TheVariants.{FirstKey, NextKey, AfterKey, Value, AfterValue}
pub use Rattle.rg_grammar.specs.declared.list_position.ListStep.{ListStep}
pub use Rattle.rg_grammar.specs.declared.list_position.ListStep.TheVariants.{On, Closed}
use Rattle.rg_grammar.specs.Entry.{Setting, Alone, Valued, IsNameOf, IsValueOf}
use Rattle.rg_lexer.specs.declared.token.Token.{Token}

-- what is wanted at a position
abbrev pub list_wanted : ListPosition Lexeme → Want
list_wanted FirstKey = want.Key
list_wanted NextKey = want.Key
list_wanted (AfterKey key) = want.CloseList
list_wanted (Value key) = want.Value
list_wanted AfterValue = want.CloseList

-- the position after a token, if it is allowed in an option list
abbrev pub list_leads_by : ListPosition Lexeme → Kind → Lexeme → Option (ListStep Lexeme)
list_leads_by FirstKey Name x = Some (On (AfterKey x))
list_leads_by FirstKey RightBracket x = Some Closed
list_leads_by NextKey Name x = Some (On (AfterKey x))
list_leads_by (AfterKey key) Equals x = Some (On (Value key))
list_leads_by (AfterKey key) Comma x = Some (On NextKey)
list_leads_by (AfterKey key) RightBracket x = Some Closed
list_leads_by (Value key) Text x = Some (On AfterValue)
list_leads_by (Value key) Name x = Some (On AfterValue)
list_leads_by AfterValue Comma x = Some (On NextKey)
list_leads_by AfterValue RightBracket x = Some Closed
list_leads_by _ _ _ = None

abbrev pub list_leads : ListPosition Lexeme → Lexeme → Option (ListStep Lexeme)
list_leads position x = list_leads_by position x.kind x

-- the option that a token completes
abbrev pub completed_by : ListPosition Lexeme → Kind → Lexeme → Option (Setting Lexeme)
completed_by (AfterKey key) Comma x = Some (Alone key)
completed_by (AfterKey key) RightBracket x = Some (Alone key)
completed_by (Value key) Text x = Some (Valued key x)
completed_by (Value key) Name x = Some (Valued key x)
completed_by _ _ _ = None

abbrev pub completed : ListPosition Lexeme → Lexeme → Option (Setting Lexeme)
completed position x = completed_by position x.kind x

-- where a step of a list leads, in a grammar with such lists: to a position in the list, or to the position after it
abbrev pub list_to : {P : Type 0} → (ListPosition Lexeme → P) → P → ListStep Lexeme → P
list_to inside after (On position) = inside position
list_to inside after Closed = after

-- what is found with the thing that a token completes, if it completes one
abbrev pub with_completed : {X D : Type 0} → (X → D → D) → Option X → D → D
with_completed take None d = d
with_completed take (Some thing) d = take thing d

-- a position, with the bytes that its tokens have in the text
abbrev pub list_position_in : List ℕ → ListPosition Token → ListPosition Lexeme
list_position_in bytes FirstKey = FirstKey
list_position_in bytes NextKey = NextKey
list_position_in bytes (AfterKey key) = AfterKey (lexeme bytes key)
list_position_in bytes (Value key) = Value (lexeme bytes key)
list_position_in bytes AfterValue = AfterValue

abbrev pub list_step_in : List ℕ → ListStep Token → ListStep Lexeme
list_step_in bytes (On position) = On (list_position_in bytes position)
list_step_in bytes Closed = Closed

abbrev pub setting_in : List ℕ → Setting Token → Setting Lexeme
setting_in bytes (Alone key) = Alone (lexeme bytes key)
setting_in bytes (Valued key value) = Valued (lexeme bytes key) (lexeme bytes value)

-- a key that a position holds is a name of the text
abbrev pub HoldsKey : List ℕ → ListPosition Token → Type 0
HoldsKey bytes (AfterKey key) = IsNameOf bytes key
HoldsKey bytes (Value key) = IsNameOf bytes key
HoldsKey bytes _ = Unit {0}

abbrev pub StepHoldsKey : List ℕ → ListStep Token → Type 0
StepHoldsKey bytes (On position) = HoldsKey bytes position
StepHoldsKey bytes Closed = Unit {0}

-- the tokens of an option are a name of the text, and a name or text of it
abbrev pub HoldsSetting : List ℕ → Setting Token → Type 0
HoldsSetting bytes (Alone key) = IsNameOf bytes key
HoldsSetting bytes (Valued key value) = IsNameOf bytes key × IsValueOf bytes value
