-- The grammar of net files as a table: where each token is allowed, the position that follows it, and what is expected where it isn't allowed.
use Rattle.std.specs.Prelude.{ℕ, Bool, true, false, ◌||◌, List, Option, None, Some, codes, if◌then◌else◌}
use Rattle.std.specs.List.{list_all}
use Rattle.std.specs.Char.{is_ascii_digit}
use Rattle.std.specs.Option.{option_map}
use Rattle.std.specs.Str.{bytes_eq}
use Rattle.rg_lexer.specs.Lexeme.{Lexeme}
use Rattle.rg_lexer.specs.declared.token.Kind.{Kind}
use Rattle.rg_lexer.specs.declared.token.Kind.TheVariants.{Name, Word, Text, LeftBracket, LeftBrace, RightBrace, Comma, Colon, Star, Arrow}
use Rattle.rg_lexer.specs.declared.token.Want.{Want}
use Rattle.rg_lexer.specs.declared.token.Want.TheVariants as want
use Rattle.rg_grammar.specs.declared.list_position.ListPosition.TheVariants.{FirstKey}
use Rattle.rg_grammar.specs.ListPosition.{list_wanted, list_leads_by, list_to}
use Rattle.rg_grammar.specs.declared.fault.ItemFault.{ItemFault}
use Rattle.rg_grammar.specs.declared.fault.ItemFault.TheVariants.{Expected, WrongType}
pub use Rattle.rg_net_grammar.specs.declared.position.Section.{Section}
pub use Rattle.rg_net_grammar.specs.declared.position.Section.TheVariants.{Places, Transitions}
pub use Rattle.rg_net_grammar.specs.declared.position.Position.{Position}
pub use Rattle.rg_net_grammar.specs.declared.position.Position.TheVariants.{Start, TypeName, PassedText, InSection, AfterEntry, InList, InFlows, AfterFlowName, BeforeSet, InSet, AfterPre}
pub use Rattle.rg_net_grammar.specs.declared.set_position.Side.{Side}
pub use Rattle.rg_net_grammar.specs.declared.set_position.Side.TheVariants.{Pre, Post, Marking}
pub use Rattle.rg_net_grammar.specs.declared.set_position.SetPosition.{SetPosition}
pub use Rattle.rg_net_grammar.specs.declared.set_position.SetPosition.TheVariants.{FirstMember, NextMember, AfterName, AfterStar, AfterMember}

-- what is wanted at a position of a set
abbrev pub set_wanted : SetPosition Lexeme → Want
set_wanted FirstMember = want.Member
set_wanted NextMember = want.Member
set_wanted (AfterName name) = want.CloseSet
set_wanted (AfterStar number) = want.Member
set_wanted AfterMember = want.CloseSet

-- what is wanted at a position
abbrev pub wanted : Position Lexeme → Want
wanted Start = want.Section
wanted TypeName = want.Name
wanted PassedText = want.Text
wanted (InSection s) = want.Name
wanted (AfterEntry s) = want.Name
wanted (InList s position) = list_wanted position
wanted InFlows = want.Name
wanted AfterFlowName = want.Colon
wanted (BeforeSet side) = want.Set
wanted (InSet side position) = set_wanted position
wanted AfterPre = want.Arrow

-- whether the file may end at a position
abbrev pub may_end : Position Lexeme → Bool
may_end Start = true
may_end (InSection s) = true
may_end (AfterEntry s) = true
may_end InFlows = true
may_end _ = false

-- where a word leads
abbrev pub after_word : List ℕ → Position Lexeme
after_word text =
    if bytes_eq text (codes ".type") then TypeName
    else (if bytes_eq text (codes ".places") then InSection Places
    else (if bytes_eq text (codes ".transitions") then InSection Transitions
    else (if bytes_eq text (codes ".flows") then InFlows
    else (if bytes_eq text (codes ".initial_marking") then BeforeSet Marking
    else PassedText))))

abbrev pub is_type_name : List ℕ → Bool
is_type_name text = bytes_eq text (codes "PN") || bytes_eq text (codes "LPN")

-- a text of digits alone
abbrev pub is_digits : List ℕ → Bool
is_digits text = list_all is_ascii_digit text

-- where the closing bracket of a set leads
abbrev pub after_set : Side → Position Lexeme
after_set Pre = AfterPre
after_set Post = InFlows
after_set Marking = Start

-- where a token of a kind leads from a position in a set, if it is allowed there
abbrev pub set_leads_by : Side → SetPosition Lexeme → Kind → Lexeme → Option (Position Lexeme)
set_leads_by side FirstMember Name x = Some (InSet side (AfterName x))
set_leads_by side FirstMember RightBrace x = Some (after_set side)
set_leads_by side NextMember Name x = Some (InSet side (AfterName x))
set_leads_by side (AfterName name) Star x = if is_digits name.text then Some (InSet side (AfterStar name)) else None
set_leads_by side (AfterName name) Comma x = Some (InSet side NextMember)
set_leads_by side (AfterName name) RightBrace x = Some (after_set side)
set_leads_by side (AfterStar number) Name x = Some (InSet side AfterMember)
set_leads_by side AfterMember Comma x = Some (InSet side NextMember)
set_leads_by side AfterMember RightBrace x = Some (after_set side)
set_leads_by side _ _ _ = None

-- where a token of a kind leads from a position, if it is allowed there
abbrev pub leads_by : Position Lexeme → Kind → Lexeme → Option (Position Lexeme)
leads_by Start Word x = Some (after_word x.text)
leads_by TypeName Name x = if is_type_name x.text then Some Start else None
leads_by PassedText Text x = Some Start
leads_by (InSection s) Name x = Some (AfterEntry s)
leads_by (InSection s) Word x = Some (after_word x.text)
leads_by (AfterEntry s) Name x = Some (AfterEntry s)
leads_by (AfterEntry s) Word x = Some (after_word x.text)
leads_by (AfterEntry s) LeftBracket x = Some (InList s FirstKey)
leads_by (InList s position) kind x = option_map (list_to (InList s) (InSection s)) (list_leads_by position kind x)
leads_by InFlows Name x = Some AfterFlowName
leads_by InFlows Word x = Some (after_word x.text)
leads_by AfterFlowName Colon x = Some (BeforeSet Pre)
leads_by (BeforeSet side) LeftBrace x = Some (InSet side FirstMember)
leads_by (InSet side position) kind x = set_leads_by side position kind x
leads_by AfterPre Arrow x = Some (BeforeSet Post)
leads_by _ _ _ = None

-- the fault of a token that isn't allowed at a position: a name before `*` that isn't digits alone is at fault itself
abbrev pub refusal_by : Position Lexeme → Kind → ℕ → ItemFault
refusal_by TypeName Name at = WrongType at
refusal_by (InSet side (AfterName name)) Star at = Expected name.at want.Number
refusal_by position _ at = Expected at (wanted position)
