-- The grammar of system files as a table: where each token is allowed, the position that follows it, and what is expected where it isn't allowed.
use Rattle.std.specs.Prelude.{ℕ, Bool, true, false, ◌||◌, List, Option, None, Some, codes, if◌then◌else◌}
use Rattle.std.specs.Str.{bytes_eq}
use Rattle.std.specs.Option.{option_map}
use Rattle.rg_lexer.specs.Lexeme.{Lexeme}
use Rattle.rg_lexer.specs.declared.token.Kind.{Kind}
use Rattle.rg_lexer.specs.declared.token.Kind.TheVariants.{Name, Word, Text, LeftBracket}
use Rattle.rg_lexer.specs.declared.token.Want.{Want}
use Rattle.rg_lexer.specs.declared.token.Want.TheVariants as want
use Rattle.rg_grammar.specs.declared.list_position.ListPosition.TheVariants.{FirstKey}
use Rattle.rg_grammar.specs.ListPosition.{list_wanted, list_leads_by, list_to}
use Rattle.rg_grammar.specs.declared.fault.ItemFault.{ItemFault}
pub use Rattle.rg_apt.specs.declared.position.Section.{Section}
pub use Rattle.rg_apt.specs.declared.position.Section.TheVariants.{States, Labels, Arcs}
pub use Rattle.rg_apt.specs.declared.position.Position.{Position}
pub use Rattle.rg_apt.specs.declared.position.Position.TheVariants.{Start, TypeName, PassedText, InSection, AfterEntry, Second, Third, InList}
use Rattle.rg_grammar.specs.declared.fault.ItemFault.TheVariants.{Expected, WrongType}

-- what is wanted at a position
abbrev pub wanted : Position Lexeme → Want
wanted Start = want.Section
wanted TypeName = want.Name
wanted PassedText = want.Text
wanted (InSection s) = want.Name
wanted (AfterEntry s) = want.Name
wanted (Second from) = want.Name
wanted (Third from label) = want.Name
wanted (InList s position) = list_wanted position

-- whether the file may end at a position
abbrev pub may_end : Position Lexeme → Bool
may_end Start = true
may_end (InSection s) = true
may_end (AfterEntry s) = true
may_end _ = false

-- where a word leads
abbrev pub after_word : List ℕ → Position Lexeme
after_word text =
    if bytes_eq text (codes ".type") then TypeName
    else (if bytes_eq text (codes ".states") then InSection States
    else (if bytes_eq text (codes ".labels") then InSection Labels
    else (if bytes_eq text (codes ".arcs") then InSection Arcs
    else PassedText)))

abbrev pub is_type_name : List ℕ → Bool
is_type_name text = bytes_eq text (codes "LTS") || bytes_eq text (codes "TS")

-- where a name leads that begins an entry or triple
abbrev pub after_name : Section → Lexeme → Position Lexeme
after_name States x = AfterEntry States
after_name Labels x = AfterEntry Labels
after_name Arcs x = Second x

-- where a token of a kind leads from a position, if it is allowed there
abbrev pub leads_by : Position Lexeme → Kind → Lexeme → Option (Position Lexeme)
leads_by Start Word x = Some (after_word x.text)
leads_by TypeName Name x = if is_type_name x.text then Some Start else None
leads_by PassedText Text x = Some Start
leads_by (InSection s) Name x = Some (after_name s x)
leads_by (InSection s) Word x = Some (after_word x.text)
leads_by (AfterEntry s) Name x = Some (after_name s x)
leads_by (AfterEntry s) Word x = Some (after_word x.text)
leads_by (AfterEntry s) LeftBracket x = Some (InList s FirstKey)
leads_by (Second from) Name x = Some (Third from x)
leads_by (Third from label) Name x = Some (AfterEntry Arcs)
leads_by (InList s position) kind x = option_map (list_to (InList s) (InSection s)) (list_leads_by position kind x)
leads_by _ _ _ = None

abbrev pub leads : Position Lexeme → Lexeme → Option (Position Lexeme)
leads position x = leads_by position x.kind x

-- the fault of a token that isn't allowed at a position
abbrev pub refusal_by : Position Lexeme → Kind → ℕ → ItemFault
refusal_by TypeName Name at = WrongType at
refusal_by position _ at = Expected at (wanted position)
