-- Tokens that the grammar takes can go on to the tokens of a whole file.
use Rattle.std.proofs.Common.{◌≡◌, List, [], ◌∷◌, ◌++◌, Some, codes, refl}
use Rattle.rg_lexer.specs.Lexeme.{Lexeme}
use Rattle.rg_lexer.specs.declared.token.Kind.TheVariants.{Name, Text, LeftBrace, RightBrace, Colon, Arrow}
use Rattle.rg_grammar.specs.Grammar.{leads_all}
use Rattle.rg_grammar.specs.declared.list_position.ListPosition.TheVariants.{FirstKey, NextKey, AfterKey, Value, AfterValue}
use Rattle.rg_grammar.proofs.Going.{token, name, close, CanEnd, leads_on}
use Rattle.rg_net_grammar.specs.Item.{Item, AreItems}
use Rattle.rg_net_grammar.specs.Table.{Side, Pre, Post, Marking, SetPosition, FirstMember, NextMember, AfterName, AfterStar, AfterMember, Position, Start, TypeName, PassedText, InSection, AfterEntry, InList, InFlows, AfterFlowName, BeforeSet, InSet, AfterPre, after_set}
use Rattle.rg_net_grammar.specs.Reading.{net_grammar}
use Rattle.rg_net_grammar.proofs.Complete.{items_from}

abbrev left : Lexeme
left = token LeftBrace (codes "{")

abbrev right : Lexeme
right = token RightBrace (codes "}")

abbrev arrow : Lexeme
arrow = token Arrow (codes "->")

-- the tokens that close a set
abbrev set_rest : SetPosition Lexeme → List Lexeme
set_rest FirstMember = right ∷ []
set_rest NextMember = name ∷ right ∷ []
set_rest (AfterName x) = right ∷ []
set_rest (AfterStar x) = name ∷ right ∷ []
set_rest AfterMember = right ∷ []

set_leads : (side : Side) (p : SetPosition Lexeme) → leads_all net_grammar (InSet side p) (set_rest p) ≡ Some (after_set side)
set_leads side FirstMember = refl
set_leads side NextMember = refl
set_leads side (AfterName x) = refl
set_leads side (AfterStar x) = refl
set_leads side AfterMember = refl

set_can_end : (side : Side) → CanEnd net_grammar (after_set side)
set_can_end Pre = record { more = arrow ∷ left ∷ right ∷ []; position = InFlows; lead = refl; may = refl }
set_can_end Post = record { more = []; position = InFlows; lead = refl; may = refl }
set_can_end Marking = record { more = []; position = Start; lead = refl; may = refl }

after : (p q : Position Lexeme) (xs : List Lexeme) → leads_all net_grammar p xs ≡ Some q → CanEnd net_grammar q → CanEnd net_grammar p
after p q xs lead c = record { more = xs ++ c.more; position = c.position; lead = leads_on net_grammar p q c.position xs c.more lead c.lead; may = c.may }

can_end : (p : Position Lexeme) → CanEnd net_grammar p
can_end Start = record { more = []; position = Start; lead = refl; may = refl }
can_end TypeName = record { more = token Name (codes "PN") ∷ []; position = Start; lead = refl; may = refl }
can_end PassedText = record { more = token Text (codes "\"\"") ∷ []; position = Start; lead = refl; may = refl }
can_end (InSection s) = record { more = []; position = InSection s; lead = refl; may = refl }
can_end (AfterEntry s) = record { more = []; position = AfterEntry s; lead = refl; may = refl }
can_end (InList s FirstKey) = record { more = close ∷ []; position = InSection s; lead = refl; may = refl }
can_end (InList s NextKey) = record { more = name ∷ close ∷ []; position = InSection s; lead = refl; may = refl }
can_end (InList s (AfterKey key)) = record { more = close ∷ []; position = InSection s; lead = refl; may = refl }
can_end (InList s (Value key)) = record { more = name ∷ close ∷ []; position = InSection s; lead = refl; may = refl }
can_end (InList s AfterValue) = record { more = close ∷ []; position = InSection s; lead = refl; may = refl }
can_end InFlows = record { more = []; position = InFlows; lead = refl; may = refl }
can_end AfterFlowName = after AfterFlowName (after_set Pre) (token Colon (codes ":") ∷ left ∷ right ∷ []) refl (set_can_end Pre)
can_end (BeforeSet side) = after (BeforeSet side) (after_set side) (left ∷ right ∷ []) refl (set_can_end side)
can_end (InSet side p) = after (InSet side p) (after_set side) (set_rest p) (set_leads side p) (set_can_end side)
can_end AfterPre = set_can_end Pre

pub goes_on : (front : List Lexeme) (p : Position Lexeme) → leads_all net_grammar Start front ≡ Some p → (more : List Lexeme) × (items : List Item) × AreItems items (front ++ more)
goes_on front p lead =
    let c = can_end p in
    let items = items_from c.position (front ++ c.more) (leads_on net_grammar Start p c.position front c.more lead c.lead) c.may in
    (c.more, items.0, items.1)
