-- Tokens that the grammar takes can go on to the tokens of a whole file.
use Rattle.std.proofs.Common.{◌≡◌, List, [], ◌∷◌, ◌++◌, Some, codes, refl}
use Rattle.rg_lexer.specs.Lexeme.{Lexeme}
use Rattle.rg_lexer.specs.declared.token.Kind.TheVariants.{Name, Text}
use Rattle.rg_grammar.specs.Grammar.{leads_all}
use Rattle.rg_grammar.specs.declared.list_position.ListPosition.TheVariants.{FirstKey, NextKey, AfterKey, Value, AfterValue}
use Rattle.rg_grammar.proofs.Going.{token, name, close, CanEnd, leads_on}
use Rattle.rg_apt.specs.Item.{Item, AreItems}
use Rattle.rg_apt.specs.Table.{Arcs, Position, Start, TypeName, PassedText, InSection, AfterEntry, Second, Third, InList}
use Rattle.rg_apt.specs.Reading.{system_grammar}
use Rattle.rg_apt.proofs.Complete.{items_from}

can_end : (p : Position Lexeme) → CanEnd system_grammar p
can_end Start = record { more = []; position = Start; lead = refl; may = refl }
can_end TypeName = record { more = token Name (codes "TS") ∷ []; position = Start; lead = refl; may = refl }
can_end PassedText = record { more = token Text (codes "\"\"") ∷ []; position = Start; lead = refl; may = refl }
can_end (InSection s) = record { more = []; position = InSection s; lead = refl; may = refl }
can_end (AfterEntry s) = record { more = []; position = AfterEntry s; lead = refl; may = refl }
can_end (Second from) = record { more = name ∷ name ∷ []; position = AfterEntry Arcs; lead = refl; may = refl }
can_end (Third from label) = record { more = name ∷ []; position = AfterEntry Arcs; lead = refl; may = refl }
can_end (InList s FirstKey) = record { more = close ∷ []; position = InSection s; lead = refl; may = refl }
can_end (InList s NextKey) = record { more = name ∷ close ∷ []; position = InSection s; lead = refl; may = refl }
can_end (InList s (AfterKey key)) = record { more = close ∷ []; position = InSection s; lead = refl; may = refl }
can_end (InList s (Value key)) = record { more = name ∷ close ∷ []; position = InSection s; lead = refl; may = refl }
can_end (InList s AfterValue) = record { more = close ∷ []; position = InSection s; lead = refl; may = refl }

pub goes_on : (front : List Lexeme) (p : Position Lexeme) → leads_all system_grammar Start front ≡ Some p → (more : List Lexeme) × (items : List Item) × AreItems items (front ++ more)
goes_on front p lead =
    let c = can_end p in
    let items = items_from c.position (front ++ c.more) (leads_on system_grammar Start p c.position front c.more lead c.lead) c.may in
    (c.more, items.0, items.1)
