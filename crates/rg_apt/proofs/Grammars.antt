-- The table describes the items of a system file.
use Rattle.std.proofs.Common.{◌≡◌, ℕ, ◌⊎◌, List}
use Rattle.rg_lexer.specs.Lexeme.{Lexeme}
use Rattle.rg_grammar.specs.declared.fault.ItemFault.{ItemFault}
use Rattle.rg_grammar.proofs.Described.{Describes}
use Rattle.rg_grammar.proofs.Described as described
use Rattle.rg_apt.specs.Item.{Item, AreItems}
use Rattle.rg_apt.specs.Table.{Position}
use Rattle.rg_apt.specs.Contents.{Declared, declared}
use Rattle.rg_apt.specs.Reading.{system_grammar, FirstRefusal}
use Rattle.rg_apt.proofs.Items.{items_read}
use Rattle.rg_apt.proofs.Complete.{items_from}

pub describes : Describes (Position Lexeme) Declared ItemFault (List Item) system_grammar AreItems declared
describes = record { read = items_read; complete = items_from }

-- the tokens of items are not refused
pub items_or_refusal : (is : List Item) (xs : List Lexeme) (end : ℕ) (fault : ItemFault) → AreItems is xs → FirstRefusal xs end fault → ⊥
items_or_refusal is xs end fault are refused = described.items_or_refusal system_grammar AreItems declared describes is xs end fault are refused

-- one meaning
pub declared_once : (is js : List Item) (xs : List Lexeme) → AreItems is xs → AreItems js xs → declared is ≡ declared js
declared_once is js xs a b = described.one_meaning system_grammar AreItems declared describes is js xs a b

-- tokens are items, or one of them is refused
pub items_or_refused : (xs : List Lexeme) (end : ℕ) → ((items : List Item) × AreItems items xs) ⊎ ((f : ItemFault) × FirstRefusal xs end f)
items_or_refused xs end = described.items_or_refused system_grammar AreItems declared describes xs end
