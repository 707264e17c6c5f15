-- A text has items with one meaning, or one first fault.
use Rattle.std.proofs.Common.{◌≡◌, ℕ, ◌⊎◌, List}
use Rattle.rg_lexer.specs.Lexeme.{Lexeme}
use Rattle.rg_grammar.specs.declared.fault.ItemFault.{ItemFault}
use Rattle.rg_grammar.proofs.Described.{Describes}
use Rattle.rg_grammar.proofs.WholeTexts as texts
use Rattle.rg_net_grammar.specs.Item.{Item, AreItems}
use Rattle.rg_net_grammar.specs.Contents.{Declared, declared}
use Rattle.rg_net_grammar.specs.Table.{Position}
use Rattle.rg_net_grammar.specs.Reading.{net_grammar}
use Rattle.rg_net_grammar.specs.Text.{AreItemsOf, FirstItemFault}
use Rattle.rg_net_grammar.proofs.Items.{items_read}
use Rattle.rg_net_grammar.proofs.Complete.{items_from}

-- the table describes the items of a net file
pub describes : Describes (Position Lexeme) Declared ItemFault (List Item) net_grammar AreItems declared
describes = record { read = items_read; complete = items_from }

-- what a text declares is one
pub one_meaning : (bytes : List ℕ) (a b : List Item) → AreItemsOf bytes a → AreItemsOf bytes b → declared a ≡ declared b
one_meaning bytes a b x y = texts.one_meaning net_grammar AreItems declared describes bytes a b x y

-- a text with items has no fault
pub items_not_fault : (bytes : List ℕ) (items : List Item) (f : ItemFault) → AreItemsOf bytes items → FirstItemFault bytes f → ⊥
items_not_fault bytes items f x y = texts.items_not_fault net_grammar AreItems declared describes bytes items f x y

-- one first fault
pub one_first_fault : (bytes : List ℕ) (f g : ItemFault) → FirstItemFault bytes f → FirstItemFault bytes g → f ≡ g
one_first_fault bytes f g x y = texts.one_first_fault net_grammar bytes f g x y

-- a text has items or a first fault
pub items_or_fault : (bytes : List ℕ) → ((items : List Item) × AreItemsOf bytes items) ⊎ ((f : ItemFault) × FirstItemFault bytes f)
items_or_fault bytes = texts.items_or_fault net_grammar AreItems declared describes bytes
