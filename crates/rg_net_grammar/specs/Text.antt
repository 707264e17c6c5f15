-- The items of a net file, and its first fault in tokens or grammar.
use Rattle.std.specs.Prelude.{ℕ, List}
use Rattle.rg_grammar.specs.declared.fault.ItemFault.{ItemFault}
use Rattle.rg_grammar.specs.Text as texts
use Rattle.rg_net_grammar.specs.Item.{Item, AreItems}
use Rattle.rg_net_grammar.specs.Reading.{net_grammar}

-- the bytes are a text of these items
abbrev pub AreItemsOf : List ℕ → List Item → Type 0
AreItemsOf bytes items = texts.AreItemsOf AreItems bytes items

-- the first fault of a text that has no items: the lexer's, else that of the grammar
abbrev pub FirstItemFault : List ℕ → ItemFault → Type 0
FirstItemFault bytes fault = texts.FirstItemFault net_grammar bytes fault
