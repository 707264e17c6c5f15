-- What net a text spells for a system, and its first fault.
use Rattle.std.specs.Prelude.{ℕ, List}
use Rattle.rg_theory.specs.System.{System}
use Rattle.rg_theory.specs.Net.{Net}
use Rattle.rg_text.specs.Faults.{IsFirst, AreNone}
use Rattle.rg_net_grammar.specs.Item.{Item}
use Rattle.rg_net_grammar.specs.Contents.{declared}
use Rattle.rg_net_grammar.specs.Text.{AreItemsOf, FirstItemFault}
use Rattle.rg_grammar.specs.declared.fault.ItemFault.{ItemFault}
use Rattle.rg_grammar.specs.declared.fault.ItemFault.TheVariants as item
use Rattle.rg_netfile.specs.declared.fault.NetFault.{NetFault}
use Rattle.rg_netfile.specs.declared.fault.NetFault.TheVariants.{BadByte, OpenString, OpenComment, LongName, Expected, WrongType, NoMemory}
use Rattle.rg_netfile.specs.Contents.{faults, IsNetOf}

-- the bytes are a text of the grammar, and the net is the one that it gives for the system
abbrev pub Spells : List ℕ → System → Net → Type 0
Spells bytes lts net = (items : List Item) × AreItemsOf bytes items × AreNone (faults lts (declared items)) × IsNetOf lts (declared items) net

-- the faults of tokens and grammar among those of a text
abbrev pub of_items : ItemFault → NetFault
of_items (item.BadByte at) = BadByte at
of_items (item.OpenString at) = OpenString at
of_items (item.OpenComment at) = OpenComment at
of_items (item.LongName at) = LongName at
of_items (item.Expected at want) = Expected at want
of_items (item.WrongType at) = WrongType at
of_items item.NoMemory = NoMemory

-- a text's first fault: that of its tokens or grammar, else one of what is declared
pub data FirstFault (bytes : List ℕ) (lts : System) : NetFault → Type 0 where
  in_items : (e : ItemFault) → FirstItemFault bytes e → FirstFault bytes lts (of_items e)
  in_net : (items : List Item) (fault : NetFault) → AreItemsOf bytes items → IsFirst (faults lts (declared items)) fault → FirstFault bytes lts fault
