-- What a text spells, and its first fault.
use Rattle.std.specs.Prelude.{ℕ, List}
use Rattle.rg_theory.specs.System.{System}
use Rattle.rg_lexer.specs.Lexeme.{Lexeme, AreLexemes}
use Rattle.rg_grammar.specs.declared.fault.ItemFault.{ItemFault}
use Rattle.rg_grammar.specs.declared.fault.ItemFault.TheVariants as item
use Rattle.rg_grammar.specs.Text.{FirstItemFault}
use Rattle.rg_apt.specs.declared.fault.TextFault.{TextFault}
use Rattle.rg_apt.specs.declared.fault.TextFault.TheVariants.{BadByte, OpenString, OpenComment, LongName, Expected, WrongType, NoMemory}
use Rattle.rg_apt.specs.Item.{Item, AreItems}
use Rattle.rg_apt.specs.Reading.{system_grammar}
use Rattle.rg_text.specs.Faults.{IsFirst, AreNone}
use Rattle.rg_apt.specs.Contents.{declared, faults, IsSystemOf}

-- the bytes are a text of the grammar, and the system is the one that it gives
abbrev pub Spells : List ℕ → System → Type 0
Spells bytes lts = (xs : List Lexeme) × (items : List Item) × AreLexemes bytes xs × AreItems items xs
    × AreNone (faults (declared items)) × IsSystemOf (declared items) lts

-- the faults of tokens and grammar among those of a text
abbrev pub of_items : ItemFault → TextFault
of_items (item.BadByte at) = BadByte at
of_items (item.OpenString at) = OpenString at
of_items (item.OpenComment at) = OpenComment at
of_items (item.LongName at) = LongName at
of_items (item.Expected at want) = Expected at want
of_items (item.WrongType at) = WrongType at
of_items item.NoMemory = NoMemory

-- a text's first fault: that of its tokens or grammar, else one of what is declared
pub data FirstFault (bytes : List ℕ) : TextFault → Type 0 where
  in_items : (e : ItemFault) → FirstItemFault system_grammar bytes e → FirstFault bytes (of_items e)
  in_system : (xs : List Lexeme) (items : List Item) (fault : TextFault) → AreLexemes bytes xs → AreItems items xs
      → IsFirst (faults (declared items)) fault → FirstFault bytes fault
