-- The items of a text, and its first fault in tokens or grammar.
use Rattle.std.specs.Prelude.{ℕ, List, length}
use Rattle.rg_lexer.specs.declared.token.LexFault.{LexFault}
use Rattle.rg_lexer.specs.declared.token.LexFault.TheVariants as lex
use Rattle.rg_lexer.specs.Tokens.{FirstLexFault}
use Rattle.rg_lexer.specs.Lexeme.{Lexeme, AreLexemes}
use Rattle.rg_grammar.specs.declared.fault.ItemFault.{ItemFault}
use Rattle.rg_grammar.specs.declared.fault.ItemFault.TheVariants.{BadByte, OpenString, OpenComment, LongName, NoMemory}
use Rattle.rg_grammar.specs.Grammar.{Grammar, FirstRefusal}

-- the bytes are a text of these items
abbrev pub AreItemsOf : {I : Type 0} → (I → List Lexeme → Type 0) → List ℕ → I → Type 0
AreItemsOf Are bytes items = (xs : List Lexeme) × AreLexemes bytes xs × Are items xs

-- the lexer's faults among those of a text
abbrev pub of_lexer : LexFault → ItemFault
of_lexer (lex.BadByte at) = BadByte at
of_lexer (lex.OpenString at) = OpenString at
of_lexer (lex.OpenComment at) = OpenComment at
of_lexer (lex.LongName at) = LongName at
of_lexer lex.NoMemory = NoMemory

-- the first fault of a text that has no items: the lexer's, else that of the grammar
pub data FirstItemFault {P D : Type 0} (g : Grammar P D ItemFault) (bytes : List ℕ) : ItemFault → Type 0 where
  in_tokens : (e : LexFault) → FirstLexFault bytes e → FirstItemFault g bytes (of_lexer e)
  in_grammar : (xs : List Lexeme) (fault : ItemFault) → AreLexemes bytes xs → FirstRefusal g xs (length bytes) fault → FirstItemFault g bytes fault
