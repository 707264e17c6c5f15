-- The tokens of a text, with their bytes, are one list.
use Rattle.std.proofs.Common.{◌≡◌, ℕ, List, map, sym, ap, ◌∙◌}
use Rattle.rg_lexer.specs.Lexeme.{Lexeme, lexeme, AreLexemes}
use Rattle.rg_lexer.proofs.Texts.{one_list}

pub one_lexemes : (bytes : List ℕ) (xs ys : List Lexeme) → AreLexemes bytes xs → AreLexemes bytes ys → xs ≡ ys
one_lexemes bytes xs ys a b = a.2 ∙ ap (map (lexeme bytes)) (one_list bytes a.0 b.0 a.1 b.1) ∙ sym b.2
