-- The bytes of a token that is a name.
use Rattle.std.proofs.Common.{ℕ, List, subst, slice_range}
use Rattle.rg_text.specs.Byte.{IsName}
use Rattle.rg_lexer.specs.declared.token.Token.{Token}
use Rattle.rg_lexer.specs.Piece.{IsToken}
use Rattle.rg_grammar.specs.Entry.{IsNameOf}

-- the bytes of a token that is a name are one
pub name_token : (bytes : List ℕ) (t : Token) → IsNameOf bytes t → IsName (slice_range bytes t.from t.to)
name_token bytes t is = subst (λ k. IsToken k (slice_range bytes t.from t.to)) is.1 is.0.is
