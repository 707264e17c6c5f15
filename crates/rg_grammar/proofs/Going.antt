-- Tokens that a grammar takes can go on to the end of a text.
use Rattle.std.proofs.Common.{◌≡◌, ℕ, true, List, [], ◌∷◌, ◌++◌, Option, None, Some, codes, refl, ap, ◌∙◌}
use Rattle.std.specs.Option.{option_and_then}
use Rattle.rg_lexer.specs.Lexeme.{Lexeme}
use Rattle.rg_lexer.specs.declared.token.Kind.{Kind}
use Rattle.rg_lexer.specs.declared.token.Kind.TheVariants.{Name, RightBracket}
use Rattle.rg_grammar.specs.Grammar.{Grammar, leads_all}

abbrev pub token : Kind → List ℕ → Lexeme
token kind text = record { kind = kind; at = 0; text = text }

abbrev pub name : Lexeme
name = token Name (codes "x")

abbrev pub close : Lexeme
close = token RightBracket (codes "]")

-- tokens lead from the position to one where the text may end
pub record CanEnd {P D F : Type 0} (g : Grammar P D F) (p : P) : Type 0 where
  pub more : List Lexeme
  pub position : P
  pub lead : leads_all g p more ≡ Some position
  pub may : g.may_end position ≡ true

-- tokens that lead on from where others lead
pub leads_on : {P D F : Type 0} (g : Grammar P D F) (p q r : P) (xs ys : List Lexeme) → leads_all g p xs ≡ Some q → leads_all g q ys ≡ Some r → leads_all g p (xs ++ ys) ≡ Some r
leads_on g p q r [] ys one two = let same : p ≡ q = cc in ap (λ p. leads_all g p ys) same ∙ two
leads_on {P} g p q r (x ∷ xs) ys one two = by (g.leads p x) refl one (λ next h. leads_on g next q r xs ys h two)
  where
    by : (o : Option P) → g.leads p x ≡ o → option_and_then (λ next. leads_all g next xs) o ≡ Some q
        → ((next : P) → leads_all g next xs ≡ Some q → leads_all g next (xs ++ ys) ≡ Some r)
        → leads_all g p (x ∷ (xs ++ ys)) ≡ Some r
    by None same is more = absurd cc
    by (Some next) same is more = ap (option_and_then (λ next. leads_all g next (xs ++ ys))) same ∙ more next is
