-- A text has items with one meaning, or one first fault.
use Rattle.std.proofs.Common.{◌≡◌, ◌≢◌, ℕ, ◌⊎◌, inl, inr, ⊎_elim, List, length, map, refl, sym, ap, subst}
use Rattle.rg_lexer.specs.declared.token.LexFault.{LexFault}
use Rattle.rg_lexer.specs.declared.token.LexFault.TheVariants as lex
use Rattle.rg_lexer.specs.declared.token.Token.{Token}
use Rattle.rg_lexer.specs.Tokens.{AreTokens, FirstLexFault}
use Rattle.rg_lexer.specs.Lexeme.{Lexeme, lexeme, AreLexemes}
use Rattle.rg_lexer.proofs.Texts.{one_fault, tokens_or_fault, answered as tokens_or_first}
use Rattle.rg_grammar.specs.declared.fault.ItemFault.{ItemFault}
use Rattle.rg_grammar.specs.declared.fault.ItemFault.TheVariants.{NoMemory}
use Rattle.rg_grammar.specs.Grammar.{Grammar, FirstRefusal}
use Rattle.rg_grammar.specs.Text.{AreItemsOf, of_lexer, FirstItemFault, in_tokens, in_grammar}
use Rattle.rg_grammar.proofs.Refusals.{one_refusal}
use Rattle.rg_grammar.proofs.Described.{Describes, items_or_refusal, items_or_refused}
use Rattle.rg_grammar.proofs.Described as described
use Rattle.rg_grammar.proofs.Tokens.{one_lexemes}

-- what a text means is one
pub one_meaning : {P D I : Type 0} (g : Grammar P D ItemFault) (Are : I → List Lexeme → Type 0) (meaning : I → D) → Describes P D ItemFault I g Are meaning
    → (bytes : List ℕ) (a b : I) → AreItemsOf Are bytes a → AreItemsOf Are bytes b → meaning a ≡ meaning b
one_meaning g Are meaning by bytes a b x y =
    described.one_meaning g Are meaning by a b x.0 x.2 (subst (Are b) (sym (one_lexemes bytes x.0 y.0 x.1 y.1)) y.2)

-- a text with items has no fault
pub items_not_fault : {P D I : Type 0} (g : Grammar P D ItemFault) (Are : I → List Lexeme → Type 0) (meaning : I → D) → Describes P D ItemFault I g Are meaning
    → (bytes : List ℕ) (items : I) (f : ItemFault) → AreItemsOf Are bytes items → FirstItemFault g bytes f → ⊥
items_not_fault g Are meaning by bytes items f x (in_tokens e h) = tokens_or_fault bytes x.1.0 e x.1.1 h
items_not_fault g Are meaning by bytes items f x (in_grammar ys h b refused) =
    items_or_refusal g Are meaning by items ys (length bytes) h (subst (Are items) (one_lexemes bytes x.0 ys x.1 b) x.2) refused

-- one first fault, by where it lies
with_tokens : {P D : Type 0} (g : Grammar P D ItemFault) (bytes : List ℕ) (e : LexFault) (fault : ItemFault) → FirstLexFault bytes e → FirstItemFault g bytes fault → of_lexer e ≡ fault
with_tokens g bytes e fault h (in_tokens e' h') = ap of_lexer (one_fault bytes e e' h h')
with_tokens g bytes e fault h (in_grammar ys f b refused) = absurd (tokens_or_fault bytes b.0 e b.1 h)

with_grammar : {P D : Type 0} (g : Grammar P D ItemFault) (bytes : List ℕ) (xs : List Lexeme) (f fault : ItemFault) → AreLexemes bytes xs → FirstRefusal g xs (length bytes) f
    → FirstItemFault g bytes fault → f ≡ fault
with_grammar g bytes xs f fault a refused (in_tokens e h) = absurd (tokens_or_fault bytes a.0 e a.1 h)
with_grammar g bytes xs f fault a refused (in_grammar ys h b refused') =
    one_refusal g xs (length bytes) f h refused (subst (λ l. FirstRefusal g l (length bytes) h) (sym (one_lexemes bytes xs ys a b)) refused')

pub one_first_fault : {P D : Type 0} (g : Grammar P D ItemFault) (bytes : List ℕ) (d e : ItemFault) → FirstItemFault g bytes d → FirstItemFault g bytes e → d ≡ e
one_first_fault g bytes d e (in_tokens f h) y = with_tokens g bytes f e h y
one_first_fault g bytes d e (in_grammar xs fault a refused) y = with_grammar g bytes xs fault e a refused y

-- a text has items or a first fault
pub items_or_fault : {P D I : Type 0} (g : Grammar P D ItemFault) (Are : I → List Lexeme → Type 0) (meaning : I → D) → Describes P D ItemFault I g Are meaning
    → (bytes : List ℕ) → ((items : I) × AreItemsOf Are bytes items) ⊎ ((f : ItemFault) × FirstItemFault g bytes f)
items_or_fault {P} {D} {I} g Are meaning by bytes = ⊎_elim with_list (λ e. inr (of_lexer e.0, in_tokens e.0 e.1)) (tokens_or_first bytes)
  where
    with_list : ((tokens : List Token) × AreTokens bytes tokens) → ((items : I) × AreItemsOf Are bytes items) ⊎ ((f : ItemFault) × FirstItemFault g bytes f)
    with_list tokens =
        let xs = map (lexeme bytes) tokens.0 in
        let are : AreLexemes bytes xs = (tokens.0, tokens.1, refl) in
        ⊎_elim
        (λ items. inl (items.0, (xs, are, items.1)))
        (λ refused. inr (refused.0, in_grammar xs refused.0 are refused.1))
        (items_or_refused g Are meaning by xs (length bytes))

-- a fault of the lexer, and one of the grammar
pub of_tokens : {P D : Type 0} (g : Grammar P D ItemFault) (bytes : List ℕ) (e : LexFault) → (e ≢ lex.NoMemory → FirstLexFault bytes e) → of_lexer e ≢ NoMemory → FirstItemFault g bytes (of_lexer e)
of_tokens g bytes e first memory = in_tokens e (first (λ same. memory (ap of_lexer same)))

pub of_grammar : {P D : Type 0} (g : Grammar P D ItemFault) (bytes : List ℕ) (tokens seen : List Token) (e : ItemFault) → AreTokens bytes tokens → seen ≡ tokens
    → (e ≢ NoMemory → FirstRefusal g (map (lexeme bytes) seen) (length bytes) e) → e ≢ NoMemory → FirstItemFault g bytes e
of_grammar g bytes tokens seen e are same first memory =
    in_grammar (map (lexeme bytes) tokens) e (tokens, are, refl)
    (subst (λ ts. FirstRefusal g (map (lexeme bytes) ts) (length bytes) e) same (first memory))
