-- Words that begin items.
use Rattle.std.proofs.Common.{◌≡◌, ℕ, Bool, true, false, ◌||◌, List, [], ◌∷◌, refl, sym, subst}
use Rattle.std.specs.Str.{bytes_eq}
use Rattle.std.proofs.lemmas.Bool.{false_from_ne_true}
use Rattle.std.proofs.lemmas.Slice.Eq.{bytes_eq-Decides}
use Rattle.rg_lexer.specs.Lexeme.{Lexeme}
use Rattle.rg_lexer.specs.declared.token.Kind.TheVariants.{Word}
use Rattle.rg_grammar.specs.Grammar.{Grammar}
use Rattle.rg_grammar.proofs.Moves.{Moves, moves_both, moves_same}

-- a word may stand at the position, and the text may end there
pub record Begins {P D F : Type 0} (g : Grammar P D F) (after_word : List ℕ → P) (p : P) : Type 0 where
  pub word : (x : Lexeme) (d : D) → x.kind ≡ Word → Moves g p d (x ∷ []) (after_word x.text) d
  pub end : g.may_end p ≡ true

-- a position where an item may begin
abbrev pub ItemPosition : {P D F : Type 0} → Grammar P D F → (List ℕ → P) → Type 0
ItemPosition {P} g after_word = (p : P) × Begins g after_word p

-- an item: its word, and what follows it
pub word_moves : {P D F : Type 0} (g : Grammar P D F) (after_word : List ℕ → P) (b c : ItemPosition g after_word) (q : P) (d e f : D) (word : Lexeme) (rest xs : List Lexeme)
    → word.kind ≡ Word → after_word word.text ≡ q → Moves g q d rest c.0 e → xs ≡ word ∷ rest → e ≡ f → (to : ItemPosition g after_word) × Moves g b.0 d xs to.0 f
word_moves g after_word b c q d e f word rest xs kind to moves same made = (
  c,
  moves_same g b.0 c.0 d e f xs made
      (subst (λ l. Moves g b.0 d l c.0 e) (sym same)
      (moves_both g b.0 q c.0 d d e (word ∷ []) rest (subst (λ p. Moves g b.0 d (word ∷ []) p d) to (b.1.word word d kind)) moves)),
)

pub differ : (a b : List ℕ) → (a ≡ b → ⊥) → bytes_eq a b ≡ false
differ a b h = false_from_ne_true (bytes_eq a b) (λ e. h ((bytes_eq-Decides a b).0 e))

pub or_false : (a : Bool) → a ≡ (a || false)
or_false true = refl
or_false false = refl

pub or_true : (a : Bool) → true ≡ (a || true)
or_true true = refl
or_true false = refl

pub or_assoc : (a b c : Bool) → ((a || b) || c) ≡ (a || (b || c))
or_assoc true b c = refl
or_assoc false b c = refl
