-- Options, entries and lists of things in the texts of systems and nets.
use Rattle.std.specs.Prelude.{◌≡◌, ◌⊎◌, ℕ, ◌-◌, List, [], ◌∷◌, ◌++◌, length, take, drop}
use Rattle.rg_lexer.specs.Lexeme.{Lexeme}
use Rattle.rg_lexer.specs.declared.token.Kind.{Kind}
use Rattle.rg_lexer.specs.declared.token.Token.{Token}
use Rattle.rg_lexer.specs.Tokens.{IsTokenOf}
pub use Rattle.rg_grammar.specs.declared.list_position.Setting.{Setting}
pub use Rattle.rg_grammar.specs.declared.list_position.Setting.TheVariants.{Alone, Valued}
use Rattle.rg_lexer.specs.declared.token.Kind.TheVariants.{Name, Word, Text, LeftBracket, RightBracket, Comma, Equals}

-- a token of the text that is a name
abbrev pub IsNameOf : List ℕ → Token → Type 0
IsNameOf bytes token = IsTokenOf bytes token × (token.kind ≡ Name)

-- a token of the text that is a value of an option
abbrev pub IsValueOf : List ℕ → Token → Type 0
IsValueOf bytes token = IsTokenOf bytes token × ((token.kind ≡ Text) ⊎ (token.kind ≡ Name))

-- a text without its quotes, and any other token as it is
abbrev pub value_text_by : Kind → List ℕ → List ℕ
value_text_by Text text = take (length text - 2) (drop 1 text)
value_text_by _ text = text

abbrev pub value_text : Lexeme → List ℕ
value_text value = value_text_by value.kind value.text

-- a state or label, with its options
pub record Entry : Type 0 where
  pub name : Lexeme
  pub settings : List (Setting Lexeme)

-- a key, or a key, `=` and a text or name
abbrev pub IsSetting : Setting Lexeme → List Lexeme → Type 0
IsSetting (Alone key) xs = (key.kind ≡ Name) × (xs ≡ key ∷ [])
IsSetting (Valued key value) xs = (key.kind ≡ Name) × ((value.kind ≡ Text) ⊎ (value.kind ≡ Name))
    × ((equals : Lexeme) × (equals.kind ≡ Equals) × (xs ≡ key ∷ equals ∷ value ∷ []))

-- things separated by commas
abbrev pub AreSeparated : {X : Type 0} → (X → List Lexeme → Type 0) → List X → List Lexeme → Type 0
AreSeparated Is [] xs = xs ≡ []
AreSeparated Is (x ∷ []) xs = Is x xs
AreSeparated Is (x ∷ y ∷ more) xs = (front : List Lexeme) × (comma : Lexeme) × (rest : List Lexeme) × Is x front × (comma.kind ≡ Comma)
    × AreSeparated Is (y ∷ more) rest × (xs ≡ front ++ comma ∷ rest)

-- an opening token, things separated by commas, a closing token
abbrev pub AreEnclosed : {X : Type 0} → Kind → Kind → (X → List Lexeme → Type 0) → List X → List Lexeme → Type 0
AreEnclosed opening closing Is things xs = (left : Lexeme) × (inner : List Lexeme) × (right : Lexeme) × (left.kind ≡ opening) × AreSeparated Is things inner
    × (right.kind ≡ closing) × (xs ≡ left ∷ (inner ++ right ∷ []))

-- `[`, options separated by commas, `]`
abbrev pub IsOptionList : List (Setting Lexeme) → List Lexeme → Type 0
IsOptionList settings xs = AreEnclosed LeftBracket RightBracket IsSetting settings xs

-- an option list, or none
abbrev pub IsOptionally : List (Setting Lexeme) → List Lexeme → Type 0
IsOptionally settings xs = IsOptionList settings xs ⊎ ((settings ≡ []) × (xs ≡ []))

-- a name, and optionally an option list
abbrev pub IsEntry : Entry → List Lexeme → Type 0
IsEntry entry xs = (entry.name.kind ≡ Name) × ((options : List Lexeme) × IsOptionally entry.settings options × (xs ≡ entry.name ∷ options))

-- things of one sort, one after the other
abbrev pub AreEach : {X : Type 0} → (X → List Lexeme → Type 0) → List X → List Lexeme → Type 0
AreEach Is [] xs = xs ≡ []
AreEach Is (x ∷ more) xs = (front : List Lexeme) × (rest : List Lexeme) × Is x front × AreEach Is more rest × (xs ≡ front ++ rest)

-- a word of this text
abbrev pub IsWord : List ℕ → Lexeme → Type 0
IsWord text word = (word.kind ≡ Word) × (word.text ≡ text)
