-- The items of a system file.
use Rattle.std.specs.Prelude.{◌≡◌, ◌≢◌, ◌⊎◌, List, [], ◌∷◌, codes}
use Rattle.rg_lexer.specs.Lexeme.{Lexeme}
use Rattle.rg_grammar.specs.declared.list_position.Setting.{Setting}
use Rattle.rg_grammar.specs.Entry.{Entry, IsOptionally, IsEntry, AreEach, IsWord}
use Rattle.rg_lexer.specs.declared.token.Kind.TheVariants.{Name, Word, Text}

-- the three names of an arc, with its options
pub record Triple : Type 0 where
  pub from : Lexeme
  pub label : Lexeme
  pub to : Lexeme
  pub settings : List (Setting Lexeme)

pub data Item : Type 0 where
  type : Lexeme → Item
  states : List Entry → Item
  labels : List Entry → Item
  arcs : List Triple → Item
  other : Item

-- three names, and optionally an option list
abbrev pub IsTriple : Triple → List Lexeme → Type 0
IsTriple t xs = (t.from.kind ≡ Name) × (t.label.kind ≡ Name) × (t.to.kind ≡ Name)
    × ((options : List Lexeme) × IsOptionally t.settings options × (xs ≡ t.from ∷ t.label ∷ t.to ∷ options))

-- none of the four words of sections
pub record IsOtherWord (word : Lexeme) : Type 0 where
  pub kind : word.kind ≡ Word
  pub no_type : word.text ≢ codes ".type"
  pub no_states : word.text ≢ codes ".states"
  pub no_labels : word.text ≢ codes ".labels"
  pub no_arcs : word.text ≢ codes ".arcs"

-- the name of a type of systems
abbrev pub IsTypeName : Lexeme → Type 0
IsTypeName name = (name.kind ≡ Name) × ((name.text ≡ codes "LTS") ⊎ (name.text ≡ codes "TS"))

abbrev pub IsItem : Item → List Lexeme → Type 0
IsItem (type name) xs = (word : Lexeme) × IsWord (codes ".type") word × IsTypeName name × (xs ≡ word ∷ name ∷ [])
IsItem (states entries) xs = (word : Lexeme) × (rest : List Lexeme) × IsWord (codes ".states") word × AreEach IsEntry entries rest × (xs ≡ word ∷ rest)
IsItem (labels entries) xs = (word : Lexeme) × (rest : List Lexeme) × IsWord (codes ".labels") word × AreEach IsEntry entries rest × (xs ≡ word ∷ rest)
IsItem (arcs triples) xs = (word : Lexeme) × (rest : List Lexeme) × IsWord (codes ".arcs") word × AreEach IsTriple triples rest × (xs ≡ word ∷ rest)
IsItem other xs = (word : Lexeme) × (text : Lexeme) × IsOtherWord word × (text.kind ≡ Text) × (xs ≡ word ∷ text ∷ [])

-- the tokens are these items
abbrev pub AreItems : List Item → List Lexeme → Type 0
AreItems items xs = AreEach IsItem items xs
