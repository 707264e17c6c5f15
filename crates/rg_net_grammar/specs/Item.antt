-- The items of a net file.
use Rattle.std.specs.Prelude.{◌≡◌, ◌≢◌, ◌⊎◌, List, [], ◌∷◌, ◌++◌, Option, None, Some, codes}
use Rattle.std.specs.List.{AllPass}
use Rattle.std.specs.Char.{is_ascii_digit}
use Rattle.rg_lexer.specs.Lexeme.{Lexeme}
use Rattle.rg_lexer.specs.declared.token.Kind.TheVariants.{Name, Word, Text, LeftBrace, RightBrace, Colon, Star, Arrow}
use Rattle.rg_grammar.specs.Entry.{Entry, IsEntry, AreEach, AreEnclosed, IsWord}
pub use Rattle.rg_net_grammar.specs.declared.found.Member.{Member}

-- the name of a transition, with the members of its two sets
pub record Flow : Type 0 where
  pub name : Lexeme
  pub pre : List (Member Lexeme)
  pub post : List (Member Lexeme)

pub data Item : Type 0 where
  type : Lexeme → Item
  places : List Entry → Item
  transitions : List Entry → Item
  flows : List Flow → Item
  marking : List (Member Lexeme) → Item
  other : Item

-- a name of digits alone
abbrev pub IsNumber : Lexeme → Type 0
IsNumber x = (x.kind ≡ Name) × AllPass is_ascii_digit x.text

-- a name, or a number, `*` and a name
abbrev pub IsMemberBy : Option Lexeme → Lexeme → List Lexeme → Type 0
IsMemberBy None place xs = xs ≡ place ∷ []
IsMemberBy (Some number) place xs = IsNumber number × ((star : Lexeme) × (star.kind ≡ Star) × (xs ≡ number ∷ star ∷ place ∷ []))

abbrev pub IsMember : Member Lexeme → List Lexeme → Type 0
IsMember member xs = (member.place.kind ≡ Name) × IsMemberBy member.number member.place xs

-- `{`, members separated by commas, `}`
abbrev pub IsSet : List (Member Lexeme) → List Lexeme → Type 0
IsSet members xs = AreEnclosed LeftBrace RightBrace IsMember members xs

-- a name, `:`, a set, `->`, a set
abbrev pub IsFlow : Flow → List Lexeme → Type 0
IsFlow flow xs = (flow.name.kind ≡ Name) × ((colon : Lexeme) × (pre : List Lexeme) × (arrow : Lexeme) × (post : List Lexeme) × (colon.kind ≡ Colon)
    × IsSet flow.pre pre × (arrow.kind ≡ Arrow) × IsSet flow.post post × (xs ≡ flow.name ∷ colon ∷ (pre ++ arrow ∷ post)))

-- none of the five words of sections
pub record IsOtherWord (word : Lexeme) : Type 0 where
  pub kind : word.kind ≡ Word
  pub no_type : word.text ≢ codes ".type"
  pub no_places : word.text ≢ codes ".places"
  pub no_transitions : word.text ≢ codes ".transitions"
  pub no_flows : word.text ≢ codes ".flows"
  pub no_marking : word.text ≢ codes ".initial_marking"

-- the name of a type of nets
abbrev pub IsTypeName : Lexeme → Type 0
IsTypeName name = (name.kind ≡ Name) × ((name.text ≡ codes "PN") ⊎ (name.text ≡ codes "LPN"))

abbrev pub IsItem : Item → List Lexeme → Type 0
IsItem (type name) xs = (word : Lexeme) × IsWord (codes ".type") word × IsTypeName name × (xs ≡ word ∷ name ∷ [])
IsItem (places entries) xs = (word : Lexeme) × (rest : List Lexeme) × IsWord (codes ".places") word × AreEach IsEntry entries rest × (xs ≡ word ∷ rest)
IsItem (transitions entries) xs = (word : Lexeme) × (rest : List Lexeme) × IsWord (codes ".transitions") word × AreEach IsEntry entries rest × (xs ≡ word ∷ rest)
IsItem (flows many) xs = (word : Lexeme) × (rest : List Lexeme) × IsWord (codes ".flows") word × AreEach IsFlow many rest × (xs ≡ word ∷ rest)
IsItem (marking members) xs = (word : Lexeme) × (rest : List Lexeme) × IsWord (codes ".initial_marking") word × IsSet members rest × (xs ≡ word ∷ rest)
IsItem other xs = (word : Lexeme) × (text : Lexeme) × IsOtherWord word × (text.kind ≡ Text) × (xs ≡ word ∷ text ∷ [])

-- the tokens are these items
abbrev pub AreItems : List Item → List Lexeme → Type 0
AreItems items xs = AreEach IsItem items xs
