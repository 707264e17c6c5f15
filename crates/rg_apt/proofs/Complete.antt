-- Tokens that are not refused are items.
use Rattle.std.proofs.Common.{◌≡◌, ℕ, inl, inr, ⊎_elim, Bool, true, false, cond, List, [], ◌∷◌, None, Some, codes, refl, sym, ap, subst}
use Rattle.std.specs.Str.{bytes_eq}
use Rattle.std.proofs.lemmas.Bool.{or_cases}
use Rattle.rg_lexer.specs.Lexeme.{Lexeme}
use Rattle.rg_lexer.specs.declared.token.Kind.{Kind}
use Rattle.rg_lexer.specs.declared.token.Kind.TheVariants.{Name, Word, Text, LeftBracket}
use Rattle.rg_grammar.specs.Entry.{IsEntry, IsWord}
use Rattle.rg_grammar.specs.declared.list_position.ListPosition.TheVariants.{FirstKey}
use Rattle.rg_grammar.specs.Grammar.{leads_all}
use Rattle.rg_grammar.proofs.Complete.{Tail, tail_of_more, tail_more, After, after_of_more, after_of_list, entry_more, ListCompletes, list_token_in, pair_items, section_items, same_bytes, other_bytes}
use Rattle.rg_grammar.proofs.Complete as complete
use Rattle.rg_apt.specs.Item.{Triple, Item, IsTriple, IsItem, IsOtherWord, IsTypeName}
use Rattle.rg_apt.specs.Item as item
use Rattle.rg_apt.specs.Table.{Section, States, Labels, Arcs, Position, Start, TypeName, PassedText, InSection, AfterEntry, Second, Third, InList, leads_by, after_word, after_name, is_type_name, may_end}
use Rattle.rg_apt.specs.Reading.{system_grammar}

-- items, to the end
abbrev pub Items : List Lexeme → Type 0
Items xs = complete.Items IsItem xs

-- the rest of a section, and items
abbrev TailOf : Section → List Lexeme → Type 0
TailOf States xs = Tail IsEntry Items xs
TailOf Labels xs = Tail IsEntry Items xs
TailOf Arcs xs = Tail IsTriple Items xs

-- with what came before at the position, the tokens go on as the grammar wants
abbrev Completes : Position Lexeme → List Lexeme → Type 0
Completes Start xs = Items xs
Completes TypeName xs = (word : Lexeme) → IsWord (codes ".type") word → Items (word ∷ xs)
Completes PassedText xs = (word : Lexeme) → IsOtherWord word → Items (word ∷ xs)
Completes (InSection s) xs = TailOf s xs
Completes (AfterEntry s) xs = After (TailOf s) xs
Completes (Second from) xs = from.kind ≡ Name → TailOf Arcs (from ∷ xs)
Completes (Third from label) xs = from.kind ≡ Name → label.kind ≡ Name → TailOf Arcs (from ∷ label ∷ xs)
Completes (InList s position) xs = ListCompletes (TailOf s) position xs

tail_of_items : (s : Section) (xs : List Lexeme) → Items xs → TailOf s xs
tail_of_items States xs items = tail_of_more IsEntry Items xs items
tail_of_items Labels xs items = tail_of_more IsEntry Items xs items
tail_of_items Arcs xs items = tail_of_more IsTriple Items xs items

triple_more : (from label to : Lexeme) (xs : List Lexeme) → After (TailOf Arcs) xs → from.kind ≡ Name → label.kind ≡ Name → to.kind ≡ Name → TailOf Arcs (from ∷ label ∷ to ∷ xs)
triple_more from label to xs a f l t =
    let triple : Triple = record { from = from; label = label; to = to; settings = a.0 } in
    tail_more IsTriple Items triple (from ∷ label ∷ to ∷ a.1) a.2 (from ∷ label ∷ to ∷ xs) (f, l, t, (a.1, a.3, refl)) (ap (λ l. from ∷ label ∷ to ∷ l) a.5) a.4

name_more : (s : Section) (x : Lexeme) (xs : List Lexeme) → x.kind ≡ Name → Completes (after_name s x) xs → TailOf s (x ∷ xs)
name_more States x xs kind go = entry_more Items x xs kind go
name_more Labels x xs kind go = entry_more Items x xs kind go
name_more Arcs x xs kind go = go kind

-- words
word_items : (word : Lexeme) (xs : List Lexeme) → word.kind ≡ Word → Completes (after_word word.text) xs → Items (word ∷ xs)
word_items word xs kind = by (bytes_eq t (codes ".type")) (bytes_eq t (codes ".states")) (bytes_eq t (codes ".labels")) (bytes_eq t (codes ".arcs")) refl refl refl refl
  where
    t : List ℕ
    t = word.text

    by : (a b c d : Bool) → bytes_eq t (codes ".type") ≡ a → bytes_eq t (codes ".states") ≡ b → bytes_eq t (codes ".labels") ≡ c → bytes_eq t (codes ".arcs") ≡ d
        → Completes (cond a TypeName (cond b (InSection States) (cond c (InSection Labels) (cond d (InSection Arcs) PassedText)))) xs → Items (word ∷ xs)
    by true b c d e f g h go = go word (kind, same_bytes t (codes ".type") e)
    by false true c d e f g h go = section_items IsEntry IsItem item.states word xs (λ things rest are. (word, rest, (kind, same_bytes t (codes ".states") f), are, refl)) go
    by false false true d e f g h go = section_items IsEntry IsItem item.labels word xs (λ things rest are. (word, rest, (kind, same_bytes t (codes ".labels") g), are, refl)) go
    by false false false true e f g h go = section_items IsTriple IsItem item.arcs word xs (λ things rest are. (word, rest, (kind, same_bytes t (codes ".arcs") h), are, refl)) go
    by false false false false e f g h go = go word (record {
      kind = kind;
      no_type = other_bytes t (codes ".type") e;
      no_states = other_bytes t (codes ".states") f;
      no_labels = other_bytes t (codes ".labels") g;
      no_arcs = other_bytes t (codes ".arcs") h;
    })

type_name_is : (name : Lexeme) → name.kind ≡ Name → is_type_name name.text ≡ true → IsTypeName name
type_name_is name kind e = (
  kind,
  ⊎_elim (λ h. inl (same_bytes name.text (codes "LTS") h)) (λ h. inr (same_bytes name.text (codes "TS") h))
      (or_cases (bytes_eq name.text (codes "LTS")) (bytes_eq name.text (codes "TS")) e),
)

-- the position that a token leads to
led : (to q : Position Lexeme) (xs : List Lexeme) → Some to ≡ Some q → Completes q xs → Completes to xs
led to q xs e go = let same : to ≡ q = cc in subst (λ p. Completes p xs) (sym same) go

type_more : (x : Lexeme) (xs : List Lexeme) (q : Position Lexeme) (b : Bool) → is_type_name x.text ≡ b → x.kind ≡ Name → cond b (Some Start) None ≡ Some q → Completes q xs → Completes TypeName (x ∷ xs)
type_more x xs q true e kind lead go = λ word w. pair_items IsItem (item.type x) word x xs (word, w, type_name_is x kind e, refl) (led Start q xs lead go)
type_more x xs q false e kind lead go = absurd cc

-- one token and what completes the position after it
token_more : (p : Position Lexeme) (x : Lexeme) (xs : List Lexeme) (k : Kind) (q : Position Lexeme) → x.kind ≡ k → leads_by p k x ≡ Some q → Completes q xs → Completes p (x ∷ xs)
token_more Start x xs Word q kind lead go = word_items x xs kind (led (after_word x.text) q xs lead go)
token_more TypeName x xs Name q kind lead go = type_more x xs q (is_type_name x.text) refl kind lead go
token_more PassedText x xs Text q kind lead go = λ word w. pair_items IsItem item.other word x xs (word, x, w, kind, refl) (led Start q xs lead go)
token_more (InSection s) x xs Name q kind lead go = name_more s x xs kind (led (after_name s x) q xs lead go)
token_more (InSection s) x xs Word q kind lead go = tail_of_items s (x ∷ xs) (word_items x xs kind (led (after_word x.text) q xs lead go))
token_more (AfterEntry s) x xs Name q kind lead go = after_of_more (TailOf s) (x ∷ xs) (name_more s x xs kind (led (after_name s x) q xs lead go))
token_more (AfterEntry s) x xs Word q kind lead go =
    after_of_more (TailOf s) (x ∷ xs) (tail_of_items s (x ∷ xs) (word_items x xs kind (led (after_word x.text) q xs lead go)))
token_more (AfterEntry s) x xs LeftBracket q kind lead go = after_of_list (TailOf s) x xs kind (led (InList s FirstKey) q xs lead go)
token_more (Second from) x xs Name q kind lead go = λ f. led (Third from x) q xs lead go f kind
token_more (Third from label) x xs Name q kind lead go = λ f l. triple_more from label x xs (led (AfterEntry Arcs) q xs lead go) f l kind
token_more (InList s position) x xs k q kind lead go =
    list_token_in (InList s) (InSection s) Completes (TailOf s) (λ position xs h. h) (λ xs h. h) position x xs k q kind lead go
token_more p x xs k q kind lead go = absurd cc

-- the end
ended : (p : Position Lexeme) → may_end p ≡ true → Completes p []
ended Start e = ([], refl)
ended (InSection s) e = tail_of_items s [] ([], refl)
ended (AfterEntry s) e = after_of_more (TailOf s) [] (tail_of_items s [] ([], refl))
ended p e = absurd cc

-- tokens that lead to a position where the file may end are items
pub items_from : (q : Position Lexeme) (xs : List Lexeme) → leads_all system_grammar Start xs ≡ Some q → may_end q ≡ true → Items xs
items_from q xs lead ends =
    complete.completes system_grammar Completes (λ p x xs q lead go. token_more p x xs x.kind q refl lead go) ended Start q xs lead ends
