-- Tokens that are not refused are items.
use Rattle.std.proofs.Common.{◌≡◌, ℕ, inl, inr, ⊎_elim, Bool, true, false, cond, List, [], ◌∷◌, ◌++◌, None, Some, codes, refl, sym, ap, subst, ◌∙◌, append_assoc}
use Rattle.std.specs.Char.{is_ascii_digit}
use Rattle.std.specs.Str.{bytes_eq}
use Rattle.std.proofs.lemmas.Bool.{or_cases}
use Rattle.std.proofs.lemmas.List.Sums.{AllPass-from_list_all}
use Rattle.rg_lexer.specs.Lexeme.{Lexeme}
use Rattle.rg_lexer.specs.declared.token.Kind.{Kind}
use Rattle.rg_lexer.specs.declared.token.Kind.TheVariants.{Name, Word, Text, LeftBracket, LeftBrace, RightBrace, Comma, Colon, Star, Arrow}
use Rattle.rg_grammar.specs.Entry.{IsEntry, IsWord}
use Rattle.rg_grammar.specs.declared.list_position.ListPosition.TheVariants.{FirstKey}
use Rattle.rg_grammar.specs.Grammar.{leads_all}
use Rattle.rg_grammar.proofs.Complete.{Tail, tail_of_more, tail_more, Things, SomeThings, no_things, some_things, close_more, comma_more, Enclosed, enclosed, After, after_of_more, after_of_list, entry_more, ListCompletes, list_token_in, pair_items, section_items, same_bytes, other_bytes}
use Rattle.rg_grammar.proofs.Complete as complete
use Rattle.rg_net_grammar.specs.Item.{Member, Flow, Item, IsNumber, IsMember, IsFlow, IsItem, IsOtherWord, IsTypeName}
use Rattle.rg_net_grammar.specs.Item as item
use Rattle.rg_net_grammar.specs.Table.{Places, Transitions, Side, Pre, Post, Marking, SetPosition, FirstMember, NextMember, AfterName, AfterStar, AfterMember, Position}
use Rattle.rg_net_grammar.specs.Table.{Start, TypeName, PassedText, InSection, AfterEntry, InList, InFlows, AfterFlowName, BeforeSet, InSet, AfterPre}
use Rattle.rg_net_grammar.specs.Table.{is_digits, after_set, set_leads_by, leads_by, after_word, is_type_name, may_end}
use Rattle.rg_net_grammar.specs.Reading.{net_grammar}

-- items, to the end
abbrev pub Items : List Lexeme → Type 0
Items xs = complete.Items IsItem xs

-- the rest of a section, and items
abbrev Entries : List Lexeme → Type 0
Entries xs = Tail IsEntry Items xs

abbrev Flows : List Lexeme → Type 0
Flows xs = Tail IsFlow Items xs

-- a set, and then what follows it
abbrev SetAnd : (List Lexeme → Type 0) → List Lexeme → Type 0
SetAnd More xs = Enclosed LeftBrace RightBrace IsMember More xs

-- `->`, a set, and the rest of the flows
abbrev ArrowAndSet : List Lexeme → Type 0
ArrowAndSet xs = (arrow : Lexeme) × (rest : List Lexeme) × (arrow.kind ≡ Arrow) × SetAnd Flows rest × (xs ≡ arrow ∷ rest)

-- what follows a set
abbrev Then : Side → List Lexeme → Type 0
Then Pre xs = ArrowAndSet xs
Then Post xs = Flows xs
Then Marking xs = Items xs

-- with what came before at a position of a set, the tokens go on as the grammar wants
abbrev Members : Side → List Lexeme → Type 0
Members side xs = SomeThings RightBrace IsMember (Then side) xs

abbrev SetCompletes : Side → SetPosition Lexeme → List Lexeme → Type 0
SetCompletes side FirstMember xs = Things RightBrace IsMember (Then side) xs
SetCompletes side NextMember xs = Members side xs
SetCompletes side (AfterName name) xs = name.kind ≡ Name → Members side (name ∷ xs)
SetCompletes side (AfterStar number) xs = (star : Lexeme) → IsNumber number → star.kind ≡ Star → Members side (number ∷ star ∷ xs)
SetCompletes side AfterMember xs = (number star place : Lexeme) → IsNumber number → star.kind ≡ Star → place.kind ≡ Name → Members side (number ∷ star ∷ place ∷ xs)

-- with what came before at the position, the tokens go on as the grammar wants
abbrev Completes : Position Lexeme → List Lexeme → Type 0
Completes Start xs = Items xs
Completes TypeName xs = (word : Lexeme) → IsWord (codes ".type") word → Items (word ∷ xs)
Completes PassedText xs = (word : Lexeme) → IsOtherWord word → Items (word ∷ xs)
Completes (InSection s) xs = Entries xs
Completes (AfterEntry s) xs = After Entries xs
Completes (InList s position) xs = ListCompletes Entries position xs
Completes InFlows xs = Flows xs
Completes AfterFlowName xs = (name : Lexeme) → name.kind ≡ Name → Flows (name ∷ xs)
Completes (BeforeSet side) xs = SetAnd (Then side) xs
Completes (InSet side position) xs = SetCompletes side position xs
Completes AfterPre xs = ArrowAndSet xs

-- the position that a token leads to
led : (to q : Position Lexeme) (xs : List Lexeme) → Some to ≡ Some q → Completes q xs → Completes to xs
led to q xs e go = let same : to ≡ q = cc in subst (λ p. Completes p xs) (sym same) go

after_set_is : (side : Side) (xs : List Lexeme) → Completes (after_set side) xs → Then side xs
after_set_is Pre xs go = go
after_set_is Post xs go = go
after_set_is Marking xs go = go

-- the end of a member
closed : (side : Side) (member : Member Lexeme) (front : List Lexeme) (x : Lexeme) (xs : List Lexeme) (q : Position Lexeme) → IsMember member front
    → x.kind ≡ RightBrace → Some (after_set side) ≡ Some q → Completes q xs
    → Members side (front ++ x ∷ xs)
closed side member front x xs q is kind lead go = close_more RightBrace IsMember (Then side) member front x xs is kind (after_set_is side xs (led (after_set side) q xs lead go))

going_on : (side : Side) (member : Member Lexeme) (front : List Lexeme) (x : Lexeme) (xs : List Lexeme) (q : Position Lexeme) → IsMember member front
    → x.kind ≡ Comma → Some (InSet side NextMember) ≡ Some q → Completes q xs
    → Members side (front ++ x ∷ xs)
going_on side member front x xs q is kind lead go = comma_more RightBrace IsMember (Then side) member front x xs is kind (led (InSet side NextMember) q xs lead go)

star_more : (side : Side) (name x : Lexeme) (xs : List Lexeme) (q : Position Lexeme) (b : Bool) → is_digits name.text ≡ b → x.kind ≡ Star
    → cond b (Some (InSet side (AfterStar name))) None ≡ Some q → Completes q xs
    → SetCompletes side (AfterName name) (x ∷ xs)
star_more side name x xs q true e kind lead go = λ name_kind. led (InSet side (AfterStar name)) q xs lead go x (name_kind, AllPass-from_list_all is_ascii_digit name.text e) kind
star_more side name x xs q false e kind lead go = absurd cc

set_token : (side : Side) (p : SetPosition Lexeme) (x : Lexeme) (xs : List Lexeme) (k : Kind) (q : Position Lexeme) → x.kind ≡ k → set_leads_by side p k x ≡ Some q → Completes q xs → SetCompletes side p (x ∷ xs)
set_token side FirstMember x xs Name q kind lead go = some_things RightBrace IsMember (Then side) (x ∷ xs) (led (InSet side (AfterName x)) q xs lead go kind)
set_token side FirstMember x xs RightBrace q kind lead go = no_things RightBrace IsMember (Then side) x xs kind (after_set_is side xs (led (after_set side) q xs lead go))
set_token side NextMember x xs Name q kind lead go = led (InSet side (AfterName x)) q xs lead go kind
set_token side (AfterName name) x xs Star q kind lead go = star_more side name x xs q (is_digits name.text) refl kind lead go
set_token side (AfterName name) x xs Comma q kind lead go = λ name_kind.
    going_on side (record { number = None; place = name }) (name ∷ []) x xs q (name_kind, refl) kind lead go
set_token side (AfterName name) x xs RightBrace q kind lead go = λ name_kind.
    closed side (record { number = None; place = name }) (name ∷ []) x xs q (name_kind, refl) kind lead go
set_token side (AfterStar number) x xs Name q kind lead go = λ star is star_kind. led (InSet side AfterMember) q xs lead go number star x is star_kind kind
set_token side AfterMember x xs Comma q kind lead go = λ number star place is star_kind place_kind.
    going_on side (record { number = Some number; place = place }) (number ∷ star ∷ place ∷ []) x xs q (place_kind, (is, (star, star_kind, refl))) kind lead go
set_token side AfterMember x xs RightBrace q kind lead go = λ number star place is star_kind place_kind.
    closed side (record { number = Some number; place = place }) (number ∷ star ∷ place ∷ []) x xs q (place_kind, (is, (star, star_kind, refl))) kind lead go
set_token side p x xs k q kind lead go = absurd cc

-- a flow more
flow_more : (name colon : Lexeme) (xs : List Lexeme) → name.kind ≡ Name → colon.kind ≡ Colon → SetAnd ArrowAndSet xs → Flows (name ∷ colon ∷ xs)
flow_more name colon xs name_kind colon_kind first =
    let after = first.4 in
    let second = after.3 in
    let flow : Flow = record { name = name; pre = first.0; post = second.0 } in
    tail_more IsFlow Items flow (name ∷ colon ∷ (first.1 ++ after.0 ∷ second.1)) second.2 (name ∷ colon ∷ xs)
    (name_kind, (colon, first.1, after.0, second.1, colon_kind, first.3, after.2, second.3, refl))
    (ap (λ l. name ∷ colon ∷ l)
    (first.5 ∙ ap (λ l. first.1 ++ l) (after.4 ∙ ap (λ l. after.0 ∷ l) second.5) ∙ sym (append_assoc first.1 (after.0 ∷ second.1) second.2)))
    second.4

-- words
marking_items : (word : Lexeme) (xs : List Lexeme) → IsWord (codes ".initial_marking") word → SetAnd Items xs → Items (word ∷ xs)
marking_items word xs w set = (item.marking set.0 ∷ set.4.0, (word ∷ set.1, set.2, (word, set.1, w, set.3, refl), set.4.1, ap (λ l. word ∷ l) set.5))

word_items : (word : Lexeme) (xs : List Lexeme) → word.kind ≡ Word → Completes (after_word word.text) xs → Items (word ∷ xs)
word_items word xs kind =
    by (bytes_eq t (codes ".type")) (bytes_eq t (codes ".places")) (bytes_eq t (codes ".transitions")) (bytes_eq t (codes ".flows")) (bytes_eq t (codes ".initial_marking")) refl refl refl refl refl
  where
    t : List ℕ
    t = word.text

    by : (a b c d e : Bool) → bytes_eq t (codes ".type") ≡ a → bytes_eq t (codes ".places") ≡ b → bytes_eq t (codes ".transitions") ≡ c
        → bytes_eq t (codes ".flows") ≡ d → bytes_eq t (codes ".initial_marking") ≡ e
        → Completes (cond a TypeName (cond b (InSection Places) (cond c (InSection Transitions) (cond d InFlows (cond e (BeforeSet Marking) PassedText))))) xs → Items (word ∷ xs)
    by true b c d e f g h i j go = go word (kind, same_bytes t (codes ".type") f)
    by false true c d e f g h i j go = section_items IsEntry IsItem item.places word xs (λ things rest are. (word, rest, (kind, same_bytes t (codes ".places") g), are, refl)) go
    by false false true d e f g h i j go = section_items IsEntry IsItem item.transitions word xs (λ things rest are. (word, rest, (kind, same_bytes t (codes ".transitions") h), are, refl)) go
    by false false false true e f g h i j go = section_items IsFlow IsItem item.flows word xs (λ things rest are. (word, rest, (kind, same_bytes t (codes ".flows") i), are, refl)) go
    by false false false false true f g h i j go = marking_items word xs (kind, same_bytes t (codes ".initial_marking") j) go
    by false false false false false f g h i j go = go word (record {
      kind = kind;
      no_type = other_bytes t (codes ".type") f;
      no_places = other_bytes t (codes ".places") g;
      no_transitions = other_bytes t (codes ".transitions") h;
      no_flows = other_bytes t (codes ".flows") i;
      no_marking = other_bytes t (codes ".initial_marking") j;
    })

type_name_is : (name : Lexeme) → name.kind ≡ Name → is_type_name name.text ≡ true → IsTypeName name
type_name_is name kind e = (
  kind,
  ⊎_elim (λ h. inl (same_bytes name.text (codes "PN") h)) (λ h. inr (same_bytes name.text (codes "LPN") h))
      (or_cases (bytes_eq name.text (codes "PN")) (bytes_eq name.text (codes "LPN")) e),
)

type_more : (x : Lexeme) (xs : List Lexeme) (q : Position Lexeme) (b : Bool) → is_type_name x.text ≡ b → x.kind ≡ Name → cond b (Some Start) None ≡ Some q → Completes q xs → Completes TypeName (x ∷ xs)
type_more x xs q true e kind lead go = λ word w. pair_items IsItem (item.type x) word x xs (word, w, type_name_is x kind e, refl) (led Start q xs lead go)
type_more x xs q false e kind lead go = absurd cc

-- one token and what completes the position after it
token_more : (p : Position Lexeme) (x : Lexeme) (xs : List Lexeme) (k : Kind) (q : Position Lexeme) → x.kind ≡ k → leads_by p k x ≡ Some q → Completes q xs → Completes p (x ∷ xs)
token_more Start x xs Word q kind lead go = word_items x xs kind (led (after_word x.text) q xs lead go)
token_more TypeName x xs Name q kind lead go = type_more x xs q (is_type_name x.text) refl kind lead go
token_more PassedText x xs Text q kind lead go = λ word w. pair_items IsItem item.other word x xs (word, x, w, kind, refl) (led Start q xs lead go)
token_more (InSection s) x xs Name q kind lead go = entry_more Items x xs kind (led (AfterEntry s) q xs lead go)
token_more (InSection s) x xs Word q kind lead go = tail_of_more IsEntry Items (x ∷ xs) (word_items x xs kind (led (after_word x.text) q xs lead go))
token_more (AfterEntry s) x xs Name q kind lead go = after_of_more Entries (x ∷ xs) (entry_more Items x xs kind (led (AfterEntry s) q xs lead go))
token_more (AfterEntry s) x xs Word q kind lead go =
    after_of_more Entries (x ∷ xs) (tail_of_more IsEntry Items (x ∷ xs) (word_items x xs kind (led (after_word x.text) q xs lead go)))
token_more (AfterEntry s) x xs LeftBracket q kind lead go = after_of_list Entries x xs kind (led (InList s FirstKey) q xs lead go)
token_more (InList s position) x xs k q kind lead go =
    list_token_in (InList s) (InSection s) Completes Entries (λ position xs h. h) (λ xs h. h) position x xs k q kind lead go
token_more InFlows x xs Name q kind lead go = led AfterFlowName q xs lead go x kind
token_more InFlows x xs Word q kind lead go = tail_of_more IsFlow Items (x ∷ xs) (word_items x xs kind (led (after_word x.text) q xs lead go))
token_more AfterFlowName x xs Colon q kind lead go = λ name name_kind. flow_more name x xs name_kind kind (led (BeforeSet Pre) q xs lead go)
token_more (BeforeSet side) x xs LeftBrace q kind lead go = enclosed LeftBrace RightBrace IsMember (Then side) x xs kind (led (InSet side FirstMember) q xs lead go)
token_more (InSet side position) x xs k q kind lead go = set_token side position x xs k q kind lead go
token_more AfterPre x xs Arrow q kind lead go = (x, xs, kind, led (BeforeSet Post) q xs lead go, refl)
token_more p x xs k q kind lead go = absurd cc

-- the end
ended : (p : Position Lexeme) → may_end p ≡ true → Completes p []
ended Start e = ([], refl)
ended (InSection s) e = tail_of_more IsEntry Items [] ([], refl)
ended (AfterEntry s) e = after_of_more Entries [] (tail_of_more IsEntry Items [] ([], refl))
ended InFlows e = tail_of_more IsFlow Items [] ([], refl)
ended p e = absurd cc

-- tokens that lead to a position where the file may end are items
pub items_from : (q : Position Lexeme) (xs : List Lexeme) → leads_all net_grammar Start xs ≡ Some q → may_end q ≡ true → Items xs
items_from q xs lead ends =
    complete.completes net_grammar Completes (λ p x xs q lead go. token_more p x xs x.kind q refl lead go) ended Start q xs lead ends
