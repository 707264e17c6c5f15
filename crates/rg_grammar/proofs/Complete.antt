-- Tokens that lead a reader to the end are what the grammar says.
use Rattle.std.proofs.Common.{◌≡◌, ◌≢◌, ℕ, ◌⊎◌, inl, inr, true, false, List, [], ◌∷◌, ◌++◌, Option, None, Some, refl, sym, ap, subst, ◌∙◌, append_assoc}
use Rattle.std.specs.Option.{option_and_then, option_map}
use Rattle.std.specs.Str.{bytes_eq}
use Rattle.std.proofs.lemmas.Bool.{both_ways}
use Rattle.std.proofs.lemmas.Slice.Eq.{bytes_eq-Decides}
use Rattle.rg_lexer.specs.Lexeme.{Lexeme}
use Rattle.rg_lexer.specs.declared.token.Kind.{Kind}
use Rattle.rg_lexer.specs.declared.token.Kind.TheVariants.{Name, Text, LeftBracket, RightBracket, Comma, Equals}
use Rattle.rg_grammar.specs.Entry.{Setting, Alone, Valued, Entry, IsSetting, AreSeparated, AreEnclosed, IsOptionally, IsEntry, AreEach}
use Rattle.rg_grammar.specs.Grammar.{Grammar, leads_all}
use Rattle.rg_grammar.specs.ListPosition.{ListPosition, FirstKey, NextKey, AfterKey, Value, AfterValue, ListStep, On, Closed, list_leads_by, list_to}

-- by one token after another: what completes the position after a token completes the position before it
pub completes : {P D F : Type 0} (g : Grammar P D F) (Completes : P → List Lexeme → Type 0)
    → ((p : P) (x : Lexeme) (xs : List Lexeme) (q : P) → g.leads p x ≡ Some q → Completes q xs → Completes p (x ∷ xs))
    → ((p : P) → g.may_end p ≡ true → Completes p [])
    → (p q : P) (xs : List Lexeme) → leads_all g p xs ≡ Some q → g.may_end q ≡ true → Completes p xs
completes g Completes token_more ended p q [] lead ends = ended p (let same : p ≡ q = cc in ap g.may_end same ∙ ends)
completes {P} g Completes token_more ended p q (x ∷ xs) lead ends = by (g.leads p x) refl lead (λ next h. completes g Completes token_more ended next q xs h ends)
  where
    by : (o : Option P) → g.leads p x ≡ o → option_and_then (λ next. leads_all g next xs) o ≡ Some q → ((next : P) → leads_all g next xs ≡ Some q → Completes next xs) → Completes p (x ∷ xs)
    by None e lead more = absurd cc
    by (Some next) e lead more = token_more p x xs next e (more next lead)

-- things of one sort, and then what follows them
abbrev pub Tail : {X : Type 0} → (X → List Lexeme → Type 0) → (List Lexeme → Type 0) → List Lexeme → Type 0
Tail {X} Is More xs = (front : List Lexeme) × (rest : List Lexeme) × ((things : List X) × AreEach Is things front) × More rest × (xs ≡ front ++ rest)

pub tail_of_more : {X : Type 0} (Is : X → List Lexeme → Type 0) (More : List Lexeme → Type 0) (xs : List Lexeme) → More xs → Tail Is More xs
tail_of_more Is More xs more = ([], xs, ([], refl), more, refl)

pub tail_more : {X : Type 0} (Is : X → List Lexeme → Type 0) (More : List Lexeme → Type 0) (thing : X) (front xs all : List Lexeme) → Is thing front
    → all ≡ front ++ xs → Tail Is More xs → Tail Is More all
tail_more Is More thing front xs all is same tail = (
  front ++ tail.0,
  tail.1,
  (thing ∷ tail.2.0, (front, tail.0, is, tail.2.1, refl)),
  tail.3,
  same ∙ ap (λ l. front ++ l) tail.4 ∙ sym (append_assoc front tail.0 tail.1),
)

-- things separated by commas, a closing token, and then what follows it
pub record Closes (X : Type 0) (closing : Kind) (Is : X → List Lexeme → Type 0) (More : List Lexeme → Type 0) (things : List X) (xs : List Lexeme) : Type 0 where
  pub inner : List Lexeme
  pub right : Lexeme
  pub rest : List Lexeme
  pub are : AreSeparated Is things inner
  pub close : right.kind ≡ closing
  pub more : More rest
  pub all : xs ≡ inner ++ right ∷ rest

abbrev pub Things : {X : Type 0} → Kind → (X → List Lexeme → Type 0) → (List Lexeme → Type 0) → List Lexeme → Type 0
Things {X} closing Is More xs = (things : List X) × Closes X closing Is More things xs

abbrev pub SomeThings : {X : Type 0} → Kind → (X → List Lexeme → Type 0) → (List Lexeme → Type 0) → List Lexeme → Type 0
SomeThings {X} closing Is More xs = (first : X) × (others : List X) × Closes X closing Is More (first ∷ others) xs

pub no_things : {X : Type 0} (closing : Kind) (Is : X → List Lexeme → Type 0) (More : List Lexeme → Type 0) (x : Lexeme) (xs : List Lexeme)
    → x.kind ≡ closing → More xs → Things closing Is More (x ∷ xs)
no_things closing Is More x xs kind more = ([], record { inner = []; right = x; rest = xs; are = refl; close = kind; more = more; all = refl })

pub some_things : {X : Type 0} (closing : Kind) (Is : X → List Lexeme → Type 0) (More : List Lexeme → Type 0) (xs : List Lexeme) → SomeThings closing Is More xs → Things closing Is More xs
some_things closing Is More xs things = (things.0 ∷ things.1, things.2)

-- the end of a thing
pub close_more : {X : Type 0} (closing : Kind) (Is : X → List Lexeme → Type 0) (More : List Lexeme → Type 0) (thing : X) (front : List Lexeme) (right : Lexeme) (rest : List Lexeme)
    → Is thing front → right.kind ≡ closing → More rest → SomeThings closing Is More (front ++ right ∷ rest)
close_more closing Is More thing front right rest is kind more =
    (thing, [], record { inner = front; right = right; rest = rest; are = is; close = kind; more = more; all = refl })

pub comma_more : {X : Type 0} (closing : Kind) (Is : X → List Lexeme → Type 0) (More : List Lexeme → Type 0) (thing : X) (front : List Lexeme) (comma : Lexeme) (xs : List Lexeme)
    → Is thing front → comma.kind ≡ Comma → SomeThings closing Is More xs → SomeThings closing Is More (front ++ comma ∷ xs)
comma_more closing Is More thing front comma xs is kind things =
    let c = things.2 in (
      thing,
      things.0 ∷ things.1,
      record {
        inner = front ++ comma ∷ c.inner;
        right = c.right;
        rest = c.rest;
        are = (front, comma, c.inner, is, kind, c.are, refl);
        close = c.close;
        more = c.more;
        all = ap (λ l. front ++ comma ∷ l) c.all ∙ sym (append_assoc front (comma ∷ c.inner) (c.right ∷ c.rest));
      },
    )

-- an enclosed list, and then what follows it
abbrev pub Enclosed : {X : Type 0} → Kind → Kind → (X → List Lexeme → Type 0) → (List Lexeme → Type 0) → List Lexeme → Type 0
Enclosed {X} opening closing Is More xs = (things : List X) × (list : List Lexeme) × (rest : List Lexeme) × AreEnclosed opening closing Is things list × More rest × (xs ≡ list ++ rest)

pub enclosed : {X : Type 0} (opening closing : Kind) (Is : X → List Lexeme → Type 0) (More : List Lexeme → Type 0) (left : Lexeme) (xs : List Lexeme) → left.kind ≡ opening → Things closing Is More xs
    → Enclosed opening closing Is More (left ∷ xs)
enclosed opening closing Is More left xs kind things =
    let c = things.1 in (
      things.0,
      left ∷ (c.inner ++ c.right ∷ []),
      c.rest,
      (left, c.inner, c.right, kind, c.are, c.close, refl),
      c.more,
      ap (λ l. left ∷ l) (c.all ∙ sym (append_assoc c.inner (c.right ∷ []) c.rest)),
    )

-- with what came before at a position of an option list, the tokens go on as the grammar wants
abbrev pub Keys : (List Lexeme → Type 0) → List Lexeme → Type 0
Keys More xs = SomeThings RightBracket IsSetting More xs

abbrev pub ListCompletes : (List Lexeme → Type 0) → ListPosition Lexeme → List Lexeme → Type 0
ListCompletes More FirstKey xs = Things RightBracket IsSetting More xs
ListCompletes More NextKey xs = Keys More xs
ListCompletes More (AfterKey key) xs = key.kind ≡ Name → Keys More (key ∷ xs)
ListCompletes More (Value key) xs = (equals : Lexeme) → key.kind ≡ Name → equals.kind ≡ Equals → Keys More (key ∷ equals ∷ xs)
ListCompletes More AfterValue xs = (key equals v : Lexeme) → key.kind ≡ Name → equals.kind ≡ Equals → (v.kind ≡ Text) ⊎ (v.kind ≡ Name) → Keys More (key ∷ equals ∷ v ∷ xs)

abbrev pub StepCompletes : (List Lexeme → Type 0) → ListStep Lexeme → List Lexeme → Type 0
StepCompletes More (On position) xs = ListCompletes More position xs
StepCompletes More Closed xs = More xs

led : (More : List Lexeme → Type 0) (to q : ListStep Lexeme) (xs : List Lexeme) → Some to ≡ Some q → StepCompletes More q xs → StepCompletes More to xs
led More to q xs e go = let same : to ≡ q = cc in subst (λ p. StepCompletes More p xs) (sym same) go

-- one token of an option list and what completes the position after it
pub list_token : (More : List Lexeme → Type 0) (p : ListPosition Lexeme) (x : Lexeme) (xs : List Lexeme) (k : Kind) (q : ListStep Lexeme) → x.kind ≡ k
    → list_leads_by p k x ≡ Some q → StepCompletes More q xs → ListCompletes More p (x ∷ xs)
list_token More FirstKey x xs Name q kind lead go = some_things RightBracket IsSetting More (x ∷ xs) (led More (On (AfterKey x)) q xs lead go kind)
list_token More FirstKey x xs RightBracket q kind lead go = no_things RightBracket IsSetting More x xs kind (led More Closed q xs lead go)
list_token More NextKey x xs Name q kind lead go = led More (On (AfterKey x)) q xs lead go kind
list_token More (AfterKey key) x xs Equals q kind lead go = λ key_kind. led More (On (Value key)) q xs lead go x key_kind kind
list_token More (AfterKey key) x xs Comma q kind lead go = λ key_kind.
    comma_more RightBracket IsSetting More (Alone key) (key ∷ []) x xs (key_kind, refl) kind (led More (On NextKey) q xs lead go)
list_token More (AfterKey key) x xs RightBracket q kind lead go = λ key_kind.
    close_more RightBracket IsSetting More (Alone key) (key ∷ []) x xs (key_kind, refl) kind (led More Closed q xs lead go)
list_token More (Value key) x xs Text q kind lead go = λ equals key_kind equals_kind. led More (On AfterValue) q xs lead go key equals x key_kind equals_kind (inl kind)
list_token More (Value key) x xs Name q kind lead go = λ equals key_kind equals_kind. led More (On AfterValue) q xs lead go key equals x key_kind equals_kind (inr kind)
list_token More AfterValue x xs Comma q kind lead go = λ key equals v key_kind equals_kind v_kind.
    comma_more RightBracket IsSetting More (Valued key v) (key ∷ equals ∷ v ∷ []) x xs (key_kind, v_kind, (equals, equals_kind, refl)) kind (led More (On NextKey) q xs lead go)
list_token More AfterValue x xs RightBracket q kind lead go = λ key equals v key_kind equals_kind v_kind.
    close_more RightBracket IsSetting More (Valued key v) (key ∷ equals ∷ v ∷ []) x xs (key_kind, v_kind, (equals, equals_kind, refl)) kind (led More Closed q xs lead go)
list_token More p x xs k q kind lead go = absurd cc

-- the same in a grammar with such lists
pub list_token_in : {P : Type 0} (inside : ListPosition Lexeme → P) (after : P) (Completes : P → List Lexeme → Type 0) (More : List Lexeme → Type 0)
    → ((position : ListPosition Lexeme) (xs : List Lexeme) → Completes (inside position) xs → ListCompletes More position xs) → ((xs : List Lexeme) → Completes after xs → More xs)
    → (p : ListPosition Lexeme) (x : Lexeme) (xs : List Lexeme) (k : Kind) (q : P) → x.kind ≡ k
    → option_map (list_to inside after) (list_leads_by p k x) ≡ Some q → Completes q xs → ListCompletes More p (x ∷ xs)
list_token_in {P} inside after Completes More within beyond p x xs k q kind lead go = by (list_leads_by p k x) refl lead
  where
    to_step : (s : ListStep Lexeme) → Completes (list_to inside after s) xs → StepCompletes More s xs
    to_step (On position) h = within position xs h
    to_step Closed h = beyond xs h

    by : (o : Option (ListStep Lexeme)) → list_leads_by p k x ≡ o → option_map (list_to inside after) o ≡ Some q → ListCompletes More p (x ∷ xs)
    by None e lead = absurd cc
    by (Some s) e lead =
        let same : list_to inside after s ≡ q = cc in
        list_token More p x xs k s kind e (to_step s (subst (λ p. Completes p xs) (sym same) go))

-- an option list or none, and then what follows it
abbrev pub After : (List Lexeme → Type 0) → List Lexeme → Type 0
After More xs = (settings : List (Setting Lexeme)) × (options : List Lexeme) × (rest : List Lexeme) × IsOptionally settings options × More rest × (xs ≡ options ++ rest)

pub after_of_more : (More : List Lexeme → Type 0) (xs : List Lexeme) → More xs → After More xs
after_of_more More xs more = ([], [], xs, inr (refl, refl), more, refl)

pub after_of_list : (More : List Lexeme → Type 0) (left : Lexeme) (xs : List Lexeme) → left.kind ≡ LeftBracket → Things RightBracket IsSetting More xs → After More (left ∷ xs)
after_of_list More left xs kind things =
    let list = enclosed LeftBracket RightBracket IsSetting More left xs kind things in
    (list.0, list.1, list.2, inl list.3, list.4, list.5)

-- an entry more
pub entry_more : (More : List Lexeme → Type 0) (name : Lexeme) (xs : List Lexeme) → name.kind ≡ Name → After (Tail IsEntry More) xs → Tail IsEntry More (name ∷ xs)
entry_more More name xs kind a =
    let entry : Entry = record { name = name; settings = a.0 } in
    tail_more IsEntry More entry (name ∷ a.1) a.2 (name ∷ xs) (kind, (a.1, a.3, refl)) (ap (λ l. name ∷ l) a.5) a.4

-- items, to the end
abbrev pub Items : {I : Type 0} → (I → List Lexeme → Type 0) → List Lexeme → Type 0
Items {I} IsItem xs = (items : List I) × AreEach IsItem items xs

-- an item of two tokens more
pub pair_items : {I : Type 0} (IsItem : I → List Lexeme → Type 0) (item : I) (word x : Lexeme) (xs : List Lexeme) → IsItem item (word ∷ x ∷ [])
    → Items IsItem xs → Items IsItem (word ∷ x ∷ xs)
pair_items IsItem item word x xs is items = (item ∷ items.0, (word ∷ x ∷ [], xs, is, items.1, refl))

-- a section more: its word, and things of one sort
pub section_items : {X I : Type 0} (Is : X → List Lexeme → Type 0) (IsItem : I → List Lexeme → Type 0) (section : List X → I) (word : Lexeme) (xs : List Lexeme)
    → ((things : List X) (rest : List Lexeme) → AreEach Is things rest → IsItem (section things) (word ∷ rest)) → Tail Is (Items IsItem) xs → Items IsItem (word ∷ xs)
section_items Is IsItem section word xs is tail =
    (section tail.2.0 ∷ tail.3.0, (word ∷ tail.0, tail.1, is tail.2.0 tail.0 tail.2.1, tail.3.1, ap (λ l. word ∷ l) tail.4))

-- texts of words
pub same_bytes : (a b : List ℕ) → bytes_eq a b ≡ true → a ≡ b
same_bytes a b e = (bytes_eq-Decides a b).0 e

pub other_bytes : (a b : List ℕ) → bytes_eq a b ≡ false → a ≢ b
other_bytes a b e same = both_ways (bytes_eq a b) e ((bytes_eq-Decides a b).1 same)
