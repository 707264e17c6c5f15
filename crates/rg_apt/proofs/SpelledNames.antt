-- The states and labels that the items of a text declare have names.
use Rattle.std.proofs.Common.{◌≡◌, ℕ, List, [], ◌∷◌, ◌++◌, map, All, sym, subst}
use Rattle.std.specs.List.{AllByRecursion, flat_map}
use Rattle.std.proofs.lemmas.List.Elements.{recursion_from_All, All-from_recursion}
use Rattle.rg_text.specs.Byte.{IsName}
use Rattle.rg_lexer.specs.declared.token.Kind.{Kind}
use Rattle.rg_lexer.specs.declared.token.Kind.TheVariants.{Name}
use Rattle.rg_lexer.specs.declared.token.Token.{Token}
use Rattle.rg_lexer.specs.Piece.{IsToken}
use Rattle.rg_lexer.specs.Tokens.{IsTokenOf}
use Rattle.rg_lexer.specs.Lexeme.{Lexeme, lexeme, AreLexemes}
use Rattle.rg_lexer.proofs.TokenSpans.{tokens_are_of}
use Rattle.rg_grammar.specs.Entry.{Entry, IsEntry, AreEach}
use Rattle.rg_apt.specs.Item.{Item, type, states, labels, arcs, other, IsItem, AreItems}
use Rattle.rg_apt.specs.Contents.{StateEntry, states_in, labels_in, declared}
use Rattle.rg_apt.specs.Built.{state_text, label_text}

-- the bytes of the token are of its kind
abbrev IsOfKind : Lexeme → Type 0
IsOfKind x = IsToken x.kind x.text

abbrev AreOfKinds : List Lexeme → Type 0
AreOfKinds xs = AllByRecursion IsOfKind xs

of_tokens : (bytes : List ℕ) (tokens : List Token) → AllByRecursion (IsTokenOf bytes) tokens → AreOfKinds (map (lexeme bytes) tokens)
of_tokens bytes [] all = tt
of_tokens bytes (t ∷ tokens) all = (all.0.is, of_tokens bytes tokens all.1)

of_lexemes : (bytes : List ℕ) (xs : List Lexeme) → AreLexemes bytes xs → AreOfKinds xs
of_lexemes bytes xs (tokens, are, e) =
    subst AreOfKinds (sym e) (of_tokens bytes tokens (recursion_from_All (IsTokenOf bytes) tokens (tokens_are_of bytes tokens are)))

both_parts : (xs ys : List Lexeme) → AreOfKinds (xs ++ ys) → AreOfKinds xs × AreOfKinds ys
both_parts [] ys all = (tt, all)
both_parts (x ∷ xs) ys all = let parts = both_parts xs ys all.1 in ((all.0, parts.0), parts.1)

name_of_kind : (x : Lexeme) → x.kind ≡ Name → IsOfKind x → IsName x.text
name_of_kind x is of = subst (λ (k : Kind). IsToken k x.text) is of

-- lists
each_joined : {X Y : Type 0} (P : Y → Type 0) (f : X → List Y) (xs : List X) → AllByRecursion (λ x. AllByRecursion P (f x)) xs → AllByRecursion P (flat_map f xs)
each_joined P f [] all = tt
each_joined {Y = Y} P f (x ∷ xs) all = append (f x) (flat_map f xs) all.0 (each_joined P f xs all.1)
  where
    append : (ys zs : List Y) → AllByRecursion P ys → AllByRecursion P zs → AllByRecursion P (ys ++ zs)
    append [] zs a b = b
    append (y ∷ ys) zs a b = (a.0, append ys zs a.1 b)

each_mapped : {X Y : Type 0} (P : Y → Type 0) (f : X → Y) (xs : List X) → AllByRecursion (λ x. P (f x)) xs → AllByRecursion P (map f xs)
each_mapped P f [] all = tt
each_mapped P f (x ∷ xs) all = (all.0, each_mapped P f xs all.1)

-- things one after the other, each of which has a fact by its tokens
each_of : {X : Type 0} (Is : X → List Lexeme → Type 0) (P : X → Type 0) → ((x : X) (xs : List Lexeme) → Is x xs → AreOfKinds xs → P x)
    → (things : List X) (xs : List Lexeme) → AreEach Is things xs → AreOfKinds xs → AllByRecursion P things
each_of Is P fine [] xs are of = tt
each_of Is P fine (x ∷ more) xs (front, rest, is, others, e) of =
    let parts = both_parts front rest (subst AreOfKinds e of) in
    (fine x front is parts.0, each_of Is P fine more rest others parts.1)

entry_named : (e : Entry) (xs : List Lexeme) → IsEntry e xs → AreOfKinds xs → IsName e.name.text
entry_named e xs (is, (options, settings, same)) of = name_of_kind e.name is (subst AreOfKinds same of).0

entries_named : (entries : List Entry) (xs : List Lexeme) → AreEach IsEntry entries xs → AreOfKinds xs → AllByRecursion (λ (e : Entry). IsName e.name.text) entries
entries_named entries xs are of = each_of IsEntry (λ (e : Entry). IsName e.name.text) entry_named entries xs are of

abbrev IsStateNamed : StateEntry Lexeme → Type 0
IsStateNamed e = IsName (state_text e)

abbrev IsLabelNamed : Lexeme → Type 0
IsLabelNamed x = IsName (label_text x)

states_named : (item : Item) (xs : List Lexeme) → IsItem item xs → AreOfKinds xs → AllByRecursion IsStateNamed (states_in item)
states_named (type name) xs is of = tt
states_named (states entries) xs (word, rest, named, are, e) of = each_mapped IsStateNamed _ entries (entries_named entries rest are (subst AreOfKinds e of).1)
states_named (labels entries) xs is of = tt
states_named (arcs triples) xs is of = tt
states_named other xs is of = tt

labels_named : (item : Item) (xs : List Lexeme) → IsItem item xs → AreOfKinds xs → AllByRecursion IsLabelNamed (labels_in item)
labels_named (type name) xs is of = tt
labels_named (states entries) xs is of = tt
labels_named (labels entries) xs (word, rest, named, are, e) of = each_mapped IsLabelNamed _ entries (entries_named entries rest are (subst AreOfKinds e of).1)
labels_named (arcs triples) xs is of = tt
labels_named other xs is of = tt

pub states_are_named : (bytes : List ℕ) (xs : List Lexeme) (items : List Item) → AreLexemes bytes xs → AreItems items xs
    → All IsName (map state_text (declared items).states)
states_are_named bytes xs items lexemes are =
    All-from_recursion IsName (map state_text (declared items).states)
    (each_mapped IsName state_text (declared items).states
    (each_joined IsStateNamed states_in items
    (each_of IsItem (λ item. AllByRecursion IsStateNamed (states_in item)) states_named items xs are (of_lexemes bytes xs lexemes))))

pub labels_are_named : (bytes : List ℕ) (xs : List Lexeme) (items : List Item) → AreLexemes bytes xs → AreItems items xs
    → All IsName (map label_text (declared items).labels)
labels_are_named bytes xs items lexemes are =
    All-from_recursion IsName (map label_text (declared items).labels)
    (each_mapped IsName label_text (declared items).labels
    (each_joined IsLabelNamed labels_in items
    (each_of IsItem (λ item. AllByRecursion IsLabelNamed (labels_in item)) labels_named items xs are (of_lexemes bytes xs lexemes))))
