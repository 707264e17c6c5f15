-- No text has want of memory as its first fault.
use Rattle.std.proofs.Common.{◌≡◌, ℕ, Bool, true, false, cond, not, ◌&&◌, nat_le, List, [], ◌∷◌, ◌++◌, length, Option, None, Some, refl, sym, subst, ◌∙◌}
use Rattle.std.specs.List.{list_any}
use Rattle.rg_text.specs.Faults.{faults_after, if_not, IsFirst}
use Rattle.rg_theory.specs.Limits.{most_states, most_labels, most_arcs}
use Rattle.rg_lexer.specs.declared.token.Kind.{Kind}
use Rattle.rg_lexer.specs.declared.token.Kind.TheVariants.{Name}
use Rattle.rg_lexer.specs.declared.token.LexFault.{LexFault}
use Rattle.rg_lexer.specs.declared.token.LexFault.TheVariants as lex
use Rattle.rg_lexer.specs.Tokens.{FirstLexFault}
use Rattle.rg_lexer.specs.Lexeme.{Lexeme}
use Rattle.rg_grammar.specs.declared.fault.ItemFault.{ItemFault}
use Rattle.rg_grammar.specs.declared.fault.ItemFault.TheVariants as item
use Rattle.rg_grammar.specs.Text.{FirstItemFault, of_lexer, in_tokens, in_grammar}
use Rattle.rg_grammar.specs.Grammar.{IsRefused}
use Rattle.rg_apt.specs.Table.{Position, Start, TypeName, PassedText, InSection, AfterEntry, Second, Third, InList, refusal_by}
use Rattle.rg_apt.specs.Reading.{system_grammar}
use Rattle.rg_apt.specs.declared.fault.TextFault.{TextFault}
use Rattle.rg_apt.specs.declared.fault.TextFault.TheVariants.{NoType, TwiceState, TwiceLabel, UnknownState, UnknownLabel, TwoInitial, NoInitial, TooManyStates, TooManyLabels, TooManyArcs, NoMemory}
use Rattle.rg_apt.specs.Contents.{StateEntry, ArcNames, Declared, declared, faults, state_fault, label_fault, arc_fault, is_state, is_label, same_text, same_arc, different}
use Rattle.rg_apt.specs.Spells.{FirstFault, of_items, in_items, in_system}

-- tokens
no_lex_fault : (bytes : List ℕ) (e : LexFault) → FirstLexFault bytes e → of_lexer e ≡ item.NoMemory → ⊥
no_lex_fault bytes (lex.BadByte at) first e = absurd cc
no_lex_fault bytes (lex.OpenString at) first e = absurd cc
no_lex_fault bytes (lex.OpenComment at) first e = absurd cc
no_lex_fault bytes (lex.LongName at) first e = absurd cc
no_lex_fault bytes lex.NoMemory (pieces, rest, begins, is) e = is

-- the grammar
no_refusal : (position : Position Lexeme) (kind : Kind) (at : ℕ) → refusal_by position kind at ≡ item.NoMemory → ⊥
no_refusal Start kind at e = absurd cc
no_refusal TypeName Name at e = absurd cc
no_refusal TypeName _ at e = absurd cc
no_refusal PassedText kind at e = absurd cc
no_refusal (InSection s) kind at e = absurd cc
no_refusal (AfterEntry s) kind at e = absurd cc
no_refusal (Second from) kind at e = absurd cc
no_refusal (Third from label) kind at e = absurd cc
no_refusal (InList s p) kind at e = absurd cc

not_refused : (position : Position Lexeme) (rest : List Lexeme) (end : ℕ) (fault : ItemFault) → IsRefused system_grammar position rest end fault → fault ≡ item.NoMemory → ⊥
not_refused position [] end fault (ends, is) e = let same = sym is ∙ e in absurd cc
not_refused position (x ∷ rest) end fault (leads, is) e = no_refusal position x.kind x.at (sym is ∙ e)

no_item_fault : (bytes : List ℕ) (fault : ItemFault) → FirstItemFault system_grammar bytes fault → fault ≡ item.NoMemory → ⊥
no_item_fault bytes fault (in_tokens e first) is = no_lex_fault bytes e first is
no_item_fault bytes fault (in_grammar xs f lexemes (front, rest, position, parts, leads, refused)) is = not_refused position rest (length bytes) f refused is

of_item_memory : (e : ItemFault) → of_items e ≡ NoMemory → e ≡ item.NoMemory
of_item_memory (item.BadByte at) e = absurd cc
of_item_memory (item.OpenString at) e = absurd cc
of_item_memory (item.OpenComment at) e = absurd cc
of_item_memory (item.LongName at) e = absurd cc
of_item_memory (item.Expected at want) e = absurd cc
of_item_memory (item.WrongType at) e = absurd cc
of_item_memory item.NoMemory e = refl

-- none of a list of faults is that of memory
abbrev HasNone : List (Option TextFault) → Type 0
HasNone fs = IsFirst fs NoMemory → ⊥

both : (xs ys : List (Option TextFault)) → HasNone xs → HasNone ys → HasNone (xs ++ ys)
both [] ys a b is = b is
both (None ∷ xs) ys a b is = both xs ys a b is
both (Some f ∷ xs) ys a b is = a is

if_not_other : (test : Bool) (f : TextFault) → (f ≡ NoMemory → ⊥) → HasNone (if_not test f)
if_not_other true f other is = is
if_not_other false f other is = other (sym is)

each_other : {X : Type 0} (fault : List X → X → Option TextFault) → ((before : List X) (x : X) → fault before x ≡ Some NoMemory → ⊥)
    → (before xs : List X) → HasNone (faults_after fault before xs)
each_other fault other before [] is = is
each_other {X} fault other before (x ∷ xs) is = by (fault before x) refl is (each_other fault other (before ++ x ∷ []) xs)
  where
    by : (o : Option TextFault) → fault before x ≡ o → IsFirst (o ∷ faults_after fault (before ++ x ∷ []) xs) NoMemory → HasNone (faults_after fault (before ++ x ∷ []) xs) → ⊥
    by None e is more = more is
    by (Some f) e is more = let same : fault before x ≡ Some NoMemory = rw is e in other before x same

state_other : (before : List (StateEntry Lexeme)) (x : StateEntry Lexeme) → state_fault before x ≡ Some NoMemory → ⊥
state_other before x e =
    by (list_any (λ (b : StateEntry Lexeme). same_text x.name b.name) before) (nat_le most_states (length before)) (x.initial && list_any (λ (b : StateEntry Lexeme). b.initial) before) e
  where
    by : (p q r : Bool) → cond p (Some (TwiceState x.name.at)) (cond q (Some (TooManyStates x.name.at)) (cond r (Some (TwoInitial x.name.at)) None)) ≡ Some NoMemory → ⊥
    by true q r e = absurd cc
    by false true r e = absurd cc
    by false false true e = absurd cc
    by false false false e = absurd cc

label_other : (before : List Lexeme) (x : Lexeme) → label_fault before x ≡ Some NoMemory → ⊥
label_other before x e = by (list_any (same_text x) before) (nat_le most_labels (length before)) e
  where
    by : (p q : Bool) → cond p (Some (TwiceLabel x.at)) (cond q (Some (TooManyLabels x.at)) None) ≡ Some NoMemory → ⊥
    by true q e = absurd cc
    by false true e = absurd cc
    by false false e = absurd cc

arc_other : (d : Declared) (before : List (ArcNames Lexeme)) (x : ArcNames Lexeme) → arc_fault d before x ≡ Some NoMemory → ⊥
arc_other d before x e = by (is_state d x.from) (is_label d x.label) (is_state d x.to) (nat_le most_arcs (different before) && not (list_any (same_arc x) before)) e
  where
    by : (p q r s : Bool) → cond (not p) (Some (UnknownState x.from.at)) (cond (not q) (Some (UnknownLabel x.label.at)) (cond (not r) (Some (UnknownState x.to.at))
        (cond s (Some (TooManyArcs x.from.at)) None))) ≡ Some NoMemory → ⊥
    by false q r s e = absurd cc
    by true false r s e = absurd cc
    by true true false s e = absurd cc
    by true true true true e = absurd cc
    by true true true false e = absurd cc

none_of : (d : Declared) → HasNone (faults d)
none_of d =
    let a = if_not d.typed NoType in
    let b = faults_after state_fault [] d.states in
    let c = faults_after label_fault [] d.labels in
    let e = faults_after (arc_fault d) [] d.arcs in
    let f = if_not (list_any (λ (e : StateEntry Lexeme). e.initial) d.states) NoInitial in
    both (a ++ b ++ c ++ e) f
    (both (a ++ b ++ c) e
    (both (a ++ b) c
    (both a b (if_not_other d.typed NoType (λ e. absurd cc)) (each_other state_fault state_other [] d.states))
    (each_other label_fault label_other [] d.labels))
    (each_other (arc_fault d) (arc_other d) [] d.arcs))
    (if_not_other (list_any (λ (e : StateEntry Lexeme). e.initial) d.states) NoInitial (λ e. absurd cc))

no_fault : (bytes : List ℕ) (fault : TextFault) → FirstFault bytes fault → fault ≡ NoMemory → ⊥
no_fault bytes fault (in_items e first) is = no_item_fault bytes e first (of_item_memory e is)
no_fault bytes fault (in_system xs items f lexemes are first) is = none_of (declared items) (subst (IsFirst (faults (declared items))) is first)

pub memory_is_no_fault : (bytes : List ℕ) → FirstFault bytes NoMemory → ⊥
memory_is_no_fault bytes first = no_fault bytes NoMemory first refl
