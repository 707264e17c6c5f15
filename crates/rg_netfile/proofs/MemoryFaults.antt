-- No text has want of memory as its first fault.
use Rattle.std.proofs.Common.{◌≡◌, ℕ, ◌+◌, Bool, true, false, cond, not, nat_le, nat_lt, List, [], ◌∷◌, ◌++◌, length, Option, None, Some, refl, sym, ap, subst, ◌∙◌}
use Rattle.std.specs.List.{list_any}
use Rattle.std.specs.Str.{bytes_eq}
use Rattle.rg_text.specs.Faults.{faults_after, if_not, IsFirst}
use Rattle.rg_theory.specs.System.{System}
use Rattle.rg_integers.specs.Range.{greatest}
use Rattle.rg_lexer.specs.declared.token.Kind.{Kind}
use Rattle.rg_lexer.specs.declared.token.Kind.TheVariants.{Name, Star}
use Rattle.rg_lexer.specs.declared.token.LexFault.{LexFault}
use Rattle.rg_lexer.specs.declared.token.LexFault.TheVariants as lex
use Rattle.rg_lexer.specs.Tokens.{FirstLexFault}
use Rattle.rg_lexer.specs.Lexeme.{Lexeme}
use Rattle.rg_grammar.specs.declared.fault.ItemFault.{ItemFault}
use Rattle.rg_grammar.specs.declared.fault.ItemFault.TheVariants as item
use Rattle.rg_grammar.specs.Text.{of_lexer, in_tokens, in_grammar}
use Rattle.rg_grammar.specs.Grammar.{IsRefused}
use Rattle.rg_net_grammar.specs.declared.position.Position.{Position}
use Rattle.rg_net_grammar.specs.declared.position.Position.TheVariants.{Start, TypeName, PassedText, InSection, AfterEntry, InList, InFlows, AfterFlowName, BeforeSet, InSet, AfterPre}
use Rattle.rg_net_grammar.specs.Table.{refusal_by}
use Rattle.rg_net_grammar.specs.declared.set_position.SetPosition.TheVariants.{FirstMember, NextMember, AfterName, AfterStar, AfterMember}
use Rattle.rg_net_grammar.specs.Reading.{net_grammar}
use Rattle.rg_net_grammar.specs.Text.{FirstItemFault}
use Rattle.rg_net_grammar.specs.declared.found.Transition.{Transition}
use Rattle.rg_net_grammar.specs.Contents.{Declared, declared}
use Rattle.rg_netfile.specs.declared.fault.NetFault.{NetFault}
use Rattle.rg_netfile.specs.declared.fault.NetFault.TheVariants.{NoType, TwicePlace, TooManyPlaces, TwiceTransition, TransitionsDiffer, UnknownTransition, UnknownPlace, NumberPasses, NoMemory}
use Rattle.rg_netfile.specs.Contents.{Step, flow_of, adds, is_among, count_of, member_at, total, most_places, place_names, transition_names, steps}
use Rattle.rg_netfile.specs.Contents.{place_fault, transition_fault, have_each_once, step_fault, faults}
use Rattle.rg_netfile.specs.Spells.{FirstFault, of_items, in_items, in_net}

-- tokens
no_lex_fault : (bytes : List ℕ) (e : LexFault) → FirstLexFault bytes e → of_lexer e ≡ item.NoMemory → ⊥
no_lex_fault bytes (lex.BadByte at) first e = absurd cc
no_lex_fault bytes (lex.OpenString at) first e = absurd cc
no_lex_fault bytes (lex.OpenComment at) first e = absurd cc
no_lex_fault bytes (lex.LongName at) first e = absurd cc
no_lex_fault bytes lex.NoMemory (pieces, rest, begins, is) e = is

-- the grammar
no_refusal : (position : Position Lexeme) (kind : Kind) (at : ℕ) → refusal_by position kind at ≡ item.NoMemory → ⊥
no_refusal Start kind at e = absurd cc
no_refusal TypeName Name at e = absurd cc
no_refusal TypeName _ at e = absurd cc
no_refusal PassedText kind at e = absurd cc
no_refusal (InSection s) kind at e = absurd cc
no_refusal (AfterEntry s) kind at e = absurd cc
no_refusal (InList s p) kind at e = absurd cc
no_refusal InFlows kind at e = absurd cc
no_refusal AfterFlowName kind at e = absurd cc
no_refusal (BeforeSet side) kind at e = absurd cc
no_refusal (InSet side FirstMember) kind at e = absurd cc
no_refusal (InSet side NextMember) kind at e = absurd cc
no_refusal (InSet side (AfterName name)) Star at e = absurd cc
no_refusal (InSet side (AfterName name)) _ at e = absurd cc
no_refusal (InSet side (AfterStar number)) kind at e = absurd cc
no_refusal (InSet side AfterMember) kind at e = absurd cc
no_refusal AfterPre kind at e = absurd cc

not_refused : (position : Position Lexeme) (rest : List Lexeme) (end : ℕ) (fault : ItemFault) → IsRefused net_grammar position rest end fault → fault ≡ item.NoMemory → ⊥
not_refused position [] end fault (ends, is) e = let same = sym is ∙ e in absurd cc
not_refused position (x ∷ rest) end fault (leads, is) e = no_refusal position x.kind x.at (sym is ∙ e)

no_item_fault : (bytes : List ℕ) (fault : ItemFault) → FirstItemFault bytes fault → fault ≡ item.NoMemory → ⊥
no_item_fault bytes fault (in_tokens e first) is = no_lex_fault bytes e first is
no_item_fault bytes fault (in_grammar xs f lexemes (front, rest, position, parts, leads, refused)) is = not_refused position rest (length bytes) f refused is

of_item_memory : (e : ItemFault) → of_items e ≡ NoMemory → e ≡ item.NoMemory
of_item_memory (item.BadByte at) e = absurd cc
of_item_memory (item.OpenString at) e = absurd cc
of_item_memory (item.OpenComment at) e = absurd cc
of_item_memory (item.LongName at) e = absurd cc
of_item_memory (item.Expected at want) e = absurd cc
of_item_memory (item.WrongType at) e = absurd cc
of_item_memory item.NoMemory e = refl

-- none of a list of faults is that of memory
abbrev HasNone : List (Option NetFault) → Type 0
HasNone fs = IsFirst fs NoMemory → ⊥

both : (xs ys : List (Option NetFault)) → HasNone xs → HasNone ys → HasNone (xs ++ ys)
both [] ys a b is = b is
both (None ∷ xs) ys a b is = both xs ys a b is
both (Some f ∷ xs) ys a b is = a is

if_not_other : (test : Bool) (f : NetFault) → (f ≡ NoMemory → ⊥) → HasNone (if_not test f)
if_not_other true f other is = is
if_not_other false f other is = other (sym is)

each_other : {X : Type 0} (fault : List X → X → Option NetFault) → ((before : List X) (x : X) → fault before x ≡ Some NoMemory → ⊥)
    → (before xs : List X) → HasNone (faults_after fault before xs)
each_other fault other before [] is = is
each_other {X} fault other before (x ∷ xs) is = by (fault before x) refl is (each_other fault other (before ++ x ∷ []) xs)
  where
    by : (o : Option NetFault) → fault before x ≡ o → IsFirst (o ∷ faults_after fault (before ++ x ∷ []) xs) NoMemory → HasNone (faults_after fault (before ++ x ∷ []) xs) → ⊥
    by None e is more = more is
    by (Some f) e is more = other before x (e ∙ ap Some (sym is))

place_other : (before : List Lexeme) (x : Lexeme) → place_fault before x ≡ Some NoMemory → ⊥
place_other before x e = by (list_any (λ (b : Lexeme). bytes_eq x.text b.text) before) (nat_le most_places (length before)) e
  where
    by : (p q : Bool) → cond p (Some (TwicePlace x.at)) (cond q (Some (TooManyPlaces x.at)) None) ≡ Some NoMemory → ⊥
    by true q e = absurd cc
    by false true e = absurd cc
    by false false e = absurd cc

transition_other : (before : List (Transition Lexeme)) (t : Transition Lexeme) → transition_fault before t ≡ Some NoMemory → ⊥
transition_other before t e = by (list_any (λ (b : Transition Lexeme). bytes_eq t.name.text b.name.text) before) e
  where
    by : (p : Bool) → cond p (Some (TwiceTransition t.name.at)) None ≡ Some NoMemory → ⊥
    by true e = absurd cc
    by false e = absurd cc

step_other : (places transitions : List (List ℕ)) (before : List Step) (step : Step) → step_fault places transitions before step ≡ Some NoMemory → ⊥
step_other places transitions before (flow_of name) e = by (is_among transitions name.text) e
  where
    by : (p : Bool) → cond p None (Some (UnknownTransition name.at)) ≡ Some NoMemory → ⊥
    by true e = absurd cc
    by false e = absurd cc
step_other places transitions before (adds cell m) e =
    by (nat_lt greatest (count_of m.number)) (is_among places m.place.text) (nat_lt greatest (total cell m.place.text before + count_of m.number)) e
  where
    by : (p q r : Bool) → cond p (Some (NumberPasses (member_at m))) (cond (not q) (Some (UnknownPlace m.place.at))
        (cond r (Some (NumberPasses (member_at m))) None)) ≡ Some NoMemory → ⊥
    by true q r e = absurd cc
    by false false r e = absurd cc
    by false true true e = absurd cc
    by false true false e = absurd cc

none_of : (lts : System) (d : Declared) → HasNone (faults lts d)
none_of lts d =
    let a = if_not d.typed NoType in
    let b = faults_after place_fault [] d.places in
    let c = faults_after transition_fault [] d.transitions in
    let e = if_not (have_each_once lts.label_names d.transitions) TransitionsDiffer in
    let f = faults_after (step_fault (place_names d) (transition_names d)) [] (steps d) in
    both (a ++ (b ++ c ++ e)) f
    (both a (b ++ c ++ e) (if_not_other d.typed NoType (λ e. absurd cc))
    (both (b ++ c) e
    (both b c (each_other place_fault place_other [] d.places) (each_other transition_fault transition_other [] d.transitions))
    (if_not_other (have_each_once lts.label_names d.transitions) TransitionsDiffer (λ e. absurd cc))))
    (each_other (step_fault (place_names d) (transition_names d)) (step_other (place_names d) (transition_names d)) [] (steps d))

no_fault : (bytes : List ℕ) (lts : System) (fault : NetFault) → FirstFault bytes lts fault → fault ≡ NoMemory → ⊥
no_fault bytes lts fault (in_items e first) is = no_item_fault bytes e first (of_item_memory e is)
no_fault bytes lts fault (in_net items f are first) is = none_of lts (declared items) (subst (IsFirst (faults lts (declared items))) is first)

pub memory_is_no_fault : (bytes : List ℕ) (lts : System) → FirstFault bytes lts NoMemory → ⊥
memory_is_no_fault bytes lts first = no_fault bytes lts NoMemory first refl
