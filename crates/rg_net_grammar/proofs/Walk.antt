-- Entries, sets and flows lead through the table, and what is found on the way is what they declare.
use Rattle.std.proofs.Common.{◌≡◌, Bool, true, false, cond, List, [], ◌∷◌, ◌++◌, map, Option, None, Some, refl, sym, ap, subst, ◌∙◌, append_assoc, append-nil}
use Rattle.std.specs.List.{AllPass}
use Rattle.std.specs.Char.{is_ascii_digit}
use Rattle.std.specs.Option.{option_or}
use Rattle.std.proofs.lemmas.List.Sums.{list_all-from_AllPass}
use Rattle.rg_lexer.specs.Lexeme.{Lexeme}
use Rattle.rg_lexer.specs.declared.token.Kind.{Kind}
use Rattle.rg_lexer.specs.declared.token.Kind.TheVariants.{Name, LeftBracket, LeftBrace, RightBrace, Comma, Colon, Star, Arrow}
use Rattle.rg_grammar.specs.declared.list_position.Setting.{Setting}
use Rattle.rg_grammar.specs.Entry.{Entry, IsEntry, AreEach}
use Rattle.rg_grammar.specs.declared.list_position.ListPosition.TheVariants.{FirstKey}
use Rattle.rg_grammar.proofs.Last.{change_push}
use Rattle.rg_grammar.proofs.Moves.{moves_both, moves_same, step, take_all, each_move, thing_position, Encloses, enclosed_move}
use Rattle.rg_grammar.proofs.Moves as moves
use Rattle.rg_grammar.proofs.Lists.{HasLists, free_of, optional_move}
use Rattle.rg_grammar.specs.declared.fault.ItemFault.{ItemFault}
use Rattle.rg_net_grammar.specs.Item.{Member, Flow, IsMember, IsSet, IsFlow}
use Rattle.rg_net_grammar.specs.Contents.{Transition, Declared, label_in, first_label}
use Rattle.rg_net_grammar.specs.Table.{Section, Places, Transitions, Side, Pre, Post, Marking, FirstMember, NextMember, AfterName, AfterStar, AfterMember, Position, InSection, AfterEntry, InList, InFlows, AfterFlowName, BeforeSet, InSet, AfterPre, after_set, leads_by}
use Rattle.rg_net_grammar.specs.Reading.{with_value, with_setting, with_name, with_pre, with_post, with_member, adds_by, net_grammar}

-- from a position the tokens lead to another, whatever follows them
abbrev pub Moves : Position Lexeme → Declared → List Lexeme → Position Lexeme → Declared → Type 0
Moves p d xs q e = moves.Moves net_grammar p d xs q e

-- one token
pub kind_step : (p q : Position Lexeme) (d e : Declared) (x : Lexeme) (kind : Kind) → x.kind ≡ kind → leads_by p kind x ≡ Some q → adds_by p kind x d ≡ e → Moves p d (x ∷ []) q e
kind_step p q d e x kind same lead add = step net_grammar p q d e x (ap (λ k. leads_by p k x) same ∙ lead) (ap (λ k. adds_by p k x d) same ∙ add)

both : (p q r : Position Lexeme) (d e f : Declared) (xs ys : List Lexeme) → Moves p d xs q e → Moves q e ys r f → Moves p d (xs ++ ys) r f
both p q r d e f xs ys one two = moves_both net_grammar p q r d e f xs ys one two

lists : (s : Section) → HasLists (Position Lexeme) Declared ItemFault net_grammar (InList s) (AfterEntry s) (InSection s) (with_setting s)
lists s = record {
  opens = λ d x bracket. kind_step (AfterEntry s) (InList s FirstKey) d d x LeftBracket bracket refl refl;
  leads = λ position x. refl;
  adds = λ position x d. refl;
}

-- where an entry or a word may stand
abbrev pub free : Section → Bool → Position Lexeme
free s b = free_of (AfterEntry s) (InSection s) b

-- the tokens lead to such a position
abbrev pub MovesFree : Position Lexeme → Declared → List Lexeme → Section → Declared → Type 0
MovesFree p d xs s e = (b : Bool) × Moves p d xs (free s b) e

name_moves : (b : Bool) (s : Section) (d : Declared) (x : Lexeme) → x.kind ≡ Name → Moves (free s b) d (x ∷ []) (AfterEntry s) (with_name s x d)
name_moves true s d x name = kind_step (InSection s) (AfterEntry s) d (with_name s x d) x Name name refl refl
name_moves false s d x name = kind_step (AfterEntry s) (AfterEntry s) d (with_name s x d) x Name name refl refl

-- an entry with its options
abbrev pub with_entry : Section → Entry → Declared → Declared
with_entry s e d = take_all (with_setting s) e.settings (with_name s e.name d)

entry_moves : (s : Section) (b : Bool) (d : Declared) (e : Entry) (xs : List Lexeme) → IsEntry e xs → MovesFree (free s b) d xs s (with_entry s e d)
entry_moves s b d e xs is =
    let d' = with_name s e.name d in
    let more = optional_move net_grammar (InList s) (AfterEntry s) (InSection s) (with_setting s) (lists s) d' e.settings is.1.0 is.1.1 in (
      more.0,
      subst (λ l. Moves (free s b) d l (free s more.0) (with_entry s e d)) (sym is.1.2)
          (both (free s b) (AfterEntry s) (free s more.0) d d' (with_entry s e d) (e.name ∷ []) is.1.0 (name_moves b s d e.name is.0) more.1),
    )

entries_move : (s : Section) (d : Declared) (es : List Entry) (xs : List Lexeme) → AreEach IsEntry es xs → MovesFree (InSection s) d xs s (take_all (with_entry s) es d)
entries_move s d es xs is = each_move net_grammar (free s) IsEntry (with_entry s) (entry_moves s) true d es xs is

-- places: their options are passed over
no_settings : (settings : List (Setting Lexeme)) (d : Declared) → take_all (with_setting Places) settings d ≡ d
no_settings [] d = refl
no_settings (setting ∷ more) d = no_settings more d

abbrev pub name_of : Entry → Lexeme
name_of e = e.name

all_places : (es : List Entry) (d : Declared) → take_all (with_entry Places) es d ≡ record d { places = d.places ++ map name_of es }
all_places [] d = ap (λ l. record d { places = l }) (sym (append-nil d.places))
all_places (e ∷ es) d =
    ap (take_all (with_entry Places) es) (no_settings e.settings (with_name Places e.name d))
    ∙ all_places es (with_name Places e.name d) ∙ ap (λ l. record d { places = l }) (append_assoc d.places (e.name ∷ []) (map name_of es))

pub places_move : (d : Declared) (es : List Entry) (xs : List Lexeme) → AreEach IsEntry es xs → MovesFree (InSection Places) d xs Places (record d { places = d.places ++ map name_of es })
places_move d es xs is =
    let to = entries_move Places d es xs is in
    (to.0, moves_same net_grammar (InSection Places) (free Places to.0) d (take_all (with_entry Places) es d) (record d { places = d.places ++ map name_of es }) xs (all_places es d) to.1)

-- transitions: the first value of a label stays
abbrev with_transition : Transition Lexeme → Declared → Declared
with_transition t d = record d { transitions = d.transitions ++ t ∷ [] }

or_more : (a b c : Option Lexeme) → option_or (option_or a b) c ≡ option_or a (option_or b c)
or_more None b c = refl
or_more (Some x) b c = refl

or_none : (a : Option Lexeme) → a ≡ option_or a None
or_none None = refl
or_none (Some x) = refl

all_values : (settings : List (Setting Lexeme)) (name : Lexeme) (value : Option Lexeme) (d : Declared)
    → take_all (with_setting Transitions) settings (with_transition (record { name = name; label = value }) d)
    ≡ with_transition (record { name = name; label = option_or value (first_label settings) }) d
all_values [] name value d = ap (λ o. with_transition (record { name = name; label = o }) d) (or_none value)
all_values (setting ∷ more) name value d =
    let t : Transition Lexeme = record { name = name; label = value } in
    ap (λ l. take_all (with_setting Transitions) more (record d { transitions = l })) (change_push (with_value setting) d.transitions t)
    ∙ all_values more name (option_or value (label_in setting)) d
    ∙ ap (λ o. with_transition (record { name = name; label = o }) d) (or_more value (label_in setting) (first_label more))

abbrev pub transition_of : Entry → Transition Lexeme
transition_of e = record { name = e.name; label = first_label e.settings }

all_transitions : (es : List Entry) (d : Declared) → take_all (with_entry Transitions) es d ≡ record d { transitions = d.transitions ++ map transition_of es }
all_transitions [] d = ap (λ l. record d { transitions = l }) (sym (append-nil d.transitions))
all_transitions (e ∷ es) d =
    ap (take_all (with_entry Transitions) es) (all_values e.settings e.name None d)
    ∙ all_transitions es (with_transition (transition_of e) d) ∙ ap (λ l. record d { transitions = l }) (append_assoc d.transitions (transition_of e ∷ []) (map transition_of es))

pub transitions_move : (d : Declared) (es : List Entry) (xs : List Lexeme) → AreEach IsEntry es xs
    → MovesFree (InSection Transitions) d xs Transitions (record d { transitions = d.transitions ++ map transition_of es })
transitions_move d es xs is =
    let to = entries_move Transitions d es xs is in (
      to.0,
      moves_same net_grammar (InSection Transitions) (free Transitions to.0) d (take_all (with_entry Transitions) es d)
          (record d { transitions = d.transitions ++ map transition_of es }) xs (all_transitions es d) to.1,
    )

-- where a member may stand
abbrev member_position : Bool → Side → Position Lexeme
member_position b side = thing_position b (InSet side FirstMember) (InSet side NextMember)

first_name : (b : Bool) (side : Side) (d : Declared) (x : Lexeme) → x.kind ≡ Name → Moves (member_position b side) d (x ∷ []) (InSet side (AfterName x)) d
first_name true side d x name = kind_step (InSet side FirstMember) (InSet side (AfterName x)) d d x Name name refl refl
first_name false side d x name = kind_step (InSet side NextMember) (InSet side (AfterName x)) d d x Name name refl refl

star_step : (side : Side) (d : Declared) (number star : Lexeme) → AllPass is_ascii_digit number.text → star.kind ≡ Star
    → Moves (InSet side (AfterName number)) d (star ∷ []) (InSet side (AfterStar number)) d
star_step side d number star digits kind =
    kind_step (InSet side (AfterName number)) (InSet side (AfterStar number)) d d star Star kind
    (ap (λ b. cond b (Some (InSet side (AfterStar number))) None) (list_all-from_AllPass is_ascii_digit number.text digits)) refl

-- a member, and the token that ends it
member_moves : (b : Bool) (side : Side) (d : Declared) (q : Position Lexeme) (number : Option Lexeme) (place : Lexeme) (xs : List Lexeme) (x : Lexeme)
    → IsMember (record { number = number; place = place }) xs
    → Moves (InSet side (AfterName place)) d (x ∷ []) q (with_member side (record { number = None; place = place }) d)
    → ((e : Declared) → Moves (InSet side AfterMember) e (x ∷ []) q e)
    → Moves (member_position b side) d (xs ++ x ∷ []) q (with_member side (record { number = number; place = place }) d)
member_moves b side d q None place xs x is name_ends ends =
    subst (λ l. Moves (member_position b side) d (l ++ x ∷ []) q (with_member side (record { number = None; place = place }) d)) (sym is.1)
    (both (member_position b side) (InSet side (AfterName place)) q d d (with_member side (record { number = None; place = place }) d) (place ∷ [])
    (x ∷ []) (first_name b side d place is.0) name_ends)
member_moves b side d q (Some number) place xs x is name_ends ends =
    let star = is.1.1.0 in
    let e = with_member side (record { number = Some number; place = place }) d in
    subst (λ l. Moves (member_position b side) d (l ++ x ∷ []) q e) (sym is.1.1.2)
    (both (member_position b side) (InSet side (AfterName number)) q d d e (number ∷ []) (star ∷ place ∷ x ∷ []) (first_name b side d number is.1.0.0)
    (both (InSet side (AfterName number)) (InSet side (AfterStar number)) q d d e (star ∷ []) (place ∷ x ∷ []) (star_step side d number star is.1.0.1 is.1.1.1)
    (both (InSet side (AfterStar number)) (InSet side AfterMember) q d e e (place ∷ []) (x ∷ [])
    (kind_step (InSet side (AfterStar number)) (InSet side AfterMember) d e place Name is.0 refl refl) (ends e))))

sets_enclose : (side : Side) → Encloses (Position Lexeme) Declared ItemFault (Member Lexeme) net_grammar LeftBrace RightBrace IsMember (with_member side)
    (BeforeSet side) (InSet side FirstMember) (InSet side NextMember) (after_set side)
sets_enclose side = record {
  opens = λ d x kind. kind_step (BeforeSet side) (InSet side FirstMember) d d x LeftBrace kind refl refl;
  closes = λ d x kind. kind_step (InSet side FirstMember) (after_set side) d d x RightBrace kind refl refl;
  at_comma = λ b d member xs x is kind.
      member_moves b side d (InSet side NextMember) member.number member.place xs x is
      (kind_step (InSet side (AfterName member.place)) (InSet side NextMember) d (with_member side (record { number = None; place = member.place }) d) x Comma kind refl refl)
      (λ e. kind_step (InSet side AfterMember) (InSet side NextMember) e e x Comma kind refl refl);
  at_close = λ b d member xs x is kind.
      member_moves b side d (after_set side) member.number member.place xs x is
      (kind_step (InSet side (AfterName member.place)) (after_set side) d (with_member side (record { number = None; place = member.place }) d) x RightBrace kind refl refl)
      (λ e. kind_step (InSet side AfterMember) (after_set side) e e x RightBrace kind refl refl);
}

set_moves : (side : Side) (d : Declared) (members : List (Member Lexeme)) (xs : List Lexeme) → IsSet members xs → Moves (BeforeSet side) d xs (after_set side) (take_all (with_member side) members d)
set_moves side d members xs is =
    enclosed_move net_grammar LeftBrace RightBrace IsMember (with_member side) (BeforeSet side) (InSet side FirstMember) (InSet side NextMember)
    (after_set side) (sets_enclose side) d members xs is

-- the members of the marking
all_marking : (members : List (Member Lexeme)) (d : Declared) → take_all (with_member Marking) members d ≡ record d { marking = d.marking ++ members }
all_marking [] d = ap (λ l. record d { marking = l }) (sym (append-nil d.marking))
all_marking (m ∷ members) d = all_marking members (with_member Marking m d) ∙ ap (λ l. record d { marking = l }) (append_assoc d.marking (m ∷ []) members)

pub marking_moves : (d : Declared) (members : List (Member Lexeme)) (xs : List Lexeme) → IsSet members xs → Moves (BeforeSet Marking) d xs (after_set Marking) (record d { marking = d.marking ++ members })
marking_moves d members xs is =
    moves_same net_grammar (BeforeSet Marking) (after_set Marking) d (take_all (with_member Marking) members d)
    (record d { marking = d.marking ++ members }) xs (all_marking members d) (set_moves Marking d members xs is)

-- the members of a flow
abbrev with_flow : Flow → Declared → Declared
with_flow flow d = record d { flows = d.flows ++ flow ∷ [] }

all_pre : (members : List (Member Lexeme)) (flow : Flow) (d : Declared) → take_all (with_member Pre) members (with_flow flow d) ≡ with_flow (record flow { pre = flow.pre ++ members }) d
all_pre [] flow d = ap (λ l. with_flow (record flow { pre = l }) d) (sym (append-nil flow.pre))
all_pre (m ∷ members) flow d =
    ap (λ l. take_all (with_member Pre) members (record d { flows = l })) (change_push (with_pre m) d.flows flow)
    ∙ all_pre members (with_pre m flow) d ∙ ap (λ l. with_flow (record flow { pre = l }) d) (append_assoc flow.pre (m ∷ []) members)

all_post : (members : List (Member Lexeme)) (flow : Flow) (d : Declared) → take_all (with_member Post) members (with_flow flow d) ≡ with_flow (record flow { post = flow.post ++ members }) d
all_post [] flow d = ap (λ l. with_flow (record flow { post = l }) d) (sym (append-nil flow.post))
all_post (m ∷ members) flow d =
    ap (λ l. take_all (with_member Post) members (record d { flows = l })) (change_push (with_post m) d.flows flow)
    ∙ all_post members (with_post m flow) d ∙ ap (λ l. with_flow (record flow { post = l }) d) (append_assoc flow.post (m ∷ []) members)

flow_moves : (b : Bool) (d : Declared) (flow : Flow) (xs : List Lexeme) → IsFlow flow xs → (c : Bool) × Moves InFlows d xs InFlows (with_flow flow d)
flow_moves b d flow xs is =
    let colon = is.1.0 in
    let first = is.1.1 in
    let arrow = is.1.2 in
    let second = is.1.3 in
    let named : Flow = record { name = flow.name; pre = []; post = [] } in
    let taken : Flow = record { name = flow.name; pre = flow.pre; post = [] } in
    let d' = with_flow named d in
    let e = with_flow taken d in
    let f = with_flow flow d in (
      true,
      subst (λ l. Moves InFlows d l InFlows f) (sym is.1.8)
          (both InFlows AfterFlowName InFlows d d' f (flow.name ∷ []) (colon ∷ (first ++ arrow ∷ second)) (kind_step InFlows AfterFlowName d d' flow.name Name is.0 refl refl)
          (both AfterFlowName (BeforeSet Pre) InFlows d' d' f (colon ∷ []) (first ++ arrow ∷ second) (kind_step AfterFlowName (BeforeSet Pre) d' d' colon Colon is.1.4 refl refl)
          (both (BeforeSet Pre) AfterPre InFlows d' e f first (arrow ∷ second)
          (moves_same net_grammar (BeforeSet Pre) AfterPre d' (take_all (with_member Pre) flow.pre d') e first (all_pre flow.pre named d) (set_moves Pre d' flow.pre first is.1.5))
          (both AfterPre (BeforeSet Post) InFlows e e f (arrow ∷ []) second (kind_step AfterPre (BeforeSet Post) e e arrow Arrow is.1.6 refl refl)
          (moves_same net_grammar (BeforeSet Post) InFlows e (take_all (with_member Post) flow.post e) f second (all_post flow.post taken d) (set_moves Post e flow.post second is.1.7)))))),
    )

all_flows : (flows : List Flow) (d : Declared) → take_all with_flow flows d ≡ record d { flows = d.flows ++ flows }
all_flows [] d = ap (λ l. record d { flows = l }) (sym (append-nil d.flows))
all_flows (f ∷ flows) d = all_flows flows (with_flow f d) ∙ ap (λ l. record d { flows = l }) (append_assoc d.flows (f ∷ []) flows)

pub flows_move : (d : Declared) (flows : List Flow) (xs : List Lexeme) → AreEach IsFlow flows xs → Moves InFlows d xs InFlows (record d { flows = d.flows ++ flows })
flows_move d flows xs is =
    moves_same net_grammar InFlows InFlows d (take_all with_flow flows d) (record d { flows = d.flows ++ flows }) xs (all_flows flows d)
    (each_move net_grammar (λ b. InFlows) IsFlow with_flow flow_moves true d flows xs is).1
