-- One state more, and one label more: its fault, or that there is none.
use Rattle.std.proofs.Common.{◌≡◌, ◌≢◌, inl, inr, ℕ, ◌<◌, ◌≤◌, Bool, true, false, cond, ◌&&◌, nat_le, List, [], ◌∷◌, ◌++◌, length, map, slice_get, Contains, Option, None, Some, IsSomeAnd, refl, sym, ap, ap₂, subst, ◌∙◌, arith, length-append}
use Rattle.std.specs.List.{list_any}
use Rattle.std.proofs.lemmas.Bool.{cond-true, cond-false, and_from, and_right, lt-leb, le-leb}
use Rattle.std.proofs.lemmas.List.{map-append, length-map}
use Rattle.std.proofs.lemmas.List.Elements.{Contains-push}
use Rattle.std.proofs.lemmas.Option.{slice_get_within}
use Rattle.rg_text.proofs.NameBytes.{absent_none, contains_any}
use Rattle.rg_theory.specs.Limits.{most_states, most_labels}
use Rattle.rg_lexer.specs.Lexeme.{Lexeme}
use Rattle.rg_lts.specs.Draft.{Draft, IsStateNamed, IsOtherInitial}
use Rattle.rg_apt.specs.declared.fault.TextFault.{TextFault}
use Rattle.rg_apt.specs.declared.fault.TextFault.TheVariants.{TwiceState, TwiceLabel, TwoInitial, TooManyStates, TooManyLabels}
use Rattle.rg_apt.specs.Contents.{StateEntry, state_fault, label_fault, same_text}
use Rattle.rg_apt.specs.Built.{state_text, label_text, is_marked, HasStates, IsNewName, IsNameFault}
use Rattle.rg_apt.proofs.Names.{moved, earlier}
use Rattle.rg_apt.proofs.Marks.{some_marked, marked_any, push_marked, push_unmarked}

-- the tests of a state's fault
abbrev pub again : List (StateEntry Lexeme) → StateEntry Lexeme → Bool
again before e = list_any (λ (b : StateEntry Lexeme). same_text e.name b.name) before

abbrev pub two : List (StateEntry Lexeme) → StateEntry Lexeme → Bool
two before e = e.initial && list_any (λ (b : StateEntry Lexeme). b.initial) before

abbrev last_test : List (StateEntry Lexeme) → StateEntry Lexeme → Option TextFault
last_test before e = cond (two before e) (Some (TwoInitial e.name.at)) None

abbrev room_test : List (StateEntry Lexeme) → StateEntry Lexeme → Option TextFault
room_test before e = cond (nat_le most_states (length before)) (Some (TooManyStates e.name.at)) (last_test before e)

is_again : (before : List (StateEntry Lexeme)) (e : StateEntry Lexeme) → again before e ≡ true → state_fault before e ≡ Some (TwiceState e.name.at)
is_again before e a = cond-true (again before e) (Some (TwiceState e.name.at)) (room_test before e) a

to_room : (before : List (StateEntry Lexeme)) (e : StateEntry Lexeme) → again before e ≡ false → state_fault before e ≡ room_test before e
to_room before e a = cond-false (again before e) (Some (TwiceState e.name.at)) (room_test before e) a

is_full : (before : List (StateEntry Lexeme)) (e : StateEntry Lexeme) → again before e ≡ false → most_states ≤ length before → state_fault before e ≡ Some (TooManyStates e.name.at)
is_full before e a full =
    to_room before e a ∙ cond-true (nat_le most_states (length before)) (Some (TooManyStates e.name.at)) (last_test before e) (le-leb most_states (length before) full)

to_last : (before : List (StateEntry Lexeme)) (e : StateEntry Lexeme) → again before e ≡ false → length before < most_states → state_fault before e ≡ last_test before e
to_last before e a room =
    to_room before e a ∙ cond-false (nat_le most_states (length before)) (Some (TooManyStates e.name.at)) (last_test before e) (lt-leb most_states (length before) room)

is_two : (before : List (StateEntry Lexeme)) (e : StateEntry Lexeme) → again before e ≡ false → length before < most_states → two before e ≡ true → state_fault before e ≡ Some (TwoInitial e.name.at)
is_two before e a room t = to_last before e a room ∙ cond-true (two before e) (Some (TwoInitial e.name.at)) None t

pub is_fine : (before : List (StateEntry Lexeme)) (e : StateEntry Lexeme) → again before e ≡ false → length before < most_states → two before e ≡ false → state_fault before e ≡ None
is_fine before e a room t = to_last before e a room ∙ cond-false (two before e) (Some (TwoInitial e.name.at)) None t

-- what the names of a draft say of the entries
how_many : {X : Type 0} (text : X → List ℕ) (names : List (List ℕ)) (xs : List X) → names ≡ map text xs → length names ≡ length xs
how_many text names xs e = ap length e ∙ length-map xs text

fresh : (before : List (StateEntry Lexeme)) (e : StateEntry Lexeme) (d : Draft) (name : List ℕ) → name ≡ e.name.text → HasStates before d → (Contains d.state_names name → ⊥) → again before e ≡ false
fresh before e d name is h new =
    absent_none state_text e.name.text before (λ has. new (moved (map state_text before) d.state_names e.name.text name (sym h.state_names) (sym is) has))

pub name_fault : (before : List (StateEntry Lexeme)) (e : StateEntry Lexeme) (d : Draft) (name : List ℕ) (f : TextFault) → name ≡ e.name.text → HasStates before d
    → IsNameFault d.state_names most_states name (TwiceState e.name.at) (TooManyStates e.name.at) f → state_fault before e ≡ Some f
name_fault before e d name f is h (inl (at, has)) =
    is_again before e (contains_any state_text e.name.text before (moved d.state_names (map state_text before) name e.name.text h.state_names is has)) ∙ ap Some (sym at)
name_fault before e d name f is h (inr (at, new, full)) =
    let count = how_many state_text d.state_names before h.state_names in
    is_full before e (fresh before e d name is h new) (omega arith) ∙ ap Some (sym at)

-- the draft with a state more
abbrev pub WithState : Draft → List ℕ → Draft
WithState d name = record d { state_names = d.state_names ++ name ∷ [] }

pub mark_fault : (before : List (StateEntry Lexeme)) (e : StateEntry Lexeme) (d d' : Draft) (name : List ℕ) (f : TextFault) → name ≡ e.name.text → e.initial ≡ true
    → d' ≡ WithState d name → IsNewName d.state_names most_states name → HasStates before d → (f ≡ TwoInitial e.name.at) × IsOtherInitial d' name
    → state_fault before e ≡ Some f
mark_fault before e d d' name f is mark made new h (at, other) =
    let count = how_many state_text d.state_names before h.state_names in
    let there = subst (λ (v : Draft). IsOtherInitial v name) made other in
    let any = marked_any is_marked before (λ s. slice_get (d.state_names ++ name ∷ []) s ≢ Some name)
    (subst (λ (o : Option ℕ). IsSomeAnd o (λ s. slice_get (d.state_names ++ name ∷ []) s ≢ Some name)) h.initial there.1) in
    is_two before e (fresh before e d name is h new.new) (omega (arith, new.room)) (and_from e.initial (list_any is_marked before) mark any) ∙ ap Some (sym at)

state_names_more : (before : List (StateEntry Lexeme)) (e : StateEntry Lexeme) (d : Draft) (name : List ℕ) → name ≡ e.name.text → HasStates before d
    → d.state_names ++ name ∷ [] ≡ map state_text (before ++ e ∷ [])
state_names_more before e d name is h = ap₂ (λ ns n. ns ++ n ∷ []) h.state_names is ∙ sym (map-append state_text before (e ∷ []))

and_false : (a b : Bool) → a ≡ false → (a && b) ≡ false
and_false true b e = absurd cc
and_false false b e = refl

pub plain_state : (before : List (StateEntry Lexeme)) (e : StateEntry Lexeme) (d d' : Draft) (name : List ℕ) → name ≡ e.name.text → e.initial ≡ false
    → d' ≡ WithState d name → IsNewName d.state_names most_states name → HasStates before d
    → (state_fault before e ≡ None) × HasStates (before ++ e ∷ []) d'
plain_state before e d d' name is mark made new h =
    let count = how_many state_text d.state_names before h.state_names in (
      is_fine before e (fresh before e d name is h new.new) (omega (arith, new.room)) (and_false e.initial (list_any is_marked before) mark),
      subst (HasStates (before ++ e ∷ [])) (sym made) (record {
        state_names = state_names_more before e d name is h;
        initial = h.initial ∙ sym (push_unmarked is_marked before e mark);
        label_names = h.label_names;
        arcs = h.arcs;
      }),
    )

-- no entry is marked, where no other state is initial
none_before : (before : List (StateEntry Lexeme)) (d : Draft) (name : List ℕ) → (Contains d.state_names name → ⊥) → HasStates before d → (IsOtherInitial (WithState d name) name → ⊥)
    → list_any is_marked before ≡ false
none_before before d name new h alone = by (list_any is_marked before) refl
  where
    by : (b : Bool) → list_any is_marked before ≡ b → list_any is_marked before ≡ false
    by false e = e
    by true e =
        let k = some_marked is_marked before e in
        let count = how_many state_text d.state_names before h.state_names in
        let lt : k.0 < length d.state_names = omega (arith, k.2) in
        let other : slice_get (d.state_names ++ name ∷ []) k.0 ≢ Some name = λ at. new (earlier d.state_names name k.0 lt at) in
        absurd (alone (
          Contains-push d.state_names name,
          subst (λ (o : Option ℕ). IsSomeAnd o (λ s. slice_get (d.state_names ++ name ∷ []) s ≢ Some name)) (sym (h.initial ∙ k.1)) other,
        ))

-- the number of the last name
last_number : (names : List (List ℕ)) (name : List ℕ) (s : ℕ) → (Contains names name → ⊥) → slice_get (names ++ name ∷ []) s ≡ Some name → s ≡ length names
last_number names name s new at =
    let within = slice_get_within (names ++ name ∷ []) s name at in
    let longer = length-append names (name ∷ []) in
    let not_before : s < length names → ⊥ = λ lt. new (earlier names name s lt at) in
    omega arith

pub marked_state : (before : List (StateEntry Lexeme)) (e : StateEntry Lexeme) (d d' d'' : Draft) (name : List ℕ) → name ≡ e.name.text → e.initial ≡ true
    → d' ≡ WithState d name → IsNewName d.state_names most_states name → ((s : ℕ) × IsStateNamed d' s name × (d'' ≡ record d' { initial = Some s }))
    → (IsOtherInitial d' name → ⊥) → HasStates before d → (state_fault before e ≡ None) × HasStates (before ++ e ∷ []) d''
marked_state before e d d' d'' name is mark made new (s, at, set) alone h =
    let count = how_many state_text d.state_names before h.state_names in
    let none = none_before before d name new.new h (λ other. alone (subst (λ (v : Draft). IsOtherInitial v name) (sym made) other)) in
    let number = last_number d.state_names name s new.new (subst (λ (v : Draft). IsStateNamed v s name) made at) in
    let same : s ≡ length before = number ∙ count in
    let made_too : d'' ≡ record (WithState d name) { initial = Some s } = set ∙ ap (λ (v : Draft). record v { initial = Some s }) made in (
      is_fine before e (fresh before e d name is h new.new) (omega (arith, new.room)) (and_right e.initial (list_any is_marked before) none),
      subst (HasStates (before ++ e ∷ [])) (sym made_too) (record {
        state_names = state_names_more before e d name is h;
        initial = ap Some same ∙ sym (push_marked is_marked before e none mark);
        label_names = h.label_names;
        arcs = h.arcs;
      }),
    )

-- labels
abbrev label_room : List Lexeme → Lexeme → Option TextFault
label_room before x = cond (nat_le most_labels (length before)) (Some (TooManyLabels x.at)) None

pub label_name_fault : (before : List Lexeme) (x : Lexeme) (names : List (List ℕ)) (f : TextFault) → names ≡ map label_text before
    → IsNameFault names most_labels x.text (TwiceLabel x.at) (TooManyLabels x.at) f → label_fault before x ≡ Some f
label_name_fault before x names f has (inl (at, there)) =
    cond-true (list_any (same_text x) before) (Some (TwiceLabel x.at)) (label_room before x)
    (contains_any label_text x.text before (subst (λ l. Contains l x.text) has there)) ∙ ap Some (sym at)
label_name_fault before x names f has (inr (at, new, full)) =
    let count = how_many label_text names before has in
    cond-false (list_any (same_text x) before) (Some (TwiceLabel x.at)) (label_room before x)
    (absent_none label_text x.text before (λ there. new (subst (λ l. Contains l x.text) (sym has) there)))
    ∙ cond-true (nat_le most_labels (length before)) (Some (TooManyLabels x.at)) None (le-leb most_labels (length before) (omega arith)) ∙ ap Some (sym at)

pub label_fine : (before : List Lexeme) (x : Lexeme) (names : List (List ℕ)) → names ≡ map label_text before → IsNewName names most_labels x.text → label_fault before x ≡ None
label_fine before x names has new =
    let count = how_many label_text names before has in
    cond-false (list_any (same_text x) before) (Some (TwiceLabel x.at)) (label_room before x)
    (absent_none label_text x.text before (λ there. new.new (subst (λ l. Contains l x.text) (sym has) there)))
    ∙ cond-false (nat_le most_labels (length before)) (Some (TooManyLabels x.at)) None (lt-leb most_labels (length before) (omega (arith, new.room)))
