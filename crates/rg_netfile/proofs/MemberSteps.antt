-- One step more: that it passes, or its fault.
use Rattle.std.specs.Result.{OnOk}
use Rattle.std.proofs.Common.{Result, Ok, Err, ◌≡◌, ℕ, ◌+◌, ◌<◌, ◌≤◌, ◌⊎◌, inl, inr, ⊎_elim, Bool, true, false, cond, not, ◌&&◌, nat_lt, List, [], ◌∷◌, ◌++◌, length, set, slice_get, slice_set, Contains, Option, None, Some, refl, sym, ap, subst, ◌∙◌, arith}
use Rattle.std.specs.Str.{bytes_eq}
use Rattle.std.proofs.lemmas.Bool.{cond-true, cond-false, false_from_ne_true, cases_order, lt-ltb, le-ltb}
use Rattle.std.proofs.lemmas.List.{get_or-set_same, get_or-set_other, length-set}
use Rattle.std.proofs.lemmas.List.Elements.{All-contains}
use Rattle.std.proofs.lemmas.List.Sums.{sum_by-append}
use Rattle.std.proofs.lemmas.Option.{slice_get-get_or, slice_get_within, get_or_from_slice_get, same_Some}
use Rattle.std.proofs.lemmas.Slice.Eq.{bytes_eq-Decides}
use Rattle.rg_theory.specs.Net.{Place, Net, HasAllWeights, IsPlaceAt}
use Rattle.rg_theory.proofs.Lists.{there_at}
use Rattle.rg_lexer.specs.Lexeme.{Lexeme}
use Rattle.rg_integers.specs.Range.{greatest}
use Rattle.rg_net_grammar.specs.declared.found.Member.{Member}
use Rattle.rg_netfile.specs.declared.fault.NetFault.{NetFault}
use Rattle.rg_netfile.specs.declared.fault.NetFault.TheVariants.{UnknownTransition, UnknownPlace, NumberPasses}
use Rattle.rg_netfile.specs.declared.slot.Slot.{Slot}
use Rattle.rg_netfile.specs.Contents.{Cell, Step, flow_of, adds, same_cell, added, total, count_of, member_at, is_among, step_fault}
use Rattle.rg_netfile.specs.Built.{KnownNames, IsKnown, HasSums, Passes, Stops, AddsTo, IsWithin, IsOver, IsSlotIn, IsSlotFor, number_in, with_more}
use Rattle.rg_netfile.proofs.NameTests.{among_true, among_false}
use Rattle.rg_netfile.proofs.Going.{none_one, first_one}
use Rattle.rg_netfile.proofs.Slots.{number_same, number_other, same_or_other, one_slot, one_cell}

total_more : (cell : Cell) (place : List ℕ) (before : List Step) (step : Step) → total cell place (before ++ step ∷ []) ≡ total cell place before + added cell place step
total_more cell place before step =
    let e = sum_by-append (added cell place) before (step ∷ []) in
    omega (arith, e)

-- a flow begins
pub flow_passes : (k : KnownNames) (net : Net) (name : Lexeme) → Contains k.transitions name.text → Passes k (flow_of name ∷ []) net net
flow_passes k net name has = record {
  none = λ before h. none_one (step_fault k.places k.transitions) before (flow_of name)
      (cond-true (is_among k.transitions name.text) None (Some (UnknownTransition name.at)) (among_true k.transitions name.text has));
  sums = λ before h. record {
    sums = λ i place p slot cell at is for. h.sums i place p slot cell at is for ∙ sym (total_more cell place before (flow_of name) ∙ omega arith);
  };
}

pub flow_stops : (k : KnownNames) (net : Net) (name : Lexeme) → (Contains k.transitions name.text → ⊥) → Stops k (flow_of name ∷ []) net (UnknownTransition name.at)
flow_stops k net name absent = record {
  first = λ before h. first_one (step_fault k.places k.transitions) before (flow_of name) (UnknownTransition name.at)
      (cond-false (is_among k.transitions name.text) None (Some (UnknownTransition name.at)) (among_false k.transitions name.text absent));
}

-- the tests of a member's fault
abbrev sum_test : Cell → Member Lexeme → List Step → Option NetFault
sum_test cell m before = cond (nat_lt greatest (total cell m.place.text before + count_of m.number)) (Some (NumberPasses (member_at m))) None

abbrev place_test : List (List ℕ) → Cell → Member Lexeme → List Step → Option NetFault
place_test places cell m before = cond (not (is_among places m.place.text)) (Some (UnknownPlace m.place.at)) (sum_test cell m before)

to_place : (k : KnownNames) (before : List Step) (cell : Cell) (m : Member Lexeme) → count_of m.number ≤ greatest
    → step_fault k.places k.transitions before (adds cell m) ≡ place_test k.places cell m before
to_place k before cell m within =
    cond-false (nat_lt greatest (count_of m.number)) (Some (NumberPasses (member_at m))) (place_test k.places cell m before) (le-ltb greatest (count_of m.number) within)

to_sum : (k : KnownNames) (before : List Step) (cell : Cell) (m : Member Lexeme) → count_of m.number ≤ greatest → Contains k.places m.place.text
    → step_fault k.places k.transitions before (adds cell m) ≡ sum_test cell m before
to_sum k before cell m within has =
    to_place k before cell m within
    ∙ cond-false (not (is_among k.places m.place.text)) (Some (UnknownPlace m.place.at)) (sum_test cell m before) (ap not (among_true k.places m.place.text has))

pub place_stops : (k : KnownNames) (net : Net) (cell : Cell) (m : Member Lexeme) → count_of m.number ≤ greatest → (Contains k.places m.place.text → ⊥)
    → Stops k (adds cell m ∷ []) net (UnknownPlace m.place.at)
place_stops k net cell m within absent = record {
  first = λ before h. first_one (step_fault k.places k.transitions) before (adds cell m) (UnknownPlace m.place.at)
      (to_place k before cell m within
      ∙ cond-true (not (is_among k.places m.place.text)) (Some (UnknownPlace m.place.at)) (sum_test cell m before) (ap not (among_false k.places m.place.text absent)));
}

pub sum_stops : (k : KnownNames) (net : Net) (i n : ℕ) (slot : Slot) (cell : Cell) (m : Member Lexeme) → IsSlotFor k slot cell → slice_get k.places i ≡ Some m.place.text
    → n ≡ count_of m.number → n ≤ greatest → IsOver net i slot n greatest → Stops k (adds cell m ∷ []) net (NumberPasses (member_at m))
sum_stops k net i n slot cell m for at is within (p, place, over) = record {
  first = λ before h.
      let so_far = h.sums i m.place.text p slot cell at place for in
      first_one (step_fault k.places k.transitions) before (adds cell m) (NumberPasses (member_at m))
      (to_sum k before cell m (omega arith) (there_at k.places i m.place.text at)
      ∙ cond-true (nat_lt greatest (total cell m.place.text before + count_of m.number)) (Some (NumberPasses (member_at m))) None
      (lt-ltb greatest (total cell m.place.text before + count_of m.number) (omega arith)));
}

-- what a step adds to a place and cell
pub added_same : (cell : Cell) (m : Member Lexeme) → added cell m.place.text (adds cell m) ≡ count_of m.number
added_same cell m =
    cond-true (same_cell cell cell && bytes_eq m.place.text m.place.text) (count_of m.number) 0
    (both (same_cell cell cell) (bytes_eq m.place.text m.place.text) (⊎_elim (λ h. h.0) (λ h. absurd (h.1 refl)) (same_or_other cell cell))
    ((bytes_eq-Decides m.place.text m.place.text).1 refl))
  where
    both : (a b : Bool) → a ≡ true → b ≡ true → (a && b) ≡ true
    both true b e f = f
    both false b e f = absurd cc

added_elsewhere : (cell other : Cell) (place : List ℕ) (m : Member Lexeme) → (cell ≡ other → ⊥) ⊎ (place ≡ m.place.text → ⊥) → added cell place (adds other m) ≡ 0
added_elsewhere cell other place m ne =
    cond-false (same_cell cell other && bytes_eq place m.place.text) (count_of m.number) 0
    (false_from_ne_true (same_cell cell other && bytes_eq place m.place.text) (λ e. ⊎_elim
    (λ cells. ⊎_elim (λ h. cells h.1) (λ h. absurd (left (same_cell cell other) (bytes_eq place m.place.text) h.0 e)) (same_or_other cell other))
    (λ places. places ((bytes_eq-Decides place m.place.text).0 (right (same_cell cell other) (bytes_eq place m.place.text) e))) ne))
  where
    left : (a b : Bool) → a ≡ false → (a && b) ≡ true → ⊥
    left true b e f = cc
    left false b e f = cc

    right : (a b : Bool) → (a && b) ≡ true → b ≡ true
    right true b e = e
    right false b e = absurd cc

-- one place of a list is changed
set_there : {X : Type 0} (xs : List X) (i : ℕ) (x y : X) → slice_get (set xs i x) i ≡ Some y → y ≡ x
set_there xs i x y at =
    let lt : i < length xs = subst (λ n. i < n) (length-set xs i x) (slice_get_within (set xs i x) i y at) in
    sym (get_or_from_slice_get (set xs i x) i y y at) ∙ get_or-set_same xs i x y lt

set_beside : {X : Type 0} (xs : List X) (i j : ℕ) (x y : X) → (j ≡ i → ⊥) → slice_get (set xs i x) j ≡ Some y → slice_get xs j ≡ Some y
set_beside xs i j x y ne at =
    let lt : j < length xs = subst (λ n. j < n) (length-set xs i x) (slice_get_within (set xs i x) j y at) in
    slice_get-get_or xs j y lt ∙ ap Some (sym (get_or-set_other xs i j x y ne) ∙ get_or_from_slice_get (set xs i x) j y y at)

-- what passes
pub record Adds (k : KnownNames) (old new : Net) (i n : ℕ) (slot : Slot) (cell : Cell) (m : Member Lexeme) : Type 0 where
  pub known : IsKnown k
  pub weights : HasAllWeights old
  pub slot_in : IsSlotIn old.labels slot
  pub for_cell : IsSlotFor k slot cell
  pub at_place : slice_get k.places i ≡ Some m.place.text
  pub number : n ≡ count_of m.number
  pub small : n ≤ greatest
  pub within : IsWithin old i slot n greatest
  pub makes : AddsTo old i slot n new

-- the numbers after one member more
sums_more : (k : KnownNames) (old new : Net) (i n : ℕ) (slot : Slot) (cell : Cell) (m : Member Lexeme) (before : List Step) → Adds k old new i n slot cell m → HasSums k before old
    → (j : ℕ) (name : List ℕ) (q : Place) (other : Slot) (c : Cell) → slice_get k.places j ≡ Some name → IsPlaceAt new j q → IsSlotFor k other c
    → number_in q other ≡ total c name (before ++ adds cell m ∷ [])
sums_more k old new i n slot cell m before a h j name q other c at place for =
    ⊎_elim here (λ ne. beside (λ e. ⊎_elim (λ l. omega arith) (λ g. omega arith) ne)) (cases_order j i)
  where
    p : Place
    p = a.makes.0

    place_then : slice_get (slice_set old.places i (with_more a.makes.0 slot n)) j ≡ Some q
    place_then = subst (λ (net : Net). IsPlaceAt net j q) a.makes.2 place

    beside : (j ≡ i → ⊥) → number_in q other ≡ total c name (before ++ adds cell m ∷ [])
    beside ne =
        let was = set_beside old.places i j (with_more a.makes.0 slot n) q ne place_then in
        let zero = added_elsewhere c cell name m (inr (λ e. ne (a.known.places_apart.same j i name at (a.at_place ∙ ap Some (sym e))))) in
        h.sums j name q other c at was for ∙ sym (total_more c name before (adds cell m) ∙ omega (arith, zero))

    here : j ≡ i → number_in q other ≡ total c name (before ++ adds cell m ∷ [])
    here e =
        let is : q ≡ with_more a.makes.0 slot n =
        set_there old.places i (with_more a.makes.0 slot n) q (subst (λ l. slice_get (slice_set old.places i (with_more a.makes.0 slot n)) l ≡ Some q) e place_then) in
        let same : name ≡ m.place.text = same_Some name m.place.text (sym at ∙ ap (slice_get k.places) e ∙ a.at_place) in
        let was = h.sums i name a.makes.0 other c (ap (slice_get k.places) (sym e) ∙ at) a.makes.1 for in
        ⊎_elim
        (λ alike.
        let slots : other ≡ slot = one_slot k a.known other slot c for (subst (IsSlotFor k slot) (sym alike.1) a.for_cell) in
        let w = weights_at in
        let grown = number_same a.makes.0 slot n (slot_of w.0) (slot_of w.1) in
        let plus : added c name (adds cell m) ≡ n =
        ap (λ x. added c x (adds cell m)) same ∙ ap (λ x. added x m.place.text (adds cell m)) alike.1 ∙ added_same cell m ∙ sym a.number in
        ap (λ x. number_in x other) is ∙ ap (number_in (with_more a.makes.0 slot n)) slots ∙ grown
        ∙ ap (λ x. x + n) (ap (number_in a.makes.0) (sym slots) ∙ was) ∙ sym (total_more c name before (adds cell m) ∙ ap (λ x. total c name before + x) plus))
        (λ apart.
        let zero = added_elsewhere c cell name m (inl apart.1) in
        let stays = number_other a.makes.0 slot other n (λ slots. apart.1 (one_cell k a.known slot c cell (subst (λ x. IsSlotFor k x c) slots for) a.for_cell)) in
        ap (λ x. number_in x other) is ∙ stays ∙ was ∙ sym (total_more c name before (adds cell m) ∙ omega (arith, zero)))
        (same_or_other c cell)
      where
        weights_at : (length a.makes.0.pre ≡ old.labels) × (length a.makes.0.post ≡ old.labels)
        weights_at =
            All-contains (λ (x : Place). (length x.pre ≡ old.labels) × (length x.post ≡ old.labels)) old.places a.makes.0 a.weights (there_at old.places i a.makes.0 a.makes.1)

        slot_of : {many : ℕ} → many ≡ old.labels → IsSlotIn many slot
        slot_of same = subst (λ x. IsSlotIn x slot) (sym same) a.slot_in

pub member_passes : (k : KnownNames) (old new : Net) (i n : ℕ) (slot : Slot) (cell : Cell) (m : Member Lexeme) → Adds k old new i n slot cell m
    → Passes k (adds cell m ∷ []) old new
member_passes k old new i n slot cell m a = record {
  none = λ before h.
      let so_far = h.sums i m.place.text a.within.0 slot cell a.at_place a.within.1 a.for_cell in
      let within = a.within.2 in
      let number = a.number in
      let small = a.small in
      none_one (step_fault k.places k.transitions) before (adds cell m)
      (to_sum k before cell m (omega arith) (there_at k.places i m.place.text a.at_place)
      ∙ cond-false (nat_lt greatest (total cell m.place.text before + count_of m.number)) (Some (NumberPasses (member_at m))) None
      (le-ltb greatest (total cell m.place.text before + count_of m.number) (omega arith)));
  sums = λ before h. record { sums = sums_more k old new i n slot cell m before a h };
}

-- two facts of an answer
pub both_ok : {T E P Q R : Type 0} (r : Result T E) → (P → Q → R) → OnOk r P → OnOk r Q → OnOk r R
both_ok (Ok x) f p q = f p q
both_ok (Err e) f p q = tt

-- steps that have no fault, whatever the numbers that the code holds
pub flow_fine : (places transitions : List (List ℕ)) (before : List Step) (name : Lexeme) → Contains transitions name.text
    → step_fault places transitions before (flow_of name) ≡ None
flow_fine places transitions before name has =
    cond-true (is_among transitions name.text) None (Some (UnknownTransition name.at)) (among_true transitions name.text has)

pub member_fine : (places transitions : List (List ℕ)) (before : List Step) (cell : Cell) (m : Member Lexeme) → Contains places m.place.text
    → total cell m.place.text before + count_of m.number ≤ greatest → step_fault places transitions before (adds cell m) ≡ None
member_fine places transitions before cell m has within =
    cond-false (nat_lt greatest (count_of m.number)) (Some (NumberPasses (member_at m))) (place_test places cell m before) (le-ltb greatest (count_of m.number) (omega arith))
    ∙ cond-false (not (is_among places m.place.text)) (Some (UnknownPlace m.place.at)) (sum_test cell m before) (ap not (among_true places m.place.text has))
    ∙ cond-false (nat_lt greatest (total cell m.place.text before + count_of m.number)) (Some (NumberPasses (member_at m))) None
    (le-ltb greatest (total cell m.place.text before + count_of m.number) within)
