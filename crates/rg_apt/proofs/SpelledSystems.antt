-- What is declared without a fault is a well formed system.
use Rattle.std.proofs.Common.{◌≡◌, ◌≢◌, ⊎_elim, inl, inr, ℕ, ◌+◌, ◌<◌, ◌≤◌, Bool, true, false, cond, not, ◌&&◌, nat_le}
use Rattle.std.proofs.Common.{List, [], ◌∷◌, ◌++◌, length, get_or, map, slice_get, All, AllPairs}
use Rattle.std.proofs.Common.{Option, None, Some, refl, sym, ap, subst, ◌∙◌, arith, length-append, append_assoc, append-nil}
use Rattle.std.specs.List.{list_any}
use Rattle.std.proofs.lemmas.Bool.Decides.{nat_tests}
use Rattle.std.proofs.lemmas.List.{length-map}
use Rattle.std.proofs.lemmas.List.Elements.{Contains-get_or}
use Rattle.std.proofs.lemmas.Option.{slice_get_within, slice_get-get_or}
use Rattle.rg_lexer.specs.Lexeme.{Lexeme}
use Rattle.rg_text.specs.Byte.{IsName}
use Rattle.rg_text.specs.Faults.{faults_after, AreNone}
use Rattle.rg_theory.specs.Limits.{most_states, most_labels, most_arcs}
use Rattle.rg_theory.specs.declared.Arc.{Arc}
use Rattle.rg_theory.specs.System.{System, IsArcInRange}
use Rattle.rg_lts.specs.WellFormed.{AreNames, IsWellFormed}
use Rattle.rg_lts.specs.Draft.{Draft, names_alone, IsWellFormedDraft}
use Rattle.rg_lts.proofs.OrderedArcs.{has_from, contains_from, ordered_from, one_order}
use Rattle.rg_apt.specs.declared.fault.TextFault.{TextFault}
use Rattle.rg_apt.specs.declared.fault.TextFault.TheVariants.{TwiceState, TwiceLabel, TwoInitial, TooManyStates, TooManyLabels, TooManyArcs}
use Rattle.rg_apt.specs.Contents.{StateEntry, ArcNames, Declared, faults, state_fault, label_fault, arc_fault, same_text, same_arc, different, HasNames, IsSystemOf, declared}
use Rattle.rg_apt.specs.Built.{state_text, label_text, is_marked, IsArcOfNames}
use Rattle.rg_apt.specs.Spells.{Spells}
use Rattle.rg_apt.proofs.Existing.{Among, among-append, among-last, among_at, none_head, IsFresh, one_number, state_fresh, label_fresh, known, arc_of, arcs_of, faultless}
use Rattle.rg_apt.proofs.Marks.{some_marked}
use Rattle.rg_apt.proofs.ArcSteps.{among_parts, any_from, counted, to_last}
use Rattle.rg_apt.proofs.SpelledNames.{states_are_named, labels_are_named}

-- names without a fault differ
differ : {X : Type 0} (text : X → List ℕ) (fault : List X → X → Option TextFault) → IsFresh text fault → (xs : List X) → AreNone (faults_after fault [] xs)
    → AllPairs (λ a b. a ≢ b) (map text xs)
differ text fault fresh xs none i j d less within same =
    let at = slice_get-get_or (map text xs) i d (omega (arith, less, within)) in
    let at' = slice_get-get_or (map text xs) j d within ∙ ap Some (sym same) in
    let one = one_number text fault fresh [] xs none (get_or (map text xs) i d) i j at at' in
    omega (arith, one, less)

-- an entry without a fault has room
abbrev HasRoom : {X : Type 0} → (List X → X → Option TextFault) → ℕ → Type 0
HasRoom {X} fault limit = (before : List X) (x : X) → fault before x ≡ None → length before < limit

few : {X : Type 0} (fault : List X → X → Option TextFault) (limit : ℕ) → HasRoom fault limit → (before xs : List X) → AreNone (faults_after fault before xs)
    → length before ≤ limit → length before + length xs ≤ limit
few fault limit room before [] none le = omega arith
few fault limit room before (x ∷ xs) none le =
    let head = none_head (fault before x) (faults_after fault (before ++ x ∷ []) xs) none in
    let longer = length-append before (x ∷ []) in
    let less = room before x head.0 in
    let more = few fault limit room (before ++ x ∷ []) xs head.1 (omega (arith, longer, less)) in
    omega (arith, longer, more)

le_fails : (m n : ℕ) → nat_le m n ≡ false → n < m
le_fails m n h = grind (arith, nat_tests)

state_room : HasRoom state_fault most_states
state_room before x none = by (list_any (λ (b : StateEntry Lexeme). same_text x.name b.name) before) (nat_le most_states (length before)) refl none
  where
    by : (t u : Bool) → nat_le most_states (length before) ≡ u
        → cond t (Some (TwiceState x.name.at))
        (cond u (Some (TooManyStates x.name.at)) (cond (x.initial && list_any (λ (b : StateEntry Lexeme). b.initial) before) (Some (TwoInitial x.name.at)) None)) ≡ None
        → length before < most_states
    by true u e none = absurd cc
    by false true e none = absurd cc
    by false false e none = le_fails most_states (length before) e

label_room : HasRoom label_fault most_labels
label_room before x none = by (list_any (same_text x) before) (nat_le most_labels (length before)) refl none
  where
    by : (t u : Bool) → nat_le most_labels (length before) ≡ u → cond t (Some (TwiceLabel x.at)) (cond u (Some (TooManyLabels x.at)) None) ≡ None
        → length before < most_labels
    by true u e none = absurd cc
    by false true e none = absurd cc
    by false false e none = le_fails most_labels (length before) e

-- the names that are declared, as a draft
abbrev names_of : Declared → Draft
names_of d = names_alone (map state_text d.states) (map label_text d.labels)

-- each of these triples has an arc
abbrev AreNamed : Declared → List (ArcNames Lexeme) → Type 0
AreNamed d names = (x : ArcNames Lexeme) → Among x names → (a : Arc) × IsArcOfNames (names_of d) x a

-- triples are counted in any order
same_count : (d : Declared) (xs ys : List (ArcNames Lexeme)) → IsWellFormedDraft (names_of d) → AreNamed d xs
    → ((x : ArcNames Lexeme) → Among x xs → Among x ys) → ((x : ArcNames Lexeme) → Among x ys → Among x xs)
    → different xs ≡ different ys
same_count d xs ys formed named to from =
    let first = counted (names_of d) xs formed named in
    let second = counted (names_of d) ys formed (λ x among. named x (from x among)) in
    let same = one_order first.0 second.0 first.1.ordered second.1.ordered
    (λ c has. (let r = first.1.to c has in second.1.from c r.0 (to r.0 r.1) r.2))
    (λ c has. (let r = second.1.to c has in first.1.from c r.0 (from r.0 r.1) r.2)) in
    sym first.1.size ∙ ap length same ∙ second.1.size

turned : (x y : ArcNames Lexeme) (before : List (ArcNames Lexeme)) → Among y (before ++ x ∷ []) → Among y (x ∷ before)
turned x y before among = ⊎_elim (λ old. inr old) (λ last. inl last) (among_parts y x before among)

back : (x y : ArcNames Lexeme) (before : List (ArcNames Lexeme)) → Among y (x ∷ before) → Among y (before ++ x ∷ [])
back x y before (inl e) = subst (λ z. Among z (before ++ x ∷ [])) e (among-last x before)
back x y before (inr h) = among-append y before (x ∷ []) h

-- one triple more, without a fault
one_more : (d : Declared) (before : List (ArcNames Lexeme)) (x : ArcNames Lexeme) → IsWellFormedDraft (names_of d) → AreNamed d (before ++ x ∷ []) → arc_fault d before x ≡ None
    → different before ≤ most_arcs → different (before ++ x ∷ []) ≤ most_arcs
one_more d before x formed named none le =
    let are = known d before x none in
    let last = sym (to_last d before x are.from are.label are.to) ∙ none in
    let same = same_count d (before ++ x ∷ []) (x ∷ before) formed named (λ y among. turned x y before among) (λ y among. back x y before among) in
    omega (arith, same, by (nat_le most_arcs (different before)) (list_any (same_arc x) before) refl last)
  where
    by : (p q : Bool) → nat_le most_arcs (different before) ≡ p → cond (p && not q) (Some (TooManyArcs x.from.at)) None ≡ None
        → cond q (different before) (different before + 1) ≤ most_arcs
    by p true e none = le
    by true false e none = absurd cc
    by false false e none = let less = le_fails most_arcs (different before) e in omega (arith, less)

few_names : (d : Declared) (before names : List (ArcNames Lexeme)) → IsWellFormedDraft (names_of d) → AreNamed d before → AreNone (faults_after (arc_fault d) before names)
    → different before ≤ most_arcs → different (before ++ names) ≤ most_arcs
few_names d before [] formed named none le = rw (append-nil before) le
few_names d before (x ∷ names) formed named none le =
    let head = none_head (arc_fault d before x) (faults_after (arc_fault d) (before ++ x ∷ []) names) none in
    let one = arc_of d x (known d before x head.0) in
    let more : AreNamed d (before ++ x ∷ []) = λ y among. ⊎_elim (λ old. named y old)
    (λ last. subst (λ z. (a : Arc) × IsArcOfNames (names_of d) z a) last (one.0, record { from = one.1.0; label = one.1.1; to = one.1.2 }))
    (among_parts y x before among) in
    subst (λ l. different l ≤ most_arcs) (append_assoc before (x ∷ []) names)
    (few_names d (before ++ x ∷ []) names formed more head.1 (one_more d before x formed more head.0 le))

same_number : (m n : ℕ) → Some m ≡ Some n → m ≡ n
same_number m n e = cc

module _ (d : Declared) (lts : System) (none : AreNone (faults d)) (state_names : All IsName (map state_text d.states)) (label_names : All IsName (map label_text d.labels))
    (is : IsSystemOf d lts) where
  are_states : AreNames (map state_text d.states)
  are_states = record { each = state_names; differ = differ state_text state_fault state_fresh d.states (faultless d none).states }

  are_labels : AreNames (map label_text d.labels)
  are_labels = record { each = label_names; differ = differ label_text label_fault label_fresh d.labels (faultless d none).labels }

  few_states : length (map state_text d.states) ≤ most_states
  few_states = omega (arith, length-map d.states state_text, few state_fault most_states state_room [] d.states (faultless d none).states (omega arith))

  few_labels : length (map label_text d.labels) ≤ most_labels
  few_labels = omega (arith, length-map d.labels label_text, few label_fault most_labels label_room [] d.labels (faultless d none).labels (omega arith))

  names_formed : IsWellFormedDraft (names_of d)
  names_formed = record {
    arcs = λ k a lt. absurd (omega arith);
    initial = tt;
    state_names = are_states;
    label_names = are_labels;
    arc_order = λ i j a less lt. absurd (omega arith);
    few_states = few_states;
    few_labels = few_labels;
    few_arcs = omega arith;
  }

  all_named : AreNamed d d.arcs
  all_named x among =
      let r = (arcs_of d [] d.arcs (faultless d none).arcs).1.all x among in
      (r.0, record { from = r.2.0; label = r.2.1; to = r.2.2 })

  in_draft : (c : Arc) (x : ArcNames Lexeme) → HasNames lts c x → IsArcOfNames (names_of d) x c
  in_draft c x has = record {
    from = sym (ap (λ l. slice_get l c.from) is.state_names) ∙ has.0;
    label = sym (ap (λ l. slice_get l c.label) is.label_names) ∙ has.1;
    to = sym (ap (λ l. slice_get l c.to) is.state_names) ∙ has.2;
  }

  in_system : (c : Arc) (x : ArcNames Lexeme) → IsArcOfNames (names_of d) x c → HasNames lts c x
  in_system c x has = (
    ap (λ l. slice_get l c.from) is.state_names ∙ has.from,
    ap (λ l. slice_get l c.label) is.label_names ∙ has.label,
    ap (λ l. slice_get l c.to) is.state_names ∙ has.to,
  )

  few_arcs : length lts.arcs ≤ most_arcs
  few_arcs =
      let all = counted (names_of d) d.arcs names_formed all_named in
      let same = one_order lts.arcs all.0 (ordered_from lts.arcs is.in_order) all.1.ordered
      (λ c has. (let any = (is.arcs c).0 (contains_from lts.arcs c has) in
      all.1.from c any.1 (among_at d.arcs any.0 any.1 any.2 any.3) (in_draft c any.1 any.4)))
      (λ c has. (let r = all.1.to c has in
      has_from lts.arcs c ((is.arcs c).1 (any_from (HasNames lts c) d.arcs r.0 r.1 (in_system c r.0 r.2))))) in
      omega (arith, ap length same, all.1.size, few_names d [] d.arcs names_formed (λ x among. absurd among) (faultless d none).arcs (omega arith))

  initial : lts.initial < length lts.state_names
  initial =
      let at = some_marked is_marked d.states (faultless d none).initial in
      let same = same_number at.0 lts.initial (sym at.1 ∙ is.initial) in
      omega (arith, at.2, same, ap length is.state_names, length-map d.states state_text)

  within : All (IsArcInRange lts) lts.arcs
  within k a lt =
      let b = get_or lts.arcs k a in
      let any = (is.arcs b).0 (Contains-get_or lts.arcs k a lt) in (
        slice_get_within lts.state_names b.from any.1.from.text any.4.0,
        slice_get_within lts.label_names b.label any.1.label.text any.4.1,
        slice_get_within lts.state_names b.to any.1.to.text any.4.2,
      )

  pub system_formed : IsWellFormed lts
  system_formed = record {
    in_range = record { initial = initial; arcs = within };
    state_names = subst AreNames (sym is.state_names) are_states;
    label_names = subst AreNames (sym is.label_names) are_labels;
    arc_order = is.in_order;
    few_states = subst (λ (l : List (List ℕ)). length l ≤ most_states) (sym is.state_names) few_states;
    few_labels = subst (λ (l : List (List ℕ)). length l ≤ most_labels) (sym is.label_names) few_labels;
    few_arcs = few_arcs;
  }

pub spelled_formed : (bytes : List ℕ) (lts : System) → Spells bytes lts → IsWellFormed lts
spelled_formed bytes lts (xs, items, lexemes, are, none, is) =
    system_formed (declared items) lts none (states_are_named bytes xs items lexemes are) (labels_are_named bytes xs items lexemes are) is
