-- A label is taken: where it leads, and its fault.
use Rattle.std.proofs.Common.{◌≡◌, ◌↔◌, ⊎_elim, inl, inr, ℕ, ◌+◌, ◌<◌, ◌≤◌, nat_lt, false, List, [], ◌∷◌, ◌++◌, length, slice_get, Contains, None, Some, sym, ap, subst, ◌∙◌, arith}
use Rattle.std.specs.Str.{bytes_eq}
use Rattle.std.proofs.lemmas.Bool.{cond-true, cond-false, lt-ltb, le-ltb}
use Rattle.std.proofs.lemmas.List.{length-append}
use Rattle.std.proofs.lemmas.List.Elements.{Contains-append_left, Contains-append_cases}
use Rattle.rg_text.specs.Limits.{most_name_bytes}
use Rattle.rg_theory.specs.Limits.{most_states, most_labels}
use Rattle.rg_theory.specs.System.{arc}
use Rattle.rg_lts.specs.Draft.{Draft}
use Rattle.rg_line_formats.specs.First.{with_new}
use Rattle.rg_line_formats.specs.Grown.{with_label}
use Rattle.rg_line_formats.proofs.Things.{there_one, last_there}
use Rattle.rg_words.specs.declared.fault.WordFault.TheVariants.{TooManyStates}
use Rattle.rg_words.specs.Contents.{Word, Use, prefix, prefixes, label_names, state_names, name_bytes, fault_of, use_fault}
use Rattle.rg_words.specs.Reading.{use_of, step_arcs, IsDraftOf, IsAt, IsGrown}
use Rattle.rg_words.proofs.Growing.{labels_more, old_step, old_same, new_step, new_words, arcs_from-append}

-- the fault of a label that is a name
module _ (n : ℕ) (label : List ℕ) (all : List Use) (short : nat_lt most_name_bytes (name_bytes label) ≡ false) (whole : nat_lt (name_bytes label) (length label) ≡ false) where
  states_many : length (label_names all) ≤ most_labels → most_states < length (prefixes all) → fault_of n label all ≡ Some (TooManyStates n)
  states_many few many =
      cond-false (nat_lt most_name_bytes (name_bytes label)) _ _ short
      ∙ cond-false (nat_lt (name_bytes label) (length label)) _ _ whole
      ∙ cond-false (nat_lt most_labels (length (label_names all))) _ _ (le-ltb most_labels (length (label_names all)) few)
      ∙ cond-true (nat_lt most_states (length (prefixes all))) _ _ (lt-ltb most_states (length (prefixes all)) many)

  no_fault : length (label_names all) ≤ most_labels → length (prefixes all) ≤ most_states → fault_of n label all ≡ None
  no_fault few few_states =
      cond-false (nat_lt most_name_bytes (name_bytes label)) _ _ short
      ∙ cond-false (nat_lt (name_bytes label) (length label)) _ _ whole
      ∙ cond-false (nat_lt most_labels (length (label_names all))) _ _ (le-ltb most_labels (length (label_names all)) few)
      ∙ cond-false (nat_lt most_states (length (prefixes all))) _ _ (le-ltb most_states (length (prefixes all)) few_states)

names_after : (all : List Use) (before : Word) (n : ℕ) (label : List ℕ) (names more : List (List ℕ)) (steps : List (ℕ × ℕ)) (state : ℕ) → IsAt all before names steps state
    → more ≡ with_new bytes_eq names label → more ≡ label_names (all ++ use_of n before label ∷ [])
names_after all before n label names more steps state h grown = grown ∙ ap (λ l. with_new bytes_eq l label) h.labels ∙ sym (labels_more all (use_of n before label))

-- what the label and its step lead to
module _ (all : List Use) (before : Word) (n : ℕ) (label : List ℕ) (names more : List (List ℕ)) (steps : List (ℕ × ℕ)) (state t : ℕ) (h : IsAt all before names steps state)
    (grown : more ≡ with_new bytes_eq names label) (named : slice_get more t ≡ Some label)
    (short : nat_lt most_name_bytes (name_bytes label) ≡ false) (whole : nat_lt (name_bytes label) (length label) ≡ false) (few : length more ≤ most_labels) where
  labels_are : more ≡ label_names (all ++ use_of n before label ∷ [])
  labels_are = names_after all before n label names more steps state h grown

  named_there : slice_get (label_names (all ++ use_of n before label ∷ [])) t ≡ Some label
  named_there = subst (λ l. slice_get l t ≡ Some label) labels_are named

  few_there : length (label_names (all ++ use_of n before label ∷ [])) ≤ most_labels
  few_there = subst (λ l. length l ≤ most_labels) labels_are few

  -- the step is there
  pub old_label : (i : ℕ) → slice_get steps i ≡ Some (state, t) → length steps < most_states
      → IsAt (all ++ use_of n before label ∷ []) (before ++ label ∷ []) more steps (i + 1) × (use_fault all (use_of n before label) ≡ None)
  old_label i e room =
      let u = use_of n before label in
      let r = old_step all steps h.tree u state t h.index named_there i e in
      let same : length (prefixes (all ++ u ∷ [])) ≡ length (prefixes all) = ap length (old_same all steps h.tree u state t h.index named_there i e) in (
        record { labels = labels_are; tree = r.0; index = r.1 },
        no_fault n label (all ++ u ∷ []) short whole few_there (omega (arith, same, h.tree.size, room)),
      )

  -- the step is new
  new_size : (Contains steps (state, t) → ⊥) → length (prefixes (all ++ use_of n before label ∷ [])) ≡ length steps + 2
  new_size none =
      let u = use_of n before label in
      let e = ap length (new_words all steps h.tree u state t h.index named_there none) in
      omega (arith, e, length-append (prefixes all) (prefix u ∷ []), h.tree.size)

  pub new_label : (Contains steps (state, t) → ⊥) → length steps + 1 < most_states
      → IsAt (all ++ use_of n before label ∷ []) (before ++ label ∷ []) more (steps ++ (state, t) ∷ []) (length steps + 1)
      × (use_fault all (use_of n before label) ≡ None)
  new_label none room =
      let u = use_of n before label in
      let r = new_step all steps h.tree u state t h.index named_there none in (
        record { labels = labels_are; tree = r.0; index = r.1 },
        no_fault n label (all ++ u ∷ []) short whole few_there (omega (arith, new_size none, room)),
      )

  pub too_many_states : (Contains steps (state, t) → ⊥) → most_states ≤ length steps + 1 → use_fault all (use_of n before label) ≡ Some (TooManyStates n)
  too_many_states none full = states_many n label (all ++ use_of n before label ∷ []) short whole few_there (omega (arith, new_size none, full))

-- the draft has one label more
pub draft_same : (d e : Draft) (steps : List (ℕ × ℕ)) (name : List ℕ) → IsDraftOf d steps → e ≡ with_label d name
    → (length d.label_names ≤ most_labels → length e.label_names ≤ most_labels) → IsDraftOf e steps
draft_same d e steps name h is few = record {
  states = ap (λ (x : Draft). x.state_names) is ∙ h.states;
  initial = ap (λ (x : Draft). x.initial) is ∙ h.initial;
  arcs = λ a. subst (λ l. Contains l a ↔ Contains (step_arcs steps) a) (sym (ap (λ (x : Draft). x.arcs) is)) (h.arcs a);
  few_steps = h.few_steps;
  few_labels = few h.few_labels;
}

-- the draft has one state more, and an arc to it
pub draft_more : (e g : Draft) (steps : List (ℕ × ℕ)) (state t to : ℕ) → IsDraftOf e steps → IsGrown e g (arc state t to)
    → to ≡ length steps + 1 → to < most_states → IsDraftOf g (steps ++ (state, t) ∷ [])
draft_more e g steps state t to h grown to_is room =
    let longer : to ≡ length (steps ++ (state, t) ∷ []) = to_is ∙ sym (length-append steps ((state, t) ∷ [])) in
    let index : 1 + length steps ≡ to = omega (arith, to_is) in
    let arcs : step_arcs (steps ++ (state, t) ∷ []) ≡ step_arcs steps ++ arc state t to ∷ [] =
    arcs_from-append 1 steps (state, t) ∙ ap (λ m. step_arcs steps ++ arc state t m ∷ []) index in
    record {
      states = ap (λ (x : Draft). x.state_names) grown.rest ∙ ap (λ m. state_names (m + 1)) longer;
      initial = ap (λ (x : Draft). x.initial) grown.rest ∙ h.initial;
      arcs = λ a. (
        λ has. subst (λ l. Contains l a) (sym arcs)
            (⊎_elim (λ old. Contains-append_left (step_arcs steps) _ a ((h.arcs a).0 old))
            (λ new. subst (Contains (step_arcs steps ++ arc state t to ∷ [])) (sym new) (last_there (step_arcs steps) (arc state t to))) ((grown.arcs a).0 has)),
        λ has. (grown.arcs a).1 (⊎_elim (λ old. inl ((h.arcs a).1 old)) (λ new. inr (sym (there_one _ a new)))
            (Contains-append_cases (step_arcs steps) _ a (subst (λ l. Contains l a) arcs has))),
      );
      few_steps = omega (arith, longer, room);
      few_labels = subst (λ (l : List (List ℕ)). length l ≤ most_labels) (sym (ap (λ (x : Draft). x.label_names) grown.rest)) h.few_labels;
    }
