-- A draft with one arc more.
use Rattle.std.proofs.Common.{◌≡◌, ◌⊎◌, inl, inr, ⊎_elim, ℕ, ◌+◌, ◌<◌, ◌≤◌, Bool, true, false, List, [], ◌∷◌, ◌++◌, length, slice_get, Contains, Some, refl, sym, ap, subst, ◌∙◌, arith}
use Rattle.std.specs.List.{list_any}
use Rattle.std.specs.Str.{bytes_eq}
use Rattle.rg_theory.specs.declared.Arc.{Arc}
use Rattle.rg_theory.specs.System.{arc}
use Rattle.rg_theory.specs.Limits.{most_states, most_labels, most_arcs}
use Rattle.rg_lts.specs.Draft.{Draft, IsArcNamed, AddsArc, IsWellFormedDraft}
use Rattle.rg_lts.proofs.OrderedArcs.{Has, has_from, contains_from, ordered_from, inserted}
use Rattle.rg_line_formats.specs.First.{with_new, firsts, number_of, same_arc}
use Rattle.rg_line_formats.specs.Grown.{with_state, with_label}
use Rattle.std.proofs.lemmas.Slice.Eq.{bytes_eq-Decides}
use Rattle.rg_line_formats.proofs.Things.{still_at}
use Rattle.rg_line_formats.proofs.Counted.{how_many, any_has, has_any, has_both, has_left, has_last}
use Rattle.rg_line_formats.proofs.Numbers.{number_is}
use Rattle.rg_genet.specs.Contents.{Triple, state_names, label_names, arc_of, arcs_of}
use Rattle.rg_genet.specs.Reading.{HasTriples}
use Rattle.rg_genet.proofs.Triples.{states_more, labels_more, arcs_more}

-- the draft with the names of the arc
pub record Named (before : List Triple) (t : Triple) (d0 d3 : Draft) : Type 0 where
  pub states : d3.state_names ≡ state_names (before ++ t ∷ [])
  pub labels : d3.label_names ≡ label_names (before ++ t ∷ [])
  pub arcs : d3.arcs ≡ d0.arcs
  pub initial : d3.initial ≡ d0.initial

pub named_after : (before : List Triple) (t : Triple) (d0 d1 d2 d3 : Draft) → HasTriples before d0 → d1 ≡ with_state d0 t.from → d2 ≡ with_state d1 t.to → d3 ≡ with_label d2 t.label
    → Named before t d0 d3
named_after before t d0 d1 d2 d3 h e1 e2 e3 =
    let whole : d3 ≡ with_label (with_state (with_state d0 t.from) t.to) t.label = e3 ∙ ap (λ d. with_label d t.label) (e2 ∙ ap (λ d. with_state d t.to) e1) in
    record {
      states = ap (λ (d : Draft). d.state_names) whole ∙ ap (λ l. with_new bytes_eq (with_new bytes_eq l t.from) t.to) h.states ∙ sym (states_more before t);
      labels = ap (λ (d : Draft). d.label_names) whole ∙ ap (λ l. with_new bytes_eq l t.label) h.labels ∙ sym (labels_more before t);
      arcs = ap (λ (d : Draft). d.arcs) whole;
      initial = ap (λ (d : Draft). d.initial) whole;
    }

-- the numbers of its names, each from when it is added
pub numbers_are : (t : Triple) (d1 d2 d3 : Draft) (from label to : ℕ) → d2 ≡ with_state d1 t.to → d3 ≡ with_label d2 t.label → slice_get d1.state_names from ≡ Some t.from
    → slice_get d2.state_names to ≡ Some t.to → slice_get d3.label_names label ≡ Some t.label → IsArcNamed d3 t.from t.label t.to (arc from label to)
numbers_are t d1 d2 d3 from label to e2 e3 at_from at_to at_label =
    let second = ap (λ (d : Draft). d.state_names) e2 in
    let third = ap (λ (d : Draft). d.state_names) e3 in
    record {
      from = subst (λ l. slice_get l from ≡ Some t.from) (sym (third ∙ second)) (still_at bytes_eq bytes_eq-Decides d1.state_names t.to from t.from at_from);
      label = at_label;
      to = subst (λ l. slice_get l to ≡ Some t.to) (sym third) at_to;
    }

-- the arc by the numbers of its names
abbrev new_arc : List Triple → Triple → Arc
new_arc before t = arc_of (state_names (before ++ t ∷ [])) (label_names (before ++ t ∷ [])) t

arc_is : (before : List Triple) (t : Triple) (d0 d3 : Draft) (a : Arc) → Named before t d0 d3 → IsWellFormedDraft d3 → IsArcNamed d3 t.from t.label t.to a → new_arc before t ≡ a
arc_is before t d0 d3 a n formed named =
    let from = ap (λ l. number_of bytes_eq l t.from) (sym n.states) ∙ number_is d3.state_names a.from t.from formed.state_names named.from in
    let label = ap (λ l. number_of bytes_eq l t.label) (sym n.labels) ∙ number_is d3.label_names a.label t.label formed.label_names named.label in
    let to = ap (λ l. number_of bytes_eq l t.to) (sym n.states) ∙ number_is d3.state_names a.to t.to formed.state_names named.to in
    λ i. record { from = from i; label = label i; to = to i }

-- the arcs so far
module _ (before : List Triple) (t : Triple) (d0 d3 : Draft) (h : HasTriples before d0) (n : Named before t d0 d3) (formed : IsWellFormedDraft d3) where
  old_to : (c : Arc) → Has d3.arcs c → Has (arcs_of before) c
  old_to c x = has_from (arcs_of before) c ((h.members c).0 (contains_from d0.arcs c (subst (λ l. Has l c) n.arcs x)))

  old_from : (c : Arc) → Has (arcs_of before) c → Has d3.arcs c
  old_from c x = subst (λ l. Has l c) (sym n.arcs) (has_from d0.arcs c ((h.members c).1 (contains_from (arcs_of before) c x)))

  all_to : (c : Arc) → Has d3.arcs c ⊎ (new_arc before t ≡ c) → Has (arcs_of (before ++ t ∷ [])) c
  all_to c x = subst (λ l. Has l c) (sym (arcs_more before t))
      (⊎_elim (λ old. has_left c (new_arc before t) (arcs_of before) (old_to c old)) (λ is. subst (Has (arcs_of before ++ new_arc before t ∷ [])) is (has_last (new_arc before t) (arcs_of before))) x)

  all_from : (c : Arc) → Has (arcs_of (before ++ t ∷ [])) c → Has d3.arcs c ⊎ (new_arc before t ≡ c)
  all_from c x = ⊎_elim (λ old. inl (old_from c old)) (λ is. inr is)
      (has_both c (new_arc before t) (arcs_of before) (subst (λ l. Has l c) (arcs_more before t) x))

  -- how many different arcs there are with the new one
  count_there : Has d3.arcs (new_arc before t) → length d3.arcs ≡ length (firsts same_arc (arcs_of (before ++ t ∷ [])))
  count_there has = how_many d3.arcs (arcs_of (before ++ t ∷ [])) (ordered_from d3.arcs formed.arc_order)
      (λ c x. all_to c (inl x)) (λ c x. ⊎_elim (λ old. old) (λ is. subst (Has d3.arcs) is has) (all_from c x))

  count_new : (Has d3.arcs (new_arc before t) → ⊥) → length d3.arcs + 1 ≡ length (firsts same_arc (arcs_of (before ++ t ∷ [])))
  count_new none =
      let put = inserted (new_arc before t) d3.arcs (ordered_from d3.arcs formed.arc_order) in
      sym (put.1.longer none) ∙ how_many put.0 (arcs_of (before ++ t ∷ [])) put.1.ordered
      (λ c x. all_to c (⊎_elim (λ is. inr is) (λ old. inl old) (put.1.to c x)))
      (λ c x. put.1.from c (⊎_elim (λ old. inr old) (λ is. inl is) (all_from c x)))

  -- the arc that is added
  module _ (a : Arc) (named : IsArcNamed d3 t.from t.label t.to a) where
    pub few_arcs : ((Contains d3.arcs a → ⊥) × (most_arcs ≤ length d3.arcs) → ⊥) → length (firsts same_arc (arcs_of (before ++ t ∷ []))) ≤ most_arcs
    few_arcs within = by (list_any (same_arc (new_arc before t)) d3.arcs) refl
      where
        by : (b : Bool) → list_any (same_arc (new_arc before t)) d3.arcs ≡ b → length (firsts same_arc (arcs_of (before ++ t ∷ []))) ≤ most_arcs
        by true e = let count = count_there (any_has (new_arc before t) d3.arcs e) in omega (arith, count, formed.few_arcs)
        by false e =
            let none : Has d3.arcs (new_arc before t) → ⊥ = λ x. (let found = has_any (new_arc before t) d3.arcs x in cc) in
            let count = count_new none in
            let less = below none in
            omega (arith, count, less)
          where
            below : (Has d3.arcs (new_arc before t) → ⊥) → length d3.arcs < most_arcs
            below none = decide (cases most_arcs (length d3.arcs))
              where
                cases : (m n : ℕ) → (m ≤ n) ⊎ (n < m)
                cases m n = grind arith

                decide : (most_arcs ≤ length d3.arcs) ⊎ (length d3.arcs < most_arcs) → length d3.arcs < most_arcs
                decide (inr less) = less
                decide (inl full) = absurd (within (λ there. none (subst (Has d3.arcs) (sym (arc_is before t d0 d3 a n formed named)) (has_from d3.arcs a there)), full))

    pub too_many_arcs : (Contains d3.arcs a → ⊥) → most_arcs ≤ length d3.arcs → most_arcs < length (firsts same_arc (arcs_of (before ++ t ∷ [])))
    too_many_arcs new full =
        let count = count_new (λ has. new (contains_from d3.arcs a (subst (Has d3.arcs) (arc_is before t d0 d3 a n formed named) has))) in
        omega (arith, count, full)

  pub with_arc : (d4 : Draft) (a : Arc) → IsArcNamed d3 t.from t.label t.to a → AddsArc d3 d4 a → HasTriples (before ++ t ∷ []) d4
  with_arc d4 a named adds =
      let states : d4.state_names ≡ d3.state_names = ap (λ (d : Draft). d.state_names) adds.rest in
      let labels : d4.label_names ≡ d3.label_names = ap (λ (d : Draft). d.label_names) adds.rest in
      let initial : d4.initial ≡ d3.initial = ap (λ (d : Draft). d.initial) adds.rest in
      let is = arc_is before t d0 d3 a n formed named in
      record {
        states = states ∙ n.states;
        labels = labels ∙ n.labels;
        members = λ c. (
          λ there. contains_from (arcs_of (before ++ t ∷ [])) c
              (all_to c (⊎_elim (λ old. inl (has_from d3.arcs c old)) (λ same. inr (is ∙ sym same)) ((adds.members c).0 there))),
          λ there. (adds.members c).1
              (⊎_elim (λ old. inl (contains_from d3.arcs c old)) (λ same. inr (sym same ∙ is)) (all_from c (has_from (arcs_of (before ++ t ∷ [])) c there))),
        );
        unmarked = initial ∙ n.initial ∙ h.unmarked;
        few_states = subst (λ l. length l ≤ most_states) (sym states) formed.few_states;
        few_labels = subst (λ l. length l ≤ most_labels) (sym labels) formed.few_labels;
      }

  pub few_names : (length (state_names (before ++ t ∷ [])) ≤ most_states) × (length (label_names (before ++ t ∷ [])) ≤ most_labels)
  few_names = (subst (λ l. length l ≤ most_states) n.states formed.few_states, subst (λ l. length l ≤ most_labels) n.labels formed.few_labels)
