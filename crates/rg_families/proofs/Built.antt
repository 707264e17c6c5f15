-- A system that is built of names.
use Rattle.std.proofs.Common.{◌≡◌, inl, inr, ⊎_elim, ℕ, ◌<◌, ◌≤◌, List, [], ◌∷◌, ◌++◌, length, map, take, get_or, slice_get, Contains, AllPairs, Some, sym, ap, subst, ◌∙◌, arith}
use Rattle.std.proofs.lemmas.List.{length-map, map-append, length-take-le}
use Rattle.std.proofs.lemmas.List.Elements.{Contains-append_left, Contains-append_cases}
use Rattle.rg_theory.specs.declared.Arc.{Arc}
use Rattle.rg_theory.specs.System.{System, IsArcBefore}
use Rattle.rg_theory.specs.Limits.{most_arcs}
use Rattle.rg_lts.specs.Draft.{Draft, HasNames, IsArcNamed, AddsArc, finished}
use Rattle.rg_lts.specs.WellFormed.{AreNames, IsWellFormed}
use Rattle.rg_lts.proofs.OrderedArcs.{has_from, contains_from, ordered_from}
use Rattle.rg_line_formats.specs.First.{same_arc}
use Rattle.rg_line_formats.proofs.Counted.{how_many}
use Rattle.rg_line_formats.proofs.Numbers.{number_is}
use Rattle.rg_line_formats.proofs.Things.{firsts_short, last_there, there_one}
use Rattle.rg_families.proofs.Pushed.{get_or_shown}
use Rattle.rg_families.specs.Named.{Triple, Drawing, arc_of, drawing, IsSystemOf, IsKnown, IsSound, HasArcs}

-- what stands at an index is there
pub item_there : {S X : Type 0} (view : S → X) (xs : List S) (k : ℕ) (s : S) → k < length xs → s ≡ get_or xs k s → Contains (map view xs) (view s)
item_there view xs k s lt is = (k, omega (arith, length-map xs view), get_or_shown view xs k s (view s) lt ∙ ap view (sym is))

-- arcs so far, and the names of the next one
pub names_there : (old new : Draft) (arcs : List Triple) (t : Triple) (from label to : List ℕ) → HasArcs old new arcs → IsKnown old.state_names old.label_names t
    → from ≡ t.from → label ≡ t.label → to ≡ t.to → HasNames new from label to
names_there old new arcs t from label to has known is_from is_label is_to = subst (λ (d : Draft). HasNames d from label to) (sym has.rest) (record {
  from = subst (Contains old.state_names) (sym is_from) known.from;
  label = subst (Contains old.label_names) (sym is_label) known.label;
  to = subst (Contains old.state_names) (sym is_to) known.to;
})

pub known_in : (d : Draft) (states labels : List (List ℕ)) (t : Triple) → d.state_names ≡ states → d.label_names ≡ labels → IsKnown states labels t → IsKnown d.state_names d.label_names t
known_in d states labels t is_states is_labels known = record {
  from = subst (λ l. Contains l t.from) (sym is_states) known.from;
  label = subst (λ l. Contains l t.label) (sym is_labels) known.label;
  to = subst (λ l. Contains l t.to) (sym is_states) known.to;
}

-- a drawing with the parts of a sound one
pub sound_from : (d : Drawing) (states labels : List (List ℕ)) (arcs : List Triple) (initial : List ℕ) → IsSound d → states ≡ d.states → labels ≡ d.labels → arcs ≡ d.arcs → initial ≡ d.initial
    → IsSound (drawing states labels arcs initial)
sound_from d states labels arcs initial sound is_states is_labels is_arcs is_initial =
    let same : drawing states labels arcs initial ≡ d = λ i. record { states = is_states i; labels = is_labels i; arcs = is_arcs i; initial = is_initial i } in
    subst IsSound (sym same) sound

-- arcs in order are no more than a list with the same members
pub few_arcs : (old new : Draft) (arcs : List Triple) → HasArcs old new arcs → AllPairs IsArcBefore new.arcs → length new.arcs ≤ length arcs
few_arcs old new arcs has order =
    let list = map (arc_of old.state_names old.label_names) arcs in
    let many = how_many new.arcs list (ordered_from new.arcs order) (λ c x. has_from list c ((has.members c).0 (contains_from new.arcs c x)))
    (λ c x. has_from new.arcs c ((has.members c).1 (contains_from list c x))) in
    omega (arith, many, firsts_short same_arc list, length-map arcs (arc_of old.state_names old.label_names))

-- there is room for one more
pub has_room : (old new : Draft) (all : List Triple) (k : ℕ) → k < length all → length all ≤ most_arcs → HasArcs old new (take k all) → AllPairs IsArcBefore new.arcs → most_arcs ≤ length new.arcs → ⊥
has_room old new all k lt few has order full =
    let less = few_arcs old new (take k all) has order in
    omega (arith, less, length-take-le k all (omega arith))

-- one arc more
pub arc_added : (old mid new : Draft) (arcs : List Triple) (t : Triple) (a : Arc) (source step target : List ℕ) → AreNames old.state_names → AreNames old.label_names → HasArcs old mid arcs
    → source ≡ t.from → step ≡ t.label → target ≡ t.to → IsArcNamed mid source step target a → AddsArc mid new a → HasArcs old new (arcs ++ t ∷ [])
arc_added old mid new arcs t a source step target states labels has is_source is_step is_target named adds =
    let same_states : mid.state_names ≡ old.state_names = ap (λ (d : Draft). d.state_names) has.rest in
    let same_labels : mid.label_names ≡ old.label_names = ap (λ (d : Draft). d.label_names) has.rest in
    let same_initial : mid.initial ≡ old.initial = ap (λ (d : Draft). d.initial) has.rest in
    let from = number_is old.state_names a.from t.from states (subst (λ l. slice_get l a.from ≡ Some t.from) same_states (named.from ∙ ap Some is_source)) in
    let label = number_is old.label_names a.label t.label labels (subst (λ l. slice_get l a.label ≡ Some t.label) same_labels (named.label ∙ ap Some is_step)) in
    let to = number_is old.state_names a.to t.to states (subst (λ l. slice_get l a.to ≡ Some t.to) same_states (named.to ∙ ap Some is_target)) in
    let f = arc_of old.state_names old.label_names in
    let is : f t ≡ a = λ i. record { from = from i; label = label i; to = to i } in
    let list : map f (arcs ++ t ∷ []) ≡ map f arcs ++ f t ∷ [] = map-append f arcs (t ∷ []) in
    record {
      rest = adds.rest ∙ (λ i. record { state_names = same_states i; label_names = same_labels i; arcs = new.arcs; initial = same_initial i });
      members = λ b. (
        λ h. subst (λ l. Contains l b) (sym list) (⊎_elim (λ o. Contains-append_left (map f arcs) (f t ∷ []) b ((has.members b).0 o))
            (λ e. subst (Contains (map f arcs ++ f t ∷ [])) (is ∙ sym e) (last_there (map f arcs) (f t))) ((adds.members b).0 h)),
        λ h. (adds.members b).1 (⊎_elim (λ o. inl ((has.members b).1 o)) (λ e. inr (sym (there_one (f t) b e) ∙ is))
            (Contains-append_cases (map f arcs) (f t ∷ []) b (subst (λ l. Contains l b) list h))),
      );
    }

-- the whole system
pub built : (d : Drawing) (labels arcs whole : Draft) (start : ℕ) (lts : System) → IsSound d
    → labels.state_names ≡ d.states → labels.label_names ≡ d.labels → HasArcs labels arcs d.arcs → slice_get arcs.state_names start ≡ Some d.initial
    → whole ≡ record arcs { initial = Some start } → whole.initial ≡ Some lts.initial → lts ≡ finished whole lts.initial → IsWellFormed lts → IsSystemOf d lts
built d labels arcs whole start lts sound has_states has_labels has at marked initial is formed =
    let same_states : arcs.state_names ≡ d.states = ap (λ (x : Draft). x.state_names) has.rest ∙ has_states in
    let same_labels : arcs.label_names ≡ d.labels = ap (λ (x : Draft). x.label_names) has.rest ∙ has_labels in
    let same_arcs : lts.arcs ≡ arcs.arcs = ap (λ (l : System). l.arcs) is ∙ ap (λ (x : Draft). x.arcs) marked in
    let begins : Some start ≡ Some lts.initial = sym (ap (λ (x : Draft). x.initial) marked) ∙ initial in
    let first : start ≡ lts.initial = cc in
    let number = number_is d.states start d.initial sound.state_names (subst (λ l. slice_get l start ≡ Some d.initial) same_states at) in
    let list : map (arc_of labels.state_names labels.label_names) d.arcs ≡ map (arc_of d.states d.labels) d.arcs =
    ap (λ l. map (arc_of l labels.label_names) d.arcs) has_states ∙ ap (λ l. map (arc_of d.states l) d.arcs) has_labels in
    record {
      state_names = ap (λ (l : System). l.state_names) is ∙ ap (λ (x : Draft). x.state_names) marked ∙ same_states;
      label_names = ap (λ (l : System). l.label_names) is ∙ ap (λ (x : Draft). x.label_names) marked ∙ same_labels;
      initial = sym first ∙ sym number;
      members = λ a. (
        λ h. subst (λ l. Contains l a) list ((has.members a).0 (subst (λ l. Contains l a) same_arcs h)),
        λ h. subst (λ l. Contains l a) (sym same_arcs) ((has.members a).1 (subst (λ l. Contains l a) (sym list) h)),
      );
      in_order = formed.arc_order;
    }
