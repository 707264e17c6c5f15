-- A system that is built of names and arcs, one after the other.
use Rattle.std.proofs.Common.{◌≡◌, ◌≢◌, inl, inr, ⊎_elim, ℕ, ◌+◌, ◌<◌, ◌≤◌, List, [], ◌∷◌, ◌++◌, length, map, take, get_or, slice_get, AllPairs, Contains, Some, None, IsSomeAnd, sym, ap, subst, ◌∙◌, arith}
use Rattle.std.proofs.Math.ListN.{get_or-map}
use Rattle.std.proofs.lemmas.List.{length-map, length-take-le, get_or-take, take_more}
use Rattle.std.proofs.lemmas.List.Elements.{Contains-append_left, Contains-append_cases}
use Rattle.std.proofs.lemmas.Option.{slice_get_within, slice_get-get_or, get_or_from_slice_get}
use Rattle.rg_text.specs.Byte.{IsName}
use Rattle.rg_theory.specs.declared.Arc.{Arc}
use Rattle.rg_theory.specs.System.{System, IsArcBefore}
use Rattle.rg_theory.specs.Limits.{most_arcs}
use Rattle.rg_lts.specs.Draft.{Draft, IsArcWithin, AddsArc, IsOtherInitial, finished}
use Rattle.rg_lts.specs.WellFormed.{AreNames, IsWellFormed}
use Rattle.rg_lts.proofs.Drafts.{one_index}
use Rattle.rg_lts.proofs.OrderedArcs.{has_from, contains_from, ordered_from}
use Rattle.rg_line_formats.specs.First.{same_arc}
use Rattle.rg_line_formats.specs.Parts.{IsSystemWith, HasArcsOf}
use Rattle.rg_line_formats.proofs.Counted.{how_many}
use Rattle.rg_line_formats.proofs.Things.{firsts_short, last_there, there_one}

-- names
pub name_at : {S : Type 0} (view : S → List ℕ) (names : List S) (k : ℕ) (d : S) → k < length names → slice_get (map view names) k ≡ Some (view (get_or names k d))
name_at view names k d lt = slice_get-get_or (map view names) k (view d) (omega (arith, length-map names view)) ∙ ap Some (get_or-map view names k d)

pub is_name_at : (names : List (List ℕ)) (k : ℕ) (name : List ℕ) → AreNames names → slice_get names k ≡ Some name → IsName name
is_name_at names k name are at = subst IsName (get_or_from_slice_get names k name name at) (are.each k name (slice_get_within names k name at))

pub is_new_at : (names : List (List ℕ)) (k : ℕ) (name : List ℕ) → AreNames names → slice_get names k ≡ Some name → Contains (take k names) name → ⊥
is_new_at names k name are at (i, within, e) =
    let lt = slice_get_within names k name at in
    let less : i < k = omega (arith, within, length-take-le k names (omega arith)) in
    are.differ i k name less lt (sym (get_or-take k names i name less) ∙ e ∙ sym (get_or_from_slice_get names k name name at))

pub has_room : {S X : Type 0} (view : S → X) (names : List S) (k most : ℕ) → k < length names → length names ≤ most → most ≤ length (take k (map view names)) → ⊥
has_room view names k most lt few full = omega (arith, length-map names view, length-take-le k (map view names) (omega (arith, length-map names view)))

next_taken : (names : List (List ℕ)) (k : ℕ) (name : List ℕ) → slice_get names k ≡ Some name → take (k + 1) names ≡ take k names ++ name ∷ []
next_taken names k name at =
    take_more names k name (slice_get_within names k name at) ∙ ap (λ n. take k names ++ n ∷ []) (get_or_from_slice_get names k name name at)

pub state_next : (old mid new : Draft) (names : List (List ℕ)) (k : ℕ) (name : List ℕ) → slice_get names k ≡ Some name
    → mid ≡ record old { state_names = take k names } → new ≡ record mid { state_names = mid.state_names ++ name ∷ [] } → new ≡ record old { state_names = take (k + 1) names }
state_next old mid new names k name at was added =
    let more : mid.state_names ++ name ∷ [] ≡ take (k + 1) names = ap (λ (d : Draft). d.state_names ++ name ∷ []) was ∙ sym (next_taken names k name at) in
    added ∙ (λ i. record (was i) { state_names = more i })

pub label_next : (old mid new : Draft) (names : List (List ℕ)) (k : ℕ) (name : List ℕ) → slice_get names k ≡ Some name
    → mid ≡ record old { label_names = take k names } → new ≡ record mid { label_names = mid.label_names ++ name ∷ [] } → new ≡ record old { label_names = take (k + 1) names }
label_next old mid new names k name at was added =
    let more : mid.label_names ++ name ∷ [] ≡ take (k + 1) names = ap (λ (d : Draft). d.label_names ++ name ∷ []) was ∙ sym (next_taken names k name at) in
    added ∙ (λ i. record (was i) { label_names = more i })

-- arcs
pub still_within : (old mid : Draft) (steps : List Arc) (a : Arc) → HasArcsOf old mid steps → IsArcWithin old a → IsArcWithin mid a
still_within old mid steps a has within = subst (λ (d : Draft). IsArcWithin d a) (sym has.rest) (within.0, within.1, within.2)

few_arcs : (old mid : Draft) (arcs : List Arc) → HasArcsOf old mid arcs → AllPairs IsArcBefore mid.arcs → length mid.arcs ≤ length arcs
few_arcs old mid arcs has order =
    let many = how_many mid.arcs arcs (ordered_from mid.arcs order) (λ c x. has_from arcs c ((has.members c).0 (contains_from mid.arcs c x)))
    (λ c x. has_from mid.arcs c ((has.members c).1 (contains_from arcs c x))) in
    omega (arith, many, firsts_short same_arc arcs)

pub has_arc_room : (old mid : Draft) (all : List Arc) (k : ℕ) → k < length all → length all ≤ most_arcs → HasArcsOf old mid (take k all)
    → AllPairs IsArcBefore mid.arcs → most_arcs ≤ length mid.arcs → ⊥
has_arc_room old mid all k lt few has order full =
    let less = few_arcs old mid (take k all) has order in
    omega (arith, less, length-take-le k all (omega arith))

pub arc_added : (old mid new : Draft) (arcs : List Arc) (a : Arc) → HasArcsOf old mid arcs → AddsArc mid new a → HasArcsOf old new (arcs ++ a ∷ [])
arc_added old mid new arcs a has adds =
    let same_states : mid.state_names ≡ old.state_names = ap (λ (d : Draft). d.state_names) has.rest in
    let same_labels : mid.label_names ≡ old.label_names = ap (λ (d : Draft). d.label_names) has.rest in
    let same_initial : mid.initial ≡ old.initial = ap (λ (d : Draft). d.initial) has.rest in
    record {
      rest = adds.rest ∙ (λ i. record { state_names = same_states i; label_names = same_labels i; arcs = new.arcs; initial = same_initial i });
      members = λ c. (
        λ h. ⊎_elim (λ o. Contains-append_left arcs (a ∷ []) c ((has.members c).0 o))
            (λ e. subst (Contains (arcs ++ a ∷ [])) (sym e) (last_there arcs a)) ((adds.members c).0 h),
        λ h. (adds.members c).1 (⊎_elim (λ o. inl ((has.members c).1 o)) (λ e. inr (sym (there_one a c e)))
            (Contains-append_cases arcs (a ∷ []) c h)),
      );
    }

pub arc_next : (old mid new : Draft) (all : List Arc) (k : ℕ) (d : Arc) → k < length all → HasArcsOf old mid (take k all) → AddsArc mid new (get_or all k d)
    → HasArcsOf old new (take (k + 1) all)
arc_next old mid new all k d lt has adds = subst (HasArcsOf old new) (sym (take_more all k d lt)) (arc_added old mid new (take k all) (get_or all k d) has adds)

-- no state is initial yet
pub none_initial : (d : Draft) (name : List ℕ) → d.initial ≡ None → IsOtherInitial d name → ⊥
none_initial d name none other = subst (λ o. IsSomeAnd o (λ s. slice_get d.state_names s ≢ Some name)) none other.1

-- the whole system
pub built : (states labels : List (List ℕ)) (steps : List Arc) (first start : ℕ) (name : List ℕ) (named arcs whole : Draft) (lts : System) → AreNames states
    → named.state_names ≡ states → named.label_names ≡ labels → HasArcsOf named arcs steps → slice_get states first ≡ Some name → slice_get arcs.state_names start ≡ Some name
    → whole ≡ record arcs { initial = Some start } → whole.initial ≡ Some lts.initial → lts ≡ finished whole lts.initial → IsWellFormed lts → IsSystemWith states labels steps first lts
built states labels steps first start name named arcs whole lts names is_states is_labels has at_first at marked initial is formed =
    let same_states : arcs.state_names ≡ states = ap (λ (x : Draft). x.state_names) has.rest ∙ is_states in
    let same_labels : arcs.label_names ≡ labels = ap (λ (x : Draft). x.label_names) has.rest ∙ is_labels in
    let same_arcs : lts.arcs ≡ arcs.arcs = ap (λ (l : System). l.arcs) is ∙ ap (λ (x : Draft). x.arcs) marked in
    let begins : Some start ≡ Some lts.initial = sym (ap (λ (x : Draft). x.initial) marked) ∙ initial in
    let same : start ≡ lts.initial = cc in
    let one = one_index states start first name names.differ (subst (λ l. slice_get l start ≡ Some name) same_states at) at_first in
    record {
      state_names = ap (λ (l : System). l.state_names) is ∙ ap (λ (x : Draft). x.state_names) marked ∙ same_states;
      label_names = ap (λ (l : System). l.label_names) is ∙ ap (λ (x : Draft). x.label_names) marked ∙ same_labels;
      initial = sym same ∙ one;
      members = λ a. (
        λ h. (has.members a).0 (subst (λ l. Contains l a) same_arcs h),
        λ h. subst (λ l. Contains l a) (sym same_arcs) ((has.members a).1 h),
      );
      in_order = formed.arc_order;
    }
