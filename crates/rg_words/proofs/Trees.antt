-- A tree that grows by a label.
use Rattle.std.proofs.Common.{◌≡◌, ◌↔◌, ◌⊎◌, ℕ, ◌+◌, ◌<◌, ◌≤◌, List, [], ◌∷◌, ◌++◌, length, Contains, AllPairs, decimal, refl, sym, ap, subst, ◌∙◌, arith}
use Rattle.std.proofs.lemmas.List.{length-append}
use Rattle.rg_theory.specs.Limits.{most_arcs}
use Rattle.rg_theory.specs.declared.Arc.{Arc}
use Rattle.rg_theory.specs.System.{IsArcBefore}
use Rattle.rg_lts.specs.Draft.{Draft, IsArcWithin, AddsArc, IsWellFormedDraft}
use Rattle.rg_lts.proofs.OrderedArcs.{has_from, contains_from, ordered_from}
use Rattle.rg_line_formats.specs.First.{same_arc}
use Rattle.rg_line_formats.proofs.Counted.{how_many}
use Rattle.rg_line_formats.proofs.Things.{firsts_short}
use Rattle.rg_words.specs.Contents.{state_names}
use Rattle.rg_words.specs.Reading.{step_arcs, arcs_from, IsDraftOf, IsGrown}
use Rattle.rg_words.proofs.Steps.{names_more, states_long}

steps_long : (k : ℕ) (steps : List (ℕ × ℕ)) → length (arcs_from k steps) ≡ length steps
steps_long k [] = refl
steps_long k (s ∷ steps) = let r = steps_long (k + 1) steps in omega (arith, r)

-- arcs in order are no more than the steps that they are
pub few_arcs : (arcs : List Arc) (steps : List (ℕ × ℕ)) → ((a : Arc) → Contains arcs a ↔ Contains (step_arcs steps) a) → AllPairs IsArcBefore arcs → length arcs ≤ length steps
few_arcs arcs steps same order =
    let many = how_many arcs (step_arcs steps) (ordered_from arcs order) (λ c x. has_from (step_arcs steps) c ((same c).0 (contains_from arcs c x)))
    (λ c x. has_from arcs c ((same c).1 (contains_from (step_arcs steps) c x))) in
    omega (arith, many, firsts_short same_arc (step_arcs steps), steps_long 1 steps)

-- an arc to the state that is added is in range
pub arc_within : (old d : Draft) (a : Arc) (name : List ℕ) → old.state_names ≡ state_names a.to → a.from < a.to → a.label < length old.label_names
    → d ≡ record old { state_names = old.state_names ++ name ∷ [] } → IsArcWithin d a
arc_within old d a name names from label is =
    let longer : length (old.state_names ++ name ∷ []) ≡ a.to + 1 =
    length-append old.state_names (name ∷ []) ∙ ap (λ n. n + 1) (ap length names ∙ states_long a.to) in
    subst (λ (x : Draft). IsArcWithin x a) (sym is) (omega (arith, longer), label, omega (arith, longer))

-- a state is added, and an arc to it
pub grown_is : (old d new : Draft) (a : Arc) (name : List ℕ) → old.state_names ≡ state_names a.to → name ≡ 115 ∷ decimal a.to
    → d ≡ record old { state_names = old.state_names ++ name ∷ [] } → AddsArc d new a → IsGrown old new a
grown_is old d new a name names named is added =
    let states : d.state_names ≡ state_names (a.to + 1) =
    ap (λ (x : Draft). x.state_names) is ∙ ap (λ l. l ++ name ∷ []) names ∙ ap (λ n. state_names a.to ++ n ∷ []) named ∙ sym (names_more a.to) in
    let labels : d.label_names ≡ old.label_names = ap (λ (x : Draft). x.label_names) is in
    let arcs : d.arcs ≡ old.arcs = ap (λ (x : Draft). x.arcs) is in
    let start : d.initial ≡ old.initial = ap (λ (x : Draft). x.initial) is in
    record {
      rest = added.rest ∙ (λ i. record { state_names = states i; label_names = labels i; arcs = new.arcs; initial = start i });
      arcs = λ b. subst (λ l. Contains new.arcs b ↔ (Contains l b ⊎ (b ≡ a))) arcs (added.members b);
    }

-- there is room for an arc
pub room_left : (old d : Draft) (steps : List (ℕ × ℕ)) → IsDraftOf old steps → d.arcs ≡ old.arcs → IsWellFormedDraft d → most_arcs ≤ length d.arcs → ⊥
room_left old d steps h arcs formed full =
    let few = few_arcs d.arcs steps (λ a. subst (λ l. Contains l a ↔ Contains (step_arcs steps) a) (sym arcs) (h.arcs a)) formed.arc_order in
    omega (arith, few, h.few_steps, full)
