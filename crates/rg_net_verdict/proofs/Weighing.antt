-- The list of a label's places tells of its firing what the net tells.
use Rattle.std.proofs.Common.{◌≡◌, ◌≢◌, ⊎_elim, ℕ, ◌+◌, ◌-◌, ◌<◌, ◌≤◌, List, length, get_or, Some, slice_get, All, Contains, sym, ap, subst, ◌∙◌, arith}
use Rattle.std.proofs.lemmas.Bool.{cases_order}
use Rattle.std.proofs.lemmas.List.Elements.{All-contains}
use Rattle.std.proofs.lemmas.Option.{slice_get_within}
use Rattle.std.proofs.lemmas.List.{get_or_default}
use Rattle.rg_integers.specs.Range.{greatest}
use Rattle.rg_theory.specs.Net.{Place, Net, Marking, IsPlaceAt, IsEnabled, Fires, pre_weight, post_weight, tokens}
use Rattle.rg_theory.proofs.Lists.{slice_get_some}
use Rattle.rg_net.specs.Firing.{left_on, IsFirstPassed}
use Rattle.rg_net_verdict.specs.declared.flow.Flow.{Flow}
use Rattle.rg_net_verdict.specs.Flows.{IsFlow, HasTokens, left_by, IsMoved, IsFirstOver}

module _ (net : Net) (t : ℕ) (flow : List Flow) (is : IsFlow net t flow) where
  -- a member of the list is a place with its weights
  member : (f : Flow) (i : ℕ) (p : Place) → Contains flow f → f.place ≡ i → IsPlaceAt net i p → (f.pre ≡ pre_weight p t) × (f.post ≡ post_weight p t)
  member f i p has e at =
      All-contains (λ g. (q : Place) → IsPlaceAt net g.place q → (g.pre ≡ pre_weight q t) × (g.post ≡ post_weight q t)) flow f is.weights has p
      (subst (λ k. slice_get net.places k ≡ Some p) (sym e) at)

  pub listed_within : (n : ℕ) → n ≡ length net.places → All (λ f. f.place < n) flow
  listed_within n e k d lt = let below = is.listed.within k d lt in omega arith

  pub enabled_by : (m : Marking) → HasTokens flow m → IsEnabled net m t
  enabled_by m has i p at = ⊎_elim listed (λ (none, none', apart). omega arith) (is.each i p (slice_get_within net.places i p at) at)
    where
      listed : (f : Flow) × Contains flow f × (f.place ≡ i) → pre_weight p t ≤ tokens m i
      listed (f, there, e) =
          let (pre, post) = member f i p there e at in
          let enough : f.pre ≤ get_or m f.place 0 = All-contains (λ g. g.pre ≤ get_or m g.place 0) flow f has there in
          let here = ap (λ j. get_or m j 0) e in
          omega arith

  pub tokens_of : (m : Marking) → IsEnabled net m t → HasTokens flow m
  tokens_of m enabled k d lt =
      let (p, at) = slice_get_some net.places (get_or flow k d).place (is.listed.within k d lt) in
      let (pre, post) = is.weights k d lt p at in
      let enough = enabled (get_or flow k d).place p at in
      omega arith

  left_is : (m : Marking) (f : Flow) (i : ℕ) (p : Place) → Contains flow f → f.place ≡ i → IsPlaceAt net i p → left_by m f ≡ left_on m i p t
  left_is m f i p has e at =
      let (pre, post) = member f i p has e at in
      let here = ap (λ j. get_or m j 0) e in
      omega arith

  module _ (from to : Marking) (long : length from ≡ length net.places) where
    pub fires_by : t < net.labels → IsEnabled net from t → IsMoved flow from to → Fires net from t to
    fires_by label enabled moved = record { label = label; enabled = enabled; places = moved.long ∙ long; moved = each }
      where
        each : (i : ℕ) (p : Place) → IsPlaceAt net i p → tokens to i ≡ tokens from i - pre_weight p t + post_weight p t
        each i p at = ⊎_elim listed other (is.each i p (slice_get_within net.places i p at) at)
          where
            listed : (f : Flow) × Contains flow f × (f.place ≡ i) → tokens to i ≡ tokens from i - pre_weight p t + post_weight p t
            listed (f, there, e) =
                let here : get_or to f.place 0 ≡ left_by from f = All-contains (λ g. get_or to g.place 0 ≡ left_by from g) flow f moved.each there in
                ap (λ j. get_or to j 0) (sym e) ∙ here ∙ left_is from f i p there e at

            other : (pre_weight p t ≡ 0) × (post_weight p t ≡ 0) × All (λ f. f.place ≢ i) flow → tokens to i ≡ tokens from i - pre_weight p t + post_weight p t
            other (none, none', apart) =
                let same = moved.others i (let lt = slice_get_within net.places i p at in omega arith) apart in
                omega arith

    pub moved_by : Fires net from t to → IsMoved flow from to
    moved_by fires = record { long = fires.places ∙ sym long; each = each; others = others }
      where
        each : All (λ f. get_or to f.place 0 ≡ left_by from f) flow
        each k d lt =
            let (p, at) = slice_get_some net.places (get_or flow k d).place (is.listed.within k d lt) in
            let (pre, post) = is.weights k d lt p at in
            let moved = fires.moved (get_or flow k d).place p at in
            omega arith

        others : (i : ℕ) → i < length from → All (λ f. f.place ≢ i) flow → get_or to i 0 ≡ get_or from i 0
        others i lt apart = by (slice_get_some net.places i (omega arith))
          where
            by : (p : Place) × IsPlaceAt net i p → get_or to i 0 ≡ get_or from i 0
            by (p, at) =
                let moved = fires.moved i p at in
                ⊎_elim
                (λ (f, there, e). absurd (All-contains (λ g. g.place ≢ i) flow f apart there e))
                (λ (none, none', apart'). omega arith)
                (is.each i p (slice_get_within net.places i p at) at)

  pub passed_by : (m : Marking) (i : ℕ) → All (λ n. n ≤ greatest) m → length m ≡ length net.places → IsFirstOver flow m i → IsFirstPassed net m t i
  passed_by m i small long over = by (slice_get_some net.places i within)
    where
      there : Contains flow over.f
      there = (over.k, over.below, over.at)

      within : i < length net.places
      within = subst (λ j. j < length net.places) over.place (All-contains (λ g. g.place < length net.places) flow over.f is.listed.within there)

      first : (j : ℕ) (q : Place) → j < i → IsPlaceAt net j q → left_on m j q t ≤ greatest
      first j q less at = ⊎_elim listed other (is.each j q (slice_get_within net.places j q at) at)
        where
          listed : (f : Flow) × Contains flow f × (f.place ≡ j) → left_on m j q t ≤ greatest
          listed (f, (k, lt, e), e') = ⊎_elim same (λ c. ⊎_elim before after c) (cases_order k over.k)
            where
              value : get_or flow k f ≡ f
              value = e

              same : k ≡ over.k → left_on m j q t ≤ greatest
              same same_k =
                  let is_over : f ≡ over.f = sym e ∙ ap (λ n. get_or flow n f) same_k ∙ get_or_default flow over.k f over.f over.below ∙ over.at in
                  let place = ap (λ (g : Flow). g.place) is_over in
                  let at_i = over.place in
                  absurd (omega arith)

              before : k < over.k → left_on m j q t ≤ greatest
              before lt' =
                  let few = subst (λ (g : Flow). left_by m g ≤ greatest) e (over.before k f lt') in
                  let is_left = left_is m f j q (k, lt, e) e' at in
                  omega arith

              after : over.k < k → left_on m j q t ≤ greatest
              after gt =
                  let order = is.listed.ordered over.k k f gt lt in
                  let at_over : get_or flow over.k f ≡ over.f = get_or_default flow over.k f over.f over.below ∙ over.at in
                  let place = ap (λ (g : Flow). g.place) at_over in
                  let place' = ap (λ (g : Flow). g.place) e in
                  let at_i = over.place in
                  absurd (omega arith)

          other : (pre_weight q t ≡ 0) × (post_weight q t ≡ 0) × All (λ f. f.place ≢ j) flow → left_on m j q t ≤ greatest
          other (none, none', apart) =
              let below = within in
              let few : get_or m j 0 ≤ greatest = small j 0 (omega arith) in
              omega arith

      by : (p : Place) × IsPlaceAt net i p → IsFirstPassed net m t i
      by (p, at) = record {
        place = p;
        at = at;
        passes = let is_left = left_is m over.f i p there over.place at in let more = over.over in omega arith;
        first = first;
      }
