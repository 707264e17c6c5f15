-- The list of a label's places, place by place, and the lists of all labels.
use Rattle.std.proofs.Common.{◌≡◌, ◌≢◌, ◌⊎◌, inl, inr, ⊎_elim, ℕ, zero, suc, ◌+◌, ◌<◌, ◌≤◌, ◌==◌, ◌&&◌, Bool, List, [], ◌∷◌, ◌++◌, length, get_or, Some, slice_get, All, Contains, Vec, refl, sym, ap, subst, ◌∙◌, arith, length-append}
use Rattle.std.specs.declared.alloc.Global.{Global}
use Rattle.std.proofs.Math.Bool.{and-false}
use Rattle.std.proofs.lemmas.Bool.{cases_lt, cases_eq, ne_eqb, cond-false}
use Rattle.std.proofs.Math.ListN.{set}
use Rattle.std.proofs.lemmas.List.{get_or_push, append-nil, length-set, get_or-set_other}
use Rattle.std.proofs.lemmas.Grind.{get_or-set_at}
use Rattle.std.proofs.lemmas.List.Elements.{All-push, All-weaker, Contains-push, Contains-append_left}
use Rattle.std.proofs.lemmas.Option.{same_Some}
use Rattle.rg_integers.specs.Range.{greatest}
use Rattle.rg_theory.specs.Net.{Place, Net, IsPlaceAt, pre_weight, post_weight}
use Rattle.rg_net_verdict.specs.declared.flow.Flow.{Flow}
use Rattle.rg_net_verdict.specs.Flows.{IsFlowBelow, IsFlow, AreFlowsBelow, AreFlowsAt, AreFlows, flow_if}

pub flow_start : (net : Net) (t : ℕ) → IsFlowBelow net t 0 []
flow_start net t = record {
  listed = record { within = λ k d lt. absurd (omega arith); ordered = λ j k d less lt. absurd (omega arith); post = λ k d lt. absurd (omega arith) };
  weights = λ k d lt. absurd (omega arith);
  each = λ i p lt at. absurd (omega arith);
}

get_or_before : {X : Type 0} (xs : List X) (y d : X) (k : ℕ) → k < length xs → get_or (xs ++ y ∷ []) k d ≡ get_or xs k d
get_or_before [] y d k lt = absurd (omega arith)
get_or_before (x ∷ xs) y d zero lt = refl
get_or_before (x ∷ xs) y d (suc k) lt = get_or_before xs y d k (omega arith)

module _ (net : Net) (t i : ℕ) (flow : List Flow) (so_far : IsFlowBelow net t i flow) (x : Place) (at : IsPlaceAt net i x) where
  -- the next place is listed
  pub flow_more : (f : Flow) → f.place ≡ i → f.pre ≡ pre_weight x t → f.post ≡ post_weight x t → f.post ≤ greatest → IsFlowBelow net t (i + 1) (flow ++ f ∷ [])
  flow_more f place pre post small =
      record {
        listed = record {
          within = All-push (λ g. g.place < i + 1) flow f (All-weaker (λ g. g.place < i) (λ g. g.place < i + 1) (λ g lt. omega arith) flow so_far.listed.within) (omega arith);
          ordered = ordered;
          post = All-push (λ g. g.post ≤ greatest) flow f so_far.listed.post small;
        };
        weights = All-push (λ g. (p : Place) → IsPlaceAt net g.place p → (g.pre ≡ pre_weight p t) × (g.post ≡ post_weight p t)) flow f so_far.weights here;
        each = each;
      }
    where
      here : (p : Place) → IsPlaceAt net f.place p → (f.pre ≡ pre_weight p t) × (f.post ≡ post_weight p t)
      here p at' =
          let same : x ≡ p = same_Some x p (sym at ∙ subst (λ k. slice_get net.places k ≡ Some p) place at') in
          (pre ∙ ap (λ q. pre_weight q t) same, post ∙ ap (λ q. post_weight q t) same)

      ordered : (j k : ℕ) (d : Flow) → j < k → k < length (flow ++ f ∷ []) → (get_or (flow ++ f ∷ []) j d).place < (get_or (flow ++ f ∷ []) k d).place
      ordered j k d less lt =
          let long = length-append flow (f ∷ []) in
          let first : get_or (flow ++ f ∷ []) j d ≡ get_or flow j d = get_or_before flow f d j (omega arith) in
          ⊎_elim
          (λ before. (let second = get_or_before flow f d k before in
          subst (λ (a : Flow). a.place < (get_or (flow ++ f ∷ []) k d).place) (sym first)
          (subst (λ (b : Flow). (get_or flow j d).place < b.place) (sym second) (so_far.listed.ordered j k d less before))))
          (λ last. (let second = get_or_push flow f d k (omega arith) in
          subst (λ (a : Flow). a.place < (get_or (flow ++ f ∷ []) k d).place) (sym first)
          (subst (λ (b : Flow). (get_or flow j d).place < b.place) (sym second) (let below = so_far.listed.within j d (omega arith) in omega arith))))
          (cases_lt k (length flow))

      each : (j : ℕ) (p : Place) → j < i + 1 → IsPlaceAt net j p
          → ((g : Flow) × Contains (flow ++ f ∷ []) g × (g.place ≡ j)) ⊎ ((pre_weight p t ≡ 0) × (post_weight p t ≡ 0) × All (λ g. g.place ≢ j) (flow ++ f ∷ []))
      each j p lt at' =
          ⊎_elim
          (λ before. ⊎_elim
          (λ (g, has, e). inl (g, Contains-append_left flow (f ∷ []) g has, e))
          (λ (none, none', apart). inr (none, none', All-push (λ g. g.place ≢ j) flow f apart (λ e. absurd (omega arith))))
          (so_far.each j p before at'))
          (λ last. inl (f, Contains-push flow f, omega arith))
          (cases_lt j i)

  -- the label neither takes from the next place nor puts on it
  pub flow_kept : pre_weight x t ≡ 0 → post_weight x t ≡ 0 → IsFlowBelow net t (i + 1) flow
  flow_kept none none' =
      record {
        listed = record {
          within = All-weaker (λ g. g.place < i) (λ g. g.place < i + 1) (λ g lt. omega arith) flow so_far.listed.within;
          ordered = so_far.listed.ordered;
          post = so_far.listed.post;
        };
        weights = so_far.weights;
        each = each;
      }
    where
      each : (j : ℕ) (p : Place) → j < i + 1 → IsPlaceAt net j p → ((g : Flow) × Contains flow g × (g.place ≡ j)) ⊎ ((pre_weight p t ≡ 0) × (post_weight p t ≡ 0) × All (λ g. g.place ≢ j) flow)
      each j p lt at' =
          ⊎_elim
          (λ before. so_far.each j p before at')
          (λ last. (let e : j ≡ i = omega arith in
          let same : x ≡ p = same_Some x p (sym at ∙ subst (λ k. slice_get net.places k ≡ Some p) e at') in
          inr (ap (λ q. pre_weight q t) (sym same) ∙ none, ap (λ q. post_weight q t) (sym same) ∙ none', λ k d lt' e'. absurd (let below = so_far.listed.within k d lt' in omega arith))))
          (cases_lt j i)

-- the next place joins the list, unless both weights are 0
pub flow_next : (net : Net) (t i : ℕ) (flow : List Flow) (x : Place) (pre post : ℕ) → IsFlowBelow net t i flow → IsPlaceAt net i x → pre ≡ pre_weight x t → post ≡ post_weight x t → post ≤ greatest
    → IsFlowBelow net t (i + 1) (flow ++ flow_if i pre post)
flow_next net t i flow x pre post so_far at is is' small = go (cases_eq pre 0) (cases_eq post 0)
  where
    one : Flow
    one = record { place = i; pre = pre; post = post }

    some : flow_if i pre post ≡ one ∷ [] → IsFlowBelow net t (i + 1) (flow ++ flow_if i pre post)
    some is_one = subst (λ l. IsFlowBelow net t (i + 1) (flow ++ l)) (sym is_one) (flow_more net t i flow so_far x at one refl is is' small)

    go : (pre ≡ 0) ⊎ (pre ≡ 0 → ⊥) → (post ≡ 0) ⊎ (post ≡ 0 → ⊥) → IsFlowBelow net t (i + 1) (flow ++ flow_if i pre post)
    go (inl none) (inl none') =
        let empty : flow_if i pre post ≡ [] = ap (λ (n : ℕ). flow_if i n post) none ∙ ap (λ (n : ℕ). flow_if i 0 n) none' in
        subst (λ l. IsFlowBelow net t (i + 1) (flow ++ l)) (sym empty)
        (subst (IsFlowBelow net t (i + 1)) (sym (append-nil flow)) (flow_kept net t i flow so_far x at (sym is ∙ none) (sym is' ∙ none')))
    go (inr ne) _ = some (cond-false ((pre == 0) && (post == 0)) [] (one ∷ []) (ap (λ (b : Bool). b && (post == 0)) (ne_eqb pre 0 ne)))
    go (inl none) (inr ne) = some (cond-false ((pre == 0) && (post == 0)) [] (one ∷ []) (ap (λ (b : Bool). (pre == 0) && b) (ne_eqb post 0 ne) ∙ and-false (pre == 0)))

pub flows_start : (net : Net) (flows : List (Vec Flow Global)) → length flows ≡ net.labels → All (λ f. f.items ≡ []) flows → AreFlowsBelow net 0 flows
flows_start net flows one_each empty = record {
  one_each = one_each;
  each = λ t d lt. subst (IsFlowBelow net t 0) (sym (empty t d (omega (arith, one_each, lt)))) (flow_start net t);
}

pub at_start : (net : Net) (i : ℕ) (flows : List (Vec Flow Global)) → AreFlowsBelow net i flows → AreFlowsAt net i 0 flows
at_start net i flows are = record { one_each = are.one_each; done = λ t d lt few. absurd (omega arith); left = λ t d le few. are.each t d few }

pub at_more : (net : Net) (i k : ℕ) (flows : List (Vec Flow Global)) (x : Vec Flow Global) → AreFlowsAt net i k flows → k < length flows → IsFlowBelow net k (i + 1) x.items
    → AreFlowsAt net i (k + 1) (set flows k x)
at_more net i k flows x are lt next = record {
  one_each = length-set flows k x ∙ are.one_each;
  done = λ t d less few. done t d (cases_eq t k) less few;
  left = λ t d le few. subst (λ (v : Vec Flow Global). IsFlowBelow net t i v.items) (sym (get_or-set_other flows k t x d (omega (arith, le)))) (are.left t d (omega (arith, le)) few);
}
  where
    done : (t : ℕ) (d : Vec Flow Global) → (t ≡ k) ⊎ (t ≡ k → ⊥) → t < k + 1 → t < net.labels → IsFlowBelow net t (i + 1) (get_or (set flows k x) t d).items
    done t d (inl same) less few =
        subst (λ (v : Vec Flow Global). IsFlowBelow net t (i + 1) v.items) (sym (get_or-set_at flows k t x d same lt)) (subst (λ n. IsFlowBelow net n (i + 1) x.items) (sym same) next)
    done t d (inr ne) less few =
        subst (λ (v : Vec Flow Global). IsFlowBelow net t (i + 1) v.items) (sym (get_or-set_other flows k t x d ne)) (are.done t d (omega (arith, less, ne)) few)

pub at_end : (net : Net) (i k : ℕ) (flows : List (Vec Flow Global)) → length flows ≤ k → AreFlowsAt net i k flows → AreFlowsBelow net (i + 1) flows
at_end net i k flows all are = let long = are.one_each in record { one_each = long; each = λ t d lt. are.done t d (omega (arith, all, long, lt)) lt }

-- the list of a label that was read
pub flow_read : (net : Net) (flows : List (Vec Flow Global)) (t : ℕ) (x : Vec Flow Global) → AreFlows net flows → t < net.labels → x ≡ get_or flows t x → IsFlow net t x.items
flow_read net flows t x are lt e = subst (λ (v : Vec Flow Global). IsFlow net t v.items) (sym e) (are.each t x lt)
