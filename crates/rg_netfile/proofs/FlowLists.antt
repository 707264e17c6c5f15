-- The flows of all labels, place by place.
use Rattle.std.proofs.Common.{◌≡◌, ◌⊎◌, inl, inr, ℕ, ◌+◌, ◌<◌, List, [], ◌++◌, length, map, take, drop, get_or, All, sym, ap, subst, ◌∙◌, arith, append-nil}
use Rattle.std.proofs.Math.ListN.{set}
use Rattle.std.proofs.lemmas.Bool.{cases_eq}
use Rattle.std.proofs.Math.Seq.{take-length}
use Rattle.std.specs.Option.{option_map}
use Rattle.std.proofs.lemmas.List.{length-map, length-set, get_or_default, get_or-set_other, drop_all, take_all}
use Rattle.std.proofs.lemmas.Option.{slice_get-map, slice_get_within, get_or_from_slice_get}
use Rattle.std.proofs.lemmas.Grind.{get_or-set_at}
use Rattle.rg_theory.specs.Net.{Net, Place as PlaceOfTheory, IsPlaceAt, pre_weight, post_weight}
use Rattle.rg_net.specs.NetText.{taken_by, put_by}
use Rattle.rg_net.specs.declared.net.Place.{Place}
use Rattle.rg_net.specs.Shown.{shown_place}
use Rattle.rg_netfile.specs.declared.flows.Flow.{Flow}
use Rattle.rg_netfile.specs.ListedSets.{member_if, members_of, IsFlow, AreFlows, AreFlowsWith}
use Rattle.rg_netfile.proofs.Listed.{members_next}

-- of the places below n
pub record IsFlowBelow (net : Net) (n t : ℕ) (flow : Flow) : Type 0 where
  pub taken : flow.taken.items ≡ members_of (take n (taken_by net t))
  pub put : flow.put.items ≡ members_of (take n (put_by net t))

pub record AreFlowsBelow (net : Net) (n : ℕ) (flows : List Flow) : Type 0 where
  pub one_each : length flows ≡ net.labels
  pub each : (t : ℕ) (d : Flow) → t < net.labels → IsFlowBelow net n t (get_or flows t d)

pub flows_start : (net : Net) (flows : List Flow) → length flows ≡ net.labels → All (λ f. f.taken.items ≡ []) flows → All (λ f. f.put.items ≡ []) flows → AreFlowsBelow net 0 flows
flows_start net flows one_each taken put = record {
  one_each = one_each;
  each = λ t d lt. record { taken = taken t d (omega (arith, one_each, lt)); put = put t d (omega (arith, one_each, lt)) };
}

-- one flow more has it
pub with_more : (place : Place) (i t : ℕ) (before after : List Flow) (old new : Flow) → AreFlowsWith place i t before after → t < length after → old ≡ get_or after t old
    → new.taken.items ≡ old.taken.items ++ member_if i (get_or place.pre.items t 0) → new.put.items ≡ old.put.items ++ member_if i (get_or place.post.items t 0)
    → AreFlowsWith place i (t + 1) before (set after t new)
with_more place i t before after old new so_far lt is taken put = record {
  long = length-set after t new ∙ so_far.long;
  taken = λ u d less few. taken_at u d (cases_eq u t) less few;
  put = λ u d less few. put_at u d (cases_eq u t) less few;
  left = λ u d le few. get_or-set_other after t u new d (omega (arith, le)) ∙ so_far.left u d (omega (arith, le)) few;
}
  where
    same_old : (d : Flow) → t < length before → old ≡ get_or before t d
    same_old d few = is ∙ get_or_default after t old d lt ∙ so_far.left t d (omega arith) few

    taken_at : (u : ℕ) (d : Flow) → (u ≡ t) ⊎ (u ≡ t → ⊥) → u < t + 1 → u < length before
        → (get_or (set after t new) u d).taken.items ≡ (get_or before u d).taken.items ++ member_if i (get_or place.pre.items u 0)
    taken_at u d (inl same) less few =
        ap (λ (f : Flow). f.taken.items) (get_or-set_at after t u new d same lt) ∙ taken
        ∙ ap (λ (f : Flow). f.taken.items ++ member_if i (get_or place.pre.items t 0)) (same_old d (omega (arith, same, few)))
        ∙ ap (λ n. (get_or before n d).taken.items ++ member_if i (get_or place.pre.items n 0)) (sym same)
    taken_at u d (inr ne) less few = ap (λ (f : Flow). f.taken.items) (get_or-set_other after t u new d ne) ∙ so_far.taken u d (omega (arith, less, ne)) few

    put_at : (u : ℕ) (d : Flow) → (u ≡ t) ⊎ (u ≡ t → ⊥) → u < t + 1 → u < length before
        → (get_or (set after t new) u d).put.items ≡ (get_or before u d).put.items ++ member_if i (get_or place.post.items u 0)
    put_at u d (inl same) less few =
        ap (λ (f : Flow). f.put.items) (get_or-set_at after t u new d same lt) ∙ put
        ∙ ap (λ (f : Flow). f.put.items ++ member_if i (get_or place.post.items t 0)) (same_old d (omega (arith, same, few)))
        ∙ ap (λ n. (get_or before n d).put.items ++ member_if i (get_or place.post.items n 0)) (sym same)
    put_at u d (inr ne) less few = ap (λ (f : Flow). f.put.items) (get_or-set_other after t u new d ne) ∙ so_far.put u d (omega (arith, less, ne)) few

-- the weight of a place that was read, among those of all places
pub weight_read : (f : PlaceOfTheory → ℕ) (net : Net) (i : ℕ) (p : PlaceOfTheory) → IsPlaceAt net i p → f p ≡ get_or (map f net.places) i 0
weight_read f net i p at = sym (get_or_from_slice_get (map f net.places) i (f p) 0 (slice_get-map f net.places i ∙ ap (option_map f) at))

-- and so are those of the place that was added
pub flows_next : (net : Net) (i : ℕ) (x : Place) (before after : List Flow) → IsPlaceAt net i (shown_place x) → AreFlowsBelow net i before
    → AreFlowsWith x i (length before) before after → AreFlowsBelow net (i + 1) after
flows_next net i x before after at so_far added = record {
  one_each = added.long ∙ so_far.one_each;
  each = λ t d lt. each t d lt (omega (arith, so_far.one_each, lt));
}
  where
    each : (t : ℕ) (d : Flow) → t < net.labels → t < length before → IsFlowBelow net (i + 1) t (get_or after t d)
    each t d lt few = record {
      taken = members_next (taken_by net t) i (get_or x.pre.items t 0) (get_or before t d).taken.items (get_or after t d).taken.items
          (subst (λ n. i < n) (sym (length-map net.places (λ p. pre_weight p t))) (slice_get_within net.places i (shown_place x) at))
          (weight_read (λ p. pre_weight p t) net i (shown_place x) at) (so_far.each t d lt).taken (added.taken t d few few);
      put = members_next (put_by net t) i (get_or x.post.items t 0) (get_or before t d).put.items (get_or after t d).put.items
          (subst (λ n. i < n) (sym (length-map net.places (λ p. post_weight p t))) (slice_get_within net.places i (shown_place x) at))
          (weight_read (λ p. post_weight p t) net i (shown_place x) at) (so_far.each t d lt).put (added.put t d few few);
    }

-- a list that is written over as many is the new one
pub written : (n : ℕ) (old new : List Flow) → n ≡ length old → length new ≡ length old → take n (new ++ drop (length new) old) ≡ new
written n old new e same =
    ap (λ l. take n (new ++ l)) (drop_all (length new) old (omega arith)) ∙ ap (take n) (append-nil new) ∙ take_all n new (omega arith)

-- with all places they are whole
pub flows_whole : (net : Net) (n : ℕ) (flows : List Flow) → n ≡ length net.places → AreFlowsBelow net n flows → AreFlows net flows
flows_whole net n flows all are = record { one_each = are.one_each; each = λ t d lt. each t d lt }
  where
    whole : (xs : List ℕ) → length xs ≡ n → take n xs ≡ xs
    whole xs e = ap (λ k. take k xs) (sym e) ∙ take-length xs

    each : (t : ℕ) (d : Flow) → t < net.labels → IsFlow net t (get_or flows t d)
    each t d lt = record {
      taken = (are.each t d lt).taken ∙ ap members_of (whole (taken_by net t) (length-map net.places (λ p. pre_weight p t) ∙ sym all));
      put = (are.each t d lt).put ∙ ap members_of (whole (put_by net t) (length-map net.places (λ p. post_weight p t) ∙ sym all));
    }

-- the flow of a label that was read
pub flow_read : (net : Net) (flows : List Flow) (t : ℕ) (x : Flow) → AreFlows net flows → t < net.labels → x ≡ get_or flows t x → IsFlow net t x
flow_read net flows t x are lt e = subst (IsFlow net t) (sym e) (are.each t x lt)
