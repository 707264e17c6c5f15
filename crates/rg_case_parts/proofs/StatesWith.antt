-- The states with an arc of a label, arc by arc.
use Rattle.std.proofs.Common.{◌≡◌, ◌⊎◌, ⊎_elim, ℕ, ◌+◌, ◌-◌, ◌<◌, ◌≤◌, ◌==◌, ◌&&◌, Bool, true, false, if◌then◌else◌, List, [], ◌∷◌, ◌++◌, length, take, Contains, slice_index_or, ap, refl, subst, sym, ◌∙◌, inl, inr, arith, eq-eqb, eqb-true}
use Rattle.std.specs.Prelude.{AllPairs}
use Rattle.std.proofs.lemmas.Bool.{cases_Bool, false≢true}
use Rattle.std.proofs.lemmas.List.{take_more, take_all, length-take-le, get_or-take, get_or_default}
use Rattle.std.proofs.lemmas.List.Elements.{Contains-append_left, Contains-append_right, Contains-append_cases}
use Rattle.rg_theory.specs.declared.Arc.{Arc}
use Rattle.rg_theory.specs.System.{System, states, IsArcBefore, IsInRange}
use Rattle.rg_theory.proofs.Arcs.{arc_in_range}
use Rattle.rg_linear.proofs.Counting.{same_members}
use Rattle.rg_linear.proofs.Members.{Contains-here, Contains-there, Contains-cons_cases, Contains-nil, IsInOrder}
use Rattle.rg_case_folds.specs.Rewriting.{has_label_at, states_with}
use Rattle.rg_case_folds.proofs.Lists.{where_is, where_has}
use Rattle.rg_case_folds.proofs.Names.{found_at}
use Rattle.rg_cycles.proofs.Labels.{where_order}

-- ---- one arc more

label_more : (q t : ℕ) (arcs : List Arc) (a : Arc) → has_label_at q t (arcs ++ a ∷ []) ≡ (if (a.from == q) && (a.label == t) then true else has_label_at q t arcs)
label_more q t [] a = refl
label_more q t (b ∷ arcs) a = ap (λ x. if (b.from == q) && (b.label == t) then true else x) (label_more q t arcs a)
    ∙ swap ((b.from == q) && (b.label == t)) ((a.from == q) && (a.label == t)) (has_label_at q t arcs)
  where
    swap : (x y z : Bool) → (if x then true else (if y then true else z)) ≡ (if y then true else (if x then true else z))
    swap true true z = refl
    swap true false z = refl
    swap false true z = refl
    swap false false z = refl

-- one number more, above those before it
order_more : (xs : List ℕ) (x : ℕ) → IsInOrder xs → ((m : ℕ) → Contains xs m → m < x) → IsInOrder (xs ++ x ∷ [])
order_more [] x h below = ((λ m has. absurd (Contains-nil m has)), tt)
order_more (y ∷ xs) x h below = ((λ m has. above m (Contains-append_cases xs (x ∷ []) m has)), order_more xs x h.1 (λ m has. below m (Contains-there y m xs has)))
  where
    above : (m : ℕ) → Contains xs m ⊎ Contains (x ∷ []) m → y < m
    above m (inl there) = h.0 m there
    above m (inr last) = subst (λ z. y < z) (only m last) (below y (Contains-here y xs))
      where
        only : (m : ℕ) → Contains (x ∷ []) m → x ≡ m
        only m has = ⊎_elim (λ e. e) (λ none. absurd (Contains-nil m none)) (Contains-cons_cases x m [] has)

-- ---- the states found so far

-- those of the arcs before i: in order, and all below `next`, which is 0 or the number after the last of them
pub record StatesSoFar (arcs : List Arc) (t i : ℕ) (found : List ℕ) (next : ℕ) : Type 0 where
  pub order : IsInOrder found
  pub has : (q : ℕ) → Contains found q → has_label_at q t (take i arcs) ≡ true
  pub all : (q : ℕ) → has_label_at q t (take i arcs) ≡ true → Contains found q
  pub below : (q : ℕ) → Contains found q → q < next
  pub last : (q : ℕ) → q + 1 ≡ next → Contains found q

module _ (arcs : List Arc) (t i : ℕ) (found : List ℕ) (next : ℕ) (so_far : StatesSoFar arcs t i found next) where
  -- all of them
  pub states_end : (lts : System) → lts.arcs ≡ arcs → IsInRange lts → length arcs ≤ i → found ≡ states_with lts t
  states_end lts same fine past = same_members found (states_with lts t) so_far.order (where_order (λ q. has_label_at q t lts.arcs) 0 (states lts))
      (λ q h. where_has (λ q. has_label_at q t lts.arcs) 0 (states lts) q (here q h) (omega arith) (within q (here q h)))
      (λ q h. so_far.all q (ap (has_label_at q t) (take_all i arcs past ∙ sym same) ∙ (where_is (λ q. has_label_at q t lts.arcs) 0 (states lts) q h).0))
    where
      here : (q : ℕ) → Contains found q → has_label_at q t lts.arcs ≡ true
      here q h = ap (has_label_at q t) (same ∙ sym (take_all i arcs past)) ∙ so_far.has q h

      within : (q : ℕ) → has_label_at q t lts.arcs ≡ true → q < 0 + states lts
      within q e = let (q', has) = found_at q t lts.arcs e in let r = arc_in_range lts fine q t q' has in let lt = r.0 in omega arith

  module _ (a : Arc) (lt : i < length arcs) (at : a ≡ slice_index_or arcs i a) where
    label_next : (q : ℕ) → has_label_at q t (take (i + 1) arcs) ≡ (if (a.from == q) && (a.label == t) then true else has_label_at q t (take i arcs))
    label_next q = ap (has_label_at q t) (take_more arcs i a lt) ∙ ap (λ b. has_label_at q t (take i arcs ++ b ∷ [])) (sym at) ∙ label_more q t (take i arcs) a

    -- an arc of another label
    pub states_passed : (a.label == t) ≡ false → StatesSoFar arcs t (i + 1) found next
    states_passed other = record {
      order = so_far.order;
      has = λ q h. same q ∙ so_far.has q h;
      all = λ q e. so_far.all q (sym (same q) ∙ e);
      below = so_far.below;
      last = so_far.last;
    }
      where
        by : (x y z : Bool) → y ≡ false → (if x && y then true else z) ≡ z
        by true y z e = ap (λ b. if b then true else z) e
        by false y z e = refl

        same : (q : ℕ) → has_label_at q t (take (i + 1) arcs) ≡ has_label_at q t (take i arcs)
        same q = label_next q ∙ by (a.from == q) (a.label == t) (has_label_at q t (take i arcs)) other

    module _ (own : (a.label == t) ≡ true) where
      -- the states of the arcs before are found still, and that of this one is
      before : (q : ℕ) → has_label_at q t (take i arcs) ≡ true → has_label_at q t (take (i + 1) arcs) ≡ true
      before q e = label_next q ∙ ap (λ z. if (a.from == q) && (a.label == t) then true else z) e ∙ both ((a.from == q) && (a.label == t))
        where
          both : (b : Bool) → (if b then true else true) ≡ true
          both true = refl
          both false = refl

      this : has_label_at a.from t (take (i + 1) arcs) ≡ true
      this = label_next a.from ∙ by (a.from == a.from) (a.label == t) (has_label_at a.from t (take i arcs)) (eq-eqb a.from a.from refl) own
        where
          by : (x y z : Bool) → x ≡ true → y ≡ true → (if x && y then true else z) ≡ true
          by true y z d e = ap (λ b. if b then true else z) e
          by false y z d e = absurd (false≢true d)

      one_of : (q : ℕ) → has_label_at q t (take (i + 1) arcs) ≡ true → (a.from ≡ q) ⊎ (has_label_at q t (take i arcs) ≡ true)
      one_of q e = ⊎_elim (λ is. inl (eqb-true a.from q is))
          (λ differs. inr (sym (by (a.from == q) (a.label == t) (has_label_at q t (take i arcs)) differs) ∙ sym (label_next q) ∙ e)) (cases_Bool (a.from == q))
        where
          by : (x y z : Bool) → x ≡ false → (if x && y then true else z) ≡ z
          by true y z d = absurd (false≢true (sym d))
          by false y z d = refl

      -- a state that isn't found yet
      pub states_found : next ≤ a.from → StatesSoFar arcs t (i + 1) (found ++ a.from ∷ []) (a.from + 1)
      states_found new = record {
        order = order_more found a.from so_far.order (λ m h. (let b = so_far.below m h in omega arith));
        has = λ q h. ⊎_elim (λ there. before q (so_far.has q there))
            (λ last. subst (λ m. has_label_at m t (take (i + 1) arcs) ≡ true) (only q last) this) (Contains-append_cases found (a.from ∷ []) q h);
        all = λ q e. ⊎_elim (λ is. subst (Contains (found ++ a.from ∷ [])) is own_there) (λ there. Contains-append_left found (a.from ∷ []) q (so_far.all q there)) (one_of q e);
        below = λ q h. ⊎_elim (λ there. (let b = so_far.below q there in omega arith)) (λ last. (let e = only q last in omega arith)) (Contains-append_cases found (a.from ∷ []) q h);
        last = λ q e. subst (Contains (found ++ a.from ∷ [])) (let k = e in omega arith) own_there;
      }
        where
          only : (q : ℕ) → Contains (a.from ∷ []) q → a.from ≡ q
          only q h = ⊎_elim (λ e. e) (λ none. absurd (Contains-nil q none)) (Contains-cons_cases a.from q [] h)

          own_there : Contains (found ++ a.from ∷ []) a.from
          own_there = Contains-append_right found (a.from ∷ []) a.from (Contains-here a.from [])

      -- a state that is found already: the last one
      pub states_seen : AllPairs IsArcBefore arcs → a.from < next → StatesSoFar arcs t (i + 1) found next
      states_seen order old = record {
        order = so_far.order;
        has = λ q h. before q (so_far.has q h);
        all = λ q e. ⊎_elim (λ is. subst (Contains found) is there) (so_far.all q) (one_of q e);
        below = so_far.below;
        last = so_far.last;
      }
        where
          from_before : (x y : Arc) → IsArcBefore x y → x.from ≤ y.from
          from_before x y (inl less) = omega arith
          from_before x y (inr (e, later)) = omega arith

          earlier : (b : Arc) → Contains (take i arcs) b → b.from ≤ a.from
          earlier b (k, below, is) = subst (λ (x : Arc). x.from ≤ a.from) (sym (get_or-take i arcs k b less) ∙ is)
              (subst (λ (y : Arc). (slice_index_or arcs k b).from ≤ y.from) (get_or_default arcs i b a lt ∙ sym at) (from_before _ _ (order k i b less lt)))
            where
              less : k < i
              less = subst (λ n. k < n) (length-take-le i arcs (let l = lt in omega arith)) below

          newest : Contains found (next - 1)
          newest = so_far.last (next - 1) (let l = old in omega arith)

          at_most : next - 1 ≤ a.from
          at_most = let (q', has) = found_at (next - 1) t (take i arcs) (so_far.has (next - 1) newest) in earlier (record { from = next - 1; label = t; to = q' }) has

          there : Contains found a.from
          there = subst (Contains found) (let l = old in let m = at_most in omega arith) newest
