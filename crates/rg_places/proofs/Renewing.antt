-- Numbers renewed one by one in their own list.
use Rattle.std.proofs.Common.{◌≡◌, ◌≢◌, ℕ, ◌+◌, ◌<◌, ◌≤◌, List, length, take, set, slice_index_or, Result, Ok, Err, refl, ap, subst, sym, ◌∙◌, le_refl, arith}
use Rattle.std.specs.Prelude.{pos}
use Rattle.std.proofs.lemmas.List.{length-map, length-set, map-set, take_all, take_more_set, get_or-set_other, get_or_default}
use Rattle.rg_integers.specs.declared.term.Wide.{Wide}
use Rattle.rg_fraction.specs.declared.fraction.Fraction.{Fraction}
use Rattle.rg_folds.specs.Fold.{each, Ratio, whole, ratio_of}
use Rattle.rg_folds.proofs.Folding.{each_start}
use Rattle.rg_case_folds.specs.Placing.{ratio_at}
use Rattle.rg_places.specs.PointValues.{ratios_of}
use Rattle.rg_places.proofs.FoldSteps.{EachLeads, all_end, next_leads, next_fails}
use Rattle.rg_places.proofs.FractionSteps.{ratio_there}

-- the numbers before k are renewed, the others are those of the start; what is made of the others is made of all
pub record RenewedBefore (make : Ratio → Result Ratio Wide → Type 0) (start : List Fraction) (k : ℕ) (now : List Fraction) : Type 0 where
  pub one_each : length now ≡ length start
  pub leads : EachLeads make (ratios_of start) k (take k (ratios_of now))
  pub left : (u : ℕ) → k ≤ u → ratio_at (ratios_of now) u ≡ ratio_at (ratios_of start) u

module _ (make : Ratio → Result Ratio Wide → Type 0) (start : List Fraction) where
  pub renewed_start : RenewedBefore make start 0 start
  renewed_start = record { one_each = refl; leads = each_start make (ratios_of start); left = λ u le. refl }

  module _ (k : ℕ) (now : List Fraction) (so_far : RenewedBefore make start k now) where
    count : length (ratios_of start) ≡ length now
    count = length-map start ratio_of ∙ sym so_far.one_each

    pub renewed_end : length start ≤ k → each make (ratios_of start) (Ok (ratios_of now))
    renewed_end past = subst (λ l. each make (ratios_of start) (Ok l))
        (take_all k (ratios_of now) (subst (λ n. n ≤ k) (sym (length-map now ratio_of ∙ so_far.one_each)) past))
        (all_end make (ratios_of start) k (take k (ratios_of now)) so_far.leads (subst (λ n. n ≤ k) (sym (length-map start ratio_of)) past))

    module _ (x : Fraction) (lt : k < length now) (at : x ≡ slice_index_or now k x) where
      below : k < length (ratios_of start)
      below = subst (λ n. k < n) (sym count) lt

      within : k < length (ratios_of now)
      within = subst (λ n. k < n) (sym (length-map now ratio_of)) lt

      there : ratio_of x ≡ slice_index_or (ratios_of start) k (ratio_of x)
      there = ratio_there now k x lt at ∙ so_far.left k (le_refl k) ∙ sym (get_or_default (ratios_of start) k (ratio_of x) (whole (pos 0)) below)

      pub renewed_fails : (w : Wide) → make (ratio_of x) (Err w) → each make (ratios_of start) (Err w)
      renewed_fails w made = next_fails make (ratios_of start) k (take k (ratios_of now)) so_far.leads (ratio_of x) below there w made

      pub renewed_next : (y : Fraction) → make (ratio_of x) (Ok (ratio_of y)) → RenewedBefore make start (k + 1) (set now k y)
      renewed_next y made = record {
        one_each = length-set now k y ∙ so_far.one_each;
        leads = subst (EachLeads make (ratios_of start) (k + 1)) (sym (ap (take (k + 1)) (map-set ratio_of now k y) ∙ take_more_set (ratios_of now) k (ratio_of y) within))
            (next_leads make (ratios_of start) k (take k (ratios_of now)) so_far.leads (ratio_of x) below there (ratio_of y) made);
        left = λ u le. ap (λ l. ratio_at l u) (map-set ratio_of now k y) ∙ get_or-set_other (ratios_of now) k u (ratio_of y) (whole (pos 0)) (differs u le)
            ∙ so_far.left u (omega arith);
      }
        where
          differs : (u : ℕ) → k + 1 ≤ u → u ≢ k
          differs u le e = omega arith
