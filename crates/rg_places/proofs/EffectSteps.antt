-- The effects of all labels, label by label, in the list of their values.
use Rattle.std.proofs.Common.{◌≡◌, ◌≢◌, ℕ, ◌+◌, ◌<◌, ◌≤◌, false, ◌&&◌, List, length, take, set, Contains, Result, Ok, Err, ap, subst, sym, ◌∙◌, arith}
use Rattle.std.specs.Prelude.{pos}
use Rattle.std.proofs.lemmas.Bool.{true≢false, and_right}
use Rattle.std.proofs.lemmas.List.{length-map, length-set, map-set, take_all, take_more, take_more_set, get_or-set_other}
use Rattle.rg_theory.specs.System.{System, labels}
use Rattle.rg_integers.specs.declared.term.Wide.{Wide}
use Rattle.rg_fraction.specs.declared.fraction.Fraction.{Fraction}
use Rattle.rg_linear.specs.Cycle.{CycleBasis}
use Rattle.rg_folds.specs.Fold.{each, Ratio, whole, ratio_of}
use Rattle.rg_folds.proofs.Folding.{each_start}
use Rattle.rg_case_folds.specs.Rewriting.{all_numbers, has_label, free_columns}
use Rattle.rg_case_folds.specs.Placing.{ratio_at}
use Rattle.rg_case_folds.proofs.Lists.{where_is}
use Rattle.rg_cycles.proofs.Labels.{not_in_set}
use Rattle.rg_folds.specs.Substitution.{is_in}
use Rattle.rg_places.specs.PointValues.{ratios_of}
use Rattle.rg_places.specs.Steps.{labels_in, value_by}
use Rattle.rg_places.specs.declared.columns.Column.{Column}
use Rattle.rg_places.proofs.LabelValues.{value_none}
use Rattle.rg_places.proofs.FoldSteps.{EachLeads}
use Rattle.rg_places.proofs.Counting.{counted_next, counted_fails, counted_end}

-- the list has the effects of the labels before t, and of the others the values; what is made of the labels from t on
-- is made of all
pub record EffectsSoFar (make : ℕ → Result Ratio Wide → Type 0) (n : ℕ) (value : ℕ → Ratio) (t : ℕ) (effects : List Fraction) : Type 0 where
  pub one_each : length effects ≡ n
  pub leads : EachLeads make (all_numbers n) t (take t (ratios_of effects))
  pub left : (u : ℕ) → t ≤ u → u < n → ratio_at (ratios_of effects) u ≡ value u

module _ (make : ℕ → Result Ratio Wide → Type 0) (n : ℕ) (value : ℕ → Ratio) where
  pub effects_start : (values : List Fraction) → length values ≡ n → ((u : ℕ) → u < n → ratio_at (ratios_of values) u ≡ value u) → EffectsSoFar make n value 0 values
  effects_start values count are = record { one_each = count; leads = each_start make (all_numbers n); left = λ u le lt. are u lt }

  module _ (t : ℕ) (effects : List Fraction) (so_far : EffectsSoFar make n value t effects) where
    count : length (ratios_of effects) ≡ n
    count = length-map effects ratio_of ∙ so_far.one_each

    pub effects_end : n ≤ t → each make (all_numbers n) (Ok (ratios_of effects))
    effects_end past = subst (λ l. each make (all_numbers n) (Ok l)) (take_all t (ratios_of effects) (subst (λ k. k ≤ t) (sym count) past))
        (counted_end make n t (take t (ratios_of effects)) so_far.leads past)

    module _ (lt : t < n) where
      within : t < length (ratios_of effects)
      within = subst (λ k. t < k) (sym count) lt

      pub effects_fail : (w : Wide) → make t (Err w) → each make (all_numbers n) (Err w)
      effects_fail w made = counted_fails make n t (take t (ratios_of effects)) so_far.leads lt w made

      -- the value of a label is its effect
      pub effect_kept : make t (Ok (ratio_at (ratios_of effects) t)) → EffectsSoFar make n value (t + 1) effects
      effect_kept made = record {
        one_each = so_far.one_each;
        leads = subst (EachLeads make (all_numbers n) (t + 1)) (sym (take_more (ratios_of effects) t (whole (pos 0)) within))
            (counted_next make n t (take t (ratios_of effects)) so_far.leads lt (ratio_at (ratios_of effects) t) made);
        left = λ u le below. so_far.left u (omega arith) below;
      }

      -- the effect is written over the value
      pub effect_set : (f : Fraction) → make t (Ok (ratio_of f)) → EffectsSoFar make n value (t + 1) (set effects t f)
      effect_set f made = record {
        one_each = length-set effects t f ∙ so_far.one_each;
        leads = subst (EachLeads make (all_numbers n) (t + 1)) (sym (ap (take (t + 1)) (map-set ratio_of effects t f) ∙ take_more_set (ratios_of effects) t (ratio_of f) within))
            (counted_next make n t (take t (ratios_of effects)) so_far.leads lt (ratio_of f) made);
        left = λ u le below. ap (λ l. ratio_at l u) (map-set ratio_of effects t f) ∙ get_or-set_other (ratios_of effects) t u (ratio_of f) (whole (pos 0)) (differs u le)
            ∙ so_far.left u (omega arith) below;
      }
        where
          differs : (u : ℕ) → t + 1 ≤ u → u ≢ t
          differs u le e = omega arith

-- a label without an arc has the value 0
pub unused_value : (lts : System) (basis : CycleBasis) (columns : List Column) (t : ℕ) → labels_in columns ≡ free_columns lts basis → has_label t lts.arcs ≡ false
    → value_by columns t ≡ whole (pos 0)
unused_value lts basis columns t are unused = value_none columns t (subst (λ l. is_in l t ≡ false) (sym are) (not_in_set (free_columns lts basis) t lacks))
  where
    lacks : ¬ Contains (free_columns lts basis) t
    lacks has = true≢false (sym (where_is (λ t. is_in basis.members t && has_label t lts.arcs) 0 (labels lts) t has).0 ∙ and_right (is_in basis.members t) (has_label t lts.arcs) unused)
