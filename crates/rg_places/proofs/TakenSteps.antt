-- What the labels take, by their effects and at the event's label.
use Rattle.std.proofs.Common.{◌≡◌, ⊎_elim, ℕ, zero, suc, ◌+◌, ◌<◌, ◌≤◌, ◌==◌, not, true, false, if◌then◌else◌, List, [], ◌∷◌, length, map, take, set, All, slice_index_or, ap, sym, subst, ◌∙◌, arith, eqb-true, eq-eqb}
use Rattle.std.specs.Prelude.{ℤ, pos}
use Rattle.std.proofs.lemmas.Bool.{cases_Bool, true≢false}
use Rattle.std.proofs.lemmas.List.{length-map, length-set, length-take-le, get_or-take, get_or-map, get_or_default, get_or-set_other, ext_get_or}
use Rattle.std.proofs.lemmas.Grind.{get_or-set_at}
use Rattle.rg_theory.specs.System.{System, labels}
use Rattle.rg_theory.specs.declared.Class.{Class}
use Rattle.rg_theory.specs.declared.Problem.TheVariants.{Event, States}
use Rattle.rg_integers.specs.Range.{InRange}
use Rattle.rg_fraction.specs.declared.fraction.Fraction.{Fraction}
use Rattle.rg_fraction.specs.Fractions.{numerator_of}
use Rattle.rg_folds.specs.Fold.{Ratio}
use Rattle.rg_case_folds.specs.Rewriting.{all_numbers}
use Rattle.rg_case_folds.specs.Placing.{top_at, taken_by_effect, taken}
use Rattle.rg_places.specs.PointValues.{ratios_of}
use Rattle.rg_places.specs.Steps.{taken_to_stop}
use Rattle.rg_places.proofs.FractionSteps.{top_there}
use Rattle.rg_case_folds.proofs.PlaceWeights.{taken_fits, taken_at, taken_length}

abbrev by_effects : List Fraction → List ℤ
by_effects effects = map (λ e. taken_by_effect (numerator_of e)) effects

-- a list over the labels
pub over_labels : (n : ℕ) (f : ℕ → ℤ) (xs : List ℤ) → length xs ≡ n → ((u : ℕ) → u < n → slice_index_or xs u (pos 0) ≡ f u) → xs ≡ map f (all_numbers n)
over_labels n f xs count at = ext_get_or (pos 0) xs (map f (all_numbers n)) (count ∙ sym (taken_length f n)) (λ u lt. at u (below u lt) ∙ sym (taken_at f n u (below u lt)))
  where
    below : (u : ℕ) → u < length xs → u < n
    below u lt = subst (λ k. u < k) count lt

some_item : {A : Type 0} (xs : List A) → 0 < length xs → A
some_item [] lt = absurd (omega arith)
some_item (x ∷ xs) lt = x

module _ (lts : System) (class : Class) (numbers : List Ratio) (found : List Fraction) (count : length found ≡ labels lts + 1) where
  some : labels lts ≤ length found
  some = let e = count in omega arith

  pub effects_count : length (map (λ e. taken_by_effect (numerator_of e)) (take (labels lts) found)) ≡ labels lts
  effects_count = length-map (take (labels lts) found) (λ e. taken_by_effect (numerator_of e)) ∙ length-take-le (labels lts) found some

  at_label : (d : Fraction) (u : ℕ) → u < labels lts → slice_index_or (by_effects (take (labels lts) found)) u (pos 0) ≡ taken_by_effect (top_at (ratios_of found) u)
  at_label d u lt = get_or-map (λ e. taken_by_effect (numerator_of e)) (take (labels lts) found) u d (pos 0) (subst (λ n. u < n) (sym (length-take-le (labels lts) found some)) lt)
      ∙ ap (λ e. taken_by_effect (numerator_of e)) (get_or-take (labels lts) found u d lt)
      ∙ ap taken_by_effect (top_there found u (slice_index_or found u d) (let e = count in omega arith) (get_or_default found u d (slice_index_or found u d) (let e = count in omega arith)))

  pub states_taken : (s other : ℕ) → by_effects (take (labels lts) found) ≡ map (taken lts class (States s other) numbers (ratios_of found)) (all_numbers (labels lts))
  states_taken s other = over_labels (labels lts) (taken lts class (States s other) numbers (ratios_of found))
      (by_effects (take (labels lts) found)) effects_count (at_label (some_item found (let e = count in omega arith)))

  pub event_taken : (s t : ℕ) (effect : Fraction) (z : ℤ) → t < labels lts → effect ≡ slice_index_or found t effect
      → z ≡ taken_to_stop lts class numbers (numerator_of effect) t → set (by_effects (take (labels lts) found)) t z ≡ map
      (taken lts class (Event s t) numbers (ratios_of found)) (all_numbers (labels lts))
  event_taken s t effect z below at is = over_labels (labels lts) (taken lts class (Event s t) numbers (ratios_of found))
      (set (by_effects (take (labels lts) found)) t z) (length-set (by_effects (take (labels lts) found)) t z ∙ effects_count)
      (λ u lt. ⊎_elim (λ e. here u e) (λ e. other u lt e) (cases_Bool (u == t)))
    where
      here : (u : ℕ) → (u == t) ≡ true → slice_index_or (set (by_effects (take (labels lts) found)) t z) u (pos 0) ≡ taken lts class (Event s t) numbers (ratios_of found) u
      here u e = get_or-set_at (by_effects (take (labels lts) found)) t u z (pos 0) (eqb-true u t e) (subst (λ n. t < n) (sym effects_count) below)
          ∙ is
          ∙ ap (λ k. taken_to_stop lts class numbers k t) (top_there found t effect (let c = count in omega arith) at ∙ ap (top_at (ratios_of found)) (sym (eqb-true u t e)))
          ∙ sym (ap (λ b. if not b then taken_by_effect (top_at (ratios_of found) u) else taken_to_stop lts class numbers (top_at (ratios_of found) u) t) e)

      other : (u : ℕ) → u < labels lts → (u == t) ≡ false → slice_index_or (set (by_effects (take (labels lts) found)) t z) u (pos 0) ≡ taken lts class (Event s t) numbers (ratios_of found) u
      other u lt e = get_or-set_other (by_effects (take (labels lts) found)) t u z (pos 0) (λ same. true≢false (sym (eq-eqb u t same) ∙ e))
          ∙ at_label effect u lt
          ∙ sym (ap (λ b. if not b then taken_by_effect (top_at (ratios_of found) u) else taken_to_stop lts class numbers (top_at (ratios_of found) u) t) e)

-- ---- in range

pub effects_in_range : (effects : List Fraction) → All InRange (map (λ e. taken_by_effect (numerator_of e)) effects)
effects_in_range [] k d lt = absurd (omega arith)
effects_in_range (x ∷ rest) zero d lt = taken_fits (numerator_of x) x.numerator_in_range
effects_in_range (x ∷ rest) (suc k) d lt = effects_in_range rest k d (omega arith)

pub set_in_range : (xs : List ℤ) (t : ℕ) (z : ℤ) → All InRange xs → InRange z → All InRange (set xs t z)
set_in_range xs t z all fits k d lt = ⊎_elim
    (λ e. subst InRange (sym (get_or-set_at xs t k z d (eqb-true k t e) (let same = eqb-true k t e in let n = length-set xs t z in omega arith))) fits)
    (λ e. subst InRange (sym (get_or-set_other xs t k z d (λ same. true≢false (sym (eq-eqb k t same) ∙ e)))) (all k d (subst (λ n. k < n) (length-set xs t z) lt)))
    (cases_Bool (k == t))
