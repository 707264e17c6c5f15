-- The place from what the labels take and put.
use Rattle.std.proofs.Common.{◌≡◌, ℕ, zero, suc, ◌<◌, List, [], ◌∷◌, length, map, slice_index_or, unsigned_abs, Result, Ok, Err, inl, inr, ap, refl, sym, subst, ◌∙◌, arith}
use Rattle.std.specs.Prelude.{ℤ, slice_index}
use Rattle.std.proofs.lemmas.List.{get_or_default}
use Rattle.std.proofs.lemmas.Simd.{map-map}
use Rattle.rg_theory.specs.System.{System, labels}
use Rattle.rg_theory.specs.Net.{Place}
use Rattle.rg_theory.specs.declared.Class.{Class}
use Rattle.rg_theory.specs.declared.Problem.{Problem}
use Rattle.rg_integers.specs.Sum.{number_at}
use Rattle.rg_integers.specs.declared.term.Wide.{Wide}
use Rattle.rg_fraction.specs.declared.fraction.Fraction.{Fraction}
use Rattle.rg_fraction.specs.Fractions.{numerator_of}
use Rattle.rg_folds.specs.Fold.{Ratio, each, whole_sum, ratio_of}
use Rattle.rg_case_folds.specs.Rewriting.{all_numbers}
use Rattle.rg_case_folds.specs.Placing.{top_at, taken, place_of}
use Rattle.rg_places.specs.PointValues.{ratios_of}
use Rattle.rg_places.specs.Steps.{weights_fold}
use Rattle.rg_case_folds.proofs.PlaceWeights.{taken_at, taken_length}
use Rattle.rg_case_folds.proofs.Found.{all_at, all_length}

-- where each item's results are those of another making, so are the list's
each_same : {A X : Type 0} (make other : A → Result X Wide → Type 0) (items : List A)
    → ((i : ℕ) (a : A) → i < length items → a ≡ slice_index_or items i a → (r : Result X Wide) → make a r → other a r) → (r : Result (List X) Wide)
    → each make items r → each other items r
each_same make other [] same r h = h
each_same make other (a ∷ rest) same (Ok ys) (x, made, (xs, h, e)) =
    (x, same 0 a (omega arith) refl (Ok x) made, (xs, each_same make other rest (λ i b lt at. same (suc i) b (omega arith) at) (Ok xs) h, e))
each_same make other (a ∷ rest) same (Err w) (inl made) = inl (same 0 a (omega arith) refl (Err w) made)
each_same make other (a ∷ rest) same (Err w) (inr (x, made, inl h)) =
    inr (x, same 0 a (omega arith) refl (Ok x) made, inl (each_same make other rest (λ i b lt at. same (suc i) b (omega arith) at) (Err w) h))
each_same make other (a ∷ rest) same (Err w) (inr (x, made, inr (xs, h, e))) =
    inr (x, same 0 a (omega arith) refl (Ok x) made, inr (xs, each_same make other rest (λ i b lt at. same (suc i) b (omega arith) at) (Ok xs) h, e))

-- the tokens of a state
pub tokens_at : (numbers : List Fraction) (s : ℕ) → slice_index (map (λ n. unsigned_abs (numerator_of n)) numbers) s ≡ unsigned_abs (top_at (ratios_of numbers) s)
tokens_at [] s = refl
tokens_at (x ∷ xs) zero = refl
tokens_at (x ∷ xs) (suc s) = tokens_at xs s

pub tokens_are : (numbers : List Fraction) → map (λ n. unsigned_abs (numerator_of n)) numbers ≡ map (λ n. unsigned_abs n.top) (ratios_of numbers)
tokens_are numbers = sym (map-map (λ (n : Ratio). unsigned_abs n.top) ratio_of numbers)

module _ (lts : System) (class : Class) (problem : Problem) (found numbers : List Ratio) (pre : List ℤ) (are : pre ≡ map (taken lts class problem numbers found) (all_numbers (labels lts))) where
  pub pre_length : length pre ≡ labels lts
  pre_length = ap length are ∙ taken_length (taken lts class problem numbers found) (labels lts)

  taken_by : (u : ℕ) → u < labels lts → number_at pre u ≡ taken lts class problem numbers found u
  taken_by u lt = ap (λ l. number_at l u) are ∙ taken_at (taken lts class problem numbers found) (labels lts) u lt

  sums : (r : Result (List ℤ) Wide) → each (λ u. whole_sum (number_at pre u) (top_at found u)) (all_numbers (length pre)) r
      → each (λ u. whole_sum (taken lts class problem numbers found u) (top_at found u)) (all_numbers (labels lts)) r
  sums r h = each_same (λ u. whole_sum (number_at pre u) (top_at found u))
      (λ u. whole_sum (taken lts class problem numbers found u) (top_at found u)) (all_numbers (labels lts)) same r
      (subst (λ n. each (λ u. whole_sum (number_at pre u) (top_at found u)) (all_numbers n) r) pre_length h)
    where
      same : (i u : ℕ) → i < length (all_numbers (labels lts)) → u ≡ slice_index_or (all_numbers (labels lts)) i u → (r : Result ℤ Wide)
          → whole_sum (number_at pre u) (top_at found u) r → whole_sum (taken lts class problem numbers found u) (top_at found u) r
      same i u lt at r h = subst (λ z. whole_sum z (top_at found u) r) (taken_by u (subst (λ n. n < labels lts) (sym is) below)) h
        where
          below : i < labels lts
          below = subst (λ n. i < n) (all_length (labels lts)) lt

          is : u ≡ i
          is = at ∙ get_or_default (all_numbers (labels lts)) i u 0 lt ∙ all_at (labels lts) i below

  pub put_fails : (w : Wide) → each (λ u. whole_sum (number_at pre u) (top_at found u)) (all_numbers (length pre)) (Err w) → weights_fold lts class problem found numbers (Err w)
  put_fails w h = inl (sums (Err w) h)

  pub place_done : (post : List ℤ) (place : Place) → each (λ u. whole_sum (number_at pre u) (top_at found u)) (all_numbers (length pre)) (Ok post)
      → place.start ≡ unsigned_abs (top_at numbers lts.initial) → place.pre ≡ map unsigned_abs pre → place.post ≡ map unsigned_abs post
      → weights_fold lts class problem found numbers (Ok place)
  place_done post place h start pre_is post_is = (post, sums (Ok post) h, same)
    where
      pres : place.pre ≡ map unsigned_abs (map (taken lts class problem numbers found) (all_numbers (labels lts)))
      pres = pre_is ∙ ap (map unsigned_abs) are

      same : place ≡ place_of lts numbers (map (taken lts class problem numbers found) (all_numbers (labels lts))) post
      same = λ i. record { start = start i; pre = pres i; post = post_is i }
