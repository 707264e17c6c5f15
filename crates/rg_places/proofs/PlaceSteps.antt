-- The steps from effects to a place, one after the other.
use Rattle.std.proofs.Common.{◌≡◌, ℕ, ◌+◌, ◌||◌, is_some, Some, None, Bool, true, false, List, [], ◌∷◌, ◌++◌, length, map, unsigned_abs, Result, Ok, Err, inl, inr, ap, refl, sym, subst, ◌∙◌}
use Rattle.std.specs.Prelude.{ℤ, pos, unwrap_or, IfOk}
use Rattle.std.proofs.lemmas.List.{length-map, length-append}
use Rattle.rg_theory.specs.declared.Class.{Class}
use Rattle.rg_theory.specs.declared.Problem.{Problem}
use Rattle.rg_theory.specs.System.{System, states, labels}
use Rattle.rg_theory.specs.Net.{Place}
use Rattle.rg_integers.specs.declared.term.Wide.{Wide}
use Rattle.rg_linear.specs.Cycle.{CycleBasis}
use Rattle.rg_case_folds.specs.Setting.{Setting}
use Rattle.rg_folds.specs.Fold.{gives, and_then, either, each, IsOne, Ratio, whole, add, mul, multiple_of_all}
use Rattle.rg_folds.proofs.FoldLemmas.{and_then_one, each_one}
use Rattle.rg_case_folds.proofs.OneResult.{effect_one, whole_one, along_one, shift_one}
use Rattle.rg_case_folds.specs.Rewriting.{all_numbers}
use Rattle.rg_case_folds.specs.Placing.{effect_fold, negated, made_whole, ratio_at, along_tree, least_of, is_shifted, is_lifted, missing, shift_fold, top_at, taken, place_fold}
use Rattle.rg_case_folds.specs.Places.{numbers_fold}
use Rattle.rg_places.specs.Steps.{IsAlongTree, found_fold, weights_fold}
use Rattle.rg_case_folds.proofs.Items.{each_length}
use Rattle.rg_case_folds.proofs.PlaceWeights.{taken_length, given_length}
use Rattle.rg_case_folds.proofs.Found.{all_length, TimesMarking}

-- ---- answers

pub if_ok : {X E : Type 0} (P Q : X → Type 0) (r : Result X E) → ((x : X) → P x → Q x) → IfOk r P → IfOk r Q
if_ok P Q (Ok x) f p = f x p
if_ok P Q (Err e) f p = tt

-- ---- made whole

pub times_length : (class : Class) (numbers found : List Ratio) → TimesMarking class numbers (Ok found) → length found ≡ length numbers
times_length class numbers found h = go (is_some class.marking) h
  where
    go : (b : Bool) → either b (each (λ r. mul r (whole (pos (unwrap_or class.marking 1)))) numbers) (gives numbers) (Ok found) → length found ≡ length numbers
    go true e = each_length (λ r. mul r (whole (pos (unwrap_or class.marking 1)))) numbers found e
    go false e = ap length e

pub times_made : (class : Class) (numbers : List Ratio) (n : ℕ) → class.marking ≡ Some n → (r : Result (List Ratio) Wide) → each (λ r. mul r (whole (pos n))) numbers r → TimesMarking class numbers r
times_made class numbers n is r h = subst (λ o. either (is_some o) (each (λ r. mul r (whole (pos (unwrap_or o 1)))) numbers) (gives numbers) r) (sym is) h

pub times_kept : (class : Class) (numbers : List Ratio) → class.marking ≡ None → TimesMarking class numbers (Ok numbers)
times_kept class numbers is = subst (λ o. either (is_some o) (each (λ r. mul r (whole (pos (unwrap_or o 1)))) numbers) (gives numbers) (Ok numbers)) (sym is) refl

module _ (class : Class) (numbers : List Ratio) where
  abbrev Rest : Result (List Ratio) Wide → Type 0
  Rest r = and_then (multiple_of_all (map (λ r. r.bottom) numbers)) (λ m. and_then (each (λ r. mul r (whole m)) numbers)
      (λ products. either (is_some class.marking) (each (λ r. mul r (whole (pos (unwrap_or class.marking 1)))) products) (gives products))) r

  pub made_kept : (class.plain || is_some class.bound) ≡ true → made_whole class numbers (Ok numbers)
  made_kept e = subst (λ b. either b (gives numbers) Rest (Ok numbers)) (sym e) refl

  made_by : (class.plain || is_some class.bound) ≡ false → (r : Result (List Ratio) Wide) → Rest r → made_whole class numbers r
  made_by e r h = subst (λ b. either b (gives numbers) Rest r) (sym e) h

  pub multiple_fails : (w : Wide) → (class.plain || is_some class.bound) ≡ false → multiple_of_all (map (λ r. r.bottom) numbers) (Err w) → made_whole class numbers (Err w)
  multiple_fails w e h = made_by e (Err w) (inl h)

  pub products_fail : (m : ℤ) (w : Wide) → (class.plain || is_some class.bound) ≡ false → multiple_of_all (map (λ r. r.bottom) numbers) (Ok m)
      → each (λ r. mul r (whole m)) numbers (Err w) → made_whole class numbers (Err w)
  products_fail m w e h products = made_by e (Err w) (inr (m, h, inl products))

  pub multiple_makes : (m : ℤ) (products : List Ratio) → (class.plain || is_some class.bound) ≡ false → multiple_of_all (map (λ r. r.bottom) numbers) (Ok m)
      → each (λ r. mul r (whole m)) numbers (Ok products) → (r : Result (List Ratio) Wide) → TimesMarking class products r → made_whole class numbers r
  multiple_makes m products e h are (Ok found) times = made_by e (Ok found) (m, h, (products, are, times))
  multiple_makes m products e h are (Err w) times = made_by e (Err w) (inr (m, h, inr (products, are, times)))

  pub made_length : (found : List Ratio) → made_whole class numbers (Ok found) → length found ≡ length numbers
  made_length found h = go (class.plain || is_some class.bound) h
    where
      go : (b : Bool) → either b (gives numbers) Rest (Ok found) → length found ≡ length numbers
      go true e = ap length e
      go false (m, multiple, (products, are, times)) = times_length class products found times ∙ each_length (λ r. mul r (whole m)) numbers products are

-- ---- shifted

abbrev pub Moved : Class → List Ratio → Result (List Ratio) Wide → Type 0
Moved class numbers r = either (is_shifted class) (each (λ m. add m (negated (least_of numbers))) numbers) (gives numbers) r

abbrev pub Lifted : System → Class → Problem → List Ratio → Result (List Ratio) Wide → Type 0
Lifted lts class problem moved r = either (is_lifted class problem)
    (each (λ m. add m (whole (pos (missing (unwrap_or class.marking 1) (unsigned_abs (top_at moved lts.initial)))))) moved) (gives moved) r

pub moved_kept : (class : Class) (numbers : List Ratio) → is_shifted class ≡ false → Moved class numbers (Ok numbers)
moved_kept class numbers e = subst (λ b. either b (each (λ m. add m (negated (least_of numbers))) numbers) (gives numbers) (Ok numbers)) (sym e) refl

pub moved_made : (class : Class) (numbers : List Ratio) (by : Ratio) → by ≡ least_of numbers → is_shifted class ≡ true
    → (r : Result (List Ratio) Wide) → each (λ m. add m (negated by)) numbers r → Moved class numbers r
moved_made class numbers by least e r h = subst (λ b. either b (each (λ m. add m (negated (least_of numbers))) numbers) (gives numbers) r) (sym e)
    (subst (λ l. each (λ m. add m (negated l)) numbers r) least h)

pub moved_length : (class : Class) (numbers moved : List Ratio) → Moved class numbers (Ok moved) → length moved ≡ length numbers
moved_length class numbers moved h = go (is_shifted class) h
  where
    go : (b : Bool) → either b (each (λ m. add m (negated (least_of numbers))) numbers) (gives numbers) (Ok moved) → length moved ≡ length numbers
    go true e = each_length (λ m. add m (negated (least_of numbers))) numbers moved e
    go false e = ap length e

pub lifted_kept : (lts : System) (class : Class) (problem : Problem) (moved : List Ratio) → is_lifted class problem ≡ false → Lifted lts class problem moved (Ok moved)
lifted_kept lts class problem moved e = subst
    (λ b. either b (each (λ m. add m (whole (pos (missing (unwrap_or class.marking 1) (unsigned_abs (top_at moved lts.initial)))))) moved)
    (gives moved) (Ok moved)) (sym e) refl

pub lifted_made : (lts : System) (class : Class) (problem : Problem) (moved : List Ratio) (by : Ratio)
    → by ≡ whole (pos (missing (unwrap_or class.marking 1) (unsigned_abs (top_at moved lts.initial)))) → is_lifted class problem ≡ true → (r : Result (List Ratio) Wide)
    → each (λ m. add m by) moved r → Lifted lts class problem moved r
lifted_made lts class problem moved by is e r h =
    subst (λ b. either b (each (λ m. add m (whole (pos (missing (unwrap_or class.marking 1) (unsigned_abs (top_at moved lts.initial)))))) moved)
    (gives moved) r) (sym e) (subst (λ l. each (λ m. add m l) moved r) is h)

pub lifted_length : (lts : System) (class : Class) (problem : Problem) (moved lift : List Ratio) → Lifted lts class problem moved (Ok lift) → length lift ≡ length moved
lifted_length lts class problem moved lift h = go (is_lifted class problem) h
  where
    go : (b : Bool) → either b (each (λ m. add m (whole (pos (missing (unwrap_or class.marking 1) (unsigned_abs (top_at moved lts.initial))))))
        moved) (gives moved) (Ok lift) → length lift ≡ length moved
    go true e = each_length (λ m. add m (whole (pos (missing (unwrap_or class.marking 1) (unsigned_abs (top_at moved lts.initial)))))) moved lift e
    go false e = ap length e

module _ (lts : System) (class : Class) (problem : Problem) (numbers : List Ratio) where
  pub moved_fails : (w : Wide) → Moved class numbers (Err w) → shift_fold lts class problem numbers (Err w)
  moved_fails w h = inl h

  pub shift_made : (moved : List Ratio) → Moved class numbers (Ok moved) → (r : Result (List Ratio) Wide) → Lifted lts class problem moved r → shift_fold lts class problem numbers r
  shift_made moved first (Ok shifted) h = (moved, first, h)
  shift_made moved first (Err w) h = inr (moved, first, h)

  pub shift_length : (shifted : List Ratio) → shift_fold lts class problem numbers (Ok shifted) → length shifted ≡ length numbers
  shift_length shifted (moved, first, h) = lifted_length lts class problem moved shifted h ∙ moved_length class numbers moved first

-- ---- found numbers

module _ (lts : System) (basis : CycleBasis) (class : Class) (start : Ratio) (value : ℕ → Ratio) where
  pub found_length : (found : List Ratio) → found_fold lts basis class start value (Ok found) → length found ≡ labels lts + 1
  found_length found (effects, made, whole_made) =
      made_length class (effects ++ start ∷ []) found whole_made ∙ length-append effects (start ∷ [])
      ∙ ap (λ n. n + 1) (each_length (effect_fold lts basis value) (all_numbers (labels lts)) effects made ∙ all_length (labels lts))

  pub effects_fail : (w : Wide) → each (effect_fold lts basis value) (all_numbers (labels lts)) (Err w) → found_fold lts basis class start value (Err w)
  effects_fail w h = inl h

  pub effects_make : (effects : List Ratio) → each (effect_fold lts basis value) (all_numbers (labels lts)) (Ok effects)
      → (r : Result (List Ratio) Wide) → made_whole class (effects ++ start ∷ []) r → found_fold lts basis class start value r
  effects_make effects made (Ok found) h = (effects, made, h)
  effects_make effects made (Err w) h = inr (effects, made, h)

-- ---- the place

module _ (it : Setting) (problem : Problem) (start : Ratio) (value : ℕ → Ratio) where
  module _ (found : List Ratio) (is_found : found_fold it.lts it.basis it.class start value (Ok found)) where
    along_passes : (w : Wide) → (effects : List Ratio) × each (effect_fold it.lts it.basis value) (all_numbers (labels it.lts)) (Ok effects)
        × made_whole it.class (effects ++ start ∷ []) (Ok found) → along_tree (ratio_at found) (λ s. ratio_at found (labels it.lts)) it.tree (Err w)
        → place_fold it problem start value (Err w)
    along_passes w (effects, made, whole_made) h = inr (effects, made, inr (found, whole_made, inl h))

    pub tree_fails : (w : Wide) → along_tree (ratio_at found) (λ s. ratio_at found (labels it.lts)) it.tree (Err w) → place_fold it problem start value (Err w)
    tree_fails w h = along_passes w is_found h

    module _ (before : List Ratio) (is_along : IsAlongTree it.lts it.tree found before) where
      pub before_length : length before ≡ states it.lts
      before_length = count is_along
        where
          count : IsAlongTree it.lts it.tree found before → length before ≡ states it.lts
          count (number, h, are) = ap length are ∙ length-map (all_numbers (states it.lts)) number ∙ all_length (states it.lts)

      pub shift_fails : (w : Wide) → shift_fold it.lts it.class problem before (Err w) → place_fold it problem start value (Err w)
      shift_fails w h = go is_found is_along
        where
          go : (effects : List Ratio) × each (effect_fold it.lts it.basis value) (all_numbers (labels it.lts)) (Ok effects)
              × made_whole it.class (effects ++ start ∷ []) (Ok found) → IsAlongTree it.lts it.tree found before → place_fold it problem start value (Err w)
          go (effects, made, whole_made) (number, along, are) = inr (effects, made, inr (found, whole_made, inr (number, along, inl (subst (λ l. shift_fold it.lts it.class problem l (Err w)) are h))))

      module _ (numbers : List Ratio) (is_shift : shift_fold it.lts it.class problem before (Ok numbers)) where
        pub numbers_made : numbers_fold it problem start value (Ok numbers)
        numbers_made = go is_found is_along
          where
            go : (effects : List Ratio) × each (effect_fold it.lts it.basis value) (all_numbers (labels it.lts)) (Ok effects)
                × made_whole it.class (effects ++ start ∷ []) (Ok found) → IsAlongTree it.lts it.tree found before → numbers_fold it problem start value (Ok numbers)
            go (effects, made, whole_made) (number, along, are) = (effects, made, (found, whole_made, (number, along, subst (λ l. shift_fold it.lts it.class problem l (Ok numbers)) are is_shift)))

        pub place_made_by : (r : Result Place Wide) → weights_fold it.lts it.class problem found numbers r → place_fold it problem start value r
        place_made_by r h = go is_found is_along r h
          where
            go : (effects : List Ratio) × each (effect_fold it.lts it.basis value) (all_numbers (labels it.lts)) (Ok effects)
                × made_whole it.class (effects ++ start ∷ []) (Ok found) → IsAlongTree it.lts it.tree found before → (r : Result Place Wide)
                → weights_fold it.lts it.class problem found numbers r → place_fold it problem start value r
            go (effects, made, whole_made) (number, along, are) (Ok place) h =
                (effects, made, (found, whole_made, (number, along, (numbers, subst (λ l. shift_fold it.lts it.class problem l (Ok numbers)) are is_shift, h))))
            go (effects, made, whole_made) (number, along, are) (Err w) h =
                inr (
                  effects,
                  made,
                  inr (
                    found,
                    whole_made,
                    inr
                        (number, along, inr (numbers, subst (λ l. shift_fold it.lts it.class problem l (Ok numbers)) are is_shift, h)),
                  ),
                )

-- ---- one list, and weights of all labels

pub numbers_one : (s : Setting) (problem : Problem) (start : Ratio) (value : ℕ → Ratio) → IsOne (numbers_fold s problem start value)
numbers_one s problem start value = and_then_one _ _ (each_one _ (effect_one s.lts s.basis value) _)
    (λ effects. and_then_one _ _ (whole_one s.class _) (λ found. and_then_one _ _ (along_one _ _ s.tree) (λ number. shift_one s.lts s.class problem _)))

pub weights_of_all : (s : Setting) (problem : Problem) (start : Ratio) (value : ℕ → Ratio) (place : Place)
    → place_fold s problem start value (Ok place) → (length place.pre ≡ labels s.lts) × (length place.post ≡ labels s.lts)
weights_of_all s problem start value place (effects, made, (found, whole_made, (number, along, (numbers, shift, (post, sums, e))))) = (
  ap (λ (p : Place). length p.pre) e ∙ length-map (map (taken s.lts s.class problem numbers found) (all_numbers (labels s.lts))) unsigned_abs
      ∙ taken_length (taken s.lts s.class problem numbers found) (labels s.lts),
  ap (λ (p : Place). length p.post) e ∙ length-map post unsigned_abs ∙ given_length (taken s.lts s.class problem numbers found) (top_at found) (labels s.lts) post sums,
)
