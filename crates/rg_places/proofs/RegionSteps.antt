-- The place of a point that solves a case, as code keeps it.
use Rattle.std.proofs.Common.{◌≡◌, ℕ, zero, suc, ◌≤◌, List, [], ◌∷◌, length, map, All, unsigned_abs, Result, Ok, Err, ap, refl, sym, subst, ◌∙◌}
use Rattle.std.specs.Prelude.{slice_index, IfOk}
use Rattle.std.proofs.Math.Path.{fun_ext}
use Rattle.std.proofs.lemmas.List.{length-map, get_or_default}
use Rattle.rg_theory.specs.declared.Problem.{Problem}
use Rattle.rg_theory.specs.System.{states, labels}
use Rattle.rg_theory.specs.Region.{RegionIn}
use Rattle.rg_theory.specs.Problem.{Separates}
use Rattle.rg_fraction.specs.declared.fraction.Fraction.{Fraction}
use Rattle.rg_integers.specs.Range.{greatest}
use Rattle.rg_net.specs.Shown.{shown_place}
use Rattle.rg_case_folds.specs.Setting.{Setting, case_at}
use Rattle.rg_folds.specs.Fold.{Ratio}
use Rattle.rg_case_folds.specs.Rewriting.{column_count}
use Rattle.rg_case_folds.specs.Placing.{place_fold}
use Rattle.rg_case_folds.specs.Shown.{IsLive}
use Rattle.rg_folds.proofs.FoldLemmas.{ok_is}
use Rattle.rg_case_folds.specs.Places.{numbers_fold, tokens_of, PlaceIsMade}
use Rattle.rg_places.specs.PointValues.{point_start, point_value, SolvesCase}
use Rattle.rg_places.specs.RegionPlaces.{region_tokens, IsRegionPlace, PlaceSeparates}
use Rattle.rg_marks.specs.declared.region_place.RegionPlace.{RegionPlace}
use Rattle.rg_case_folds.proofs.PlacePoints.{point_makes}
use Rattle.rg_places.proofs.PointPlaces.{at_point}
use Rattle.rg_places.proofs.PlaceSteps.{numbers_one, weights_of_all}

tokens_in : (numbers : List Ratio) (s : ℕ) → slice_index (map (λ n. unsigned_abs n.top) numbers) s ≡ tokens_of numbers s
tokens_in [] s = refl
tokens_in (n ∷ numbers) zero = refl
tokens_in (n ∷ numbers) (suc s) = tokens_in numbers s

module _ (it : Setting) (problem : Problem) (point : List Fraction) (r : RegionPlace) (numbers : List Ratio) where
  region_of : numbers_fold it problem (point_start it.class point) (point_value it.lts it.basis it.class point) (Ok numbers)
      → r.tokens.items ≡ map (λ n. unsigned_abs n.top) numbers → length numbers ≡ states it.lts
      → (length r.place.pre.items ≡ labels it.lts) × (length r.place.post.items ≡ labels it.lts)
      → PlaceIsMade it problem (point_start it.class point) (point_value it.lts it.basis it.class point) (shown_place r.place)
      → IsRegionPlace it.lts it.class r × PlaceSeparates problem r
  region_of made tokens count (pre, post) m = (
    record {
      states = ap length tokens ∙ length-map numbers (λ n. unsigned_abs n.top) ∙ count;
      pre = pre;
      post = post;
      region = subst (RegionIn it.lts it.class (shown_place r.place)) (sym same) m.region;
      in_range = record { start = m.fit.start; pre = m.fit.pre; post = m.fit.post };
      few_tokens = few;
    },
    subst (λ f. Separates (shown_place r.place) f problem) (sym same) m.separates,
  )
    where
      one_list : m.numbers ≡ numbers
      one_list = ok_is m.numbers numbers ((numbers_one it problem (point_start it.class point) (point_value it.lts it.basis it.class point)).one (Ok m.numbers) (Ok numbers) m.made made)

      at : (s : ℕ) → region_tokens r s ≡ tokens_of m.numbers s
      at s = ap (λ l. slice_index l s) tokens ∙ tokens_in numbers s ∙ ap (λ l. tokens_of l s) (sym one_list)

      same : region_tokens r ≡ tokens_of m.numbers
      same = fun_ext at

      few : All (λ n. n ≤ greatest) r.tokens.items
      few k d lt = subst (λ n. n ≤ greatest) (sym (get_or_default r.tokens.items k d 0 lt ∙ at k)) (m.fit.tokens k)

  pub region_made : length point ≡ column_count it.lts it.basis it.class → IsLive it.lts problem → SolvesCase it problem point
      → numbers_fold it problem (point_start it.class point) (point_value it.lts it.basis it.class point) (Ok numbers)
      → place_fold it problem (point_start it.class point) (point_value it.lts it.basis it.class point) (Ok (shown_place r.place))
      → r.tokens.items ≡ map (λ n. unsigned_abs n.top) numbers → length numbers ≡ states it.lts → IsRegionPlace it.lts it.class r × PlaceSeparates problem r
  region_made columns live s made fold tokens count =
      region_of made tokens count (weights_of_all it problem (point_start it.class point) (point_value it.lts it.basis it.class point) (shown_place r.place) fold)
      (point_makes (case_at it problem s.number) s.case s.scale s.v (point_start it.class point) (point_value it.lts it.basis it.class point)
      (shown_place r.place) s.of_case live s.is_point s.meets s.whole (at_point it.lts it.basis it.class point columns s.scale s.v s.values) fold)

pub if_both : {X E : Type 0} (P Q R : X → Type 0) (r : Result X E) → ((x : X) → P x → Q x → R x) → IfOk r P → IfOk r Q → IfOk r R
if_both P Q R (Ok x) f p q = f x p q
if_both P Q R (Err e) f p q = tt
