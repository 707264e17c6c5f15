-- The effects that the fold of a place makes are reduced.
use Rattle.std.proofs.Common.{◌≡◌, ⊎_elim, ℕ, ◌<◌, ◌&&◌, not, Bool, true, List, [], ◌∷◌, ◌++◌, length, Contains, Result, Ok, sym, ap, subst, ◌∙◌, arith}
use Rattle.std.specs.Prelude.{ℤ, pos}
use Rattle.std.proofs.lemmas.Bool.{cases_Bool, and_from}
use Rattle.std.proofs.lemmas.List.{get_or_append_left, get_or-append_right}
use Rattle.rg_theory.specs.System.{System, labels}
use Rattle.rg_linear.specs.Cycle.{CycleBasis}
use Rattle.rg_integers.specs.declared.term.Wide.{Wide}
use Rattle.rg_folds.specs.Fold.{gives, either, and_then, each, further, joined, Ratio, whole, quotient, add, mul}
use Rattle.rg_folds.specs.Substitution.{is_in}
use Rattle.rg_case_folds.specs.Rewriting.{has_label, free_columns, all_numbers}
use Rattle.rg_case_folds.specs.Placing.{effect_fold, ratio_at}
use Rattle.rg_case_folds.proofs.Lists.{where_has}
use Rattle.rg_case_folds.specs.Places.{IsReduced, AreValuesOf}
use Rattle.rg_case_folds.proofs.Wholes.{each_at}
use Rattle.rg_case_folds.proofs.Found.{all_length, all_at}
use Rattle.rg_case_folds.proofs.Overs.{whole_reduced}
use Rattle.rg_case_folds.proofs.Products.{itself_taken}
use Rattle.rg_case_folds.proofs.Items.{each_length}

further_reduced : (make : ℕ → Result Ratio Wide → Type 0) (f h : Ratio) (ts : List ℕ) → IsReduced f → further add make f ts (Ok h) → IsReduced h
further_reduced make f h [] p e = subst IsReduced (sym e) p
further_reduced make f h (t ∷ ts) p (k, made, (g, (_, _, added), rest)) = further_reduced make g h ts added.reduced rest

joined_reduced : (make : ℕ → Result Ratio Wide → Type 0) (h : Ratio) (ts : List ℕ) → ((t : ℕ) (k : Ratio) → make t (Ok k) → IsReduced k) → joined add make (whole (pos 0)) ts (Ok h) → IsReduced h
joined_reduced make h [] one e = subst IsReduced (sym e) (whole_reduced (pos 0))
joined_reduced make h (t ∷ ts) one (k, made, rest) = further_reduced make k h ts (one t k made) rest

one_reduced : (lts : System) (basis : CycleBasis) (value : ℕ → Ratio) (t : ℕ) (h : Ratio) → ((f : ℕ) → Contains (free_columns lts basis) f → IsReduced (value f))
    → t < labels lts → effect_fold lts basis value t (Ok h) → IsReduced h
one_reduced lts basis value t h values lt fold =
    ⊎_elim used (λ none. subst IsReduced (sym (subst (λ b. effect_by b (is_in basis.members t)) none fold)) (whole_reduced (pos 0))) (cases_Bool (has_label t lts.arcs))
  where
    term : ℕ → Result Ratio Wide → Type 0
    term f = and_then (quotient ((basis.relation t).coefficient f) (basis.relation t).d) (λ k. mul (value f) k)

    effect_by : Bool → Bool → Type 0
    effect_by label member = either (not label) (gives (whole (pos 0))) (either member (gives (value t)) (joined add term (whole (pos 0)) (free_columns lts basis))) (Ok h)

    used : has_label t lts.arcs ≡ true → IsReduced h
    used label =
        let by = subst (λ b. effect_by b (is_in basis.members t)) label fold in
        ⊎_elim
        (λ member. subst IsReduced (sym (subst (λ b. effect_by true b) member by))
        (values t (where_has (λ t. is_in basis.members t && has_label t lts.arcs) 0 (labels lts) t
        (and_from (is_in basis.members t) (has_label t lts.arcs) member label) (omega arith) (omega arith))))
        (λ outside. joined_reduced term h (free_columns lts basis) (λ f k (q, divided, product). product.2.reduced) (subst (λ b. effect_by true b) outside by))
        (cases_Bool (is_in basis.members t))

module _ (lts : System) (basis : CycleBasis) (start : Ratio) (value : ℕ → Ratio) (first : ℤ) (effect : ℕ → ℤ) (scale : ℤ) (effects : List Ratio)
    (v : AreValuesOf lts basis start value first effect scale) (made : each (effect_fold lts basis value) (all_numbers (labels lts)) (Ok effects)) where
  count : length effects ≡ labels lts
  count = each_length (effect_fold lts basis value) (all_numbers (labels lts)) effects made ∙ all_length (labels lts)

  pub effect_reduced : (t : ℕ) → t < labels lts → IsReduced (ratio_at (effects ++ start ∷ []) t)
  effect_reduced t lt = subst IsReduced (sym (get_or_append_left effects (start ∷ []) (whole (pos 0)) t (subst (λ n. t < n) (sym count) lt)))
      (one_reduced lts basis value t (ratio_at effects t) v.reduced lt
      (subst (λ u. effect_fold lts basis value u (Ok (ratio_at effects t))) (all_at (labels lts) t lt)
      (each_at (effect_fold lts basis value) (all_numbers (labels lts)) effects 0 (whole (pos 0)) t made (subst (λ n. t < n) (sym (all_length (labels lts))) lt))))

  pub start_is_reduced : IsReduced (ratio_at (effects ++ start ∷ []) (labels lts))
  start_is_reduced = subst IsReduced (sym (get_or-append_right effects (start ∷ []) (labels lts) (labels lts) (whole (pos 0)) count (omega arith)
      ∙ ap (λ k. ratio_at (start ∷ []) k) (itself_taken (labels lts)))) v.start_reduced
