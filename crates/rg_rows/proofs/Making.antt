-- The steps of a row's fold.
use Rattle.std.proofs.Common.{◌≡◌, ℕ, ◌<◌, List, [], All, map, length, Result, Ok, Err, ap, subst, ◌∙◌, inl, inr}
use Rattle.std.specs.Prelude.{ℤ, pos, IfOk}
use Rattle.std.proofs.lemmas.List.{length-map}
use Rattle.rg_theory.specs.System.{labels}
use Rattle.rg_integers.specs.Range.{InRange}
use Rattle.rg_integers.specs.declared.term.Wide.{Wide}
use Rattle.rg_linear.specs.Branching.{Form}
use Rattle.rg_cert_meaning.specs.Expression.{Term, Expression}
use Rattle.rg_cert_meaning.specs.declared.RowName.{RowName}
use Rattle.rg_fraction.specs.declared.fraction.Fraction.{Fraction}
use Rattle.rg_fraction.specs.Fractions.{numerator_of, denominator_of, IsValue, IsProduct}
use Rattle.rg_case_folds.specs.Setting.{Setting, CaseSetting}
use Rattle.rg_folds.proofs.FoldLemmas.{mul_step}
use Rattle.rg_fraction.specs.declared.fold_stop.FoldStop.{FoldStop}
use Rattle.rg_folds.specs.Fold.{Comes, shown_result, ratio_of, each, Ratio, whole, mul}
use Rattle.rg_folds.specs.Substitution.{substitute_fold}
use Rattle.rg_case_folds.specs.Rewriting.{start_of, count_of, columns_of, Scaled, scaled_fold, terms_fold, KeptRow, divided, row_fold, names_of, split_forms, form_fold, column_count, CaseSystem, IsIdle, system_fold}
use Rattle.rg_linear.specs.Firsts.{KeepsEqualRows}
use Rattle.rg_rows.specs.View.{fold_of}
use Rattle.rg_rows.proofs.Counted.{substitute_same}
use Rattle.rg_case_folds.proofs.Items.{each_length}
use Rattle.rg_case_parts.proofs.Multiples.{scaled_wholes}
use Rattle.rg_case_parts.proofs.Picking.{columns_length}
use Rattle.rg_rows.specs.Columns.{columns_fold}
use Rattle.rg_folds.proofs.Folding.{whole_is}

-- a product of whole numbers in code
pub whole_step : (f g : Fraction) (x y : ℤ) (r : Result Fraction Wide) → IsValue f x (pos 1) → IsValue g y (pos 1)
    → IsProduct (numerator_of f) (denominator_of f) (numerator_of g) (denominator_of g) r → mul (whole x) (whole y) (shown_result ratio_of r)
whole_step f g x y r v w p = subst (λ z. mul z (whole y) (shown_result ratio_of r)) (whole_is f x v) (subst (λ z. mul (ratio_of f) z (shown_result ratio_of r)) (whole_is g y w) (mul_step f g r p))

-- a result's value keeps what each value keeps
pub if_ok_more : {T E : Type 0} (r : Result T E) (P Q : T → Type 0) → ((t : T) → P t → Q t) → IfOk r P → IfOk r Q
if_ok_more (Ok t) P Q more h = more t h
if_ok_more (Err e) P Q more h = h

-- what holds of each result of a fold holds of what a call gives
pub if_comes : {T X : Type 0} (fold : Result X Wide → Type 0) (view : T → X) (P : X → Type 0) → ((x : X) → fold (Ok x) → P x) → (r : Result T FoldStop) → Comes fold view r → IfOk r (λ t. P (view t))
if_comes fold view P holds (Ok t) h = holds (view t) h
if_comes fold view P holds (Err e) h = tt

-- the columns of the code, where its counts are those of the terms
module _ (s : Setting) (terms : List Term) (n : ℕ) (same : labels s.lts ≡ n) (counts : ℕ → ℤ) (equal : (t : ℕ) → t < n → counts t ≡ count_of s.tree terms t) where
  substituted : (r : Result (List Ratio) Wide) → substitute_fold (labels s.lts) s.basis counts r → substitute_fold (labels s.lts) s.basis (count_of s.tree terms) r
  substituted r h = substitute_same (labels s.lts) s.basis counts (count_of s.tree terms) (λ t lt. equal t (subst (λ m. t < m) same lt)) r h

  pub columns_told : (start : ℤ) → start ≡ start_of terms → (r : Result Scaled Wide) → columns_fold s start counts r → terms_fold s terms r
  columns_told start starts (Ok scaled) (free, found, h) = (free, substituted (Ok free) found, subst (λ z. scaled_fold (columns_of s.lts s.basis s.class z free) (Ok scaled)) starts h)
  columns_told start starts (Err w) (inl h) = inl (substituted (Err w) h)
  columns_told start starts (Err w) (inr (free, found, h)) = inr (free, substituted (Ok free) found, subst (λ z. scaled_fold (columns_of s.lts s.basis s.class z free) (Err w)) starts h)

module _ (s : Setting) (start : ℤ) (counts : ℕ → ℤ) where
  pub columns_unsubstituted : (w : Wide) → substitute_fold (labels s.lts) s.basis counts (Err w) → columns_fold s start counts (Err w)
  columns_unsubstituted w h = inl h

  -- fractions over the columns, made whole
  pub columns_scaled : (free numbers : List Ratio) → substitute_fold (labels s.lts) s.basis counts (Ok free) → numbers ≡ columns_of s.lts s.basis s.class start free
      → (r : Result Scaled Wide) → scaled_fold numbers r → columns_fold s start counts r
  columns_scaled free numbers found picked (Ok scaled) h = (free, found, subst (λ l. scaled_fold l (Ok scaled)) picked h)
  columns_scaled free numbers found picked (Err w) h = inr (free, found, subst (λ l. scaled_fold l (Err w)) picked h)

  -- whole numbers over the columns
  pub columns_whole : (free numbers : List ℤ) → substitute_fold (labels s.lts) s.basis counts (Ok (map whole free)) → All InRange numbers
      → map whole numbers ≡ columns_of s.lts s.basis s.class start (map whole free) → columns_fold s start counts (Ok (record { multiple = pos 1; numbers = numbers }))
  columns_whole free numbers found in_range picked =
      columns_scaled (map whole free) (map whole numbers) found picked (Ok (record { multiple = pos 1; numbers = numbers })) (scaled_wholes numbers in_range)

  -- there is one number for each column
  pub columns_counted : (scaled : Scaled) → columns_fold s start counts (Ok scaled) → length scaled.numbers ≡ column_count s.lts s.basis s.class
  columns_counted scaled (free, found, (m, multiple, (products, made, is))) =
      ap (λ (k : Scaled). length k.numbers) is ∙ length-map products (λ (r : Ratio). r.top)
      ∙ each_length (λ (r : Ratio). mul r (whole m)) (columns_of s.lts s.basis s.class start free) products made
      ∙ columns_length s.lts s.basis s.class start counts free found

-- ---- from the columns to the row

module _ (s : Setting) (name : RowName) (e : Expression) where
  pub row_unscaled : (w : Wide) → terms_fold s e.terms (Err w) → row_fold s name e (Err w)
  row_unscaled w h = inl h

  module _ (scaled : Scaled) (terms : terms_fold s e.terms (Ok scaled)) where
    pub row_unmade : (w : Wide) → mul (whole e.constant) (whole scaled.multiple) (Err w) → row_fold s name e (Err w)
    row_unmade w h = inr (scaled, terms, inl h)

    pub row_made : (constant : Ratio) → mul (whole e.constant) (whole scaled.multiple) (Ok constant) → (r : Result KeptRow Wide) → divided name scaled constant.top r → row_fold s name e r
    row_made constant h (Ok out) is = (scaled, terms, (constant, h, is))
    row_made constant h (Err w) is = absurd is

-- ---- from the rows to the case

module _ (s : CaseSetting) (names : List RowName) (named : names ≡ names_of s.lts s.class s.problem s.number) where
  pub case_fails : (w : Wide) → each (fold_of s) names (Err w) → system_fold s (Err w)
  case_fails w h = inl (subst (λ l. each (fold_of s) l (Err w)) named h)

  module _ (all : List KeptRow) (made : each (fold_of s) names (Ok all)) where
    pub forms_fail : (w : Wide) → each (form_fold s.setting) (split_forms s.lts s.class s.problem) (Err w) → system_fold s (Err w)
    forms_fail w h = inr (all, subst (λ l. each (fold_of s) l (Ok all)) named made, inl h)

    pub case_made : (forms : List Form) (shown : CaseSystem) → each (form_fold s.setting) (split_forms s.lts s.class s.problem) (Ok forms)
        → shown.columns ≡ column_count s.lts s.basis s.class → KeepsEqualRows (λ k. k.row) IsIdle [] all shown.kept → shown.forms ≡ forms
        → system_fold s (Ok shown)
    case_made forms shown forms_made columns firsts same = (all, subst (λ l. each (fold_of s) l (Ok all)) named made, (forms, forms_made, (columns, firsts, same)))
