-- The point at which every member of a set is 0 has one Start and one value at each free label with an arc, and these make one place.
use Rattle.std.proofs.Common.{◌≡◌, inl, inr, ℕ, ◌&&◌, not, Bool, true, false, List, [], ◌∷◌, Contains, Result, Ok, Err, refl, sym, ap₂, subst, ◌∙◌, ⊎_elim, arith}
use Rattle.std.specs.Prelude.{pos}
use Rattle.std.proofs.lemmas.Bool.{cases_Bool}
use Rattle.std.proofs.lemmas.List.{get_or_default}
use Rattle.rg_theory.specs.System.{System, labels}
use Rattle.rg_theory.specs.declared.Class.{Class}
use Rattle.rg_theory.specs.declared.Problem.{Problem}
use Rattle.rg_integers.specs.declared.term.Wide.{Wide}
use Rattle.rg_linear.specs.System.{LinearSystem}
use Rattle.rg_linear.specs.Dictionary.{Relation}
use Rattle.rg_linear.specs.Cycle.{CycleBasis}
use Rattle.rg_linear.proofs.Unique.{same_relation}
use Rattle.rg_case_folds.specs.Setting.{Setting}
use Rattle.rg_folds.specs.Fold.{gives, and_then, either, each, further, joined, Ratio, whole, IsRatio, quotient, add, mul}
use Rattle.rg_folds.specs.Substitution.{is_in}
use Rattle.rg_case_folds.specs.Rewriting.{has_label, free_columns, all_numbers, has_start}
use Rattle.rg_case_folds.specs.Placing.{effect_fold, place_fold}
use Rattle.rg_case_folds.specs.Shown.{IsValueAt, PointOf}
use Rattle.rg_folds.proofs.FoldLemmas.{ratio_one}
use Rattle.rg_case_folds.proofs.Lists.{first, behind, where_is, where_has}

-- ---- one value each

same_value : (system : LinearSystem) (members : List ℕ) (j : ℕ) (f g : Ratio) → IsValueAt system members j f → IsValueAt system members j g → f ≡ g
same_value system members j f g (inl (has, e)) (inl (has', e')) = e ∙ sym e'
same_value system members j f g (inl (has, e)) (inr (k, row, is)) = absurd (row.outside has)
same_value system members j f g (inr (k, row, is)) (inl (has, e)) = absurd (row.outside has)
same_value system members j f g (inr (k, row, is)) (inr (k', row', is')) =
    let same : k' ≡ k = same_relation system members j k' k row' row in
    ratio_one f g k.constant k.d is (subst (λ (x : Relation). IsRatio g x.constant x.d) same is')

module _ (lts : System) (basis : CycleBasis) (class : Class) (system : LinearSystem) (members : List ℕ) (start start' : Ratio)
    (value value' : ℕ → Ratio) (a : PointOf lts basis class system members start value) (b : PointOf lts basis class system members start' value') where
  pub one_start : start ≡ start'
  one_start = ⊎_elim (λ has. same_value system members 0 start start' (a.start_is has) (b.start_is has)) (λ lacks. a.no_start lacks ∙ sym (b.no_start lacks)) (cases_Bool (has_start class))

  pub one_value : (f : ℕ) → Contains (free_columns lts basis) f → value f ≡ value' f
  one_value f (i, lt, e) =
      let at = get_or_default (free_columns lts basis) i 0 f lt ∙ e in
      same_value system members _ (value f) (value' f) (a.values i f lt at) (b.values i f lt at)

-- ---- a computation that has the results of another

abbrev pub HasResultsOf : {X : Type 0} → (Result X Wide → Type 0) → (Result X Wide → Type 0) → Type 0
HasResultsOf {X} fold fold' = (r : Result X Wide) → fold r → fold' r

and_then_too : {X Y : Type 0} (one one' : Result X Wide → Type 0) (next next' : X → Result Y Wide → Type 0) → HasResultsOf one one'
    → ((x : X) → HasResultsOf (next x) (next' x)) → HasResultsOf (and_then one next) (and_then one' next')
and_then_too one one' next next' f n (Ok y) (x, a, b) = (x, f (Ok x) a, n x (Ok y) b)
and_then_too one one' next next' f n (Err w) (inl a) = inl (f (Err w) a)
and_then_too one one' next next' f n (Err w) (inr (x, a, b)) = inr (x, f (Ok x) a, n x (Err w) b)

each_too : {A X : Type 0} (make make' : A → Result X Wide → Type 0) (items : List A) → ((a : A) → Contains items a → HasResultsOf (make a) (make' a))
    → HasResultsOf (each make items) (each make' items)
each_too make make' [] too = λ r h. h
each_too {A} {X} make make' (a ∷ rest) too =
    and_then_too (make a) (make' a) (λ x. and_then (each make rest) (λ xs. gives (x ∷ xs))) (λ x. and_then (each make' rest) (λ xs. gives (x ∷ xs))) (too a (first a rest))
    (λ x. and_then_too (each make rest) (each make' rest) (λ xs. gives (x ∷ xs)) (λ xs. gives (x ∷ xs)) (each_too make make' rest (λ b has. too b (behind a b rest has))) (λ xs r h. h))

further_too : {A X : Type 0} (join : X → X → Result X Wide → Type 0) (make make' : A → Result X Wide → Type 0) (sum : X) (items : List A)
    → ((a : A) → Contains items a → HasResultsOf (make a) (make' a)) → HasResultsOf (further join make sum items) (further join make' sum items)
further_too join make make' sum [] too = λ r h. h
further_too {A} {X} join make make' sum (a ∷ rest) too =
    and_then_too (make a) (make' a) (λ x. and_then (join sum x) (λ more. further join make more rest)) (λ x. and_then (join sum x) (λ more. further join make' more rest)) (too a (first a rest))
    (λ x. and_then_too (join sum x) (join sum x) (λ more. further join make more rest) (λ more. further join make' more rest) (λ r h. h)
    (λ more. further_too join make make' more rest (λ b has. too b (behind a b rest has))))

joined_too : {A X : Type 0} (join : X → X → Result X Wide → Type 0) (make make' : A → Result X Wide → Type 0) (none : X) (items : List A)
    → ((a : A) → Contains items a → HasResultsOf (make a) (make' a)) → HasResultsOf (joined join make none items) (joined join make' none items)
joined_too join make make' none [] too = λ r h. h
joined_too {A} {X} join make make' none (a ∷ rest) too =
    and_then_too (make a) (make' a) (λ x. further join make x rest) (λ x. further join make' x rest) (too a (first a rest))
    (λ x. further_too join make make' x rest (λ b has. too b (behind a b rest has)))

-- ---- the place

abbrev effect_by : Bool → Bool → Ratio → (Result Ratio Wide → Type 0) → Result Ratio Wide → Type 0
effect_by used free v rest = either (not used) (gives (whole (pos 0))) (either free (gives v) rest)

effect_too : (used free : Bool) (v v' : Ratio) (rest rest' : Result Ratio Wide → Type 0) → (free ≡ true → used ≡ true → v ≡ v')
    → HasResultsOf rest rest' → HasResultsOf (effect_by used free v rest) (effect_by used free v' rest')
effect_too false free v v' rest rest' same too r h = h
effect_too true true v v' rest rest' same too r h = subst (λ x. gives x r) (same refl refl) h
effect_too true false v v' rest rest' same too r h = too r h

module _ (s : Setting) (problem : Problem) (start : Ratio) (value value' : ℕ → Ratio) (same : (f : ℕ) → Contains (free_columns s.lts s.basis) f → value f ≡ value' f) where
  terms : (t : ℕ)
      → HasResultsOf (joined add (λ f. and_then (quotient ((s.basis.relation t).coefficient f) (s.basis.relation t).d) (λ k. mul (value f) k)) (whole (pos 0)) (free_columns s.lts s.basis))
      (joined add (λ f. and_then (quotient ((s.basis.relation t).coefficient f) (s.basis.relation t).d) (λ k. mul (value' f) k)) (whole (pos 0)) (free_columns s.lts s.basis))
  terms t = joined_too add (λ f. and_then (quotient ((s.basis.relation t).coefficient f) (s.basis.relation t).d) (λ k. mul (value f) k))
      (λ f. and_then (quotient ((s.basis.relation t).coefficient f) (s.basis.relation t).d) (λ k. mul (value' f) k)) (whole (pos 0)) (free_columns s.lts s.basis)
      (λ f has r h. subst (λ v. and_then (quotient ((s.basis.relation t).coefficient f) (s.basis.relation t).d) (λ k. mul v k) r) (same f has) h)

  effect : (t : ℕ) → Contains (all_numbers (labels s.lts)) t → HasResultsOf (effect_fold s.lts s.basis value t) (effect_fold s.lts s.basis value' t)
  effect t has =
      effect_too (has_label t s.lts.arcs) (is_in s.basis.members t) (value t) (value' t) _ _
      (λ free used. same t (where_has (λ u. is_in s.basis.members u && has_label u s.lts.arcs) 0 (labels s.lts) t (ap₂ (λ x y. x && y) free used)
      (omega arith) (where_is (λ u. true) 0 (labels s.lts) t has).2)) (terms t)

  effects : HasResultsOf (each (effect_fold s.lts s.basis value) (all_numbers (labels s.lts))) (each (effect_fold s.lts s.basis value') (all_numbers (labels s.lts)))
  effects = each_too (effect_fold s.lts s.basis value) (effect_fold s.lts s.basis value') (all_numbers (labels s.lts)) effect

  pub one_place : HasResultsOf (place_fold s problem start value) (place_fold s problem start value')
  one_place (Ok p) (found, made, place) = (found, effects (Ok found) made, place)
  one_place (Err w) (inl made) = inl (effects (Err w) made)
  one_place (Err w) (inr (found, made, place)) = inr (found, effects (Ok found) made, place)
