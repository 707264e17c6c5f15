-- A fold over labels reads the counts of labels alone.
use Rattle.std.proofs.Common.{◌≡◌, ℕ, suc, ◌<◌, not, Bool, List, [], ◌∷◌, Contains, Result, Ok, Err, subst, refl, inl, inr, arith}
use Rattle.std.specs.Prelude.{ℤ}
use Rattle.rg_integers.specs.declared.term.Wide.{Wide}
use Rattle.rg_linear.specs.Cycle.{CycleBasis}
use Rattle.rg_folds.specs.Fold.{and_then, each, further, Ratio, whole, quotient, add, mul}
use Rattle.rg_folds.specs.Substitution.{is_in, numbers_where, free_labels, dependent_labels, dependent_term, coefficient_fold, substitute_fold}
use Rattle.rg_cycles.proofs.Labels.{where_from}

module _ {A X : Type 0} (make make' : A → Result X Wide → Type 0) where
  below_first : (a : A) (items : List A) (b : A) → Contains items b → Contains (a ∷ items) b
  below_first a items b (k, lt, e) = (suc k, omega arith, e)

  pub each_same : (items : List A) → ((a : A) → Contains items a → (r : Result X Wide) → make a r → make' a r) → (r : Result (List X) Wide) → each make items r → each make' items r
  each_same [] same r h = h
  each_same (a ∷ items) same (Ok ys) (x, made, (xs, rest, e)) = (x, same a (0, omega arith, refl) (Ok x) made, (xs, each_same items (λ b has. same b (below_first a items b has)) (Ok xs) rest, e))
  each_same (a ∷ items) same (Err w) (inl made) = inl (same a (0, omega arith, refl) (Err w) made)
  each_same (a ∷ items) same (Err w) (inr (x, made, inl rest)) = inr (x, same a (0, omega arith, refl) (Ok x) made, inl (each_same items (λ b has. same b (below_first a items b has)) (Err w) rest))
  each_same (a ∷ items) same (Err w) (inr (x, made, inr (xs, rest, gone))) = absurd gone

  further_same : (join : X → X → Result X Wide → Type 0) (items : List A) → ((a : A) → Contains items a → (r : Result X Wide) → make a r → make' a r)
      → (sum : X) (r : Result X Wide) → further join make sum items r → further join make' sum items r
  further_same join [] same sum r h = h
  further_same join (a ∷ items) same sum (Ok y) (x, made, (more, joins, rest)) =
      (x, same a (0, omega arith, refl) (Ok x) made, (more, joins, further_same join items (λ b has. same b (below_first a items b has)) more (Ok y) rest))
  further_same join (a ∷ items) same sum (Err w) (inl made) = inl (same a (0, omega arith, refl) (Err w) made)
  further_same join (a ∷ items) same sum (Err w) (inr (x, made, inl joins)) = inr (x, same a (0, omega arith, refl) (Ok x) made, inl joins)
  further_same join (a ∷ items) same sum (Err w) (inr (x, made, inr (more, joins, rest))) =
      inr (x, same a (0, omega arith, refl) (Ok x) made, inr (more, joins, further_same join items (λ b has. same b (below_first a items b has)) more (Err w) rest))

module _ (labels : ℕ) (basis : CycleBasis) (f g : ℕ → ℤ) (equal : (t : ℕ) → t < labels → f t ≡ g t) where
  among : (test : ℕ → Bool) (t : ℕ) → Contains (numbers_where test 0 labels) t → t < labels
  among test t has = let w = (where_from test 0 labels t has).below in omega arith

  coefficient_same : (label : ℕ) → label < labels → (r : Result Ratio Wide) → coefficient_fold labels basis f label r → coefficient_fold labels basis g label r
  coefficient_same label lt r h = subst (λ z. further add (dependent_term basis g label) (whole z) (dependent_labels labels basis) r) (equal label lt)
      (further_same (dependent_term basis f label) (dependent_term basis g label) add (dependent_labels labels basis)
      (λ t has r' k. subst (λ z. and_then (quotient ((basis.relation t).coefficient label) (basis.relation t).d) (λ q. mul (whole z) q) r')
      (equal t (among (λ u. not (is_in basis.members u)) t has)) k)
      (whole (f label)) r h)

  pub substitute_same : (r : Result (List Ratio) Wide) → substitute_fold labels basis f r → substitute_fold labels basis g r
  substitute_same r h = each_same (coefficient_fold labels basis f) (coefficient_fold labels basis g) (free_labels labels basis)
      (λ t has. coefficient_same t (among (λ u. is_in basis.members u) t has)) r h
