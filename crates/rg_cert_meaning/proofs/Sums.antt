-- Sums of rows: where all variables cancel, only the constants are left.
use Rattle.std.proofs.Common.{◌≡◌, ℕ, zero, suc, ◌≤◌, Bool, true, false, if◌then◌else◌, List, [], ◌∷◌, ◌++◌, length, map, All, refl, sym, ap, ap₂, ◌∙◌, subst, arith, ℤ, pos, ◌+ℤ◌, ◌*ℤ◌, ◌≤ℤ◌, ◌<ℤ◌, eqb-true, eq-eqb, le_trans, le_refl, le_of_suc-le-suc}
use Rattle.std.proofs.lemmas.Int.{ints}
use Rattle.rg_integers.specs.Sum.{sum_over}
use Rattle.rg_integers.proofs.Ring.{mul-add, add-mul, mul_assoc}
use Rattle.rg_integers.proofs.ListSums.{sum_over-same, sum_over-map, sum_over-append, sum_over-plus, sum_over-times, sum_over-not_negative}
use Rattle.rg_cert_meaning.specs.Expression.{Variable, Term, Expression, same_variable, coefficient_in, value_in, value_of}
use Rattle.rg_cert_meaning.specs.Row.{RowName}
use Rattle.rg_cert_meaning.specs.Refutes.{NamedRow, coefficient_sum, constant_sum}
use Rattle.rg_cert_meaning.specs.declared.Variable.TheVariants.{Tokens, Effect}

-- ---- terms without one variable

-- a test of two variables says whether they are one
pub same_variable_is : (v w : Variable) → same_variable v w ≡ true → v ≡ w
same_variable_is (Tokens q) (Tokens r) e = ap Tokens (eqb-true q r e)
same_variable_is (Effect t) (Effect u) e = ap Effect (eqb-true t u e)
same_variable_is (Tokens q) (Effect t) e = cc
same_variable_is (Effect t) (Tokens q) e = cc

pub same_variable_refl : (v : Variable) → same_variable v v ≡ true
same_variable_refl (Tokens q) = eq-eqb q q refl
same_variable_refl (Effect t) = eq-eqb t t refl

-- the terms of the other variables
abbrev without : Variable → List Term → List Term
without v [] = []
without v (t ∷ ts) = if same_variable t.variable v then without v ts else (t ∷ without v ts)

length-without : (v : Variable) (ts : List Term) → length (without v ts) ≤ length ts
length-without v [] = omega arith
length-without v (t ∷ ts) = go (same_variable t.variable v) (length-without v ts)
  where
    go : (b : Bool) → length (without v ts) ≤ length ts → length (if b then without v ts else (t ∷ without v ts)) ≤ length (t ∷ ts)
    go true ih = omega arith
    go false ih = omega arith

-- a value is that of one variable and that of the others
value_in-split : (x : Variable → ℤ) (v : Variable) (ts : List Term) → value_in x ts ≡ (coefficient_in ts v *ℤ x v) +ℤ value_in x (without v ts)
value_in-split x v [] = omega (arith, ints)
value_in-split x v (t ∷ ts) = go (same_variable t.variable v) refl (value_in-split x v ts)
  where
    go : (b : Bool) → same_variable t.variable v ≡ b → value_in x ts ≡ (coefficient_in ts v *ℤ x v) +ℤ value_in x (without v ts)
        → (t.coefficient *ℤ x t.variable) +ℤ value_in x ts ≡ (((if b then t.coefficient else pos 0) +ℤ coefficient_in ts v) *ℤ x v) +ℤ value_in x (if b then without v ts else (t ∷ without v ts))
    go true e ih = rw (add-mul t.coefficient (coefficient_in ts v) (x v), same_variable_is t.variable v e) (omega (arith, ints))
    go false e ih = rw add-mul (omega (arith, ints))

-- without one variable, the coefficient of another stays, and that of it is 0
coefficient_in-without : (v w : Variable) (ts : List Term)
    → (same_variable v w ≡ false → coefficient_in (without v ts) w ≡ coefficient_in ts w) × (same_variable v w ≡ true → coefficient_in (without v ts) w ≡ pos 0)
coefficient_in-without v w [] = ((λ e. refl), (λ e. refl))
coefficient_in-without v w (t ∷ ts) = (
  (λ e. apart (same_variable t.variable v) refl e ((coefficient_in-without v w ts).0 e)),
  (λ e. same (same_variable t.variable v) refl e ((coefficient_in-without v w ts).1 e)),
)
  where
    apart : (b : Bool) → same_variable t.variable v ≡ b → same_variable v w ≡ false → coefficient_in (without v ts) w ≡ coefficient_in ts w
        → coefficient_in (if b then without v ts else (t ∷ without v ts)) w ≡ (if same_variable t.variable w then t.coefficient else pos 0) +ℤ coefficient_in ts w
    apart true e differ ih = rw (same_variable_is t.variable v e, differ) (omega (arith, ints))
    apart false e differ ih = ap (λ z. (if same_variable t.variable w then t.coefficient else pos 0) +ℤ z) ih

    same : (b : Bool) → same_variable t.variable v ≡ b → same_variable v w ≡ true → coefficient_in (without v ts) w ≡ pos 0 → coefficient_in (if b then without v ts else (t ∷ without v ts)) w ≡ pos 0
    same true e is ih = ih
    same false e is ih =
        let not_w : same_variable t.variable w ≡ false = subst (λ u. same_variable t.variable u ≡ false) (same_variable_is v w is) e in
        rw not_w (omega (arith, ints))

-- where every coefficient is 0, so is the value
cancelled : (x : Variable → ℤ) (n : ℕ) (ts : List Term) → length ts ≤ n → ((v : Variable) → coefficient_in ts v ≡ pos 0) → value_in x ts ≡ pos 0
cancelled x n [] short none = refl
cancelled x zero (t ∷ ts) short none = absurd (omega arith)
cancelled x (suc n) (t ∷ ts) short none =
    let v = t.variable in
    let shorter : length (without v (t ∷ ts)) ≤ n =
    subst (λ b. length (if b then without v ts else (t ∷ without v ts)) ≤ n) (sym (same_variable_refl v)) (le_trans (length-without v ts) (le_of_suc-le-suc short)) in
    let rest : value_in x (without v (t ∷ ts)) ≡ pos 0 = cancelled x n (without v (t ∷ ts)) shorter (λ w. still w (same_variable v w) refl) in
    value_in-split x v (t ∷ ts) ∙ ap₂ (λ a b. (a *ℤ x v) +ℤ b) (none v) rest ∙ zero_times (x v)
  where
    zero_times : (z : ℤ) → (pos 0 *ℤ z) +ℤ pos 0 ≡ pos 0
    zero_times z = omega (arith, ints)

    still : (w : Variable) (b : Bool) → same_variable t.variable w ≡ b → coefficient_in (without t.variable (t ∷ ts)) w ≡ pos 0
    still w true e = (coefficient_in-without t.variable w (t ∷ ts)).1 e
    still w false e = (coefficient_in-without t.variable w (t ∷ ts)).0 e ∙ none w

-- ---- the terms of all rows

-- a term times a number
abbrev times : ℤ → Term → Term
times k t = record { coefficient = k *ℤ t.coefficient; variable = t.variable }

-- the terms of all rows, multiplied
abbrev gathered : (RowName → Expression) → List NamedRow → List Term
gathered expression [] = []
gathered expression (r ∷ rows) = map (times r.multiplier) (expression r.name).terms ++ gathered expression rows

-- a sum over all of them, of what is multiplied with the terms
sum_over-gathered : (f : Term → ℤ) → ((k : ℤ) (t : Term) → f (times k t) ≡ k *ℤ f t) → (expression : RowName → Expression) (rows : List NamedRow)
    → sum_over f (gathered expression rows) ≡ sum_over (λ r. r.multiplier *ℤ sum_over f (expression r.name).terms) rows
sum_over-gathered f linear expression [] = refl
sum_over-gathered f linear expression (r ∷ rows) =
    let k = r.multiplier in
    let terms = (expression r.name).terms in
    let here : sum_over f (map (times k) terms) ≡ k *ℤ sum_over f terms = sum_over-map f (times k) terms ∙ sum_over-same _ _ terms (λ t has. linear k t) ∙ sum_over-times k f terms in
    sum_over-append f (map (times k) terms) (gathered expression rows) ∙ ap₂ ◌+ℤ◌ here (sum_over-gathered f linear expression rows)

coefficient_in-gathered : (expression : RowName → Expression) (rows : List NamedRow) (v : Variable) → coefficient_in (gathered expression rows) v ≡ coefficient_sum expression rows v
coefficient_in-gathered expression rows v = sum_over-gathered (λ t. if same_variable t.variable v then t.coefficient else pos 0)
    (λ k t. times_if (same_variable t.variable v) k t.coefficient) expression rows
  where
    times_if : (b : Bool) (k c : ℤ) → (if b then k *ℤ c else pos 0) ≡ k *ℤ (if b then c else pos 0)
    times_if true k c = refl
    times_if false k c = omega (arith, ints)

-- rows whose multiplied values are at least 0 don't add up to a negative constant
pub no_contradiction : (x : Variable → ℤ) (expression : RowName → Expression) (rows : List NamedRow)
    → All (λ r. pos 0 ≤ℤ (r.multiplier *ℤ value_of x (expression r.name))) rows → ((v : Variable) → coefficient_sum expression rows v ≡ pos 0)
    → constant_sum expression rows <ℤ pos 0 → ⊥
no_contradiction x expression rows each cancels negative =
    let sum = sum_over-not_negative (λ r. r.multiplier *ℤ value_of x (expression r.name)) rows each in
    let is : sum_over (λ r. r.multiplier *ℤ value_of x (expression r.name)) rows ≡ sum_over (λ r. r.multiplier *ℤ value_in x (expression r.name).terms) rows +ℤ constant_sum expression rows =
    sum_over-same _ _ rows (λ r has. mul-add r.multiplier (value_in x (expression r.name).terms) (expression r.name).constant) ∙ sum_over-plus _ _ rows in
    let all = sum_over-gathered (λ t. t.coefficient *ℤ x t.variable) (λ k t. mul_assoc k t.coefficient (x t.variable)) expression rows in
    let none : value_in x (gathered expression rows) ≡ pos 0 =
    cancelled x (length (gathered expression rows)) (gathered expression rows) (le_refl _) (λ v. coefficient_in-gathered expression rows v ∙ cancels v) in
    omega (arith, ints)
