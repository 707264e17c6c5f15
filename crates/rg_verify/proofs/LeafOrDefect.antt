-- A leaf refutes or has a defect.
use Rattle.std.proofs.Common.{◌≡◌, ◌≢◌, ◌⊎◌, inl, inr, ℕ, suc, ◌+◌, ◌<◌, ◌≤◌, Bool, true, false, if◌then◌else◌, List, [], ◌∷◌, take, All, refl, subst, ap, ap₂, ◌∙◌, arith}
use Rattle.std.specs.Prelude.{ℤ, pos, ◌+ℤ◌, ◌*ℤ◌, ◌<ℤ◌, nat_abs}
use Rattle.std.proofs.lemmas.Int.{ints}
use Rattle.std.proofs.lemmas.Bool.{cases_lt}
use Rattle.std.proofs.lemmas.List.Sums.{sum_by-cons}
use Rattle.std.proofs.lemmas.List.Elements.{All-nil, All-cons, All-head, All-tail}
use Rattle.rg_integers.specs.Range.{greatest}
use Rattle.rg_theory.specs.System.{System, states, labels}
use Rattle.rg_theory.proofs.Deciding.{Decided, not_decided, holds, find_number}
use Rattle.rg_cert_meaning.specs.Expression.{Term, Expression, same_variable, coefficient_in}
use Rattle.rg_cert_meaning.proofs.Sums.{same_variable_is}
use Rattle.rg_cert_meaning.specs.declared.RowName.{RowName}
use Rattle.rg_cert_meaning.specs.declared.Variable.{Variable}
use Rattle.rg_cert_meaning.specs.declared.Variable.TheVariants.{Tokens, Effect}
use Rattle.rg_cert_meaning.specs.Refutes.{NamedRow, IsMultiplier, IsSmall, coefficient_sum, constant_sum, LeafRefutes}
use Rattle.rg_cert_data.specs.Certificates.{IsTermWithin, IsVariableOf, IsRowOf}
use Rattle.rg_verify.specs.declared.verdict.Defect.{Defect}
use Rattle.rg_verify.specs.declared.verdict.Defect.TheVariants.{WrongRow, NotPositive, LeftOver, NoContradiction, SumPasses}
use Rattle.rg_verify.specs.Judged.{IsReached, IsVariableBefore, IsRightRow, AreSummed, IsDefectOf}
use Rattle.rg_verify.specs.Sums.{coefficient_size, constant_size}
use Rattle.rg_verify.proofs.StandingOrNot.{multiplier_decided, negative_decided, zero_decided}

-- ---- the first item of a list for which a fact doesn't hold

pub first_failing : {X : Type 0} (R P Q : X → Type 0) → ((x : X) → R x → P x ⊎ Q x) → (xs : List X) → All R xs → All P xs ⊎ ((place : ℕ) × (x : X) × IsReached P xs place x × Q x)
first_failing R P Q told [] each = inl (All-nil P)
first_failing {X} R P Q told (x ∷ xs) each = by (told x (All-head R x xs each)) (first_failing R P Q told xs (All-tail R x xs each))
  where
    by : P x ⊎ Q x → All P xs ⊎ ((place : ℕ) × (y : X) × IsReached P xs place y × Q y) → All P (x ∷ xs) ⊎ ((place : ℕ) × (y : X) × IsReached P (x ∷ xs) place y × Q y)
    by (inr q) _ = inr (0, x, record { here = refl; before = All-nil P }, q)
    by (inl p) (inl all) = inl (All-cons P x xs p all)
    by (inl p) (inr (place, y, reached, q)) = inr (suc place, y, record { here = reached.here; before = All-cons P x (take place xs) p reached.before }, q)

-- ---- variables

variable_decided : (lts : System) (v : Variable) → Decided (IsVariableOf lts v)
variable_decided lts (Tokens q) = by (cases_lt q (states lts))
  where
    by : (q < states lts) ⊎ (states lts ≤ q) → Decided (q < states lts)
    by (inl less) = inl less
    by (inr more) = inr (λ less. (omega arith))
variable_decided lts (Effect t) = by (cases_lt t (labels lts))
  where
    by : (t < labels lts) ⊎ (labels lts ≤ t) → Decided (t < labels lts)
    by (inl less) = inl less
    by (inr more) = inr (λ less. (omega arith))

-- the first variable for which a fact holds that holds of the system's variables alone, or none
abbrev HasFirst : System → (Variable → Type 0) → Type 0
HasFirst lts P = (v : Variable) × IsVariableOf lts v × P v × ((w : Variable) → IsVariableBefore w v → ¬ P w)

first_variable : (lts : System) (P : Variable → Type 0) → ((v : Variable) → Decided (P v)) → ((v : Variable) → P v → IsVariableOf lts v) → HasFirst lts P ⊎ ((v : Variable) → ¬ P v)
first_variable lts P decide inside = by (find_number (λ q. P (Tokens q)) (λ q. decide (Tokens q)) (states lts)) (find_number (λ t. P (Effect t)) (λ t. decide (Effect t)) (labels lts))
  where
    before_tokens : (q : ℕ) → ((r : ℕ) → r < q → ¬ P (Tokens r)) → (w : Variable) → IsVariableBefore w (Tokens q) → ¬ P w
    before_tokens q before (Tokens r) less = before r less
    before_tokens q before (Effect u) less = absurd less

    before_effect : (t : ℕ) → ((q : ℕ) → q < states lts → ¬ P (Tokens q)) → ((u : ℕ) → u < t → ¬ P (Effect u)) → (w : Variable) → IsVariableBefore w (Effect t) → ¬ P w
    before_effect t none before (Tokens r) less p = none r (inside (Tokens r) p) p
    before_effect t none before (Effect u) less p = before u less p

    nowhere : ((q : ℕ) → q < states lts → ¬ P (Tokens q)) → ((t : ℕ) → t < labels lts → ¬ P (Effect t)) → (v : Variable) → ¬ P v
    nowhere none none' (Tokens q) p = none q (inside (Tokens q) p) p
    nowhere none none' (Effect t) p = none' t (inside (Effect t) p) p

    by : ((q : ℕ) × (q < states lts) × P (Tokens q) × ((r : ℕ) → r < q → ¬ P (Tokens r))) ⊎ ((q : ℕ) → q < states lts → ¬ P (Tokens q))
        → ((t : ℕ) × (t < labels lts) × P (Effect t) × ((u : ℕ) → u < t → ¬ P (Effect u))) ⊎ ((t : ℕ) → t < labels lts → ¬ P (Effect t)) → HasFirst lts P ⊎ ((v : Variable) → ¬ P v)
    by (inl (q, lt, p, before)) _ = inl (Tokens q, lt, p, before_tokens q before)
    by (inr none) (inl (t, lt, p, before)) = inl (Effect t, lt, p, before_effect t none before)
    by (inr none) (inr none') = inr (nowhere none none')

-- ---- a variable that isn't the system's has no coefficient

absent_in : (lts : System) (v : Variable) → ¬ IsVariableOf lts v → (ts : List Term) → All (IsTermWithin (states lts) (labels lts)) ts → coefficient_in ts v ≡ pos 0
absent_in lts v outside [] each = refl
absent_in lts v outside (t ∷ ts) each = by (same_variable t.variable v) refl (absent_in lts v outside ts (All-tail (IsTermWithin (states lts) (labels lts)) t ts each))
  where
    by : (b : Bool) → same_variable t.variable v ≡ b → coefficient_in ts v ≡ pos 0 → (if b then t.coefficient else pos 0) +ℤ coefficient_in ts v ≡ pos 0
    by true same rest = absurd (outside (subst (IsVariableOf lts) (same_variable_is t.variable v same) (All-head (IsTermWithin (states lts) (labels lts)) t ts each)))
    by false same rest = omega (arith, ints, rest)

times_zero : (k z : ℤ) → z ≡ pos 0 → k *ℤ z ≡ pos 0
times_zero k z e = rw e (omega (arith, ints))

abbrev AreTermsWithin : System → (RowName → Expression) → NamedRow → Type 0
AreTermsWithin lts expression r = All (IsTermWithin (states lts) (labels lts)) (expression r.name).terms

absent_sum : (lts : System) (expression : RowName → Expression) (v : Variable) → ¬ IsVariableOf lts v → (rows : List NamedRow) → All (AreTermsWithin lts expression) rows
    → coefficient_sum expression rows v ≡ pos 0
absent_sum lts expression v outside [] each = refl
absent_sum lts expression v outside (r ∷ rows) each =
    let rest = absent_sum lts expression v outside rows (All-tail (AreTermsWithin lts expression) r rows each) in
    let here = times_zero r.multiplier (coefficient_in (expression r.name).terms v) (absent_in lts v outside (expression r.name).terms (All-head (AreTermsWithin lts expression) r rows each)) in
    omega (arith, ints, rest, here)

absent_size : (lts : System) (expression : RowName → Expression) (v : Variable) → ¬ IsVariableOf lts v → (rows : List NamedRow) → All (AreTermsWithin lts expression) rows
    → coefficient_size expression rows v ≡ 0
absent_size lts expression v outside [] each = refl
absent_size lts expression v outside (r ∷ rows) each =
    let rest = absent_size lts expression v outside rows (All-tail (AreTermsWithin lts expression) r rows each) in
    let here : nat_abs (r.multiplier *ℤ coefficient_in (expression r.name).terms v) ≡ 0 =
    ap nat_abs (times_zero r.multiplier (coefficient_in (expression r.name).terms v) (absent_in lts v outside (expression r.name).terms (All-head (AreTermsWithin lts expression) r rows each))) in
    sum_by-cons (λ (x : NamedRow). nat_abs (x.multiplier *ℤ coefficient_in (expression x.name).terms v)) r rows ∙ ap₂ ◌+◌ here rest

-- ---- leaves

module _ (lts : System) (stands : RowName → Type 0) (expression : RowName → Expression) (rows : List NamedRow) (decide : (name : RowName) → Decided (stands name))
    (ranged : All (IsRowOf lts) rows) (within : All (AreTermsWithin lts expression) rows) where
  abbrev Outcome : Type 0
  Outcome = LeafRefutes stands expression rows ⊎ ((d : Defect) × IsDefectOf lts stands expression rows d)

  abbrev RowFails : NamedRow → Type 0
  RowFails r = (¬ stands r.name) ⊎ (stands r.name × (¬ IsMultiplier r.multiplier r.name))

  right_or_not : (r : NamedRow) → IsRowOf lts r → IsRightRow stands r ⊎ RowFails r
  right_or_not r _ = by (decide r.name) (multiplier_decided r.multiplier r.name)
    where
      by : Decided (stands r.name) → Decided (IsMultiplier r.multiplier r.name) → IsRightRow stands r ⊎ RowFails r
      by (inl stand) (inl owed) = inl (stand, owed)
      by (inl stand) (inr lacks) = inr (inr (stand, lacks))
      by (inr lacks) _ = inr (inl lacks)

  -- the sum of absolute values passes for the variable
  abbrev Passes : Variable → Type 0
  Passes v = greatest < coefficient_size expression rows v

  passes_or_not : (m n : ℕ) → Decided (m < n)
  passes_or_not m n = by (cases_lt m n)
    where
      by : (m < n) ⊎ (n ≤ m) → Decided (m < n)
      by (inl less) = inl less
      by (inr more) = inr (λ less. (omega arith))

  at_most : (m n : ℕ) → ¬ (m < n) → n ≤ m
  at_most m n none = by (cases_lt m n)
    where
      by : (m < n) ⊎ (n ≤ m) → n ≤ m
      by (inl less) = absurd (none less)
      by (inr more) = more

  inside_passes : (v : Variable) → Passes v → IsVariableOf lts v
  inside_passes v p = holds (IsVariableOf lts v) (variable_decided lts v) (λ outside. (let zero_size = absent_size lts expression v outside rows within in omega (arith, zero_size, p)))

  small_or_not : IsSmall expression rows ⊎ ¬ IsSmall expression rows
  small_or_not = by (first_variable lts Passes (λ v. passes_or_not greatest (coefficient_size expression rows v)) inside_passes) (passes_or_not greatest (constant_size expression rows))
    where
      by : HasFirst lts Passes ⊎ ((v : Variable) → ¬ Passes v) → Decided (greatest < constant_size expression rows) → IsSmall expression rows ⊎ ¬ IsSmall expression rows
      by (inl (v, of, p, before)) _ = inr (λ small. (let l = small.coefficients v in omega (arith, l, p)))
      by (inr none) (inl p) = inr (λ small. (let l = small.constants in omega (arith, l, p)))
      by (inr none) (inr few) = inl (record {
        multipliers = λ k d lt. (ranged k d lt).multiplier;
        coefficients = λ v. at_most greatest (coefficient_size expression rows v) (none v);
        constants = at_most greatest (constant_size expression rows) few;
      })

  abbrev IsLeft : Variable → Type 0
  IsLeft v = coefficient_sum expression rows v ≢ pos 0

  inside_left : (v : Variable) → IsLeft v → IsVariableOf lts v
  inside_left v left = holds (IsVariableOf lts v) (variable_decided lts v) (λ outside. left (absent_sum lts expression v outside rows within))

  cancelled : (v : Variable) → ¬ IsLeft v → coefficient_sum expression rows v ≡ pos 0
  cancelled v = holds (coefficient_sum expression rows v ≡ pos 0) (zero_decided (coefficient_sum expression rows v))

  summed : AreSummed stands expression rows → Outcome
  summed sums = by (first_variable lts IsLeft (λ v. not_decided (coefficient_sum expression rows v ≡ pos 0) (zero_decided (coefficient_sum expression rows v))) inside_left)
      (negative_decided (constant_sum expression rows))
    where
      by : HasFirst lts IsLeft ⊎ ((v : Variable) → ¬ IsLeft v) → Decided (constant_sum expression rows <ℤ pos 0) → Outcome
      by (inl (v, of, left, before)) _ = inr (LeftOver v, (sums, record { in_range = of; left = left; first = λ w less. cancelled w (before w less) }))
      by (inr none) (inr lacks) = inr (NoContradiction, (sums, λ v. cancelled v (none v), lacks))
      by (inr none) (inl negative) = inl (record {
        stand = λ k d lt. (sums.right k d lt).0;
        positive = λ k d lt. (sums.right k d lt).1;
        small = sums.small;
        cancels = λ v. cancelled v (none v);
        contradicts = negative;
      })

  pub leaf_or_defect : LeafRefutes stands expression rows ⊎ ((d : Defect) × IsDefectOf lts stands expression rows d)
  leaf_or_defect = by (first_failing (IsRowOf lts) (IsRightRow stands) RowFails right_or_not rows ranged) small_or_not
    where
      by : All (IsRightRow stands) rows ⊎ ((place : ℕ) × (r : NamedRow) × IsReached (IsRightRow stands) rows place r × RowFails r) → IsSmall expression rows ⊎ ¬ IsSmall expression rows → Outcome
      by (inr (place, r, reached, inl lacks)) _ = inr (WrongRow, (place, r, reached, lacks))
      by (inr (place, r, reached, inr (stand, lacks))) _ = inr (NotPositive, (place, r, reached, stand, lacks))
      by (inl right) (inr large) = inr (SumPasses, (right, large))
      by (inl right) (inl small) = summed (record { right = right; small = small })
