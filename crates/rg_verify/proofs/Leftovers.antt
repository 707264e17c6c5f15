-- The first variable whose sum isn't 0.
use Rattle.std.proofs.Common.{◌≡◌, ◌≢◌, ◌⊎◌, ℕ, ◌<◌, List, [], ◌∷◌, ◌++◌, Option, Some, None, MatchOption, length, get_or, All, Contains, inl, inr, sym, subst, pos}
use Rattle.std.proofs.lemmas.List.Elements.{Contains-push_cases}
use Rattle.rg_verify.specs.declared.sums.Sums.{Sums}
use Rattle.rg_verify.specs.Judged.{IsVariableBefore}
use Rattle.rg_verify.specs.Sums.{entry_of, signed_at, size_at, HasEntry, IsTidy, IsLeftFirst}
use Rattle.rg_verify.proofs.Variables.{before_or_not, before-trans, not_before_itself}
use Rattle.rg_verify.proofs.Tables.{signed_zero}
use Rattle.rg_cert_meaning.specs.declared.Variable.{Variable}

-- among the variables, the first whose sum isn't 0
pub record IsFirstAmong (sums : Sums) (vs : List Variable) (v : Variable) : Type 0 where
  pub in_table : HasEntry sums v
  pub left : signed_at sums v ≢ pos 0
  pub first : (w : Variable) → Contains vs w → IsVariableBefore w v → signed_at sums w ≡ pos 0

-- it is the one found, if there is one
abbrev pub TellsFirst : Sums → List Variable → Option Variable → Type 0
TellsFirst sums vs o = MatchOption o ((v : Variable) → Contains vs v → signed_at sums v ≡ pos 0) (λ v. IsFirstAmong sums vs v)

cases_more : (vs : List Variable) (u : Variable) (w : Variable) → Contains (vs ++ u ∷ []) w → Contains vs w ⊎ (u ≡ w)
cases_more vs u w has = Contains-push_cases vs u w has

-- a variable more, whose sum is 0
pub tells_zero : (sums : Sums) (vs : List Variable) (o : Option Variable) (u : Variable) → TellsFirst sums vs o → signed_at sums u ≡ pos 0 → TellsFirst sums (vs ++ u ∷ []) o
tells_zero sums vs None u told zero = λ w has. by w (cases_more vs u w has)
  where
    by : (w : Variable) → Contains vs w ⊎ (u ≡ w) → signed_at sums w ≡ pos 0
    by w (inl there) = told w there
    by w (inr is) = subst (λ x. signed_at sums x ≡ pos 0) is zero
tells_zero sums vs (Some v) u told zero = record { in_table = told.in_table; left = told.left; first = λ w has before. by w before (cases_more vs u w has) }
  where
    by : (w : Variable) → IsVariableBefore w v → Contains vs w ⊎ (u ≡ w) → signed_at sums w ≡ pos 0
    by w before (inl there) = told.first w there before
    by w before (inr is) = subst (λ x. signed_at sums x ≡ pos 0) is zero

-- of the one found and another whose sum isn't 0 the first
pub tells_left : (sums : Sums) (vs : List Variable) (o : Option Variable) (u r : Variable) → TellsFirst sums vs o → HasEntry sums u → signed_at sums u ≢ pos 0
    → MatchOption o (r ≡ u) (λ v. ((r ≡ v) × IsVariableBefore v u) ⊎ ((r ≡ u) × (IsVariableBefore v u → ⊥)))
    → TellsFirst sums (vs ++ u ∷ []) (Some r)
tells_left sums vs None u r told has left is = rw is (record { in_table = has; left = left; first = λ w there before. by w before (cases_more vs u w there) })
  where
    by : (w : Variable) → IsVariableBefore w u → Contains vs w ⊎ (u ≡ w) → signed_at sums w ≡ pos 0
    by w before (inl there) = told w there
    by w before (inr same) = absurd (not_before_itself w (subst (IsVariableBefore w) same before))
tells_left sums vs (Some v) u r told has left (inl (is, earlier)) = rw is (record { in_table = told.in_table; left = told.left; first = λ w there before. by w before (cases_more vs u w there) })
  where
    by : (w : Variable) → IsVariableBefore w v → Contains vs w ⊎ (u ≡ w) → signed_at sums w ≡ pos 0
    by w before (inl there) = told.first w there before
    by w before (inr same) = absurd (not_before_itself w (before-trans w v w before (subst (IsVariableBefore v) same earlier)))
tells_left sums vs (Some v) u r told has left (inr (is, not_earlier)) = rw is (record { in_table = has; left = left; first = λ w there before. by w before (cases_more vs u w there) })
  where
    earlier : (w : Variable) → IsVariableBefore w u → IsVariableBefore v u ⊎ ((v ≡ u) ⊎ IsVariableBefore u v) → IsVariableBefore w v
    earlier w before (inl e) = absurd (not_earlier e)
    earlier w before (inr (inl e)) = subst (IsVariableBefore w) (sym e) before
    earlier w before (inr (inr l)) = before-trans w u v before l

    by : (w : Variable) → IsVariableBefore w u → Contains vs w ⊎ (u ≡ w) → signed_at sums w ≡ pos 0
    by w before (inl there) = told.first w there (earlier w before (before_or_not v u))
    by w before (inr same) = absurd (not_before_itself w (subst (IsVariableBefore w) same before))

-- the first among the listed variables is the first of all, since the others have the sum 0
pub first_of_all : (sums : Sums) (vs : List Variable) (o : Option Variable) → IsTidy sums → vs ≡ sums.touched.items → TellsFirst sums vs o
    → MatchOption o ((v : Variable) → signed_at sums v ≡ pos 0) (λ v. IsLeftFirst sums v)
first_of_all sums vs None tidy is told = λ v. by v (tidy.others v)
  where
    by : (v : Variable) → Contains sums.touched.items v ⊎ (size_at sums v ≡ 0) → signed_at sums v ≡ pos 0
    by v (inl has) = told v (subst (λ (us : List Variable). Contains us v) (sym is) has)
    by v (inr zero) = signed_zero (entry_of sums v) zero
first_of_all sums vs (Some u) tidy is told = record { in_table = told.in_table; left = told.left; first = λ w before. by w before (tidy.others w) }
  where
    by : (w : Variable) → IsVariableBefore w u → Contains sums.touched.items w ⊎ (size_at sums w ≡ 0) → signed_at sums w ≡ pos 0
    by w before (inl has) = told.first w (subst (λ (us : List Variable). Contains us w) (sym is) has) before
    by w before (inr zero) = signed_zero (entry_of sums w) zero

-- a listed variable is the table's
pub listed_entry : (sums : Sums) (vs : List Variable) (i : ℕ) (d : Variable) → IsTidy sums → vs ≡ sums.touched.items → i < length vs → HasEntry sums (get_or vs i d)
listed_entry sums vs i d tidy is lt =
    subst (λ (us : List Variable). All (HasEntry sums) us) (sym is) tidy.listed i d lt
