-- The variables of the rows of a stack, where the stack is a list with the last row at its end.
use Rattle.std.proofs.Common.{◌≡◌, ◌⊎◌, inl, inr, ⊎_elim, ℕ, ◌+◌, ◌<◌, ◌≤◌, List, [], ◌∷◌, reverse, Contains, subst, sym, arith}
use Rattle.std.proofs.lemmas.Bool.{cases_lt}
use Rattle.std.proofs.lemmas.List.{reverse-append}
use Rattle.std.proofs.lemmas.List.Elements.{Contains-append_left, Contains-append_right, Contains-append_cases}
use Rattle.rg_linear.specs.System.{LinearSystem, row_variable}
use Rattle.rg_linear.specs.Stack.{fixed_of}
use Rattle.rg_linear.proofs.Members.{Contains-here, Contains-there, Contains-cons_cases, Contains-nil}

pub reverse-Contains : (xs : List ℕ) (m : ℕ) → Contains (reverse xs) m → Contains xs m
reverse-Contains [] m has = has
reverse-Contains (x ∷ xs) m has = ⊎_elim
    (λ rest. Contains-there x m xs (reverse-Contains xs m rest))
    (λ here. subst (Contains (x ∷ xs)) (⊎_elim (λ e. e) (λ none. absurd (Contains-nil m none)) (Contains-cons_cases x m [] here)) (Contains-here x xs))
    (Contains-append_cases (reverse xs) (x ∷ []) m (subst (λ ys. Contains ys m) (reverse-append (x ∷ []) xs) has))

pub Contains-reverse : (xs : List ℕ) (m : ℕ) → Contains xs m → Contains (reverse xs) m
Contains-reverse [] m has = has
Contains-reverse (x ∷ xs) m has = subst (λ ys. Contains ys m) (sym (reverse-append (x ∷ []) xs)) (⊎_elim
    (λ e. Contains-append_right (reverse xs) (x ∷ []) m (subst (Contains (x ∷ [])) e (Contains-here x [])))
    (λ rest. Contains-append_left (reverse xs) (x ∷ []) m (Contains-reverse xs m rest))
    (Contains-cons_cases x m xs has))

fixed-row : (system : LinearSystem) (rows : List ℕ) (m : ℕ) → Contains (fixed_of system rows) m → (s : ℕ) × Contains rows s × (m ≡ row_variable system s)
fixed-row system [] m has = absurd (Contains-nil m has)
fixed-row system (r ∷ rows) m has = go (Contains-cons_cases (row_variable system r) m (fixed_of system rows) has) (fixed-row system rows m)
  where
    go : (row_variable system r ≡ m) ⊎ Contains (fixed_of system rows) m
        → (Contains (fixed_of system rows) m → (s : ℕ) × Contains rows s × (m ≡ row_variable system s)) → (s : ℕ) × Contains (r ∷ rows) s × (m ≡ row_variable system s)
    go (inl e) more = (r, Contains-here r rows, sym e)
    go (inr rest) more = (let (s, has_s, is) = more rest in (s, Contains-there r s rows has_s, is))

row-fixed : (system : LinearSystem) (rows : List ℕ) (s : ℕ) → Contains rows s → Contains (fixed_of system rows) (row_variable system s)
row-fixed system [] s has = absurd (Contains-nil s has)
row-fixed system (r ∷ rows) s has = ⊎_elim
    (λ e. subst (λ x. Contains (fixed_of system (r ∷ rows)) (row_variable system x)) e (Contains-here (row_variable system r) (fixed_of system rows)))
    (λ rest. Contains-there (row_variable system r) (row_variable system s) (fixed_of system rows) (row-fixed system rows s rest))
    (Contains-cons_cases r s rows has)

pub fixed_row : (system : LinearSystem) (stack : List ℕ) (m : ℕ) → Contains (fixed_of system (reverse stack)) m → (s : ℕ) × Contains stack s × (m ≡ system.columns + s)
fixed_row system stack m has = let (s, has_s, is) = fixed-row system (reverse stack) m has in (s, reverse-Contains stack s has_s, is)

pub row_fixed : (system : LinearSystem) (stack : List ℕ) (s : ℕ) → Contains stack s → Contains (fixed_of system (reverse stack)) (system.columns + s)
row_fixed system stack s has = row-fixed system (reverse stack) s (Contains-reverse stack s has)

-- a property that no index before p and not p has
pub next_index : (P : ℕ → Type 0) (p : ℕ) → ((q : ℕ) → q < p → ¬ P q) → ¬ P p → (q : ℕ) → q < p + 1 → ¬ P q
next_index P p before not q lt has = ⊎_elim (λ less. before q less has) (λ (most : p ≤ q). not (subst P (let e : q ≡ p = omega arith in e) has)) (cases_lt q p)
