-- The state of the loop over the rows, where the stack is a vector with the last fixed row at its end.
use Rattle.std.proofs.Common.{◌≡◌, ◌⊎◌, ℕ, ◌+◌, ◌-◌, ◌<◌, ◌≤◌, List, [], ◌∷◌, ◌++◌, reverse, length, length-append, slice_get, Some, unwrap_or, ap, refl, subst, sym, ◌∙◌, inl, inr, arith, add-one}
use Rattle.std.proofs.lemmas.List.{reverse-append}
use Rattle.rg_linear.specs.System.{LinearSystem, row_variable}
use Rattle.rg_linear.specs.Exchange.{exchanged, AllFit}
use Rattle.rg_linear.specs.Descent.{Outcome, Outcome.point, Outcome.refuted, DescentFrom, DescentFrom.after_last, DescentFromStart, IsSatisfied, IsStuck, Chooses}
use Rattle.rg_linear.specs.Stack.{fixed_of, limit, Resumes, Resumes.last, work_left, IsFalling, IsStackOf}
use Rattle.rg_linear.proofs.Stacks.{step_satisfied, step_stuck, step_exchange, step_return, work-satisfied, work-exchange, stack_pushed, stack_popped, room_on_stack}

-- what is left at row i, with these rows fixed, leads to the outcome of the whole
abbrev pub LeadsTo : LinearSystem → List ℕ → List ℕ → ℕ → Type 0
LeadsTo system members stack i = (o : Outcome) → Resumes system (reverse stack) members i o → DescentFromStart system o

-- so it does at a row of the rows below
pub record LeadsOn (system : LinearSystem) (members stack : List ℕ) (below i : ℕ) : Type 0 where
  pub limit : below ≡ limit system (reverse stack)
  pub stacked : IsStackOf system (reverse stack) members
  pub leads : LeadsTo system members stack i

reverse-push : (stack : List ℕ) (s : ℕ) → reverse (stack ++ s ∷ []) ≡ s ∷ reverse stack
reverse-push stack s = reverse-append stack (s ∷ [])

none_left : (stack : List ℕ) → (0 < length stack → ⊥) → stack ≡ []
none_left [] h = refl
none_left (x ∷ stack) h = absurd (h (omega arith))

-- ---- limits

limit_within : (system : LinearSystem) (rows : List ℕ) → IsFalling system rows → limit system rows ≤ length system.rows
limit_within system [] falls = omega arith
limit_within system (s ∷ rows) falls = let lt = falls.0 in let le = limit_within system rows falls.1 in omega arith

last_or_none : (xs : List ℕ) → (xs ≡ []) ⊎ ((front : List ℕ) × (s : ℕ) × (xs ≡ front ++ s ∷ []))
last_or_none [] = inl refl
last_or_none (x ∷ xs) = more (last_or_none xs)
  where
    more : (xs ≡ []) ⊎ ((front : List ℕ) × (s : ℕ) × (xs ≡ front ++ s ∷ [])) → (x ∷ xs ≡ []) ⊎ ((front : List ℕ) × (s : ℕ) × (x ∷ xs ≡ front ++ s ∷ []))
    more (inl e) = inr ([], x, ap (λ ys. x ∷ ys) e)
    more (inr (front, s, e)) = inr (x ∷ front, s, ap (λ ys. x ∷ ys) e)

-- the last fixed row, or all rows
pub limit_last : (system : LinearSystem) (stack : List ℕ) (rows : ℕ) → rows ≡ length system.rows → unwrap_or (slice_get stack (length stack - 1)) rows ≡ limit system (reverse stack)
limit_last system stack rows e = go (last_or_none stack)
  where
    at_last : (front : List ℕ) (s : ℕ) → slice_get (front ++ s ∷ []) (length front) ≡ Some s
    at_last [] s = refl
    at_last (x ∷ front) s = at_last front s

    count : (front : List ℕ) (s : ℕ) → length (front ++ s ∷ []) - 1 ≡ length front
    count front s = let l = length-append front (s ∷ []) in omega arith

    go : (stack ≡ []) ⊎ ((front : List ℕ) × (s : ℕ) × (stack ≡ front ++ s ∷ [])) → unwrap_or (slice_get stack (length stack - 1)) rows ≡ limit system (reverse stack)
    go (inl is) = subst (λ xs. unwrap_or (slice_get xs (length xs - 1)) rows ≡ limit system (reverse xs)) (sym is) e
    go (inr (front, s, is)) = subst (λ xs. unwrap_or (slice_get xs (length xs - 1)) rows ≡ limit system (reverse xs)) (sym is)
        (ap (λ k. unwrap_or (slice_get (front ++ s ∷ []) k) rows) (count front s) ∙ ap (λ x. unwrap_or x rows) (at_last front s) ∙ sym (ap (limit system) (reverse-push front s)))

-- ---- the steps

-- the step at row i exchanges its variable with a member that isn't fixed
abbrev pub IsExchange : LinearSystem → List ℕ → List ℕ → ℕ → List ℕ → Type 0
IsExchange system old stack i new =
    (j : ℕ) × Chooses system old (fixed_of system stack) i j × AllFit system old (row_variable system i) j × (new ≡ exchanged old (row_variable system i) j)

module _ (system : LinearSystem) (members stack : List ℕ) (i : ℕ) (leads : LeadsTo system members stack i) where
  pub to_satisfied : i < limit system (reverse stack) → IsSatisfied system members i → LeadsTo system members stack (i + 1)
  to_satisfied lt satisfied o rest = leads o
      (step_satisfied system (reverse stack) members i o lt satisfied (subst (λ k. Resumes system (reverse stack) members k o) (add-one i) rest))

  pub to_exchanged : i < limit system (reverse stack) → (j : ℕ) → Chooses system members (fixed_of system (reverse stack)) i j → AllFit system members (row_variable system i) j
      → (pushed : List ℕ) → pushed ≡ stack ++ i ∷ [] → LeadsTo system (exchanged members (row_variable system i) j) pushed 0
  to_exchanged lt j chooses fit pushed was o rest = leads o (step_exchange system (reverse stack) members i j o lt chooses fit
      (subst (λ xs. Resumes system xs (exchanged members (row_variable system i) j) 0 o) (ap reverse was ∙ reverse-push stack i) rest))

  -- the last fixed row is taken up after itself
  pub to_popped : (popped : List ℕ) (s : ℕ) → stack ≡ popped ++ s ∷ [] → s ≤ i → LeadsTo system members popped (s + 1)
  to_popped popped s was le o rest = leads o (subst (λ xs. Resumes system xs members i o) (sym (ap reverse was ∙ reverse-push popped s))
      (step_return system s (reverse popped) members i o le (subst (λ k. Resumes system (reverse popped) members k o) (add-one s) rest)))

  -- with nothing fixed
  pub to_reached : (0 < length stack → ⊥) → (o : Outcome) → DescentFrom system members [] (length system.rows) i o → DescentFromStart system o
  to_reached none o from = leads o (subst (λ xs. Resumes system (reverse xs) members i o) (sym (none_left stack none)) (last from))

module _ (system : LinearSystem) (members stack : List ℕ) (below i : ℕ) (is : LeadsOn system members stack below i) where
  pub within_rows : below ≤ length system.rows
  within_rows = let le = limit_within system (reverse stack) is.stacked.falls in let e = is.limit in omega arith

  -- behind the last row with nothing fixed
  pub leads_point : (0 < length stack → ⊥) → below ≤ i → DescentFromStart system (point members)
  leads_point none le = to_reached system members stack i is.leads none (point members)
      (after_last (let e = is.limit ∙ ap (λ xs. limit system (reverse xs)) (none_left stack none) in omega arith))

  pub last_row : (0 < length stack → ⊥) → below ≤ i → i ≤ below → i ≡ length system.rows
  last_row none le ge = let e = is.limit ∙ ap (λ xs. limit system (reverse xs)) (none_left stack none) in omega arith

  module _ (lt : i < below) where
    pub before_limit : i < limit system (reverse stack)
    before_limit = subst (λ n. i < n) is.limit lt

    pub leads_refuted : (new : List ℕ) → IsStuck system members (fixed_of system (reverse stack)) i × (new ≡ members) → DescentFromStart system (refuted new i (fixed_of system (reverse stack)))
    leads_refuted new told = subst (λ ms. DescentFromStart system (refuted ms i (fixed_of system (reverse stack)))) (sym told.1)
        (is.leads _ (step_stuck system (reverse stack) members i before_limit told.0))

    pub leads_satisfied : (new : List ℕ) → IsSatisfied system members i × (new ≡ members) → LeadsOn system new stack below (i + 1)
    leads_satisfied new told = record {
      limit = is.limit;
      stacked = subst (IsStackOf system (reverse stack)) (sym told.1) is.stacked;
      leads = subst (λ ms. LeadsTo system ms stack (i + 1)) (sym told.1) (to_satisfied system members stack i is.leads before_limit told.0);
    }

    -- the stack has room for one more
    pub stack_has_room : (new : List ℕ) → IsExchange system members (reverse stack) i new → length (reverse stack) < system.columns
    stack_has_room new (j, chooses, fit, e) = room_on_stack system (reverse stack) members i j is.stacked chooses

    pub leads_exchanged : (new pushed : List ℕ) → IsExchange system members (reverse stack) i new → pushed ≡ stack ++ i ∷ [] → LeadsOn system new pushed i 0
    leads_exchanged new pushed (j, chooses, fit, e) was = record {
      limit = sym (ap (limit system) turned);
      stacked = subst (λ xs. IsStackOf system xs new) (sym turned)
          (subst (IsStackOf system (i ∷ reverse stack)) (sym e) (stack_pushed system (reverse stack) members i j before_limit is.stacked chooses));
      leads = subst (λ ms. LeadsTo system ms pushed 0) (sym e) (to_exchanged system members stack i is.leads before_limit j chooses fit pushed was);
    }
      where
        turned : reverse pushed ≡ i ∷ reverse stack
        turned = ap reverse was ∙ reverse-push stack i

    pub work_satisfied : work_left (length system.rows) (reverse stack) (i + 1) < work_left (length system.rows) (reverse stack) i
    work_satisfied = subst (λ k. work_left (length system.rows) (reverse stack) k < work_left (length system.rows) (reverse stack) i)
        (sym (add-one i)) (work-satisfied system (reverse stack) i before_limit)

    pub work_pushed : (pushed : List ℕ) → pushed ≡ stack ++ i ∷ [] → work_left (length system.rows) (reverse pushed) 0 < work_left (length system.rows) (reverse stack) i
    work_pushed pushed was = subst (λ xs. work_left (length system.rows) xs 0 < work_left (length system.rows) (reverse stack) i)
        (sym (ap reverse was ∙ reverse-push stack i)) (work-exchange system (reverse stack) i before_limit)

  -- the last fixed row is taken up behind itself
  module _ (popped : List ℕ) (s : ℕ) (was : stack ≡ popped ++ s ∷ []) where
    turned : reverse stack ≡ s ∷ reverse popped
    turned = ap reverse was ∙ reverse-push popped s

    at_top : IsStackOf system (s ∷ reverse popped) members
    at_top = subst (λ xs. IsStackOf system xs members) turned is.stacked

    pub top_below : below ≤ i → s ≤ i
    top_below le = subst (λ n. n ≤ i) (is.limit ∙ ap (limit system) turned) le

    -- its row is below the one that was fixed before it
    pub popped_below : (next : ℕ) → next ≡ limit system (reverse popped) → s < next
    popped_below next e = subst (λ n. s < n) (sym e) at_top.falls.0

    pub popped_row : s < length system.rows
    popped_row = let lt = at_top.falls.0 in let le = limit_within system (reverse popped) at_top.falls.1 in omega arith

    pub leads_popped : below ≤ i → (next : ℕ) → next ≡ limit system (reverse popped) → LeadsOn system members popped next (s + 1)
    leads_popped le next e = record {
      limit = e;
      stacked = stack_popped system s (reverse popped) members at_top;
      leads = to_popped system members stack i is.leads popped s was (top_below le);
    }
