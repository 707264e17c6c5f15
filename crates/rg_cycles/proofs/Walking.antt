-- The walk over vectors with the relations of the labels alone.
use Rattle.std.proofs.Common.{◌≡◌, ⊎_elim, ℕ, zero, suc, ◌+◌, ◌^◌, ◌<◌, ◌≤◌, List, [], ◌∷◌, length, map, max, Contains, refl, subst, ◌∙◌, arith, below_more}
use Rattle.std.specs.Prelude.{ℤ, pos, slice_index}
use Rattle.std.proofs.lemmas.Bool.Decides.{nat_tests}
use Rattle.rg_linear.specs.System.{LinearSystem, LinearRow, row_variable, row_at}
use Rattle.rg_linear.specs.Dictionary.{numbers_from}
use Rattle.rg_linear.specs.Norm.{row_norm, norm_at, kept_norm}
use Rattle.rg_linear.specs.Cycle.{CycleOutcome, CycleOutcome.free_set, CycleWalkFrom, CycleWalkFrom.no_row_left, CycleWalkFrom.skipped, CycleWalkFrom.exchanges, CycleWalk, vector_at, vector_system}
use Rattle.rg_linear.proofs.Members.{exchanged-Contains, numbers_from-Contains}
use Rattle.rg_revised.specs.Basis.{HasNorms}
use Rattle.rg_revised.specs.Walk.{WalkState, IsWalkOf, WalkTells}
use Rattle.rg_revised.specs.declared.walk.Taken.{Taken}
use Rattle.rg_revised.specs.declared.walk.Taken.TheVariants.{Skipped, Exchanged, Large}
use Rattle.rg_cycles.proofs.Showing.{count_rows}

-- ---- norms

greater_own : (n a g g' : ℕ) → a ≡ kept_norm n → g' ≡ max g a → g' < 2 ^ 63 → n ≤ g'
greater_own n a g g' e m lt = grind (arith, nat_tests)

greater_old : (a g g' : ℕ) → g' ≡ max g a → g ≤ g'
greater_old a g g' m = grind (arith, nat_tests)

-- one norm more
pub norms_more : (vectors : List (List ℤ)) (kept : List ℕ) (i a g g' : ℕ) → a ≡ kept_norm (row_norm (vector_at vectors (slice_index kept i)) (pos 0)) → g' ≡ max g a
    → (g < 2 ^ 63 → (k : ℕ) → k < i → row_norm (vector_at vectors (slice_index kept k)) (pos 0) ≤ g) → g' < 2 ^ 63
    → (k : ℕ) → k < i + 1 → row_norm (vector_at vectors (slice_index kept k)) (pos 0) ≤ g'
norms_more vectors kept i a g g' e m all small = below_more _ _
    (λ k lt. at (row_norm (vector_at vectors (slice_index kept k)) (pos 0)) (all (lower (greater_old a g g' m)) k lt) (greater_old a g g' m))
    (greater_own _ a g g' e m small)
  where
    lower : g ≤ g' → g < 2 ^ 63
    lower h = omega arith

    at : (n : ℕ) → n ≤ g → g ≤ g' → n ≤ g'
    at n h k = omega arith

-- the norms of the rows that the vectors are
norms_each : (vectors : List (List ℤ)) (kept : List ℕ) (g : ℕ) → ((k : ℕ) → k < length kept → row_norm (vector_at vectors (slice_index kept k)) (pos 0) ≤ g) → (i : ℕ) → i < length kept
    → norm_at (map {B = LinearRow} (λ c. record { coeffs = vector_at vectors c; constant = pos 0 }) kept) i ≤ g
norms_each vectors [] g all i lt = absurd (omega arith)
norms_each vectors (c ∷ kept) g all zero lt = all 0 lt
norms_each vectors (c ∷ kept) g all (suc i) lt = norms_each vectors kept g (λ k less. all (suc k) (omega arith)) i (omega arith)

pub norms_are : (labels : ℕ) (vectors : List (List ℤ)) (kept : List ℕ) (g : ℕ) → ((k : ℕ) → k < length kept → row_norm (vector_at vectors (slice_index kept k)) (pos 0) ≤ g)
    → HasNorms (vector_system labels vectors kept) g
norms_are labels vectors kept g all i lt = norms_each vectors kept g all i (let e = count_rows labels vectors kept in omega arith)

-- ---- the rows

row_each : (vectors : List (List ℤ)) (kept : List ℕ) (labels i : ℕ) → i < length kept → (row_at (vector_system labels vectors kept) i).coeffs ≡ vector_at vectors (slice_index kept i)
row_each vectors [] labels i lt = absurd (omega arith)
row_each vectors (c ∷ kept) labels zero lt = refl
row_each vectors (c ∷ kept) labels (suc i) lt = row_each vectors kept labels i (omega arith)

pub row_coeffs : (labels : ℕ) (vectors : List (List ℤ)) (kept : List ℕ) (i : ℕ) → i < length kept → (coeffs : List ℤ) → vector_at vectors (slice_index kept i) ≡ coeffs
    → (row_at (vector_system labels vectors kept) i).coeffs ≡ coeffs
row_coeffs labels vectors kept i lt coeffs is = row_each vectors kept labels i lt ∙ is

-- ---- the walk

-- what row i leads to
pub record GoesOn (system : LinearSystem) (labels i : ℕ) (old new : WalkState) : Type 0 where
  pub are : IsWalkOf system new
  pub ahead : (m : ℕ) → Contains new.members m → m < labels + (i + 1)
  pub leads : (o : CycleOutcome) → CycleWalkFrom system new.members (suc i) o → CycleWalkFrom system old.members i o

pub goes_on : (system : LinearSystem) (labels i : ℕ) (old new : WalkState) (taken : Taken) → WalkTells system old i new taken → (taken ≡ Large → ⊥) → system.columns ≡ labels → i < length system.rows
    → ((m : ℕ) → Contains old.members m → m < labels + i) → GoesOn system labels i old new
goes_on system labels i old new Skipped (same, skips, are) not columns lt ahead = record {
  are = are;
  ahead = λ m has. (let h = ahead m (subst (λ xs. Contains xs m) same has) in omega arith);
  leads = λ o rest. skipped lt skips (subst (λ xs. CycleWalkFrom system xs (suc i) o) same rest);
}
goes_on system labels i old new Exchanged (j, picks, fit, same, are) not columns lt ahead = record {
  are = are;
  ahead = λ m has. ⊎_elim (λ (e : row_variable system i ≡ m). omega arith) (λ before. (let h = ahead m before.0 in omega arith))
      (exchanged-Contains (row_variable system i) j m old.members (subst (λ xs. Contains xs m) same has));
  leads = λ o rest. exchanges j lt picks fit (subst (λ xs. CycleWalkFrom system xs (suc i) o) same rest);
}
goes_on system labels i old new Large told not columns lt ahead = absurd (not refl)

-- the start
pub first_ahead : (members : List ℕ) (labels : ℕ) → members ≡ numbers_from 0 labels → (m : ℕ) → Contains members m → m < labels + 0
first_ahead members labels e m has = let h = numbers_from-Contains 0 labels m (subst (λ l. Contains l m) e has) in omega arith

pub first_leads : (labels : ℕ) (vectors : List (List ℤ)) (kept members : List ℕ) → members ≡ numbers_from 0 labels → (o : CycleOutcome)
    → CycleWalkFrom (vector_system labels vectors kept) members 0 o → CycleWalk (vector_system labels vectors kept) o
first_leads labels vectors kept members e o rest = subst (λ l. CycleWalkFrom (vector_system labels vectors kept) l 0 o) e rest

pub at_end : (labels : ℕ) (vectors : List (List ℤ)) (kept members : List ℕ) (i : ℕ) → length kept ≤ i → CycleWalkFrom (vector_system labels vectors kept) members i (free_set members)
at_end labels vectors kept members i past = no_row_left (let e = count_rows labels vectors kept in omega arith)
