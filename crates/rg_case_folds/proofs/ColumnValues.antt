-- The values of the columns, one by one, and the sums of products with them.
use Rattle.std.proofs.Common.{◌≡◌, ℕ, zero, suc, ◌+◌, ◌<◌, ◌&&◌, Bool, true, false, if◌then◌else◌, List, [], ◌∷◌, ◌++◌, map, length, slice_index_or, Ok, refl, sym, ap, ◌∙◌, arith, zero-add}
use Rattle.std.specs.Prelude.{ℤ, pos, ◌*ℤ◌}
use Rattle.std.proofs.lemmas.List.{length-map, get_or-map}
use Rattle.std.proofs.Math.IntN.{*ℤ_comm}
use Rattle.rg_theory.specs.declared.Class.{Class}
use Rattle.rg_theory.specs.System.{System, labels}
use Rattle.rg_integers.specs.Sum.{sum_below, number_at, dot}
use Rattle.rg_integers.proofs.Sums.{sum_below-same}
use Rattle.rg_integers.proofs.Dots.{dot_comm, dot-sum_below}
use Rattle.rg_linear.specs.Cycle.{CycleBasis}
use Rattle.rg_case_folds.specs.Setting.{CaseSetting}
use Rattle.rg_folds.specs.Substitution.{is_in, numbers_where, free_labels}
use Rattle.rg_case_folds.specs.Rewriting.{has_label, free_columns, has_start, column_count, CaseSystem, system_fold}
use Rattle.rg_case_folds.specs.Values.{picked, column_values}
use Rattle.rg_case_folds.specs.Meaning.{first_column}

picked_is : (test test' : ℕ → Bool) (a n : ℕ) (x : ℕ → ℤ) → picked test' (numbers_where test a n) x ≡ map x (numbers_where (λ t. test t && test' t) a n)
picked_is test test' a zero x = refl
picked_is test test' a (suc n) x = go (test a) (picked_is test test' (suc a) n x)
  where
    inner : (c : Bool) → picked test' (numbers_where test (suc a) n) x ≡ map x (numbers_where (λ t. test t && test' t) (suc a) n)
        → (if c then (x a ∷ picked test' (numbers_where test (suc a) n) x) else picked test' (numbers_where test (suc a) n) x) ≡ map x
        (if c then (a ∷ numbers_where (λ t. test t && test' t) (suc a) n) else numbers_where (λ t. test t && test' t) (suc a) n)
    inner true ih = ap (λ l. x a ∷ l) ih
    inner false ih = ih

    go : (b : Bool) → picked test' (numbers_where test (suc a) n) x ≡ map x (numbers_where (λ t. test t && test' t) (suc a) n)
        → picked test' (if b then (a ∷ numbers_where test (suc a) n) else numbers_where test (suc a) n) x ≡ map x
        (if b && test' a then (a ∷ numbers_where (λ t. test t && test' t) (suc a) n) else numbers_where (λ t. test t && test' t) (suc a) n)
    go true ih = inner (test' a) ih
    go false ih = ih

-- Start where it is a column, and the effects of the free labels with an arc
pub columns_split : (lts : System) (basis : CycleBasis) (class : Class) (start : ℤ) (effect : ℕ → ℤ)
    → column_values lts basis class start effect ≡ (if has_start class then (start ∷ []) else []) ++ map effect (free_columns lts basis)
columns_split lts basis class start effect = ap (λ l. (if has_start class then (start ∷ []) else []) ++ l) (picked_is (λ t. is_in basis.members t) (λ t. has_label t lts.arcs) 0 (labels lts) effect)

columns_counted : (lts : System) (basis : CycleBasis) (class : Class) (start : ℤ) (effect : ℕ → ℤ) → length (column_values lts basis class start effect) ≡ column_count lts basis class
columns_counted lts basis class start effect = ap length (columns_split lts basis class start effect) ∙ go (has_start class)
  where
    go : (b : Bool) → length ((if b then (start ∷ []) else []) ++ map effect (free_columns lts basis)) ≡ length ((if b then (pos 0 ∷ []) else []) ++ map pos (free_columns lts basis))
    go true = ap suc (length-map (free_columns lts basis) effect ∙ sym (length-map (free_columns lts basis) pos))
    go false = length-map (free_columns lts basis) effect ∙ sym (length-map (free_columns lts basis) pos)

pub columns_of_case : (s : CaseSetting) (case : CaseSystem) → system_fold s (Ok case) → case.columns ≡ column_count s.lts s.basis s.class
columns_of_case s case (all, made, (forms, forms_made, (columns, keeps, form_list))) = columns

pub values_counted : (s : CaseSetting) (case : CaseSystem) (start : ℤ) (effect : ℕ → ℤ) → system_fold s (Ok case)
    → length (column_values s.lts s.basis s.class start effect) ≡ case.columns
values_counted s case start effect fold = columns_counted s.lts s.basis s.class start effect ∙ sym (columns_of_case s case fold)

pub first_value : (lts : System) (basis : CycleBasis) (class : Class) (start : ℤ) (effect : ℕ → ℤ) → has_start class ≡ true → number_at (column_values lts basis class start effect) 0 ≡ start
first_value lts basis class start effect starts = ap (λ b. number_at ((if b then (start ∷ []) else []) ++ picked (λ t. has_label t lts.arcs) (free_labels (labels lts) basis) effect) 0) starts

pub free_value : (lts : System) (basis : CycleBasis) (class : Class) (start : ℤ) (effect : ℕ → ℤ) (i : ℕ) → i < length (free_columns lts basis)
    → number_at (column_values lts basis class start effect) (first_column class + i) ≡ effect (slice_index_or (free_columns lts basis) i 0)
free_value lts basis class start effect i lt = ap (λ l. number_at l (first_column class + i)) (columns_split lts basis class start effect) ∙ go (has_start class)
  where
    after : number_at (start ∷ map effect (free_columns lts basis)) (1 + i) ≡ number_at (map effect (free_columns lts basis)) i
    after = ap (λ k. number_at (start ∷ map effect (free_columns lts basis)) k) (next i)
      where
        next : (i : ℕ) → 1 + i ≡ suc i
        next i = omega arith

    go : (b : Bool) → number_at ((if b then (start ∷ []) else []) ++ map effect (free_columns lts basis)) ((if b then 1 else 0) + i) ≡ effect (slice_index_or (free_columns lts basis) i 0)
    go true = after ∙ get_or-map effect (free_columns lts basis) i 0 (pos 0) lt
    go false = ap (λ k. number_at (map effect (free_columns lts basis)) k) (zero-add i) ∙ get_or-map effect (free_columns lts basis) i 0 (pos 0) lt

-- a dot is a sum over the second list
dot_over : (xs ys : List ℤ) → dot xs ys ≡ sum_below (length ys) (λ j. number_at xs j *ℤ number_at ys j)
dot_over xs ys =
    dot_comm xs ys
    ∙ dot-sum_below ys xs
    ∙ sum_below-same (length ys) (λ j. number_at ys j *ℤ number_at xs j) (λ j. number_at xs j *ℤ number_at ys j) (λ j lt. *ℤ_comm (number_at ys j) (number_at xs j))

pub row_sum : (s : CaseSetting) (case : CaseSystem) (start : ℤ) (effect : ℕ → ℤ) (coeffs : List ℤ) → system_fold s (Ok case)
    → dot coeffs (column_values s.lts s.basis s.class start effect)
    ≡ sum_below case.columns (λ j. number_at coeffs j *ℤ number_at (column_values s.lts s.basis s.class start effect) j)
row_sum s case start effect coeffs fold = dot_over coeffs (column_values s.lts s.basis s.class start effect)
    ∙ ap (λ n. sum_below n (λ j. number_at coeffs j *ℤ number_at (column_values s.lts s.basis s.class start effect) j))
    (values_counted s case start effect fold)

-- Start and the free labels with an arc have columns
pub start_below : (s : CaseSetting) (case : CaseSystem) → system_fold s (Ok case) → has_start s.class ≡ true → 0 < case.columns
start_below s case fold starts =
    let is = columns_of_case s case fold ∙ ap (λ b. length ((if b then (pos 0 ∷ []) else []) ++ map pos (free_columns s.lts s.basis))) starts in
    omega arith

pub free_below : (s : CaseSetting) (case : CaseSystem) (i : ℕ) → system_fold s (Ok case) → i < length (free_columns s.lts s.basis) → first_column s.class + i < case.columns
free_below s case i fold lt = go (has_start s.class) case.columns (columns_of_case s case fold) (length-map (free_columns s.lts s.basis) pos)
  where
    go : (b : Bool) (n : ℕ) → n ≡ length ((if b then (pos 0 ∷ []) else []) ++ map pos (free_columns s.lts s.basis))
        → length (map pos (free_columns s.lts s.basis)) ≡ length (free_columns s.lts s.basis) → (if b then 1 else 0) + i < n
    go true n is same = omega arith
    go false n is same = omega arith

-- ---- how many columns there are

pub count_is : (lts : System) (basis : CycleBasis) (class : Class) → column_count lts basis class ≡ first_column class + length (free_columns lts basis)
count_is lts basis class = go (has_start class)
  where
    go : (b : Bool) → length ((if b then (pos 0 ∷ []) else []) ++ map pos (free_columns lts basis)) ≡ (if b then 1 else 0) + length (free_columns lts basis)
    go true = let e = length-map (free_columns lts basis) pos in omega arith
    go false = let e = length-map (free_columns lts basis) pos in omega arith
