-- The values of all labels, column by column.
use Rattle.std.proofs.Common.{◌≡◌, ⊎_elim, ℕ, ◌+◌, ◌<◌, ◌≤◌, ◌==◌, true, false, if◌then◌else◌, List, [], ◌∷◌, ◌++◌, ◌-◌, length, drop, take, set, replicate, slice_index_or, ap, refl, sym, subst, ◌∙◌, arith, eq-eqb, eqb-true}
use Rattle.std.specs.Prelude.{pos}
use Rattle.std.proofs.lemmas.Bool.{cases_Bool, true≢false}
use Rattle.std.proofs.lemmas.List.{drop_all, take_all, length-map, length-set, length-replicate, map-set, get_or-map, get_or-replicate, get_or-set_other}
use Rattle.std.proofs.lemmas.Grind.{get_or-set_at}
use Rattle.rg_theory.specs.System.{System, labels}
use Rattle.rg_fraction.specs.declared.fraction.Fraction.{Fraction}
use Rattle.rg_linear.specs.Cycle.{CycleBasis}
use Rattle.rg_folds.specs.Fold.{whole, ratio_of}
use Rattle.rg_folds.specs.Substitution.{is_in, free_labels}
use Rattle.rg_case_folds.specs.Placing.{ratio_at}
use Rattle.rg_cycles.proofs.Folding.{free_below}
use Rattle.rg_places.specs.PointValues.{ratios_of}
use Rattle.rg_places.specs.Steps.{labels_in, value_by, IsPlaced, AreFreeColumns}
use Rattle.rg_places.specs.declared.columns.Column.{Column}
use Rattle.rg_places.proofs.FoldSteps.{left_at}

-- a label of no column has the value 0
pub value_none : (columns : List Column) (t : ℕ) → is_in (labels_in columns) t ≡ false → value_by columns t ≡ whole (pos 0)
value_none [] t lacks = refl
value_none (c ∷ rest) t lacks = ⊎_elim
    (λ e. absurd (true≢false (sym (ap (λ b. if b then true else is_in (labels_in rest) t) e) ∙ lacks)))
    (λ e. ap (λ b. if b then ratio_of c.value else value_by rest t) e ∙ value_none rest t (sym (ap (λ b. if b then true else is_in (labels_in rest) t) e) ∙ lacks))
    (cases_Bool (c.label == t))

-- a column's label is a label
pub column_below : (lts : System) (basis : CycleBasis) (columns : List Column) → AreFreeColumns lts basis columns → (i : ℕ) (c : Column)
    → i < length columns → c ≡ slice_index_or columns i c → c.label < labels lts
column_below lts basis columns are i c lt at =
    let placed = subst (IsPlaced (free_labels (labels lts) basis)) (sym at) (are.placed i c lt) in
    subst (λ t. t < labels lts) placed.label_is (free_below (labels lts) basis c.index placed.within)

-- a list of no items, filled up to n
pub filled : {A : Type 0} (n len : ℕ) (old : List A) (x : A) → old ≡ [] → len ≡ 0 → take n old ++ replicate (n - len) x ≡ replicate n x
filled n len old x none empty = ap (λ l. take n l ++ replicate (n - len) x) none ∙ ap (λ l. l ++ replicate (n - len) x) (take_all n [] (omega arith))
    ∙ ap (λ k. replicate k x) all
  where
    all : n - len ≡ n
    all = let e = empty in omega arith

-- the values of the labels but those of the columns from i on
pub record ValuesSoFar (n : ℕ) (columns : List Column) (i : ℕ) (values : List Fraction) : Type 0 where
  pub one_each : length values ≡ n
  pub passed : (t : ℕ) → t < n → is_in (labels_in (drop i columns)) t ≡ false → ratio_at (ratios_of values) t ≡ value_by columns t

pub values_start : (n : ℕ) (columns : List Column) (none : Fraction) (values : List Fraction) → ratio_of none ≡ whole (pos 0) → values ≡ replicate n none → ValuesSoFar n columns 0 values
values_start n columns none values nothing are = record {
  one_each = ap length are ∙ length-replicate n none;
  passed = λ t lt lacks. at t lt ∙ sym (value_none columns t lacks);
}
  where
    at : (t : ℕ) → t < n → ratio_at (ratios_of values) t ≡ whole (pos 0)
    at t lt = ap (λ l. ratio_at (ratios_of l) t) are ∙ get_or-map ratio_of (replicate n none) t none (whole (pos 0)) (subst (λ k. t < k) (sym (length-replicate n none)) lt)
        ∙ ap ratio_of (get_or-replicate n t none none lt) ∙ nothing

module _ (n : ℕ) (columns : List Column) (i : ℕ) (values : List Fraction) (so_far : ValuesSoFar n columns i values) where
  pub values_end : length columns ≤ i → (t : ℕ) → t < n → ratio_at (ratios_of values) t ≡ value_by columns t
  values_end past t lt = so_far.passed t lt (ap (λ l. is_in (labels_in l) t) (drop_all i columns past))

  pub values_next : (c : Column) → i < length columns → c ≡ slice_index_or columns i c → c.label < n → value_by columns c.label ≡ ratio_of c.value
      → ValuesSoFar n columns (i + 1) (set values c.label c.value)
  values_next c lt at below value = record {
    one_each = length-set values c.label c.value ∙ so_far.one_each;
    passed = λ t within lacks. ⊎_elim (here t) (other t within lacks) (cases_Bool (c.label == t));
  }
    where
      here : (t : ℕ) → (c.label == t) ≡ true → ratio_at (ratios_of (set values c.label c.value)) t ≡ value_by columns t
      here t e = ap (λ l. ratio_at l t) (map-set ratio_of values c.label c.value)
          ∙ get_or-set_at (ratios_of values) c.label t (ratio_of c.value) (whole (pos 0)) (sym (eqb-true c.label t e))
          (subst (λ k. c.label < k) (sym (length-map values ratio_of ∙ so_far.one_each)) below)
          ∙ sym value ∙ ap (value_by columns) (eqb-true c.label t e)

      other : (t : ℕ) → t < n → is_in (labels_in (drop (i + 1) columns)) t ≡ false → (c.label == t) ≡ false → ratio_at (ratios_of (set values c.label c.value)) t ≡ value_by columns t
      other t within lacks e = ap (λ l. ratio_at l t) (map-set ratio_of values c.label c.value)
          ∙ get_or-set_other (ratios_of values) c.label t (ratio_of c.value) (whole (pos 0)) (λ same. true≢false (sym (eq-eqb c.label t (sym same)) ∙ e))
          ∙ so_far.passed t within (ap (λ l. is_in (labels_in l) t) (left_at columns i c lt at)
          ∙ ap (λ b. if b then true else is_in (labels_in (drop (i + 1) columns)) t) e ∙ lacks)
