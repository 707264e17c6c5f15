-- One node: its system, its forms, and what its descent tells.
use Rattle.std.proofs.Common.{◌≡◌, ◌≢◌, ⊎_elim, ℕ, zero, suc, ◌+◌, ◌-◌, ◌<◌, ◌≤◌, Bool, true, false, if◌then◌else◌, List, [], ◌∷◌, ◌++◌, length, length-append, map, ap, subst, sym, ◌∙◌, arith}
use Rattle.std.specs.Prelude.{ℤ, pos, negsuc, ◌-ℤ◌, ◌*ℤ◌, ◌≤ℤ◌, ◌<ℤ◌, slice_index_or, int_lt, ◌||◌}
use Rattle.std.proofs.lemmas.Int.{ints, by_lt_z}
use Rattle.std.proofs.Math.IntN.{zero-*ℤ}
use Rattle.std.proofs.lemmas.Bool.{cases_lt}
use Rattle.std.proofs.lemmas.List.{length-map, get_or-map, get_or_append_left}
use Rattle.rg_fraction.specs.declared.fraction.Fraction.{Fraction}
use Rattle.rg_linear.specs.System.{LinearSystem, LinearRow, row_at, row_variable, entry, with_rows}
use Rattle.rg_linear.specs.declared.row.Row.{Row}
use Rattle.rg_linear.specs.View.{linear_row}
use Rattle.rg_linear.specs.Dictionary.{Relation, DictionaryRow}
use Rattle.rg_linear.specs.Descent.{Outcome.point, Outcome.refuted, DescentFromStart, multiplier_of, IsFeasibleAt}
use Rattle.rg_linear.specs.Branching.{Form, form_at, SplitSide, side_row, node_system, Weight, weights_from}
use Rattle.rg_linear.proofs.Points.{point_is_sound}
use Rattle.rg_linear.proofs.Splits.{node_point}
use Rattle.rg_branch.specs.declared.bounded.Bounded.{Bounded}
use Rattle.rg_linear.specs.Room.{gap_of, gap, total, room}
use Rattle.rg_branch.specs.View.{form_of, forms_of}
use Rattle.rg_branch.specs.Asked.{IsFormOf, CanBranch}
use Rattle.rg_branch.specs.Points.{IsBetween, AreWholeBelow, IsFirstFraction, AreFormsAt}
use Rattle.rg_branch.specs.declared.relations.Relations.{Relations}
use Rattle.rg_branch.specs.Relating.{AreRelationsOf}
use Rattle.rg_branch.specs.Answer.{AreValuesAt, IsRefutedWith, IsWholePoint, IsFractionAt}

-- ---- the forms at a node

pub form_here : (forms : List Bounded) (f : ℕ) (b : Bounded) → f < length forms → form_of (slice_index_or forms f b) ≡ form_at (forms_of forms) f
form_here forms f b lt = sym (get_or-map form_of forms f b (record { scale = pos 1; coeffs = []; low = pos 0; high = pos 0 }) lt)

-- one gap is at most all of them
gap_at_most : (n i : ℕ) (g : ℕ → ℕ) → i < n → g i ≤ total n g
gap_at_most zero i g lt = absurd (omega arith)
gap_at_most (suc n) i g lt = ⊎_elim (λ less. (let h = gap_at_most n i g less in omega arith)) (λ past. (let e : i ≡ n = omega arith in let h : g i ≡ g n = ap g e in omega arith)) (cases_lt i n)

narrow_of : (high low : ℤ) (n : ℕ) → gap_of (high -ℤ low) ≤ n → n < 4294967296 → (high -ℤ low) <ℤ pos 4294967296
narrow_of high low n le lt = go (high -ℤ low) n le lt
  where
    go : (z : ℤ) (n : ℕ) → gap_of z ≤ n → n < 4294967296 → z <ℤ pos 4294967296
    go (pos k) n le lt = omega (arith, ints)
    go (negsuc k) n le lt = omega (arith, ints)

-- the rows of a system come before further ones
pub first_row : (system : LinearSystem) (further : List LinearRow) (i : ℕ) → i < length system.rows → row_at (with_rows system further) i ≡ row_at system i
first_row system further i lt = get_or_append_left system.rows further _ i lt

pub first_length : (system : LinearSystem) (further : List LinearRow) (i : ℕ) → i < length system.rows → i < length (with_rows system further).rows
first_length system further i lt = let e = length-append system.rows further in omega arith

pub node_form : (system : LinearSystem) (before : ℕ) (further : List LinearRow) (b : Bounded) → IsFormOf system before b → IsFormOf (with_rows system further) before b
node_form system before further b is = record {
  one_each = is.one_each;
  positive = is.positive;
  scale_in_range = is.scale_in_range;
  coeffs_in_range = is.coeffs_in_range;
  ordered = is.ordered;
  low_in_range = is.low_in_range;
  high_in_range = is.high_in_range;
  not_negative = is.not_negative;
  times_in_range = is.times_in_range;
  row_within = λ ne. first_length system further (before + b.row) (is.row_within ne);
  multiple = λ j lt. is.multiple j lt ∙ go b.times j (λ ne. is.row_within ne);
}
  where
    go : (t : ℤ) (j : ℕ) → (t ≢ pos 0 → before + b.row < length system.rows) → t *ℤ entry system (before + b.row) j ≡ t *ℤ entry (with_rows system further) (before + b.row) j
    go t j within = by_lt_z t (pos 0) (λ less. same (λ e. omega (arith, ints))) (λ most. by_lt_z (pos 0) t (λ more. same (λ e. omega (arith, ints))) (λ least. zeros (both most least)))
      where
        both : pos 0 ≤ℤ t → t ≤ℤ pos 0 → t ≡ pos 0
        both h g = omega (arith, ints)

        same : t ≢ pos 0 → t *ℤ entry system (before + b.row) j ≡ t *ℤ entry (with_rows system further) (before + b.row) j
        same ne = ap (λ (r : LinearRow). t *ℤ slice_index_or r.coeffs j (pos 0)) (sym (first_row system further (before + b.row) (within ne)))

        zeros : t ≡ pos 0 → t *ℤ entry system (before + b.row) j ≡ t *ℤ entry (with_rows system further) (before + b.row) j
        zeros e = ap (λ z. z *ℤ entry system (before + b.row) j) e ∙ zero-*ℤ (entry system (before + b.row) j)
            ∙ sym (zero-*ℤ (entry (with_rows system further) (before + b.row) j)) ∙ ap (λ z. z *ℤ entry (with_rows system further) (before + b.row) j) (sym e)

module _ (system : LinearSystem) (before : ℕ) (forms : List Bounded) (above : List SplitSide) (can : CanBranch system before forms) where
  pub forms_at : (members : List ℕ) (relations : Relations) → AreRelationsOf (node_system system (forms_of forms) above) members relations
      → DescentFromStart (node_system system (forms_of forms) above) (point members) → AreFormsAt system before (map (side_row (forms_of forms)) above) members relations forms
  forms_at members relations are outcome k b lt = record {
    are = are;
    form = can.each k b lt;
    few_rows = (let f = can.few in omega arith);
    narrow = narrow_of (slice_index_or forms k b).high (slice_index_or forms k b).low (room (forms_of forms) []) (gap_here k b lt) (let f = can.few in omega arith);
    between = subst (IsBetween (node_system system (forms_of forms) above) members) (sym (form_here forms k b lt))
        (λ scale v basic. can.bounded.between k scale v (subst (λ n. k < n) (sym (length-map forms form_of)) lt)
        (node_point system (forms_of forms) above scale v basic.point)
        (λ i within. point_is_sound (node_system system (forms_of forms) above) members outcome scale v basic.point basic.zero i
        (first_length system (map (side_row (forms_of forms)) above) i within)));
  }
    where
      gap_here : (k : ℕ) (b : Bounded) → k < length forms → gap_of ((slice_index_or forms k b).high -ℤ (slice_index_or forms k b).low) ≤ room (forms_of forms) []
      gap_here k b lt = subst (λ (form : Form). gap_of (form.high -ℤ form.low) ≤ room (forms_of forms) []) (sym (form_here forms k b lt))
          (gap_at_most (length (forms_of forms)) k (gap (forms_of forms) []) (subst (λ n. k < n) (sym (length-map forms form_of)) lt))

  pub fraction_told : (members : List ℕ) (f : ℕ) (u : ℤ) → DescentFromStart (node_system system (forms_of forms) above) (point members)
      → IsFeasibleAt (node_system system (forms_of forms) above) members → IsFirstFraction (node_system system (forms_of forms) above) members (forms_of forms) f u
      → IsFractionAt system (forms_of forms) above f u
  fraction_told members f u d at first = record {
    members = members;
    outcome = d;
    first = record {
      scale = at.scale;
      v = at.v;
      point = at.basic.point;
      zeros = at.basic.zero;
      within = first.within;
      before = λ g lt. first.before g lt at.scale at.v at.basic;
      low = (first.floor at.scale at.v at.basic).0;
      high = (first.floor at.scale at.v at.basic).1;
    };
    side = record { form = first.within; low = first.low; high = first.high };
  }

  pub whole_told : (members : List ℕ) (values : List Fraction) → DescentFromStart (node_system system (forms_of forms) above) (point members)
      → IsFeasibleAt (node_system system (forms_of forms) above) members → AreWholeBelow (node_system system (forms_of forms) above) members (forms_of forms)
      (length forms) → AreValuesAt (node_system system (forms_of forms) above) members values → IsWholePoint system (forms_of forms) above values
  whole_told members values d at all are = record {
    members = members;
    outcome = d;
    all = record {
      scale = at.scale;
      v = at.v;
      point = at.basic.point;
      zeros = at.basic.zero;
      whole = λ g lt. all g (subst (λ n. g < n) (length-map forms form_of) lt) at.scale at.v at.basic;
    };
    values_are = are;
  }

-- ---- the rows that code keeps

-- they make the node's system
pub node_is : (system : LinearSystem) (forms : List Form) (above : List SplitSide) (rows slice : List Row) → slice ≡ rows
    → map linear_row rows ≡ map (side_row forms) above → with_rows system (map linear_row slice) ≡ node_system system forms above
node_is system forms above rows slice e are = ap (λ xs. with_rows system xs) (ap (map linear_row) e ∙ are)

pub row_count : (system : LinearSystem) (further : List LinearRow) (split : List Row) (count n : ℕ) → count ≡ length system.rows
    → map linear_row split ≡ further → n ≡ length split → count + n ≡ length (system.rows ++ further)
row_count system further split count n own behind is =
    let b = length-map split linear_row in
    let c = length-append system.rows further in
    let f = ap length behind in
    omega arith

-- ---- a refuted node

pub refuted_told : (node : LinearSystem) (members fixed : List ℕ) (i : ℕ) (k : Relation) (weights : List Weight) (rows : ℕ)
    → DescentFromStart node (refuted members i fixed) → DictionaryRow node members (row_variable node i) k → rows ≡ length node.rows
    → weights ≡ weights_from (multiplier_of node k i) 0 rows → IsRefutedWith node weights
refuted_told node members fixed i k weights rows outcome row count are = record {
  members = members;
  fixed = fixed;
  i = i;
  k = k;
  outcome = outcome;
  row = row;
  weights_are = are ∙ ap (weights_from (multiplier_of node k i) 0) count;
}

-- ---- the rows with a multiplier

test_zero : (z : ℤ) → z ≡ pos 0 → (int_lt z (pos 0) || int_lt (pos 0) z) ≡ false
test_zero z e = ap (λ x. int_lt x (pos 0) || int_lt (pos 0) x) e

test_other : (z : ℤ) → z ≢ pos 0 → (int_lt z (pos 0) || int_lt (pos 0) z) ≡ true
test_other z ne = grind (arith, ints)

from_next : (m : ℕ → ℤ) (row k : ℕ) (xs : List Weight) (b : Bool) → (int_lt (m row) (pos 0) || int_lt (pos 0) (m row)) ≡ b
    → (if b then (record { row = row; multiplier = m row } ∷ weights_from m (suc row) k) else weights_from m (suc row) k) ≡ xs → weights_from m row (suc k) ≡ xs
from_next m row k xs b e is = ap (λ x. if x then (record { row = row; multiplier = m row } ∷ weights_from m (suc row) k) else weights_from m (suc row) k) e ∙ is

next_count : (row rows : ℕ) → row < rows → rows - row ≡ suc (rows - (row + 1))
next_count row rows lt = omega arith

pub weights_skip : (m : ℕ → ℤ) (row rows : ℕ) → row < rows → m row ≡ pos 0 → weights_from m row (rows - row) ≡ weights_from m (row + 1) (rows - (row + 1))
weights_skip m row rows lt e = ap (weights_from m row) (next_count row rows lt)
    ∙ from_next m row (rows - (row + 1)) _ false (test_zero (m row) e) (ap (λ n. weights_from m n (rows - (row + 1))) (one row))
  where
    one : (n : ℕ) → suc n ≡ n + 1
    one n = omega arith

pub weights_take : (m : ℕ → ℤ) (row rows : ℕ) → row < rows → m row ≢ pos 0 → weights_from m row (rows - row) ≡ record { row = row; multiplier = m row } ∷ weights_from m (row + 1) (rows - (row + 1))
weights_take m row rows lt ne = ap (weights_from m row) (next_count row rows lt)
    ∙ from_next m row (rows - (row + 1)) _ true (test_other (m row) ne)
    (ap (λ n. record { row = row; multiplier = m row } ∷ weights_from m n (rows - (row + 1))) (one row))
  where
    one : (n : ℕ) → suc n ≡ n + 1
    one n = omega arith
