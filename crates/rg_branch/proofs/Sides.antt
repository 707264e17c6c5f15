-- The rows of splits.
use Rattle.std.proofs.Common.{◌≡◌, ◌⊎◌, inl, inr, ⊎_elim, ℕ, zero, suc, ◌+◌, ◌-◌, ◌<◌, ◌≤◌, Bool, true, false, if◌then◌else◌, List, [], ◌∷◌, ◌++◌, length, length-append, map, take, reverse, All, ap, refl, subst, sym, ◌∙◌, append_assoc, arith}
use Rattle.std.specs.Prelude.{ℤ, pos, neg_ℤ, ◌+ℤ◌, ◌*ℤ◌, ◌≤ℤ◌, ◌<ℤ◌, slice_index_or}
use Rattle.std.proofs.lemmas.Int.{ints}
use Rattle.std.proofs.lemmas.Bool.{cases_lt}
use Rattle.std.proofs.lemmas.List.{length-map, map-append, take-map, take_at, get_or-map, get_or_at, get_or-append_right, reverse-append, reverse-reverse}
use Rattle.rg_integers.specs.Range.{InRange}
use Rattle.rg_integers.proofs.Ranges.{in_range-neg}
use Rattle.rg_linear.specs.System.{LinearSystem, LinearRow, row_at}
use Rattle.rg_linear.specs.Branching.{Form, form_at, SplitSide, side_row, node_system}
use Rattle.rg_linear.proofs.Splits.{front_row, index-neg}
use Rattle.rg_linear.specs.declared.row.Row.{Row}
use Rattle.rg_linear.specs.View.{linear_row, IsWellFormed}
use Rattle.rg_branch.specs.declared.bounded.Bounded.{Bounded}
use Rattle.rg_branch_trees.specs.Turning.{turned_back, turned}
use Rattle.rg_branch.specs.View.{form_of, forms_of}
use Rattle.rg_branch.specs.Asked.{IsFormOf, CanBranch, IsSideOf, AreSidesOf}
use Rattle.rg_branch.proofs.Orders.{product_between, high_constant}
use Rattle.rg_branch.proofs.Points.{form_is}

-- ---- one side

-- a row fits: one number a column, and all in range
record RowFits (columns : ℕ) (row : LinearRow) : Type 0 where
  pub one_each : length row.coeffs ≡ columns
  pub coeffs : (j : ℕ) → j < columns → InRange (slice_index_or row.coeffs j (pos 0))
  pub constant : InRange row.constant

side_fits : (system : LinearSystem) (before : ℕ) (b : Bounded) (at : ℤ) (high : Bool) → IsFormOf system before b → InRange (b.scale *ℤ at) → InRange (b.scale *ℤ (at +ℤ pos 1))
    → RowFits system.columns (side_row (form_of b ∷ []) (record { form = 0; at = at; high = high }))
side_fits system before b at true is low high = record { one_each = is.one_each; coeffs = is.coeffs_in_range; constant = subst InRange (high_constant b.scale at) (in_range-neg _ high) }
side_fits system before b at false is low high = record {
  one_each = length-map b.coeffs.items neg_ℤ ∙ is.one_each;
  coeffs = λ j lt. subst InRange (sym (index-neg b.coeffs.items j)) (in_range-neg _ (is.coeffs_in_range j lt));
  constant = low;
}

some_form : (forms : List Bounded) (f : ℕ) → f < length forms → (b : Bounded) × (b ≡ slice_index_or forms f b)
some_form [] f lt = absurd (omega arith)
some_form (x ∷ forms) zero lt = (x, refl)
some_form (x ∷ forms) (suc f) lt = some_form forms f (omega arith)

module _ (system : LinearSystem) (before : ℕ) (forms : List Bounded) (can : CanBranch system before forms) (side : SplitSide) (asked : IsSideOf (forms_of forms) side) where
  pub form_within : side.form < length forms
  form_within = subst (λ n. side.form < n) (length-map forms form_of) asked.form

  pub form_asked : (b : Bounded) → b ≡ slice_index_or forms side.form b → IsFormOf system before b
  form_asked b e = subst (IsFormOf system before) (sym e) (can.each side.form b form_within)

  form_same : (b : Bounded) → b ≡ slice_index_or forms side.form b → form_of b ≡ form_at (forms_of forms) side.form
  form_same b e = form_is forms side.form b form_within e

  pub row_same : (b : Bounded) → b ≡ slice_index_or forms side.form b → side_row (form_of b ∷ []) (record side { form = 0 }) ≡ side_row (forms_of forms) side
  row_same b e = ap (λ (form : Form). side_row (form ∷ []) (record side { form = 0 })) (form_same b e)

  pub low_fits : (b : Bounded) → b ≡ slice_index_or forms side.form b → InRange (b.scale *ℤ side.at)
  low_fits b e =
      let is = form_asked b e in
      let low = subst (λ (form : Form). form.low ≤ℤ side.at) (sym (form_same b e)) asked.low in
      let high = subst (λ (form : Form). side.at <ℤ form.high) (sym (form_same b e)) asked.high in
      product_between b.scale b.low b.high side.at is.positive low (most side.at b.high high) is.low_in_range is.high_in_range
    where
      most : (a c : ℤ) → a <ℤ c → a ≤ℤ c
      most a c h = omega (arith, ints)

  pub high_fits : (b : Bounded) → b ≡ slice_index_or forms side.form b → InRange (b.scale *ℤ (side.at +ℤ pos 1))
  high_fits b e =
      let is = form_asked b e in
      let low = subst (λ (form : Form). form.low ≤ℤ side.at) (sym (form_same b e)) asked.low in
      let high = subst (λ (form : Form). side.at <ℤ form.high) (sym (form_same b e)) asked.high in
      product_between b.scale b.low b.high (side.at +ℤ pos 1) is.positive (next b.low side.at low) (most side.at b.high high) is.low_in_range is.high_in_range
    where
      next : (a c : ℤ) → a ≤ℤ c → a ≤ℤ (c +ℤ pos 1)
      next a c h = omega (arith, ints)

      most : (a c : ℤ) → a <ℤ c → (a +ℤ pos 1) ≤ℤ c
      most a c h = omega (arith, ints)

  row_fits : RowFits system.columns (side_row (forms_of forms) side)
  row_fits =
      let (b, e) = some_form forms side.form form_within in
      subst (RowFits system.columns) (row_same b e) (side_fits system before b side.at side.high (form_asked b e) (low_fits b e) (high_fits b e))

-- ---- every row of a node

no_side : SplitSide
no_side = record { form = 0; at = pos 0; high = false }

module _ (system : LinearSystem) (before : ℕ) (forms : List Bounded) (above : List SplitSide) (can : CanBranch system before forms)
    (asked : AreSidesOf (forms_of forms) above) (well : IsWellFormed system) where
  count : length (node_system system (forms_of forms) above).rows ≡ length system.rows + length above
  count = length-append system.rows (map (side_row (forms_of forms)) above) ∙ ap (λ n. length system.rows + n) (length-map above (side_row (forms_of forms)))

  behind : (i : ℕ) → length system.rows ≤ i → i - length system.rows < length above
      → row_at (node_system system (forms_of forms) above) i ≡ side_row (forms_of forms) (slice_index_or above (i - length system.rows) no_side)
  behind i past lt =
      get_or-append_right system.rows (map (side_row (forms_of forms)) above) (length system.rows) i (record { coeffs = []; constant = pos 0 }) refl past
      ∙ get_or-map (side_row (forms_of forms)) above (i - length system.rows) no_side (record { coeffs = []; constant = pos 0 }) lt

  fits : (i : ℕ) → i < length (node_system system (forms_of forms) above).rows → RowFits system.columns (row_at (node_system system (forms_of forms) above) i)
  fits i lt = ⊎_elim
      (λ front. subst (RowFits system.columns) (sym (front_row system (forms_of forms) above i front))
      (record { one_each = well.one_each i front; coeffs = λ j b. well.coeffs i j front b; constant = well.constants i front }))
      (λ past. (let k : i - length system.rows < length above = (let c = count in omega arith) in
      subst (RowFits system.columns) (sym (behind i past k)) (row_fits system before forms can _ (asked.each (i - length system.rows) no_side k))))
      (cases_lt i (length system.rows))

  pub rows_well_formed : IsWellFormed (node_system system (forms_of forms) above)
  rows_well_formed = record {
    few = (let c = count in let f = asked.few in let g = can.few in omega arith);
    one_each = λ i lt. (fits i lt).one_each;
    coeffs = λ i j lt below. (fits i lt).coeffs j below;
    constants = λ i lt. (fits i lt).constant;
  }

-- ---- the sides above the next node

-- the innermost low side becomes the high one, and the sides within it end
record TurnsAt (above : List SplitSide) : Type 0 where
  outer : List SplitSide
  side : SplitSide
  inner : List SplitSide
  is : above ≡ outer ++ side ∷ inner
  turned_is : turned above ≡ outer ++ record side { high = true } ∷ []

-- the same, innermost first
record TurnsBackAt (back : List SplitSide) : Type 0 where
  outer : List SplitSide
  side : SplitSide
  inner : List SplitSide
  is : back ≡ inner ++ side ∷ outer
  turned_is : turned_back back ≡ record side { high = true } ∷ outer

turns_back : (back : List SplitSide) → (turned_back back ≡ []) ⊎ TurnsBackAt back
turns_back [] = inl refl
turns_back (side ∷ outer) = go side.high (λ j. if side.high then turned_back outer else (record side { high = true } ∷ outer)) (turns_back outer)
  where
    go : (high : Bool) → turned_back (side ∷ outer) ≡ (if high then turned_back outer else (record side { high = true } ∷ outer))
        → (turned_back outer ≡ []) ⊎ TurnsBackAt outer → (turned_back (side ∷ outer) ≡ []) ⊎ TurnsBackAt (side ∷ outer)
    go false e rest = inr (record { outer = outer; side = side; inner = []; is = refl; turned_is = e })
    go true e (inl none) = inl (e ∙ none)
    go true e (inr at) = inr (record { outer = at.outer; side = at.side; inner = side ∷ at.inner; is = ap (λ xs. side ∷ xs) at.is; turned_is = e ∙ at.turned_is })

reverse-cons : (side : SplitSide) (outer : List SplitSide) → reverse (side ∷ outer) ≡ reverse outer ++ side ∷ []
reverse-cons side outer = reverse-append (side ∷ []) outer

turns : (above : List SplitSide) → (turned above ≡ []) ⊎ TurnsAt above
turns above = ⊎_elim
    (λ none. inl (ap reverse none))
    (λ at. inr (record {
      outer = reverse at.outer;
      side = at.side;
      inner = reverse at.inner;
      is = sym (reverse-reverse above) ∙ ap reverse at.is ∙ reverse-append at.inner (at.side ∷ at.outer)
          ∙ ap (λ xs. xs ++ reverse at.inner) (reverse-cons at.side at.outer) ∙ append_assoc (reverse at.outer) (at.side ∷ []) (reverse at.inner);
      turned_is = ap reverse at.turned_is ∙ reverse-cons (record at.side { high = true }) at.outer;
    }))
    (turns_back (reverse above))

-- what the code has to add behind the rows of the outer sides: the row of the last one, which is on the same form and number as before
pub record TurnsTo (forms : List Form) (rows : List Row) (new : List SplitSide) (last : SplitSide) : Type 0 where
  pub asked : IsSideOf forms last
  pub rows_are : map linear_row (take (length new - 1) rows) ++ side_row forms last ∷ [] ≡ map (side_row forms) new

module _ (forms : List Form) (above : List SplitSide) (rows : List Row) (new : List SplitSide) (last : SplitSide) (each : All (IsSideOf forms) above)
    (are : map linear_row rows ≡ map (side_row forms) above) (next : new ≡ turned above) (some : 0 < length new)
    (is_last : slice_index_or new (length new - 1) last ≡ last) where
  turns_at : TurnsAt above → TurnsTo forms rows new last
  turns_at at = record {
    asked = subst (IsSideOf forms) (sym same) (record { form = before.form; low = before.low; high = before.high });
    rows_are = ap (λ xs. xs ++ side_row forms last ∷ []) outer_rows ∙ sym (map-append (side_row forms) at.outer (last ∷ []))
        ∙ ap (λ side. map (side_row forms) (at.outer ++ side ∷ [])) same ∙ ap (map (side_row forms)) (sym (next ∙ at.turned_is));
  }
    where
      count : length new ≡ length at.outer + 1
      count = ap length (next ∙ at.turned_is) ∙ length-append at.outer (record at.side { high = true } ∷ [])

      same : last ≡ record at.side { high = true }
      same = sym is_last ∙ ap (λ xs. slice_index_or xs (length new - 1) last) (next ∙ at.turned_is) ∙ get_or_at at.outer (record at.side { high = true }) [] last
          (length new - 1) (omega (arith, count))

      before : IsSideOf forms at.side
      before = subst (IsSideOf forms) (ap (λ xs. slice_index_or xs (length at.outer) at.side) at.is
          ∙ get_or_at at.outer at.side at.inner at.side (length at.outer) refl)
          (each (length at.outer) at.side (omega (arith, ap length at.is, length-append at.outer (at.side ∷ at.inner))))

      outer_rows : map linear_row (take (length new - 1) rows) ≡ map (side_row forms) at.outer
      outer_rows = sym (take-map linear_row (length new - 1) rows) ∙ ap (take (length new - 1)) (are ∙ ap (map (side_row forms)) at.is)
          ∙ take-map (side_row forms) (length new - 1) (at.outer ++ at.side ∷ at.inner)
          ∙ ap (map (side_row forms)) (take_at at.outer (at.side ∷ at.inner) (length new - 1) (omega (arith, count)))

  pub turns_to : TurnsTo forms rows new last
  turns_to = ⊎_elim (λ none. absurd (omega (arith, ap length (next ∙ none)))) turns_at (turns above)
