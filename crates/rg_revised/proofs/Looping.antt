-- The loop over the rows: how it begins, and the rows that it takes.
use Rattle.std.proofs.Common.{◌≡◌, ℕ, List, [], length, map, reverse, ap, refl, subst, sym, ◌∙◌, ◌<◌, ◌≤◌}
use Rattle.std.specs.Prelude.{slice_index_or}
use Rattle.std.proofs.lemmas.List.{length-map}
use Rattle.rg_linear.specs.Stack.{limit, work_left, IsStackOf}
use Rattle.rg_linear.specs.declared.row.Row.{Row}
use Rattle.rg_integers.specs.Range.{InRange}
use Rattle.rg_linear.specs.System.{LinearSystem, LinearRow, row_at}
use Rattle.rg_linear.specs.View.{linear_row, linear_system, IsWellFormed}
use Rattle.rg_linear.proofs.Members.{Contains-nil}
use Rattle.rg_linear.proofs.KeptRows.{item_is, below_rows, row_length, constant_in_range}
use Rattle.rg_linear.proofs.Descending.{LeadsOn}
use Rattle.rg_revised.specs.State.{IsRow}
use Rattle.rg_revised.specs.Reaching.{Reaches}
use Rattle.rg_revised.proofs.Extending.{begins_to}

pub begins : (columns : ℕ) (rows : List Row) (members stack : List ℕ) (from : ℕ) → stack ≡ [] → Reaches (linear_system columns rows) members from
    → LeadsOn (linear_system columns rows) members stack (length rows) from
begins columns rows members stack from none reaches = record {
  limit = sym (length-map rows linear_row) ∙ ap (λ xs. limit (linear_system columns rows) (reverse xs)) (sym none);
  stacked = subst (λ xs. IsStackOf (linear_system columns rows) (reverse xs) members) (sym none) (record { falls = tt; all = λ m has. absurd (Contains-nil m has) });
  leads = begins_to (linear_system columns rows) members stack from none reaches;
}

-- a measure by the number of the rows as code keeps them
pub work_kept : (columns : ℕ) (rows : List Row) (a b : List ℕ) (i j : ℕ) → work_left (length (map linear_row rows)) a i < work_left (length (map linear_row rows)) b j
    → work_left (length rows) a i < work_left (length rows) b j
work_kept columns rows a b i j h = subst (λ n. work_left n a i < work_left n b j) (length-map rows linear_row) h

pub within_kept : (rows : List Row) (below : ℕ) → below ≤ length (map linear_row rows) → below ≤ length rows
within_kept rows below h = subst (λ n. below ≤ n) (length-map rows linear_row) h

pub row_is : (system : LinearSystem) (i : ℕ) (row : LinearRow) → i < length system.rows → row_at system i ≡ row → length row.coeffs ≡ system.columns → IsRow system i row.coeffs row.constant
row_is system i row lt is each = record { inside = lt; coeffs_are = ap (λ (r : LinearRow). r.coeffs) is; constant_is = ap (λ (r : LinearRow). r.constant) is; each = each }

-- a row as code keeps it is one of the system
pub kept_row : (columns : ℕ) (rows : List Row) → IsWellFormed (linear_system columns rows) → (i : ℕ) (item : Row) → i < length rows → item ≡ slice_index_or rows i item
    → InRange item.constant × IsRow (linear_system columns rows) i (linear_row item).coeffs item.constant
kept_row columns rows well i item lt at = (
  constant_in_range (linear_system columns rows) well rows i item refl lt at,
  row_is (linear_system columns rows) i (linear_row item) (below_rows (linear_system columns rows) rows i refl lt) (sym (item_is (linear_system columns rows) rows i item refl lt at))
      (row_length (linear_system columns rows) well rows i item refl lt at),
)
