-- The table over the columns holds their relations.
use Rattle.std.proofs.Common.{◌≡◌, ⊎_elim, ℕ, zero, suc, ◌+◌, ◌*◌, ◌<◌, ◌≤◌, ◌==◌, Bool, true, false, if◌then◌else◌, List, length, get_or, ap, refl, subst, sym, ◌∙◌, arith, get_or-set_other, get_or-set_same}
use Rattle.std.proofs.Math.ListN.{set, length-set}
use Rattle.std.proofs.lemmas.Bool.{cases_lt}
use borrow.Rule.Slice.PartMut.{put_mid}
use Rattle.std.specs.Prelude.{ℤ, pos, unsigned_abs}
use Rattle.rg_integers.specs.Sum.{number_at, only}
use Rattle.rg_linear.specs.System.{LinearSystem}
use Rattle.rg_linear.specs.Dictionary.{column_set, numbers_from}
use Rattle.rg_linear.specs.Table.{number_beside, row_at}
use Rattle.rg_linear.proofs.Members.{equal_or_not, differs, same, numbers_from-Contains, length-numbers_from}
use Rattle.rg_linear.proofs.Columns.{columns_free}
use Rattle.rg_linear.proofs.TableRows.{row_put, row_other, length-row}
use Rattle.rg_revised.specs.Basis.{IsRelationOf, itself}
use Rattle.rg_revised.specs.Rows.{TableWithin}
use Rattle.rg_revised.specs.Held.{AreDistinct, relation_of, column_relation, IsHeld}
use Rattle.rg_revised.specs.View.{BasisState}
use Rattle.rg_revised.specs.Starting.{IsUnitRow, IsUnitTable, IsUnitBasis}
use Rattle.rg_revised.specs.State.{IsSmallHeld}
use Rattle.rg_revised.proofs.RowRelations.{columns_basis}
use Rattle.rg_linear.proofs.TableLemmas.{beside_none}
use Rattle.rg_revised.proofs.Slots.{beside_at}

-- ---- one row

pub unit_set : (row : List ℤ) (t : ℕ) → t < length row → ((s : ℕ) → s < length row → number_at row s ≡ pos 0) → IsUnitRow t (set row t (pos 1))
unit_set row t lt zeros s less = ⊎_elim
    (λ e. subst (λ x. number_at (set row t (pos 1)) x ≡ (if x == t then pos 1 else pos 0)) (sym e) (get_or-set_same row t (pos 1) (pos 0) lt ∙ sym (ap (λ b. if b then pos 1 else pos 0) (same t))))
    (λ ne. get_or-set_other row t s (pos 1) (pos 0) ne ∙ zeros s (omega (arith, length-set row t (pos 1))) ∙ sym (ap (λ b. if b then pos 1 else pos 0) (differs s t ne)))
    (equal_or_not s t)

-- ---- row by row

pub units_more : (width : ℕ) (table row : List ℤ) (t n k : ℕ) → IsUnitTable width t table → length table ≡ n * width → t < n → k ≡ width → length row ≡ width → IsUnitRow t row
    → IsUnitTable width (t + 1) (put_mid (t * width) k table row)
units_more width table row t n k all size lt is same unit v less = ⊎_elim
    (λ before. subst (IsUnitRow v) (sym (row_other width table row n t k v size lt same is (λ e. omega arith))) (all v before))
    (λ after. here v (omega arith))
    (cases_lt v t)
  where
    here : (v : ℕ) → t ≡ v → IsUnitRow v (row_at width (put_mid (t * width) k table row) v)
    here v e = subst (λ u. IsUnitRow u (row_at width (put_mid (t * width) k table row) u)) e (subst (IsUnitRow t) (sym (row_put width table row n t k size lt same)) unit)

-- ---- what the table holds

slot_is : (first n m : ℕ) → m < n → get_or (numbers_from first n) m 0 ≡ first + m
slot_is first zero m lt = absurd (omega arith)
slot_is first (suc n) zero lt = add-zero first
  where
    add-zero : (a : ℕ) → a ≡ a + 0
    add-zero a = omega arith
slot_is first (suc n) (suc m) lt = slot_is (suc first) n m (omega arith) ∙ moved first m
  where
    moved : (a m : ℕ) → suc a + m ≡ a + suc m
    moved a m = omega arith

zero-plus : (m : ℕ) → 0 + m ≡ m
zero-plus m = omega arith

numbers_distinct : (first n : ℕ) → AreDistinct (numbers_from first n)
numbers_distinct first zero = tt
numbers_distinct first (suc n) = ((λ has. (let h = numbers_from-Contains (suc first) n first has in absurd (omega arith))), numbers_distinct (suc first) n)

module _ (system : LinearSystem) (table : List ℤ) (size : length table ≡ system.columns * (system.columns + 1)) (unit : IsUnitTable (system.columns + 1) system.columns table) where
  count : length (numbers_from 0 system.columns) ≡ system.columns
  count = length-numbers_from 0 system.columns

  row_count : (t : ℕ) → t < system.columns → length (row_at (system.columns + 1) table t) ≡ system.columns + 1
  row_count t lt = length-row (system.columns + 1) table system.columns t size lt

  constant_is : (t : ℕ) → t < system.columns → number_at (row_at (system.columns + 1) table t) system.columns ≡ pos 0
  constant_is t lt = unit t lt system.columns (let w = row_count t lt in omega arith) ∙ ap (λ b. if b then pos 1 else pos 0) (differs system.columns t (λ e. omega arith))

  coefficient_is : (t : ℕ) → t < system.columns → (m : ℕ) → number_beside (numbers_from 0 system.columns) (row_at (system.columns + 1) table t) m ≡ only t (pos 1) m
  coefficient_is t lt m = ⊎_elim below past (cases_lt m system.columns)
    where
      below : m < system.columns → number_beside (numbers_from 0 system.columns) (row_at (system.columns + 1) table t) m ≡ only t (pos 1) m
      below less = ap (number_beside (numbers_from 0 system.columns) (row_at (system.columns + 1) table t)) (sym (slot_is 0 system.columns m less ∙ zero-plus m))
          ∙ beside_at (numbers_from 0 system.columns) (row_at (system.columns + 1) table t) m (numbers_distinct 0 system.columns) (let c = count in omega arith)
          (let c = count in let w = row_count t lt in omega arith) ∙ unit t lt m (let w = row_count t lt in omega arith)

      past : system.columns ≤ m → number_beside (numbers_from 0 system.columns) (row_at (system.columns + 1) table t) m ≡ only t (pos 1) m
      past more = beside_none (numbers_from 0 system.columns) (row_at (system.columns + 1) table t) m (λ has. (let h = numbers_from-Contains 0 system.columns m has in absurd (omega arith)))
          ∙ sym (ap (λ b. if b then pos 1 else pos 0) (differs m t (λ e. omega arith)))

  itself_is : (t : ℕ) → t < system.columns → itself (pos 1) t ≡ relation_of (numbers_from 0 system.columns) (pos 1) (row_at (system.columns + 1) table t)
  itself_is t lt = λ e. record { d = pos 1; constant = sym (ap (number_at (row_at (system.columns + 1) table t)) count ∙ constant_is t lt) e; coefficient = λ m. sym (coefficient_is t lt m) e }

  width_is : (t : ℕ) → relation_of (numbers_from 0 system.columns) (pos 1) (row_at (system.columns + 1) table t)
      ≡ column_relation (record { slots = numbers_from 0 system.columns; d = pos 1; table = table }) t
  width_is t = ap (λ n. relation_of (numbers_from 0 system.columns) (pos 1) (row_at (n + 1) table t)) (sym count)

  unit_held : IsHeld system (numbers_from 0 system.columns) (record { slots = numbers_from 0 system.columns; d = pos 1; table = table })
  unit_held =
      let b = columns_basis system in
      record {
        basis = record {
          free = columns_free system;
          positive = b.positive;
          columns = λ t lt. subst (IsRelationOf system (column_set system) t) (itself_is t lt ∙ width_is t) (b.columns t lt);
          denominator = λ t lt. refl;
        };
        count = count;
        distinct = numbers_distinct 0 system.columns;
        same = λ m. ((λ h. h), (λ h. h));
        size = size ∙ ap (λ n. system.columns * (n + 1)) (sym count);
      }

  pub units_held : (most : ℕ) → 1 ≤ most → IsSmallHeld system (numbers_from 0 system.columns) (record { slots = numbers_from 0 system.columns; d = pos 1; table = table }) most
  units_held most some = record {
    held = unit_held;
    within = subst (λ n. TableWithin (n + 1) n most table) (sym count) (λ t lt s less. subst (λ z. unsigned_abs z ≤ most) (sym (unit t lt s less)) (small (s == t)));
    d_within = some;
  }
    where
      small : (b : Bool) → unsigned_abs (if b then pos 1 else pos 0) ≤ most
      small true = some
      small false = omega arith

pub unit_basis_held : (system : LinearSystem) (b : BasisState) (most columns : ℕ) → IsUnitBasis columns b → system.columns ≡ columns → 1 ≤ most
    → IsSmallHeld system (numbers_from 0 system.columns) b most
unit_basis_held system b most columns unit same some = subst (λ x. IsSmallHeld system (numbers_from 0 system.columns) x most) (sym is)
    (units_held system b.table (subst (λ n. length b.table ≡ n * (n + 1)) (sym same) unit.size) (subst (λ n. IsUnitTable (n + 1) n b.table) (sym same) unit.unit) most some)
  where
    is : b ≡ record { slots = numbers_from 0 system.columns; d = pos 1; table = b.table }
    is = λ e. record { slots = (unit.slots ∙ ap (numbers_from 0) (sym same)) e; d = unit.d e; table = b.table }
