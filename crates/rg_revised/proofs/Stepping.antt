-- What the numbers of a row's relation say of a step.
use Rattle.std.proofs.Common.{◌≡◌, ◌≢◌, ◌⊎◌, ⊎_elim, ℕ, zero, suc, ◌+◌, ◌*◌, ◌-◌, ◌^◌, ◌<◌, ◌≤◌, ◌==◌, if◌then◌else◌, Bool, List, [], ◌∷◌, reverse, length, get_or, Contains, ap, refl, subst, sym, ◌∙◌, inl, inr, arith}
use Rattle.std.specs.Prelude.{ℤ, pos, ◌+ℤ◌, ◌*ℤ◌, ◌<ℤ◌, slice_index, unsigned_abs}
use Rattle.std.proofs.lemmas.Int.{ints}
use Rattle.std.proofs.lemmas.List.{get_or_default}
use Rattle.std.proofs.Math.IntN.{*ℤ-zero}
use Rattle.rg_integers.specs.Sum.{number_at, sum_below, only}
use Rattle.rg_integers.proofs.Order.{is_zero_or_not}
use Rattle.rg_linear.specs.System.{LinearSystem, row_variable, row_at as row_of, entry}
use Rattle.rg_linear.specs.Table.{number_beside, row_at}
use Rattle.rg_linear.specs.Exchange.{AllFit}
use Rattle.rg_linear.specs.Descent.{IsStuck, Chooses}
use Rattle.rg_linear.specs.Stack.{fixed_of}
use Rattle.rg_linear.specs.Norm.{row_norm}
use Rattle.rg_linear.proofs.Members.{equal_or_not, differs, same}
use Rattle.rg_linear.proofs.Fixed.{fixed_row, row_fixed}
use Rattle.rg_linear.proofs.MemberIndices.{member_at}
use Rattle.rg_linear.proofs.TableRows.{length-row}
use Rattle.rg_revised.specs.Basis.{IsRelationOf, AreWithin, HasNorms}
use Rattle.rg_revised.specs.Rows.{RowWithin}
use Rattle.rg_revised.specs.Held.{AreDistinct, relation_of, column_relation, IsHeld, AreRowNumbers}
use Rattle.rg_revised.specs.Long.{IsSummable}
use Rattle.rg_revised.specs.Reading.{IsSmallRow, IsOwnRow, column_sum, IsRead, IsVacant}
use Rattle.rg_revised.specs.View.{BasisState}
use Rattle.rg_revised.specs.State.{IsSmallHeld, HasRoom, HasRoomIn, IsRow, CanRead}
use Rattle.rg_revised.proofs.Relations.{failing_is_outside, row_stuck, row_chooses}
use Rattle.rg_revised.proofs.Small.{small_is_not_wide, pivot_fits}
use Rattle.rg_revised.proofs.Slots.{beside_at}
use Rattle.rg_revised.proofs.Keeping.{relation_within, row_numbers_relation, own_number, own_constant}
use Rattle.rg_revised.proofs.ColumnSums.{read_small}

-- ---- distinct slots

same_index : (slots : List ℕ) (s t : ℕ) → AreDistinct slots → s < length slots → t < length slots → get_or slots s 0 ≡ get_or slots t 0 → s ≡ t
same_index [] s t d ls lt e = absurd (omega arith)
same_index (x ∷ slots) zero zero d ls lt e = refl
same_index (x ∷ slots) zero (suc t) d ls lt e = absurd (d.0 (subst (Contains slots) (sym e) (member_at slots t (shorter lt))))
  where
    shorter : suc t < length (x ∷ slots) → t < length slots
    shorter h = omega arith
same_index (x ∷ slots) (suc s) zero d ls lt e = absurd (d.0 (subst (Contains slots) e (member_at slots s (shorter ls))))
  where
    shorter : suc s < length (x ∷ slots) → s < length slots
    shorter h = omega arith
same_index (x ∷ slots) (suc s) (suc t) d ls lt e = ap suc (same_index slots s t d.1 (omega arith) (omega arith) e)

pub read_each : (b : BasisState) (coeffs : List ℤ) (constant : ℤ) → CanRead b coeffs constant → length coeffs ≡ length b.slots
read_each b coeffs constant r = r.row.each ∙ sym r.small.held.count

module _ (system : LinearSystem) (members : List ℕ) (b : BasisState) (most : ℕ) (small : IsSmallHeld system members b most) where
  -- the row of a column that is a member
  pub own_rows : (t : ℕ) → t < length b.slots → IsOwnRow b.slots b.d t (row_at (length b.slots + 1) b.table t)
  own_rows t lt here s less = at (equal_or_not s (length b.slots)) (equal_or_not s t)
    where
      below : t < system.columns
      below = let e = small.held.count in omega arith

      width : length (row_at (length b.slots + 1) b.table t) ≡ length b.slots + 1
      width = length-row (length b.slots + 1) b.table system.columns t small.held.size below

      one : (z : ℤ) → z *ℤ pos 1 ≡ z
      one z = omega (arith, ints)

      at_index : s ≡ t → number_at (row_at (length b.slots + 1) b.table t) s ≡ b.d *ℤ only (get_or b.slots s 0) (pos 1) t
          → number_at (row_at (length b.slots + 1) b.table t) s ≡ (if s == t then b.d else pos 0)
      at_index e h = h ∙ ap (λ x. b.d *ℤ (if x then pos 1 else pos 0)) (ap (λ m. t == m) (ap (λ n. get_or b.slots n 0) e ∙ here) ∙ same t) ∙ one b.d
          ∙ sym (ap (λ m. if m == t then b.d else pos 0) e ∙ ap (λ x. if x then b.d else pos 0) (same t))

      off_index : s ≢ t → s < length b.slots → number_at (row_at (length b.slots + 1) b.table t) s ≡ b.d *ℤ only (get_or b.slots s 0) (pos 1) t
          → number_at (row_at (length b.slots + 1) b.table t) s ≡ (if s == t then b.d else pos 0)
      off_index ne inside h = h ∙ ap (λ x. b.d *ℤ (if x then pos 1 else pos 0)) (differs t (get_or b.slots s 0) (λ e. ne (same_index b.slots s t small.held.distinct inside lt (sym (here ∙ e)))))
          ∙ *ℤ-zero b.d ∙ sym (ap (λ x. if x then b.d else pos 0) (differs s t ne))

      at : (s ≡ length b.slots) ⊎ (s ≢ length b.slots) → (s ≡ t) ⊎ (s ≢ t) → number_at (row_at (length b.slots + 1) b.table t) s ≡ (if s == t then b.d else pos 0)
      at (inl e) (inl f) = absurd (omega arith)
      at (inl e) (inr ne) = ap (number_at (row_at (length b.slots + 1) b.table t)) e ∙ own_constant system members b small.held t below here
          ∙ sym (ap (λ x. if x then b.d else pos 0) (differs s t ne))
      at (inr last) (inl e) = at_index e (own_number system members b small.held t below here s (omega (arith, width)))
      at (inr last) (inr ne) = off_index ne (omega (arith, width)) (own_number system members b small.held t below here s (omega (arith, width)))

  columns_within : AreWithin system most (column_relation b)
  columns_within t below = relation_within most b.slots b.d (row_at (length b.slots + 1) b.table t) small.d_within (small.within t (let e = small.held.count in omega arith))
      (let w = length-row (length b.slots + 1) b.table system.columns t small.held.size below in omega arith)

  -- no term of an exchange is out of range
  pub step_fits : HasRoom system most → (v j : ℕ) → AllFit system members v j
  step_fits (norm, norms, some, fits) v j = small_is_not_wide system members b.d (column_relation b) v j small.held.basis
      (record { norm = norm; most = most; norms = norms; within = columns_within; d_within = small.d_within; room = fits })

  pub long_step_fits : (norm largest v j : ℕ) (over : ℤ) (numbers : List ℤ) → HasNorms system norm
      → IsRelationOf system members v (relation_of b.slots over numbers) → length numbers ≡ length b.slots + 1
      → unsigned_abs over ≤ largest → RowWithin largest numbers → ((norm + 1) * most) * largest < 2 ^ 126 → AllFit system members v j
  long_step_fits norm largest v j over numbers norms is width over_small all fits =
      pivot_fits system members b.d (column_relation b) norm most largest v j (relation_of b.slots over numbers) small.held.basis norms columns_within small.d_within is
      (relation_within largest b.slots over numbers over_small all (omega arith)) fits

  module _ (i : ℕ) (coeffs : List ℤ) (constant : ℤ) (row : IsRow system i coeffs constant) where
    each : length coeffs ≡ length b.slots
    each = row.each ∙ sym small.held.count

    norm_of : (norm : ℕ) → HasNorms system norm → row_norm coeffs constant ≤ norm
    norm_of norm norms = subst (λ c. row_norm coeffs c ≤ norm) row.constant_is (subst (λ cs. row_norm cs (row_of system i).constant ≤ norm) row.coeffs_are (norms i row.inside))

    pub small_row : HasRoom system most → (norm : ℕ) × IsSmallRow norm most coeffs constant
    small_row (norm, norms, some, fits) = (norm, (some, norm_of norm norms, fits))

    pub summable_row : (norm : ℕ) (long : Bool) → HasRoomIn system norm most long → IsSummable norm most coeffs constant
    summable_row norm long room = (norm_of norm room.norms, room.norm_fits, room.most_fits)

    module _ (numbers : List ℤ) (read : IsRead (length b.slots + 1) coeffs constant b.table b.d numbers) where
      pub numbers_small : HasRoom system most → RowWithin (2 ^ 63 - 1) numbers
      numbers_small room =
          let (norm, is) = small_row room in
          read_small (length b.slots + 1) (length b.slots) norm most coeffs constant b.table b.d numbers read is each
          (subst (λ n. length b.table ≡ n * (length b.slots + 1)) (sym small.held.count) small.held.size) small.within small.d_within

      are_numbers : AreRowNumbers system b i numbers
      are_numbers = record {
        same_length = read.same_length;
        coefficients = λ s less. read.coefficients s (omega arith) ∙ sums s;
        constant = read.constant_is (length b.slots) (omega arith) ∙ ap (λ z. z +ℤ (b.d *ℤ constant)) (sums (length b.slots))
            ∙ ap (λ z. sum_below system.columns (λ t. entry system i t *ℤ number_at (row_at (length b.slots + 1) b.table t) (length b.slots)) +ℤ (b.d *ℤ z)) (sym row.constant_is);
      }
        where
          sums : (s : ℕ) → column_sum (length b.slots + 1) coeffs b.table (length coeffs) s ≡ sum_below system.columns (λ t. entry system i t *ℤ number_at (row_at (length b.slots + 1) b.table t) s)
          sums s = ap (λ n. column_sum (length b.slots + 1) coeffs b.table n s) (each ∙ small.held.count) ∙ ap (λ cs. column_sum (length b.slots + 1) cs b.table system.columns s) (sym row.coeffs_are)

      pub relation : IsRelationOf system members (row_variable system i) (relation_of b.slots b.d numbers)
      relation = row_numbers_relation system members b small.held i numbers are_numbers row.inside

-- ---- a step with the numbers of a relation of the row, over any denominator

module _ (system : LinearSystem) (members : List ℕ) (b : BasisState) (held : IsHeld system members b) (i : ℕ) (over : ℤ) (numbers : List ℤ) (width : length numbers ≡ length b.slots + 1)
    (inside : i < length system.rows) (is_relation : IsRelationOf system members (row_variable system i) (relation_of b.slots over numbers)) (fails : number_at numbers (length b.slots) <ℤ pos 0) where
  pub step_outside : ¬ Contains members (row_variable system i)
  step_outside = failing_is_outside system members (row_variable system i) (relation_of b.slots over numbers) held.basis.free is_relation fails

  module _ (stack : List ℕ) where
    -- a member that isn't fixed and that the numbers name stands at an open slot
    vacant_slot : (m : ℕ) → Contains members m → ¬ Contains (fixed_of system (reverse stack)) m → number_beside b.slots numbers m ≢ pos 0 → (q : ℕ) × IsVacant (length b.slots) b.slots stack numbers q
        × (get_or b.slots q 0 ≡ m)
    vacant_slot m has loose named = at ((held.same m).0 has)
      where
        at : Contains b.slots m → (q : ℕ) × IsVacant (length b.slots) b.slots stack numbers q × (get_or b.slots q 0 ≡ m)
        at (q, inside, e) = (
          q,
          record {
            within = inside;
            not_fixed = λ s there f. loose (subst (Contains (fixed_of system (reverse stack))) (sym (sym is ∙ f ∙ ap (λ n. n + s) held.count)) (row_fixed system stack s there));
            named = λ z. named (ap (number_beside b.slots numbers) (sym is) ∙ beside_at b.slots numbers q held.distinct inside (omega arith) ∙ z);
          },
          is,
        )
          where
            is : get_or b.slots q 0 ≡ m
            is = get_or_default b.slots q 0 m inside ∙ e

    pub step_stuck : ((q : ℕ) → ¬ IsVacant (length b.slots) b.slots stack numbers q) → IsStuck system members (fixed_of system (reverse stack)) i
    step_stuck none = row_stuck system members i (relation_of b.slots over numbers) held.basis.free inside is_relation (fixed_of system (reverse stack)) fails
        (λ m has loose. ⊎_elim (λ z. z) (λ ne. (let (q, is, e) = vacant_slot m has loose ne in absurd (none q is))) (is_zero_or_not (number_beside b.slots numbers m)))

    module _ (p : ℕ) (is : IsVacant (length b.slots) b.slots stack numbers p) where
      pub step_chooses : ((q : ℕ) → IsVacant (length b.slots) b.slots stack numbers q → slice_index b.slots p ≤ slice_index b.slots q)
          → Chooses system members (fixed_of system (reverse stack)) i (get_or b.slots p 0)
      step_chooses least = row_chooses system members i (relation_of b.slots over numbers) held.basis.free inside is_relation (fixed_of system (reverse stack)) fails (get_or b.slots p 0)
          ((held.same (get_or b.slots p 0)).1 (member_at b.slots p is.within))
          (λ has. (let (s, there, e) = fixed_row system stack (get_or b.slots p 0) has in is.not_fixed s there (e ∙ ap (λ n. n + s) (sym held.count))))
          (λ z. is.named (sym (beside_at b.slots numbers p held.distinct is.within (omega arith)) ∙ z))
          (λ m has loose less. ⊎_elim (λ z. z) (λ ne. (let (q, vacant_q, e) = vacant_slot m has loose ne in let le = least q vacant_q in absurd (late q m e le less)))
          (is_zero_or_not (number_beside b.slots numbers m)))
        where
          late : (q m : ℕ) → get_or b.slots q 0 ≡ m → get_or b.slots p 0 ≤ get_or b.slots q 0 → m < get_or b.slots p 0 → ⊥
          late q m e le less = omega arith
