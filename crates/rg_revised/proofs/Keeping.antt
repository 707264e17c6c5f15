-- What the slots and the table hold stays held, and the relation of a row is read off them.
use Rattle.std.proofs.Common.{◌≡◌, ◌≢◌, ◌⊎◌, ⊎_elim, ℕ, ◌+◌, ◌*◌, ◌<◌, ◌≤◌, ◌==◌, suc, Bool, true, false, if◌then◌else◌, List, [], ◌∷◌, length, get_or, Contains, ap, subst, sym, ◌∙◌, inl, inr, arith}
use Rattle.std.proofs.Math.ListN.{set, length-set}
use Rattle.std.proofs.Math.IntN.{*ℤ-zero, zero-*ℤ}
use Rattle.std.proofs.lemmas.Int.{ints}
use Rattle.std.proofs.lemmas.List.{get_or_default}
use Rattle.std.specs.Prelude.{ℤ, pos, ◌+ℤ◌, ◌*ℤ◌, ◌<ℤ◌, unsigned_abs}
use Rattle.rg_integers.specs.Sum.{number_at, sum_below, only}
use Rattle.rg_integers.specs.Sign.{size}
use Rattle.rg_integers.proofs.Ring.{mul_left_comm}
use Rattle.rg_integers.proofs.Signs.{sign-times}
use Rattle.rg_integers.proofs.Order.{mul-cancel_left, positive_differs}
use Rattle.rg_integers.proofs.Sums.{sum_below-same, sum_below-zero}
use Rattle.rg_linear.specs.System.{LinearSystem, variables, row_variable, entry}
use Rattle.rg_linear.specs.Dictionary.{Relation, IsFree}
use Rattle.rg_linear.specs.Table.{number_beside, row_at}
use Rattle.rg_linear.specs.Exchange.{exchanged, renewed}
use Rattle.rg_linear.proofs.Members.{is_member, Contains-exchanged_new, Contains-exchanged_old, exchanged-Contains}
use Rattle.rg_linear.proofs.Unique.{sum_at, sum_one}
use Rattle.rg_linear.proofs.MemberIndices.{member_at}
use Rattle.rg_linear.proofs.TableRows.{length-row}
use Rattle.rg_revised.specs.Basis.{IsRelationOf, row_over, IsMultiple, IsWithin}
use Rattle.rg_revised.specs.Rows.{RowWithin}
use Rattle.rg_revised.specs.View.{BasisState}
use Rattle.rg_revised.specs.Held.{relation_of, column_relation, IsHeld, IsPivot, AreRowNumbers}
use Rattle.rg_revised.proofs.Relations.{member_has_no_constant}
use Rattle.rg_revised.proofs.RowRelations.{row_follows}
use Rattle.rg_revised.proofs.Renewing.{basis_renewed}
use Rattle.rg_linear.proofs.TableLemmas.{beside_none}
use Rattle.rg_revised.proofs.Slots.{beside_at, set_Contains, Contains-set_new, Contains-set_old, distinct-set}
use Rattle.rg_revised.proofs.Held.{RowMultiplied, row_is_multiple}

-- a table whose rows are those after an exchange, times a factor
pub record TableMultiplied (b : BasisState) (table' pivot : List ℤ) (p : ℕ) (negative : Bool) (over factor d' : ℤ) (columns : ℕ) : Type 0 where
  pub positive : pos 0 <ℤ factor
  pub denominator : b.d *ℤ number_at pivot p ≡ factor *ℤ d'
  pub same_length : length table' ≡ length b.table
  pub rows : (t : ℕ) → t < columns → RowMultiplied pivot (row_at (length b.slots + 1) b.table t) (row_at (length b.slots + 1) table' t) p negative over factor

pub pivot_size : (numbers pivot : List ℤ) (p : ℕ) (negative : Bool) → IsPivot numbers pivot p negative → p < length numbers → number_at pivot p ≡ size (number_at numbers p)
pivot_size numbers pivot p negative signed lt = signed.numbers_are p lt ∙ sign-times (number_at numbers p)

pub held_exchanged : (system : LinearSystem) (members : List ℕ) (b : BasisState) (table' numbers pivot : List ℤ) (p i : ℕ) (negative : Bool) (over f d' : ℤ)
    → IsHeld system members b → i < variables system → ¬ Contains members i → IsRelationOf system members i (relation_of b.slots over numbers) → length numbers ≡ length b.slots + 1
    → p < length b.slots → number_at numbers p ≢ pos 0 → IsPivot numbers pivot p negative → TableMultiplied b table' pivot p negative over f d' system.columns
    → IsHeld system (exchanged members i (get_or b.slots p 0)) (record { slots = set b.slots p i; d = d'; table = table' })
held_exchanged system members b table' numbers pivot p i negative over f d' held variable outside is width inside named signed r = record {
  basis = basis_renewed system members b.d (column_relation b) i (get_or b.slots p 0)
      (relation_of b.slots over numbers) held.basis variable outside is member (λ e. named (sym kj_is ∙ e)) f d' r.positive
      (ap (λ z. b.d *ℤ size z) kj_is ∙ ap (λ z. b.d *ℤ z) (sym (pivot_size numbers pivot p negative signed (omega arith))) ∙ r.denominator)
      (column_relation (record { slots = set b.slots p i; d = d'; table = table' })) multiple;
  count = count' ∙ held.count;
  distinct = distinct-set b.slots p i held.distinct inside lacks;
  same = λ m. (
    (λ has. ⊎_elim (λ e. subst (Contains (set b.slots p i)) e (Contains-set_new b.slots p i inside)) (λ old. Contains-set_old b.slots p i m ((held.same m).0 old.0) old.1)
        (exchanged-Contains i (get_or b.slots p 0) m members has)),
    (λ has. ⊎_elim (λ e. subst (Contains (exchanged members i (get_or b.slots p 0))) e (Contains-exchanged_new i (get_or b.slots p 0) members))
        (λ old. Contains-exchanged_old i (get_or b.slots p 0) m members ((held.same m).1 old.0) old.1) (set_Contains b.slots p i m held.distinct inside has)),
  );
  size = r.same_length ∙ held.size ∙ ap (λ n. system.columns * (n + 1)) (sym count');
}
  where
    count' : length (set b.slots p i) ≡ length b.slots
    count' = length-set b.slots p i

    lacks : ¬ Contains b.slots i
    lacks has = outside ((held.same i).1 has)

    member : Contains members (get_or b.slots p 0)
    member = (held.same (get_or b.slots p 0)).1 (member_at b.slots p inside)

    kj_is : number_beside b.slots numbers (get_or b.slots p 0) ≡ number_at numbers p
    kj_is = beside_at b.slots numbers p held.distinct inside (omega arith)

    multiple : (t : ℕ) → t < system.columns → IsMultiple f (renewed (relation_of b.slots over numbers) i (get_or b.slots p 0) (column_relation b t))
        (column_relation (record { slots = set b.slots p i; d = d'; table = table' }) t)
    multiple t lt = subst
        (λ n. IsMultiple f (renewed (relation_of b.slots over numbers) i (get_or b.slots p 0) (column_relation b t)) (relation_of (set b.slots p i) d' (row_at (n + 1) table' t))) (sym count')
        (row_is_multiple b.slots b.d over f numbers pivot p i negative held.distinct inside lacks width signed (row_at (length b.slots + 1) b.table t) (row_at (length b.slots + 1) table' t)
        (length-row (length b.slots + 1) b.table system.columns t held.size lt) (r.rows t lt) d' r.denominator)

-- ---- small numbers

beside_within : (most : ℕ) (slots : List ℕ) (numbers : List ℤ) (m : ℕ) → RowWithin most numbers → unsigned_abs (number_beside slots numbers m) ≤ most
beside_within most [] numbers m all = omega arith
beside_within most (x ∷ slots) [] m all = omega arith
beside_within most (x ∷ slots) (z ∷ numbers) m all = go (x == m) (beside_within most slots numbers m (λ n lt. all (suc n) (longer n lt)))
  where
    longer : (n : ℕ) → n < length numbers → suc n < length (z ∷ numbers)
    longer n h = omega arith

    go : (b : Bool) → unsigned_abs (number_beside slots numbers m) ≤ most → unsigned_abs (if b then z else number_beside slots numbers m) ≤ most
    go true ih = all 0 (omega arith)
    go false ih = ih

pub relation_within : (most : ℕ) (slots : List ℕ) (d : ℤ) (numbers : List ℤ) → unsigned_abs d ≤ most → RowWithin most numbers → length slots < length numbers
    → IsWithin most (relation_of slots d numbers)
relation_within most slots d numbers small all inside = record { d = small; constant = all (length slots) inside; coefficients = λ m. beside_within most slots numbers m all }

-- ---- the relation of a row

module _ (system : LinearSystem) (members : List ℕ) (b : BasisState) (held : IsHeld system members b) where
  width_of : (t : ℕ) → t < system.columns → length (row_at (length b.slots + 1) b.table t) ≡ length b.slots + 1
  width_of t lt = length-row (length b.slots + 1) b.table system.columns t held.size lt

  module _ (i : ℕ) (numbers : List ℤ) (are : AreRowNumbers system b i numbers) where
    coefficient_same : (m : ℕ) → number_beside b.slots numbers m ≡ sum_below system.columns (λ t. entry system i t *ℤ number_beside b.slots (row_at (length b.slots + 1) b.table t) m)
    coefficient_same m = go (is_member b.slots m)
      where
        go : Contains b.slots m ⊎ ¬ Contains b.slots m
            → number_beside b.slots numbers m ≡ sum_below system.columns (λ t. entry system i t *ℤ number_beside b.slots (row_at (length b.slots + 1) b.table t) m)
        go (inl (q, lt, at)) =
            let is : get_or b.slots q 0 ≡ m = get_or_default b.slots q 0 m lt ∙ at in
            subst (λ x. number_beside b.slots numbers x ≡ sum_below system.columns (λ t. entry system i t *ℤ number_beside b.slots (row_at (length b.slots + 1) b.table t) x)) is
            (beside_at b.slots numbers q held.distinct lt (let e = are.same_length in omega arith)
            ∙ are.coefficients q (omega arith)
            ∙ sum_below-same system.columns _ _
            (λ t below. ap (λ z. entry system i t *ℤ z) (sym (beside_at b.slots (row_at (length b.slots + 1) b.table t) q held.distinct lt (let e = width_of t below in omega arith)))))
        go (inr lacks) = beside_none b.slots numbers m lacks
            ∙ sym (sum_below-zero system.columns _ (λ t below. ap (λ z. entry system i t *ℤ z) (beside_none b.slots (row_at (length b.slots + 1) b.table t) m lacks) ∙ *ℤ-zero (entry system i t)))

    pub row_numbers_are : relation_of b.slots b.d numbers ≡ row_over system b.d (column_relation b) i
    row_numbers_are = λ e. record { d = b.d; constant = are.constant e; coefficient = λ m. coefficient_same m e }

    pub row_numbers_relation : i < length system.rows → IsRelationOf system members (row_variable system i) (relation_of b.slots b.d numbers)
    row_numbers_relation lt = subst (IsRelationOf system members (row_variable system i)) (sym row_numbers_are) (row_follows system members b.d (column_relation b) held.basis i lt)

-- ---- a column that is a member

member_names_itself : (system : LinearSystem) (members : List ℕ) (t : ℕ) (k : Relation) → IsFree system members → Contains members t → IsRelationOf system members t k → (m : ℕ)
    → m < variables system → k.coefficient m ≡ k.d *ℤ only m (pos 1) t
member_names_itself system members t k free member is m lt =
    let p = free.takes (only m (pos 1)) (pos 1) (omega (arith, ints)) in
    let h = is.holds (p.times *ℤ pos 1) p.v p.point in
    let none = member_has_no_constant system members t k free member is in
    let value = p.values t member in
    let sum = sum_at system members k (only m (pos 1)) (pos 1) p is.over (variables system) ∙ ap (λ z. p.times *ℤ z) (sum_one (variables system) m k.coefficient lt) in
    mul-cancel_left p.times _ _ (positive_differs p.times p.positive) (finish p.times k.d (only m (pos 1) t) k.constant (k.coefficient m) (p.v t) _ h none value sum)
  where
    finish : (s d o c z x total : ℤ) → d *ℤ x ≡ (c *ℤ (s *ℤ pos 1)) +ℤ total → c ≡ pos 0 → x ≡ s *ℤ o → total ≡ s *ℤ z → s *ℤ z ≡ s *ℤ (d *ℤ o)
    finish s d o c z x total h e f g =
        let a : d *ℤ (s *ℤ o) ≡ (pos 0 *ℤ (s *ℤ pos 1)) +ℤ (s *ℤ z) = subst (λ y. d *ℤ y ≡ (pos 0 *ℤ (s *ℤ pos 1)) +ℤ (s *ℤ z)) f
        (subst (λ y. d *ℤ x ≡ (y *ℤ (s *ℤ pos 1)) +ℤ (s *ℤ z)) e (subst (λ y. d *ℤ x ≡ (c *ℤ (s *ℤ pos 1)) +ℤ y) g h)) in
        let b = mul_left_comm d s o in
        let n = zero-*ℤ (s *ℤ pos 1) in
        omega (arith, ints)

module _ (system : LinearSystem) (members : List ℕ) (b : BasisState) (held : IsHeld system members b) (t : ℕ) (below : t < system.columns) (here : get_or b.slots t 0 ≡ t) where
  t_inside : t < length b.slots
  t_inside = let e = held.count in omega arith

  t_member : Contains members t
  t_member = subst (Contains members) here ((held.same (get_or b.slots t 0)).1 (member_at b.slots t t_inside))

  -- the row of a column that is a member has d at its index, and 0 elsewhere
  pub own_number : (s : ℕ) → s < length b.slots → number_at (row_at (length b.slots + 1) b.table t) s ≡ b.d *ℤ only (get_or b.slots s 0) (pos 1) t
  own_number s lt =
      sym (beside_at b.slots (row_at (length b.slots + 1) b.table t) s held.distinct lt (let e = length-row (length b.slots + 1) b.table system.columns t held.size below in omega arith))
      ∙ member_names_itself system members t (column_relation b t) held.basis.free t_member (held.basis.columns t below) (get_or b.slots s 0)
      (held.basis.free.within (get_or b.slots s 0) ((held.same (get_or b.slots s 0)).1 (member_at b.slots s lt)))

  pub own_constant : number_at (row_at (length b.slots + 1) b.table t) (length b.slots) ≡ pos 0
  own_constant = member_has_no_constant system members t (column_relation b t) held.basis.free t_member (held.basis.columns t below)
