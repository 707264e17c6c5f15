-- The multipliers of a refuted descent show that no point meets the rows.
use Rattle.std.proofs.Common.{◌≡◌, ◌≢◌, ◌⊎◌, ⊎_elim, ℕ, suc, ◌<◌, ◌≤◌, ◌==◌, if◌then◌else◌, List, [], ◌∷◌, Contains, length, ap, ap₂, refl, subst, sym, ◌∙◌, inl, inr, arith}
use Rattle.std.specs.Prelude.{ℤ, pos, negsuc, neg_ℤ, ◌+ℤ◌, ◌*ℤ◌, ◌≤ℤ◌, ◌<ℤ◌}
use Rattle.std.proofs.lemmas.Int.{ints}
use Rattle.rg_linear.specs.System.{LinearSystem, variables, row_variable, row_at, entry, IsPoint, MeetsRows, AreFarkasMultipliers}
use Rattle.rg_integers.specs.Sum.{sum_below, only}
use Rattle.rg_linear.specs.Dictionary.{Relation, DictionaryRow, column_set}
use Rattle.rg_linear.specs.Exchange.{exchanged}
use Rattle.rg_linear.specs.Descent.{Outcome, Outcome.point, Outcome.refuted, Outcome.wide, IsStuck, DescentFrom, DescentFrom.after_last, DescentFrom.satisfied, DescentFrom.stuck, DescentFrom.passes, DescentFrom.stops_below, DescentFrom.goes_on, DescentFromStart, IsAtZero, multiplier_of}
use Rattle.rg_integers.proofs.Ring.{ring, mul-add, mul-neg, neg-mul, one-mul, mul-one}
use Rattle.std.proofs.Math.IntN.{zero-*ℤ, *ℤ-zero}
use Rattle.rg_integers.proofs.Order.{mul_positive, mul_not_negative, factor_negative, factor_positive}
use Rattle.rg_integers.proofs.Sums.{sum_below-same, sum_below-zero, sum_below-plus, sum_below-times, sum_below-only, sum_below-split, sum_below-swap, sum_below-not_negative}
use Rattle.rg_linear.proofs.Members.{is_member, equal_or_not, differs, same, Contains-cons_cases, Contains-here, Contains-there, Contains-nil}
use Rattle.rg_linear.proofs.Unique.{same_relation, sum_one}
use Rattle.rg_linear.proofs.Columns.{values_of, values_of-row, values_of-point, row_value}
use Rattle.rg_linear.proofs.Exchanging.{sum_with}
use Rattle.rg_linear.proofs.Points.{MetBelow, AllIn, one_more, fixed_stay, point_meets, constant_left, met_at_zero}

-- a point that shows why row i was fixed: it is 0 at what was fixed before, meets the rows before i, and fails row i
pub record Witness (system : LinearSystem) (z : ℕ) (fixed : List ℕ) : Type 0 where
  pub i : ℕ
  pub is : row_variable system i ≡ z
  pub within : i < length system.rows
  pub above : (y : ℕ) → Contains fixed y → z < y
  pub scale : ℤ
  pub v : ℕ → ℤ
  pub point : IsPoint system scale v
  pub zeros : (y : ℕ) → Contains fixed y → v y ≡ pos 0
  pub fails : v z <ℤ pos 0
  pub met : (m : ℕ) → m < i → pos 0 ≤ℤ v (row_variable system m)

-- each fixed row has its point
abbrev pub Witnessed : LinearSystem → List ℕ → Type 0
Witnessed system [] = Unit {0}
Witnessed system (z ∷ fixed) = Witness system z fixed × Witnessed system fixed

-- ---- the signs

-- a sum without one index
sum_less : (n z : ℕ) (k v : ℕ → ℤ) → z < n → sum_below n (λ m. k m *ℤ v m) ≡ (k z *ℤ v z) +ℤ sum_below n (λ m. (if m == z then pos 0 else k m) *ℤ v m)
sum_less n z k v lt =
    sum_below-same n _ (λ m. only z (k z *ℤ v z) m +ℤ (pos 1 *ℤ ((if m == z then pos 0 else k m) *ℤ v m))) (λ m h. at m (equal_or_not m z))
    ∙ sum_with n z (k z *ℤ v z) (pos 1) (λ m. (if m == z then pos 0 else k m) *ℤ v m) lt
    ∙ ap (λ x. (k z *ℤ v z) +ℤ x) (one-mul _)
  where
    first : (a y : ℤ) → a ≡ a +ℤ (pos 1 *ℤ (pos 0 *ℤ y))
    first a y = simp ring (omega (arith, ints))

    other : (a : ℤ) → a ≡ pos 0 +ℤ (pos 1 *ℤ a)
    other a = simp ring (omega (arith, ints))

    at : (m : ℕ) → (m ≡ z) ⊎ (m ≢ z) → k m *ℤ v m ≡ only z (k z *ℤ v z) m +ℤ (pos 1 *ℤ ((if m == z then pos 0 else k m) *ℤ v m))
    at m (inl e) = rw (e, same z) (first (k z *ℤ v z) (v z))
    at m (inr ne) = rw (differs m z ne) (other (k m *ℤ v m))

-- the rows below b are met
abbrev pub RowsMet : LinearSystem → ℕ → (ℕ → ℤ) → Type 0
RowsMet system b v = (m : ℕ) → m < b → pos 0 ≤ℤ v (row_variable system m)

-- coefficients of fixed rows alone, whose sum is positive wherever the rows below b are met, are negative
pub signs : (system : LinearSystem) (fixed : List ℕ) (k : ℕ → ℤ) (b : ℕ) → Witnessed system fixed → ((m : ℕ) → ¬ Contains fixed m → k m ≡ pos 0)
    → ((y : ℕ) → Contains fixed y → row_variable system b ≤ y)
    → ((scale : ℤ) (v : ℕ → ℤ) → IsPoint system scale v → RowsMet system b v → pos 0 <ℤ sum_below (variables system) (λ m. k m *ℤ v m)) → (y : ℕ) → Contains fixed y
    → k y <ℤ pos 0
signs system [] k b witnessed over above positive y has = absurd (Contains-nil y has)
signs system (z ∷ fixed) k b (w, witnessed) over above positive y has = ⊎_elim (λ e. subst (λ x. k x <ℤ pos 0) e first)
    (λ there. subst (λ x. x <ℤ pos 0) (kept y there)
    (signs system fixed (λ m. if m == z then pos 0 else k m) (suc w.i) witnessed over_others next_above still_positive y there)) (Contains-cons_cases z y fixed has)
  where
    b_below : row_variable system b ≤ row_variable system w.i → b ≤ w.i
    b_below h = omega arith

    bounded : b ≤ w.i
    bounded = b_below (subst (λ x. row_variable system b ≤ x) (sym w.is) (above z (Contains-here z fixed)))

    z_within : z < variables system
    z_within = subst (λ x. x < variables system) w.is (less w.within)
      where
        less : w.i < length system.rows → row_variable system w.i < variables system
        less h = omega arith

    lowered : (n i m : ℕ) → n ≤ i → m < n → m < i
    lowered n i m h g = omega arith

    total : pos 0 <ℤ sum_below (variables system) (λ m. k m *ℤ w.v m)
    total = positive w.scale w.v w.point (λ m lt. w.met m (lowered b w.i m bounded lt))

    alone : sum_below (variables system) (λ m. k m *ℤ w.v m) ≡ k z *ℤ w.v z
    alone = sum_below-only (variables system) z _ z_within (λ m lt ne. at m ne (is_member fixed m))
      where
        at : (m : ℕ) → m ≢ z → Contains fixed m ⊎ ¬ Contains fixed m → k m *ℤ w.v m ≡ pos 0
        at m ne (inl there) = ap (λ x. k m *ℤ x) (w.zeros m there) ∙ *ℤ-zero (k m)
        at m ne (inr absent) = ap (λ x. x *ℤ w.v m) (over m (λ h. ⊎_elim (λ e. ne (sym e)) absent (Contains-cons_cases z m fixed h))) ∙ zero-*ℤ (w.v m)

    first : k z <ℤ pos 0
    first = factor_negative (k z) (w.v z) w.fails (subst (λ x. pos 0 <ℤ x) alone total)

    others : ℕ → ℤ
    others m = if m == z then pos 0 else k m

    over_others : (m : ℕ) → ¬ Contains fixed m → (if m == z then pos 0 else k m) ≡ pos 0
    over_others m absent = at (equal_or_not m z)
      where
        at : (m ≡ z) ⊎ (m ≢ z) → (if m == z then pos 0 else k m) ≡ pos 0
        at (inl e) = rw (e, same z) refl
        at (inr ne) = rw (differs m z ne) (over m (λ h. ⊎_elim (λ e. ne (sym e)) absent (Contains-cons_cases z m fixed h)))

    kept : (y : ℕ) → Contains fixed y → (if y == z then pos 0 else k y) ≡ k y
    kept y there = rw (differs y z (λ e. (let lt = w.above y there in absurd (omega arith)))) refl

    next_above : (y : ℕ) → Contains fixed y → row_variable system (suc w.i) ≤ y
    next_above y there = step (w.above y there) w.is
      where
        step : z < y → row_variable system w.i ≡ z → row_variable system (suc w.i) ≤ y
        step h e = omega arith

    more : (a kz vz s : ℤ) → a ≡ (kz *ℤ vz) +ℤ s → pos 0 <ℤ a → kz <ℤ pos 0 → pos 0 ≤ℤ vz → pos 0 <ℤ s
    more a kz vz s e h g f =
        let turned : pos 0 ≤ℤ neg_ℤ kz = omega (arith, ints) in
        let product = mul_not_negative (neg_ℤ kz) vz turned f in
        let is = neg-mul kz vz in
        omega (arith, ints)

    still_positive : (scale : ℤ) (v : ℕ → ℤ) → IsPoint system scale v → RowsMet system (suc w.i) v → pos 0 <ℤ sum_below (variables system) (λ m. (if m == z then pos 0 else k m) *ℤ v m)
    still_positive scale v p met = more _ (k z) (v z) _ (sum_less (variables system) z k v z_within)
        (positive scale v p (λ m lt. met m (lowered b (suc w.i) m (up b w.i bounded) lt))) first (subst (λ x. pos 0 ≤ℤ v x) w.is (met w.i (here w.i)))
      where
        up : (a i : ℕ) → a ≤ i → a ≤ suc i
        up a i h = omega arith

        here : (i : ℕ) → i < suc i
        here i = omega arith

-- ---- what a refuted outcome knows

pub record IsRefutedAt (system : LinearSystem) (members : List ℕ) (i : ℕ) (fixed : List ℕ) : Type 0 where
  pub within : i < length system.rows
  pub stuck : IsStuck system members fixed i
  pub all : AllIn fixed members
  pub witnessed : Witnessed system fixed
  pub above : (y : ℕ) → Contains fixed y → row_variable system (suc i) ≤ y

abbrev pub RefutedWell : LinearSystem → Outcome → Type 0
RefutedWell system (point members) = Unit {0}
RefutedWell system (refuted members i fixed) = IsRefutedAt system members i fixed
RefutedWell system (wide w) = Unit {0}

-- the point of the set at which row i fails
witness_of : (system : LinearSystem) (members fixed : List ℕ) (i : ℕ) (k : Relation) → i < length system.rows → DictionaryRow system members (row_variable system i) k
    → k.constant <ℤ pos 0 → MetBelow system members i → AllIn fixed members → ((y : ℕ) → Contains fixed y → row_variable system (suc i) ≤ y)
    → Witness system (row_variable system i) fixed
witness_of system members fixed i k lt row negative met all above =
    let t = row.free.takes (λ m. pos 0) (pos 1) (omega (arith, ints)) in
    let zeros : IsAtZero members t.v = λ m has. t.values m has ∙ *ℤ-zero t.times in
    record {
      i = i;
      is = refl;
      within = lt;
      above = λ y has. (let h = above y has in omega arith);
      scale = t.times *ℤ pos 1;
      v = t.v;
      point = t.point;
      zeros = λ y has. zeros y (all y has);
      fails = below k.d (t.v (row_variable system i)) k.constant (t.times *ℤ pos 1) row.positive t.point.positive negative
          (constant_left system members (row_variable system i) k row (t.times *ℤ pos 1) t.v t.point zeros);
      met = λ m less. met_at_zero system members i met (t.times *ℤ pos 1) t.v t.point zeros m less;
    }
  where
    below : (d x c s : ℤ) → pos 0 <ℤ d → pos 0 <ℤ s → c <ℤ pos 0 → d *ℤ x ≡ c *ℤ s → x <ℤ pos 0
    below d x c s hd hs hc e =
        let a : pos 0 <ℤ neg_ℤ c = omega (arith, ints) in
        let b = mul_positive (neg_ℤ c) s a hs in
        let f = neg-mul c s in
        let g = mul-neg d x in
        let p : pos 0 <ℤ (d *ℤ neg_ℤ x) = omega (arith, ints) in
        let weak : pos 0 ≤ℤ d = omega (arith, ints) in
        let q = factor_positive d (neg_ℤ x) weak p in
        omega (arith, ints)

pub refuted_well : (system : LinearSystem) (members fixed : List ℕ) (r i : ℕ) (o : Outcome) → DescentFrom system members fixed r i o → r ≤ length system.rows
    → MetBelow system members i → AllIn fixed members → Witnessed system fixed → ((y : ℕ) → Contains fixed y → row_variable system r ≤ y) → RefutedWell system o
refuted_well system members fixed r i o (after_last le) within met all witnessed above = tt
refuted_well system members fixed r i o (satisfied lt p d) within met all witnessed above = refuted_well system members fixed r (suc i) o d within (one_more system members i met p) all witnessed above
refuted_well system members fixed r i o (stuck lt s) within met all witnessed above =
    record { within = omega arith; stuck = s; all = all; witnessed = witnessed; above = λ y has. (let h = above y has in omega arith) }
refuted_well system members fixed r i o (passes j w n t lt c f) within met all witnessed above = tt
refuted_well system members fixed r i o (stops_below j lt c fit d stop) within met all witnessed above =
    refuted_well system (exchanged members (row_variable system i) j) (row_variable system i ∷ fixed) i 0 o d (omega arith) (λ m less. absurd (omega arith)) (fixed_stay system members fixed i j c all)
    (witness_of system members fixed i c.k (omega arith) c.row c.negative met all (λ y has. (let h = above y has in omega arith)), witnessed)
    (λ y has. ⊎_elim (λ e. omega arith) (λ there. (let h = above y there in omega arith)) (Contains-cons_cases (row_variable system i) y fixed has))
refuted_well system members fixed r i o (goes_on j after lt c fit d rest) within met all witnessed above =
    let b = point_meets system (exchanged members (row_variable system i) j) (row_variable system i ∷ fixed) i 0 (point after) d
    (λ m less. absurd (omega arith)) (fixed_stay system members fixed i j c all) in
    refuted_well system after fixed r (suc i) o rest within
    (one_more system after i b.0 (inl (b.1 (row_variable system i) (Contains-here (row_variable system i) fixed))))
    (λ m has. b.1 m (Contains-there (row_variable system i) m fixed has)) witnessed above

-- ---- the multipliers

pub fixed_negative : (system : LinearSystem) (members fixed : List ℕ) (i : ℕ) (k : Relation) → IsRefutedAt system members i fixed
    → DictionaryRow system members (row_variable system i) k → k.constant <ℤ pos 0 → ((m : ℕ) → ¬ Contains fixed m → k.coefficient m ≡ pos 0) → (y : ℕ)
    → Contains fixed y → k.coefficient y <ℤ pos 0
fixed_negative system members fixed i k at row negative over = signs system fixed k.coefficient (suc i) at.witnessed over at.above positive
  where
    more : (d x c s total : ℤ) → d *ℤ x ≡ (c *ℤ s) +ℤ total → pos 0 <ℤ d → pos 0 ≤ℤ x → pos 0 <ℤ s → c <ℤ pos 0 → pos 0 <ℤ total
    more d x c s total e hd hx hs hc =
        let weak : pos 0 ≤ℤ d = omega (arith, ints) in
        let left = mul_not_negative d x weak hx in
        let a : pos 0 <ℤ neg_ℤ c = omega (arith, ints) in
        let b = mul_positive (neg_ℤ c) s a hs in
        let f = neg-mul c s in
        omega (arith, ints)

    here : (i : ℕ) → i < suc i
    here i = omega arith

    positive : (scale : ℤ) (v : ℕ → ℤ) → IsPoint system scale v → RowsMet system (suc i) v → pos 0 <ℤ sum_below (variables system) (λ m. k.coefficient m *ℤ v m)
    positive scale v p met = more k.d (v (row_variable system i)) k.constant scale _ (row.holds scale v p) row.positive (met i (here i)) p.positive negative

-- the relation of a refuted row names fixed variables alone
over_fixed : (system : LinearSystem) (members fixed : List ℕ) (i : ℕ) (k : Relation) → IsStuck system members fixed i
    → DictionaryRow system members (row_variable system i) k → (m : ℕ) → ¬ Contains fixed m → k.coefficient m ≡ pos 0
over_fixed system members fixed i k s row m free =
    ⊎_elim (λ has. subst (λ x. x.coefficient m ≡ pos 0) (same_relation system members (row_variable system i) s.k k s.row row) (s.none m has free))
    (λ lacks. row.over m lacks) (is_member members m)

stuck_negative : (system : LinearSystem) (members fixed : List ℕ) (i : ℕ) (k : Relation) → IsStuck system members fixed i → DictionaryRow system members (row_variable system i) k → k.constant <ℤ pos 0
stuck_negative system members fixed i k s row = subst (λ x. x.constant <ℤ pos 0) (same_relation system members (row_variable system i) s.k k s.row row) s.negative

module _ (system : LinearSystem) (members fixed : List ℕ) (i : ℕ) (k : Relation) (at : IsRefutedAt system members i fixed) (row : DictionaryRow system members (row_variable system i) k) where
  -- at every point the multiplied rows add up to the negative constant
  summed : (scale : ℤ) (v : ℕ → ℤ) → IsPoint system scale v → sum_below (length system.rows) (λ m. multiplier_of system k i m *ℤ v (row_variable system m)) ≡ k.constant *ℤ scale
  summed scale v p =
      sum_below-same (length system.rows) _ (λ m. only i (k.d *ℤ v (row_variable system i)) m
      +ℤ (negsuc 0 *ℤ (k.coefficient (row_variable system m) *ℤ v (row_variable system m)))) (λ m lt. piece m (equal_or_not m i))
      ∙ sum_with (length system.rows) i _ (negsuc 0) (λ m. k.coefficient (row_variable system m) *ℤ v (row_variable system m)) at.within
      ∙ finish _ _ _ _ _ (row.holds scale v p) (sum_below-split system.columns (length system.rows) (λ m. k.coefficient m *ℤ v m)) columns_none
    where
      first : (a z y : ℤ) → z ≡ pos 0 → a ≡ a +ℤ (negsuc 0 *ℤ (z *ℤ y))
      first a z y e = rw e (simp ring (omega (arith, ints)))

      other : (z y : ℤ) → neg_ℤ z *ℤ y ≡ pos 0 +ℤ (negsuc 0 *ℤ (z *ℤ y))
      other z y = let e = neg-mul z y in let f = minus (z *ℤ y) in omega (arith, ints)
        where
          minus : (x : ℤ) → negsuc 0 *ℤ x ≡ neg_ℤ x
          minus x = omega (arith, ints)

      piece : (m : ℕ) → (m ≡ i) ⊎ (m ≢ i) → multiplier_of system k i m *ℤ v (row_variable system m)
          ≡ only i (k.d *ℤ v (row_variable system i)) m +ℤ (negsuc 0 *ℤ (k.coefficient (row_variable system m) *ℤ v (row_variable system m)))
      piece m (inl e) = rw (e, same i) (first (k.d *ℤ v (row_variable system i)) (k.coefficient (row_variable system i)) (v (row_variable system i)) (row.over (row_variable system i) row.outside))
      piece m (inr ne) = rw (differs m i ne) (other (k.coefficient (row_variable system m)) (v (row_variable system m)))

      column_free : (j : ℕ) → j < system.columns → ¬ Contains fixed j
      column_free j lt has = (let h = at.above j has in absurd (omega arith))

      columns_none : sum_below system.columns (λ m. k.coefficient m *ℤ v m) ≡ pos 0
      columns_none = sum_below-zero system.columns _ (λ j lt. ap (λ z. z *ℤ v j) (over_fixed system members fixed i k at.stuck row j (column_free j lt)) ∙ zero-*ℤ (v j))

      finish : (dx cs all cols rows : ℤ) → dx ≡ cs +ℤ all → all ≡ cols +ℤ rows → cols ≡ pos 0 → dx +ℤ (negsuc 0 *ℤ rows) ≡ cs
      finish dx cs all cols rows e f g = let h = minus rows in omega (arith, ints)
        where
          minus : (x : ℤ) → negsuc 0 *ℤ x ≡ neg_ℤ x
          minus x = omega (arith, ints)

  -- the same where the columns have the values x
  summed_at : (x : ℕ → ℤ) → sum_below (length system.rows) (λ m. multiplier_of system k i m *ℤ row_value system (pos 1) x m) ≡ k.constant
  summed_at x = sum_below-same (length system.rows) _ _ (λ m lt. ap (λ z. multiplier_of system k i m *ℤ z) (sym (values_of-row system (pos 1) x m)))
      ∙ summed (pos 1) (values_of system (pos 1) x) (values_of-point system (pos 1) x (omega (arith, ints))) ∙ mul-one k.constant

  constants : sum_below (length system.rows) (λ m. multiplier_of system k i m *ℤ (row_at system m).constant) ≡ k.constant
  unfolding row_value
  constants = sum_below-same (length system.rows) _ _ (λ m lt. ap (λ z. multiplier_of system k i m *ℤ z) (alone m)) ∙ summed_at (λ j. pos 0)
    where
      plain : (s c : ℤ) → s ≡ pos 0 → c ≡ s +ℤ (c *ℤ pos 1)
      plain s c e = omega (arith, ints)

      alone : (m : ℕ) → (row_at system m).constant ≡ row_value system (pos 1) (λ j. pos 0) m
      alone m = plain _ _ (sum_below-zero system.columns _ (λ j lt. *ℤ-zero (entry system m j)))

  columns : (j : ℕ) → j < system.columns → sum_below (length system.rows) (λ m. multiplier_of system k i m *ℤ entry system m j) ≡ pos 0
  unfolding row_value
  columns j lt = difference _ _ _ (sym (sum_below-plus (length system.rows) (λ m. multiplier_of system k i m *ℤ entry system m j)
      (λ m. multiplier_of system k i m *ℤ (row_at system m).constant))
      ∙ sum_below-same (length system.rows) _ _ (λ m below. sym (mul-add (multiplier_of system k i m) (entry system m j) (row_at system m).constant)
      ∙ ap (λ z. multiplier_of system k i m *ℤ z) (one m)) ∙ summed_at (only j (pos 1))) constants
    where
      difference : (a b c : ℤ) → a +ℤ b ≡ c → b ≡ c → a ≡ pos 0
      difference a b c e f = omega (arith, ints)

      one : (m : ℕ) → entry system m j +ℤ (row_at system m).constant ≡ row_value system (pos 1) (only j (pos 1)) m
      one m = ap₂ ◌+ℤ◌ (sym (sum_one system.columns j (entry system m) lt)) (sym (mul-one (row_at system m).constant))

  pub multipliers_refute : AreFarkasMultipliers system (multiplier_of system k i)
  multipliers_refute = record {
    not_negative = λ m lt. sign_of m (equal_or_not m i) (is_member fixed (row_variable system m));
    cancels = columns;
    contradicts = subst (λ z. z <ℤ pos 0) (sym constants) (stuck_negative system members fixed i k at.stuck row);
  }
    where
      weak : (z : ℤ) → pos 0 <ℤ z → pos 0 ≤ℤ z
      weak z h = omega (arith, ints)

      turned : (z : ℤ) → z <ℤ pos 0 → pos 0 ≤ℤ neg_ℤ z
      turned z h = omega (arith, ints)

      zero_turned : (z : ℤ) → z ≡ pos 0 → pos 0 ≤ℤ neg_ℤ z
      zero_turned z e = omega (arith, ints)

      sign_of : (m : ℕ) → (m ≡ i) ⊎ (m ≢ i) → Contains fixed (row_variable system m) ⊎ ¬ Contains fixed (row_variable system m) → pos 0 ≤ℤ multiplier_of system k i m
      sign_of m (inl e) _ = rw (e, same i) (weak k.d row.positive)
      sign_of m (inr ne) (inl has) = rw (differs m i ne)
          (turned _ (fixed_negative system members fixed i k at row (stuck_negative system members fixed i k at.stuck row)
          (over_fixed system members fixed i k at.stuck row) _ has))
      sign_of m (inr ne) (inr free) = rw (differs m i ne) (zero_turned _ (over_fixed system members fixed i k at.stuck row _ free))

-- multipliers that refute leave no point
pub refutes_is_sound : (system : LinearSystem) (multiplier : ℕ → ℤ) → AreFarkasMultipliers system multiplier → (scale : ℤ) (v : ℕ → ℤ) → IsPoint system scale v → MeetsRows system v → ⊥
refutes_is_sound system multiplier r scale v p meets =
    let sum = sum_below-not_negative (length system.rows) (λ i. multiplier i *ℤ v (row_variable system i)) (λ i lt. mul_not_negative _ _ (r.not_negative i lt) (meets i lt)) in
    contradiction _ scale (whole sum) r.contradicts p.positive
  where
    columns_part : sum_below (length system.rows) (λ i. multiplier i *ℤ sum_below system.columns (λ j. entry system i j *ℤ v j)) ≡ pos 0
    columns_part =
        sum_below-same (length system.rows) _ _ (λ i lt. sym (sum_below-times system.columns (multiplier i) (λ j. entry system i j *ℤ v j)))
        ∙ sum_below-swap (length system.rows) system.columns (λ i j. multiplier i *ℤ (entry system i j *ℤ v j))
        ∙ sum_below-zero system.columns _ (λ j lt. sum_below-same (length system.rows) _ (λ i. v j *ℤ (multiplier i *ℤ entry system i j))
        (λ i below. regroup (multiplier i) (entry system i j) (v j)) ∙ sum_below-times (length system.rows) (v j) (λ i. multiplier i *ℤ entry system i j)
        ∙ ap (λ z. v j *ℤ z) (r.cancels j lt) ∙ *ℤ-zero (v j))
      where
        regroup : (a b c : ℤ) → a *ℤ (b *ℤ c) ≡ c *ℤ (a *ℤ b)
        regroup a b c = simp ring

    constants_part : sum_below (length system.rows) (λ i. multiplier i *ℤ ((row_at system i).constant *ℤ scale))
        ≡ scale *ℤ sum_below (length system.rows) (λ i. multiplier i *ℤ (row_at system i).constant)
    constants_part = sum_below-same (length system.rows) _ (λ i. scale *ℤ (multiplier i *ℤ (row_at system i).constant))
        (λ i lt. regroup (multiplier i) (row_at system i).constant scale) ∙ sum_below-times (length system.rows) scale (λ i. multiplier i *ℤ (row_at system i).constant)
      where
        regroup : (a b c : ℤ) → a *ℤ (b *ℤ c) ≡ c *ℤ (a *ℤ b)
        regroup a b c = simp ring

    parts : sum_below (length system.rows) (λ i. multiplier i *ℤ v (row_variable system i))
        ≡ sum_below (length system.rows) (λ i. multiplier i *ℤ sum_below system.columns (λ j. entry system i j *ℤ v j))
        +ℤ sum_below (length system.rows) (λ i. multiplier i *ℤ ((row_at system i).constant *ℤ scale))
    parts = sum_below-same (length system.rows) _ _ (λ i lt. ap (λ z. multiplier i *ℤ z) (p.rows i lt) ∙ mul-add (multiplier i) _ _) ∙ sum_below-plus (length system.rows) _ _

    whole : pos 0 ≤ℤ sum_below (length system.rows) (λ i. multiplier i *ℤ v (row_variable system i))
        → pos 0 ≤ℤ (scale *ℤ sum_below (length system.rows) (λ i. multiplier i *ℤ (row_at system i).constant))
    whole h = join _ _ _ _ h parts columns_part constants_part
      where
        join : (a b c d : ℤ) → pos 0 ≤ℤ a → a ≡ b +ℤ c → b ≡ pos 0 → c ≡ d → pos 0 ≤ℤ d
        join a b c d h e f g = omega (arith, ints)

    contradiction : (b s : ℤ) → pos 0 ≤ℤ (s *ℤ b) → b <ℤ pos 0 → pos 0 <ℤ s → ⊥
    contradiction b s h g hs =
        let t : pos 0 <ℤ neg_ℤ b = omega (arith, ints) in
        let q = mul_positive s (neg_ℤ b) hs t in
        let e = mul-neg s b in
        omega (arith, ints)

-- from the start
pub start_refuted : (system : LinearSystem) (members fixed : List ℕ) (i : ℕ) → DescentFromStart system (refuted members i fixed) → IsRefutedAt system members i fixed
start_refuted system members fixed i d = refuted_well system (column_set system) [] (length system.rows) 0 (refuted members i fixed) d (omega arith)
    (λ m lt. absurd (omega arith)) (λ m has. absurd (Contains-nil m has)) tt (λ y has. absurd (Contains-nil y has))

pub refuted_is_sound : (system : LinearSystem) (members fixed : List ℕ) (i : ℕ) (k : Relation) → DescentFromStart system (refuted members i fixed)
    → DictionaryRow system members (row_variable system i) k → AreFarkasMultipliers system (multiplier_of system k i)
refuted_is_sound system members fixed i k d row = multipliers_refute system members fixed i k (start_refuted system members fixed i d) row

pub multiplier_positive : (system : LinearSystem) (members fixed : List ℕ) (i : ℕ) (k : Relation) → DescentFromStart system (refuted members i fixed)
    → DictionaryRow system members (row_variable system i) k → (m : ℕ) → (m ≡ i) ⊎ Contains fixed (row_variable system m) → pos 0 <ℤ multiplier_of system k i m
multiplier_positive system members fixed i k d row m which = go which (equal_or_not m i)
  where
    at : IsRefutedAt system members i fixed
    at = start_refuted system members fixed i d

    turned : (z : ℤ) → z <ℤ pos 0 → pos 0 <ℤ neg_ℤ z
    turned z h = omega (arith, ints)

    go : (m ≡ i) ⊎ Contains fixed (row_variable system m) → (m ≡ i) ⊎ (m ≢ i) → pos 0 <ℤ multiplier_of system k i m
    go _ (inl e) = rw (e, same i) row.positive
    go (inl e) (inr ne) = absurd (ne e)
    go (inr has) (inr ne) = rw (differs m i ne)
        (turned _ (fixed_negative system members fixed i k at row (stuck_negative system members fixed i k at.stuck row)
        (over_fixed system members fixed i k at.stuck row) _ has))

pub multiplier_other : (system : LinearSystem) (members fixed : List ℕ) (i : ℕ) (k : Relation) → DescentFromStart system (refuted members i fixed)
    → DictionaryRow system members (row_variable system i) k → (m : ℕ) → m ≢ i → ¬ Contains fixed (row_variable system m) → multiplier_of system k i m ≡ pos 0
multiplier_other system members fixed i k d row m ne free =
    rw (differs m i ne, over_fixed system members fixed i k (start_refuted system members fixed i d).stuck row (row_variable system m) free) refl
