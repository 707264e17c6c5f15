-- The columns are free, and each row is its own relation over them.
use Rattle.std.proofs.Common.{◌≡◌, ◌⊎◌, ⊎_elim, ℕ, ◌+◌, ◌-◌, ◌<◌, ◌≤◌, true, false, nat_lt, if◌then◌else◌, length, ap, ap₂, refl, subst, sym, ◌∙◌, inl, inr, arith}
use Rattle.std.specs.Prelude.{ℤ, pos, ◌+ℤ◌, ◌*ℤ◌, ◌<ℤ◌}
use Rattle.std.proofs.lemmas.Int.{ints}
use Rattle.std.proofs.lemmas.Bool.{cases_lt}
use Rattle.std.proofs.lemmas.Bool.Decides.{nat_tests}
use Rattle.std.proofs.Math.Nat.{eq-one_of_dvd-one}
use Rattle.rg_linear.specs.System.{LinearSystem, variables, row_variable, row_at, entry, IsPoint}
use Rattle.rg_integers.specs.Sum.{sum_below}
use Rattle.rg_linear.specs.Dictionary.{IsFree, Holds, DictionaryRow, column_set, row_relation}
use Rattle.rg_integers.proofs.Ring.{ring, one-mul, mul-add, mul_left_comm}
use Rattle.rg_integers.proofs.Order.{mul_positive}
use Rattle.rg_integers.proofs.Sums.{sum_below-same, sum_below-zero, sum_below-times, sum_below-split}
use Rattle.rg_linear.proofs.Members.{Contains-numbers_from, numbers_from-Contains, numbers_from-ordered, length-numbers_from}

pub below_test : (m n : ℕ) → m < n → nat_lt m n ≡ true
below_test m n h = grind (arith, nat_tests)

pub past_test : (m n : ℕ) → n ≤ m → nat_lt m n ≡ false
past_test m n h = grind (arith, nat_tests)

-- the value of row i where the columns have the values x
unfoldable pub row_value : LinearSystem → ℤ → (ℕ → ℤ) → ℕ → ℤ
row_value system scale x i = sum_below system.columns (λ j. entry system i j *ℤ x j) +ℤ ((row_at system i).constant *ℤ scale)

-- the point at which the columns have the values x
unfoldable pub values_of : LinearSystem → ℤ → (ℕ → ℤ) → ℕ → ℤ
values_of system scale x w = if nat_lt w system.columns then x w else row_value system scale x (w - system.columns)

pub values_of-column : (system : LinearSystem) (scale : ℤ) (x : ℕ → ℤ) (w : ℕ) → w < system.columns → values_of system scale x w ≡ x w
unfolding values_of
values_of-column system scale x w lt = rw (below_test w system.columns lt) refl

pub values_of-row : (system : LinearSystem) (scale : ℤ) (x : ℕ → ℤ) (i : ℕ) → values_of system scale x (system.columns + i) ≡ row_value system scale x i
unfolding values_of
values_of-row system scale x i = rw (past_test (system.columns + i) system.columns (omega arith)) (ap (row_value system scale x) (off system.columns i))
  where
    off : (c i : ℕ) → c + i - c ≡ i
    off c i = omega arith

pub values_of-point : (system : LinearSystem) (scale : ℤ) (x : ℕ → ℤ) → pos 0 <ℤ scale → IsPoint system scale (values_of system scale x)
unfolding row_value
values_of-point system scale x h = record {
  positive = h;
  rows = λ i lt. values_of-row system scale x i
      ∙ ap (λ z. z +ℤ ((row_at system i).constant *ℤ scale))
      (sum_below-same system.columns _ _ (λ j below. ap (λ z. entry system i j *ℤ z) (sym (values_of-column system scale x j below))));
}

-- the columns that a variable names are below their number
column_or_row : (system : LinearSystem) (w : ℕ) → w < variables system → (w < system.columns) ⊎ ((i : ℕ) × (i < length system.rows) × (system.columns + i ≡ w))
column_or_row system w lt = ⊎_elim (λ below. inl below) (λ past. inr (w - system.columns, omega arith, omega arith)) (cases_lt w system.columns)

-- points that agree on the columns agree
pub columns_determine : (system : LinearSystem) (scale : ℤ) (v u : ℕ → ℤ) → IsPoint system scale v → IsPoint system scale u
    → ((j : ℕ) → j < system.columns → v j ≡ u j) → (w : ℕ) → w < variables system → v w ≡ u w
columns_determine system scale v u p q agree w lt = ⊎_elim (λ below. agree w below) (λ (i, li, e). subst (λ n. v n ≡ u n) e (row i li)) (column_or_row system w lt)
  where
    row : (i : ℕ) → i < length system.rows → v (system.columns + i) ≡ u (system.columns + i)
    row i li = p.rows i li ∙ ap (λ z. z +ℤ ((row_at system i).constant *ℤ scale)) (sum_below-same system.columns _ _ (λ j below. ap (λ z. entry system i j *ℤ z) (agree j below))) ∙ sym (q.rows i li)

pub columns_free : (system : LinearSystem) → IsFree system (column_set system)
columns_free system = record {
  ordered = numbers_from-ordered 0 system.columns;
  count = length-numbers_from 0 system.columns;
  within = λ m has. (let h = numbers_from-Contains 0 system.columns m has in omega arith);
  determines = λ scale v u p q agree w lt. columns_determine system scale v u p q (λ j below. agree j (Contains-numbers_from 0 system.columns j (omega arith) (omega arith))) w lt;
  takes = λ wanted scale h. record {
    times = pos 1;
    v = values_of system scale wanted;
    positive = omega (arith, ints);
    point = subst (λ z. IsPoint system z (values_of system scale wanted)) (sym (one-mul scale)) (values_of-point system scale wanted h);
    values = λ m has. values_of-column system scale wanted m (below m (numbers_from-Contains 0 system.columns m has)) ∙ sym (one-mul (wanted m));
  };
}
  where
    below : (m : ℕ) → (0 ≤ m) × (m < 0 + system.columns) → m < system.columns
    below m h = omega arith

row_relation-holds : (system : LinearSystem) (i : ℕ) → i < length system.rows → Holds system (row_variable system i) (row_relation system i)
row_relation-holds system i lt scale v p =
    one-mul (v (system.columns + i)) ∙ p.rows i lt ∙ turn _ _ _ (sums ∙ sym (sum_below-split system.columns (length system.rows) _))
  where
    turn : (a b c : ℤ) → a ≡ c → a +ℤ b ≡ b +ℤ c
    turn a b c e = omega (arith, ints)

    first : (j : ℕ) → j < system.columns → entry system i j *ℤ v j ≡ (row_relation system i).coefficient j *ℤ v j
    first j below = rw (below_test j system.columns below) refl

    last : sum_below (length system.rows) (λ m. (row_relation system i).coefficient (system.columns + m) *ℤ v (system.columns + m)) ≡ pos 0
    last = sum_below-zero (length system.rows) _ (λ m below. rw (past_test (system.columns + m) system.columns (omega arith)) (simp ring))

    sums : sum_below system.columns (λ j. entry system i j *ℤ v j)
        ≡ sum_below system.columns (λ m. (row_relation system i).coefficient m *ℤ v m)
        +ℤ sum_below (length system.rows) (λ m. (row_relation system i).coefficient (system.columns + m) *ℤ v (system.columns + m))
    sums = sum_below-same system.columns _ _ first ∙ join _ _ last
      where
        join : (a b : ℤ) → b ≡ pos 0 → a ≡ a +ℤ b
        join a b e = omega (arith, ints)

pub columns_row : (system : LinearSystem) (i : ℕ) → i < length system.rows → DictionaryRow system (column_set system) (row_variable system i) (row_relation system i)
columns_row system i lt = record {
  free = columns_free system;
  variable = omega arith;
  outside = λ has. (let h = numbers_from-Contains 0 system.columns _ has in omega arith);
  positive = omega (arith, ints);
  over = λ m lacks. ⊎_elim
      (λ below. absurd (lacks (Contains-numbers_from 0 system.columns m (omega arith) (omega arith))))
      (λ past. rw (past_test m system.columns past) refl)
      (cases_lt m system.columns);
  primitive = λ g d c each. eq-one_of_dvd-one d;
  holds = row_relation-holds system i lt;
}

-- the same point, over a multiple of the scale
pub scaled_point : (system : LinearSystem) (scale times : ℤ) (v : ℕ → ℤ) → pos 0 <ℤ times → IsPoint system scale v → IsPoint system (times *ℤ scale) (λ w. times *ℤ v w)
scaled_point system scale times v h p = record {
  positive = mul_positive times scale h p.positive;
  rows = λ i lt. ap (λ z. times *ℤ z) (p.rows i lt) ∙ mul-add times _ _
      ∙ ap₂ ◌+ℤ◌ (sym (sum_below-times system.columns times (λ j. entry system i j *ℤ v j))
      ∙ sum_below-same system.columns _ _ (λ j below. mul_left_comm times (entry system i j) (v j))) (mul_left_comm times (row_at system i).constant scale);
}
