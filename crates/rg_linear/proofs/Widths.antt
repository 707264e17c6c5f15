-- How large the numbers of relations grow, by the number of rows in the free set.
use Rattle.std.proofs.Common.{◌≡◌, ◌≢◌, ◌⊎◌, ⊎_elim, ℕ, zero, suc, ◌+◌, ◌-◌, ◌*◌, ◌^◌, ◌<◌, ◌≤◌, List, [], ◌∷◌, ◌++◌, map, Contains, length, Some, slice_get, ap, refl, subst, sym, ◌∙◌, inl, inr, arith, le_refl, le_trans}
use Rattle.std.specs.Prelude.{ℤ, pos, negsuc, neg_ℤ, ◌+ℤ◌, ◌-ℤ◌, ◌*ℤ◌, ◌<ℤ◌, unsigned_abs}
use Rattle.std.proofs.lemmas.Int.{ints}
use Rattle.std.proofs.lemmas.Bool.{cases_lt}
use Rattle.std.proofs.lemmas.Option.{same_Some, none-some}
use Rattle.std.proofs.Math.Nat.{mul-le-mul, mul-le-mul_left}
use Rattle.rg_linear.specs.System.{LinearSystem, variables, row_variable, row_at, entry, IsPoint}
use Rattle.rg_linear.specs.Dictionary.{Takes, Relation, DictionaryRow, column_set, row_relation, HasDictionary}
use Rattle.rg_integers.specs.declared.term.Wide.{Wide}
use Rattle.rg_integers.specs.Term.{term_value, FitsTerm}
use Rattle.rg_integers.specs.Range.{InRange}
use Rattle.rg_integers.specs.Sign.{sign, size}
use Rattle.rg_linear.specs.Exchange.{without, exchanged, terms, AllFit, renewed, turned, IsReduced}
use Rattle.rg_linear.specs.Descent.{Outcome, Outcome.point, DescentFrom, DescentFrom.after_last, DescentFrom.satisfied, DescentFrom.stuck, DescentFrom.passes, DescentFrom.stops_below, DescentFrom.goes_on, DescentFromStart, IsNotWide}
use Rattle.rg_linear.specs.Width.{IsNarrow}
use Rattle.rg_integers.proofs.Ring.{ring, mul_left_comm}
use Rattle.std.proofs.Math.IntN.{zero-*ℤ, *ℤ-zero}
use Rattle.rg_integers.proofs.Order.{is_zero_or_not, mul-cancel_left, positive_differs, mul_positive}
use Rattle.rg_integers.proofs.Signs.{abs-minus, abs-times, abs-neg, abs-signed, abs-factor}
use Rattle.rg_integers.proofs.Sums.{sum_below-zero}
use Rattle.rg_integers.specs.Sum.{only}
use Rattle.rg_linear.proofs.Members.{is_member, equal_or_not, differs, same, Contains-numbers_from, Contains-exchanged_new, Contains-exchanged_old, order_from_increasing}
use Rattle.rg_linear.proofs.Unique.{same_relation}
use Rattle.rg_linear.proofs.Columns.{columns_determine, scaled_point, columns_row, below_test, past_test}
use Rattle.rg_linear.proofs.Reducing.{reduce}
use Rattle.rg_linear.proofs.Exchanging.{turned_row, kept_row, renewed_row, renewed-positive, renewed-over}
use Rattle.rg_linear.proofs.Leaving.{turned_reduced}
use Rattle.rg_linear.proofs.Having.{columns_have, exchanged_has, none_past}
use Rattle.rg_linear.proofs.Total.{PointHas}
use Rattle.rg_linear.proofs.Counting.{rows_in, rows_in-exchanged, rows_in-le, row_in, filled, exchanged_back}

-- no number of the relation passes b
pub record Bounded (b : ℕ) (k : Relation) : Type 0 where
  pub d : unsigned_abs k.d ≤ b
  pub constant : unsigned_abs k.constant ≤ b
  pub coefficients : (m : ℕ) → unsigned_abs (k.coefficient m) ≤ b

-- no number of a relation over the set passes b
abbrev pub SetBounded : LinearSystem → ℕ → List ℕ → Type 0
SetBounded system b members = (w : ℕ) (k : Relation) → DictionaryRow system members w k → Bounded b k

-- ---- absolute values

abs-size : (x : ℤ) (a : ℕ) → unsigned_abs x ≤ a → unsigned_abs (size x) ≤ a
abs-size x a h = h

-- twice the square
abbrev pub squared : ℕ → ℕ
squared b = 2 * (b * b)

two-squares : (b : ℕ) → b * b + b * b ≤ squared b
two-squares b = omega arith

le-squared : (b : ℕ) → 1 ≤ b → b ≤ squared b
le-squared b h = let g = mul-le-mul h (le_refl b) in omega (arith, g)

square-le : (b : ℕ) → b * b ≤ squared b
square-le b = omega arith

raise : (b c x : ℕ) → b ≤ c → x ≤ b → x ≤ c
raise b c x h g = omega arith

Bounded-raised : (b c : ℕ) (k : Relation) → b ≤ c → Bounded b k → Bounded c k
Bounded-raised b c k h g = record { d = raise b c _ h g.d; constant = raise b c _ h g.constant; coefficients = λ m. raise b c _ h (g.coefficients m) }

Bounded-reduced : (b : ℕ) (raw l : Relation) → IsReduced raw l → Bounded b raw → Bounded b l
Bounded-reduced b raw l r g = record {
  d = abs-factor r.factor _ _ b r.positive r.d g.d;
  constant = abs-factor r.factor _ _ b r.positive r.constant g.constant;
  coefficients = λ m. abs-factor r.factor _ _ b r.positive (r.coefficients m) (g.coefficients m);
}

Bounded-turned : (b : ℕ) (k : Relation) (i j : ℕ) → Bounded b k → Bounded b (turned k i j)
Bounded-turned b k i j g = record {
  d = abs-size (k.coefficient j) b (g.coefficients j);
  constant = abs-neg _ b (abs-signed (k.coefficient j) _ b g.constant);
  coefficients = λ m. at m (equal_or_not m j) (equal_or_not m i);
}
  where
    zero_le : unsigned_abs (pos 0) ≤ b
    zero_le = omega arith

    at : (m : ℕ) → (m ≡ j) ⊎ (m ≢ j) → (m ≡ i) ⊎ (m ≢ i) → unsigned_abs ((turned k i j).coefficient m) ≤ b
    at m (inl e) _ = rw (e, same j) zero_le
    at m (inr ne) (inl e) = rw (differs m j ne, e, same i) (abs-signed (k.coefficient j) k.d b g.d)
    at m (inr ne) (inr ni) = rw (differs m j ne, differs m i ni) (abs-neg _ b (abs-signed (k.coefficient j) (k.coefficient m) b (g.coefficients m)))

Bounded-renewed : (b : ℕ) (k l : Relation) (i j : ℕ) → Bounded b k → Bounded b l → Bounded (squared b) (renewed k i j l)
Bounded-renewed b k l i j g h = record {
  d = raise _ _ _ (square-le b) (abs-times l.d (size (k.coefficient j)) b b h.d (abs-size (k.coefficient j) b (g.coefficients j)));
  constant = raise _ _ _ (two-squares b) (difference l.constant k.constant h.constant g.constant);
  coefficients = λ m. at m (equal_or_not m i);
}
  where
    difference : (x z : ℤ) → unsigned_abs x ≤ b → unsigned_abs z ≤ b → unsigned_abs ((x *ℤ size (k.coefficient j)) -ℤ ((sign (k.coefficient j) *ℤ z) *ℤ l.coefficient j)) ≤ b * b + b * b
    difference x z hx hz = abs-minus (x *ℤ size (k.coefficient j)) ((sign (k.coefficient j) *ℤ z) *ℤ l.coefficient j) (b * b) (b * b)
        (abs-times x (size (k.coefficient j)) b b hx (abs-size (k.coefficient j) b (g.coefficients j)))
        (abs-times (sign (k.coefficient j) *ℤ z) (l.coefficient j) b b (abs-signed (k.coefficient j) z b hz) (h.coefficients j))

    at : (m : ℕ) → (m ≡ i) ⊎ (m ≢ i) → unsigned_abs ((renewed k i j l).coefficient m) ≤ squared b
    at m (inl e) = rw (e, same i) (raise _ _ _ (square-le b) (abs-times (sign (k.coefficient j) *ℤ k.d) (l.coefficient j) b b (abs-signed (k.coefficient j) k.d b g.d) (h.coefficients j)))
    at m (inr ne) = rw (differs m i ne) (raise _ _ _ (two-squares b) (difference (l.coefficient m) (k.coefficient m) (h.coefficients m) (g.coefficients m)))

-- ---- the columns

pub SetBounded-columns : (system : LinearSystem) (b : ℕ) → 1 ≤ b
    → ((i j : ℕ) → i < length system.rows → j < system.columns → unsigned_abs (entry system i j) ≤ b)
    → ((i : ℕ) → i < length system.rows → unsigned_abs (row_at system i).constant ≤ b) → SetBounded system b (column_set system)
SetBounded-columns system b one entries constants w k row = at (cases_lt w system.columns)
  where
    own : (i : ℕ) → i < length system.rows → Bounded b (row_relation system i)
    own i lt = record {
      d = one;
      constant = constants i lt;
      coefficients = λ m. ⊎_elim (λ below. rw (below_test m system.columns below) (entries i m lt below)) (λ past. rw (past_test m system.columns past) (zero_le)) (cases_lt m system.columns);
    }
      where
        zero_le : unsigned_abs (pos 0) ≤ b
        zero_le = omega arith

    at : (w < system.columns) ⊎ (system.columns ≤ w) → Bounded b k
    at (inl below) = absurd (row.outside (Contains-numbers_from 0 system.columns w (omega arith) (omega arith)))
    at (inr past) =
        let i : ℕ = w - system.columns in
        let e : system.columns + i ≡ w = omega arith in
        let less = row.variable in
        let lt : i < length system.rows = omega arith in
        subst (Bounded b) (same_relation system (column_set system) w (row_relation system i) k
        (subst (λ x. DictionaryRow system (column_set system) x (row_relation system i)) e (columns_row system i lt)) row) (own i lt)

-- ---- a row in a free set has a column whose relation names it

pub record Names (system : LinearSystem) (members : List ℕ) (p : ℕ) : Type 0 where
  pub t : ℕ
  pub below : t < system.columns
  pub k : Relation
  pub row : DictionaryRow system members t k
  pub named : k.coefficient p ≢ pos 0

none_named : (system : LinearSystem) (members : List ℕ) (p : ℕ) → HasDictionary system members → Contains members p → system.columns ≤ p
    → ((t : ℕ) (k : Relation) → t < system.columns → DictionaryRow system members t k → k.coefficient p ≡ pos 0) → ⊥
none_named system members p has member past none = contradiction u.times v.times u.positive v.positive row_same
  where
    v : Takes system members (only p (pos 1)) (pos 1)
    v = has.free.takes (only p (pos 1)) (pos 1) (omega (arith, ints))

    u : Takes system members (λ m. pos 0) (pos 1)
    u = has.free.takes (λ m. pos 0) (pos 1) (omega (arith, ints))

    -- both over one scale
    v' : ℕ → ℤ
    v' w = u.times *ℤ v.v w

    u' : ℕ → ℤ
    u' w = v.times *ℤ u.v w

    pv : IsPoint system (u.times *ℤ (v.times *ℤ pos 1)) v'
    pv = scaled_point system (v.times *ℤ pos 1) u.times v.v u.positive v.point

    pu : IsPoint system (u.times *ℤ (v.times *ℤ pos 1)) u'
    pu = subst (λ s. IsPoint system s u') (mul_left_comm v.times u.times (pos 1)) (scaled_point system (u.times *ℤ pos 1) v.times u.v v.positive u.point)

    others_zero : (m : ℕ) → m ≢ p → Contains members m → v.v m ≡ pos 0
    others_zero m ne hm = v.values m hm ∙ ap (λ z. v.times *ℤ z) (rw (differs m p ne) refl) ∙ *ℤ-zero v.times

    u_zero : (m : ℕ) → Contains members m → u.v m ≡ pos 0
    u_zero m hm = u.values m hm ∙ *ℤ-zero u.times

    v_constant : (t : ℕ) (k : Relation) → t < system.columns → DictionaryRow system members t k → k.d *ℤ v.v t ≡ k.constant *ℤ (v.times *ℤ pos 1)
    v_constant t k lt row = row.holds _ v.v v.point ∙ drop _ _ (sum_below-zero (variables system) _ (λ m less. at m (equal_or_not m p) (is_member members m)))
      where
        drop : (a b : ℤ) → b ≡ pos 0 → a +ℤ b ≡ a
        drop a b e = omega (arith, ints)

        at : (m : ℕ) → (m ≡ p) ⊎ (m ≢ p) → Contains members m ⊎ ¬ Contains members m → k.coefficient m *ℤ v.v m ≡ pos 0
        at m (inl e) _ = ap (λ z. z *ℤ v.v m) (ap k.coefficient e ∙ none t k lt row) ∙ zero-*ℤ (v.v m)
        at m (inr ne) (inl hm) = ap (λ z. k.coefficient m *ℤ z) (others_zero m ne hm) ∙ *ℤ-zero (k.coefficient m)
        at m (inr ne) (inr lacks) = ap (λ z. z *ℤ v.v m) (row.over m lacks) ∙ zero-*ℤ (v.v m)

    u_constant : (t : ℕ) (k : Relation) → t < system.columns → DictionaryRow system members t k → k.d *ℤ u.v t ≡ k.constant *ℤ (u.times *ℤ pos 1)
    u_constant t k lt row = row.holds _ u.v u.point ∙ drop _ _ (sum_below-zero (variables system) _ (λ m less. at m (is_member members m)))
      where
        drop : (a b : ℤ) → b ≡ pos 0 → a +ℤ b ≡ a
        drop a b e = omega (arith, ints)

        at : (m : ℕ) → Contains members m ⊎ ¬ Contains members m → k.coefficient m *ℤ u.v m ≡ pos 0
        at m (inl hm) = ap (λ z. k.coefficient m *ℤ z) (u_zero m hm) ∙ *ℤ-zero (k.coefficient m)
        at m (inr lacks) = ap (λ z. z *ℤ u.v m) (row.over m lacks) ∙ zero-*ℤ (u.v m)

    cross : (d c x y s t : ℤ) → d ≢ pos 0 → d *ℤ x ≡ c *ℤ (t *ℤ pos 1) → d *ℤ y ≡ c *ℤ (s *ℤ pos 1) → s *ℤ x ≡ t *ℤ y
    cross d c x y s t h e f =
        let a : s *ℤ (d *ℤ x) ≡ s *ℤ (c *ℤ (t *ℤ pos 1)) = ap (λ z. s *ℤ z) e in
        let b : t *ℤ (d *ℤ y) ≡ t *ℤ (c *ℤ (s *ℤ pos 1)) = ap (λ z. t *ℤ z) f in
        let a' = simp ring at a in
        let b' = simp ring at b in
        mul-cancel_left d _ _ h (simp ring (omega (arith, ints)))

    column_same : (t : ℕ) → t < system.columns → v' t ≡ u' t
    column_same t lt = go (is_member members t)
      where
        not_p : t ≢ p
        not_p e = omega arith

        both_zero : (x y s t : ℤ) → x ≡ pos 0 → y ≡ pos 0 → s *ℤ x ≡ t *ℤ y
        both_zero x y s t e f = rw (e, f) (*ℤ-zero s ∙ sym (*ℤ-zero t))

        go : Contains members t ⊎ ¬ Contains members t → v' t ≡ u' t
        go (inl hm) = both_zero _ _ u.times v.times (others_zero t not_p hm) (u_zero t hm)
        go (inr lacks) =
            let (k, row) = has.rows t (omega arith) lacks in
            cross k.d k.constant _ _ u.times v.times (positive_differs k.d row.positive) (v_constant t k lt row) (u_constant t k lt row)

    row_same : u.times *ℤ v.times ≡ pos 0
    row_same =
        let e : v' p ≡ u' p = columns_determine system (u.times *ℤ (v.times *ℤ pos 1)) v' u' pv pu column_same p (has.free.within p member) in
        finish _ _ (v.values p member ∙ rw (same p) refl) (u_zero p member) e
      where
        finish : (x y : ℤ) → x ≡ v.times *ℤ pos 1 → y ≡ pos 0 → u.times *ℤ x ≡ v.times *ℤ y → u.times *ℤ v.times ≡ pos 0
        finish x y e f g =
            let e' : u.times *ℤ x ≡ u.times *ℤ (v.times *ℤ pos 1) = ap (λ z. u.times *ℤ z) e in
            let f' : v.times *ℤ y ≡ v.times *ℤ pos 0 = ap (λ z. v.times *ℤ z) f in
            let e'' = simp ring at e' in
            let f'' = simp ring at f' in
            simp ring (omega (arith, ints))

    contradiction : (a b : ℤ) → pos 0 <ℤ a → pos 0 <ℤ b → a *ℤ b ≡ pos 0 → ⊥
    contradiction a b h g e = let q = mul_positive a b h g in omega (arith, ints)

names_below : (system : LinearSystem) (members : List ℕ) (p : ℕ) → HasDictionary system members → (b : ℕ) → b ≤ system.columns
    → ((t : ℕ) (k : Relation) → t < b → DictionaryRow system members t k → k.coefficient p ≡ pos 0) ⊎ Names system members p
names_below system members p has zero le = inl (λ t k lt row. absurd (omega arith))
names_below system members p has (suc b) le = go (names_below system members p has b (omega arith)) (is_member members b)
  where
    more : ((t : ℕ) (k : Relation) → t < b → DictionaryRow system members t k → k.coefficient p ≡ pos 0)
        → ((k : Relation) → DictionaryRow system members b k → k.coefficient p ≡ pos 0) → (t : ℕ) (k : Relation) → t < suc b
        → DictionaryRow system members t k → k.coefficient p ≡ pos 0
    more all here t k lt row = ⊎_elim (λ e. here k (subst (λ x. DictionaryRow system members x k) e row)) (λ ne. all t k (omega arith) row) (equal_or_not t b)

    at : ((t : ℕ) (k : Relation) → t < b → DictionaryRow system members t k → k.coefficient p ≡ pos 0) → (k : Relation) → DictionaryRow system members b k
        → (k.coefficient p ≡ pos 0) ⊎ (k.coefficient p ≢ pos 0) → ((t : ℕ) (k : Relation) → t < suc b → DictionaryRow system members t k → k.coefficient p ≡ pos 0)
        ⊎ Names system members p
    at all k row (inl e) = inl (more all (λ l row'. subst (λ x. x.coefficient p ≡ pos 0) (same_relation system members b k l row row') e))
    at all k row (inr ne) = inr (record { t = b; below = omega arith; k = k; row = row; named = ne })

    go : ((t : ℕ) (k : Relation) → t < b → DictionaryRow system members t k → k.coefficient p ≡ pos 0) ⊎ Names system members p
        → Contains members b ⊎ ¬ Contains members b
        → ((t : ℕ) (k : Relation) → t < suc b → DictionaryRow system members t k → k.coefficient p ≡ pos 0) ⊎ Names system members p
    go (inr n) _ = inr n
    go (inl all) (inl member) = inl (more all (λ k row. absurd (row.outside member)))
    go (inl all) (inr lacks) = let (k, row) = has.rows b (omega arith) lacks in at all k row (is_zero_or_not (k.coefficient p))

pub names : (system : LinearSystem) (members : List ℕ) (p : ℕ) → HasDictionary system members → Contains members p → system.columns ≤ p → Names system members p
names system members p has member past = ⊎_elim (λ none. absurd (none_named system members p has member past none)) (λ n. n) (names_below system members p has system.columns (omega arith))

-- ---- one row more

-- over the set after an exchange numbers grow to twice the square at most
SetBounded-exchanged : (system : LinearSystem) (members : List ℕ) (i j b : ℕ) (k : Relation) → HasDictionary system members
    → DictionaryRow system members i k → Contains members j → k.coefficient j ≢ pos 0 → 1 ≤ b → SetBounded system b members
    → SetBounded system (squared b) (exchanged members i j)
SetBounded-exchanged system members i j b k has row member named one bounded w l target = at (equal_or_not w j) (equal_or_not w i) (is_member members w)
  where
    same_bound : (l' : Relation) → DictionaryRow system (exchanged members i j) w l' → Bounded (squared b) l' → Bounded (squared b) l
    same_bound l' row' g = subst (Bounded (squared b)) (same_relation system (exchanged members i j) w l' l row' target) g

    leaving : w ≡ j → Bounded (squared b) l
    leaving e = same_bound (turned k i j) (subst (λ x. DictionaryRow system (exchanged members i j) x (turned k i j)) (sym e)
        (turned_row system members i j k row member named (turned k i j) (turned_reduced system members i j k row member)))
        (Bounded-raised b (squared b) _ (le-squared b one) (Bounded-turned b k i j (bounded i k row)))

    old : w ≢ i → (l₀ : Relation) → DictionaryRow system members w l₀ → (l₀.coefficient j ≡ pos 0) ⊎ (l₀.coefficient j ≢ pos 0) → Bounded (squared b) l
    old other l₀ row₀ (inl e) = same_bound l₀ (kept_row system members i j k row member named w l₀ row₀ other e) (Bounded-raised b (squared b) l₀ (le-squared b one) (bounded w l₀ row₀))
    old other l₀ row₀ (inr ne) =
        let (l', r) = reduce (renewed k i j l₀) (variables system) (renewed-positive system members i j k row member named w l₀ row₀ other)
        (none_past system (exchanged members i j) (renewed k i j l₀) target.free (renewed-over system members i j k row member named w l₀ row₀ other)) in
        same_bound l' (renewed_row system members i j k row member named w l₀ row₀ other l' r)
        (Bounded-reduced (squared b) (renewed k i j l₀) l' r (Bounded-renewed b k l₀ i j (bounded i k row) (bounded w l₀ row₀)))

    at : (w ≡ j) ⊎ (w ≢ j) → (w ≡ i) ⊎ (w ≢ i) → Contains members w ⊎ ¬ Contains members w → Bounded (squared b) l
    at (inl e) _ _ = leaving e
    at (inr nj) (inl e) _ = absurd (target.outside (subst (Contains (exchanged members i j)) (sym e) (Contains-exchanged_new i j members)))
    at (inr nj) (inr ni) (inl there) = absurd (target.outside (Contains-exchanged_old i j w members there nj))
    at (inr nj) (inr ni) (inr lacks) = let (l₀, row₀) = has.rows w target.variable lacks in old ni l₀ row₀ (is_zero_or_not (l₀.coefficient j))

-- what numbers grow to, over a set with n rows
abbrev pub bound_of : ℕ → ℕ → ℕ
bound_of b zero = b
bound_of b (suc n) = squared (bound_of b n)

one-bound_of : (b n : ℕ) → 1 ≤ b → 1 ≤ bound_of b n
one-bound_of b zero h = h
one-bound_of b (suc n) h = le_trans (one-bound_of b n h) (le-squared (bound_of b n) (one-bound_of b n h))

bound_of-more : (b n k : ℕ) → 1 ≤ b → bound_of b n ≤ bound_of b (k + n)
bound_of-more b n zero h = subst (λ m. bound_of b n ≤ bound_of b m) (flip n) (le_refl (bound_of b n))
  where
    flip : (n : ℕ) → n ≡ 0 + n
    flip n = omega arith
bound_of-more b n (suc k) h = subst (λ m. bound_of b n ≤ bound_of b m) (flip k n) (le_trans (bound_of-more b n k h) (le-squared (bound_of b (k + n)) (one-bound_of b (k + n) h)))
  where
    flip : (k n : ℕ) → suc (k + n) ≡ suc k + n
    flip k n = omega arith

-- the set after a row has gone for a column, and what it says of the set before
Gone : (system : LinearSystem) (members : List ℕ) (p : ℕ) → Names system members p → List ℕ
Gone system members p n = exchanged members n.t p

gone_has : (system : LinearSystem) (members : List ℕ) (p : ℕ) (n : Names system members p) → HasDictionary system members → Contains members p → HasDictionary system (Gone system members p n)
unfolding Gone
gone_has system members p n has member = exchanged_has system members n.t p n.k has n.row member n.named

gone_count : (system : LinearSystem) (members : List ℕ) (p : ℕ) (n : Names system members p) → HasDictionary system members → Contains members p
    → system.columns ≤ p → suc (rows_in system.columns (Gone system members p n)) ≡ rows_in system.columns members
unfolding Gone
gone_count system members p n has member past = rows_in-exchanged system.columns n.t p members has.free.ordered member n.below past

came_back : (system : LinearSystem) (members : List ℕ) (p b : ℕ) (n : Names system members p) → HasDictionary system members → Contains members p
    → 1 ≤ b → SetBounded system b (Gone system members p n) → SetBounded system (squared b) members
unfolding Gone
came_back system members p b n has member one bounded =
    subst (SetBounded system (squared b)) (exchanged_back n.t p members has.free.ordered member n.row.outside)
    (SetBounded-exchanged system (exchanged members n.t p) p n.t b (turned n.k n.t p) (exchanged_has system members n.t p n.k has n.row member n.named)
    (turned_row system members n.t p n.k n.row member n.named (turned n.k n.t p) (turned_reduced system members n.t p n.k n.row member))
    (Contains-exchanged_new n.t p members) named one bounded)
  where
    apart : n.t ≢ p
    apart e = n.row.outside (subst (Contains members) (sym e) member)

    not_zero : (s d : ℤ) → s ≢ pos 0 → pos 0 <ℤ d → sign s *ℤ d ≢ pos 0
    not_zero (pos m) d h g e = omega (arith, ints)
    not_zero (negsuc m) d h g e = omega (arith, ints)

    named : (turned n.k n.t p).coefficient n.t ≢ pos 0
    named = rw (differs n.t p apart, same n.t) (not_zero (n.k.coefficient p) n.k.d n.named n.row.positive)

module _ (system : LinearSystem) (b : ℕ) (one : 1 ≤ b) (columns : SetBounded system b (column_set system)) where
  only_columns : (n : ℕ) (members : List ℕ) → HasDictionary system members → ((m : ℕ) → Contains members m → m < system.columns) → SetBounded system (bound_of b n) members
  only_columns n members has all w k row = Bounded-raised b (bound_of b n) k at_least (subst (SetBounded system b) (sym all_columns) columns w k row)
    where
      all_columns : members ≡ column_set system
      all_columns = filled 0 system.columns members (order_from_increasing members has.free.ordered) (λ m hm. (let lt = all m hm in (omega arith, omega arith))) has.free.count

      add-zero : (n : ℕ) → n + 0 ≡ n
      add-zero n = omega arith

      at_least : b ≤ bound_of b n
      at_least = subst (λ m. b ≤ bound_of b m) (add-zero n) (bound_of-more b 0 n one)

  pub SetBounded-rows : (n : ℕ) (members : List ℕ) → HasDictionary system members → rows_in system.columns members ≡ n → SetBounded system (bound_of b n) members
  SetBounded-rows zero members has count = ⊎_elim (λ (p, member, past). absurd (none p member past)) (λ all. only_columns 0 members has all) (row_in system.columns members)
    where
      none : (p : ℕ) → Contains members p → system.columns ≤ p → ⊥
      none p member past = let e = gone_count system members p (names system members p has member past) has member past in omega arith
  SetBounded-rows (suc n) members has count =
      ⊎_elim (λ (p, member, past). with_row p member past (λ less has' e. SetBounded-rows n less has' e))
      (λ all. only_columns (suc n) members has all) (row_in system.columns members)
    where
      with_row : (p : ℕ) → Contains members p → system.columns ≤ p
          → ((less : List ℕ) → HasDictionary system less → rows_in system.columns less ≡ n → SetBounded system (bound_of b n) less)
          → SetBounded system (bound_of b (suc n)) members
      with_row p member past ih =
          let named = names system members p has member past in
          let e = gone_count system members p named has member past in
          came_back system members p (bound_of b n) named has member (one-bound_of b n one) (ih (Gone system members p named) (gone_has system members p named has member) (omega arith))

  -- over any free set
  pub SetBounded-any : (members : List ℕ) → HasDictionary system members → SetBounded system (bound_of b system.columns) members
  SetBounded-any members has w k row = Bounded-raised _ _ k more (SetBounded-rows (rows_in system.columns members) members has refl w k row)
    where
      few : rows_in system.columns members ≤ system.columns
      few = subst (λ n. rows_in system.columns members ≤ n) has.free.count (rows_in-le system.columns members)

      sum_is : (n c : ℕ) → n ≤ c → c - n + n ≡ c
      sum_is n c h = omega arith

      more : bound_of b (rows_in system.columns members) ≤ bound_of b system.columns
      more = subst (λ m. bound_of b (rows_in system.columns members) ≤ bound_of b m) (sum_is _ _ few)
          (bound_of-more b (rows_in system.columns members) (system.columns - rows_in system.columns members) one)

-- ---- the terms

record BoundedTerm (b : ℕ) (t : Wide) : Type 0 where
  pub a : unsigned_abs t.a ≤ b
  pub b' : unsigned_abs t.b ≤ b
  pub c : unsigned_abs t.c ≤ b
  pub d : unsigned_abs t.d ≤ b

terms_bounded : (b : ℕ) (members : List ℕ) (k : Relation) (j : ℕ) (l : Relation) → Bounded b k → Bounded b l → (n : ℕ) (t : Wide) → slice_get (terms members k j l) n ≡ Some t → BoundedTerm b t
terms_bounded b members k j l g h n t e = at n e
  where
    zero_le : unsigned_abs (pos 0) ≤ b
    zero_le = omega arith

    q : unsigned_abs (size (k.coefficient j)) ≤ b
    q = abs-size (k.coefficient j) b (g.coefficients j)

    mid : ℕ → Wide
    mid m = record { a = l.coefficient m; b = size (k.coefficient j); c = sign (k.coefficient j) *ℤ k.coefficient m; d = l.coefficient j }

    final : Wide
    final = record { a = pos 0; b = size (k.coefficient j); c = neg_ℤ (sign (k.coefficient j) *ℤ k.d); d = l.coefficient j }

    rest : (ms : List ℕ) (n : ℕ) → slice_get (map mid ms ++ final ∷ []) n ≡ Some t → BoundedTerm b t
    rest [] zero e = subst (BoundedTerm b) (same_Some final t e) (record { a = zero_le; b' = q; c = abs-neg _ b (abs-signed (k.coefficient j) k.d b g.d); d = h.coefficients j })
    rest [] (suc n) e = absurd (none-some t e)
    rest (m ∷ ms) zero e = subst (BoundedTerm b) (same_Some (mid m) t e)
        (record { a = h.coefficients m; b' = q; c = abs-signed (k.coefficient j) (k.coefficient m) b (g.coefficients m); d = h.coefficients j })
    rest (m ∷ ms) (suc n) e = rest ms n e

    first : Wide
    first = record { a = l.d; b = size (k.coefficient j); c = pos 0; d = pos 0 }

    second : Wide
    second = record { a = l.constant; b = size (k.coefficient j); c = sign (k.coefficient j) *ℤ k.constant; d = l.coefficient j }

    at : (n : ℕ) → slice_get (first ∷ second ∷ (map mid (without j members) ++ final ∷ [])) n ≡ Some t → BoundedTerm b t
    at zero e = subst (BoundedTerm b) (same_Some first t e) (record { a = h.d; b' = q; c = zero_le; d = zero_le })
    at (suc zero) e = subst (BoundedTerm b) (same_Some second t e) (record { a = h.constant; b' = q; c = abs-signed (k.coefficient j) k.constant b g.constant; d = h.coefficients j })
    at (suc (suc n)) e = rest (without j members) n e

bounded_fits : (b : ℕ) (t : Wide) → squared b < 2 ^ 127 → BoundedTerm b t → FitsTerm t
bounded_fits b t small g = record {
  left = below (t.a *ℤ t.b) (raise _ _ _ (square-le b) (abs-times t.a t.b b b g.a g.b'));
  right = below (t.c *ℤ t.d) (raise _ _ _ (square-le b) (abs-times t.c t.d b b g.c g.d));
  difference = below (term_value t) (raise _ _ _ (two-squares b) (abs-minus (t.a *ℤ t.b) (t.c *ℤ t.d) (b * b) (b * b) (abs-times t.a t.b b b g.a g.b') (abs-times t.c t.d b b g.c g.d)));
}
  where
    below : (z : ℤ) → unsigned_abs z ≤ squared b → InRange z
    below z h = omega arith

-- where numbers are small, no exchange has a term out of range
pub fits_where_small : (system : LinearSystem) (members : List ℕ) (i j b : ℕ) → SetBounded system b members → squared b < 2 ^ 127 → AllFit system members i j
fits_where_small system members i j b bounded small w n t is = bounded_fits b t small (terms_bounded b members is.k j is.l (bounded i is.k is.pivot) (bounded w is.l is.target) n t is.here)

-- ---- the law

square_up : (b a : ℕ) → b ≤ a → squared b ≤ squared a
square_up b a h = mul-le-mul_left 2 (mul-le-mul h h)

narrow : (c b : ℕ) → c ≤ 5 → b < 2 ^ (2 ^ (6 - c) - 1) → squared (bound_of b c) < 2 ^ 127
narrow zero b h small = let a = square_up b (2 ^ 63 - 1) (omega arith) in omega arith
narrow (suc zero) b h small =
    let a = square_up b (2 ^ 31 - 1) (omega arith) in
    let a' = square_up (squared b) (2 ^ 63 - 1) (omega arith) in
    omega arith
narrow (suc (suc zero)) b h small =
    let a = square_up b (2 ^ 15 - 1) (omega arith) in
    let a' = square_up (squared b) (2 ^ 31 - 1) (omega arith) in
    let a'' = square_up (squared (squared b)) (2 ^ 63 - 1) (omega arith) in
    omega arith
narrow (suc (suc (suc zero))) b h small =
    let a = square_up b (2 ^ 7 - 1) (omega arith) in
    let a₁ = square_up (bound_of b 1) (2 ^ 15 - 1) (omega arith) in
    let a₂ = square_up (bound_of b 2) (2 ^ 31 - 1) (omega arith) in
    let a₃ = square_up (bound_of b 3) (2 ^ 63 - 1) (omega arith) in
    omega arith
narrow (suc (suc (suc (suc zero)))) b h small =
    let a = square_up b 7 (omega arith) in
    let a₁ = square_up (bound_of b 1) (2 ^ 7 - 1) (omega arith) in
    let a₂ = square_up (bound_of b 2) (2 ^ 15 - 1) (omega arith) in
    let a₃ = square_up (bound_of b 3) (2 ^ 31 - 1) (omega arith) in
    let a₄ = square_up (bound_of b 4) (2 ^ 63 - 1) (omega arith) in
    omega arith
narrow (suc (suc (suc (suc (suc zero))))) b h small =
    let a = square_up b 1 (omega arith) in
    let a₁ = square_up (bound_of b 1) 7 (omega arith) in
    let a₂ = square_up (bound_of b 2) (2 ^ 7 - 1) (omega arith) in
    let a₃ = square_up (bound_of b 3) (2 ^ 15 - 1) (omega arith) in
    let a₄ = square_up (bound_of b 4) (2 ^ 31 - 1) (omega arith) in
    let a₅ = square_up (bound_of b 5) (2 ^ 63 - 1) (omega arith) in
    omega arith
narrow (suc (suc (suc (suc (suc (suc c)))))) b h small = absurd (omega arith)

-- a descent keeps the relations
pub descent_has : (system : LinearSystem) (members fixed : List ℕ) (r i : ℕ) (o : Outcome) → DescentFrom system members fixed r i o → HasDictionary system members → PointHas system o
descent_has system members fixed r i o (after_last le) has = has
descent_has system members fixed r i o (satisfied lt p d) has = descent_has system members fixed r (suc i) o d has
descent_has system members fixed r i o (stuck lt s) has = tt
descent_has system members fixed r i o (passes j w n t lt c f) has = tt
descent_has system members fixed r i o (stops_below j lt c fit d stop) has =
    descent_has system (exchanged members (row_variable system i) j) (row_variable system i ∷ fixed) i 0 o d
    (exchanged_has system members (row_variable system i) j c.k has c.row c.member c.named)
descent_has system members fixed r i o (goes_on j after lt c fit d rest) has = descent_has system after fixed r (suc i) o rest
    (descent_has system (exchanged members (row_variable system i) j) (row_variable system i ∷ fixed) i 0 (point after) d
    (exchanged_has system members (row_variable system i) j c.k has c.row c.member c.named))

never_wide : (system : LinearSystem) → ((members : List ℕ) (i j : ℕ) → HasDictionary system members → AllFit system members i j)
    → (members fixed : List ℕ) (r i : ℕ) (o : Outcome) → DescentFrom system members fixed r i o → HasDictionary system members → IsNotWide o
never_wide system fits members fixed r i o (after_last le) has = tt
never_wide system fits members fixed r i o (satisfied lt p d) has = never_wide system fits members fixed r (suc i) o d has
never_wide system fits members fixed r i o (stuck lt s) has = tt
never_wide system fits members fixed r i o (passes j w n t lt c f) has = f.passes (fits members (row_variable system i) j has w n t f.term)
never_wide system fits members fixed r i o (stops_below j lt c fit d stop) has =
    never_wide system fits (exchanged members (row_variable system i) j) (row_variable system i ∷ fixed) i 0 o d
    (exchanged_has system members (row_variable system i) j c.k has c.row c.member c.named)
never_wide system fits members fixed r i o (goes_on j after lt c fit d rest) has = never_wide system fits after fixed r (suc i) o rest
    (descent_has system (exchanged members (row_variable system i) j) (row_variable system i ∷ fixed) i 0 (point after) d
    (exchanged_has system members (row_variable system i) j c.k has c.row c.member c.named))

room : (c : ℕ) → c ≤ 5 → 2 ≤ 2 ^ (2 ^ (6 - c) - 1)
room zero h = omega arith
room (suc zero) h = omega arith
room (suc (suc zero)) h = omega arith
room (suc (suc (suc zero))) h = omega arith
room (suc (suc (suc (suc zero)))) h = omega arith
room (suc (suc (suc (suc (suc zero))))) h = omega arith
room (suc (suc (suc (suc (suc (suc c)))))) h = absurd (omega arith)

one_less : (n : ℕ) → 2 ≤ n → (1 ≤ n - 1) × (n - 1 < n) × ((m : ℕ) → m < n → m ≤ n - 1)
one_less n h = (omega arith, omega arith, λ m lt. omega arith)

pub narrow_fits : (system : LinearSystem) → IsNarrow system → (members : List ℕ) (i j : ℕ) → HasDictionary system members → AllFit system members i j
narrow_fits system small members i j has = fits_where_small system members i j (bound_of most system.columns)
    (SetBounded-any system most one columns members has) (narrow system.columns most small.columns below)
  where
    most : ℕ
    most = 2 ^ (2 ^ (6 - system.columns) - 1) - 1

    less : (1 ≤ most) × (most < 2 ^ (2 ^ (6 - system.columns) - 1)) × ((m : ℕ) → m < 2 ^ (2 ^ (6 - system.columns) - 1) → m ≤ most)
    less = one_less _ (room system.columns small.columns)

    one : 1 ≤ most
    one = less.0

    below : most < 2 ^ (2 ^ (6 - system.columns) - 1)
    below = less.1

    columns : SetBounded system most (column_set system)
    columns = SetBounded-columns system most one (λ i j li lj. less.2 _ (small.entries i j li lj)) (λ i li. less.2 _ (small.constants i li))

pub narrow_is_not_wide : (system : LinearSystem) (o : Outcome) → IsNarrow system → DescentFromStart system o → IsNotWide o
narrow_is_not_wide system o small d = never_wide system (narrow_fits system small) (column_set system) [] (length system.rows) 0 o d (columns_have system)
