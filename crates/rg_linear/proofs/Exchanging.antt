-- What an exchange makes of a free set and its relations.
use Rattle.std.proofs.Common.{◌≡◌, ◌≢◌, ◌⊎◌, ⊎_elim, ℕ, ◌<◌, ◌==◌, if◌then◌else◌, List, Contains, ap, ap₂, refl, subst, sym, ◌∙◌, inl, inr, arith}
use Rattle.std.specs.Prelude.{ℤ, pos, neg_ℤ, ◌+ℤ◌, ◌-ℤ◌, ◌*ℤ◌, ◌<ℤ◌}
use Rattle.std.proofs.lemmas.Int.{ints}
use Rattle.rg_linear.specs.System.{LinearSystem, variables, IsPoint}
use Rattle.rg_integers.specs.Sum.{sum_below, only}
use Rattle.rg_linear.specs.Dictionary.{AgreeOn, Takes, IsFree, Relation, Holds, IsOver, DictionaryRow}
use Rattle.rg_integers.specs.Sign.{sign, size}
use Rattle.rg_linear.specs.Exchange.{exchanged, renewed, turned, IsReduced}
use Rattle.rg_integers.proofs.Ring.{ring, mul_assoc}
use Rattle.std.proofs.Math.IntN.{zero-*ℤ}
use Rattle.rg_integers.proofs.Order.{mul-cancel_left, mul_positive, positive_differs}
use Rattle.rg_integers.proofs.Signs.{size_positive, sign-times, times-sign}
use Rattle.rg_integers.proofs.Sums.{sum_below-same, sum_below-plus, sum_below-times}
use Rattle.rg_linear.proofs.Members.{is_member, equal_or_not, differs, same, Contains-exchanged_new, Contains-exchanged_old, exchanged-Contains, exchanged-ordered, length-exchanged}
use Rattle.rg_linear.proofs.Unique.{sum_at}
use Rattle.rg_linear.proofs.Reducing.{reduced_row}
use Rattle.rg_linear.proofs.Renewed.{sum_only, renewed_holds, renewed_over}

-- points that agree on a free set's members agree at a variable whose relation names those alone
pub agree_by : (system : LinearSystem) (members : List ℕ) (w : ℕ) (k : Relation) → Holds system w k → IsOver members k → k.d ≢ pos 0
    → (scale : ℤ) (v u : ℕ → ℤ) → IsPoint system scale v → IsPoint system scale u → AgreeOn members v u → v w ≡ u w
agree_by system members w k holds over differ scale v u p q agree =
    mul-cancel_left k.d _ _ differ (holds scale v p ∙ ap (λ z. (k.constant *ℤ scale) +ℤ z) (sum_below-same (variables system) _ _ (λ m lt. at m (is_member members m))) ∙ sym (holds scale u q))
  where
    at : (m : ℕ) → Contains members m ⊎ ¬ Contains members m → k.coefficient m *ℤ v m ≡ k.coefficient m *ℤ u m
    at m (inl has) = ap (λ z. k.coefficient m *ℤ z) (agree m has)
    at m (inr lacks) = rw (over m lacks) (zero-*ℤ (v m) ∙ sym (zero-*ℤ (u m)))

-- a sum with one index more
pub sum_with : (n i : ℕ) (a c : ℤ) (f : ℕ → ℤ) → i < n → sum_below n (λ m. only i a m +ℤ (c *ℤ f m)) ≡ a +ℤ (c *ℤ sum_below n f)
sum_with n i a c f lt = sum_below-plus n (only i a) (λ m. c *ℤ f m) ∙ ap₂ ◌+ℤ◌ (sum_only n i a lt) (sum_below-times n c f)

module _ (system : LinearSystem) (members : List ℕ) (i j : ℕ) (k : Relation) (row : DictionaryRow system members i k) (member : Contains members j) (named : k.coefficient j ≢ pos 0) where
  apart : i ≢ j
  apart e = row.outside (subst (λ m. Contains members m) (sym e) member)

  j_below : j < variables system
  j_below = row.free.within j member

  lacks_i : k.coefficient i ≡ pos 0
  lacks_i = row.over i row.outside

  -- ---- the relation of j

  turned_at : (v : ℕ → ℤ) (m : ℕ) → (turned k i j).coefficient m *ℤ v m
      ≡ (only j (size (k.coefficient j) *ℤ v j) m)
      +ℤ ((only i ((sign (k.coefficient j) *ℤ k.d) *ℤ v i) m) +ℤ (neg_ℤ (sign (k.coefficient j)) *ℤ (k.coefficient m *ℤ v m)))
  turned_at v m = go (equal_or_not m j) (equal_or_not m i)
    where
      none : (q s z y : ℤ) → s *ℤ z ≡ q → pos 0 *ℤ y ≡ (q *ℤ y) +ℤ (pos 0 +ℤ (neg_ℤ s *ℤ (z *ℤ y)))
      none q s z y e = rw (← e) (simp ring (omega (arith, ints)))

      first : (a z y s : ℤ) → z ≡ pos 0 → a *ℤ y ≡ pos 0 +ℤ ((a *ℤ y) +ℤ (neg_ℤ s *ℤ (z *ℤ y)))
      first a z y s e = rw e (simp ring (omega (arith, ints)))

      other : (s z y : ℤ) → neg_ℤ (s *ℤ z) *ℤ y ≡ pos 0 +ℤ (pos 0 +ℤ (neg_ℤ s *ℤ (z *ℤ y)))
      other s z y = simp ring (omega (arith, ints))

      go : (m ≡ j) ⊎ (m ≢ j) → (m ≡ i) ⊎ (m ≢ i)
          → (turned k i j).coefficient m *ℤ v m ≡ (only j (size (k.coefficient j) *ℤ v j) m)
          +ℤ ((only i ((sign (k.coefficient j) *ℤ k.d) *ℤ v i) m) +ℤ (neg_ℤ (sign (k.coefficient j)) *ℤ (k.coefficient m *ℤ v m)))
      go (inl e) _ = rw (e, same j, differs j i (λ f. apart (sym f))) (none (size (k.coefficient j)) (sign (k.coefficient j)) (k.coefficient j) (v j) (sign-times (k.coefficient j)))
      go (inr ne) (inl e) = rw (e, differs i j apart, same i) (first (sign (k.coefficient j) *ℤ k.d) (k.coefficient i) (v i) (sign (k.coefficient j)) lacks_i)
      go (inr ne) (inr ni) = rw (differs m j ne, differs m i ni) (other (sign (k.coefficient j)) (k.coefficient m) (v m))

  pub turned-holds : Holds system j (turned k i j)
  turned-holds scale v p = finish (size (k.coefficient j)) (sign (k.coefficient j)) k.d (v i) (v j) k.constant scale _ _ (row.holds scale v p) sum
    where
      n : ℕ
      n = variables system

      sum : sum_below (variables system) (λ m. (turned k i j).coefficient m *ℤ v m)
          ≡ (size (k.coefficient j) *ℤ v j) +ℤ (((sign (k.coefficient j) *ℤ k.d) *ℤ v i)
          +ℤ (neg_ℤ (sign (k.coefficient j)) *ℤ sum_below (variables system) (λ m. k.coefficient m *ℤ v m)))
      sum = sum_below-same (variables system) _ _ (λ m lt. turned_at v m) ∙ sum_below-plus (variables system) _ _
          ∙ ap₂ ◌+ℤ◌ (sum_only (variables system) j _ j_below) (sum_with (variables system) i _ _ _ row.variable)

      finish : (q h d x y c s sk total : ℤ) → d *ℤ x ≡ (c *ℤ s) +ℤ sk → total ≡ (q *ℤ y) +ℤ (((h *ℤ d) *ℤ x) +ℤ (neg_ℤ h *ℤ sk)) → q *ℤ y ≡ (neg_ℤ (h *ℤ c) *ℤ s) +ℤ total
      finish q h d x y c s sk total e t =
          let a : h *ℤ (d *ℤ x) ≡ h *ℤ ((c *ℤ s) +ℤ sk) = ap (λ z. h *ℤ z) e in
          let a' = simp ring at a in
          rw t (simp ring (omega (arith, ints)))

  pub turned-over : IsOver (exchanged members i j) (turned k i j)
  turned-over m lacks = go (equal_or_not m j) (equal_or_not m i) (is_member members m)
    where
      zero_case : (s z : ℤ) → z ≡ pos 0 → neg_ℤ (s *ℤ z) ≡ pos 0
      zero_case s z e = rw e (simp ring refl)

      go : (m ≡ j) ⊎ (m ≢ j) → (m ≡ i) ⊎ (m ≢ i) → Contains members m ⊎ ¬ Contains members m → (turned k i j).coefficient m ≡ pos 0
      go (inl e) _ _ = rw (e, same j) refl
      go (inr ne) (inl e) _ = absurd (lacks (subst (λ x. Contains (exchanged members i j) x) (sym e) (Contains-exchanged_new i j members)))
      go (inr ne) (inr ni) (inl has) = absurd (lacks (Contains-exchanged_old i j m members has ne))
      go (inr ne) (inr ni) (inr absent) = rw (differs m j ne, differs m i ni) (zero_case (sign (k.coefficient j)) (k.coefficient m) (row.over m absent))

  pub turned-positive : pos 0 <ℤ (turned k i j).d
  turned-positive = size_positive (k.coefficient j) named

  -- ---- the new set is free

  determined : (scale : ℤ) (v u : ℕ → ℤ) → IsPoint system scale v → IsPoint system scale u → AgreeOn (exchanged members i j) v u → (w : ℕ) → w < variables system → v w ≡ u w
  determined scale v u p q agree = row.free.determines scale v u p q
      (λ m has. ⊎_elim (λ e. subst (λ x. v x ≡ u x) (sym e) leaves) (λ ne. agree m (Contains-exchanged_old i j m members has ne)) (equal_or_not m j))
    where
      leaves : v j ≡ u j
      leaves = agree_by system (exchanged members i j) j (turned k i j) turned-holds turned-over (positive_differs _ turned-positive) scale v u p q agree

  module _ (wanted : ℕ → ℤ) (scale : ℤ) (positive : pos 0 <ℤ scale) where
    -- what the members but j are to be, and j
    others : ℕ → ℤ
    others m = if m == j then pos 0 else wanted m

    leaving : ℤ
    leaving = ((k.d *ℤ wanted i) -ℤ (k.constant *ℤ scale)) -ℤ sum_below (variables system) (λ m. k.coefficient m *ℤ others m)

    wanted_before : ℕ → ℤ
    wanted_before m = if m == j then sign (k.coefficient j) *ℤ leaving else size (k.coefficient j) *ℤ wanted m

    before : Takes system members wanted_before (size (k.coefficient j) *ℤ scale)
    before = row.free.takes wanted_before (size (k.coefficient j) *ℤ scale) (mul_positive _ _ (size_positive (k.coefficient j) named) positive)

    wanted_at : (m : ℕ) → k.coefficient m *ℤ wanted_before m ≡ (only j (k.coefficient j *ℤ (sign (k.coefficient j) *ℤ leaving)) m) +ℤ (size (k.coefficient j) *ℤ (k.coefficient m *ℤ others m))
    unfolding wanted_before others
    wanted_at m = go (equal_or_not m j)
      where
        at_j : (a q z : ℤ) → a ≡ a +ℤ (q *ℤ (z *ℤ pos 0))
        at_j a q z = simp ring (omega (arith, ints))

        other : (z q x : ℤ) → z *ℤ (q *ℤ x) ≡ pos 0 +ℤ (q *ℤ (z *ℤ x))
        other z q x = simp ring (omega (arith, ints))

        go : (m ≡ j) ⊎ (m ≢ j) → k.coefficient m *ℤ wanted_before m ≡ (only j (k.coefficient j *ℤ (sign (k.coefficient j) *ℤ leaving)) m) +ℤ (size (k.coefficient j) *ℤ (k.coefficient m *ℤ others m))
        go (inl e) = rw (e, same j) (at_j (k.coefficient j *ℤ (sign (k.coefficient j) *ℤ leaving)) (size (k.coefficient j)) (k.coefficient j))
        go (inr ne) = rw (differs m j ne) (other (k.coefficient m) (size (k.coefficient j)) (wanted m))

    sum_before : sum_below (variables system) (λ m. k.coefficient m *ℤ wanted_before m)
        ≡ (k.coefficient j *ℤ (sign (k.coefficient j) *ℤ leaving)) +ℤ (size (k.coefficient j) *ℤ sum_below (variables system) (λ m. k.coefficient m *ℤ others m))
    sum_before = sum_below-same (variables system) _ _ (λ m lt. wanted_at m) ∙ sum_with (variables system) j _ (size (k.coefficient j)) (λ m. k.coefficient m *ℤ others m) j_below

    comes : before.v i ≡ (before.times *ℤ size (k.coefficient j)) *ℤ wanted i
    unfolding leaving
    comes = mul-cancel_left k.d _ _ (positive_differs k.d row.positive)
        (finish before.times (size (k.coefficient j)) (sign (k.coefficient j)) (k.coefficient j) k.d (wanted i) (before.v i) k.constant scale _ _ _
        (row.holds _ before.v before.point) (sum_at system members k wanted_before _ before row.over (variables system)) sum_before (times-sign (k.coefficient j)))
      where
        finish : (t q h kj d x y c s sk total rest : ℤ) → d *ℤ y ≡ (c *ℤ (t *ℤ (q *ℤ s))) +ℤ sk → sk ≡ t *ℤ total
            → total ≡ (kj *ℤ (h *ℤ (((d *ℤ x) -ℤ (c *ℤ s)) -ℤ rest))) +ℤ (q *ℤ rest) → kj *ℤ h ≡ q → d *ℤ y ≡ d *ℤ ((t *ℤ q) *ℤ x)
        finish t q h kj d x y c s sk total rest e f g u = e ∙ rw (f, g, ← mul_assoc kj h (((d *ℤ x) -ℤ (c *ℤ s)) -ℤ rest), u) (simp ring (omega (arith, ints)))

    taken : Takes system (exchanged members i j) wanted scale
    unfolding wanted_before
    taken = record {
      times = before.times *ℤ size (k.coefficient j);
      v = before.v;
      positive = mul_positive _ _ before.positive (size_positive (k.coefficient j) named);
      point = subst (λ z. IsPoint system z before.v) (sym (mul_assoc before.times (size (k.coefficient j)) scale)) before.point;
      values = λ m has. ⊎_elim (λ e. subst (λ x. before.v x ≡ (before.times *ℤ size (k.coefficient j)) *ℤ wanted x) e comes) (λ old. stays m old.0 old.1) (exchanged-Contains i j m members has);
    }
      where
        stays : (m : ℕ) → Contains members m → m ≢ j → before.v m ≡ (before.times *ℤ size (k.coefficient j)) *ℤ wanted m
        stays m has ne = before.values m has ∙ rw (differs m j ne) (sym (mul_assoc before.times (size (k.coefficient j)) (wanted m)))

  pub exchanged_free : IsFree system (exchanged members i j)
  exchanged_free = record {
    ordered = exchanged-ordered i j members row.free.ordered row.outside;
    count = length-exchanged i j members row.free.ordered member ∙ row.free.count;
    within = λ m has. ⊎_elim (λ e. subst (λ x. x < variables system) e row.variable) (λ old. row.free.within m old.0) (exchanged-Contains i j m members has);
    determines = determined;
    takes = taken;
  }

  -- ---- the relations of the others

  module _ (w : ℕ) (l : Relation) (target : DictionaryRow system members w l) (other : w ≢ i) where
    pub renewed-over : IsOver (exchanged members i j) (renewed k i j l)
    renewed-over = renewed_over members i j k row.outside row.over member l target.over

    pub renewed-positive : pos 0 <ℤ (renewed k i j l).d
    renewed-positive = mul_positive l.d _ target.positive (size_positive (k.coefficient j) named)

    still_outside : ¬ Contains (exchanged members i j) w
    still_outside has = ⊎_elim (λ e. other (sym e)) (λ old. target.outside old.0) (exchanged-Contains i j w members has)

    -- the relation that the terms give
    pub renewed_row : (l' : Relation) → IsReduced (renewed k i j l) l' → DictionaryRow system (exchanged members i j) w l'
    renewed_row l' r = reduced_row system (exchanged members i j) w (renewed k i j l) l' exchanged_free target.variable still_outside renewed-positive renewed-over
        (renewed_holds system members i j k row.variable row.outside row.over row.holds w l target.over target.holds) r

    -- a relation that doesn't name j stays
    pub kept_row : l.coefficient j ≡ pos 0 → DictionaryRow system (exchanged members i j) w l
    kept_row e = record {
      free = exchanged_free;
      variable = target.variable;
      outside = still_outside;
      positive = target.positive;
      over = λ m lacks. ⊎_elim (λ is. rw is e) (λ ne. target.over m (λ has. lacks (Contains-exchanged_old i j m members has ne))) (equal_or_not m j);
      primitive = target.primitive;
      holds = target.holds;
    }

  pub turned_row : (l : Relation) → IsReduced (turned k i j) l → DictionaryRow system (exchanged members i j) j l
  turned_row l r = reduced_row system (exchanged members i j) j (turned k i j) l exchanged_free j_below
      (λ has. ⊎_elim apart (λ old. old.1 refl) (exchanged-Contains i j j members has)) turned-positive turned-over turned-holds r
