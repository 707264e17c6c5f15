-- What a form is worth at the point of a descent, from the value of a row.
use Rattle.std.proofs.Common.{◌≡◌, ℕ, ◌+◌, ◌<◌, length, ap, sym, ◌∙◌, arith, Less, Equal, Greater}
use Rattle.std.specs.Prelude.{ℤ, pos, neg_ℤ, ◌+ℤ◌, ◌-ℤ◌, ◌*ℤ◌, ◌≤ℤ◌, ◌<ℤ◌}
use Rattle.std.specs.Ordering.{int_cmp}
use Rattle.std.specs.Cmp.{int_cmp_is}
use Rattle.std.proofs.lemmas.Int.{ints, by_lt_z}
use Rattle.std.proofs.Math.IntN.{zero-*ℤ, *ℤ-zero}
use Rattle.rg_integers.proofs.Ring.{ring}
use Rattle.rg_integers.proofs.Order.{mul_positive, mul-cancel_left, positive_differs}
use Rattle.rg_integers.proofs.Sums.{sum_below-same, sum_below-times, sum_below-zero}
use Rattle.rg_linear.specs.System.{LinearSystem, row_variable, row_at, entry, IsPoint}
use Rattle.rg_linear.specs.Branching.{scaled_value}
use Rattle.rg_linear.proofs.Branches.{positive_times_less, positive_times_most, less_of_times}
use Rattle.rg_branch.specs.declared.bounded.Bounded.{Bounded}
use Rattle.rg_branch.specs.View.{form_of}
use Rattle.rg_branch.specs.Asked.{IsFormOf}

-- ---- a form is a multiple of a row

pub form_value : (node : LinearSystem) (before : ℕ) (b : Bounded) → IsFormOf node before b → (scale : ℤ) (v : ℕ → ℤ) → IsPoint node scale v
    → before + b.row < length node.rows → scaled_value node (form_of b) v
    ≡ b.times *ℤ (v (row_variable node (before + b.row)) -ℤ ((row_at node (before + b.row)).constant *ℤ scale))
form_value node before b is scale v p lt =
    sum_below-same node.columns _ (λ j. b.times *ℤ (entry node (before + b.row) j *ℤ v j)) (λ j h. ap (λ z. z *ℤ v j) (is.multiple j h) ∙ turn b.times (entry node (before + b.row) j) (v j))
    ∙ sum_below-times node.columns b.times (λ j. entry node (before + b.row) j *ℤ v j)
    ∙ ap (λ z. b.times *ℤ z) (rest (v (row_variable node (before + b.row))) _ _ (p.rows (before + b.row) lt))
  where
    turn : (a b c : ℤ) → (a *ℤ b) *ℤ c ≡ a *ℤ (b *ℤ c)
    turn a b c = simp ring

    rest : (a b c : ℤ) → a ≡ b +ℤ c → b ≡ a -ℤ c
    rest a b c e = omega (arith, ints)

pub zero_value : (node : LinearSystem) (before : ℕ) (b : Bounded) → IsFormOf node before b → b.times ≡ pos 0 → (v : ℕ → ℤ) → scaled_value node (form_of b) v ≡ pos 0
zero_value node before b is e v = sum_below-zero node.columns _
    (λ j h. ap (λ z. z *ℤ v j) (is.multiple j h ∙ ap (λ t. t *ℤ entry node (before + b.row) j) e ∙ zero-*ℤ (entry node (before + b.row) j)) ∙ zero-*ℤ (v j))

-- ---- over the denominator of the row's value

pub most_of_times : (k a b : ℤ) → pos 0 <ℤ k → (k *ℤ a) ≤ℤ (k *ℤ b) → a ≤ℤ b
most_of_times k a b h g = by_lt_z b a (λ less. (let m = positive_times_less k b a h less in absurd (omega (arith, ints)))) (λ most. most)

module _ (n d c t f s r x : ℤ) (hd : pos 0 <ℤ d) (hs : pos 0 <ℤ s) (value : n *ℤ s ≡ r *ℤ d) (is : x ≡ t *ℤ (r -ℤ (c *ℤ s))) where
  crossed : d *ℤ x ≡ s *ℤ (t *ℤ (n -ℤ (c *ℤ d)))
  crossed = ap (λ z. d *ℤ z) is ∙ go value
    where
      go : n *ℤ s ≡ r *ℤ d → d *ℤ (t *ℤ (r -ℤ (c *ℤ s))) ≡ s *ℤ (t *ℤ (n -ℤ (c *ℤ d)))
      go e = let e' : t *ℤ (n *ℤ s) ≡ t *ℤ (r *ℤ d) = ap (λ z. t *ℤ z) e in let g = simp ring at e' in simp ring (omega (arith, ints))

  unit : (u : ℤ) → d *ℤ (u *ℤ (f *ℤ s)) ≡ s *ℤ (u *ℤ (f *ℤ d))
  unit u = go d u f s
    where
      go : (d u f s : ℤ) → d *ℤ (u *ℤ (f *ℤ s)) ≡ s *ℤ (u *ℤ (f *ℤ d))
      go d u f s = simp ring

  pub above : (u : ℤ) → (u *ℤ (f *ℤ d)) <ℤ (t *ℤ (n -ℤ (c *ℤ d))) → (u *ℤ (f *ℤ s)) <ℤ x
  above u h = less_of_times d _ _ hd (carry _ _ _ _ (positive_times_less s _ _ hs h) (unit u) crossed)
    where
      carry : (a b a' b' : ℤ) → a <ℤ b → a' ≡ a → b' ≡ b → a' <ℤ b'
      carry a b a' b' h e g = omega (arith, ints)

  pub below : (u : ℤ) → (t *ℤ (n -ℤ (c *ℤ d))) <ℤ (u *ℤ (f *ℤ d)) → x <ℤ (u *ℤ (f *ℤ s))
  below u h = less_of_times d _ _ hd (carry _ _ _ _ (positive_times_less s _ _ hs h) crossed (unit u))
    where
      carry : (a b a' b' : ℤ) → a <ℤ b → a' ≡ a → b' ≡ b → a' <ℤ b'
      carry a b a' b' h e g = omega (arith, ints)

  pub equal : (u : ℤ) → (t *ℤ (n -ℤ (c *ℤ d))) ≡ u *ℤ (f *ℤ d) → x ≡ u *ℤ (f *ℤ s)
  equal u e = mul-cancel_left d _ _ (positive_differs d hd) (crossed ∙ ap (λ z. s *ℤ z) e ∙ sym (unit u))

  pub not_below : (u : ℤ) → (u *ℤ (f *ℤ s)) ≤ℤ x → (u *ℤ (f *ℤ d)) ≤ℤ (t *ℤ (n -ℤ (c *ℤ d)))
  not_below u h = most_of_times s _ _ hs (carry _ _ _ _ (positive_times_most d _ _ hd h) (unit u) crossed)
    where
      carry : (a b a' b' : ℤ) → a ≤ℤ b → a ≡ a' → b ≡ b' → a' ≤ℤ b'
      carry a b a' b' h e g = omega (arith, ints)

  pub not_above : (u : ℤ) → x ≤ℤ (u *ℤ (f *ℤ s)) → (t *ℤ (n -ℤ (c *ℤ d))) ≤ℤ (u *ℤ (f *ℤ d))
  not_above u h = most_of_times s _ _ hs (carry _ _ _ _ (positive_times_most d _ _ hd h) crossed (unit u))
    where
      carry : (a b a' b' : ℤ) → a ≤ℤ b → a ≡ a' → b ≡ b' → a' ≤ℤ b'
      carry a b a' b' h e g = omega (arith, ints)

-- ---- one order

-- the differences have one sign
pub same_order : (t e a b x y : ℤ) → pos 0 <ℤ t → pos 0 <ℤ e → t *ℤ (a -ℤ b) ≡ e *ℤ (x -ℤ y) → int_cmp a b ≡ int_cmp x y
same_order t e a b x y ht he is = by_lt_z a b
    (λ less. sym (int_cmp_is a b Less less) ∙ int_cmp_is x y Less (negative less))
    (λ most. by_lt_z b a
    (λ more. sym (int_cmp_is a b Greater more) ∙ int_cmp_is x y Greater (positive more))
    (λ least. sym (int_cmp_is a b Equal (both most least)) ∙ int_cmp_is x y Equal (zero_is (both most least))))
  where
    both : b ≤ℤ a → a ≤ℤ b → a ≡ b
    both h g = omega (arith, ints)

    negative : a <ℤ b → x <ℤ y
    negative less =
        let m = mul_positive t (b -ℤ a) ht (omega (arith, ints)) in
        let k : t *ℤ (b -ℤ a) ≡ neg_ℤ (t *ℤ (a -ℤ b)) = simp ring (omega (arith, ints)) in
        by_lt_z x y (λ l. l) (λ ge. (let p = positive_times_most e y x he ge in let q : e *ℤ (x -ℤ y) ≡ (e *ℤ x) -ℤ (e *ℤ y) = simp ring (omega (arith, ints)) in absurd (omega (arith, ints))))

    positive : b <ℤ a → y <ℤ x
    positive more =
        let m = mul_positive t (a -ℤ b) ht (omega (arith, ints)) in
        by_lt_z y x (λ l. l) (λ ge. (let p = positive_times_most e x y he ge in let q : e *ℤ (x -ℤ y) ≡ (e *ℤ x) -ℤ (e *ℤ y) = simp ring (omega (arith, ints)) in absurd (omega (arith, ints))))

    zero_is : a ≡ b → x ≡ y
    zero_is same =
        let z : a -ℤ b ≡ pos 0 = omega (arith, ints) in
        let m : e *ℤ (x -ℤ y) ≡ e *ℤ pos 0 = sym is ∙ ap (λ z. t *ℤ z) z ∙ *ℤ-zero t ∙ sym (*ℤ-zero e) in
        let d = mul-cancel_left e (x -ℤ y) (pos 0) (positive_differs e he) m in
        omega (arith, ints)

-- the part m over e is scale * number over t
pub order_is : (n d c t f u m e : ℤ) → pos 0 <ℤ t → pos 0 <ℤ e → m *ℤ t ≡ (f *ℤ u) *ℤ e → int_cmp (n *ℤ e) (((c *ℤ e) +ℤ m) *ℤ d) ≡ int_cmp (t *ℤ (n -ℤ (c *ℤ d))) (u *ℤ (f *ℤ d))
order_is n d c t f u m e ht he is = same_order t e (n *ℤ e) (((c *ℤ e) +ℤ m) *ℤ d) (t *ℤ (n -ℤ (c *ℤ d))) (u *ℤ (f *ℤ d)) ht he (go is)
  where
    go : m *ℤ t ≡ (f *ℤ u) *ℤ e → t *ℤ ((n *ℤ e) -ℤ (((c *ℤ e) +ℤ m) *ℤ d)) ≡ e *ℤ ((t *ℤ (n -ℤ (c *ℤ d))) -ℤ (u *ℤ (f *ℤ d)))
    go is = let g : (m *ℤ t) *ℤ d ≡ ((f *ℤ u) *ℤ e) *ℤ d = ap (λ z. z *ℤ d) is in let h = simp ring at g in simp ring (omega (arith, ints))
