-- The terms of an exchange as a relation over the new set, where the numbers of the two relations may have a common factor.
use Rattle.std.proofs.Common.{◌≡◌, ◌≢◌, ◌⊎◌, ℕ, ◌<◌, List, Contains, ap, ap₂, refl, subst, sym, ◌∙◌, inl, inr, arith}
use Rattle.std.specs.Prelude.{ℤ, pos, neg_ℤ, ◌+ℤ◌, ◌-ℤ◌, ◌*ℤ◌}
use Rattle.std.proofs.lemmas.Int.{ints}
use Rattle.rg_linear.specs.System.{LinearSystem, variables}
use Rattle.rg_integers.specs.Sum.{sum_below, only}
use Rattle.rg_integers.specs.Sign.{sign, size}
use Rattle.rg_linear.specs.Dictionary.{Relation, Holds, IsOver}
use Rattle.rg_linear.specs.Exchange.{exchanged, renewed}
use Rattle.rg_integers.proofs.Ring.{ring}
use Rattle.rg_integers.proofs.Signs.{sign-times}
use Rattle.rg_integers.proofs.Sums.{sum_below-same, sum_below-plus, sum_below-both, sum_below-only}
use Rattle.rg_linear.proofs.Members.{is_member, equal_or_not, differs, same, Contains-exchanged_new, Contains-exchanged_old}

pub sum_only : (n i : ℕ) (z : ℤ) → i < n → sum_below n (only i z) ≡ z
sum_only n i z lt = sum_below-only n i (only i z) lt (λ m h ne. rw (differs m i ne) refl) ∙ rw (same i) refl

-- it holds of the variable of the second relation
module _ (system : LinearSystem) (members : List ℕ) (i j : ℕ) (k : Relation) (variable : i < variables system) (outside : ¬ Contains members i) (k_over : IsOver members k) (k_holds : Holds system i k)
    (w : ℕ) (l : Relation) (l_over : IsOver members l) (l_holds : Holds system w l) where
  renewed_at : (v : ℕ → ℤ) (m : ℕ)
      → (renewed k i j l).coefficient m *ℤ v m ≡ (only i (((sign (k.coefficient j) *ℤ k.d) *ℤ l.coefficient j) *ℤ v i) m) +ℤ
      ((size (k.coefficient j) *ℤ (l.coefficient m *ℤ v m)) +ℤ (neg_ℤ (sign (k.coefficient j) *ℤ l.coefficient j) *ℤ (k.coefficient m *ℤ v m)))
  renewed_at v m = go (equal_or_not m i)
    where
      first : (a y q x h z : ℤ) → x ≡ pos 0 → z ≡ pos 0 → a *ℤ y ≡ (a *ℤ y) +ℤ ((q *ℤ (x *ℤ y)) +ℤ (neg_ℤ h *ℤ (z *ℤ y)))
      first a y q x h z e f = rw (e, f) (simp ring (omega (arith, ints)))

      rest : (q x h z lj y : ℤ) → ((x *ℤ q) -ℤ ((h *ℤ z) *ℤ lj)) *ℤ y ≡ pos 0 +ℤ ((q *ℤ (x *ℤ y)) +ℤ (neg_ℤ (h *ℤ lj) *ℤ (z *ℤ y)))
      rest q x h z lj y = simp ring (omega (arith, ints))

      go : (m ≡ i) ⊎ (m ≢ i)
          → (renewed k i j l).coefficient m *ℤ v m ≡ (only i (((sign (k.coefficient j) *ℤ k.d) *ℤ l.coefficient j) *ℤ v i) m) +ℤ
          ((size (k.coefficient j) *ℤ (l.coefficient m *ℤ v m)) +ℤ (neg_ℤ (sign (k.coefficient j) *ℤ l.coefficient j) *ℤ (k.coefficient m *ℤ v m)))
      go (inl e) = rw (e, same i) (first ((sign (k.coefficient j) *ℤ k.d) *ℤ l.coefficient j) (v i) (size (k.coefficient j)) (l.coefficient i) (sign (k.coefficient j) *ℤ l.coefficient j)
          (k.coefficient i) (l_over i outside) (k_over i outside))
      go (inr ne) = rw (differs m i ne) (rest (size (k.coefficient j)) (l.coefficient m) (sign (k.coefficient j)) (k.coefficient m) (l.coefficient j) (v m))

  pub renewed_holds : Holds system w (renewed k i j l)
  renewed_holds scale v p = finish (size (k.coefficient j)) (sign (k.coefficient j)) k.d k.constant (v i) l.d l.constant (v w) (l.coefficient j) scale _ _ _ (k_holds scale v p)
      (l_holds scale v p) sum
    where
      sum : sum_below (variables system) (λ m. (renewed k i j l).coefficient m *ℤ v m) ≡ (((sign (k.coefficient j) *ℤ k.d) *ℤ l.coefficient j) *ℤ v i) +ℤ
          ((size (k.coefficient j) *ℤ sum_below (variables system) (λ m. l.coefficient m *ℤ v m)) +ℤ (neg_ℤ (sign (k.coefficient j) *ℤ l.coefficient j) *ℤ sum_below (variables system)
          (λ m. k.coefficient m *ℤ v m)))
      sum = sum_below-same (variables system) _ _ (λ m lt. renewed_at v m) ∙ sum_below-plus (variables system) _ _
          ∙ ap₂ ◌+ℤ◌ (sum_only (variables system) i _ variable)
          (sum_below-both (variables system) (size (k.coefficient j)) (neg_ℤ (sign (k.coefficient j) *ℤ l.coefficient j)) (λ m. l.coefficient m *ℤ v m) (λ m. k.coefficient m *ℤ v m))

      finish : (q h d c x e f y lj s sk sl total : ℤ) → d *ℤ x ≡ (c *ℤ s) +ℤ sk → e *ℤ y ≡ (f *ℤ s) +ℤ sl → total ≡ (((h *ℤ d) *ℤ lj) *ℤ x) +ℤ ((q *ℤ sl) +ℤ (neg_ℤ (h *ℤ lj) *ℤ sk))
          → (e *ℤ q) *ℤ y ≡ (((f *ℤ q) -ℤ ((h *ℤ c) *ℤ lj)) *ℤ s) +ℤ total
      finish q h d c x e f y lj s sk sl total hk hl t =
          let a : (h *ℤ lj) *ℤ (d *ℤ x) ≡ (h *ℤ lj) *ℤ ((c *ℤ s) +ℤ sk) = ap (λ z. (h *ℤ lj) *ℤ z) hk in
          let b : q *ℤ (e *ℤ y) ≡ q *ℤ ((f *ℤ s) +ℤ sl) = ap (λ z. q *ℤ z) hl in
          let a' = simp ring at a in
          let b' = simp ring at b in
          rw t (simp ring (omega (arith, ints)))

-- it names members of the new set alone
pub renewed_over : (members : List ℕ) (i j : ℕ) (k : Relation) → ¬ Contains members i → IsOver members k → Contains members j → (l : Relation) → IsOver members l
    → IsOver (exchanged members i j) (renewed k i j l)
renewed_over members i j k outside k_over member l l_over m lacks = go (equal_or_not m i) (equal_or_not m j) (is_member members m)
  where
    apart : j ≢ i
    apart e = outside (subst (Contains members) e member)

    at_j : (x z h q : ℤ) → h *ℤ z ≡ q → (x *ℤ q) -ℤ ((h *ℤ z) *ℤ x) ≡ pos 0
    at_j x z h q e = rw e (simp ring (omega (arith, ints)))

    none : (x q h z lj : ℤ) → x ≡ pos 0 → z ≡ pos 0 → (x *ℤ q) -ℤ ((h *ℤ z) *ℤ lj) ≡ pos 0
    none x q h z lj e f = rw (e, f) (simp ring refl)

    go : (m ≡ i) ⊎ (m ≢ i) → (m ≡ j) ⊎ (m ≢ j) → Contains members m ⊎ ¬ Contains members m → (renewed k i j l).coefficient m ≡ pos 0
    go (inl e) _ _ = absurd (lacks (subst (λ x. Contains (exchanged members i j) x) (sym e) (Contains-exchanged_new i j members)))
    go (inr ne) (inl e) _ = rw (e, differs j i apart) (at_j (l.coefficient j) (k.coefficient j) (sign (k.coefficient j)) (size (k.coefficient j)) (sign-times (k.coefficient j)))
    go (inr ne) (inr nj) (inl has) = absurd (lacks (Contains-exchanged_old i j m members has nj))
    go (inr ne) (inr nj) (inr absent) = rw (differs m i ne)
        (none (l.coefficient m) (size (k.coefficient j)) (sign (k.coefficient j)) (k.coefficient m) (l.coefficient j) (l_over m absent) (k_over m absent))
