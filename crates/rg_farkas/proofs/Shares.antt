-- What the shares of a node's weights are, and add up to.
use Rattle.std.proofs.Common.{◌≡◌, ◌≢◌, ◌⊎◌, ⊎_elim, ℕ, zero, suc, ◌+◌, ◌<◌, ◌≤◌, ◌||◌, Bool, true, false, if◌then◌else◌, List, [], ◌∷◌, Ok, All, inl, inr, ap, ap₂, refl, subst, sym, ◌∙◌, arith}
use Rattle.std.specs.Prelude.{ℤ, pos, negsuc, ◌+ℤ◌, ◌*ℤ◌, ◌<ℤ◌, ◌≤ℤ◌, int_lt}
use Rattle.std.proofs.Math.IntN.{zero-*ℤ, *ℤ-zero}
use Rattle.std.proofs.lemmas.Int.{ints}
use Rattle.std.proofs.lemmas.Bool.{true≢false}
use Rattle.std.proofs.lemmas.List.Elements.{All-nil, All-cons}
use Rattle.rg_integers.specs.Sum.{sum_below}
use Rattle.rg_integers.proofs.Ring.{ring, mul-add}
use Rattle.rg_integers.proofs.Order.{mul-cancel, mul_positive, positive_differs, factor_positive}
use Rattle.rg_integers.proofs.Sums.{sum_below-same, sum_below-first}
use Rattle.rg_linear.specs.Branching.{weights_from, SplitSide}
use Rattle.rg_cert_meaning.specs.declared.RowName.{RowName}
use Rattle.rg_cert_meaning.specs.Row.{Side}
use Rattle.rg_cert_meaning.specs.Refutes.{NamedRow}
use Rattle.rg_folds.specs.Fold.{each}
use Rattle.rg_case_folds.specs.Rewriting.{CaseSystem}
use Rattle.rg_case_folds.specs.Spreading.{Share, name_of, factor_of, share_fold}
use Rattle.rg_farkas.specs.Refuting.{AreShares}
use Rattle.rg_farkas.proofs.Listed.{rows_sum}
use Rattle.rg_linear.proofs.Splits.{nonzero_test as zero_of}

-- ---- the shares of weights

-- what a share takes from its weight
pub share_is : (case : CaseSystem) (above : List SplitSide) (named : List Side) (i : ℕ) (z : ℤ) (s : Share) → share_fold case above named (record { row = i; multiplier = z }) (Ok s)
    → (s.name ≡ name_of case i) × (pos 0 <ℤ s.multiplier.bottom) × (s.multiplier.top *ℤ (factor_of case above named i).bottom ≡ (z *ℤ (factor_of case above named i).top) *ℤ s.multiplier.bottom)
share_is case above named i z s (m, (_, _, r), e) =
    subst (λ (u : Share). (u.name ≡ name_of case i) × (pos 0 <ℤ u.multiplier.bottom)
    × (u.multiplier.top *ℤ (factor_of case above named i).bottom ≡ (z *ℤ (factor_of case above named i).top) *ℤ u.multiplier.bottom)) (sym e)
    (refl, r.positive, close m.top (factor_of case above named i).bottom ((z *ℤ (factor_of case above named i).top) *ℤ m.bottom) r.value)
  where
    close : (t b v : ℤ) → t *ℤ (pos 1 *ℤ b) ≡ v → t *ℤ b ≡ v
    close t b v e = ap (λ x. t *ℤ x) (one b) ∙ e
      where
        one : (b : ℤ) → b ≡ pos 1 *ℤ b
        one b = omega (arith, ints)

-- what holds of the rows' names holds of the shares'
pub names_all : (case : CaseSystem) (above : List SplitSide) (named : List Side) (total : ℕ) (multiplier : ℕ → ℤ) (P : RowName → Type 0)
    → ((i : ℕ) → i < total → P (name_of case i)) → (a n : ℕ) → a + n ≤ total → (shares : List Share) → each (share_fold case above named) (weights_from multiplier a n)
    (Ok shares) → All (λ s. P s.name) shares
names_all case above named total multiplier P each_name a zero le shares e = subst (λ (l : List Share). All (λ s. P s.name) l) (sym e) (All-nil (λ s. P s.name))
names_all case above named total multiplier P each_name a (suc n) le shares h =
    go (int_lt (multiplier a) (pos 0) || int_lt (pos 0) (multiplier a)) h
    (λ rest h'. names_all case above named total multiplier P each_name (suc a) n (omega arith) rest h')
  where
    go : (b : Bool) → each (share_fold case above named)
        (if b then (record { row = a; multiplier = multiplier a } ∷ weights_from multiplier (suc a) n) else weights_from multiplier (suc a) n) (Ok shares)
        → ((rest : List Share) → each (share_fold case above named) (weights_from multiplier (suc a) n) (Ok rest) → All (λ s. P s.name) rest) → All (λ s. P s.name) shares
    go true (s, made, (rest, more, e)) next = subst (λ (l : List Share). All (λ u. P u.name) l) (sym e)
        (All-cons (λ u. P u.name) s rest (subst P (sym (share_is case above named a (multiplier a) s made).0) (each_name a (omega arith))) (next rest more))
    go false h' next = next shares h'

-- the shares are positive
pub shares_positive : (case : CaseSystem) (above : List SplitSide) (named : List Side) (total : ℕ) (multiplier : ℕ → ℤ) → ((i : ℕ) → i < total → pos 0 ≤ℤ multiplier i)
    → ((i : ℕ) → i < total → (pos 0 <ℤ (factor_of case above named i).top) × (pos 0 <ℤ (factor_of case above named i).bottom)) → (a n : ℕ) → a + n ≤ total
    → (shares : List Share) → each (share_fold case above named) (weights_from multiplier a n) (Ok shares) → All (λ s. pos 0 <ℤ s.multiplier.top) shares
shares_positive case above named total multiplier weak factors a zero le shares e =
    subst (λ (l : List Share). All (λ s. pos 0 <ℤ s.multiplier.top) l) (sym e) (All-nil (λ s. pos 0 <ℤ s.multiplier.top))
shares_positive case above named total multiplier weak factors a (suc n) le shares h =
    go (int_lt (multiplier a) (pos 0) || int_lt (pos 0) (multiplier a)) refl h
    (λ rest h'. shares_positive case above named total multiplier weak factors (suc a) n (omega arith) rest h')
  where
    nonzero : (z : ℤ) → (int_lt z (pos 0) || int_lt (pos 0) z) ≡ true → pos 0 ≤ℤ z → pos 0 <ℤ z
    nonzero z e h = ⊎_elim (λ lt. lt) (λ is. absurd (other z e is)) (positive_or_zero z h)
      where
        positive_or_zero : (z : ℤ) → pos 0 ≤ℤ z → (pos 0 <ℤ z) ⊎ (z ≡ pos 0)
        positive_or_zero (pos zero) h = inr refl
        positive_or_zero (pos (suc n)) h = inl (omega (arith, ints))
        positive_or_zero (negsuc n) h = absurd (omega (arith, ints))

        other : (z : ℤ) → (int_lt z (pos 0) || int_lt (pos 0) z) ≡ true → z ≡ pos 0 → ⊥
        other z e is = true≢false (sym (subst (λ y. (int_lt y (pos 0) || int_lt (pos 0) y) ≡ true) is e))

    one : (s : Share) → share_fold case above named (record { row = a; multiplier = multiplier a }) (Ok s) → pos 0 <ℤ multiplier a → pos 0 <ℤ s.multiplier.top
    one s made positive =
        let (_, bottom, value) = share_is case above named a (multiplier a) s made in
        let (top', bottom') = factors a (omega arith) in
        factor_positive (factor_of case above named a).bottom s.multiplier.top (weaker (factor_of case above named a).bottom bottom')
        (subst (λ z. pos 0 <ℤ z) (sym (turn (factor_of case above named a).bottom s.multiplier.top ∙ value))
        (mul_positive (multiplier a *ℤ (factor_of case above named a).top) s.multiplier.bottom
        (mul_positive (multiplier a) (factor_of case above named a).top positive top') bottom))
      where
        weaker : (d : ℤ) → pos 0 <ℤ d → pos 0 ≤ℤ d
        weaker d h = omega (arith, ints)

        turn : (b t : ℤ) → b *ℤ t ≡ t *ℤ b
        turn b t = simp ring

    go : (b : Bool) → (int_lt (multiplier a) (pos 0) || int_lt (pos 0) (multiplier a)) ≡ b
        → each (share_fold case above named) (if b then (record { row = a; multiplier = multiplier a } ∷ weights_from multiplier (suc a) n) else weights_from multiplier
        (suc a) n) (Ok shares) → ((rest : List Share) → each (share_fold case above named) (weights_from multiplier (suc a) n) (Ok rest)
        → All (λ s. pos 0 <ℤ s.multiplier.top) rest) → All (λ s. pos 0 <ℤ s.multiplier.top) shares
    go true is (s, made, (rest, more, e)) next =
        subst (λ (l : List Share). All (λ u. pos 0 <ℤ u.multiplier.top) l) (sym e)
        (All-cons (λ u. pos 0 <ℤ u.multiplier.top) s rest (one s made (nonzero (multiplier a) is (weak a (omega arith)))) (next rest more))
    go false is h' next = next shares h'

-- ---- sums over the shares

-- F of the named rows, times the factor, is G of the system's rows
module _ (case : CaseSystem) (above : List SplitSide) (named : List Side) (total : ℕ) (multiplier : ℕ → ℤ) (scale : ℤ) (F : RowName → ℤ) (G : ℕ → ℤ)
    (bottoms : (i : ℕ) → i < total → pos 0 <ℤ (factor_of case above named i).bottom)
    (links : (i : ℕ) → i < total → (factor_of case above named i).bottom *ℤ G i ≡ (factor_of case above named i).top *ℤ F (name_of case i)) where
  one_share : (i : ℕ) (s : Share) (r : NamedRow) → i < total → share_fold case above named (record { row = i; multiplier = multiplier i }) (Ok s)
      → r.name ≡ s.name → r.multiplier *ℤ s.multiplier.bottom ≡ s.multiplier.top *ℤ scale → r.multiplier *ℤ F r.name ≡ scale *ℤ (multiplier i *ℤ G i)
  one_share i s r lt made has_name number =
      let (name, bottom, value) = share_is case above named i (multiplier i) s made in
      close r.multiplier s.multiplier.bottom s.multiplier.top scale (factor_of case above named i).bottom (factor_of case above named i).top (multiplier i) (G i)
      (F r.name) (positive_differs _ (mul_positive _ _ bottom (bottoms i lt))) number value
      (links i lt ∙ ap (λ z. (factor_of case above named i).top *ℤ F z) (sym (has_name ∙ name)))
    where
      close : (n b t c fb ft m g f : ℤ) → (b *ℤ fb) ≢ pos 0 → n *ℤ b ≡ t *ℤ c → t *ℤ fb ≡ (m *ℤ ft) *ℤ b → fb *ℤ g ≡ ft *ℤ f → n *ℤ f ≡ c *ℤ (m *ℤ g)
      close n b t c fb ft m g f ne p q r = mul-cancel (n *ℤ f) (c *ℤ (m *ℤ g)) (b *ℤ fb) ne
          (turn n f b fb ∙ ap (λ z. z *ℤ (f *ℤ fb)) p ∙ turn' t c f fb ∙ ap (λ z. z *ℤ (c *ℤ f)) q ∙ turn'' m ft b c f
          ∙ ap (λ z. ((m *ℤ b) *ℤ c) *ℤ z) (sym r) ∙ last m b c fb g)
        where
          turn : (n f b fb : ℤ) → (n *ℤ f) *ℤ (b *ℤ fb) ≡ (n *ℤ b) *ℤ (f *ℤ fb)
          turn n f b fb = simp ring

          turn' : (t c f fb : ℤ) → (t *ℤ c) *ℤ (f *ℤ fb) ≡ (t *ℤ fb) *ℤ (c *ℤ f)
          turn' t c f fb = simp ring

          turn'' : (m ft b c f : ℤ) → ((m *ℤ ft) *ℤ b) *ℤ (c *ℤ f) ≡ ((m *ℤ b) *ℤ c) *ℤ (ft *ℤ f)
          turn'' m ft b c f = simp ring

          last : (m b c fb g : ℤ) → ((m *ℤ b) *ℤ c) *ℤ (fb *ℤ g) ≡ (c *ℤ (m *ℤ g)) *ℤ (b *ℤ fb)
          last m b c fb g = simp ring

  shares_sum_from : (a n : ℕ) → a + n ≤ total → (shares : List Share) (rows : List NamedRow)
      → each (share_fold case above named) (weights_from multiplier a n) (Ok shares) → AreShares scale shares rows
      → rows_sum F rows ≡ scale *ℤ sum_below n (λ i. multiplier (a + i) *ℤ G (a + i))
  shares_sum_from a zero le shares rows e are = none shares rows e are
    where
      none : (shares : List Share) (rows : List NamedRow) → shares ≡ [] → AreShares scale shares rows → rows_sum F rows ≡ scale *ℤ pos 0
      none shares rows e are = empty rows (subst (λ l. AreShares scale l rows) e are)
        where
          empty : (rows : List NamedRow) → AreShares scale [] rows → rows_sum F rows ≡ scale *ℤ pos 0
          empty [] are = sym (*ℤ-zero scale)
          empty (r ∷ rows) are = absurd are
  shares_sum_from a (suc n) le shares rows h are =
      go (int_lt (multiplier a) (pos 0) || int_lt (pos 0) (multiplier a)) refl h (λ rest rows' h' are'. shares_sum_from (suc a) n (omega arith) rest rows' h' are')
    where
      first : scale *ℤ sum_below (suc n) (λ i. multiplier (a + i) *ℤ G (a + i)) ≡ (scale *ℤ (multiplier a *ℤ G a)) +ℤ (scale *ℤ sum_below n (λ i. multiplier (suc a + i) *ℤ G (suc a + i)))
      first = ap (λ z. scale *ℤ z) (sum_below-first n (λ i. multiplier (a + i) *ℤ G (a + i)) ∙ ap₂ ◌+ℤ◌ (ap (λ k. multiplier k *ℤ G k) (none a))
          (sum_below-same n (λ i. multiplier (a + suc i) *ℤ G (a + suc i)) (λ i. multiplier (suc a + i) *ℤ G (suc a + i))
          (λ i lt. ap (λ k. multiplier k *ℤ G k) (next a i)))) ∙ mul-add scale (multiplier a *ℤ G a) (sum_below n (λ i. multiplier (suc a + i) *ℤ G (suc a + i)))
        where
          none : (a : ℕ) → a + 0 ≡ a
          none a = omega arith

          next : (a i : ℕ) → a + suc i ≡ suc a + i
          next a i = omega arith

      taken : (s : Share) (rest : List Share) (rows : List NamedRow) → share_fold case above named (record { row = a; multiplier = multiplier a }) (Ok s)
          → AreShares scale (s ∷ rest) rows → ((rows' : List NamedRow) → AreShares scale rest rows'
          → rows_sum F rows' ≡ scale *ℤ sum_below n (λ i. multiplier (suc a + i) *ℤ G (suc a + i)))
          → rows_sum F rows ≡ scale *ℤ sum_below (suc n) (λ i. multiplier (a + i) *ℤ G (a + i))
      taken s rest [] made are next = absurd are
      taken s rest (r ∷ rows) made (has_name, number, are) next = ap₂ ◌+ℤ◌ (one_share a s r (omega arith) made has_name number) (next rows are) ∙ sym first

      go : (b : Bool) → (int_lt (multiplier a) (pos 0) || int_lt (pos 0) (multiplier a)) ≡ b
          → each (share_fold case above named) (if b then (record { row = a; multiplier = multiplier a } ∷ weights_from multiplier (suc a) n) else weights_from
          multiplier (suc a) n) (Ok shares) → ((rest : List Share) (rows' : List NamedRow) → each (share_fold case above named) (weights_from multiplier (suc a) n)
          (Ok rest) → AreShares scale rest rows' → rows_sum F rows' ≡ scale *ℤ sum_below n (λ i. multiplier (suc a + i) *ℤ G (suc a + i)))
          → rows_sum F rows ≡ scale *ℤ sum_below (suc n) (λ i. multiplier (a + i) *ℤ G (a + i))
      go true is (s, made, (rest, more, e)) next = taken s rest rows made (subst (λ l. AreShares scale l rows) e are) (λ rows' are'. next rest rows' more are')
      go false is h' next = next shares rows h' are ∙ drop _ _ (ap (λ z. scale *ℤ (z *ℤ G a)) (zero_of (multiplier a) is) ∙ zeros scale (G a)) ∙ sym first
        where
          drop : (s z : ℤ) → z ≡ pos 0 → s ≡ z +ℤ s
          drop s z e = omega (arith, ints)

          zeros : (c g : ℤ) → c *ℤ (pos 0 *ℤ g) ≡ pos 0
          zeros c g = ap (λ z. c *ℤ z) (zero-*ℤ g) ∙ *ℤ-zero c

  pub shares_sum : (n : ℕ) → n ≡ total → (shares : List Share) (rows : List NamedRow)
      → each (share_fold case above named) (weights_from multiplier 0 n) (Ok shares) → AreShares scale shares rows
      → rows_sum F rows ≡ scale *ℤ sum_below n (λ i. multiplier i *ℤ G i)
  shares_sum n e shares rows h are = shares_sum_from 0 n (omega arith) shares rows h are
      ∙ ap (λ z. scale *ℤ z) (sum_below-same n (λ i. multiplier (0 + i) *ℤ G (0 + i)) (λ i. multiplier i *ℤ G i) (λ i lt. ap (λ k. multiplier k *ℤ G k) (none i)))
    where
      none : (i : ℕ) → 0 + i ≡ i
      none i = omega arith
