-- A branching over forms between bounds ends.
use Rattle.std.proofs.Common.{◌≡◌, ◌≢◌, ◌⊎◌, ⊎_elim, ℕ, zero, suc, ◌+◌, ◌*◌, ◌/◌, ◌%◌, ◌<◌, ◌≤◌, Bool, true, false, ◌==◌, if◌then◌else◌, List, [], ◌∷◌, ◌++◌, length, length-append, append-nil, append_assoc, ap, refl, subst, sym, ◌∙◌, inl, inr, arith}
use Rattle.std.specs.Prelude.{ℤ, pos, negsuc, neg_ℤ, ◌+ℤ◌, ◌-ℤ◌, ◌*ℤ◌, ◌≤ℤ◌, ◌<ℤ◌}
use Rattle.std.proofs.Math.Nat.{div-add-mod'}
use Rattle.std.proofs.lemmas.Int.{ints, by_lt_z}
use Rattle.rg_linear.specs.System.{LinearRow, LinearSystem, row_variable, IsPoint, MeetsRows}
use Rattle.rg_linear.specs.Dictionary.{Takes}
use Rattle.rg_linear.specs.Descent.{Outcome, Outcome.point, Outcome.refuted, Outcome.wide, DescentFromStart, IsAtZero}
use Rattle.rg_linear.specs.Room.{gap_of, gap, total}
use Rattle.rg_branch_trees.specs.Trees.{Tree.split, low_side, high_side}
use Rattle.rg_linear.specs.Branching.{Form, form_at, scaled_value, SplitSide, side_row, node_system, IsWholeAt, FirstFraction, SplitTree, BranchOutcome}
use Rattle.rg_linear.specs.Branching.{BranchOutcome.found, BranchOutcome.tree, BranchOutcome.stopped, IsEnd, BranchFrom, BranchFrom.passes}
use Rattle.rg_linear.specs.Branching.{BranchFrom.refutes, BranchFrom.whole, BranchFrom.low_ends, BranchFrom.high_ends, BranchFrom.both_refuted, Branching, ArePositive}
use Rattle.rg_linear.specs.Branching.{AreBounded, low_end, high_end, low_at, high_at, IsInInterval, SidesWithin, TreeWithin, SplitsWithin}
use Rattle.std.proofs.Math.IntN.{*ℤ-zero, *ℤ_comm}
use Rattle.rg_integers.proofs.Ring.{neg-mul}
use Rattle.rg_integers.proofs.Order.{mul_positive}
use Rattle.rg_linear.proofs.Members.{equal_or_not, differs, same}
use Rattle.rg_linear.proofs.Points.{point_is_sound}
use Rattle.rg_linear.proofs.Refuting.{start_refuted}
use Rattle.rg_linear.proofs.Total.{start_ends}
use Rattle.rg_linear.proofs.Branches.{less_of_times, point_free}
use Rattle.rg_linear.proofs.Splits.{with_row, node_system-side, index-front, index-last, worth, low_worth, high_worth}

-- ---- floors

-- the greatest whole number q with q * x at most z
record Floor (z x : ℤ) : Type 0 where
  pub q : ℤ
  pub low : (q *ℤ x) ≤ℤ z
  pub high : z <ℤ ((q +ℤ pos 1) *ℤ x)

above_negative : (a q x : ℕ) → q * suc x ≤ a → negsuc a <ℤ ((negsuc q +ℤ pos 1) *ℤ pos (suc x))
above_negative a q x h = subst (λ z. negsuc a <ℤ z) (sym (ap (λ z. z *ℤ pos (suc x)) (step q) ∙ neg-mul (pos q) (pos (suc x)))) (below a q x h)
  where
    step : (q : ℕ) → negsuc q +ℤ pos 1 ≡ neg_ℤ (pos q)
    step q = omega (arith, ints)

    below : (a q x : ℕ) → q * suc x ≤ a → negsuc a <ℤ neg_ℤ (pos q *ℤ pos (suc x))
    below a q x h = omega (arith, ints)

floor_of : (z : ℤ) (x : ℕ) → Floor z (pos (suc x))
floor_of (pos a) x = record {
  q = pos (a / suc x);
  low = (let e = div-add-mod' a (suc x) in let lt : a % suc x < suc x = omega arith in omega (arith, ints));
  high = (let e = div-add-mod' a (suc x) in let lt : a % suc x < suc x = omega arith in omega (arith, ints));
}
floor_of (negsuc a) x = record {
  q = negsuc (a / suc x);
  low = (let e = div-add-mod' a (suc x) in let lt : a % suc x < suc x = omega arith in omega (arith, ints));
  high = (let e = div-add-mod' a (suc x) in above_negative a (a / suc x) x (omega arith));
}

floor_by : (z x : ℤ) → pos 0 <ℤ x → Floor z x
floor_by z (pos zero) h = absurd (omega (arith, ints))
floor_by z (pos (suc x)) h = floor_of z x
floor_by z (negsuc x) h = absurd (omega (arith, ints))

-- ---- the first form that is not whole

module _ (system : LinearSystem) (forms : List Form) (positive : ArePositive forms) (above : List SplitSide) (members : List ℕ) (scale : ℤ)
    (v : ℕ → ℤ) (p : IsPoint (node_system system forms above) scale v) (zeros : IsAtZero members v) where
  record Fraction (b : ℕ) : Type 0 where
    pub f : ℕ
    pub u : ℤ
    pub first : FirstFraction system forms above members f u

  at_form : (f : ℕ) → f < length forms → ((g : ℕ) → g < f → IsWholeAt system (form_at forms g) scale v)
      → IsWholeAt system (form_at forms f) scale v ⊎ ((u : ℤ) × FirstFraction system forms above members f u)
  at_form f lt before = go (floor_by (scaled_value system (form_at forms f) v) ((form_at forms f).scale *ℤ scale) (mul_positive _ _ (positive f lt) p.positive))
    where
      go : Floor (scaled_value system (form_at forms f) v) ((form_at forms f).scale *ℤ scale) → IsWholeAt system (form_at forms f) scale v ⊎ ((u : ℤ) × FirstFraction system forms above members f u)
      go r = by_lt_z (r.q *ℤ ((form_at forms f).scale *ℤ scale)) (scaled_value system (form_at forms f) v)
          (λ less. inr (r.q, record { scale = scale; v = v; point = p; zeros = zeros; within = lt; before = before; low = less; high = r.high }))
          (λ most. inl (r.q, equal _ _ most r.low))
        where
          equal : (a b : ℤ) → a ≤ℤ b → b ≤ℤ a → a ≡ b
          equal a b h g = omega (arith, ints)

  first_fraction : (b : ℕ) → b ≤ length forms → ((g : ℕ) → g < b → IsWholeAt system (form_at forms g) scale v) ⊎ Fraction b
  first_fraction zero le = inl (λ g lt. absurd (omega arith))
  first_fraction (suc b) le = go (first_fraction b (omega arith))
    where
      more : ((g : ℕ) → g < b → IsWholeAt system (form_at forms g) scale v) → IsWholeAt system (form_at forms b) scale v → (g : ℕ) → g < suc b → IsWholeAt system (form_at forms g) scale v
      more all here g lt = ⊎_elim (λ e. subst (λ x. IsWholeAt system (form_at forms x) scale v) (sym e) here) (λ ne. all g (omega arith)) (equal_or_not g b)

      go : ((g : ℕ) → g < b → IsWholeAt system (form_at forms g) scale v) ⊎ Fraction b → ((g : ℕ) → g < suc b → IsWholeAt system (form_at forms g) scale v) ⊎ Fraction (suc b)
      go (inr r) = inr (record { f = r.f; u = r.u; first = r.first })
      go (inl all) = ⊎_elim (λ here. inl (more all here)) (λ (u, first). inr (record { f = b; u = u; first = first })) (at_form b (omega arith) all)

-- ---- the intervals

low_end-low : (low : ℤ) (f g : ℕ) (u : ℤ) (above : List SplitSide) → low_end low f (above ++ low_side g u ∷ []) ≡ low_end low f above
low_end-low low f g u [] = go (g == f)
  where
    go : (b : Bool) → (if b then low else low) ≡ low
    go true = refl
    go false = refl
low_end-low low f g u (side ∷ above) = low_end-low (if side.form == f then (if side.high then side.at +ℤ pos 1 else low) else low) f g u above

low_end-high : (low : ℤ) (f g : ℕ) (u : ℤ) (above : List SplitSide) → low_end low f (above ++ high_side g u ∷ []) ≡ (if g == f then u +ℤ pos 1 else low_end low f above)
low_end-high low f g u [] = refl
low_end-high low f g u (side ∷ above) = low_end-high (if side.form == f then (if side.high then side.at +ℤ pos 1 else low) else low) f g u above

high_end-high : (high : ℤ) (f g : ℕ) (u : ℤ) (above : List SplitSide) → high_end high f (above ++ high_side g u ∷ []) ≡ high_end high f above
high_end-high high f g u [] = go (g == f)
  where
    go : (b : Bool) → (if b then high else high) ≡ high
    go true = refl
    go false = refl
high_end-high high f g u (side ∷ above) = high_end-high (if side.form == f then (if side.high then high else side.at) else high) f g u above

high_end-low : (high : ℤ) (f g : ℕ) (u : ℤ) (above : List SplitSide) → high_end high f (above ++ low_side g u ∷ []) ≡ (if g == f then u else high_end high f above)
high_end-low high f g u [] = refl
high_end-low high f g u (side ∷ above) = high_end-low (if side.form == f then (if side.high then high else side.at) else high) f g u above

-- each form lies in its interval wherever the rows of the node are met
pub Within : LinearSystem → List Form → List SplitSide → Type 0
Within system forms above = (f : ℕ) (scale : ℤ) (v : ℕ → ℤ) → f < length forms → IsPoint (node_system system forms above) scale v → MeetsRows (node_system system forms above) v
    → ((low_at forms above f *ℤ ((form_at forms f).scale *ℤ scale)) ≤ℤ scaled_value system (form_at forms f) v)
    × (scaled_value system (form_at forms f) v ≤ℤ (high_at forms above f *ℤ ((form_at forms f).scale *ℤ scale)))

-- a point with one row more is a point, which meets that row too
less_point : (system : LinearSystem) (row : LinearRow) (scale : ℤ) (v : ℕ → ℤ) → IsPoint (with_row system row) scale v → IsPoint system scale v
less_point system row scale v p = record {
  positive = p.positive;
  rows = λ i lt. subst (λ r. v (row_variable system i) ≡ worth system.columns r scale v) (index-front system.rows (row ∷ []) _ i lt) (p.rows i (further i lt));
}
  where
    further : (i : ℕ) → i < length system.rows → i < length (system.rows ++ row ∷ [])
    further i lt = let e = length-append system.rows (row ∷ []) in omega arith

less_meets : (system : LinearSystem) (row : LinearRow) (v : ℕ → ℤ) → MeetsRows (with_row system row) v → MeetsRows system v
less_meets system row v meets i lt = meets i (let e = length-append system.rows (row ∷ []) in omega arith)

last_meets : (system : LinearSystem) (row : LinearRow) (scale : ℤ) (v : ℕ → ℤ) → IsPoint (with_row system row) scale v → MeetsRows (with_row system row) v → pos 0 ≤ℤ worth system.columns row scale v
last_meets system row scale v p meets = subst (λ r. pos 0 ≤ℤ worth system.columns r scale v) (index-last system.rows row _)
    (subst (λ z. pos 0 ≤ℤ z) (p.rows (length system.rows) last) (meets (length system.rows) last))
  where
    last : length system.rows < length (system.rows ++ row ∷ [])
    last = let e = length-append system.rows (row ∷ []) in omega arith

module _ (system : LinearSystem) (forms : List Form) (above : List SplitSide) (within : Within system forms above) (g : ℕ) (u : ℤ) where
  pub within_low : Within system forms (above ++ low_side g u ∷ [])
  unfolding Within
  within_low f scale v lt p meets = (
    subst (λ z. (z *ℤ ((form_at forms f).scale *ℤ scale)) ≤ℤ scaled_value system (form_at forms f) v)
        (sym (low_end-low (form_at forms f).low f g u above)) old.0,
    subst (λ z. scaled_value system (form_at forms f) v ≤ℤ (z *ℤ ((form_at forms f).scale *ℤ scale)))
        (sym (high_end-low (form_at forms f).high f g u above)) (at (equal_or_not g f)),
  )
    where
      p' : IsPoint (with_row (node_system system forms above) (side_row forms (low_side g u))) scale v
      p' = subst (λ s. IsPoint s scale v) (node_system-side system forms above (low_side g u)) p

      meets' : MeetsRows (with_row (node_system system forms above) (side_row forms (low_side g u))) v
      meets' = subst (λ s. MeetsRows s v) (node_system-side system forms above (low_side g u)) meets

      old : ((low_at forms above f *ℤ ((form_at forms f).scale *ℤ scale)) ≤ℤ scaled_value system (form_at forms f) v)
          × (scaled_value system (form_at forms f) v ≤ℤ (high_at forms above f *ℤ ((form_at forms f).scale *ℤ scale)))
      old = within f scale v lt (less_point (node_system system forms above) _ scale v p') (less_meets (node_system system forms above) _ v meets')

      row : pos 0 ≤ℤ ((u *ℤ ((form_at forms g).scale *ℤ scale)) -ℤ scaled_value system (form_at forms g) v)
      row = subst (λ z. pos 0 ≤ℤ z) (low_worth system forms g u scale v) (last_meets (node_system system forms above) (side_row forms (low_side g u)) scale v p' meets')

      most : (a b : ℤ) → pos 0 ≤ℤ (a -ℤ b) → b ≤ℤ a
      most a b h = omega (arith, ints)

      at : (g ≡ f) ⊎ (g ≢ f) → scaled_value system (form_at forms f) v ≤ℤ ((if g == f then u else high_at forms above f) *ℤ ((form_at forms f).scale *ℤ scale))
      at (inl e) = rw (← e, same g) (most _ _ row)
      at (inr ne) = rw (differs g f ne) old.1

  pub within_high : Within system forms (above ++ high_side g u ∷ [])
  unfolding Within
  within_high f scale v lt p meets = (
    subst (λ z. (z *ℤ ((form_at forms f).scale *ℤ scale)) ≤ℤ scaled_value system (form_at forms f) v)
        (sym (low_end-high (form_at forms f).low f g u above)) (at (equal_or_not g f)),
    subst (λ z. scaled_value system (form_at forms f) v ≤ℤ (z *ℤ ((form_at forms f).scale *ℤ scale))) (sym (high_end-high (form_at forms f).high f g u above)) old.1,
  )
    where
      p' : IsPoint (with_row (node_system system forms above) (side_row forms (high_side g u))) scale v
      p' = subst (λ s. IsPoint s scale v) (node_system-side system forms above (high_side g u)) p

      meets' : MeetsRows (with_row (node_system system forms above) (side_row forms (high_side g u))) v
      meets' = subst (λ s. MeetsRows s v) (node_system-side system forms above (high_side g u)) meets

      old : ((low_at forms above f *ℤ ((form_at forms f).scale *ℤ scale)) ≤ℤ scaled_value system (form_at forms f) v)
          × (scaled_value system (form_at forms f) v ≤ℤ (high_at forms above f *ℤ ((form_at forms f).scale *ℤ scale)))
      old = within f scale v lt (less_point (node_system system forms above) _ scale v p') (less_meets (node_system system forms above) _ v meets')

      row : pos 0 ≤ℤ (scaled_value system (form_at forms g) v -ℤ ((u +ℤ pos 1) *ℤ ((form_at forms g).scale *ℤ scale)))
      row = subst (λ z. pos 0 ≤ℤ z) (high_worth system forms g u scale v) (last_meets (node_system system forms above) (side_row forms (high_side g u)) scale v p' meets')

      most : (a b : ℤ) → pos 0 ≤ℤ (a -ℤ b) → b ≤ℤ a
      most a b h = omega (arith, ints)

      at : (g ≡ f) ⊎ (g ≢ f) → ((if g == f then u +ℤ pos 1 else low_at forms above f) *ℤ ((form_at forms f).scale *ℤ scale)) ≤ℤ scaled_value system (form_at forms f) v
      at (inl e) = rw (← e, same g) (most _ _ row)
      at (inr ne) = rw (differs g f ne) old.0

-- ---- the measure

total-le : (n : ℕ) (f g : ℕ → ℕ) → ((m : ℕ) → m < n → g m ≤ f m) → total n g ≤ total n f
total-le zero f g le = omega arith
total-le (suc n) f g le = let ih = total-le n f g (λ m h. le m (omega arith)) in let here = le n (omega arith) in omega arith

total-less : (n i : ℕ) (f g : ℕ → ℕ) → i < n → g i < f i → ((m : ℕ) → m ≢ i → g m ≡ f m) → total n g < total n f
total-less zero i f g lt less others = absurd (omega arith)
total-less (suc n) i f g lt less others = split (equal_or_not i n) (λ below. total-less n i f g below less others)
  where
    same_le : (a b : ℕ) → a ≡ b → a ≤ b
    same_le a b e = omega arith

    split : (i ≡ n) ⊎ (i ≢ n) → (i < n → total n g < total n f) → total n g + g n < total n f + f n
    split (inl e) ih =
        let rest = total-le n f g (λ m h. same_le _ _ (others m (λ e'. omega arith))) in
        let here : g n < f n = subst (λ x. g x < f x) e less in
        omega arith
    split (inr ne) ih =
        let front = ih (omega arith) in
        let here : g n ≡ f n = others n (λ e. ne (sym e)) in
        omega arith

pub gap-low : (forms : List Form) (above : List SplitSide) (g : ℕ) (u : ℤ) → g < length forms → low_at forms above g ≤ℤ u
    → u <ℤ high_at forms above g → total (length forms) (gap forms (above ++ low_side g u ∷ [])) < total (length forms) (gap forms above)
gap-low forms above g u lt lo hi = total-less (length forms) g (gap forms above) (gap forms (above ++ low_side g u ∷ [])) lt here others
  where
    less : (h l u : ℤ) → l ≤ℤ u → u <ℤ h → gap_of (u -ℤ l) < gap_of (h -ℤ l)
    less h l u a b = go (h -ℤ l) (u -ℤ l) (omega (arith, ints)) (omega (arith, ints))
      where
        go : (a b : ℤ) → b <ℤ a → pos 0 ≤ℤ b → gap_of b < gap_of a
        go (pos a) (pos b) h g = omega (arith, ints)
        go (pos a) (negsuc b) h g = absurd (omega (arith, ints))
        go (negsuc a) b h g = absurd (omega (arith, ints))

    here : gap forms (above ++ low_side g u ∷ []) g < gap forms above g
    here = rw (low_end-low (form_at forms g).low g g u above, high_end-low (form_at forms g).high g g u above, same g) (less (high_at forms above g) (low_at forms above g) u lo hi)

    others : (m : ℕ) → m ≢ g → gap forms (above ++ low_side g u ∷ []) m ≡ gap forms above m
    others m ne = rw (low_end-low (form_at forms m).low m g u above, high_end-low (form_at forms m).high m g u above, differs g m (λ e. ne (sym e))) refl

pub gap-high : (forms : List Form) (above : List SplitSide) (g : ℕ) (u : ℤ) → g < length forms → low_at forms above g ≤ℤ u
    → u <ℤ high_at forms above g → total (length forms) (gap forms (above ++ high_side g u ∷ [])) < total (length forms) (gap forms above)
gap-high forms above g u lt lo hi = total-less (length forms) g (gap forms above) (gap forms (above ++ high_side g u ∷ [])) lt here others
  where
    less : (h l u : ℤ) → l ≤ℤ u → u <ℤ h → gap_of (h -ℤ (u +ℤ pos 1)) < gap_of (h -ℤ l)
    less h l u a b = go (h -ℤ l) (h -ℤ (u +ℤ pos 1)) (omega (arith, ints)) (omega (arith, ints))
      where
        go : (a b : ℤ) → b <ℤ a → pos 0 ≤ℤ b → gap_of b < gap_of a
        go (pos a) (pos b) h g = omega (arith, ints)
        go (pos a) (negsuc b) h g = absurd (omega (arith, ints))
        go (negsuc a) b h g = absurd (omega (arith, ints))

    here : gap forms (above ++ high_side g u ∷ []) g < gap forms above g
    here = rw (low_end-high (form_at forms g).low g g u above, high_end-high (form_at forms g).high g g u above, same g) (less (high_at forms above g) (low_at forms above g) u lo hi)

    others : (m : ℕ) → m ≢ g → gap forms (above ++ high_side g u ∷ []) m ≡ gap forms above m
    others m ne = rw (low_end-high (form_at forms m).low m g u above, high_end-high (form_at forms m).high m g u above, differs g m (λ e. ne (sym e))) refl

-- ---- a split lies in the interval

pub split_within : (system : LinearSystem) (forms : List Form) (above : List SplitSide) (members : List ℕ) (f : ℕ) (u : ℤ) → ArePositive forms
    → Within system forms above → DescentFromStart (node_system system forms above) (point members) → FirstFraction system forms above members f u
    → (low_at forms above f ≤ℤ u) × (u <ℤ high_at forms above f)
unfolding Within
split_within system forms above members f u positive within d first =
    let in_interval = within f first.scale first.v first.within first.point (point_is_sound (node_system system forms above) members d first.scale first.v first.point first.zeros) in
    finish (low_at forms above f) (high_at forms above f) u ((form_at forms f).scale *ℤ first.scale) (scaled_value system (form_at forms f) first.v)
    (mul_positive _ _ (positive f first.within) first.point.positive) in_interval.0 in_interval.1 first.low first.high
  where
    finish : (l h u k v : ℤ) → pos 0 <ℤ k → (l *ℤ k) ≤ℤ v → v ≤ℤ (h *ℤ k) → (u *ℤ k) <ℤ v → v <ℤ ((u +ℤ pos 1) *ℤ k) → (l ≤ℤ u) × (u <ℤ h)
    finish l h u k v hk a b c d =
        let el = *ℤ_comm l k in
        let eh = *ℤ_comm h k in
        let eu = *ℤ_comm u k in
        let eu' = *ℤ_comm (u +ℤ pos 1) k in
        let below : l <ℤ (u +ℤ pos 1) = less_of_times k l (u +ℤ pos 1) hk (omega (arith, ints)) in
        let over : u <ℤ h = less_of_times k u h hk (omega (arith, ints)) in
        (omega (arith, ints), over)

-- ---- the end

ends_by : (system : LinearSystem) (forms : List Form) → ArePositive forms → (fuel : ℕ) (above : List SplitSide)
    → total (length forms) (gap forms above) < fuel → Within system forms above → (o : BranchOutcome) × BranchFrom system forms above o
ends_by system forms positive zero above lt within = absurd (omega arith)
ends_by system forms positive (suc fuel) above lt within = at_descent (start_ends (node_system system forms above)) (λ above' less within'. ends_by system forms positive fuel above' less within')
  where
    smaller : (a b : ℕ) → a < b → b < suc fuel → a < fuel
    smaller a b h g = omega arith

    at_split : (members : List ℕ) (f : ℕ) (u : ℤ) → DescentFromStart (node_system system forms above) (point members) → FirstFraction system forms above members f u
        → ((above' : List SplitSide) → total (length forms) (gap forms above') < fuel → Within system forms above' → (o : BranchOutcome)
        × BranchFrom system forms above' o) → (o : BranchOutcome) × BranchFrom system forms above o
    at_split members f u d first next = low (next (above ++ low_side f u ∷ []) (smaller _ _ (gap-low forms above f u first.within interval.0 interval.1) lt) (within_low system forms above within f u))
      where
        interval : (low_at forms above f ≤ℤ u) × (u <ℤ high_at forms above f)
        interval = split_within system forms above members f u positive within d first

        high : (t : SplitTree) → BranchFrom system forms (above ++ low_side f u ∷ []) (tree t)
            → (o : BranchOutcome) × BranchFrom system forms (above ++ high_side f u ∷ []) o → (o : BranchOutcome) × BranchFrom system forms above o
        high t bl (found m a, b) = (found m a, high_ends members f u t d first bl b tt)
        high t bl (stopped a w, b) = (stopped a w, high_ends members f u t d first bl b tt)
        high t bl (tree t', b) = (tree (split f u t t'), both_refuted members f u t t' d first bl b)

        low : (o : BranchOutcome) × BranchFrom system forms (above ++ low_side f u ∷ []) o → (o : BranchOutcome) × BranchFrom system forms above o
        low (found m a, b) = (found m a, low_ends members f u d first b tt)
        low (stopped a w, b) = (stopped a w, low_ends members f u d first b tt)
        low (tree t, b) = high t b (next (above ++ high_side f u ∷ []) (smaller _ _ (gap-high forms above f u first.within interval.0 interval.1) lt) (within_high system forms above within f u))

    at_point : (members : List ℕ) → DescentFromStart (node_system system forms above) (point members)
        → ((above' : List SplitSide) → total (length forms) (gap forms above') < fuel → Within system forms above' → (o : BranchOutcome)
        × BranchFrom system forms above' o) → (o : BranchOutcome) × BranchFrom system forms above o
    at_point members d next = ⊎_elim
        (λ all. (found members above, whole members d (record { scale = t.times *ℤ pos 1; v = t.v; point = t.point; zeros = zeros; whole = all })))
        (λ r. at_split members r.f r.u d r.first next)
        (first_fraction system forms positive above members (t.times *ℤ pos 1) t.v t.point zeros (length forms) (omega arith))
      where
        t : Takes (node_system system forms above) members (λ m. pos 0) (pos 1)
        t = (point_free (node_system system forms above) members d).takes (λ m. pos 0) (pos 1) (omega (arith, ints))

        zeros : IsAtZero members t.v
        zeros m has = t.values m has ∙ *ℤ-zero t.times

    at_descent : (o : Outcome) × DescentFromStart (node_system system forms above) o
        → ((above' : List SplitSide) → total (length forms) (gap forms above') < fuel → Within system forms above' → (o : BranchOutcome)
        × BranchFrom system forms above' o) → (o : BranchOutcome) × BranchFrom system forms above o
    at_descent (point members, d) next = at_point members d next
    at_descent (wide w, d) next = (stopped above w, passes w d)
    at_descent (refuted members i fixed, d) next = let s = (start_refuted (node_system system forms above) members fixed i d).stuck in (_, refutes members fixed i s.k d s.row)

-- ---- every split is in its interval

record SidesFrom (forms : List Form) (start above : List SplitSide) : Type 0 where
  pub sides : List SplitSide
  pub is : above ≡ start ++ sides
  pub within : SidesWithin forms start sides

no_sides : (forms : List Form) (start : List SplitSide) → SidesFrom forms start start
no_sides forms start = record { sides = []; is = sym (append-nil start); within = tt }

one_side_more : (forms : List Form) (start above : List SplitSide) (side : SplitSide) → IsInInterval forms start side.form side.at
    → SidesFrom forms (start ++ side ∷ []) above → SidesFrom forms start above
one_side_more forms start above side here s = record { sides = side ∷ s.sides; is = s.is ∙ append_assoc start (side ∷ []) s.sides; within = (here, s.within) }

abbrev OutcomeFrom : List Form → List SplitSide → BranchOutcome → Type 0
OutcomeFrom forms start (found members above) = SidesFrom forms start above
OutcomeFrom forms start (tree t) = TreeWithin forms start t
OutcomeFrom forms start (stopped above w) = SidesFrom forms start above

end_more : (forms : List Form) (start : List SplitSide) (side : SplitSide) (o : BranchOutcome) → IsInInterval forms start side.form side.at → IsEnd o
    → OutcomeFrom forms (start ++ side ∷ []) o → OutcomeFrom forms start o
end_more forms start side (found members above) here end s = one_side_more forms start above side here s
end_more forms start side (tree t) here end s = absurd end
end_more forms start side (stopped above w) here end s = one_side_more forms start above side here s

outcome_from : (system : LinearSystem) (forms : List Form) (above : List SplitSide) (o : BranchOutcome) → ArePositive forms
    → BranchFrom system forms above o → Within system forms above → OutcomeFrom forms above o
outcome_from system forms above o positive (passes w d) within = no_sides forms above
outcome_from system forms above o positive (refutes members fixed i k d row) within = tt
outcome_from system forms above o positive (whole members d all) within = no_sides forms above
outcome_from system forms above o positive (low_ends members f u d first low end) within =
    let interval = split_within system forms above members f u positive within d first in
    end_more forms above (low_side f u) o (first.within, interval.0, interval.1) end (outcome_from system forms (above ++ low_side f u ∷ []) o positive low (within_low system forms above within f u))
outcome_from system forms above o positive (high_ends members f u t d first low high end) within =
    let interval = split_within system forms above members f u positive within d first in
    end_more forms above (high_side f u) o (first.within, interval.0, interval.1) end
    (outcome_from system forms (above ++ high_side f u ∷ []) o positive high (within_high system forms above within f u))
outcome_from system forms above o positive (both_refuted members f u t t' d first low high) within =
    let interval = split_within system forms above members f u positive within d first in (
      (first.within, interval.0, interval.1),
      outcome_from system forms (above ++ low_side f u ∷ []) (tree t) positive low
          (within_low system forms above within f u),
      outcome_from system forms (above ++ high_side f u ∷ []) (tree t') positive high
          (within_high system forms above within f u),
    )

pub within_start : (system : LinearSystem) (forms : List Form) → AreBounded system forms → Within system forms []
unfolding Within
within_start system forms bounded f scale v lt p meets = bounded.between f scale v lt (subst (λ s. IsPoint s scale v) same_system p) (subst (λ s. MeetsRows s v) same_system meets)
  where
    same_system : node_system system forms [] ≡ system
    same_system = ap (λ rows. record { columns = system.columns; rows = rows }) (append-nil system.rows)

pub branching_ends : (system : LinearSystem) (forms : List Form) → AreBounded system forms → (o : BranchOutcome) × Branching system forms o
branching_ends system forms bounded = ends_by system forms bounded.positive (suc (total (length forms) (gap forms []))) [] (omega arith) (within_start system forms bounded)

pub splits_within : (system : LinearSystem) (forms : List Form) (o : BranchOutcome) → AreBounded system forms → Branching system forms o → SplitsWithin forms o
splits_within system forms o bounded b = turn o (outcome_from system forms [] o bounded.positive b (within_start system forms bounded))
  where
    sides : (above : List SplitSide) → SidesFrom forms [] above → SidesWithin forms [] above
    sides above s = subst (SidesWithin forms []) (sym s.is) s.within

    turn : (o : BranchOutcome) → OutcomeFrom forms [] o → SplitsWithin forms o
    turn (found members above) s = sides above s
    turn (tree t) s = s
    turn (stopped above w) s = sides above s
