-- The forms at the point of a descent, from the values of rows.
use Rattle.std.proofs.Common.{◌≡◌, ◌⊎◌, ⊎_elim, inl, inr, ℕ, zero, suc, Option, Some, None, ◌+◌, ◌<◌, List, [], ◌∷◌, All, length, ap, refl, subst, sym, ◌∙◌, arith}
use Rattle.std.specs.Prelude.{ℤ, pos, negsuc, IfSome, IfNone, ◌+ℤ◌, ◌*ℤ◌, ◌≤ℤ◌, ◌<ℤ◌, slice_index_or}
use Rattle.std.specs.Int.{w128, cast_unsigned, cast_signed}
use Rattle.std.proofs.lemmas.Int.{ints}
use Rattle.std.proofs.lemmas.List.Elements.{All-get_or}
use Rattle.std.proofs.Math.IntN.{zero-*ℤ}
use Rattle.rg_integers.specs.Range.{InRange}
use Rattle.rg_integers.specs.Sum.{sum_below}
use Rattle.rg_integers.proofs.Casts.{back, cast_size}
use Rattle.rg_integers.proofs.Ring.{ring}
use Rattle.rg_fraction.specs.declared.fraction.Fraction.{Fraction}
use Rattle.rg_fraction.specs.Fractions.{numerator_of, denominator_of, IsValue}
use Rattle.rg_linear.specs.System.{LinearSystem, row_variable, row_at}
use Rattle.rg_linear.specs.Dictionary.{IsFree}
use Rattle.rg_linear.specs.Branching.{Form, form_at, scaled_value}
use Rattle.rg_linear.proofs.Points.{zero_point_of}
use Rattle.rg_linear.proofs.Members.{equal_or_not}
use Rattle.rg_linear.specs.Descent.{IsBasicPoint}
use Rattle.rg_branch.specs.declared.bounded.Bounded.{Bounded}
use Rattle.rg_branch.specs.View.{form_of, forms_of}
use Rattle.rg_branch.specs.Asked.{IsFormOf}
use Rattle.rg_branch.specs.Numbers.{multiplied, unit_of}
use Rattle.rg_branch.specs.Answer.{AreValuesAt}
use Rattle.rg_branch.specs.Points.{IsBetween, HasFloor, IsWholeThere, AreWholeBelow, AreColumnsWhole}
use Rattle.rg_branch.proofs.Nodes.{form_here}
use Rattle.rg_branch.proofs.Values.{form_value, zero_value, above, below, equal, not_below, not_above}

pub one_of : (z : ℤ) → InRange z → cast_unsigned w128 z ≡ 1 → z ≡ pos 1
one_of z h e = sym (back z h) ∙ ap (cast_signed w128) e ∙ cast_size 1 (omega arith)

pub not_zero_of : (z : ℤ) → (cast_unsigned w128 z ≡ 0 → ⊥) → z ≡ pos 0 → ⊥
not_zero_of z unless e = unless (ap (cast_unsigned w128) e)

pub positive_of : (z : ℤ) → pos 0 ≤ℤ z → (z ≡ pos 0 → ⊥) → pos 0 <ℤ z
positive_of z h unless = ⊎_elim (λ less. less) (λ e. absurd (unless e)) (split z h)
  where
    split : (z : ℤ) → pos 0 ≤ℤ z → (pos 0 <ℤ z) ⊎ (z ≡ pos 0)
    split (pos zero) h = inr refl
    split (pos (suc n)) h = inl (omega (arith, ints))
    split (negsuc n) h = absurd (omega (arith, ints))

pub zero_is_whole : (node : LinearSystem) (members : List ℕ) (before : ℕ) (b : Bounded) → IsFormOf node before b → b.times ≡ pos 0 → IsWholeThere node members (form_of b)
zero_is_whole node members before b is e scale v basic = (pos 0, zero_value node before b is e v ∙ sym (zero-*ℤ (b.scale *ℤ scale)))

-- ---- where the columns are whole

sum_is_multiple : (n : ℕ) (f : ℕ → ℤ) (s : ℤ) → ((j : ℕ) → j < n → (u : ℤ) × (f j ≡ u *ℤ s)) → (u : ℤ) × (sum_below n f ≡ u *ℤ s)
sum_is_multiple zero f s each = (pos 0, sym (zero-*ℤ s))
sum_is_multiple (suc n) f s each =
    let (a, e) = sum_is_multiple n f s (λ j lt. each j (omega arith)) in
    let (b, g) = each n (omega arith) in
    (a +ℤ b, go a b (sum_below n f) (f n) e g)
  where
    go : (a b x y : ℤ) → x ≡ a *ℤ s → y ≡ b *ℤ s → x +ℤ y ≡ (a +ℤ b) *ℤ s
    go a b x y e g = simp (e, g, ring) (omega (arith, ints))

-- a form whose scale is 1 is whole there
pub whole_of_columns : (node : LinearSystem) (members : List ℕ) (form : Form) → form.scale ≡ pos 1 → AreColumnsWhole node members → IsWholeThere node members form
whole_of_columns node members form one whole scale v basic =
    let (u, e) = sum_is_multiple node.columns (λ j. slice_index_or form.coeffs j (pos 0) *ℤ v j) scale
    (λ j lt. (let (w, g) = whole scale v basic j lt in (slice_index_or form.coeffs j (pos 0) *ℤ w, times (slice_index_or form.coeffs j (pos 0)) w (v j) scale g))) in
    (u, e ∙ ap (λ z. u *ℤ z) (last scale form.scale one))
  where
    times : (c w x s : ℤ) → x ≡ w *ℤ s → c *ℤ x ≡ (c *ℤ w) *ℤ s
    times c w x s e = simp (e, ring)

    last : (s f : ℤ) → f ≡ pos 1 → s ≡ f *ℤ s
    last s f e = simp (e) (omega (arith, ints))

-- values without denominators are those of whole columns
pub columns_of_values : (node : LinearSystem) (members : List ℕ) (values : List Fraction) → AreValuesAt node members values
    → All (λ f. denominator_of f ≡ pos 1) values → AreColumnsWhole node members
columns_of_values node members [] are whole scale v basic j lt = absurd (let e = are.one_each in omega arith)
columns_of_values node members (f ∷ fs) are whole scale v basic j lt =
    let inside : j < length (f ∷ fs) = subst (λ n. j < n) (sym are.one_each) lt in
    let here = slice_index_or (f ∷ fs) j f in (
      numerator_of here,
      go (numerator_of here) (denominator_of here) (v j) (are.each j f inside scale v basic)
          (All-get_or (λ x. denominator_of x ≡ pos 1) (f ∷ fs) j f inside whole),
    )
  where
    go : (n d x : ℤ) → n *ℤ scale ≡ x *ℤ d → d ≡ pos 1 → x ≡ n *ℤ scale
    go n d x e one = let g = subst (λ (z : ℤ). n *ℤ scale ≡ x *ℤ z) one e in omega (arith, ints)

module _ (node : LinearSystem) (members : List ℕ) (before : ℕ) (b : Bounded) (is : IsFormOf node before b) (lt : before + b.row < length node.rows)
    (value : Fraction) (reads : (scale : ℤ) (v : ℕ → ℤ) → IsBasicPoint node members scale v → IsValue value (v (row_variable node (before + b.row))) scale) where
  pub reads_low : IsFree node members → IsBetween node members (form_of b) → (b.low *ℤ unit_of b.scale value) ≤ℤ multiplied b.times value (row_at node (before + b.row)).constant
  reads_low free between =
      let (scale, v, point, at_zero) = zero_point_of node members free in
      let basic : IsBasicPoint node members scale v = record { point = point; zero = at_zero } in
      not_below (numerator_of value) (denominator_of value) (row_at node (before + b.row)).constant b.times b.scale scale
      (v (row_variable node (before + b.row))) (scaled_value node (form_of b) v) value.positive point.positive (reads scale v basic)
      (form_value node before b is scale v point lt) b.low (between scale v basic).0

  pub reads_high : IsFree node members → IsBetween node members (form_of b) → multiplied b.times value (row_at node (before + b.row)).constant ≤ℤ (b.high *ℤ unit_of b.scale value)
  reads_high free between =
      let (scale, v, point, at_zero) = zero_point_of node members free in
      let basic : IsBasicPoint node members scale v = record { point = point; zero = at_zero } in
      not_above (numerator_of value) (denominator_of value) (row_at node (before + b.row)).constant b.times b.scale scale
      (v (row_variable node (before + b.row))) (scaled_value node (form_of b) v) value.positive point.positive (reads scale v basic)
      (form_value node before b is scale v point lt) b.high (between scale v basic).1

  pub reads_floor : (u : ℤ) → (u *ℤ unit_of b.scale value) <ℤ multiplied b.times value (row_at node (before + b.row)).constant
      → multiplied b.times value (row_at node (before + b.row)).constant <ℤ ((u +ℤ pos 1) *ℤ unit_of b.scale value) → HasFloor node members (form_of b) u
  reads_floor u low high scale v basic = (
    above (numerator_of value) (denominator_of value) (row_at node (before + b.row)).constant b.times b.scale scale
        (v (row_variable node (before + b.row))) (scaled_value node (form_of b) v) value.positive basic.point.positive (reads scale v basic)
        (form_value node before b is scale v basic.point lt) u low,
    below (numerator_of value) (denominator_of value) (row_at node (before + b.row)).constant b.times b.scale scale
        (v (row_variable node (before + b.row))) (scaled_value node (form_of b) v) value.positive basic.point.positive (reads scale v basic)
        (form_value node before b is scale v basic.point lt) (u +ℤ pos 1) high,
  )

  pub reads_whole : (u : ℤ) → multiplied b.times value (row_at node (before + b.row)).constant ≡ u *ℤ unit_of b.scale value → IsWholeThere node members (form_of b)
  reads_whole u e scale v basic = (
    u,
    equal (numerator_of value) (denominator_of value) (row_at node (before + b.row)).constant b.times b.scale scale (v (row_variable node (before + b.row)))
        (scaled_value node (form_of b) v) value.positive basic.point.positive (reads scale v basic) (form_value node before b is scale v basic.point lt) u e,
  )

-- ---- the forms in order

pub one_more_whole : (node : LinearSystem) (members : List ℕ) (forms : List Bounded) (n : ℕ) → AreWholeBelow node members (forms_of forms) n
    → IsWholeThere node members (form_at (forms_of forms) n) → AreWholeBelow node members (forms_of forms) (n + 1)
one_more_whole node members forms n all here g lt = ⊎_elim (λ e. subst (λ x. IsWholeThere node members (form_at (forms_of forms) x)) (sym e) here) (λ ne. all g (omega arith)) (equal_or_not g n)

-- the form with this number, where the code has read it
pub form_is : (forms : List Bounded) (f : ℕ) (b : Bounded) → f < length forms → b ≡ slice_index_or forms f b → form_of b ≡ form_at (forms_of forms) f
form_is forms f b lt e = ap form_of e ∙ form_here forms f b lt

-- ---- options

pub both_some : (P Q R : ℤ → Type 0) (o : Option ℤ) → IfSome o P → IfSome o Q → ((u : ℤ) → P u → Q u → R u) → IfSome o R
both_some P Q R None p q f = tt
both_some P Q R (Some u) p q f = f u p q

pub if_none : (P Q : Type 0) (o : Option ℤ) → IfNone o P → (P → Q) → IfNone o Q
if_none P Q None p f = f p
if_none P Q (Some u) p f = tt
