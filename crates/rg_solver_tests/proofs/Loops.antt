-- A label with a loop has the effect 0, so the rows that block it at a state refute.
use Rattle.std.proofs.Common.{◌≡◌, ℕ, zero, suc, ◌<◌, List, [], ◌∷◌, length, map, get_or, All, sym, ap, subst, ◌∙◌, arith}
use Rattle.std.specs.Prelude.{ℤ, pos, negsuc, neg_ℤ, ◌+ℤ◌, ◌*ℤ◌, ◌<ℤ◌}
use Rattle.std.proofs.lemmas.Int.{ints}
use Rattle.rg_integers.proofs.Ring.{ring}
use Rattle.rg_integers.proofs.Order.{positive_differs, mul-cancel, mul_positive, quotient_positive}
use Rattle.rg_theory.specs.System.{System, arc, HasArc}
use Rattle.rg_theory.specs.declared.Class.{Class}
use Rattle.rg_cert_meaning.specs.declared.RowName.{RowName}
use Rattle.rg_cert_meaning.specs.declared.RowName.TheVariants as row_name
use Rattle.rg_cert_meaning.specs.declared.Variable.{Variable}
use Rattle.rg_cert_meaning.specs.declared.Variable.TheVariants.{Tokens, Effect}
use Rattle.rg_cert_meaning.specs.Expression.{Expression, value_in}
use Rattle.rg_cert_meaning.specs.Row.{event_expression}
use Rattle.rg_cert_meaning.specs.Refutes.{NamedRow, constant_sum}
use Rattle.rg_fraction.specs.declared.fraction.Fraction.{Fraction}
use Rattle.rg_fraction.specs.Fractions.{numerator_of, denominator_of}
use Rattle.rg_case_folds.specs.Spreading.{Share}
use Rattle.rg_farkas.specs.Leaves.{share_of}
use Rattle.rg_farkas.specs.Refuting.{terms_sum, RefuteOnArcs, AreShares, SharesRefute}

-- three entries of a list
pub three : {X : Type 0} (P : X → Type 0) (a b c : X) → P a → P b → P c → All P (a ∷ b ∷ c ∷ [])
three P a b c p q r zero d lt = p
three P a b c p q r (suc zero) d lt = q
three P a b c p q r (suc (suc zero)) d lt = r
three P a b c p q r (suc (suc (suc k))) d lt = absurd (omega arith)

cancelled : (m k xs xq e : ℤ) → e ≡ pos 0
    → (m *ℤ ((negsuc 0 *ℤ xs) +ℤ ((negsuc 0 *ℤ e) +ℤ pos 0)))
    +ℤ ((m *ℤ ((pos 1 *ℤ xs) +ℤ pos 0)) +ℤ ((k *ℤ ((pos 1 *ℤ xq) +ℤ ((pos 1 *ℤ e) +ℤ ((negsuc 0 *ℤ xq) +ℤ pos 0)))) +ℤ pos 0)) ≡ pos 0
cancelled m k xs xq e none =
    let a : (negsuc 0 *ℤ xs) +ℤ ((negsuc 0 *ℤ e) +ℤ pos 0) ≡ neg_ℤ xs = omega (arith, ints) in
    let b : (pos 1 *ℤ xs) +ℤ pos 0 ≡ xs = omega (arith, ints) in
    let c : (pos 1 *ℤ xq) +ℤ ((pos 1 *ℤ e) +ℤ ((negsuc 0 *ℤ xq) +ℤ pos 0)) ≡ pos 0 = omega (arith, ints) in
    rw (a, b, c) (simp ring (omega (arith, ints)))

below : (m k n : ℤ) → pos 0 <ℤ m → ((m *ℤ negsuc 0) +ℤ ((k *ℤ pos 0) +ℤ ((n *ℤ pos 0) +ℤ pos 0))) <ℤ pos 0
below m k n some = omega (arith, ints)

module _ (lts : System) (class : Class) (s t q : ℕ) (f g : Fraction) (loop : HasArc lts q t q) (top : pos 0 <ℤ numerator_of f) (bottom : pos 0 <ℤ denominator_of f)
    (around : pos 0 <ℤ numerator_of g) where
  abbrev said : RowName → Expression
  said = event_expression lts class s t []

  -- the row that blocks the label, and the tokens of the state, as often as each other, and the arc of the loop
  abbrev shares : List Share
  shares = share_of (row_name.Block, f) ∷ share_of (row_name.Tokens s, f) ∷ share_of (row_name.Arc (arc q t q), g) ∷ []

  refuted : (scale : ℤ) (rows : List NamedRow) → pos 0 <ℤ scale → AreShares scale shares rows → RefuteOnArcs lts said rows
  refuted scale [] some are = absurd are
  refuted scale (a ∷ []) some (_, _, are) = absurd are
  refuted scale (a ∷ b ∷ []) some (_, _, (_, _, are)) = absurd are
  refuted scale (a ∷ b ∷ c ∷ d ∷ rows) some (_, _, (_, _, (_, _, are))) = absurd are
  refuted scale (a ∷ b ∷ c ∷ []) some (name, number, (name', number', (name'', number'', _))) = record {
    cancel = λ x keeps.
        (let still : x (Tokens q) +ℤ x (Effect t) ≡ x (Tokens q) = keeps (arc q t q) loop in
        rw (name, name', name'', sym same) (cancelled a.multiplier c.multiplier (x (Tokens s)) (x (Tokens q)) (x (Effect t)) (omega (arith, ints))));
    contradict = rw (name, name', name'') (below a.multiplier b.multiplier c.multiplier positive);
  }
    where
      same : a.multiplier ≡ b.multiplier
      same = mul-cancel a.multiplier b.multiplier (denominator_of f) (positive_differs (denominator_of f) bottom) (number ∙ sym number')

      positive : pos 0 <ℤ a.multiplier
      positive = quotient_positive a.multiplier (denominator_of f) (numerator_of f *ℤ scale) (omega (arith, ints)) number (mul_positive (numerator_of f) scale top some)

  pub loop_refutes : SharesRefute lts said shares
  loop_refutes = record {
    positive = three (λ (r : Share). pos 0 <ℤ r.multiplier.top) (share_of (row_name.Block, f)) (share_of (row_name.Tokens s, f)) (share_of (row_name.Arc (arc q t q), g)) top top around;
    refute = refuted;
  }
