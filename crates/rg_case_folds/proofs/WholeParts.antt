-- Numbers over a scale whose effects are whole, and whose tokens have one fractional part, are whole numbers less that part.
use Rattle.std.proofs.Common.{◌≡◌, ⊎_elim, ℕ, sym, subst, arith}
use Rattle.std.specs.Prelude.{ℤ, pos, negsuc, neg_ℤ, ◌+ℤ◌, ◌-ℤ◌, ◌*ℤ◌, ◌<ℤ◌, ◌≤ℤ◌}
use Rattle.std.proofs.lemmas.Int.{ints, by_lt_z}
use Rattle.std.proofs.lemmas.Bool.{cases_lt, cases_Bool}
use Rattle.rg_theory.specs.declared.Class.{Class}
use Rattle.rg_theory.specs.declared.Problem.{Problem}
use Rattle.rg_theory.specs.System.{System, IsInRange, states}
use Rattle.rg_theory.proofs.Arcs.{arc_in_range}
use Rattle.rg_integers.proofs.Ring.{ring}
use Rattle.rg_integers.proofs.Order.{mul-cancel_left, positive_differs}
use Rattle.rg_linear.proofs.Branches.{positive_times_most}
use Rattle.rg_cert_meaning.specs.declared.Variable.{Variable}
use Rattle.rg_cert_meaning.specs.Refutes.{IsSeparationProblem}
use Rattle.rg_case_folds.specs.Rewriting.{has_label}
use Rattle.rg_case_folds.specs.Shown.{IsLive}
use Rattle.rg_case_folds.proofs.LeftOut.{finds_label}
use Rattle.rg_case_folds.proofs.CaseRows.{kept_tokens}
use Rattle.rg_case_folds.proofs.RowKinds.{CarriesEachKind, effect_constant, carries_rows}
use Rattle.rg_case_folds.proofs.Kept.{live_label}
use Rattle.rg_case_folds.specs.WholeParts.{AreWholeParts}
use Rattle.rg_case_folds.specs.Meaning.{KeepsRowsOver}
use Rattle.rg_cert_meaning.specs.declared.Variable.TheVariants.{Tokens, Effect}

-- ---- one multiple

up_to_rest : (k z r : ℤ) → pos 0 <ℤ k → r <ℤ k → pos 0 ≤ℤ ((k *ℤ z) +ℤ r) → pos 0 ≤ℤ z
up_to_rest k z r hk hr h = by_lt_z z (pos 0)
    (λ less. (let le : z ≤ℤ negsuc 0 = omega (arith, ints) in let m = positive_times_most k z (negsuc 0) hk le in
    let e : k *ℤ negsuc 0 ≡ neg_ℤ k = omega (arith, ints) in absurd (omega (arith, ints))))
    (λ most. most)

multiple : (k z : ℤ) → pos 0 <ℤ k → pos 0 ≤ℤ (k *ℤ z) → pos 0 ≤ℤ z
multiple k z hk h = up_to_rest k z (pos 0) hk hk (omega (arith, ints))

less_rest : (k z r : ℤ) → pos 0 <ℤ k → pos 0 ≤ℤ r → pos 0 ≤ℤ ((k *ℤ z) -ℤ r) → pos 0 ≤ℤ z
less_rest k z r hk hr h = multiple k z hk (omega (arith, ints))

-- ---- rows

-- one variable, and a constant
one_up : (k x y r c : ℤ) → pos 0 <ℤ k → r <ℤ k → x ≡ (k *ℤ y) +ℤ r → pos 0 ≤ℤ (((pos 1 *ℤ x) +ℤ pos 0) +ℤ (c *ℤ k)) → pos 0 ≤ℤ (((pos 1 *ℤ y) +ℤ pos 0) +ℤ (c *ℤ pos 1))
one_up k x y r c hk hr e h =
    let g : k *ℤ (y +ℤ c) ≡ (k *ℤ y) +ℤ (c *ℤ k) = simp ring (omega (arith, ints)) in
    let z = up_to_rest k (y +ℤ c) r hk hr (omega (arith, ints)) in
    let one : c *ℤ pos 1 ≡ c = simp ring in
    omega (arith, ints)

-- one variable without a rest, any number of times
any_times : (k m x y c : ℤ) → pos 0 <ℤ k → x ≡ k *ℤ y → pos 0 ≤ℤ (((m *ℤ x) +ℤ pos 0) +ℤ (c *ℤ k)) → pos 0 ≤ℤ (((m *ℤ y) +ℤ pos 0) +ℤ (c *ℤ pos 1))
any_times k m x y c hk e h =
    let g : k *ℤ ((m *ℤ y) +ℤ c) ≡ (m *ℤ (k *ℤ y)) +ℤ (c *ℤ k) = simp ring in
    let z = multiple k ((m *ℤ y) +ℤ c) hk (subst (λ z. pos 0 ≤ℤ z) (sym g) (drop (m *ℤ (k *ℤ y)) (c *ℤ k) (subst (λ z. pos 0 ≤ℤ (((m *ℤ z) +ℤ pos 0) +ℤ (c *ℤ k))) e h))) in
    let one : c *ℤ pos 1 ≡ c = simp ring in
    omega (arith, ints)
  where
    drop : (a b : ℤ) → pos 0 ≤ℤ ((a +ℤ pos 0) +ℤ b) → pos 0 ≤ℤ (a +ℤ b)
    drop a b h = omega (arith, ints)

one_down : (k x y r c : ℤ) → pos 0 <ℤ k → pos 0 ≤ℤ r → x ≡ (k *ℤ y) +ℤ r → pos 0 ≤ℤ (((negsuc 0 *ℤ x) +ℤ pos 0) +ℤ (c *ℤ k)) → pos 0 ≤ℤ (((negsuc 0 *ℤ y) +ℤ pos 0) +ℤ (c *ℤ pos 1))
one_down k x y r c hk hr e h =
    let g : k *ℤ (c -ℤ y) ≡ (c *ℤ k) -ℤ (k *ℤ y) = simp ring (omega (arith, ints)) in
    let z = less_rest k (c -ℤ y) r hk hr (omega (arith, ints)) in
    let one : c *ℤ pos 1 ≡ c = simp ring in
    omega (arith, ints)

-- the difference of tokens, less one
one_less : (k a b y z r : ℤ) → pos 0 <ℤ k → a ≡ (k *ℤ y) +ℤ r → b ≡ (k *ℤ z) +ℤ r → pos 0 ≤ℤ (((pos 1 *ℤ a) +ℤ ((negsuc 0 *ℤ b) +ℤ pos 0)) +ℤ (negsuc 0 *ℤ k))
    → pos 0 ≤ℤ (((pos 1 *ℤ y) +ℤ ((negsuc 0 *ℤ z) +ℤ pos 0)) +ℤ (negsuc 0 *ℤ pos 1))
one_less k a b y z r hk ea eb h =
    let g : k *ℤ ((y -ℤ z) -ℤ pos 1) ≡ ((k *ℤ y) -ℤ (k *ℤ z)) -ℤ k = simp ring (omega (arith, ints)) in
    let w = multiple k ((y -ℤ z) -ℤ pos 1) hk (omega (arith, ints)) in
    omega (arith, ints)

-- tokens and an effect taken away, less one
both_down : (k a b y z r : ℤ) → pos 0 <ℤ k → pos 0 ≤ℤ r → a ≡ (k *ℤ y) +ℤ r → b ≡ k *ℤ z → pos 0 ≤ℤ (((negsuc 0 *ℤ a) +ℤ ((negsuc 0 *ℤ b) +ℤ pos 0)) +ℤ (negsuc 0 *ℤ k))
    → pos 0 ≤ℤ (((negsuc 0 *ℤ y) +ℤ ((negsuc 0 *ℤ z) +ℤ pos 0)) +ℤ (negsuc 0 *ℤ pos 1))
both_down k a b y z r hk hr ea eb h =
    let g : k *ℤ ((neg_ℤ y -ℤ z) -ℤ pos 1) ≡ (neg_ℤ (k *ℤ y) -ℤ (k *ℤ z)) -ℤ k = simp ring (omega (arith, ints)) in
    let w = less_rest k ((neg_ℤ y -ℤ z) -ℤ pos 1) r hk hr (omega (arith, ints)) in
    omega (arith, ints)

-- an arc
along : (k a e b y f z r : ℤ) → pos 0 <ℤ k → a ≡ (k *ℤ y) +ℤ r → e ≡ k *ℤ f → b ≡ (k *ℤ z) +ℤ r
    → (((pos 1 *ℤ a) +ℤ ((pos 1 *ℤ e) +ℤ ((negsuc 0 *ℤ b) +ℤ pos 0))) +ℤ (pos 0 *ℤ k)) ≡ pos 0
    → (((pos 1 *ℤ y) +ℤ ((pos 1 *ℤ f) +ℤ ((negsuc 0 *ℤ z) +ℤ pos 0))) +ℤ (pos 0 *ℤ pos 1)) ≡ pos 0
along k a e b y f z r hk ea ee eb h =
    let g : k *ℤ ((y +ℤ f) -ℤ z) ≡ ((k *ℤ y) +ℤ (k *ℤ f)) -ℤ (k *ℤ z) = simp ring (omega (arith, ints)) in
    let n : k *ℤ pos 0 ≡ pos 0 = simp ring in
    let w = mul-cancel_left k ((y +ℤ f) -ℤ z) (pos 0) (positive_differs k hk) (omega (arith, ints)) in
    omega (arith, ints)

-- ---- each row

pub whole_tokens : (lts : System) (class : Class) (problem : Problem) (number : ℕ) (scale : ℤ) (x y : Variable → ℤ) (q : ℕ) → AreWholeParts lts scale x y
    → KeepsRowsOver lts class problem number scale x → pos 0 ≤ℤ y (Tokens q)
whole_tokens lts class problem number scale x y q parts keeps = ⊎_elim
    (λ lt. up_to_rest scale (y (Tokens q)) parts.rest parts.positive parts.below
    (subst (λ z. pos 0 ≤ℤ z) (parts.tokens q lt) (kept_tokens lts class problem number scale x keeps q)))
    (λ le. parts.others q le)
    (cases_lt q (states lts))

module _ (lts : System) (class : Class) (problem : Problem) (number : ℕ) (scale : ℤ) (x y : Variable → ℤ) (fine : IsInRange lts)
    (asked : IsSeparationProblem lts problem) (live : IsLive lts problem) (parts : AreWholeParts lts scale x y)
    (keeps : KeepsRowsOver lts class problem number scale x) where
  effect_whole : (t : ℕ) (k c : ℤ) → pos 0 ≤ℤ c → pos 0 ≤ℤ (((k *ℤ x (Effect t)) +ℤ pos 0) +ℤ (c *ℤ scale)) → pos 0 ≤ℤ (((k *ℤ y (Effect t)) +ℤ pos 0) +ℤ (c *ℤ pos 1))
  effect_whole t k c weak h = ⊎_elim
      (λ e. any_times scale k (x (Effect t)) (y (Effect t)) c parts.positive (parts.effects t e) h)
      (λ e. subst (λ z. pos 0 ≤ℤ (((k *ℤ z) +ℤ pos 0) +ℤ (c *ℤ pos 1))) (sym (parts.unused t e)) (none k c weak))
      (cases_Bool (has_label t lts.arcs))
    where
      none : (k c : ℤ) → pos 0 ≤ℤ c → pos 0 ≤ℤ (((k *ℤ pos 0) +ℤ pos 0) +ℤ (c *ℤ pos 1))
      none k c h = let one : c *ℤ pos 1 ≡ c = simp ring in omega (arith, ints)

  own_row : (z k : ℤ) → pos 0 ≤ℤ z → pos 0 ≤ℤ (((pos 1 *ℤ z) +ℤ pos 0) +ℤ (pos 0 *ℤ k))
  own_row z k h = omega (arith, ints)

  kinds : CarriesEachKind lts class problem scale (pos 1) x y
  kinds = record {
    arc = λ a has h. (let ranges = arc_in_range lts fine a.from a.label a.to has in
        along scale (x (Tokens a.from)) (x (Effect a.label)) (x (Tokens a.to)) (y (Tokens a.from)) (y (Effect a.label)) (y (Tokens a.to)) parts.rest parts.positive
        (parts.tokens a.from ranges.0) (parts.effects a.label (finds_label a lts.arcs has)) (parts.tokens a.to ranges.2) h);
    tokens = λ q h. own_row (y (Tokens q)) (pos 1) (whole_tokens lts class problem number scale x y q parts keeps);
    effect = λ t k c label constant h. effect_whole t k c (effect_constant class c constant) h;
    most = λ q c state constant h. one_down scale (x (Tokens q)) (y (Tokens q)) parts.rest c parts.positive parts.not_negative (parts.tokens q (state fine asked)) h;
    full = λ q state event plain impure h. one_up scale (x (Tokens q)) (y (Tokens q)) parts.rest (negsuc 0) parts.positive parts.below
        (parts.tokens q (state fine asked)) h;
    apart = λ q r state state' h. one_less scale (x (Tokens q)) (x (Tokens r)) (y (Tokens q)) (y (Tokens r)) parts.rest parts.positive
        (parts.tokens q (state fine asked)) (parts.tokens r (state' fine asked)) h;
    block = λ s t event state label used pure h. both_down scale (x (Tokens s)) (x (Effect t)) (y (Tokens s)) (y (Effect t)) parts.rest parts.positive
        parts.not_negative (parts.tokens s (state fine asked)) (parts.effects t (live_label lts t (used live))) h;
  }

  pub whole_rows : KeepsRowsOver lts class problem number (pos 1) y
  whole_rows = carries_rows scale (pos 1) x y lts class problem number kinds keeps
