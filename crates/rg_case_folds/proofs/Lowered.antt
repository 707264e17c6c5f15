-- Whole numbers of a plain class without bound, less so much that no state is below 0, keep all rows.
use Rattle.std.proofs.Common.{◌≡◌, ⊎_elim, ℕ, ◌<◌, Bool, true, false, if◌then◌else◌, sym, ap, subst, arith}
use Rattle.std.specs.Prelude.{ℤ, pos, negsuc, ◌+ℤ◌, ◌*ℤ◌, ◌≤ℤ◌, nat_lt}
use Rattle.std.proofs.lemmas.Int.{ints}
use Rattle.std.proofs.lemmas.Bool.{cases_lt}
use Rattle.rg_theory.specs.declared.Class.{Class}
use Rattle.rg_theory.specs.declared.Problem.{Problem}
use Rattle.rg_theory.specs.declared.Problem.TheVariants.{Event, States}
use Rattle.rg_theory.specs.System.{System, IsInRange, states}
use Rattle.rg_theory.proofs.Arcs.{arc_in_range}
use Rattle.rg_linear.proofs.Columns.{below_test, past_test}
use Rattle.rg_cert_meaning.specs.declared.Variable.{Variable}
use Rattle.rg_cert_meaning.specs.Refutes.{IsSeparationProblem}
use Rattle.rg_case_folds.specs.Meaning.{KeepsRowsOver}
use Rattle.rg_case_folds.proofs.RowKinds.{IsEvent, CarriesEachKind, carries_rows}
use Rattle.rg_cert_meaning.specs.declared.RowName.TheVariants as row_name
use Rattle.rg_cert_meaning.specs.declared.Variable.TheVariants.{Tokens, Effect}

-- the numbers with so much more at each of n states, and 0 behind them
abbrev pub lowered : ℕ → ℤ → (Variable → ℤ) → Variable → ℤ
lowered n by x (Tokens q) = if nat_lt q n then x (Tokens q) +ℤ by else pos 0
lowered n by x (Effect t) = x (Effect t)

-- ---- rows

one_lower : (a b by k : ℤ) → by ≤ℤ pos 0 → b ≡ a +ℤ by → pos 0 ≤ℤ (((negsuc 0 *ℤ a) +ℤ pos 0) +ℤ k) → pos 0 ≤ℤ (((negsuc 0 *ℤ b) +ℤ pos 0) +ℤ k)
one_lower a b by k le e h = omega (arith, ints)

two_lower : (a b by e k : ℤ) → by ≤ℤ pos 0 → b ≡ a +ℤ by
    → pos 0 ≤ℤ (((negsuc 0 *ℤ a) +ℤ ((negsuc 0 *ℤ e) +ℤ pos 0)) +ℤ k) → pos 0 ≤ℤ (((negsuc 0 *ℤ b) +ℤ ((negsuc 0 *ℤ e) +ℤ pos 0)) +ℤ k)
two_lower a b by e k le p h = omega (arith, ints)

both_lower : (a b c d by k : ℤ) → b ≡ a +ℤ by → d ≡ c +ℤ by
    → pos 0 ≤ℤ (((pos 1 *ℤ a) +ℤ ((negsuc 0 *ℤ c) +ℤ pos 0)) +ℤ k) → pos 0 ≤ℤ (((pos 1 *ℤ b) +ℤ ((negsuc 0 *ℤ d) +ℤ pos 0)) +ℤ k)
both_lower a b c d by k p q h = omega (arith, ints)

arc_lower : (a b e c d by k : ℤ) → b ≡ a +ℤ by → d ≡ c +ℤ by
    → ((pos 1 *ℤ a) +ℤ ((pos 1 *ℤ e) +ℤ ((negsuc 0 *ℤ c) +ℤ pos 0))) +ℤ k ≡ pos 0 → ((pos 1 *ℤ b) +ℤ ((pos 1 *ℤ e) +ℤ ((negsuc 0 *ℤ d) +ℤ pos 0))) +ℤ k ≡ pos 0
arc_lower a b e c d by k p q h = omega (arith, ints)

not_lowered : (a by : ℤ) → by ≤ℤ pos 0 → pos 0 ≤ℤ (a +ℤ by) → pos 0 ≤ℤ (((negsuc 0 *ℤ a) +ℤ pos 0) +ℤ (pos 0 *ℤ pos 1)) → by ≡ pos 0
not_lowered a by le above h = omega (arith, ints)

module _ (lts : System) (class : Class) (plain : class.plain ≡ true) (fine : IsInRange lts) (by : ℤ) (le : by ≤ℤ pos 0) (x : Variable → ℤ)
    (above : (q : ℕ) → q < states lts → pos 0 ≤ℤ (x (Tokens q) +ℤ by)) where
  pub lowered_at : (q : ℕ) → q < states lts → lowered (states lts) by x (Tokens q) ≡ x (Tokens q) +ℤ by
  lowered_at q lt = ap (λ b. if b then x (Tokens q) +ℤ by else pos 0) (below_test q (states lts) lt)

  not_negative : (q : ℕ) → pos 0 ≤ℤ lowered (states lts) by x (Tokens q)
  not_negative q = ⊎_elim
      (λ lt. subst (λ z. pos 0 ≤ℤ z) (sym (lowered_at q lt)) (above q lt))
      (λ past. subst (λ (b : Bool). pos 0 ≤ℤ (if b then x (Tokens q) +ℤ by else pos 0)) (sym (past_test q (states lts) past)) (omega (arith, ints)))
      (cases_lt q (states lts))

  tokens_hold : (z : ℤ) → pos 0 ≤ℤ z → pos 0 ≤ℤ (((pos 1 *ℤ z) +ℤ pos 0) +ℤ (pos 0 *ℤ pos 1))
  tokens_hold z h = omega (arith, ints)

  abbrev y : Variable → ℤ
  y = lowered (states lts) by x

  -- in an event problem of an impure class no state of the event has tokens
  stays : (problem : Problem) (number : ℕ) → IsEvent problem → IsSeparationProblem lts problem → class.pure ≡ false → KeepsRowsOver lts class problem number (pos 1) x
      → by ≡ pos 0
  stays (Event s t) number event (lt, _, _) impure keeps = not_lowered (x (Tokens s)) by le (above s lt) (keeps row_name.Empty (plain, impure))
  stays (States s s') number event asked impure keeps = absurd event

  same : (a b by : ℤ) → b ≡ a +ℤ by → by ≡ pos 0 → a ≡ b
  same a b by at e = omega (arith, ints)

  kinds : (problem : Problem) (number : ℕ) → IsSeparationProblem lts problem → KeepsRowsOver lts class problem number (pos 1) x → CarriesEachKind lts class problem (pos 1) (pos 1) x y
  kinds problem number asked keeps = record {
    arc = λ a has h. (let ranges = arc_in_range lts fine a.from a.label a.to has in
        arc_lower (x (Tokens a.from)) (y (Tokens a.from)) (x (Effect a.label)) (x (Tokens a.to)) (y (Tokens a.to)) by (pos 0 *ℤ pos 1)
        (lowered_at a.from ranges.0) (lowered_at a.to ranges.2) h);
    tokens = λ q h. tokens_hold (y (Tokens q)) (not_negative q);
    effect = λ t k c label constant h. h;
    most = λ q c state constant h. one_lower (x (Tokens q)) (y (Tokens q)) by (c *ℤ pos 1) le (lowered_at q (state fine asked)) h;
    full = λ q state event plain' impure h. subst (λ z. pos 0 ≤ℤ (((pos 1 *ℤ z) +ℤ pos 0) +ℤ (negsuc 0 *ℤ pos 1)))
        (same (x (Tokens q)) (y (Tokens q)) by (lowered_at q (state fine asked)) (stays problem number event asked impure keeps)) h;
    apart = λ q r state state' h. both_lower (x (Tokens q)) (y (Tokens q)) (x (Tokens r)) (y (Tokens r)) by (negsuc 0 *ℤ pos 1)
        (lowered_at q (state fine asked)) (lowered_at r (state' fine asked)) h;
    block = λ s t event state label used pure h. two_lower (x (Tokens s)) (y (Tokens s)) by (x (Effect t)) (negsuc 0 *ℤ pos 1) le (lowered_at s (state fine asked)) h;
  }

  pub lowered_keeps : (problem : Problem) (number : ℕ) → IsSeparationProblem lts problem → KeepsRowsOver lts class problem number (pos 1) x
      → KeepsRowsOver lts class problem number (pos 1) (lowered (states lts) by x)
  lowered_keeps problem number asked keeps = carries_rows (pos 1) (pos 1) x y lts class problem number (kinds problem number asked keeps) keeps
