-- In a problem of two states and a class without bound all tokens may be more.
use Rattle.std.proofs.Common.{◌≡◌, ⊎_elim, ℕ, is_some, false, sym, ◌∙◌, arith}
use Rattle.std.specs.Prelude.{ℤ, pos, negsuc, ◌+ℤ◌, ◌*ℤ◌, ◌≤ℤ◌}
use Rattle.std.proofs.lemmas.Int.{ints}
use Rattle.std.proofs.lemmas.Bool.{true≢false}
use Rattle.rg_theory.specs.declared.Class.{Class}
use Rattle.rg_theory.specs.declared.Problem.TheVariants.{States}
use Rattle.rg_theory.specs.System.{System}
use Rattle.rg_cert_meaning.specs.declared.Variable.{Variable}
use Rattle.rg_cert_meaning.specs.declared.Variable.TheVariants.{Tokens, Effect}
use Rattle.rg_case_folds.specs.Meaning.{KeepsRowsOver, shifted}
use Rattle.rg_case_folds.proofs.RowKinds.{CarriesEachKind, carries_rows}

one_higher : (a by k : ℤ) → pos 0 ≤ℤ by → pos 0 ≤ℤ (((pos 1 *ℤ a) +ℤ pos 0) +ℤ k) → pos 0 ≤ℤ (((pos 1 *ℤ (a +ℤ by)) +ℤ pos 0) +ℤ k)
one_higher a by k le h = omega (arith, ints)

both_higher : (a c by k : ℤ) → pos 0 ≤ℤ (((pos 1 *ℤ a) +ℤ ((negsuc 0 *ℤ c) +ℤ pos 0)) +ℤ k)
    → pos 0 ≤ℤ (((pos 1 *ℤ (a +ℤ by)) +ℤ ((negsuc 0 *ℤ (c +ℤ by)) +ℤ pos 0)) +ℤ k)
both_higher a c by k h = omega (arith, ints)

arc_higher : (a e c by k : ℤ) → ((pos 1 *ℤ a) +ℤ ((pos 1 *ℤ e) +ℤ ((negsuc 0 *ℤ c) +ℤ pos 0))) +ℤ k ≡ pos 0
    → ((pos 1 *ℤ (a +ℤ by)) +ℤ ((pos 1 *ℤ e) +ℤ ((negsuc 0 *ℤ (c +ℤ by)) +ℤ pos 0))) +ℤ k ≡ pos 0
arc_higher a e c by k h = omega (arith, ints)

module _ (lts : System) (class : Class) (bound : is_some class.bound ≡ false) (by : ℤ) (le : pos 0 ≤ℤ by) (x : Variable → ℤ) where
  kinds : (s s' : ℕ) → CarriesEachKind lts class (States s s') (pos 1) (pos 1) x (shifted by x)
  kinds s s' = record {
    arc = λ a has h. arc_higher (x (Tokens a.from)) (x (Effect a.label)) (x (Tokens a.to)) by (pos 0 *ℤ pos 1) h;
    tokens = λ q h. one_higher (x (Tokens q)) by (pos 0 *ℤ pos 1) le h;
    effect = λ t k c label constant h. h;
    most = λ q c state constant h. absurd (⊎_elim (λ some. true≢false (sym some ∙ bound)) (λ event. event.0) constant);
    full = λ q state event plain impure h. absurd event;
    apart = λ q r state state' h. both_higher (x (Tokens q)) (x (Tokens r)) by (negsuc 0 *ℤ pos 1) h;
    block = λ s t event state label used pure h. absurd event;
  }

  pub lifted_keeps : (s s' number : ℕ) → KeepsRowsOver lts class (States s s') number (pos 1) x → KeepsRowsOver lts class (States s s') number (pos 1) (shifted by x)
  lifted_keeps s s' number = carries_rows (pos 1) (pos 1) x (shifted by x) lts class (States s s') number (kinds s s')
