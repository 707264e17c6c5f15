-- In a class that is neither plain nor bounded, solutions over a scale are whole.
use Rattle.std.proofs.Common.{◌≡◌, ◌⊎◌, ⊎_elim, ℕ, is_some, Option, Some, None, true, false, [], IsNone, inl, inr, refl, sym, ap, subst, ◌∙◌, arith}
use Rattle.std.specs.Prelude.{ℤ, pos, negsuc, ◌+ℤ◌, ◌*ℤ◌, ◌<ℤ◌, ◌≤ℤ◌, unsigned_abs}
use Rattle.std.proofs.lemmas.Int.{ints}
use Rattle.std.proofs.lemmas.Bool.{true≢false}
use Rattle.rg_theory.specs.declared.Class.{Class}
use Rattle.rg_theory.specs.declared.Problem.{Problem}
use Rattle.rg_theory.specs.System.{System}
use Rattle.rg_cert_meaning.specs.Expression.{Term, Expression, value_in, numbers_by}
use Rattle.rg_cert_meaning.specs.declared.Variable.{Variable}
use Rattle.rg_cert_meaning.specs.declared.RowName.{RowName}
use Rattle.rg_cert_meaning.specs.Row.{row_expression, Says, KeepsRows}
use Rattle.rg_theory.specs.Class.{AllowsStart}
use Rattle.rg_cert_meaning.specs.declared.Variable.TheVariants.{Tokens, Effect}
use Rattle.rg_case_folds.proofs.CaseRows.{kept_tokens}
use Rattle.rg_integers.proofs.ListSums.{sum_over-same}
use Rattle.rg_case_folds.specs.Meaning.{value_over, KeepsRowsOver, HasSolution, HasWholeSolutionIn}
use Rattle.rg_case_folds.proofs.RowKinds.{OfKind, EachKind, each_row}
use Rattle.rg_case_folds.proofs.CaseMeaning.{whole_means}
use Rattle.rg_cert_meaning.specs.declared.RowName.TheVariants as row_name

pub solution_of_whole : (lts : System) (class : Class) (problem : Problem) (number : ℕ) → HasWholeSolutionIn lts class problem number → HasSolution lts class problem number
solution_of_whole lts class problem number (tokens, effect, start, keeps) =
    (pos 1, numbers_by tokens effect, omega (arith, ints), (whole_means lts class problem number (numbers_by tokens effect)).1 keeps)

-- ---- the constants of rows

not_some : (o : Option ℕ) → IsNone o → is_some o ≡ true → ⊥
not_some None e f = true≢false (sym f)
not_some (Some k) e f = cc

abbrev pub IsLow : ℤ → Type 0
IsLow z = (z ≡ pos 0) ⊎ (z ≡ negsuc 0)

low_kinds : (lts : System) (class : Class) (problem : Problem) → class.plain ≡ false → IsNone class.bound
    → EachKind lts class problem (λ e. e.constant ≡ pos 0) (λ e. IsLow e.constant) (λ e. IsLow e.constant)
low_kinds lts class problem plain bound = record {
  arc = λ a has. refl;
  tokens = λ q. inl refl;
  effect = λ t k c label constant. ⊎_elim (λ e. inl e) (λ (e, is_plain). absurd (true≢false (sym is_plain ∙ plain))) constant;
  most = λ q c state constant. ⊎_elim (λ some. absurd (not_some class.bound bound some)) (λ (event, e, is_plain). inl e) constant;
  full = λ q state event is_plain impure. inr refl;
  apart = λ q r state state'. inr refl;
  block = λ s t event state label used pure. inr refl;
}

-- ---- the same numbers, over the scale 1

not_negative_row : (v c k : ℤ) → IsLow c → pos 0 <ℤ k → pos 0 ≤ℤ (v +ℤ (c *ℤ k)) → pos 0 ≤ℤ (v +ℤ (c *ℤ pos 1))
not_negative_row v c k (inl e) positive h = subst (λ z. pos 0 ≤ℤ (v +ℤ (z *ℤ pos 1))) (sym e) (close v k (subst (λ z. pos 0 ≤ℤ (v +ℤ (z *ℤ k))) e h))
  where
    close : (v k : ℤ) → pos 0 ≤ℤ (v +ℤ (pos 0 *ℤ k)) → pos 0 ≤ℤ (v +ℤ (pos 0 *ℤ pos 1))
    close v k h = omega (arith, ints)
not_negative_row v c k (inr e) positive h = subst (λ z. pos 0 ≤ℤ (v +ℤ (z *ℤ pos 1))) (sym e) (close v k positive (subst (λ z. pos 0 ≤ℤ (v +ℤ (z *ℤ k))) e h))
  where
    close : (v k : ℤ) → pos 0 <ℤ k → pos 0 ≤ℤ (v +ℤ (negsuc 0 *ℤ k)) → pos 0 ≤ℤ (v +ℤ (negsuc 0 *ℤ pos 1))
    close v k positive h = omega (arith, ints)

pub at_one : (lts : System) (class : Class) (problem : Problem) (number : ℕ) (scale : ℤ) (x : Variable → ℤ) → class.plain ≡ false → IsNone class.bound → pos 0 <ℤ scale
    → KeepsRowsOver lts class problem number scale x → KeepsRowsOver lts class problem number (pos 1) x
at_one lts class problem number scale x plain bound positive keeps name stands =
    by name (row_expression lts class problem number [] name)
    (each_row lts class (λ e. e.constant ≡ pos 0) (λ e. IsLow e.constant) (λ e. IsLow e.constant) problem number (low_kinds lts class problem plain bound) name stands)
    (keeps name stands)
  where
    zero_row : (v c k : ℤ) → c ≡ pos 0 → v +ℤ (c *ℤ k) ≡ pos 0 → v +ℤ (c *ℤ pos 1) ≡ pos 0
    zero_row v c k e h = subst (λ z. v +ℤ (z *ℤ pos 1) ≡ pos 0) (sym e) (close v k (subst (λ z. v +ℤ (z *ℤ k) ≡ pos 0) e h))
      where
        close : (v k : ℤ) → v +ℤ (pos 0 *ℤ k) ≡ pos 0 → v +ℤ (pos 0 *ℤ pos 1) ≡ pos 0
        close v k h = omega (arith, ints)

    by : (name : RowName) (e : Expression) → OfKind (λ e. e.constant ≡ pos 0) (λ e. IsLow e.constant) (λ e. IsLow e.constant) name e → Says name (value_over scale x e)
        → Says name (value_over (pos 1) x e)
    by (row_name.Arc a) e low h = zero_row (value_in x e.terms) e.constant scale low h
    by (row_name.Tokens q) e low h = not_negative_row (value_in x e.terms) e.constant scale low positive h
    by name e low h = not_negative_row (value_in x e.terms) e.constant scale low positive h

-- ---- tokens that are not negative

same_numbers : (lts : System) (class : Class) (problem : Problem) (number : ℕ) (x y : Variable → ℤ) → ((v : Variable) → x v ≡ y v)
    → KeepsRowsOver lts class problem number (pos 1) x → KeepsRowsOver lts class problem number (pos 1) y
same_numbers lts class problem number x y same keeps name stands =
    let e = row_expression lts class problem number [] name in
    subst (Says name)
    (ap (λ z. z +ℤ (e.constant *ℤ pos 1)) (sum_over-same (λ (t : Term). t.coefficient *ℤ x t.variable) (λ (t : Term). t.coefficient *ℤ y t.variable) e.terms
    (λ t has. ap (λ z. t.coefficient *ℤ z) (same t.variable))))
    (keeps name stands)

pub absolute : (z : ℤ) → pos 0 ≤ℤ z → z ≡ pos (unsigned_abs z)
absolute (pos n) h = refl
absolute (negsuc n) h = absurd (omega (arith, ints))

-- the tokens and effects of the numbers
abbrev pub tokens_in : (Variable → ℤ) → ℕ → ℕ
tokens_in x q = unsigned_abs (x (Tokens q))

abbrev pub effects_in : (Variable → ℤ) → ℕ → ℤ
effects_in x t = x (Effect t)

module _ (lts : System) (class : Class) (problem : Problem) (number : ℕ) (x : Variable → ℤ) (keeps : KeepsRowsOver lts class problem number (pos 1) x) where
  pub tokens_are : (q : ℕ) → x (Tokens q) ≡ pos (tokens_in x q)
  tokens_are q = absolute (x (Tokens q)) (kept_tokens lts class problem number (pos 1) x keeps q)

  same : (v : Variable) → x v ≡ numbers_by (tokens_in x) (effects_in x) v
  same (Tokens q) = tokens_are q
  same (Effect t) = refl

  pub whole_keeps : KeepsRows lts class problem number (numbers_by (tokens_in x) (effects_in x))
  whole_keeps = (whole_means lts class problem number (numbers_by (tokens_in x) (effects_in x))).0
      (same_numbers lts class problem number x (numbers_by (tokens_in x) (effects_in x)) same keeps)

  pub solve_kept : AllowsStart class (tokens_in x lts.initial) → HasWholeSolutionIn lts class problem number
  solve_kept allows = (tokens_in x, effects_in x, allows, whole_keeps)
