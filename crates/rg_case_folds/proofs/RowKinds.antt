-- The rows of a case by their kinds: what holds of the expressions of each kind holds of those of all rows that are allowed.
use Rattle.std.proofs.Common.{◌≡◌, ◌⊎◌, ℕ, zero, suc, ◌<◌, is_some, true, false, [], ◌∷◌, inl, inr, refl, subst, sym, arith}
use Rattle.std.specs.Prelude.{unwrap_or, ℤ, pos, negsuc, ◌≤ℤ◌}
use Rattle.std.proofs.lemmas.Int.{ints}
use Rattle.rg_theory.specs.declared.Arc.{Arc}
use Rattle.rg_theory.specs.declared.Class.{Class}
use Rattle.rg_theory.specs.declared.Problem.{Problem}
use Rattle.rg_theory.specs.declared.Problem.TheVariants.{Event, States}
use Rattle.rg_theory.specs.System.{System, HasArc, IsDead, IsInRange, states, labels}
use Rattle.rg_theory.proofs.Arcs.{arc_in_range}
use Rattle.rg_cert_meaning.specs.Expression.{Expression, plus, minus, sum_of}
use Rattle.rg_cert_meaning.specs.declared.Variable.{Variable}
use Rattle.rg_cert_meaning.specs.declared.RowName.{RowName}
use Rattle.rg_cert_meaning.specs.Row.{SharedStands, EventStands, RowStands, shared_expression, event_expression, row_expression, apart_expression, case_consumer, order_of, Says}
use Rattle.rg_cert_meaning.specs.Refutes.{IsSeparationProblem}
use Rattle.rg_case_folds.specs.Shown.{IsLive}
use Rattle.rg_case_folds.specs.Meaning.{value_over, KeepsRowsOver}
use Rattle.rg_cert_meaning.specs.declared.RowName.TheVariants as row_name
use Rattle.rg_cert_meaning.specs.declared.Variable.TheVariants.{Tokens, Effect}

abbrev pub IsEvent : Problem → Type 0
IsEvent (Event s t) = Unit {0}
IsEvent (States s s') = ⊥

-- a number in a row is that of a state, a label, or a label with an arc, where such a problem of the system is asked
abbrev pub IsState : System → Problem → ℕ → Type 0
IsState lts problem q = IsInRange lts → IsSeparationProblem lts problem → q < states lts

abbrev pub IsLabel : System → Problem → ℕ → Type 0
IsLabel lts problem t = IsSeparationProblem lts problem → t < labels lts

abbrev pub IsUsed : System → Problem → ℕ → Type 0
IsUsed lts problem t = IsLive lts problem → ¬ IsDead lts t

-- the constants of rows of one effect, and of rows that take tokens away
abbrev pub IsEffectConstant : Class → ℤ → Type 0
IsEffectConstant class c = (c ≡ pos 0) ⊎ ((c ≡ pos 1) × (class.plain ≡ true))

abbrev pub IsMostConstant : Class → Problem → ℤ → Type 0
IsMostConstant class problem c = (is_some class.bound ≡ true) ⊎ (IsEvent problem × (c ≡ pos 0) × (class.plain ≡ true))

pub effect_constant : (class : Class) (c : ℤ) → IsEffectConstant class c → pos 0 ≤ℤ c
effect_constant class c (inl e) = subst (λ z. pos 0 ≤ℤ z) (sym e) (omega (arith, ints))
effect_constant class c (inr (e, plain)) = subst (λ z. pos 0 ≤ℤ z) (sym e) (omega (arith, ints))

-- by kinds: of arcs, of tokens, and of others
abbrev pub OfKind : (Expression → Type 0) → (Expression → Type 0) → (Expression → Type 0) → RowName → Expression → Type 0
OfKind Arcs Own Others (row_name.Arc a) e = Arcs e
OfKind Arcs Own Others (row_name.Tokens q) e = Own e
OfKind Arcs Own Others name e = Others e

pub record EachKind (lts : System) (class : Class) (problem : Problem) (Arcs Own Others : Expression → Type 0) : Type 0 where
  pub arc : (a : Arc) → HasArc lts a.from a.label a.to → Arcs (sum_of (plus (Tokens a.from) ∷ plus (Effect a.label) ∷ minus (Tokens a.to) ∷ []) (pos 0))
  pub tokens : (q : ℕ) → Own (sum_of (plus (Tokens q) ∷ []) (pos 0))
  pub effect : (t : ℕ) (k c : ℤ) → IsLabel lts problem t → IsEffectConstant class c → Others (sum_of (record { coefficient = k; variable = Effect t } ∷ []) c)
  pub most : (q : ℕ) (c : ℤ) → IsState lts problem q → IsMostConstant class problem c → Others (sum_of (minus (Tokens q) ∷ []) c)
  pub full : (q : ℕ) → IsState lts problem q → IsEvent problem → class.plain ≡ true → class.pure ≡ false → Others (sum_of (plus (Tokens q) ∷ []) (negsuc 0))
  pub apart : (q r : ℕ) → IsState lts problem q → IsState lts problem r → Others (sum_of (plus (Tokens q) ∷ minus (Tokens r) ∷ []) (negsuc 0))
  pub block : (s t : ℕ) → IsEvent problem → IsState lts problem s → IsLabel lts problem t → IsUsed lts problem t → class.pure ≡ true
      → Others (sum_of (minus (Tokens s) ∷ minus (Effect t) ∷ []) (negsuc 0))

module _ (lts : System) (class : Class) (Arcs Own Others : Expression → Type 0) where
  shared_row : (problem : Problem) (consumer : ℕ) → EachKind lts class problem Arcs Own Others → (name : RowName) → SharedStands lts class consumer [] name
      → OfKind Arcs Own Others name (shared_expression lts class [] name)
  shared_row problem consumer each (row_name.Arc a) has = each.arc a has
  shared_row problem consumer each (row_name.Tokens q) stands = each.tokens q
  shared_row problem consumer each (row_name.Cap q) (lt, some) = each.most q (pos (unwrap_or class.bound 0)) (λ fine asked. lt) (inl some)
  shared_row problem consumer each (row_name.Up t) (lt, plain) = each.effect t (negsuc 0) (pos 1) (λ asked. lt) (inr (refl, plain))
  shared_row problem consumer each (row_name.Down t) (lt, plain) = each.effect t (pos 1) (pos 1) (λ asked. lt) (inr (refl, plain))
  shared_row problem consumer each (row_name.Makes t) (lt, nonbranching, differs) = each.effect t (pos 1) (pos 0) (λ asked. lt) (inl refl)
  shared_row problem consumer each name stands = absurd stands

  event_row : (s t : ℕ) → EachKind lts class (Event s t) Arcs Own Others → (name : RowName) → EventStands lts class s t [] name
      → OfKind Arcs Own Others name (event_expression lts class s t [] name)
  event_row s t each (row_name.Stop q) (impure, unplain, (r, has)) = each.apart q s (λ fine asked. (arc_in_range lts fine q t r has).0) (λ fine asked. asked.0)
  event_row s t each row_name.Block pure = each.block s t tt (λ fine asked. asked.0) (λ asked. asked.1) (λ live. live) pure
  event_row s t each row_name.Empty (plain, impure) = each.most s (pos 0) (λ fine asked. asked.0) (inr (tt, refl, plain))
  event_row s t each (row_name.Full q) (plain, impure, (r, has)) = each.full q (λ fine asked. (arc_in_range lts fine q t r has).0) tt plain impure
  event_row s t each row_name.Keep stands = each.effect t (negsuc 0) (pos 0) (λ asked. asked.1) (inl refl)
  event_row s t each name stands = shared_row (Event s t) t each name stands

  apart_row : (s r order : ℕ) → EachKind lts class (States s r) Arcs Own Others → Others (apart_expression s r order)
  apart_row s r zero each = each.apart r s (λ fine asked. asked.1) (λ fine asked. asked.0)
  apart_row s r (suc order) each = each.apart s r (λ fine asked. asked.0) (λ fine asked. asked.1)

  pub each_row : (problem : Problem) (number : ℕ) → EachKind lts class problem Arcs Own Others → (name : RowName) → RowStands lts class problem number [] name
      → OfKind Arcs Own Others name (row_expression lts class problem number [] name)
  each_row (Event s t) number each name stands = event_row s t each name stands
  each_row (States s r) number each row_name.Apart stands = apart_row s r (order_of lts class number) each
  each_row (States s r) number each name stands = shared_row (States s r) (case_consumer lts (States s r) number) each name stands

-- ---- numbers that keep the rows of each kind keep all

abbrev pub ArcCarries : ℤ → ℤ → (Variable → ℤ) → (Variable → ℤ) → Expression → Type 0
ArcCarries scale scale' x y e = value_over scale x e ≡ pos 0 → value_over scale' y e ≡ pos 0

abbrev pub Carries : ℤ → ℤ → (Variable → ℤ) → (Variable → ℤ) → Expression → Type 0
Carries scale scale' x y e = pos 0 ≤ℤ value_over scale x e → pos 0 ≤ℤ value_over scale' y e

-- rows of each kind that hold of x over a scale hold of y over another
abbrev pub CarriesEachKind : System → Class → Problem → ℤ → ℤ → (Variable → ℤ) → (Variable → ℤ) → Type 0
CarriesEachKind lts class problem scale scale' x y = EachKind lts class problem (ArcCarries scale scale' x y) (Carries scale scale' x y) (Carries scale scale' x y)

module _ (scale scale' : ℤ) (x y : Variable → ℤ) where
  says_carried : (name : RowName) (e : Expression) → OfKind (ArcCarries scale scale' x y) (Carries scale scale' x y) (Carries scale scale' x y) name e
      → Says name (value_over scale x e) → Says name (value_over scale' y e)
  says_carried (row_name.Arc a) e carried h = carried h
  says_carried (row_name.Tokens q) e carried h = carried h
  says_carried name e carried h = carried h

  pub carries_rows : (lts : System) (class : Class) (problem : Problem) (number : ℕ) → CarriesEachKind lts class problem scale scale' x y
      → KeepsRowsOver lts class problem number scale x → KeepsRowsOver lts class problem number scale' y
  carries_rows lts class problem number each keeps name stands =
      says_carried name (row_expression lts class problem number [] name)
      (each_row lts class (ArcCarries scale scale' x y) (Carries scale scale' x y) (Carries scale scale' x y) problem number each name stands)
      (keeps name stands)
