-- The terms of the rows are over the states and labels of the system.
use Rattle.std.proofs.Common.{ℕ, zero, suc, ◌<◌, Bool, true, false, if◌then◌else◌, List, [], ◌∷◌, All}
use Rattle.std.specs.Prelude.{pos, neg_ℤ, ◌-ℤ◌, ◌*ℤ◌, Some, slice_get}
use Rattle.std.proofs.lemmas.List.Elements.{All-nil, All-cons, All-head, All-tail}
use Rattle.rg_theory.specs.declared.Class.{Class}
use Rattle.rg_theory.specs.declared.Problem.{Problem}
use Rattle.rg_theory.specs.declared.Problem.TheVariants.{Event, States}
use Rattle.rg_theory.specs.System.{System, states, labels}
use Rattle.rg_cert_meaning.specs.Expression.{Term, Expression, plus, minus, sum_of}
use Rattle.rg_cert_meaning.specs.declared.Variable.{Variable}
use Rattle.rg_cert_meaning.specs.Row.{form_variable, step_of, Side, side_expression, shared_expression, event_expression, state_expression, apart_expression, row_expression, order_of}
use Rattle.rg_cert_meaning.specs.declared.Form.{Form}
use Rattle.rg_cert_meaning.specs.declared.RowName.{RowName}
use Rattle.rg_cert_meaning.specs.Refutes.{IsSeparationProblem}
use Rattle.rg_cert_data.specs.Certificates.{IsFormOf, IsRowNameOf, IsTermWithin}
use Rattle.rg_cert_meaning.specs.declared.RowName.TheVariants as row_name
use Rattle.rg_cert_meaning.specs.declared.Form.TheVariants as split_form
use Rattle.rg_cert_meaning.specs.declared.Variable.TheVariants.{Tokens, Effect}

module _ (lts : System) (start : lts.initial < states lts) where
  abbrev Within : Term → Type 0
  Within = IsTermWithin (states lts) (labels lts)

  none : All Within []
  none = All-nil Within

  one : (a : Term) → Within a → All Within (a ∷ [])
  one a p = All-cons Within a [] p none

  two : (a b : Term) → Within a → Within b → All Within (a ∷ b ∷ [])
  two a b p q = All-cons Within a (b ∷ []) p (one b q)

  three : (a b c : Term) → Within a → Within b → Within c → All Within (a ∷ b ∷ c ∷ [])
  three a b c p q r = All-cons Within a (b ∷ c ∷ []) p (two b c q r)

  form_within : (f : Form) → IsFormOf lts f → Within (plus (form_variable lts.initial f)) × Within (minus (form_variable lts.initial f))
  form_within (split_form.Tokens q) p = (p, p)
  form_within (split_form.Effect t) p = (p, p)
  form_within split_form.Start p = (start, start)

  side_within : (class : Class) (s : Side) → IsFormOf lts s.form → All Within (side_expression class lts.initial (Some s)).terms
  side_within class s p = go s.high
    where
      v : Variable
      v = form_variable lts.initial s.form

      go : (b : Bool) → All Within (if◌then◌else◌ {A = Expression} b
          (sum_of (plus v ∷ []) (neg_ℤ (pos (step_of class s.form) *ℤ s.at) -ℤ pos (step_of class s.form)))
          (sum_of (minus v ∷ []) (pos (step_of class s.form) *ℤ s.at))).terms
      go true = one (plus v) (form_within s.form p).0
      go false = one (minus v) (form_within s.form p).1

  above_within : (class : Class) (above : List Side) (d : ℕ) → All (λ s. IsFormOf lts s.form) above → All Within (side_expression class lts.initial (slice_get above d)).terms
  above_within class [] d all = none
  above_within class (s ∷ above) zero all = side_within class s (All-head (λ s. IsFormOf lts s.form) s above all)
  above_within class (s ∷ above) (suc d) all = above_within class above d (All-tail (λ s. IsFormOf lts s.form) s above all)

  module _ (class : Class) (above : List Side) (sides : All (λ s. IsFormOf lts s.form) above) where
    shared_within : (name : RowName) → IsRowNameOf lts name → All Within (shared_expression lts class above name).terms
    shared_within (row_name.Arc e) (a, b, c) = three (plus (Tokens e.from)) (plus (Effect e.label)) (minus (Tokens e.to)) a b c
    shared_within (row_name.Tokens q) p = one (plus (Tokens q)) p
    shared_within (row_name.Cap q) p = one (minus (Tokens q)) p
    shared_within (row_name.Up t) p = one (minus (Effect t)) p
    shared_within (row_name.Down t) p = one (plus (Effect t)) p
    shared_within (row_name.Makes t) p = one (plus (Effect t)) p
    shared_within (row_name.Stop q) p = none
    shared_within row_name.Block p = none
    shared_within row_name.Empty p = none
    shared_within (row_name.Full q) p = none
    shared_within row_name.Keep p = none
    shared_within row_name.Apart p = none
    shared_within (row_name.Above d) p = above_within class above d sides

    event_within : (s t : ℕ) → s < states lts → t < labels lts → (name : RowName) → IsRowNameOf lts name → All Within (event_expression lts class s t above name).terms
    event_within s t a b (row_name.Stop q) p = two (plus (Tokens q)) (minus (Tokens s)) p a
    event_within s t a b row_name.Block p = two (minus (Tokens s)) (minus (Effect t)) a b
    event_within s t a b row_name.Empty p = one (minus (Tokens s)) a
    event_within s t a b (row_name.Full q) p = one (plus (Tokens q)) p
    event_within s t a b row_name.Keep p = one (minus (Effect t)) b
    event_within s t a b (row_name.Arc e) p = shared_within (row_name.Arc e) p
    event_within s t a b (row_name.Tokens q) p = shared_within (row_name.Tokens q) p
    event_within s t a b (row_name.Cap q) p = shared_within (row_name.Cap q) p
    event_within s t a b (row_name.Up u) p = shared_within (row_name.Up u) p
    event_within s t a b (row_name.Down u) p = shared_within (row_name.Down u) p
    event_within s t a b (row_name.Makes u) p = shared_within (row_name.Makes u) p
    event_within s t a b row_name.Apart p = shared_within row_name.Apart p
    event_within s t a b (row_name.Above d) p = shared_within (row_name.Above d) p

    apart_within : (s s' order : ℕ) → s < states lts → s' < states lts → All Within (apart_expression s s' order).terms
    apart_within s s' zero a b = two (plus (Tokens s')) (minus (Tokens s)) b a
    apart_within s s' (suc order) a b = two (plus (Tokens s)) (minus (Tokens s')) a b

    state_within : (s s' order : ℕ) → s < states lts → s' < states lts → (name : RowName) → IsRowNameOf lts name → All Within (state_expression lts class s s' order above name).terms
    state_within s s' order a b row_name.Apart p = apart_within s s' order a b
    state_within s s' order a b (row_name.Stop q) p = shared_within (row_name.Stop q) p
    state_within s s' order a b row_name.Block p = shared_within row_name.Block p
    state_within s s' order a b row_name.Empty p = shared_within row_name.Empty p
    state_within s s' order a b (row_name.Full q) p = shared_within (row_name.Full q) p
    state_within s s' order a b row_name.Keep p = shared_within row_name.Keep p
    state_within s s' order a b (row_name.Arc e) p = shared_within (row_name.Arc e) p
    state_within s s' order a b (row_name.Tokens q) p = shared_within (row_name.Tokens q) p
    state_within s s' order a b (row_name.Cap q) p = shared_within (row_name.Cap q) p
    state_within s s' order a b (row_name.Up u) p = shared_within (row_name.Up u) p
    state_within s s' order a b (row_name.Down u) p = shared_within (row_name.Down u) p
    state_within s s' order a b (row_name.Makes u) p = shared_within (row_name.Makes u) p
    state_within s s' order a b (row_name.Above d) p = shared_within (row_name.Above d) p

    pub row_within : (problem : Problem) (number : ℕ) → IsSeparationProblem lts problem → (name : RowName) → IsRowNameOf lts name
        → All Within (row_expression lts class problem number above name).terms
    row_within (Event s t) number asked = event_within s t asked.0 asked.1
    row_within (States s s') number asked = state_within s s' (order_of lts class number) asked.0 asked.1
