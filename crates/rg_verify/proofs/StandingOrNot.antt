-- Whether a row stands in a case, and whether a row has the multiplier that it owes, is decided.
use Rattle.std.proofs.Common.{◌≡◌, ◌≢◌, ◌⊎◌, inl, inr, ℕ, zero, suc, ◌<◌, ◌≤◌, Bool, true, false, true≢false, Option, None, Some, IsSome, IsTrue, IsFalse, refl, sym, arith}
use Rattle.std.specs.Prelude.{List, ℤ, pos, negsuc, ◌≤ℤ◌, ◌<ℤ◌, slice_get}
use Rattle.std.proofs.lemmas.Int.{ints}
use Rattle.std.proofs.lemmas.Bool.{cases_eq}
use Rattle.rg_theory.specs.System.{System, states, labels, HasArc}
use Rattle.rg_theory.specs.declared.Class.{Class}
use Rattle.rg_theory.specs.declared.Problem.{Problem}
use Rattle.rg_theory.specs.declared.Problem.TheVariants.{Event, States}
use Rattle.rg_theory.proofs.Arcs.{find_arc}
use Rattle.rg_theory.proofs.Deciding.{Decided, both_decided, not_decided, less_or_not, true_or_not}
use Rattle.rg_theory.proofs.Growing.{has_arc}
use Rattle.rg_cert_meaning.specs.declared.RowName.{RowName}
use Rattle.rg_cert_meaning.specs.declared.RowName.TheVariants as row_name
use Rattle.rg_cert_meaning.specs.declared.Form.{Form}
use Rattle.rg_cert_meaning.specs.declared.Form.TheVariants as split_form
use Rattle.rg_cert_meaning.specs.Row.{Side, FormStands, SideStands, SharedStands, HasArcAt, EventStands, consumer_of, RowStands}
use Rattle.rg_cert_meaning.specs.Refutes.{IsMultiplier}

false_decided : (b : Bool) → Decided (IsFalse b)
false_decided true = inr (λ e. true≢false e)
false_decided false = inl refl

some_decided : (o : Option ℕ) → Decided (IsSome o)
some_decided None = inr (λ e. true≢false (sym e))
some_decided (Some n) = inl refl

none_at_false : Decided ⊥
none_at_false = inr (λ h. h)

pub positive_decided : (k : ℤ) → Decided (pos 1 ≤ℤ k)
positive_decided (negsuc n) = inr (λ h. (omega (arith, ints)))
positive_decided (pos zero) = inr (λ h. (omega (arith, ints)))
positive_decided (pos (suc n)) = inl (omega (arith, ints))

pub negative_decided : (z : ℤ) → Decided (z <ℤ pos 0)
negative_decided (pos n) = inr (λ h. (omega (arith, ints)))
negative_decided (negsuc n) = inl (omega (arith, ints))

pub zero_decided : (z : ℤ) → Decided (z ≡ pos 0)
zero_decided (pos zero) = inl refl
zero_decided (pos (suc n)) = inr (λ e. (omega (arith, ints)))
zero_decided (negsuc n) = inr (λ e. (omega (arith, ints)))

pub multiplier_decided : (k : ℤ) (name : RowName) → Decided (IsMultiplier k name)
multiplier_decided k (row_name.Arc a) = inl tt
multiplier_decided k (row_name.Tokens q) = positive_decided k
multiplier_decided k (row_name.Cap q) = positive_decided k
multiplier_decided k (row_name.Up t) = positive_decided k
multiplier_decided k (row_name.Down t) = positive_decided k
multiplier_decided k (row_name.Makes t) = positive_decided k
multiplier_decided k (row_name.Stop q) = positive_decided k
multiplier_decided k row_name.Block = positive_decided k
multiplier_decided k row_name.Empty = positive_decided k
multiplier_decided k (row_name.Full q) = positive_decided k
multiplier_decided k row_name.Keep = positive_decided k
multiplier_decided k row_name.Apart = positive_decided k
multiplier_decided k (row_name.Above d) = positive_decided k

pub form_decided : (class : Class) (form : Form) → Decided (FormStands class form)
form_decided class (split_form.Tokens q) = inl tt
form_decided class (split_form.Effect t) = inl tt
form_decided class split_form.Start = some_decided class.marking

side_decided : (class : Class) (o : Option Side) → Decided (SideStands class o)
side_decided class None = none_at_false
side_decided class (Some side) = form_decided class side.form

three_decided : (P Q R : Type 0) → Decided P → Decided Q → Decided R → Decided (P × Q × R)
three_decided P Q R (inl p) (inl q) (inl r) = inl (p, q, r)
three_decided P Q R (inl p) (inl q) (inr lacks) = inr (λ h. lacks h.2)
three_decided P Q R (inl p) (inr lacks) _ = inr (λ h. lacks h.1)
three_decided P Q R (inr lacks) _ _ = inr (λ h. lacks h.0)

arc_decided : (lts : System) (q t : ℕ) → Decided (HasArcAt lts q t)
arc_decided lts q t = by (find_arc lts q t)
  where
    by : ((q' : ℕ) × HasArc lts q t q') ⊎ ((q' : ℕ) → HasArc lts q t q' → ⊥) → Decided (HasArcAt lts q t)
    by (inl (q', has)) = inl (q', has)
    by (inr none) = inr (λ (q', has). none q' has)

module _ (lts : System) (class : Class) (above : List Side) where
  shared_decided : (consumer : ℕ) (name : RowName) → Decided (SharedStands lts class consumer above name)
  shared_decided consumer (row_name.Arc a) = has_arc lts a.from a.label a.to
  shared_decided consumer (row_name.Tokens q) = inl tt
  shared_decided consumer (row_name.Cap q) = both_decided (q < states lts) (IsSome class.bound) (less_or_not q (states lts)) (some_decided class.bound)
  shared_decided consumer (row_name.Up t) = both_decided (t < labels lts) (IsTrue class.plain) (less_or_not t (labels lts)) (true_or_not class.plain)
  shared_decided consumer (row_name.Down t) = both_decided (t < labels lts) (IsTrue class.plain) (less_or_not t (labels lts)) (true_or_not class.plain)
  shared_decided consumer (row_name.Makes t) =
      three_decided (t < labels lts) (IsTrue class.nonbranching) (t ≢ consumer) (less_or_not t (labels lts)) (true_or_not class.nonbranching) (not_decided (t ≡ consumer) (cases_eq t consumer))
  shared_decided consumer (row_name.Stop q) = none_at_false
  shared_decided consumer row_name.Block = none_at_false
  shared_decided consumer row_name.Empty = none_at_false
  shared_decided consumer (row_name.Full q) = none_at_false
  shared_decided consumer row_name.Keep = none_at_false
  shared_decided consumer row_name.Apart = none_at_false
  shared_decided consumer (row_name.Above d) = side_decided class (slice_get above d)

  plain_and_not_pure : Decided (IsTrue class.plain × IsFalse class.pure)
  plain_and_not_pure = both_decided (IsTrue class.plain) (IsFalse class.pure) (true_or_not class.plain) (false_decided class.pure)

  event_decided : (s t : ℕ) (name : RowName) → Decided (EventStands lts class s t above name)
  event_decided s t (row_name.Stop q) = three_decided (IsFalse class.pure) (IsFalse class.plain) (HasArcAt lts q t) (false_decided class.pure) (false_decided class.plain) (arc_decided lts q t)
  event_decided s t row_name.Block = true_or_not class.pure
  event_decided s t row_name.Empty = plain_and_not_pure
  event_decided s t (row_name.Full q) = three_decided (IsTrue class.plain) (IsFalse class.pure) (HasArcAt lts q t) (true_or_not class.plain) (false_decided class.pure) (arc_decided lts q t)
  event_decided s t row_name.Keep = plain_and_not_pure
  event_decided s t (row_name.Arc a) = shared_decided t (row_name.Arc a)
  event_decided s t (row_name.Tokens q) = shared_decided t (row_name.Tokens q)
  event_decided s t (row_name.Cap q) = shared_decided t (row_name.Cap q)
  event_decided s t (row_name.Up u) = shared_decided t (row_name.Up u)
  event_decided s t (row_name.Down u) = shared_decided t (row_name.Down u)
  event_decided s t (row_name.Makes u) = shared_decided t (row_name.Makes u)
  event_decided s t row_name.Apart = shared_decided t row_name.Apart
  event_decided s t (row_name.Above d) = shared_decided t (row_name.Above d)

  state_decided : (s s' number : ℕ) (name : RowName) → Decided (RowStands lts class (States s s') number above name)
  state_decided s s' number row_name.Apart = inl tt
  state_decided s s' number (row_name.Stop q) = shared_decided (consumer_of lts number) (row_name.Stop q)
  state_decided s s' number row_name.Block = shared_decided (consumer_of lts number) row_name.Block
  state_decided s s' number row_name.Empty = shared_decided (consumer_of lts number) row_name.Empty
  state_decided s s' number (row_name.Full q) = shared_decided (consumer_of lts number) (row_name.Full q)
  state_decided s s' number row_name.Keep = shared_decided (consumer_of lts number) row_name.Keep
  state_decided s s' number (row_name.Arc a) = shared_decided (consumer_of lts number) (row_name.Arc a)
  state_decided s s' number (row_name.Tokens q) = shared_decided (consumer_of lts number) (row_name.Tokens q)
  state_decided s s' number (row_name.Cap q) = shared_decided (consumer_of lts number) (row_name.Cap q)
  state_decided s s' number (row_name.Up u) = shared_decided (consumer_of lts number) (row_name.Up u)
  state_decided s s' number (row_name.Down u) = shared_decided (consumer_of lts number) (row_name.Down u)
  state_decided s s' number (row_name.Makes u) = shared_decided (consumer_of lts number) (row_name.Makes u)
  state_decided s s' number (row_name.Above d) = shared_decided (consumer_of lts number) (row_name.Above d)

  pub stands_decided : (problem : Problem) (number : ℕ) (name : RowName) → Decided (RowStands lts class problem number above name)
  stands_decided (Event s t) number name = event_decided s t name
  stands_decided (States s s') number name = state_decided s s' number name
