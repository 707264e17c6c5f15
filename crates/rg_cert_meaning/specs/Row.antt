-- The rows that a certificate may name: what each says, and where it is allowed.
use Rattle.std.specs.Prelude.{◌≡◌, ◌≢◌, ℕ, zero, suc, ◌*◌, ◌/◌, ◌%◌, ◌<◌, if◌then◌else◌, List, [], ◌∷◌, Option, Some, None, slice_get, unwrap_or, IsTrue, IsFalse, IsSome, ℤ, pos, negsuc, neg_ℤ, ◌-ℤ◌, ◌*ℤ◌, ◌≤ℤ◌}
use Rattle.rg_theory.specs.System.{System, states, labels, HasArc}
use Rattle.rg_theory.specs.declared.Class.{Class}
use Rattle.rg_theory.specs.declared.Problem.{Problem}
use Rattle.rg_theory.specs.declared.Problem.TheVariants.{Event, States}
pub use Rattle.rg_cert_meaning.specs.declared.RowName.{RowName}
use Rattle.rg_cert_meaning.specs.declared.RowName.TheVariants as row_name
pub use Rattle.rg_cert_meaning.specs.declared.Form.{Form}
use Rattle.rg_cert_meaning.specs.declared.Form.TheVariants as split_form
use Rattle.rg_branch_trees.specs.declared.Side as splits
use Rattle.rg_cert_meaning.specs.declared.Variable.TheVariants.{Tokens, Effect}
use Rattle.rg_cert_meaning.specs.Expression.{Variable, Expression, plus, minus, sum_of, value_of}

-- one side of a split on a form
abbrev pub Side : Type 0
Side = splits.Side Form

-- the variable that the form counts, where this is the initial state
abbrev pub form_variable : ℕ → Form → Variable
form_variable initial (split_form.Tokens q) = Tokens q
form_variable initial (split_form.Effect t) = Effect t
form_variable initial split_form.Start = Tokens initial

-- the form counts its variable by steps of so many: the start by the number of which it is a multiple
abbrev pub step_of : Class → Form → ℕ
step_of class (split_form.Tokens q) = 1
step_of class (split_form.Effect t) = 1
step_of class split_form.Start = unwrap_or class.marking 1

-- a split may be on the form: on the start where the class asks that it be a multiple
abbrev pub FormStands : Class → Form → Type 0
FormStands class (split_form.Tokens q) = Unit {0}
FormStands class (split_form.Effect t) = Unit {0}
FormStands class split_form.Start = IsSome class.marking

-- step * v - variable on the low side, variable - step * v - step on the high side, in a class and where this is the initial state
abbrev pub side_expression : Class → ℕ → Option Side → Expression
side_expression class initial None = sum_of [] (pos 0)
side_expression class initial (Some side) =
    if side.high then sum_of (plus (form_variable initial side.form) ∷ []) (neg_ℤ (pos (step_of class side.form) *ℤ side.at) -ℤ pos (step_of class side.form))
    else sum_of (minus (form_variable initial side.form) ∷ []) (pos (step_of class side.form) *ℤ side.at)

-- there is a side, and a split may be on its form
abbrev pub SideStands : Class → Option Side → Type 0
SideStands class None = ⊥
SideStands class (Some side) = FormStands class side.form

-- the rows that speak of no problem
abbrev pub shared_expression : System → Class → List Side → RowName → Expression
shared_expression lts class above (row_name.Arc a) = sum_of (plus (Tokens a.from) ∷ plus (Effect a.label) ∷ minus (Tokens a.to) ∷ []) (pos 0)
shared_expression lts class above (row_name.Tokens q) = sum_of (plus (Tokens q) ∷ []) (pos 0)
shared_expression lts class above (row_name.Cap q) = sum_of (minus (Tokens q) ∷ []) (pos (unwrap_or class.bound 0))
shared_expression lts class above (row_name.Up t) = sum_of (minus (Effect t) ∷ []) (pos 1)
shared_expression lts class above (row_name.Down t) = sum_of (plus (Effect t) ∷ []) (pos 1)
shared_expression lts class above (row_name.Makes t) = sum_of (plus (Effect t) ∷ []) (pos 0)
shared_expression lts class above (row_name.Above d) = side_expression class lts.initial (slice_get above d)
shared_expression lts class above _ = sum_of [] (pos 0)

abbrev pub SharedStands : System → Class → ℕ → List Side → RowName → Type 0
SharedStands lts class consumer above (row_name.Arc a) = HasArc lts a.from a.label a.to
SharedStands lts class consumer above (row_name.Tokens q) = Unit {0}
SharedStands lts class consumer above (row_name.Cap q) = (q < states lts) × IsSome class.bound
SharedStands lts class consumer above (row_name.Up t) = (t < labels lts) × IsTrue class.plain
SharedStands lts class consumer above (row_name.Down t) = (t < labels lts) × IsTrue class.plain
SharedStands lts class consumer above (row_name.Makes t) = (t < labels lts) × IsTrue class.nonbranching × (t ≢ consumer)
SharedStands lts class consumer above (row_name.Above d) = SideStands class (slice_get above d)
SharedStands lts class consumer above _ = ⊥

-- the rows of the event problem (s, t)
abbrev pub event_expression : System → Class → ℕ → ℕ → List Side → RowName → Expression
event_expression lts class s t above (row_name.Stop q) = sum_of (plus (Tokens q) ∷ minus (Tokens s) ∷ []) (negsuc 0)
event_expression lts class s t above row_name.Block = sum_of (minus (Tokens s) ∷ minus (Effect t) ∷ []) (negsuc 0)
event_expression lts class s t above row_name.Empty = sum_of (minus (Tokens s) ∷ []) (pos 0)
event_expression lts class s t above (row_name.Full q) = sum_of (plus (Tokens q) ∷ []) (negsuc 0)
event_expression lts class s t above row_name.Keep = sum_of (minus (Effect t) ∷ []) (pos 0)
event_expression lts class s t above name = shared_expression lts class above name

-- some arc of the label begins at the state
abbrev pub HasArcAt : System → ℕ → ℕ → Type 0
HasArcAt lts q t = (q' : ℕ) × HasArc lts q t q'

abbrev pub EventStands : System → Class → ℕ → ℕ → List Side → RowName → Type 0
EventStands lts class s t above (row_name.Stop q) = IsFalse class.pure × IsFalse class.plain × HasArcAt lts q t
EventStands lts class s t above row_name.Block = IsTrue class.pure
EventStands lts class s t above row_name.Empty = IsTrue class.plain × IsFalse class.pure
EventStands lts class s t above (row_name.Full q) = IsTrue class.plain × IsFalse class.pure × HasArcAt lts q t
EventStands lts class s t above row_name.Keep = IsTrue class.plain × IsFalse class.pure
EventStands lts class s t above name = SharedStands lts class t above name

-- the first of the states has fewer tokens at order 0, and the second at order 1
abbrev pub apart_expression : ℕ → ℕ → ℕ → Expression
apart_expression s s' zero = sum_of (plus (Tokens s') ∷ minus (Tokens s) ∷ []) (negsuc 0)
apart_expression s s' (suc order) = sum_of (plus (Tokens s) ∷ minus (Tokens s') ∷ []) (negsuc 0)

-- the rows of the state problem (s, s')
abbrev pub state_expression : System → Class → ℕ → ℕ → ℕ → List Side → RowName → Expression
state_expression lts class s s' order above row_name.Apart = apart_expression s s' order
state_expression lts class s s' order above name = shared_expression lts class above name

-- of a state problem's case: which state has fewer tokens, and which label alone may take from the place
abbrev pub order_of : System → Class → ℕ → ℕ
order_of lts class number = if class.nonbranching then number / labels lts else number

abbrev pub consumer_of : System → ℕ → ℕ
consumer_of lts number = number % labels lts

-- the label that alone may take from the place: the event's, or the one of the case
abbrev pub case_consumer : System → Problem → ℕ → ℕ
case_consumer lts (Event s t) number = t
case_consumer lts (States s s') number = consumer_of lts number

-- the expression of a named row in one case of a problem, below the sides above it
abbrev pub row_expression : System → Class → Problem → ℕ → List Side → RowName → Expression
row_expression lts class (Event s t) number above name = event_expression lts class s t above name
row_expression lts class (States s s') number above name = state_expression lts class s s' (order_of lts class number) above name

-- the row is allowed there
abbrev pub RowStands : System → Class → Problem → ℕ → List Side → RowName → Type 0
RowStands lts class (Event s t) number above name = EventStands lts class s t above name
RowStands lts class (States s s') number above row_name.Apart = Unit {0}
RowStands lts class (States s s') number above name = SharedStands lts class (consumer_of lts number) above name

-- how many cases a problem has
abbrev pub cases_of : System → Class → Problem → ℕ
cases_of lts class (Event s t) = 1
cases_of lts class (States s s') = if class.nonbranching then 2 * labels lts else 2

-- what a row says of its value
abbrev pub Says : RowName → ℤ → Type 0
Says (row_name.Arc a) z = z ≡ pos 0
Says name z = pos 0 ≤ℤ z

-- every row that is allowed in the case holds of the numbers
abbrev pub KeepsRows : System → Class → Problem → ℕ → (Variable → ℤ) → Type 0
KeepsRows lts class problem number x = (name : RowName) → RowStands lts class problem number [] name → Says name (value_of x (row_expression lts class problem number [] name))
