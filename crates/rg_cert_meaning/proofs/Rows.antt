-- Every row that stands holds of the regions that separate.
use Rattle.std.proofs.Common.{◌≡◌, ◌≢◌, ℕ, zero, suc, ◌*◌, ◌<◌, ◌≤◌, Bool, true, false, List, Option, Some, None, slice_get, unwrap_or, IsSome, IfSome, IsTrue, MatchBool, refl, sym, ap, subst, ◌∙◌, arith, ℤ, pos, negsuc, neg_ℤ, ◌+ℤ◌, ◌-ℤ◌, ◌*ℤ◌, ◌≤ℤ◌, ◌<ℤ◌}
use Rattle.std.proofs.lemmas.Int.{ints}
use Rattle.std.proofs.lemmas.Option.{IfSome_then}
use Rattle.rg_theory.specs.System.{System, labels}
use Rattle.rg_theory.specs.Net.{Place, pre_weight, post_weight}
use Rattle.rg_theory.specs.declared.Class.{Class}
use Rattle.rg_theory.specs.declared.Problem.TheVariants.{States}
use Rattle.rg_theory.specs.Class.{IsMultiple, AllowsStart}
use Rattle.rg_theory.specs.Region.{RegionIn}
use Rattle.rg_integers.proofs.Ring.{ring}
use Rattle.rg_cert_meaning.specs.Expression.{Variable, numbers_by, value_of}
use Rattle.rg_cert_meaning.specs.Row.{form_variable, step_of, FormStands, Form, SideStands, Side, RowName}
use Rattle.rg_cert_meaning.specs.Row.{side_expression, shared_expression}
use Rattle.rg_cert_meaning.specs.Row.{SharedStands, event_expression, EventStands, apart_expression, order_of, consumer_of, RowStands, row_expression, Says}
use Rattle.rg_cert_meaning.specs.Refutes.{IsMultiplier}
use Rattle.rg_cert_meaning.specs.declared.RowName.TheVariants as row_name
use Rattle.rg_cert_meaning.specs.declared.Form.TheVariants as split_form

-- the numbers of a region: its tokens, and what each label does to it
abbrev pub numbers_of : Place → (ℕ → ℕ) → Variable → ℤ
numbers_of p m = numbers_by m (λ t. pos (post_weight p t) -ℤ pos (pre_weight p t))

positive_times : (k z : ℤ) → pos 1 ≤ℤ k → pos 0 ≤ℤ z → pos 0 ≤ℤ (k *ℤ z)
positive_times (pos a) (pos b) h g = omega (arith, ints)
positive_times (pos a) (negsuc b) h g = absurd (omega (arith, ints))
positive_times (negsuc a) z h g = absurd (omega (arith, ints))

-- a row times its multiplier is at least 0
pub Says-times : (name : RowName) (k z : ℤ) → IsMultiplier k name → Says name z → pos 0 ≤ℤ (k *ℤ z)
Says-times (row_name.Arc a) k z h e = rw e (omega (arith, ints))
Says-times (row_name.Tokens q) k z h g = positive_times k z h g
Says-times name k z h g = positive_times k z h g

-- the side of a split on which the numbers are, in a class and where this is the initial state
abbrev pub IsOnSide : Class → ℕ → (Variable → ℤ) → Side → Type 0
IsOnSide class initial x side =
    MatchBool side.high (((pos (step_of class side.form) *ℤ side.at) +ℤ pos (step_of class side.form)) ≤ℤ x (form_variable initial side.form))
    (x (form_variable initial side.form) ≤ℤ (pos (step_of class side.form) *ℤ side.at))

high_says : (y p s : ℤ) → (p +ℤ s) ≤ℤ y → pos 0 ≤ℤ (((pos 1 *ℤ y) +ℤ pos 0) +ℤ (neg_ℤ p -ℤ s))
high_says y p s h = omega (arith, ints)

low_says : (y p : ℤ) → y ≤ℤ p → pos 0 ≤ℤ (((negsuc 0 *ℤ y) +ℤ pos 0) +ℤ p)
low_says y p h = omega (arith, ints)

side_says : (class : Class) (initial : ℕ) (x : Variable → ℤ) (o : Option Side) → SideStands class o
    → ((side : Side) → o ≡ Some side → IsOnSide class initial x side) → pos 0 ≤ℤ value_of x (side_expression class initial o)
side_says class initial x None stands on = absurd stands
side_says class initial x (Some side) stands on = by side.high (on side refl)
  where
    by : (high : Bool) → MatchBool high (((pos (step_of class side.form) *ℤ side.at) +ℤ pos (step_of class side.form))
        ≤ℤ x (form_variable initial side.form)) (x (form_variable initial side.form) ≤ℤ (pos (step_of class side.form) *ℤ side.at))
        → pos 0 ≤ℤ value_of x (side_expression class initial (Some (record side { high = high })))
    by true h = high_says (x (form_variable initial side.form)) (pos (step_of class side.form) *ℤ side.at) (pos (step_of class side.form)) h
    by false h = low_says (x (form_variable initial side.form)) (pos (step_of class side.form) *ℤ side.at) h

capped : (o : Option ℕ) (n : ℕ) → IsSome o → IfSome o (λ k. n ≤ k) → n ≤ unwrap_or o 0
capped None n some h = absurd (cc)
capped (Some k) n some h = h

-- ---- steps

natural_times : (s : ℕ) (z : ℤ) → pos 0 ≤ℤ z → pos 0 ≤ℤ (pos s *ℤ z)
natural_times s (pos b) h = omega (arith, ints)
natural_times s (negsuc b) h = absurd (omega (arith, ints))

-- so many steps are at most as many more, or one step more
pub steps_most : (s : ℕ) (a w x : ℤ) → x ≡ pos s *ℤ w → w ≤ℤ a → x ≤ℤ (pos s *ℤ a)
steps_most s a w x e le =
    let more = natural_times s (a -ℤ w) (omega (arith, ints)) in
    let parts : pos s *ℤ (a -ℤ w) ≡ (pos s *ℤ a) -ℤ (pos s *ℤ w) = simp ring (omega (arith, ints)) in
    omega (arith, ints)

pub steps_more : (s : ℕ) (a w x : ℤ) → x ≡ pos s *ℤ w → a <ℤ w → ((pos s *ℤ a) +ℤ pos s) ≤ℤ x
steps_more s a w x e lt =
    let more = natural_times s ((w -ℤ a) -ℤ pos 1) (omega (arith, ints)) in
    let parts : pos s *ℤ ((w -ℤ a) -ℤ pos 1) ≡ ((pos s *ℤ w) -ℤ (pos s *ℤ a)) -ℤ pos s = simp ring (omega (arith, ints)) in
    omega (arith, ints)

start_steps : (o : Option ℕ) (n : ℕ) → IsSome o → IfSome o (λ k. IsMultiple k n) → (w : ℤ) × (pos n ≡ pos (unwrap_or o 1) *ℤ w)
start_steps None n some h = absurd (cc)
start_steps (Some k) n some (times, e) = (pos times, ap pos (e ∙ turn times k))
  where
    turn : (a b : ℕ) → a * b ≡ b * a
    turn a b = omega arith

-- a region of the class begins as the class allows
pub region_starts : (lts : System) (class : Class) (p : Place) (m : ℕ → ℕ) → RegionIn lts class p m → AllowsStart class (m lts.initial)
region_starts lts class p m r = subst (AllowsStart class) (sym r.region.start) r.allowed.weights.marking

-- a form that a split may be on is worth whole steps in a region of the class
pub region_steps : (lts : System) (class : Class) (p : Place) (m : ℕ → ℕ) → RegionIn lts class p m → (form : Form) → FormStands class form
    → (w : ℤ) × (numbers_of p m (form_variable lts.initial form) ≡ pos (step_of class form) *ℤ w)
region_steps lts class p m r (split_form.Tokens q) stands = (pos (m q), omega (arith, ints))
region_steps lts class p m r (split_form.Effect t) stands = (pos (post_weight p t) -ℤ pos (pre_weight p t), omega (arith, ints))
region_steps lts class p m r split_form.Start stands = start_steps class.marking (m lts.initial) stands (region_starts lts class p m r)

-- the rows that speak of no problem hold
pub shared_says : (lts : System) (class : Class) (p : Place) (m : ℕ → ℕ) (consumer : ℕ) (above : List Side) → RegionIn lts class p m
    → (IsTrue class.nonbranching → (t : ℕ) → t < labels lts → t ≢ consumer → pre_weight p t ≡ 0)
    → ((d : ℕ) (side : Side) → slice_get above d ≡ Some side → IsOnSide class lts.initial (numbers_of p m) side) → (name : RowName)
    → SharedStands lts class consumer above name → Says name (value_of (numbers_of p m) (shared_expression lts class above name))
shared_says lts class p m consumer above r only on (row_name.Arc a) has =
    let enough = r.region.enabled a.from a.label a.to has in
    let moved = r.region.moved a.from a.label a.to has in
    omega (arith, ints)
shared_says lts class p m consumer above r only on (row_name.Tokens q) stands = omega (arith, ints)
shared_says lts class p m consumer above r only on (row_name.Cap q) (lt, some) =
    let below : m q ≤ unwrap_or class.bound 0 = capped class.bound (m q) some (IfSome_then class.bound r.allowed.bounded (λ k each. each q lt)) in
    omega (arith, ints)
shared_says lts class p m consumer above r only on (row_name.Up t) (lt, plain) =
    let small = r.allowed.weights.plain plain t lt in
    omega (arith, ints)
shared_says lts class p m consumer above r only on (row_name.Down t) (lt, plain) =
    let small = r.allowed.weights.plain plain t lt in
    omega (arith, ints)
shared_says lts class p m consumer above r only on (row_name.Makes t) (lt, nonbranching, differ) =
    let none = only nonbranching t lt differ in
    omega (arith, ints)
shared_says lts class p m consumer above r only on (row_name.Above d) some = side_says class lts.initial (numbers_of p m) (slice_get above d) some (on d)
shared_says lts class p m consumer above r only on (row_name.Stop q) stands = absurd stands
shared_says lts class p m consumer above r only on row_name.Block stands = absurd stands
shared_says lts class p m consumer above r only on row_name.Empty stands = absurd stands
shared_says lts class p m consumer above r only on (row_name.Full q) stands = absurd stands
shared_says lts class p m consumer above r only on row_name.Keep stands = absurd stands
shared_says lts class p m consumer above r only on row_name.Apart stands = absurd stands

pub none_from : (n : ℕ) → (0 < n → ⊥) → n ≡ 0
none_from n not_some = omega arith

-- the rows of an event problem hold of a region of the class that separates it
pub event_says : (lts : System) (class : Class) (p : Place) (m : ℕ → ℕ) (s t : ℕ) (above : List Side) → RegionIn lts class p m → t < labels lts → m s < pre_weight p t
    → ((d : ℕ) (side : Side) → slice_get above d ≡ Some side → IsOnSide class lts.initial (numbers_of p m) side) → (name : RowName)
    → EventStands lts class s t above name → Says name (value_of (numbers_of p m) (event_expression lts class s t above name))
event_says lts class p m s t above r lt less on (row_name.Stop q) (not_pure, not_plain, (q', has)) =
    let enough = r.region.enabled q t q' has in
    omega (arith, ints)
event_says lts class p m s t above r lt less on row_name.Block pure =
    let not_both : 0 < post_weight p t → ⊥ = r.allowed.weights.pure pure t lt (omega arith) in
    omega (arith, ints)
event_says lts class p m s t above r lt less on row_name.Empty (plain, not_pure) =
    let small = r.allowed.weights.plain plain t lt in
    omega (arith, ints)
event_says lts class p m s t above r lt less on (row_name.Full q) (plain, not_pure, (q', has)) =
    let enough = r.region.enabled q t q' has in
    omega (arith, ints)
event_says lts class p m s t above r lt less on row_name.Keep (plain, not_pure) =
    let small = r.allowed.weights.plain plain t lt in
    omega (arith, ints)
event_says lts class p m s t above r lt less on name stands =
    shared_says lts class p m t above r
    (λ nonbranching u lt' differ. none_from (pre_weight p u) (λ h. differ (r.allowed.weights.nonbranching nonbranching u t lt' lt h (omega arith))))
    on name stands

-- which of the two states has fewer tokens
abbrev pub IsInOrder : (ℕ → ℕ) → ℕ → ℕ → ℕ → Type 0
IsInOrder m s s' zero = m s < m s'
IsInOrder m s s' (suc order) = m s' < m s

apart_says : (p : Place) (m : ℕ → ℕ) (s s' order : ℕ) → IsInOrder m s s' order → pos 0 ≤ℤ value_of (numbers_of p m) (apart_expression s s' order)
apart_says p m s s' zero less = omega (arith, ints)
apart_says p m s s' (suc order) less = omega (arith, ints)

-- the rows of a state problem hold of a region of the class that separates it, in the case of its order and its consumer
pub state_says : (lts : System) (class : Class) (p : Place) (m : ℕ → ℕ) (s s' number : ℕ) (above : List Side) → RegionIn lts class p m
    → IsInOrder m s s' (order_of lts class number) → (IsTrue class.nonbranching → (t : ℕ) → t < labels lts → t ≢ consumer_of lts number → pre_weight p t ≡ 0)
    → ((d : ℕ) (side : Side) → slice_get above d ≡ Some side → IsOnSide class lts.initial (numbers_of p m) side) → (name : RowName)
    → RowStands lts class (States s s') number above name → Says name (value_of (numbers_of p m) (row_expression lts class (States s s') number above name))
state_says lts class p m s s' number above r less only on row_name.Apart stands = apart_says p m s s' (order_of lts class number) less
state_says lts class p m s s' number above r less only on name stands = shared_says lts class p m (consumer_of lts number) above r only on name stands
