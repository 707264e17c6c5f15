-- What an accepted certificate shows.
use Rattle.std.proofs.Common.{◌≡◌, ◌≢◌, ℕ, zero, suc, ◌+◌, ◌*◌, ◌/◌, ◌%◌, ◌<◌, ◌≤◌, ◌⊎◌, Bool, true, false, if◌then◌else◌, List, [], IsTrue, true≢false, inl, inr, ⊎_elim, refl, sym, ap, ◌∙◌, subst, arith}
use Rattle.std.proofs.lemmas.Bool.{cases_lt}
use Rattle.std.proofs.lemmas.Nat.{div-mul-add, mod-mul-add}
use Rattle.std.proofs.lemmas.Option.{none-some}
use Rattle.rg_theory.specs.System.{System, labels, IsInRange}
use Rattle.rg_theory.specs.Net.{Place, pre_weight}
use Rattle.rg_theory.specs.declared.Class.{Class}
use Rattle.rg_theory.specs.Class.{NoNet}
use Rattle.rg_theory.specs.Region.{RegionIn}
use Rattle.rg_theory.specs.declared.Problem.{Problem}
use Rattle.rg_theory.specs.declared.Problem.TheVariants.{Event, States}
use Rattle.rg_theory.specs.Problem.{IsInseparable}
use Rattle.rg_theory.proofs.Closed.{stays_inside}
use Rattle.rg_theory.proofs.Lists.{slice_get_some}
use Rattle.rg_theory.proofs.No.{no_from_unreachable, no_from_fork, no_from_inseparable}
use Rattle.rg_cert_meaning.specs.Row.{cases_of, order_of, consumer_of}
use Rattle.rg_cert_meaning.specs.Refutes.{Tree, TreeRefutes, Reason, Reason.unreachable, Reason.fork, Reason.refuted, IsRefuted, Accepts}
use Rattle.rg_cert_meaning.proofs.Rows.{numbers_of, region_steps, event_says, state_says, IsInOrder, none_from}
use Rattle.rg_cert_meaning.proofs.Trees.{tree_none, AreOnSides}

-- the first number below n at which P holds, or none
find_below : (P : ℕ → Type 0) → ((k : ℕ) → P k ⊎ (P k → ⊥)) → (n : ℕ) → ((k : ℕ) × (k < n) × P k) ⊎ ((k : ℕ) → k < n → P k → ⊥)
find_below P dec zero = inr (λ k lt h. omega arith)
find_below P dec (suc n) = go (find_below P dec n) (dec n)
  where
    go : ((k : ℕ) × (k < n) × P k) ⊎ ((k : ℕ) → k < n → P k → ⊥) → P n ⊎ (P n → ⊥) → ((k : ℕ) × (k < suc n) × P k) ⊎ ((k : ℕ) → k < suc n → P k → ⊥)
    go (inl (k, lt, h)) here = inl (k, omega arith, h)
    go (inr none) (inl h) = inl (n, omega arith, h)
    go (inr none) (inr not_here) = inr (λ k lt h. ⊎_elim (λ less. none k less h) (λ more. (let e : k ≡ n = omega arith in not_here (subst P e h))) (cases_lt k n))

pub no_sides : (class : Class) (initial : ℕ) (p : Place) (m : ℕ → ℕ) → AreOnSides class initial (numbers_of p m) []
no_sides class initial p m d side e = absurd (none-some side e)

-- the tree of a case refutes
tree_of : (lts : System) (class : Class) (problem : Problem) (trees : List Tree) → IsRefuted lts class problem trees → (number : ℕ)
    → number < cases_of lts class problem → (tree : Tree) × TreeRefutes lts class problem number [] tree
tree_of lts class problem trees given number lt =
    let (tree, e) = slice_get_some trees number (subst (λ n. number < n) (sym given.cases) lt) in
    (tree, given.each number tree e)

event_inseparable : (lts : System) (class : Class) (s t : ℕ) (trees : List Tree) → IsRefuted lts class (Event s t) trees → IsInseparable lts class (Event s t)
event_inseparable lts class s t trees given p m r less =
    let (tree, refutes) = tree_of lts class (Event s t) trees given 0 (omega arith) in
    tree_none lts class (Event s t) 0 (numbers_of p m) (region_steps lts class p m r)
    (λ above on name stands. event_says lts class p m s t above r given.asked.1 less on name stands)
    [] (no_sides class lts.initial p m) tree refutes

-- one label alone takes from the place
consumer : (lts : System) (class : Class) (p : Place) (m : ℕ → ℕ) → RegionIn lts class p m → IsTrue class.nonbranching → 0 < labels lts
    → (c : ℕ) × (c < labels lts) × ((t : ℕ) → t < labels lts → t ≢ c → pre_weight p t ≡ 0)
consumer lts class p m r nonbranching some =
    ⊎_elim
    (λ (c, lt, takes). (c, lt, λ t lt' differ. none_from (pre_weight p t) (λ h. differ (r.allowed.weights.nonbranching nonbranching t c lt' lt h takes))))
    (λ none. (0, some, λ t lt differ. none_from (pre_weight p t) (none t lt)))
    (find_below (λ t. 0 < pre_weight p t) (λ t. ⊎_elim (λ h. inl h) (λ h. inr (λ k. omega arith)) (cases_lt 0 (pre_weight p t))) (labels lts))

in_order : (m : ℕ → ℕ) (s s' : ℕ) → m s ≢ m s' → (order : ℕ) × (order < 2) × IsInOrder m s s' order
in_order m s s' differ = ⊎_elim (λ less. (0, omega arith, less)) (λ more. (1, omega arith, omega arith)) (cases_lt (m s) (m s'))

-- a separating region meets the order and the consumer of some case
pub state_case : (lts : System) (class : Class) (s s' : ℕ) (p : Place) (m : ℕ → ℕ) → RegionIn lts class p m → m s ≢ m s' → 0 < cases_of lts class (States s s')
    → (number : ℕ) × (number < cases_of lts class (States s s')) × IsInOrder m s s' (order_of lts class number)
    × (IsTrue class.nonbranching → (t : ℕ) → t < labels lts → t ≢ consumer_of lts number → pre_weight p t ≡ 0)
state_case lts class s s' p m r differ some = go class.nonbranching refl
  where
    below_two : (o n c : ℕ) → o < 2 → c < n → o * n + c < 2 * n
    below_two zero n c lt lt' = omega arith
    below_two (suc zero) n c lt lt' = omega arith
    below_two (suc (suc o)) n c lt lt' = absurd (omega arith)

    go : (b : Bool) → class.nonbranching ≡ b → (number : ℕ) × (number < cases_of lts class (States s s'))
        × IsInOrder m s s' (order_of lts class number) × (IsTrue class.nonbranching → (t : ℕ) → t < labels lts → t ≢ consumer_of lts number → pre_weight p t ≡ 0)
    go false e =
        let (order, lt, less) = in_order m s s' differ in (
          order,
          subst (λ n. order < n) (sym (ap (λ b. if b then 2 * labels lts else 2) e)) lt,
          subst (IsInOrder m s s') (sym (ap (λ b. if b then order / labels lts else order) e)) less,
          (λ is. absurd (true≢false (sym is ∙ e))),
        )
    go true e =
        let (order, lt, less) = in_order m s s' differ in
        let cases : cases_of lts class (States s s') ≡ 2 * labels lts = ap (λ b. if b then 2 * labels lts else 2) e in
        let (c, lt', only) = consumer lts class p m r e (omega arith) in
        let number : ℕ = order * labels lts + c in
        let is_order : order_of lts class number ≡ order = ap (λ b. if b then number / labels lts else number) e ∙ div-mul-add order (labels lts) c lt' in
        let is_consumer : number % labels lts ≡ c = mod-mul-add order (labels lts) c lt' in (
          number,
          subst (λ n. number < n) (sym cases) (below_two order (labels lts) c lt lt'),
          subst (IsInOrder m s s') (sym is_order) less,
          (λ is t lt'' other. only t lt'' (λ same. other (same ∙ sym is_consumer))),
        )

state_inseparable : (lts : System) (class : Class) (s s' : ℕ) (trees : List Tree) → IsRefuted lts class (States s s') trees → IsInseparable lts class (States s s')
state_inseparable lts class s s' trees given p m r differ =
    let (number, lt, less, only) = state_case lts class s s' p m r differ (subst (λ n. 0 < n) given.cases given.some) in
    let (tree, refutes) = tree_of lts class (States s s') trees given number lt in
    tree_none lts class (States s s') number (numbers_of p m) (region_steps lts class p m r)
    (λ above on name stands. state_says lts class p m s s' number above r less only on name stands)
    [] (no_sides class lts.initial p m) tree refutes

refuted_no_net : (lts : System) (class : Class) (problem : Problem) (trees : List Tree) → IsInRange lts → IsRefuted lts class problem trees → NoNet lts class
refuted_no_net lts class (Event s t) trees fine given = no_from_inseparable lts class (Event s t) fine given.asked (event_inseparable lts class s t trees given)
refuted_no_net lts class (States s s') trees fine given =
    ⊎_elim
    (λ less. no_from_inseparable lts class (States s s') fine (less, given.asked.1) none)
    (λ more. no_from_inseparable lts class (States s' s) fine (other more given.asked.2, given.asked.0) (λ p m r differ. none p m r (λ e. differ (sym e))))
    (cases_lt s s')
  where
    none : IsInseparable lts class (States s s')
    none = state_inseparable lts class s s' trees given

    other : s' ≤ s → s ≢ s' → s' < s
    other more differ = omega arith

pub accepted : (lts : System) (class : Class) (reason : Reason) → IsInRange lts → Accepts lts class reason → NoNet lts class
accepted lts class (unreachable s) fine (lt, (inside, closed)) =
    no_from_unreachable lts class s fine lt (λ (ts, path). true≢false (sym (stays_inside lts inside closed.closed lts.initial ts s path closed.initial) ∙ closed.without))
accepted lts class (fork s t s₁ s₂) fine is = no_from_fork lts class s t s₁ s₂ fine is
accepted lts class (refuted problem trees) fine is = refuted_no_net lts class problem trees fine is
