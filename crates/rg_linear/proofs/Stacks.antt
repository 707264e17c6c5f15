-- The steps of a descent with an explicit stack.
use Rattle.std.proofs.Common.{◌≡◌, ◌⊎◌, ⊎_elim, ℕ, zero, suc, ◌+◌, ◌-◌, ◌*◌, ◌^◌, ◌<◌, ◌≤◌, List, [], ◌∷◌, Contains, length, ap, refl, subst, inl, inr, arith}
use Rattle.rg_linear.specs.System.{LinearSystem, row_variable}
use Rattle.rg_integers.specs.declared.term.Wide.{Wide}
use Rattle.rg_linear.specs.Exchange.{without, exchanged, AllFit, FirstWide}
use Rattle.rg_linear.specs.Descent.{Outcome, Outcome.point, Outcome.refuted, Outcome.wide, IsStop, IsSatisfied, IsStuck, Chooses, DescentFrom, DescentFrom.after_last, DescentFrom.satisfied, DescentFrom.stuck, DescentFrom.passes, DescentFrom.stops_below, DescentFrom.goes_on}
use Rattle.rg_linear.specs.Stack.{fixed_of, limit, Resumes, Resumes.last, Resumes.returns, Resumes.ends, work_left, IsFalling, IsStackOf}
use Rattle.rg_linear.proofs.Members.{Contains-nil, Contains-here, Contains-there, Contains-cons_cases, Contains-without, IsInOrder, length-without, order-without, order_from_increasing}
use Rattle.rg_linear.proofs.Points.{fixed_stay}

-- any first part of a descent at row i may be put before what is left
pub before : (system : LinearSystem) (stack members members' : List ℕ) (i i' : ℕ) (o : Outcome)
    → ((o' : Outcome) → DescentFrom system members' (fixed_of system stack) (limit system stack) i' o' → DescentFrom system members (fixed_of system stack)
    (limit system stack) i o') → Resumes system stack members' i' o → Resumes system stack members i o
before system [] members members' i i' o step (last d) = last (step o d)
before system (s ∷ stack) members members' i i' o step (returns after d rest) = returns after (step (point after) d) rest
before system (s ∷ stack) members members' i i' o step (ends d stop) = ends (step o d) stop

-- an outcome that stops is that of the whole
pub stop_here : (system : LinearSystem) (stack members : List ℕ) (i : ℕ) (o : Outcome)
    → DescentFrom system members (fixed_of system stack) (limit system stack) i o → IsStop o → Resumes system stack members i o
stop_here system [] members i o d stop = last d
stop_here system (s ∷ stack) members i o d stop = ends d stop

-- a row that is satisfied
pub step_satisfied : (system : LinearSystem) (stack members : List ℕ) (i : ℕ) (o : Outcome) → i < limit system stack → IsSatisfied system members i
    → Resumes system stack members (suc i) o → Resumes system stack members i o
step_satisfied system stack members i o lt p rest = before system stack members members i (suc i) o (λ o' d. satisfied lt p d) rest

-- a row that refutes
pub step_stuck : (system : LinearSystem) (stack members : List ℕ) (i : ℕ) → i < limit system stack → IsStuck system members (fixed_of system stack) i
    → Resumes system stack members i (refuted members i (fixed_of system stack))
step_stuck system stack members i lt s = stop_here system stack members i (refuted members i (fixed_of system stack)) (stuck lt s) tt

-- a term out of range
pub step_wide : (system : LinearSystem) (stack members : List ℕ) (i j w n : ℕ) (t : Wide) → i < limit system stack → Chooses system members (fixed_of system stack) i j
    → FirstWide system members (row_variable system i) j w n t
    → Resumes system stack members i (wide (record { members = members; pivot = row_variable system i; leaves = j; target = w; entry = n; term = t }))
step_wide system stack members i j w n t lt c f = stop_here system stack members i _ (passes j w n t lt c f) tt

-- an exchange: the row goes onto the stack
pub step_exchange : (system : LinearSystem) (stack members : List ℕ) (i j : ℕ) (o : Outcome) → i < limit system stack
    → Chooses system members (fixed_of system stack) i j → AllFit system members (row_variable system i) j
    → Resumes system (i ∷ stack) (exchanged members (row_variable system i) j) 0 o → Resumes system stack members i o
step_exchange system stack members i j o lt c fit (returns after d rest) = before system stack members after i (suc i) o (λ o' d'. goes_on j after lt c fit d d') rest
step_exchange system stack members i j o lt c fit (ends d stop) = stop_here system stack members i o (stops_below j lt c fit d stop) stop

-- behind the last row below a fixed one: it leaves the stack
pub step_return : (system : LinearSystem) (s : ℕ) (stack members : List ℕ) (i : ℕ) (o : Outcome) → s ≤ i → Resumes system stack members (suc s) o → Resumes system (s ∷ stack) members i o
step_return system s stack members i o le rest = returns members (after_last le) rest

-- behind the last row of all
pub step_end : (system : LinearSystem) (members : List ℕ) (i : ℕ) → length system.rows ≤ i → Resumes system [] members i (point members)
step_end system members i le = last (after_last le)

-- ---- the measure

pub power_positive : (n : ℕ) → 0 < 3 ^ n
power_positive zero = omega arith
power_positive (suc n) = let h = power_positive n in let e = power-suc n in omega arith
  where
    power-suc : (n : ℕ) → 3 ^ suc n ≡ 3 * 3 ^ n
    power-suc n = grind arith

power-next : (n : ℕ) → 3 ^ suc n ≡ 3 * 3 ^ n
power-next n = grind arith

power-le : (a k : ℕ) → 3 ^ a ≤ 3 ^ (k + a)
power-le a zero = subst (λ n. 3 ^ a ≤ 3 ^ n) (flip a) (omega arith)
  where
    flip : (a : ℕ) → a ≡ 0 + a
    flip a = omega arith
power-le a (suc k) = subst (λ n. 3 ^ a ≤ 3 ^ n) (flip k a) (let h = power-le a k in let e = power-next (k + a) in omega arith)
  where
    flip : (k a : ℕ) → suc (k + a) ≡ suc k + a
    flip k a = omega arith

pub power-less : (i r : ℕ) → i < r → 3 * 3 ^ i ≤ 3 ^ r
power-less i r lt = subst (λ n. n ≤ 3 ^ r) (power-next i) (subst (λ n. 3 ^ suc i ≤ 3 ^ n) (sum_is (suc i) r lt) (power-le (suc i) (r - suc i)))
  where
    sum_is : (a r : ℕ) → a ≤ r → r - a + a ≡ r
    sum_is a r h = omega arith

pub work-satisfied : (system : LinearSystem) (stack : List ℕ) (i : ℕ) → i < limit system stack → work_left (length system.rows) stack (suc i) < work_left (length system.rows) stack i
work-satisfied system [] i lt = let h = power-less i (length system.rows) lt in let e = power-next i in let p = power_positive i in omega arith
work-satisfied system (s ∷ stack) i lt = let h = power-less i s lt in let e = power-next i in let p = power_positive i in omega arith

pub work-exchange : (system : LinearSystem) (stack : List ℕ) (i : ℕ) → i < limit system stack → work_left (length system.rows) (i ∷ stack) 0 < work_left (length system.rows) stack i
work-exchange system [] i lt = let h = power-less i (length system.rows) lt in let e = power-next i in let p = power_positive i in omega arith
work-exchange system (s ∷ stack) i lt = let h = power-less i s lt in let e = power-next i in let p = power_positive i in omega arith

pub work-return : (system : LinearSystem) (s : ℕ) (stack : List ℕ) (i : ℕ) → work_left (length system.rows) stack (suc s) < work_left (length system.rows) (s ∷ stack) i
work-return system s stack i = omega arith

-- ---- how deep the stack is

-- no element stands twice
abbrev pub IsDistinct : List ℕ → Type 0
IsDistinct [] = Unit {0}
IsDistinct (x ∷ xs) = ¬ Contains xs x × IsDistinct xs

-- different elements of a list in order are no more than it has
pub no_more : (xs ys : List ℕ) → IsInOrder ys → IsDistinct xs → ((m : ℕ) → Contains xs m → Contains ys m) → length xs ≤ length ys
no_more [] ys h d all = omega arith
no_more (x ∷ xs) ys h d all =
    let e = length-without x ys h (all x (Contains-here x xs)) in
    let ih = no_more xs (without x ys) (order-without x ys h) d.1 (λ m has. Contains-without x m ys (all m (Contains-there x m xs has)) (λ is. d.0 (subst (Contains xs) is has))) in
    omega arith

-- where a member is not fixed, there are fewer fixed rows than members
pub room_for_one : (fixed members : List ℕ) (j : ℕ) → IsInOrder members → IsDistinct fixed → ((m : ℕ) → Contains fixed m → Contains members m)
    → Contains members j → ¬ Contains fixed j → length fixed < length members
room_for_one fixed members j h d all has free =
    no_more (j ∷ fixed) members h (free, d) (λ m there. ⊎_elim (λ e. subst (Contains members) e has) (λ old. all m old) (Contains-cons_cases j m fixed there))

-- the fixed rows lie above every row that may be fixed next
above_limit : (system : LinearSystem) (stack : List ℕ) (i : ℕ) → IsFalling system stack → i < limit system stack → (m : ℕ) → Contains (fixed_of system stack) m → row_variable system i < m
above_limit system [] i falls lt m has = absurd (Contains-nil m has)
above_limit system (s ∷ stack) i falls lt m has = at (Contains-cons_cases (row_variable system s) m (fixed_of system stack) has) (above_limit system stack s falls.1 falls.0 m)
  where
    at : (row_variable system s ≡ m) ⊎ Contains (fixed_of system stack) m → (Contains (fixed_of system stack) m → row_variable system s < m) → row_variable system i < m
    at (inl e) ih = omega arith
    at (inr there) ih = let more = ih there in omega arith

fixed_distinct : (system : LinearSystem) (stack : List ℕ) → IsFalling system stack → IsDistinct (fixed_of system stack)
fixed_distinct system [] falls = tt
fixed_distinct system (s ∷ stack) falls = ((λ has. (let lt = above_limit system stack s falls.1 falls.0 (row_variable system s) has in absurd (omega arith))), fixed_distinct system stack falls.1)

length-fixed : (system : LinearSystem) (stack : List ℕ) → length (fixed_of system stack) ≡ length stack
length-fixed system [] = refl
length-fixed system (s ∷ stack) = ap suc (length-fixed system stack)

-- where a member is chosen, the stack has fewer rows than there are columns
pub room_on_stack : (system : LinearSystem) (stack members : List ℕ) (i j : ℕ) → IsStackOf system stack members → Chooses system members (fixed_of system stack) i j → length stack < system.columns
room_on_stack system stack members i j is c =
    let short = room_for_one (fixed_of system stack) members j (order_from_increasing members c.row.free.ordered) (fixed_distinct system stack is.falls) is.all c.member c.not_fixed in
    let count = c.row.free.count in
    let same = length-fixed system stack in
    omega arith

pub stack_pushed : (system : LinearSystem) (stack members : List ℕ) (i j : ℕ) → i < limit system stack → IsStackOf system stack members
    → Chooses system members (fixed_of system stack) i j → IsStackOf system (i ∷ stack) (exchanged members (row_variable system i) j)
stack_pushed system stack members i j lt is c = record { falls = (lt, is.falls); all = fixed_stay system members (fixed_of system stack) i j c is.all }

pub stack_popped : (system : LinearSystem) (s : ℕ) (stack members : List ℕ) → IsStackOf system (s ∷ stack) members → IsStackOf system stack members
stack_popped system s stack members is = record { falls = is.falls.1; all = λ m has. is.all m (Contains-there (row_variable system s) m (fixed_of system stack) has) }
