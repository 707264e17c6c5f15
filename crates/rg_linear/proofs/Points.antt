-- The point of a descent meets every row.
use Rattle.std.proofs.Common.{◌≡◌, ◌⊎◌, ⊎_elim, ℕ, suc, ◌<◌, List, [], ◌∷◌, Contains, length, ap, subst, sym, ◌∙◌, inl, inr, arith}
use Rattle.std.specs.Prelude.{ℤ, pos, ◌+ℤ◌, ◌*ℤ◌, ◌≤ℤ◌, ◌<ℤ◌}
use Rattle.std.proofs.lemmas.Int.{ints}
use Rattle.rg_linear.specs.System.{LinearSystem, variables, row_variable, IsPoint, MeetsRows}
use Rattle.rg_linear.specs.Dictionary.{IsFree, Relation, Holds, IsOver, DictionaryRow, column_set}
use Rattle.rg_linear.specs.Exchange.{exchanged}
use Rattle.rg_linear.specs.Descent.{Outcome, Outcome.point, Outcome.refuted, Outcome.wide, IsStop, IsSatisfied, Chooses, DescentFrom, DescentFrom.after_last, DescentFrom.satisfied, DescentFrom.stuck, DescentFrom.passes, DescentFrom.stops_below, DescentFrom.goes_on, DescentFromStart, IsAtZero}
use Rattle.std.proofs.Math.IntN.{zero-*ℤ, *ℤ-zero}
use Rattle.rg_integers.proofs.Order.{factor_not_negative, mul_not_negative}
use Rattle.rg_integers.proofs.Sums.{sum_below-zero}
use Rattle.rg_linear.proofs.Members.{is_member, equal_or_not, Contains-cons_cases, Contains-here, Contains-nil, Contains-exchanged_new, Contains-exchanged_old}

-- the rows below r are members or have no negative constant
abbrev pub MetBelow : LinearSystem → List ℕ → ℕ → Type 0
MetBelow system members r = (i : ℕ) → i < r → IsSatisfied system members i

abbrev pub AllIn : List ℕ → List ℕ → Type 0
AllIn fixed members = (m : ℕ) → Contains fixed m → Contains members m

-- at a point's set the rows are met, and what was fixed is still a member
abbrev pub PointMeets : LinearSystem → List ℕ → ℕ → Outcome → Type 0
PointMeets system fixed r (point members) = MetBelow system members r × AllIn fixed members
PointMeets system fixed r (refuted members i z) = Unit {0}
PointMeets system fixed r (wide w) = Unit {0}

stop_meets : (system : LinearSystem) (fixed : List ℕ) (r : ℕ) (o : Outcome) → IsStop o → PointMeets system fixed r o
stop_meets system fixed r (point members) stop = absurd stop
stop_meets system fixed r (refuted members i z) stop = tt
stop_meets system fixed r (wide w) stop = tt

pub one_more : (system : LinearSystem) (members : List ℕ) (i : ℕ) → MetBelow system members i → IsSatisfied system members i → MetBelow system members (suc i)
one_more system members i met here m lt = ⊎_elim (λ e. subst (IsSatisfied system members) (sym e) here) (λ ne. met m (omega arith)) (equal_or_not m i)

pub fixed_stay : (system : LinearSystem) (members fixed : List ℕ) (i j : ℕ) → Chooses system members fixed i j → AllIn fixed members
    → AllIn (row_variable system i ∷ fixed) (exchanged members (row_variable system i) j)
fixed_stay system members fixed i j c all m has = ⊎_elim
    (λ e. subst (Contains (exchanged members (row_variable system i) j)) e (Contains-exchanged_new (row_variable system i) j members))
    (λ old. Contains-exchanged_old (row_variable system i) j m members (all m old) (λ e. c.not_fixed (subst (Contains fixed) e old)))
    (Contains-cons_cases (row_variable system i) m fixed has)

pub point_meets : (system : LinearSystem) (members fixed : List ℕ) (r i : ℕ) (o : Outcome) → DescentFrom system members fixed r i o
    → MetBelow system members i → AllIn fixed members → PointMeets system fixed r o
point_meets system members fixed r i o (after_last le) met all = ((λ m lt. met m (omega arith)), all)
point_meets system members fixed r i o (satisfied lt p d) met all = point_meets system members fixed r (suc i) o d (one_more system members i met p) all
point_meets system members fixed r i o (stuck lt s) met all = tt
point_meets system members fixed r i o (passes j w n t lt c f) met all = tt
point_meets system members fixed r i o (stops_below j lt c fit d stop) met all = stop_meets system fixed r o stop
point_meets system members fixed r i o (goes_on j after lt c fit d rest) met all =
    let b = point_meets system (exchanged members (row_variable system i) j) (row_variable system i ∷ fixed) i 0 (point after) d
    (λ m less. absurd (omega arith)) (fixed_stay system members fixed i j c all) in
    point_meets system after fixed r (suc i) o rest (one_more system after i b.0 (inl (b.1 (row_variable system i) (Contains-here (row_variable system i) fixed)))) (λ m has. b.1 m (there m has))
  where
    there : (m : ℕ) → Contains fixed m → Contains (row_variable system i ∷ fixed) m
    there m (n, less, e) = (suc n, omega arith, e)

-- where every member is 0, a relation over the members has its constant alone
pub constant_alone : (system : LinearSystem) (members : List ℕ) (w : ℕ) (k : Relation) → IsOver members k → Holds system w k
    → (scale : ℤ) (v : ℕ → ℤ) → IsPoint system scale v → IsAtZero members v → k.d *ℤ v w ≡ k.constant *ℤ scale
constant_alone system members w k over holds scale v p zeros = holds scale v p ∙ drop (k.constant *ℤ scale) _ (sum_below-zero (variables system) _ (λ m lt. at m (is_member members m)))
  where
    drop : (a b : ℤ) → b ≡ pos 0 → a +ℤ b ≡ a
    drop a b e = omega (arith, ints)

    at : (m : ℕ) → Contains members m ⊎ ¬ Contains members m → k.coefficient m *ℤ v m ≡ pos 0
    at m (inl has) = ap (λ z. k.coefficient m *ℤ z) (zeros m has) ∙ *ℤ-zero (k.coefficient m)
    at m (inr lacks) = ap (λ z. z *ℤ v m) (over m lacks) ∙ zero-*ℤ (v m)

pub constant_left : (system : LinearSystem) (members : List ℕ) (w : ℕ) (k : Relation) → DictionaryRow system members w k → (scale : ℤ) (v : ℕ → ℤ)
    → IsPoint system scale v → IsAtZero members v → k.d *ℤ v w ≡ k.constant *ℤ scale
constant_left system members w k row = constant_alone system members w k row.over row.holds

-- rows that are members or have no negative constant are met where every member is 0
pub met_at_zero : (system : LinearSystem) (members : List ℕ) (r : ℕ) → MetBelow system members r → (scale : ℤ) (v : ℕ → ℤ) → IsPoint system scale v
    → IsAtZero members v → (i : ℕ) → i < r → pos 0 ≤ℤ v (row_variable system i)
met_at_zero system members r met scale v p zeros i lt = go (met i lt)
  where
    weak : pos 0 <ℤ scale → pos 0 ≤ℤ scale
    weak h = omega (arith, ints)

    zero_is : (z : ℤ) → z ≡ pos 0 → pos 0 ≤ℤ z
    zero_is z e = omega (arith, ints)

    go : IsSatisfied system members i → pos 0 ≤ℤ v (row_variable system i)
    go (inl member) = zero_is _ (zeros _ member)
    go (inr (k, row, least)) = factor_not_negative k.d _ row.positive
        (subst (λ z. pos 0 ≤ℤ z) (sym (constant_left system members (row_variable system i) k row scale v p zeros))
        (mul_not_negative k.constant scale least (weak p.positive)))

-- the point of a descent meets every row
pub point_is_sound : (system : LinearSystem) (members : List ℕ) → DescentFromStart system (point members) → (scale : ℤ) (v : ℕ → ℤ) → IsPoint system scale v → IsAtZero members v → MeetsRows system v
point_is_sound system members d scale v p zeros =
    met_at_zero system members (length system.rows)
    (point_meets system (column_set system) [] (length system.rows) 0 (point members) d (λ m lt. absurd (omega arith))
    (λ m has. absurd (Contains-nil m has))).0 scale v p zeros

-- the set of a free list has a point with all members at 0
pub zero_point_of : (system : LinearSystem) (members : List ℕ) → IsFree system members → (scale : ℤ) × (v : ℕ → ℤ) × IsPoint system scale v × IsAtZero members v
zero_point_of system members free = let t = free.takes (λ m. pos 0) (pos 1) (omega (arith, ints)) in (t.times *ℤ pos 1, t.v, t.point, λ m has. t.values m has ∙ *ℤ-zero t.times)
