-- The walk over the rows has one outcome, and its free columns give the others exactly.
use Rattle.std.proofs.Common.{◌≡◌, ◌≢◌, ◌⊎◌, ⊎_elim, ◌↔◌, ℕ, zero, suc, ◌+◌, ◌<◌, ◌≤◌, nat_lt, if◌then◌else◌, List, Contains, length, ap, refl, subst, sym, ◌∙◌, inl, inr, arith}
use Rattle.std.specs.Prelude.{ℤ, pos, ◌+ℤ◌, ◌*ℤ◌, ◌<ℤ◌}
use Rattle.std.proofs.lemmas.Int.{ints}
use Rattle.std.proofs.lemmas.Bool.{cases_lt}
use Rattle.rg_linear.specs.System.{LinearSystem, variables, row_variable, entry, IsPoint}
use Rattle.rg_integers.specs.Sum.{sum_below}
use Rattle.rg_linear.specs.Dictionary.{Takes, Relation, DictionaryRow, column_set, HasDictionary}
use Rattle.rg_integers.specs.declared.term.Wide.{Wide}
use Rattle.rg_linear.specs.Exchange.{exchanged, AllFit, FirstWide}
use Rattle.rg_linear.specs.Cycle.{IsHomogeneous, CycleOutcome, CycleOutcome.free_set, CycleOutcome.too_wide, IsSkipped, Picks, CycleWalkFrom, CycleWalkFrom.no_row_left, CycleWalkFrom.skipped, CycleWalkFrom.passes, CycleWalkFrom.exchanges, CycleWalk, RowsAreZero, FollowsRelations}
use Rattle.rg_integers.proofs.Ring.{ring, mul_left_comm}
use Rattle.std.proofs.Math.IntN.{zero-*ℤ, *ℤ-zero, *ℤ_comm}
use Rattle.rg_integers.proofs.Order.{is_zero_or_not, mul_is_zero, mul-cancel_left, positive_differs}
use Rattle.rg_integers.proofs.Sums.{sum_below-same, sum_below-zero, sum_below-times, sum_below-split}
use Rattle.rg_linear.proofs.Members.{is_member, equal_or_not, numbers_from-Contains, Contains-exchanged_new, Contains-exchanged_old, exchanged-Contains}
use Rattle.rg_linear.proofs.Unique.{same_relation}
use Rattle.rg_linear.proofs.Terms.{HasWide, fit_or_wide, same_wide}
use Rattle.rg_linear.proofs.Having.{columns_have, exchanged_has}
use Rattle.rg_linear.proofs.Determined.{wide_or_fit}
use Rattle.rg_linear.proofs.Exchanging.{kept_row}
use Rattle.rg_linear.proofs.Points.{constant_left}
use Rattle.rg_linear.proofs.Columns.{columns_determine, scaled_point, below_test, past_test}

-- a column that the relation of row i names is a member
pub picked_member : (system : LinearSystem) (members : List ℕ) (i j : ℕ) → Picks system members i j → Contains members j
picked_member system members i j p = ⊎_elim (λ has. has) (λ lacks. absurd (p.named (p.row.over j lacks))) (is_member members j)

-- ---- one outcome

skipped_or_picked : (system : LinearSystem) (members : List ℕ) (i j : ℕ) → IsSkipped system members i → Picks system members i j → ⊥
skipped_or_picked system members i j s p = p.named (subst (λ x. x.coefficient j ≡ pos 0) (same_relation system members (row_variable system i) s.k p.k s.row p.row) (s.none j p.column))

not_before : (system : LinearSystem) (members : List ℕ) (i j j' : ℕ) → Picks system members i j → Picks system members i j' → j < j' → ⊥
not_before system members i j j' p p' lt = p.named (subst (λ x. x.coefficient j ≡ pos 0) (same_relation system members (row_variable system i) p'.k p.k p'.row p.row) (p'.least j lt))

same_pick : (system : LinearSystem) (members : List ℕ) (i j j' : ℕ) → Picks system members i j → Picks system members i j' → j ≡ j'
same_pick system members i j j' p p' = go (cases_lt j j') (cases_lt j' j)
  where
    go : (j < j') ⊎ (j' ≤ j) → (j' < j) ⊎ (j ≤ j') → j ≡ j'
    go (inl lt) _ = absurd (not_before system members i j j' p p' lt)
    go (inr ge) (inl lt) = absurd (not_before system members i j' j p' p lt)
    go (inr ge) (inr le) = omega arith

-- what a walk is where row i is skipped
after_skip : (system : LinearSystem) (members : List ℕ) (i : ℕ) (o : CycleOutcome) → i < length system.rows → IsSkipped system members i
    → CycleWalkFrom system members i o → CycleWalkFrom system members (suc i) o
after_skip system members i o lt s (no_row_left le) = absurd (omega arith)
after_skip system members i o lt s (skipped lt' s' d) = d
after_skip system members i o lt s (passes j w n t lt' p f) = absurd (skipped_or_picked system members i j s p)
after_skip system members i o lt s (exchanges j lt' p fit d) = absurd (skipped_or_picked system members i j s p)

record Stopped (system : LinearSystem) (members : List ℕ) (i j : ℕ) (o : CycleOutcome) : Type 0 where
  pub w : ℕ
  pub n : ℕ
  pub t : Wide
  pub first : FirstWide system members (row_variable system i) j w n t
  pub is : o ≡ too_wide (record { members = members; pivot = row_variable system i; leaves = j; target = w; entry = n; term = t })

record GoesOn (system : LinearSystem) (members : List ℕ) (i j : ℕ) (o : CycleOutcome) : Type 0 where
  pub fit : AllFit system members (row_variable system i) j
  pub rest : CycleWalkFrom system (exchanged members (row_variable system i) j) (suc i) o

after_pick : (system : LinearSystem) (members : List ℕ) (i j : ℕ) (o : CycleOutcome) → i < length system.rows → Picks system members i j
    → CycleWalkFrom system members i o → Stopped system members i j o ⊎ GoesOn system members i j o
after_pick system members i j o lt p (no_row_left le) = absurd (omega arith)
after_pick system members i j o lt p (skipped lt' s d) = absurd (skipped_or_picked system members i j s p)
after_pick system members i j o lt p (passes j' w n t lt' p' f) = subst
    (λ x. Stopped system members i x (too_wide (record { members = members; pivot = row_variable system i; leaves = j'; target = w; entry = n; term = t }))
    ⊎ GoesOn system members i x (too_wide (record { members = members; pivot = row_variable system i; leaves = j'; target = w; entry = n; term = t })))
    (same_pick system members i j' j p' p) (inl (record { w = w; n = n; t = t; first = f; is = refl }))
after_pick system members i j o lt p (exchanges j' lt' p' fit d) =
    subst (λ x. Stopped system members i x o ⊎ GoesOn system members i x o) (same_pick system members i j' j p' p) (inr (record { fit = fit; rest = d }))

after_last : (system : LinearSystem) (members : List ℕ) (i : ℕ) (o : CycleOutcome) → length system.rows ≤ i → CycleWalkFrom system members i o → free_set members ≡ o
after_last system members i o le (no_row_left le') = refl
after_last system members i o le (skipped lt s d) = absurd (omega arith)
after_last system members i o le (passes j w n t lt p f) = absurd (omega arith)
after_last system members i o le (exchanges j lt p fit d) = absurd (omega arith)

pub same_cycle : (system : LinearSystem) (members : List ℕ) (i : ℕ) (o o' : CycleOutcome) → CycleWalkFrom system members i o → CycleWalkFrom system members i o' → o ≡ o'
same_cycle system members i o o' (no_row_left le) d' = after_last system members i o' le d'
same_cycle system members i o o' (skipped lt s d) d' = same_cycle system members (suc i) o o' d (after_skip system members i o' lt s d')
same_cycle system members i o o' (passes j w n t lt p f) d' = go (after_pick system members i j o' lt p d')
  where
    go : Stopped system members i j o' ⊎ GoesOn system members i j o' → too_wide (record { members = members; pivot = row_variable system i; leaves = j; target = w; entry = n; term = t }) ≡ o'
    go (inl s) = let e = same_wide system members (row_variable system i) j w n s.w s.n t s.t f s.first in let ew = e.0 in let en = e.1 in let et = e.2 in let is = s.is in cc
    go (inr g) = absurd (wide_or_fit system members (row_variable system i) j w n t f g.fit)
same_cycle system members i o o' (exchanges j lt p fit d) d' =
    go (after_pick system members i j o' lt p d') (λ rest. same_cycle system (exchanged members (row_variable system i) j) (suc i) o o' d rest)
  where
    go : Stopped system members i j o' ⊎ GoesOn system members i j o' → (CycleWalkFrom system (exchanged members (row_variable system i) j) (suc i) o' → o ≡ o') → o ≡ o'
    go (inl s) next = absurd (wide_or_fit system members (row_variable system i) j s.w s.n s.t s.first fit)
    go (inr g) next = next g.rest

-- ---- some outcome

record LeastColumn (k : Relation) (b : ℕ) : Type 0 where
  pub j : ℕ
  pub below : j < b
  pub named : k.coefficient j ≢ pos 0
  pub least : (t : ℕ) → t < j → k.coefficient t ≡ pos 0

least_column : (k : Relation) (b : ℕ) → ((t : ℕ) → t < b → k.coefficient t ≡ pos 0) ⊎ LeastColumn k b
least_column k zero = inl (λ t lt. absurd (omega arith))
least_column k (suc b) = go (least_column k b) (is_zero_or_not (k.coefficient b))
  where
    go : ((t : ℕ) → t < b → k.coefficient t ≡ pos 0) ⊎ LeastColumn k b → (k.coefficient b ≡ pos 0) ⊎ (k.coefficient b ≢ pos 0) → ((t : ℕ) → t < suc b → k.coefficient t ≡ pos 0) ⊎ LeastColumn k (suc b)
    go (inr r) _ = let lt = r.below in inr (record { j = r.j; below = omega arith; named = r.named; least = r.least })
    go (inl all) (inl e) = inl (λ t lt. ⊎_elim (λ is. subst (λ x. k.coefficient x ≡ pos 0) (sym is) e) (λ ne. all t (omega arith)) (equal_or_not t b))
    go (inl all) (inr ne) = inr (record { j = b; below = omega arith; named = ne; least = all })

-- the rows from i on are no members yet
abbrev RowsAhead : LinearSystem → List ℕ → ℕ → Type 0
RowsAhead system members i = (m : ℕ) → Contains members m → m < row_variable system i

ahead_next : (system : LinearSystem) (members : List ℕ) (i j : ℕ) → RowsAhead system members i → RowsAhead system (exchanged members (row_variable system i) j) (suc i)
ahead_next system members i j ahead m has = ⊎_elim (λ e. omega arith) (λ old. (let lt = ahead m old.0 in omega arith)) (exchanged-Contains (row_variable system i) j m members has)

walk : (system : LinearSystem) (n i : ℕ) (members : List ℕ) → i + n ≡ length system.rows → HasDictionary system members → RowsAhead system members i
    → (o : CycleOutcome) × CycleWalkFrom system members i o
walk system zero i members e has ahead = (free_set members, no_row_left (omega arith))
walk system (suc n) i members e has ahead = go
    (has.rows (row_variable system i) (omega arith) (λ member. (let lt = ahead _ member in absurd (omega arith))))
    (λ members' has' ahead'. walk system n (suc i) members' (omega arith) has' ahead')
  where
    lt : i < length system.rows
    lt = omega arith

    picks : (j : ℕ) → Picks system members i j → AllFit system members (row_variable system i) j ⊎ HasWide system members (row_variable system i) j
        → ((members' : List ℕ) → HasDictionary system members' → RowsAhead system members' (suc i) → (o : CycleOutcome) × CycleWalkFrom system members' (suc i) o)
        → (o : CycleOutcome) × CycleWalkFrom system members i o
    picks j p (inr w) next = (_, passes j w.w w.n w.t lt p w.first)
    picks j p (inl fit) next =
        let (o, d) = next (exchanged members (row_variable system i) j)
        (exchanged_has system members (row_variable system i) j p.k has p.row (picked_member system members i j p) p.named) (ahead_next system members i j ahead) in
        (o, exchanges j lt p fit d)

    at : (k : Relation) → DictionaryRow system members (row_variable system i) k → ((t : ℕ) → t < system.columns → k.coefficient t ≡ pos 0)
        ⊎ LeastColumn k system.columns → ((members' : List ℕ) → HasDictionary system members' → RowsAhead system members' (suc i) → (o : CycleOutcome)
        × CycleWalkFrom system members' (suc i) o) → (o : CycleOutcome) × CycleWalkFrom system members i o
    at k row (inl none) next =
        let (o, d) = next members has (λ m member. (let less = ahead m member in omega arith)) in
        (o, skipped lt (record { k = k; row = row; none = none }) d)
    at k row (inr l) next = picks l.j (record { k = k; row = row; column = l.below; named = l.named; least = l.least }) (fit_or_wide system members (row_variable system i) l.j k has row) next

    go : (k : Relation) × DictionaryRow system members (row_variable system i) k
        → ((members' : List ℕ) → HasDictionary system members' → RowsAhead system members' (suc i)
        → (o : CycleOutcome) × CycleWalkFrom system members' (suc i) o) → (o : CycleOutcome) × CycleWalkFrom system members i o
    go (k, row) next = at k row (least_column k system.columns) next

pub cycle_ends : (system : LinearSystem) → (o : CycleOutcome) × CycleWalk system o
cycle_ends system = walk system (length system.rows) 0 (column_set system) (omega arith) (columns_have system) (λ m has. (let h = numbers_from-Contains 0 system.columns m has in omega arith))

-- ---- what the free columns give

-- each row before i is a member, or its relation names rows alone
abbrev RowsDone : LinearSystem → List ℕ → ℕ → Type 0
RowsDone system members i = (m : ℕ) → m < i → Contains members (row_variable system m) ⊎ IsSkipped system members m

pub record CycleKnows (system : LinearSystem) (members : List ℕ) : Type 0 where
  pub has : HasDictionary system members
  pub done : (m : ℕ) → m < length system.rows → Contains members (row_variable system m) ⊎ IsSkipped system members m

abbrev EndKnows : LinearSystem → CycleOutcome → Type 0
EndKnows system (free_set members) = CycleKnows system members
EndKnows system (too_wide w) = Unit {0}

done_next : (system : LinearSystem) (members : List ℕ) (i j : ℕ) → Picks system members i j → RowsDone system members i → RowsDone system (exchanged members (row_variable system i) j) (suc i)
done_next system members i j p done m lt = ⊎_elim
    (λ e. inl (subst (λ x. Contains (exchanged members (row_variable system i) j) (row_variable system x)) (sym e)
    (Contains-exchanged_new (row_variable system i) j members))) (λ ne. at ne (done m (omega arith))) (equal_or_not m i)
  where
    at : m ≢ i → Contains members (row_variable system m) ⊎ IsSkipped system members m
        → Contains (exchanged members (row_variable system i) j) (row_variable system m) ⊎ IsSkipped system (exchanged members (row_variable system i) j) m
    at ne (inl has) = inl (Contains-exchanged_old (row_variable system i) j (row_variable system m) members has (λ e. (let lt' = p.column in omega arith)))
    at ne (inr s) = inr (record {
      k = s.k;
      row =
          kept_row system members (row_variable system i) j p.k p.row (picked_member system members i j p) p.named (row_variable system m) s.k s.row
          (λ e. ne (omega arith)) (s.none j p.column);
      none = s.none;
    })

cycle_knows : (system : LinearSystem) (members : List ℕ) (i : ℕ) (o : CycleOutcome) → CycleWalkFrom system members i o → HasDictionary system members → RowsDone system members i → EndKnows system o
cycle_knows system members i o (no_row_left le) has done = record { has = has; done = λ m lt. done m (omega arith) }
cycle_knows system members i o (skipped lt s d) has done =
    cycle_knows system members (suc i) o d has (λ m lt. ⊎_elim (λ e. inr (subst (IsSkipped system members) (sym e) s)) (λ ne. done m (omega arith)) (equal_or_not m i))
cycle_knows system members i o (passes j w n t lt p f) has done = tt
cycle_knows system members i o (exchanges j lt p fit d) has done =
    cycle_knows system (exchanged members (row_variable system i) j) (suc i) o d
    (exchanged_has system members (row_variable system i) j p.k has p.row (picked_member system members i j p) p.named) (done_next system members i j p done)

pub cycle_set_knows : (system : LinearSystem) (members : List ℕ) → CycleWalk system (free_set members) → CycleKnows system members
cycle_set_knows system members d = cycle_knows system (column_set system) 0 (free_set members) d (columns_have system) (λ m lt. absurd (omega arith))

-- the values of all variables are 0 at the point of zeros, where no row has a constant
zero_point : (system : LinearSystem) → IsHomogeneous system → (scale : ℤ) → pos 0 <ℤ scale → IsPoint system scale (λ w. pos 0)
zero_point system plain scale h = record { positive = h; rows = λ i lt. finish _ _ _ (sum_below-zero system.columns _ (λ j below. *ℤ-zero (entry system i j))) (plain i lt) }
  where
    finish : (a c s : ℤ) → a ≡ pos 0 → c ≡ pos 0 → pos 0 ≡ a +ℤ (c *ℤ s)
    finish a c s e f = rw (e, f) (simp ring (omega (arith, ints)))

-- a relation over the set of a walk has no constant
pub no_constant : (system : LinearSystem) (members : List ℕ) (w : ℕ) (k : Relation) → IsHomogeneous system → DictionaryRow system members w k → k.constant ≡ pos 0
no_constant system members w k plain row = finish _ (constant_left system members w k row (pos 1) (λ m. pos 0) (zero_point system plain (pos 1) (omega (arith, ints))) (λ m has. refl))
  where
    finish : (c : ℤ) → k.d *ℤ pos 0 ≡ c *ℤ pos 1 → c ≡ pos 0
    finish c e = omega (arith, ints)

-- a relation without its rows, where these are 0
columns_alone : (system : LinearSystem) (k : Relation) (v : ℕ → ℤ)
    → ((m : ℕ) → m < length system.rows → k.coefficient (row_variable system m) *ℤ v (row_variable system m) ≡ pos 0)
    → sum_below (variables system) (λ m. k.coefficient m *ℤ v m) ≡ sum_below system.columns (λ j. k.coefficient j *ℤ v j)
columns_alone system k v none = sum_below-split system.columns (length system.rows) (λ m. k.coefficient m *ℤ v m) ∙ drop _ _ (sum_below-zero (length system.rows) _ none)
  where
    drop : (a b : ℤ) → b ≡ pos 0 → a +ℤ b ≡ a
    drop a b e = omega (arith, ints)

pub rows_zero-follow : (system : LinearSystem) (members : List ℕ) → IsHomogeneous system → (scale : ℤ) (v : ℕ → ℤ) → IsPoint system scale v → RowsAreZero system v → FollowsRelations system members v
rows_zero-follow system members plain scale v p zeros t k lt row = row.holds scale v p ∙ drop _ _ _ (no_constant system members t k plain row)
    ∙ columns_alone system k v (λ m below. ap (λ z. k.coefficient (row_variable system m) *ℤ z) (zeros m below) ∙ *ℤ-zero (k.coefficient (row_variable system m)))
  where
    drop : (c s a : ℤ) → c ≡ pos 0 → (c *ℤ s) +ℤ a ≡ a
    drop c s a e = rw e (simp ring (omega (arith, ints)))

module _ (system : LinearSystem) (members : List ℕ) (plain : IsHomogeneous system) (knows : CycleKnows system members) (scale : ℤ) (v : ℕ → ℤ)
    (p : IsPoint system scale v) (follows : FollowsRelations system members v) where
  -- the columns of the set as they are, and its rows at 0
  wanted : ℕ → ℤ
  wanted m = if nat_lt m system.columns then v m else pos 0

  taken : Takes system members wanted scale
  taken = knows.has.free.takes wanted scale p.positive

  row_member_zero : (m : ℕ) → Contains members (row_variable system m) → taken.v (row_variable system m) ≡ pos 0
  unfolding wanted
  row_member_zero m has = taken.values (row_variable system m) has ∙ rw (past_test (row_variable system m) system.columns (omega arith)) (*ℤ-zero taken.times)

  no_rows : (w : ℕ) (k : Relation) → DictionaryRow system members w k → (m : ℕ) → k.coefficient (row_variable system m) *ℤ taken.v (row_variable system m) ≡ pos 0
  no_rows w k row m = ⊎_elim
      (λ has. ap (λ z. k.coefficient (row_variable system m) *ℤ z) (row_member_zero m has) ∙ *ℤ-zero (k.coefficient (row_variable system m)))
      (λ lacks. ap (λ z. z *ℤ taken.v (row_variable system m)) (row.over (row_variable system m) lacks) ∙ zero-*ℤ (taken.v (row_variable system m)))
      (is_member members (row_variable system m))

  by_columns : (w : ℕ) (k : Relation) → DictionaryRow system members w k → k.d *ℤ taken.v w ≡ sum_below system.columns (λ j. k.coefficient j *ℤ taken.v j)
  by_columns w k row = row.holds _ taken.v taken.point ∙ drop _ _ _ (no_constant system members w k plain row) ∙ columns_alone system k taken.v (λ m below. no_rows w k row m)
    where
      drop : (c s a : ℤ) → c ≡ pos 0 → (c *ℤ s) +ℤ a ≡ a
      drop c s a e = rw e (simp ring (omega (arith, ints)))

  member_column : (j : ℕ) → j < system.columns → Contains members j → taken.v j ≡ taken.times *ℤ v j
  unfolding wanted
  member_column j lt has = taken.values j has ∙ rw (below_test j system.columns lt) refl

  piece : (k : Relation) (w : ℕ) → DictionaryRow system members w k → (j : ℕ) → j < system.columns → k.coefficient j *ℤ taken.v j ≡ taken.times *ℤ (k.coefficient j *ℤ v j)
  piece k w row j lt = ⊎_elim
      (λ has. ap (λ z. k.coefficient j *ℤ z) (member_column j lt has) ∙ mul_left_comm (k.coefficient j) taken.times (v j))
      (λ lacks. none (k.coefficient j) (taken.v j) (v j) (row.over j lacks))
      (is_member members j)
    where
      none : (c x y : ℤ) → c ≡ pos 0 → c *ℤ x ≡ taken.times *ℤ (c *ℤ y)
      none c x y e = rw e (simp ring)

  column_same : (j : ℕ) → j < system.columns → taken.v j ≡ taken.times *ℤ v j
  column_same j lt = ⊎_elim (member_column j lt) outside (is_member members j)
    where
      outside : ¬ Contains members j → taken.v j ≡ taken.times *ℤ v j
      outside lacks =
          let (k, row) = knows.has.rows j (omega arith) lacks in
          mul-cancel_left k.d _ _ (positive_differs k.d row.positive)
          (by_columns j k row ∙ sum_below-same system.columns _ _ (λ i below. piece k j row i below)
          ∙ sum_below-times system.columns taken.times (λ i. k.coefficient i *ℤ v i) ∙ ap (λ z. taken.times *ℤ z) (sym (follows j k lt row))
          ∙ mul_left_comm taken.times k.d (v j))

  row_same : (m : ℕ) → m < length system.rows → taken.v (row_variable system m) ≡ taken.times *ℤ v (row_variable system m)
  row_same m lt = columns_determine system (taken.times *ℤ scale) taken.v (λ w. taken.times *ℤ v w) taken.point
      (scaled_point system scale taken.times v taken.positive p) column_same (row_variable system m) (omega arith)

  taken_zero : (m : ℕ) → Contains members (row_variable system m) ⊎ IsSkipped system members m → taken.v (row_variable system m) ≡ pos 0
  taken_zero m (inl has) = row_member_zero m has
  taken_zero m (inr s) = mul_is_zero _ s.k.d (positive_differs s.k.d s.row.positive)
      (*ℤ_comm _ s.k.d ∙ by_columns (row_variable system m) s.k s.row
      ∙ sum_below-zero system.columns _ (λ j lt. ap (λ z. z *ℤ taken.v j) (s.none j lt) ∙ zero-*ℤ (taken.v j)))

  pub follow-rows_zero : RowsAreZero system v
  follow-rows_zero m lt = mul_is_zero _ taken.times (positive_differs taken.times taken.positive)
      (*ℤ_comm (v (row_variable system m)) taken.times ∙ sym (row_same m lt) ∙ taken_zero m (knows.done m lt))

-- with the set of a walk, all rows are 0 exactly where the columns outside it follow their relations
pub cycle_is_exact : (system : LinearSystem) (members : List ℕ) → IsHomogeneous system → CycleWalk system (free_set members)
    → (scale : ℤ) (v : ℕ → ℤ) → IsPoint system scale v → RowsAreZero system v ↔ FollowsRelations system members v
cycle_is_exact system members plain d scale v p = (rows_zero-follow system members plain scale v p, follow-rows_zero system members plain (cycle_set_knows system members d) scale v p)
