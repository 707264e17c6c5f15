-- A point that is found has whole forms and meets the rows, and a tree leaves none.
use Rattle.std.proofs.Common.{◌≡◌, ◌≢◌, ◌⊎◌, ⊎_elim, ℕ, zero, suc, ◌+◌, ◌<◌, ◌≤◌, Bool, true, false, if◌then◌else◌, List, [], ◌∷◌, ◌++◌, map, slice_index_or, length, length-append, append_assoc, ap, refl, subst, sym, ◌∙◌, inl, inr, arith}
use Rattle.std.specs.Prelude.{ℤ, pos, negsuc, neg_ℤ, ◌+ℤ◌, ◌-ℤ◌, ◌*ℤ◌, ◌≤ℤ◌, ◌<ℤ◌, int_lt, ◌||◌}
use Rattle.std.proofs.lemmas.Int.{ints, by_lt_z}
use Rattle.std.proofs.lemmas.Bool.{cases_lt}
use Rattle.rg_linear.specs.System.{LinearRow, LinearSystem, row_variable, row_at, entry, IsPoint, MeetsRows, AreFarkasMultipliers}
use Rattle.rg_integers.specs.Sum.{sum_below}
use Rattle.rg_linear.specs.Descent.{Outcome.point, DescentFromStart, IsAtZero, multiplier_of}
use Rattle.rg_branch_trees.specs.Trees.{Tree.leaf, Tree.split, low_side, high_side}
use Rattle.rg_linear.specs.Branching.{Form, form_at, scaled_value, SplitSide, side_row, node_system, AllWhole, SplitTree, weights_from}
use Rattle.rg_linear.specs.Branching.{BranchOutcome, BranchOutcome.found, BranchOutcome.tree, BranchOutcome.stopped, IsEnd, BranchFrom}
use Rattle.rg_linear.specs.Branching.{BranchFrom.passes, BranchFrom.refutes, BranchFrom.whole, BranchFrom.low_ends, BranchFrom.high_ends, BranchFrom.both_refuted}
use Rattle.rg_linear.specs.Branching.{multiplier_in, SplitTreeRefutes, ArePositive, SplitsForms, FormsWhole}
use Rattle.rg_integers.proofs.Ring.{ring, neg-mul}
use Rattle.std.proofs.Math.IntN.{*ℤ_comm}
use Rattle.rg_integers.proofs.Order.{mul_positive}
use Rattle.rg_integers.proofs.Sums.{sum_below-same, sum_below-times}
use Rattle.rg_linear.proofs.Members.{equal_or_not, differs, same}
use Rattle.rg_linear.proofs.Columns.{row_value, values_of, values_of-row, values_of-point}
use Rattle.rg_linear.proofs.Points.{point_is_sound}
use Rattle.rg_linear.proofs.Refuting.{refuted_is_sound, refutes_is_sound}
use Rattle.rg_linear.proofs.Branches.{positive_times_most, point_free, whole_moves}

-- ---- one row more

abbrev pub with_row : LinearSystem → LinearRow → LinearSystem
with_row system row = record { columns = system.columns; rows = system.rows ++ row ∷ [] }

map-append : (f : SplitSide → LinearRow) (xs ys : List SplitSide) → map f (xs ++ ys) ≡ map f xs ++ map f ys
map-append f [] ys = refl
map-append f (x ∷ xs) ys = ap (λ zs. f x ∷ zs) (map-append f xs ys)

-- the system of a side is that of its node with the row of the side
pub node_system-side : (system : LinearSystem) (forms : List Form) (above : List SplitSide) (side : SplitSide)
    → node_system system forms (above ++ side ∷ []) ≡ with_row (node_system system forms above) (side_row forms side)
node_system-side system forms above side = ap (λ rows. record { columns = system.columns; rows = rows })
    (ap (λ zs. system.rows ++ zs) (map-append (side_row forms) above (side ∷ []))
    ∙ sym (append_assoc system.rows (map (side_row forms) above) (side_row forms side ∷ [])))

pub index-front : {A : Type 0} (xs ys : List A) (d : A) (i : ℕ) → i < length xs → slice_index_or (xs ++ ys) i d ≡ slice_index_or xs i d
index-front [] ys d i lt = absurd (omega arith)
index-front (x ∷ xs) ys d zero lt = refl
index-front (x ∷ xs) ys d (suc i) lt = index-front xs ys d i (omega arith)

pub index-last : {A : Type 0} (xs : List A) (y d : A) → slice_index_or (xs ++ y ∷ []) (length xs) d ≡ y
index-last [] y d = refl
index-last (x ∷ xs) y d = index-last xs y d

pub index-neg : (xs : List ℤ) (j : ℕ) → slice_index_or (map neg_ℤ xs) j (pos 0) ≡ neg_ℤ (slice_index_or xs j (pos 0))
index-neg [] j = refl
index-neg (x ∷ xs) zero = refl
index-neg (x ∷ xs) (suc j) = index-neg xs j

-- what a row is worth where the columns have the values x
abbrev pub worth : ℕ → LinearRow → ℤ → (ℕ → ℤ) → ℤ
worth columns row scale x = sum_below columns (λ j. slice_index_or row.coeffs j (pos 0) *ℤ x j) +ℤ (row.constant *ℤ scale)

-- every row is at least 0 where the columns have the values x
abbrev pub MeetsAt : LinearSystem → ℤ → (ℕ → ℤ) → Type 0
MeetsAt system scale x = (i : ℕ) → i < length system.rows → pos 0 ≤ℤ worth system.columns (row_at system i) scale x

meets_with : (system : LinearSystem) (row : LinearRow) (scale : ℤ) (x : ℕ → ℤ) → MeetsAt system scale x → pos 0 ≤ℤ worth system.columns row scale x → MeetsAt (with_row system row) scale x
meets_with system row scale x meets here i lt = ⊎_elim
    (λ front. subst (λ r. pos 0 ≤ℤ worth system.columns r scale x) (sym (index-front system.rows (row ∷ []) _ i front)) (meets i front))
    (λ past. subst (λ r. pos 0 ≤ℤ worth system.columns r scale x) (sym (ap (λ k. row_at (with_row system row) k) (last past) ∙ index-last system.rows row _)) here)
    (cases_lt i (length system.rows))
  where
    len : length (system.rows ++ row ∷ []) ≡ length system.rows + 1
    len = length-append system.rows (row ∷ [])

    last : length system.rows ≤ i → i ≡ length system.rows
    last past = omega (arith, len)

-- ---- the rows of the sides

pub low_worth : (system : LinearSystem) (forms : List Form) (f : ℕ) (u scale : ℤ) (x : ℕ → ℤ)
    → worth system.columns (side_row forms (low_side f u)) scale x ≡ (u *ℤ ((form_at forms f).scale *ℤ scale)) -ℤ scaled_value system (form_at forms f) x
low_worth system forms f u scale x = finish _ (scaled_value system (form_at forms f) x) (form_at forms f).scale u scale
    (sum_below-same system.columns _ (λ j. negsuc 0 *ℤ (slice_index_or (form_at forms f).coeffs j (pos 0) *ℤ x j))
    (λ j lt. ap (λ z. z *ℤ x j) (index-neg (form_at forms f).coeffs j) ∙ turn (slice_index_or (form_at forms f).coeffs j (pos 0)) (x j))
    ∙ sum_below-times system.columns (negsuc 0) (λ j. slice_index_or (form_at forms f).coeffs j (pos 0) *ℤ x j))
  where
    minus : (z : ℤ) → negsuc 0 *ℤ z ≡ neg_ℤ z
    minus z = omega (arith, ints)

    turn : (a b : ℤ) → neg_ℤ a *ℤ b ≡ negsuc 0 *ℤ (a *ℤ b)
    turn a b = neg-mul a b ∙ sym (minus (a *ℤ b))

    finish : (a v f u s : ℤ) → a ≡ negsuc 0 *ℤ v → a +ℤ ((f *ℤ u) *ℤ s) ≡ (u *ℤ (f *ℤ s)) -ℤ v
    finish a v f u s e = let m = minus v in let g : (f *ℤ u) *ℤ s ≡ u *ℤ (f *ℤ s) = simp ring in omega (arith, ints)

pub high_worth : (system : LinearSystem) (forms : List Form) (f : ℕ) (u scale : ℤ) (x : ℕ → ℤ)
    → worth system.columns (side_row forms (high_side f u)) scale x ≡ scaled_value system (form_at forms f) x -ℤ ((u +ℤ pos 1) *ℤ ((form_at forms f).scale *ℤ scale))
high_worth system forms f u scale x = finish (scaled_value system (form_at forms f) x) (form_at forms f).scale u scale
  where
    finish : (v f u s : ℤ) → v +ℤ ((neg_ℤ (f *ℤ u) -ℤ f) *ℤ s) ≡ v -ℤ ((u +ℤ pos 1) *ℤ (f *ℤ s))
    finish v f u s = simp ring (omega (arith, ints))

-- ---- no whole point is left

-- multipliers that refute leave no values of the columns
none_meets : (system : LinearSystem) (multiplier : ℕ → ℤ) → AreFarkasMultipliers system multiplier → (scale : ℤ) (x : ℕ → ℤ) → pos 0 <ℤ scale → MeetsAt system scale x → ⊥
unfolding row_value
none_meets system multiplier r scale x h meets =
    refutes_is_sound system multiplier r scale (values_of system scale x) (values_of-point system scale x h)
    (λ i lt. subst (λ z. pos 0 ≤ℤ z) (sym (values_of-row system scale x i)) (meets i lt))

one_side : (system : LinearSystem) (forms : List Form) (above : List SplitSide) (side : SplitSide) (scale : ℤ) (x : ℕ → ℤ)
    → MeetsAt (node_system system forms above) scale x → pos 0 ≤ℤ worth system.columns (side_row forms side) scale x
    → MeetsAt (node_system system forms (above ++ side ∷ [])) scale x
one_side system forms above side scale x meets here =
    subst (λ s. MeetsAt s scale x) (sym (node_system-side system forms above side)) (meets_with (node_system system forms above) (side_row forms side) scale x meets here)

pub tree_leaves_none : (system : LinearSystem) (forms : List Form) (above : List SplitSide) (t : SplitTree) → ArePositive forms → SplitsForms forms t
    → SplitTreeRefutes system forms above t → (scale : ℤ) (x : ℕ → ℤ) → pos 0 <ℤ scale → MeetsAt (node_system system forms above) scale x
    → FormsWhole system forms scale x → ⊥
tree_leaves_none system forms above (leaf weights) positive within shown scale x h meets wholes = none_meets (node_system system forms above) (multiplier_in weights) shown scale x h meets
tree_leaves_none system forms above (split f u low high) positive (lt, in_low, in_high) (refutes_low, refutes_high) scale x h meets wholes =
    by_lt_z u (wholes f lt).0
    (λ more. tree_leaves_none system forms (above ++ high_side f u ∷ []) high positive in_high refutes_high scale x h
    (one_side system forms above (high_side f u) scale x meets (subst (λ z. pos 0 ≤ℤ z) (sym (high_worth system forms f u scale x)) (above_it more))) wholes)
    (λ most. tree_leaves_none system forms (above ++ low_side f u ∷ []) low positive in_low refutes_low scale x h
    (one_side system forms above (low_side f u) scale x meets (subst (λ z. pos 0 ≤ℤ z) (sym (low_worth system forms f u scale x)) (below_it most))) wholes)
  where
    unit : pos 0 <ℤ ((form_at forms f).scale *ℤ scale)
    unit = mul_positive _ _ (positive f lt) h

    above_it : u <ℤ (wholes f lt).0 → pos 0 ≤ℤ (scaled_value system (form_at forms f) x -ℤ ((u +ℤ pos 1) *ℤ ((form_at forms f).scale *ℤ scale)))
    above_it more = go (u +ℤ pos 1) (wholes f lt).0 ((form_at forms f).scale *ℤ scale) _ (omega (arith, ints)) unit (wholes f lt).1
      where
        go : (a t k v : ℤ) → a ≤ℤ t → pos 0 <ℤ k → v ≡ t *ℤ k → pos 0 ≤ℤ (v -ℤ (a *ℤ k))
        go a t k v le hk e = let m = positive_times_most k a t hk le in let e' = *ℤ_comm k a in let e'' = *ℤ_comm k t in omega (arith, ints)

    below_it : (wholes f lt).0 ≤ℤ u → pos 0 ≤ℤ ((u *ℤ ((form_at forms f).scale *ℤ scale)) -ℤ scaled_value system (form_at forms f) x)
    below_it most = go u (wholes f lt).0 ((form_at forms f).scale *ℤ scale) _ most unit (wholes f lt).1
      where
        go : (a t k v : ℤ) → t ≤ℤ a → pos 0 <ℤ k → v ≡ t *ℤ k → pos 0 ≤ℤ ((a *ℤ k) -ℤ v)
        go a t k v le hk e = let m = positive_times_most k t a hk le in let e' = *ℤ_comm k a in let e'' = *ℤ_comm k t in omega (arith, ints)

-- ---- the weights of a leaf

pub nonzero_test : (z : ℤ) → (int_lt z (pos 0) || int_lt (pos 0) z) ≡ false → z ≡ pos 0
nonzero_test z e = grind (arith, ints)

-- a row before the first has no weight
multiplier_in-past : (multiplier : ℕ → ℤ) (first n row : ℕ) → row < first → multiplier_in (weights_from multiplier first n) row ≡ pos 0
multiplier_in-past multiplier first zero row lt = refl
multiplier_in-past multiplier first (suc n) row lt = go (int_lt (multiplier first) (pos 0) || int_lt (pos 0) (multiplier first)) (multiplier_in-past multiplier (suc first) n row (omega arith))
  where
    go : (b : Bool) → multiplier_in (weights_from multiplier (suc first) n) row ≡ pos 0
        → multiplier_in (if b then (record { row = first; multiplier = multiplier first } ∷ weights_from multiplier (suc first) n) else weights_from
        multiplier (suc first) n) row ≡ pos 0
    go true ih = rw (differs first row (λ e. omega arith)) ih
    go false ih = ih

pub multiplier_in-weights : (multiplier : ℕ → ℤ) (first n row : ℕ) → first ≤ row → row < first + n → multiplier_in (weights_from multiplier first n) row ≡ multiplier row
multiplier_in-weights multiplier first zero row lo hi = absurd (omega arith)
multiplier_in-weights multiplier first (suc n) row lo hi = go (int_lt (multiplier first) (pos 0) || int_lt (pos 0) (multiplier first)) refl (equal_or_not first row)
    (λ next. multiplier_in-weights multiplier (suc first) n row next (omega arith)) (λ past. multiplier_in-past multiplier (suc first) n row past)
  where
    go : (b : Bool) → (int_lt (multiplier first) (pos 0) || int_lt (pos 0) (multiplier first)) ≡ b → (first ≡ row) ⊎ (first ≢ row)
        → (suc first ≤ row → multiplier_in (weights_from multiplier (suc first) n) row ≡ multiplier row)
        → (row < suc first → multiplier_in (weights_from multiplier (suc first) n) row ≡ pos 0)
        → multiplier_in (if b then (record { row = first; multiplier = multiplier first } ∷ weights_from multiplier (suc first) n) else weights_from multiplier
        (suc first) n) row ≡ multiplier row
    go true e (inl is) ih past = rw (is, same row) refl
    go true e (inr ne) ih past = rw (differs first row ne) (ih (omega arith))
    go false e (inl is) ih past = past (omega arith) ∙ sym (nonzero_test (multiplier first) e) ∙ ap multiplier is
    go false e (inr ne) ih past = ih (omega arith)

same_multipliers : (system : LinearSystem) (m m' : ℕ → ℤ) → ((i : ℕ) → i < length system.rows → m i ≡ m' i) → AreFarkasMultipliers system m' → AreFarkasMultipliers system m
same_multipliers system m m' e r = record {
  not_negative = λ i lt. subst (λ z. pos 0 ≤ℤ z) (sym (e i lt)) (r.not_negative i lt);
  cancels = λ j lt. sum_below-same (length system.rows) _ _ (λ i below. ap (λ z. z *ℤ entry system i j) (e i below)) ∙ r.cancels j lt;
  contradicts = subst (λ z. z <ℤ pos 0) (sym (sum_below-same (length system.rows) _ _ (λ i below. ap (λ z. z *ℤ (row_at system i).constant) (e i below)))) r.contradicts;
}

-- what an outcome knows of its tree
abbrev pub TreeWell : LinearSystem → List Form → List SplitSide → BranchOutcome → Type 0
TreeWell system forms above (found members at) = Unit {0}
TreeWell system forms above (tree t) = SplitTreeRefutes system forms above t × SplitsForms forms t
TreeWell system forms above (stopped at w) = Unit {0}

end_well : (system : LinearSystem) (forms : List Form) (above : List SplitSide) (o : BranchOutcome) → IsEnd o → TreeWell system forms above o
end_well system forms above (found members at) end = tt
end_well system forms above (tree t) end = absurd end
end_well system forms above (stopped at w) end = tt

pub tree_well : (system : LinearSystem) (forms : List Form) (above : List SplitSide) (o : BranchOutcome) → BranchFrom system forms above o → TreeWell system forms above o
tree_well system forms above o (passes w d) = tt
tree_well system forms above o (refutes members fixed i k d row) = (
  same_multipliers (node_system system forms above) _ (multiplier_of (node_system system forms above) k i)
      (λ m lt. multiplier_in-weights (multiplier_of (node_system system forms above) k i) 0 (length (node_system system forms above).rows) m (omega arith) (omega arith))
      (refuted_is_sound (node_system system forms above) members fixed i k d row),
  tt,
)
tree_well system forms above o (whole members d all) = tt
tree_well system forms above o (low_ends members f u d first low end) = end_well system forms above o end
tree_well system forms above o (high_ends members f u t d first low high end) = end_well system forms above o end
tree_well system forms above o (both_refuted members f u t t' d first low high) =
    let a = tree_well system forms (above ++ low_side f u ∷ []) (tree t) low in
    let b = tree_well system forms (above ++ high_side f u ∷ []) (tree t') high in
    ((a.0, b.0), (first.within, a.1, b.1))

-- ---- the point that is found

-- the rows of the system are the first of a node's
pub front_row : (system : LinearSystem) (forms : List Form) (above : List SplitSide) (i : ℕ) → i < length system.rows → row_at (node_system system forms above) i ≡ row_at system i
front_row system forms above i lt = index-front system.rows (map (side_row forms) above) _ i lt

front_length : (system : LinearSystem) (forms : List Form) (above : List SplitSide) (i : ℕ) → i < length system.rows → i < length (node_system system forms above).rows
front_length system forms above i lt = let e = length-append system.rows (map (side_row forms) above) in omega arith

-- a point of a node's system is one of the system
pub node_point : (system : LinearSystem) (forms : List Form) (above : List SplitSide) (scale : ℤ) (v : ℕ → ℤ) → IsPoint (node_system system forms above) scale v → IsPoint system scale v
node_point system forms above scale v p = record {
  positive = p.positive;
  rows = λ i lt. subst (λ r. v (row_variable system i) ≡ worth system.columns r scale v) (front_row system forms above i lt)
      (p.rows i (front_length system forms above i lt));
}

-- the point has whole forms, and meets the rows of its node, so those of the system
pub record IsWholePoint (system : LinearSystem) (forms : List Form) (members : List ℕ) (above : List SplitSide) : Type 0 where
  pub descent : DescentFromStart (node_system system forms above) (point members)
  pub all : AllWhole system forms above members

abbrev pub FoundWell : LinearSystem → List Form → BranchOutcome → Type 0
FoundWell system forms (found members above) = IsWholePoint system forms members above
FoundWell system forms (tree t) = Unit {0}
FoundWell system forms (stopped above w) = Unit {0}

pub found_well : (system : LinearSystem) (forms : List Form) (above : List SplitSide) (o : BranchOutcome) → BranchFrom system forms above o → FoundWell system forms o
found_well system forms above o (passes w d) = tt
found_well system forms above o (refutes members fixed i k d row) = tt
found_well system forms above o (whole members d all) = record { descent = d; all = all }
found_well system forms above o (low_ends members f u d first low end) = found_well system forms (above ++ low_side f u ∷ []) o low
found_well system forms above o (high_ends members f u t d first low high end) = found_well system forms (above ++ high_side f u ∷ []) o high
found_well system forms above o (both_refuted members f u t t' d first low high) = tt

-- at the point of the set
pub found_is_sound : (system : LinearSystem) (forms : List Form) (start above : List SplitSide) (members : List ℕ) → BranchFrom system forms start (found members above)
    → (scale : ℤ) (v : ℕ → ℤ) → IsPoint (node_system system forms above) scale v → IsAtZero members v → IsPoint system scale v × MeetsRows system v
    × FormsWhole system forms scale v
found_is_sound system forms start above members b scale v p zeros =
    let w = found_well system forms start (found members above) b in (
      node_point system forms above scale v p,
      (λ i lt. point_is_sound (node_system system forms above) members w.descent scale v p zeros i (front_length system forms above i lt)),
      (λ f lt. whole_moves system forms above members (point_free (node_system system forms above) members w.descent)
          (form_at forms f) w.all.scale scale w.all.v v w.all.point w.all.zeros p zeros (w.all.whole f lt)),
    )

-- a tree leaves no point with whole forms
pub tree_is_sound : (system : LinearSystem) (forms : List Form) (t : SplitTree) → ArePositive forms → BranchFrom system forms [] (tree t)
    → (scale : ℤ) (v : ℕ → ℤ) → IsPoint system scale v → MeetsRows system v → FormsWhole system forms scale v → ⊥
tree_is_sound system forms t positive b scale v p meets wholes =
    let w = tree_well system forms [] (tree t) b in
    tree_leaves_none system forms [] t positive w.1 w.0 scale v p.positive
    (λ i lt. subst (λ r. pos 0 ≤ℤ worth system.columns r scale v) (sym (front_row system forms [] i (back i lt)))
    (subst (λ z. pos 0 ≤ℤ z) (p.rows i (back i lt)) (meets i (back i lt)))) wholes
  where
    back : (i : ℕ) → i < length (node_system system forms []).rows → i < length system.rows
    back i lt = let e = length-append system.rows [] in omega arith
