-- A branching has one outcome.
use Rattle.std.proofs.Common.{◌≡◌, ◌⊎◌, ℕ, ◌<◌, ◌≤◌, List, [], ◌∷◌, ◌++◌, slice_index_or, length, ap, refl, subst, sym, ◌∙◌, inl, inr, arith}
use Rattle.std.specs.Prelude.{ℤ, pos, neg_ℤ, ◌+ℤ◌, ◌*ℤ◌, ◌≤ℤ◌, ◌<ℤ◌}
use Rattle.std.proofs.lemmas.Int.{ints, by_lt_z}
use Rattle.std.proofs.lemmas.Bool.{cases_lt}
use Rattle.rg_linear.specs.System.{LinearSystem, variables, row_variable, IsPoint}
use Rattle.rg_linear.specs.Dictionary.{IsFree, Relation, DictionaryRow, column_set}
use Rattle.rg_linear.specs.Descent.{WideAt, Outcome, Outcome.point, Outcome.refuted, Outcome.wide, DescentFromStart, IsAtZero, multiplier_of}
use Rattle.rg_branch_trees.specs.Trees.{Tree.leaf, Tree.split, low_side, high_side}
use Rattle.rg_linear.specs.Branching.{Form, form_at, scaled_value, SplitSide, node_system, IsWholeAt, AllWhole, FirstFraction, SplitTree}
use Rattle.rg_linear.specs.Branching.{weights_from, BranchOutcome, BranchOutcome.found, BranchOutcome.tree, BranchOutcome.stopped, IsEnd, BranchFrom}
use Rattle.rg_linear.specs.Branching.{BranchFrom.passes, BranchFrom.refutes, BranchFrom.whole, BranchFrom.low_ends, BranchFrom.high_ends, BranchFrom.both_refuted}
use Rattle.rg_integers.proofs.Ring.{ring, mul_left_comm, mul-add, mul-neg}
use Rattle.std.proofs.Math.IntN.{*ℤ_comm, *ℤ-zero}
use Rattle.rg_integers.proofs.Order.{mul_positive, mul_not_negative, mul-cancel_left, positive_differs}
use Rattle.rg_integers.proofs.Sums.{sum_below-same, sum_below-times}
use Rattle.rg_linear.proofs.Unique.{same_relation}
use Rattle.rg_linear.proofs.Columns.{scaled_point}
use Rattle.rg_linear.proofs.Determined.{same_outcome}
use Rattle.rg_linear.proofs.Having.{columns_have}
use Rattle.rg_linear.proofs.Widths.{descent_has}

-- ---- the point of a set, over two scales

pub positive_times_less : (k a b : ℤ) → pos 0 <ℤ k → a <ℤ b → (k *ℤ a) <ℤ (k *ℤ b)
positive_times_less k a b h g =
    let gap : pos 0 <ℤ (b +ℤ neg_ℤ a) = omega (arith, ints) in
    let p = mul_positive k (b +ℤ neg_ℤ a) h gap in
    let e = mul-add k b (neg_ℤ a) in
    let f = mul-neg k a in
    omega (arith, ints)

pub positive_times_most : (k a b : ℤ) → pos 0 <ℤ k → a ≤ℤ b → (k *ℤ a) ≤ℤ (k *ℤ b)
positive_times_most k a b h g =
    let gap : pos 0 ≤ℤ (b +ℤ neg_ℤ a) = omega (arith, ints) in
    let weak : pos 0 ≤ℤ k = omega (arith, ints) in
    let p = mul_not_negative k (b +ℤ neg_ℤ a) weak gap in
    let e = mul-add k b (neg_ℤ a) in
    let f = mul-neg k a in
    omega (arith, ints)

pub less_of_times : (k a b : ℤ) → pos 0 <ℤ k → (k *ℤ a) <ℤ (k *ℤ b) → a <ℤ b
less_of_times k a b h g = by_lt_z a b (λ less. less) (λ most. (let m = positive_times_most k b a h most in absurd (omega (arith, ints))))

same_zero_point : (system : LinearSystem) (members : List ℕ) → IsFree system members → (s s' : ℤ) (v v' : ℕ → ℤ) → IsPoint system s v
    → IsAtZero members v → IsPoint system s' v' → IsAtZero members v' → (w : ℕ) → w < variables system → s' *ℤ v w ≡ s *ℤ v' w
same_zero_point system members free s s' v v' p z p' z' w lt =
    free.determines (s' *ℤ s) (λ w. s' *ℤ v w) (λ w. s *ℤ v' w) (scaled_point system s s' v p'.positive p)
    (subst (λ x. IsPoint system x (λ w. s *ℤ v' w)) (*ℤ_comm s s') (scaled_point system s' s v' p.positive p'))
    (λ m has. ap (λ x. s' *ℤ x) (z m has) ∙ *ℤ-zero s' ∙ sym (ap (λ x. s *ℤ x) (z' m has) ∙ *ℤ-zero s)) w lt

scaled_value-times : (system : LinearSystem) (form : Form) (k : ℤ) (v : ℕ → ℤ) → scaled_value system form (λ w. k *ℤ v w) ≡ k *ℤ scaled_value system form v
scaled_value-times system form k v = sum_below-same system.columns _ _ (λ j lt. mul_left_comm _ k (v j)) ∙ sum_below-times system.columns k _

module _ (system : LinearSystem) (forms : List Form) (above : List SplitSide) (members : List ℕ) (free : IsFree (node_system system forms above) members) where
  same_value : (form : Form) (s s' : ℤ) (v v' : ℕ → ℤ) → IsPoint (node_system system forms above) s v → IsAtZero members v
      → IsPoint (node_system system forms above) s' v' → IsAtZero members v' → s' *ℤ scaled_value system form v ≡ s *ℤ scaled_value system form v'
  same_value form s s' v v' p z p' z' =
      sym (scaled_value-times system form s' v) ∙ sum_below-same system.columns _ _
      (λ j lt. ap (λ x. slice_index_or form.coeffs j (pos 0) *ℤ x)
      (same_zero_point (node_system system forms above) members free s s' v v' p z p' z' j (omega arith))) ∙ scaled_value-times system form s v'

  pub whole_moves : (form : Form) (s s' : ℤ) (v v' : ℕ → ℤ) → IsPoint (node_system system forms above) s v → IsAtZero members v
      → IsPoint (node_system system forms above) s' v' → IsAtZero members v' → IsWholeAt system form s v → IsWholeAt system form s' v'
  whole_moves form s s' v v' p z p' z' (u, e) = (u, mul-cancel_left s _ _ (positive_differs s p.positive) (sym (same_value form s s' v v' p z p' z') ∙ ap (λ x. s' *ℤ x) e ∙ turn s s' u form.scale))
    where
      turn : (s s' u f : ℤ) → s' *ℤ (u *ℤ (f *ℤ s)) ≡ s *ℤ (u *ℤ (f *ℤ s'))
      turn s s' u f = simp ring

  low_moves : (form : Form) (s s' : ℤ) (v v' : ℕ → ℤ) (u : ℤ) → IsPoint (node_system system forms above) s v → IsAtZero members v
      → IsPoint (node_system system forms above) s' v' → IsAtZero members v' → (u *ℤ (form.scale *ℤ s)) <ℤ scaled_value system form v
      → (u *ℤ (form.scale *ℤ s')) <ℤ scaled_value system form v'
  low_moves form s s' v v' u p z p' z' h = less_of_times s _ _ p.positive (finish _ _ _ _ (positive_times_less s' _ _ p'.positive h) (turn s s' u form.scale) (same_value form s s' v v' p z p' z'))
    where
      turn : (s s' u f : ℤ) → s' *ℤ (u *ℤ (f *ℤ s)) ≡ s *ℤ (u *ℤ (f *ℤ s'))
      turn s s' u f = simp ring

      finish : (a b c d : ℤ) → a <ℤ b → a ≡ c → b ≡ d → c <ℤ d
      finish a b c d h e f = omega (arith, ints)

  high_moves : (form : Form) (s s' : ℤ) (v v' : ℕ → ℤ) (u : ℤ) → IsPoint (node_system system forms above) s v → IsAtZero members v
      → IsPoint (node_system system forms above) s' v' → IsAtZero members v' → scaled_value system form v <ℤ (u *ℤ (form.scale *ℤ s))
      → scaled_value system form v' <ℤ (u *ℤ (form.scale *ℤ s'))
  high_moves form s s' v v' u p z p' z' h = less_of_times s _ _ p.positive (finish _ _ _ _ (positive_times_less s' _ _ p'.positive h) (same_value form s s' v v' p z p' z') (turn s s' u form.scale))
    where
      turn : (s s' u f : ℤ) → s' *ℤ (u *ℤ (f *ℤ s)) ≡ s *ℤ (u *ℤ (f *ℤ s'))
      turn s s' u f = simp ring

      finish : (a b c d : ℤ) → a <ℤ b → a ≡ c → b ≡ d → c <ℤ d
      finish a b c d h e f = omega (arith, ints)

  -- a number between two floors
  between : (u t x f : ℤ) → (u *ℤ x) <ℤ f → f <ℤ ((u +ℤ pos 1) *ℤ x) → (t *ℤ x) ≤ℤ f → f <ℤ ((t +ℤ pos 1) *ℤ x) → t ≡ u
  between u t x f a b c d = by_lt_z t u (λ less. absurd (apart t u x f less d (weaken a) positive))
      (λ most. by_lt_z u t (λ less. absurd (apart u t x f less b c positive)) (λ least. omega (arith, ints)))
    where
      expand : (u x : ℤ) → (u +ℤ pos 1) *ℤ x ≡ (u *ℤ x) +ℤ x
      expand u x = simp ring (omega (arith, ints))

      positive : pos 0 <ℤ x
      positive = from (expand u x)
        where
          from : (u +ℤ pos 1) *ℤ x ≡ (u *ℤ x) +ℤ x → pos 0 <ℤ x
          from e = omega (arith, ints)

      weaken : (u *ℤ x) <ℤ f → (u *ℤ x) ≤ℤ f
      weaken h = omega (arith, ints)

      apart : (u t x f : ℤ) → u <ℤ t → f <ℤ ((u +ℤ pos 1) *ℤ x) → (t *ℤ x) ≤ℤ f → pos 0 <ℤ x → ⊥
      apart u t x f less b c h =
          let next : (u +ℤ pos 1) ≤ℤ t = omega (arith, ints) in
          let m = positive_times_most x (u +ℤ pos 1) t h next in
          let e = *ℤ_comm x (u +ℤ pos 1) in
          let e' = *ℤ_comm x t in
          omega (arith, ints)

  fraction_or_whole : (form : Form) (s : ℤ) (v : ℕ → ℤ) (u : ℤ) → (u *ℤ (form.scale *ℤ s)) <ℤ scaled_value system form v
      → scaled_value system form v <ℤ ((u +ℤ pos 1) *ℤ (form.scale *ℤ s)) → IsWholeAt system form s v → ⊥
  fraction_or_whole form s v u low high (t, e) = contradiction t u (form.scale *ℤ s) (scaled_value system form v) low high e
    where
      contradiction : (t u x f : ℤ) → (u *ℤ x) <ℤ f → f <ℤ ((u +ℤ pos 1) *ℤ x) → f ≡ t *ℤ x → ⊥
      contradiction t u x f a b e =
          let expand : (u +ℤ pos 1) *ℤ x ≡ (u *ℤ x) +ℤ x = simp ring (omega (arith, ints)) in
          let expand' : (t +ℤ pos 1) *ℤ x ≡ (t *ℤ x) +ℤ x = simp ring (omega (arith, ints)) in
          let positive : pos 0 <ℤ x = omega (arith, ints) in
          let same : t ≡ u = between u t x f a b (omega (arith, ints)) (omega (arith, ints)) in
          let e' : t *ℤ x ≡ u *ℤ x = ap (λ z. z *ℤ x) same in
          omega (arith, ints)

  whole_or_fraction : (f : ℕ) (u : ℤ) → AllWhole system forms above members → FirstFraction system forms above members f u → ⊥
  whole_or_fraction f u a b = fraction_or_whole (form_at forms f) b.scale b.v u b.low b.high
      (whole_moves (form_at forms f) a.scale b.scale a.v b.v a.point a.zeros b.point b.zeros (a.whole f b.within))

  not_earlier : (f f' : ℕ) (u u' : ℤ) → FirstFraction system forms above members f u → FirstFraction system forms above members f' u' → f < f' → ⊥
  not_earlier f f' u u' a b lt = fraction_or_whole (form_at forms f) a.scale a.v u a.low a.high (whole_moves (form_at forms f) b.scale a.scale b.v a.v b.point b.zeros a.point a.zeros (b.before f lt))

  same_form : (f f' : ℕ) (u u' : ℤ) → FirstFraction system forms above members f u → FirstFraction system forms above members f' u' → f ≡ f'
  same_form f f' u u' a b = go (cases_lt f f') (cases_lt f' f)
    where
      go : (f < f') ⊎ (f' ≤ f) → (f' < f) ⊎ (f ≤ f') → f ≡ f'
      go (inl lt) _ = absurd (not_earlier f f' u u' a b lt)
      go (inr ge) (inl lt) = absurd (not_earlier f' f u' u b a lt)
      go (inr ge) (inr le) = omega arith

  same_floor : (f : ℕ) (u u' : ℤ) → FirstFraction system forms above members f u → FirstFraction system forms above members f u' → u ≡ u'
  same_floor f u u' a b = between u' u ((form_at forms f).scale *ℤ b.scale) (scaled_value system (form_at forms f) b.v) b.low b.high
      (weaken (low_moves (form_at forms f) a.scale b.scale a.v b.v u a.point a.zeros b.point b.zeros a.low))
      (high_moves (form_at forms f) a.scale b.scale a.v b.v (u +ℤ pos 1) a.point a.zeros b.point b.zeros a.high)
    where
      weaken : {a b : ℤ} → a <ℤ b → a ≤ℤ b
      weaken h = omega (arith, ints)

-- ---- the kinds of a node

pub data Node : Type 0 where
  is_wide : WideAt → Node
  is_refuted : List ℕ → List ℕ → ℕ → Relation → Node
  is_whole : List ℕ → Node
  is_split : List ℕ → ℕ → ℤ → Node

abbrev pub IsNode : LinearSystem → List Form → List SplitSide → Node → Type 0
IsNode system forms above (is_wide w) = DescentFromStart (node_system system forms above) (wide w)
IsNode system forms above (is_refuted members fixed i k) =
    DescentFromStart (node_system system forms above) (refuted members i fixed)
    × DictionaryRow (node_system system forms above) members (row_variable (node_system system forms above) i) k
IsNode system forms above (is_whole members) = DescentFromStart (node_system system forms above) (point members) × AllWhole system forms above members
IsNode system forms above (is_split members f u) = DescentFromStart (node_system system forms above) (point members) × FirstFraction system forms above members f u

pub point_free : (system : LinearSystem) (members : List ℕ) → DescentFromStart system (point members) → IsFree system members
point_free system members d = (descent_has system (column_set system) [] (length system.rows) 0 (point members) d (columns_have system)).free

module _ (system : LinearSystem) (forms : List Form) (above : List SplitSide) where
  one : (o o' : Outcome) → DescentFromStart (node_system system forms above) o → DescentFromStart (node_system system forms above) o' → o ≡ o'
  one o o' d d' = same_outcome (node_system system forms above) (column_set (node_system system forms above)) [] (length (node_system system forms above).rows) 0 o o' d d'

  pub same_node : (a b : Node) → IsNode system forms above a → IsNode system forms above b → a ≡ b
  same_node (is_wide w) (is_wide w') d d' = let e = one (wide w) (wide w') d d' in let e' : w ≡ w' = cc in cc
  same_node (is_wide w) (is_refuted members fixed i k) d (d', row) = let e = one _ _ d d' in cc
  same_node (is_wide w) (is_whole members) d (d', all) = let e = one _ _ d d' in cc
  same_node (is_wide w) (is_split members f u) d (d', first) = let e = one _ _ d d' in cc
  same_node (is_refuted members fixed i k) (is_wide w) (d, row) d' = let e = one _ _ d d' in cc
  same_node (is_refuted members fixed i k) (is_refuted members' fixed' i' k') (d, row) (d', row') =
      let e = one (refuted members i fixed) (refuted members' i' fixed') d d' in
      let em : members ≡ members' = cc in
      let ei : i ≡ i' = cc in
      let ef : fixed ≡ fixed' = cc in
      let ek : k ≡ k' = same_relation (node_system system forms above) members' (row_variable (node_system system forms above) i') k k'
      (subst (λ m. DictionaryRow (node_system system forms above) m (row_variable (node_system system forms above) i') k) em
      (subst (λ x. DictionaryRow (node_system system forms above) members (row_variable (node_system system forms above) x) k) ei row)) row' in
      cc
  same_node (is_refuted members fixed i k) (is_whole members') (d, row) (d', all) = let e = one _ _ d d' in cc
  same_node (is_refuted members fixed i k) (is_split members' f u) (d, row) (d', first) = let e = one _ _ d d' in cc
  same_node (is_whole members) (is_wide w) (d, all) d' = let e = one _ _ d d' in cc
  same_node (is_whole members) (is_refuted members' fixed i k) (d, all) (d', row) = let e = one _ _ d d' in cc
  same_node (is_whole members) (is_whole members') (d, all) (d', all') = let e = one (point members) (point members') d d' in let em : members ≡ members' = cc in cc
  same_node (is_whole members) (is_split members' f u) (d, all) (d', first) =
      let e = one (point members) (point members') d d' in
      let em : members ≡ members' = cc in
      absurd (whole_or_fraction system forms above members' (point_free (node_system system forms above) members' d') f u (subst (AllWhole system forms above) em all) first)
  same_node (is_split members f u) (is_wide w) (d, first) d' = let e = one _ _ d d' in cc
  same_node (is_split members f u) (is_refuted members' fixed i k) (d, first) (d', row) = let e = one _ _ d d' in cc
  same_node (is_split members f u) (is_whole members') (d, first) (d', all) =
      let e = one (point members) (point members') d d' in
      let em : members ≡ members' = cc in
      absurd (whole_or_fraction system forms above members' (point_free (node_system system forms above) members' d') f u all (subst (λ m. FirstFraction system forms above m f u) em first))
  same_node (is_split members f u) (is_split members' f' u') (d, first) (d', first') =
      let e = one (point members) (point members') d d' in
      let em : members ≡ members' = cc in
      let free = point_free (node_system system forms above) members' d' in
      let a = subst (λ m. FirstFraction system forms above m f u) em first in
      let ef : f ≡ f' = same_form system forms above members' free f f' u u' a first' in
      let eu : u ≡ u' = same_floor system forms above members' free f' u u' (subst (λ x. FirstFraction system forms above members' x u) ef a) first' in
      cc

-- ---- one outcome

record LowEnds (system : LinearSystem) (forms : List Form) (above : List SplitSide) (f : ℕ) (u : ℤ) (o : BranchOutcome) : Type 0 where
  pub low : BranchFrom system forms (above ++ low_side f u ∷ []) o
  pub end : IsEnd o

record HighEnds (system : LinearSystem) (forms : List Form) (above : List SplitSide) (f : ℕ) (u : ℤ) (o : BranchOutcome) : Type 0 where
  pub refuted_low : SplitTree
  pub low : BranchFrom system forms (above ++ low_side f u ∷ []) (tree refuted_low)
  pub high : BranchFrom system forms (above ++ high_side f u ∷ []) o
  pub end : IsEnd o

record BothRefuted (system : LinearSystem) (forms : List Form) (above : List SplitSide) (f : ℕ) (u : ℤ) (o : BranchOutcome) : Type 0 where
  pub refuted_low : SplitTree
  pub refuted_high : SplitTree
  pub low : BranchFrom system forms (above ++ low_side f u ∷ []) (tree refuted_low)
  pub high : BranchFrom system forms (above ++ high_side f u ∷ []) (tree refuted_high)
  pub is : o ≡ tree (split f u refuted_low refuted_high)

abbrev Unfolded : LinearSystem → List Form → List SplitSide → BranchOutcome → Node → Type 0
Unfolded system forms above o (is_wide w) = o ≡ stopped above w
Unfolded system forms above o (is_refuted members fixed i k) = o ≡ tree (leaf (weights_from (multiplier_of (node_system system forms above) k i) 0 (length (node_system system forms above).rows)))
Unfolded system forms above o (is_whole members) = o ≡ found members above
Unfolded system forms above o (is_split members f u) = LowEnds system forms above f u o ⊎ (HighEnds system forms above f u o ⊎ BothRefuted system forms above f u o)

unfolded : (system : LinearSystem) (forms : List Form) (above : List SplitSide) (o : BranchOutcome) (node : Node) → IsNode system forms above node
    → BranchFrom system forms above o → Unfolded system forms above o node
unfolded system forms above o node is (passes w d) = subst (Unfolded system forms above (stopped above w)) (same_node system forms above (is_wide w) node d is) refl
unfolded system forms above o node is (refutes members fixed i k d row) = subst
    (Unfolded system forms above (tree (leaf (weights_from (multiplier_of (node_system system forms above) k i) 0 (length (node_system system forms above).rows)))))
    (same_node system forms above (is_refuted members fixed i k) node (d, row) is) refl
unfolded system forms above o node is (whole members d all) = subst (Unfolded system forms above (found members above)) (same_node system forms above (is_whole members) node (d, all) is) refl
unfolded system forms above o node is (low_ends members f u d first low end) =
    subst (Unfolded system forms above o) (same_node system forms above (is_split members f u) node (d, first) is) (inl (record { low = low; end = end }))
unfolded system forms above o node is (high_ends members f u t d first low high end) =
    subst (Unfolded system forms above o) (same_node system forms above (is_split members f u) node (d, first) is)
    (inr (inl (record { refuted_low = t; low = low; high = high; end = end })))
unfolded system forms above o node is (both_refuted members f u t t' d first low high) = subst (Unfolded system forms above (tree (split f u t t')))
    (same_node system forms above (is_split members f u) node (d, first) is)
    (inr (inr (record { refuted_low = t; refuted_high = t'; low = low; high = high; is = refl })))

no_tree : (t : SplitTree) (o : BranchOutcome) → o ≡ tree t → IsEnd o → ⊥
no_tree t (found members above) e end = cc
no_tree t (tree t') e end = end
no_tree t (stopped above w) e end = cc

pub same_branch : (system : LinearSystem) (forms : List Form) (above : List SplitSide) (o o' : BranchOutcome) → BranchFrom system forms above o → BranchFrom system forms above o' → o ≡ o'
same_branch system forms above o o' (passes w d) b = sym (unfolded system forms above o' (is_wide w) d b)
same_branch system forms above o o' (refutes members fixed i k d row) b = sym (unfolded system forms above o' (is_refuted members fixed i k) (d, row) b)
same_branch system forms above o o' (whole members d all) b = sym (unfolded system forms above o' (is_whole members) (d, all) b)
same_branch system forms above o o' (low_ends members f u d first low end) b =
    go (unfolded system forms above o' (is_split members f u) (d, first) b) (λ x e. same_branch system forms (above ++ low_side f u ∷ []) o x low e)
  where
    go : LowEnds system forms above f u o' ⊎ (HighEnds system forms above f u o' ⊎ BothRefuted system forms above f u o')
        → ((x : BranchOutcome) → BranchFrom system forms (above ++ low_side f u ∷ []) x → o ≡ x) → o ≡ o'
    go (inl l) ih = ih o' l.low
    go (inr (inl h)) ih = absurd (no_tree h.refuted_low o (ih (tree h.refuted_low) h.low) end)
    go (inr (inr r)) ih = absurd (no_tree r.refuted_low o (ih (tree r.refuted_low) r.low) end)
same_branch system forms above o o' (high_ends members f u t d first low high end) b = go (unfolded system forms above o' (is_split members f u) (d, first) b)
    (λ x e. same_branch system forms (above ++ low_side f u ∷ []) (tree t) x low e) (λ x e. same_branch system forms (above ++ high_side f u ∷ []) o x high e)
  where
    go : LowEnds system forms above f u o' ⊎ (HighEnds system forms above f u o' ⊎ BothRefuted system forms above f u o')
        → ((x : BranchOutcome) → BranchFrom system forms (above ++ low_side f u ∷ []) x → tree t ≡ x)
        → ((x : BranchOutcome) → BranchFrom system forms (above ++ high_side f u ∷ []) x → o ≡ x) → o ≡ o'
    go (inl l) ih ih' = absurd (no_tree t o' (sym (ih o' l.low)) l.end)
    go (inr (inl h)) ih ih' = ih' o' h.high
    go (inr (inr r)) ih ih' = absurd (no_tree r.refuted_high o (ih' (tree r.refuted_high) r.high) end)
same_branch system forms above o o' (both_refuted members f u t t' d first low high) b = go (unfolded system forms above o' (is_split members f u) (d, first) b)
    (λ x e. same_branch system forms (above ++ low_side f u ∷ []) (tree t) x low e) (λ x e. same_branch system forms (above ++ high_side f u ∷ []) (tree t') x high e)
  where
    go : LowEnds system forms above f u o' ⊎ (HighEnds system forms above f u o' ⊎ BothRefuted system forms above f u o')
        → ((x : BranchOutcome) → BranchFrom system forms (above ++ low_side f u ∷ []) x → tree t ≡ x)
        → ((x : BranchOutcome) → BranchFrom system forms (above ++ high_side f u ∷ []) x → tree t' ≡ x) → tree (split f u t t') ≡ o'
    go (inl l) ih ih' = absurd (no_tree t o' (sym (ih o' l.low)) l.end)
    go (inr (inl h)) ih ih' = absurd (no_tree t' o' (sym (ih' o' h.high)) h.end)
    go (inr (inr r)) ih ih' = let e = ih (tree r.refuted_low) r.low in let e' = ih' (tree r.refuted_high) r.high in let is = r.is in cc
