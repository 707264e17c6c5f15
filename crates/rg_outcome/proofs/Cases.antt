-- A case comes to one result.
use Rattle.std.proofs.Common.{◌≡◌, ◌⊎◌, inl, inr, ℕ, List, [], ◌∷◌, ◌++◌, Result, Ok, Err, refl, sym, ap, subst, ◌∙◌}
use Rattle.rg_theory.specs.Net.{Place}
use Rattle.rg_cert_meaning.specs.Refutes.{Tree}
use Rattle.rg_integers.specs.declared.term.Wide.{Wide}
use Rattle.rg_linear.specs.Branching.{SplitTree, SplitSide, node_system, Branching, BranchOutcome, BranchOutcome.found, BranchOutcome.tree, BranchOutcome.stopped}
use Rattle.rg_branch_trees.specs.Trees.{Tree.leaf, Tree.split, low_side, high_side}
use Rattle.rg_linear.proofs.Branches.{same_branch}
use Rattle.rg_case_folds.specs.Setting.{CaseSetting}
use Rattle.rg_folds.specs.Fold.{Ratio}
use Rattle.rg_case_folds.specs.Rewriting.{CaseSystem, rows_of, system_fold}
use Rattle.rg_case_folds.specs.Placing.{place_fold}
use Rattle.rg_case_folds.specs.Shown.{Stage, PointOf, named_side, named_sides}
use Rattle.rg_folds.proofs.FoldLemmas.{ok_is, err_is, ok_not_err}
use Rattle.rg_case_folds.proofs.OneResult.{system_one, place_one, spread_one}
use Rattle.rg_outcome.proofs.PointLemmas.{one_start, one_value, one_place}
use Rattle.rg_outcome.specs.Casing.{CaseResult, CaseResult.makes, CaseResult.refutes, CaseResult.passes, LeafWide, spread_tree, step_at, term_at, CaseComes, CaseComes.row_passes, CaseComes.pivot_passes, CaseComes.place_passes, CaseComes.place_is_made, CaseComes.leaf_passes, CaseComes.is_refuted}

-- ---- the leaves of a tree

same_leaf_wide : (at at' : LeafWide) → at.above ≡ at'.above → at.wide ≡ at'.wide → at ≡ at'
same_leaf_wide at at' e f = λ i. record { above = e i; wide = f i }

abbrev SameTree : Result Tree LeafWide → Result Tree LeafWide → Type 0
SameTree r r' = r ≡ r'

tree_ok : (t t' : Tree) → SameTree (Ok t) (Ok t') → t ≡ t'
tree_ok t t' e = cc

tree_err : (at at' : LeafWide) → SameTree (Err at) (Err at') → at ≡ at'
tree_err at at' e = cc

tree_ok_not_err : (t : Tree) (at : LeafWide) → SameTree (Ok t) (Err at) → ⊥
tree_ok_not_err t at e = cc

module _ (s : CaseSetting) (case : CaseSystem) where
  pub same_tree : (above : List SplitSide) (t : SplitTree) (r r' : Result Tree LeafWide) → spread_tree s case above t r → spread_tree s case above t r' → r ≡ r'
  same_tree above (leaf weights) (Ok t) (Ok t') (rows, made, e) (rows', made', e') =
      let same : rows ≡ rows' = ok_is rows rows' ((spread_one s case above (named_sides s.lts s.class s.problem above) weights).one (Ok rows) (Ok rows') made made') in
      ap Ok (e ∙ ap leaf same ∙ sym e')
  same_tree above (leaf weights) (Ok t) (Err at) (rows, made, e) (e', err) =
      absurd (ok_not_err rows at.wide ((spread_one s case above (named_sides s.lts s.class s.problem above) weights).one (Ok rows) (Err at.wide) made err))
  same_tree above (leaf weights) (Err at) (Ok t) (e, err) (rows, made, e') =
      absurd (ok_not_err rows at.wide ((spread_one s case above (named_sides s.lts s.class s.problem above) weights).one (Ok rows) (Err at.wide) made err))
  same_tree above (leaf weights) (Err at) (Err at') (e, err) (e', err') =
      ap Err (same_leaf_wide at at' (e ∙ sym e') (err_is at.wide at'.wide ((spread_one s case above (named_sides s.lts s.class s.problem above) weights).one (Err at.wide) (Err at'.wide) err err')))
  same_tree above (split f u low high) (Ok t) (Ok t') (l, h, is_l, is_h, e) (l', h', is_l', is_h', e') =
      let el : l ≡ l' = tree_ok l l' (same_tree (above ++ low_side f u ∷ []) low (Ok l) (Ok l') is_l is_l') in
      let eh : h ≡ h' = tree_ok h h' (same_tree (above ++ high_side f u ∷ []) high (Ok h) (Ok h') is_h is_h') in
      ap Ok (e ∙ ap (λ x. split (named_side s.lts s.class s.problem (low_side f u)).form u x h) el ∙ ap (λ x. split (named_side s.lts s.class s.problem (low_side f u)).form u l' x) eh ∙ sym e')
  same_tree above (split f u low high) (Ok t) (Err at) (l, h, is_l, is_h, e) (inl err) = absurd (tree_ok_not_err l at (same_tree (above ++ low_side f u ∷ []) low (Ok l) (Err at) is_l err))
  same_tree above (split f u low high) (Ok t) (Err at) (l, h, is_l, is_h, e) (inr (l', is_l', err)) =
      absurd (tree_ok_not_err h at (same_tree (above ++ high_side f u ∷ []) high (Ok h) (Err at) is_h err))
  same_tree above (split f u low high) (Err at) (Ok t) (inl err) (l, h, is_l, is_h, e) = absurd (tree_ok_not_err l at (same_tree (above ++ low_side f u ∷ []) low (Ok l) (Err at) is_l err))
  same_tree above (split f u low high) (Err at) (Ok t) (inr (l', is_l', err)) (l, h, is_l, is_h, e) =
      absurd (tree_ok_not_err h at (same_tree (above ++ high_side f u ∷ []) high (Ok h) (Err at) is_h err))
  same_tree above (split f u low high) (Err at) (Err at') (inl err) (inl err') = same_tree (above ++ low_side f u ∷ []) low (Err at) (Err at') err err'
  same_tree above (split f u low high) (Err at) (Err at') (inl err) (inr (l, is_l, err')) = absurd (tree_ok_not_err l at (same_tree (above ++ low_side f u ∷ []) low (Ok l) (Err at) is_l err))
  same_tree above (split f u low high) (Err at) (Err at') (inr (l, is_l, err)) (inl err') = absurd (tree_ok_not_err l at' (same_tree (above ++ low_side f u ∷ []) low (Ok l) (Err at') is_l err'))
  same_tree above (split f u low high) (Err at) (Err at') (inr (l, is_l, err)) (inr (l', is_l', err')) = same_tree (above ++ high_side f u ∷ []) high (Err at) (Err at') err err'

-- ---- a case

-- what the place, or the leaves, of a case come to
abbrev placing : CaseSetting → List SplitSide → Result Place Wide → CaseResult
placing s sides (Ok p) = makes p
placing s sides (Err w) = passes (step_at Stage.place s.problem s.number (named_sides s.lts s.class s.problem sides) w)

abbrev leaving : CaseSetting → Result Tree LeafWide → CaseResult
leaving s (Ok t) = refutes t
leaving s (Err at) = passes (step_at Stage.spread s.problem s.number (named_sides s.lts s.class s.problem at.above) at.wide)

-- what follows where a branching ends in this way
abbrev EndsIn : CaseSetting → CaseSystem → BranchOutcome → CaseResult → Type 0
EndsIn s case (stopped sides at) r = r ≡ passes (term_at s.problem s.number (named_sides s.lts s.class s.problem sides) at)
EndsIn s case (found members sides) r =
    (start : Ratio) × (value : ℕ → Ratio) × (made : Result Place Wide) × PointOf s.lts s.basis s.class (node_system (rows_of case) case.forms sides) members start value
    × place_fold s.setting s.problem start value made × (r ≡ placing s sides made)
EndsIn s case (tree multipliers) r =
    (made : Result Tree LeafWide) × spread_tree s case [] multipliers made × (r ≡ leaving s made)

record Stops (s : CaseSetting) (r : CaseResult) : Type 0 where
  pub w : Wide
  pub passes_at : system_fold s (Err w)
  pub is : r ≡ passes (step_at Stage.row s.problem s.number [] w)

record GoesOn (s : CaseSetting) (r : CaseResult) : Type 0 where
  pub case : CaseSystem
  pub made : system_fold s (Ok case)
  pub outcome : BranchOutcome
  pub branching : Branching (rows_of case) case.forms outcome
  pub ends : EndsIn s case outcome r

module _ (it : CaseSetting) where
  unfolded : (r : CaseResult) → CaseComes it r → Stops it r ⊎ GoesOn it r
  unfolded r (row_passes w is) = inl (record { w = w; passes_at = is; is = refl })
  unfolded r (pivot_passes case sides at made b) = inr (record { case = case; made = made; outcome = stopped sides at; branching = b; ends = refl })
  unfolded r (place_passes case members sides start value w made b point is) =
      inr (record { case = case; made = made; outcome = found members sides; branching = b; ends = (start, value, Err w, point, is, refl) })
  unfolded r (place_is_made case members sides start value p made b point is) =
      inr (record { case = case; made = made; outcome = found members sides; branching = b; ends = (start, value, Ok p, point, is, refl) })
  unfolded r (leaf_passes case multipliers at made b is) = inr (record { case = case; made = made; outcome = tree multipliers; branching = b; ends = (Err at, is, refl) })
  unfolded r (is_refuted case multipliers t made b is) = inr (record { case = case; made = made; outcome = tree multipliers; branching = b; ends = (Ok t, is, refl) })

  same_end : (case : CaseSystem) (o : BranchOutcome) (r r' : CaseResult) → EndsIn it case o r → EndsIn it case o r' → r ≡ r'
  same_end case (stopped sides at) r r' e e' = e ∙ sym e'
  same_end case (found members sides) r r' (start, value, made, point, is, e) (start', value', made', point', is', e') =
      let node = node_system (rows_of case) case.forms sides in
      let starts : start' ≡ start = one_start it.lts it.basis it.class node members start' start value' value point' point in
      let from_start : place_fold it.setting it.problem start value' made' = subst (λ (s : Ratio). place_fold it.setting it.problem s value' made') starts is' in
      let from_value = one_place it.setting it.problem start value' value (one_value it.lts it.basis it.class node members start' start value' value point' point) made' from_start in
      let one : made ≡ made' = (place_one it.setting it.problem start value).one made made' is from_value in
      e ∙ ap (placing it sides) one ∙ sym e'
  same_end case (tree multipliers) r r' (made, is, e) (made', is', e') =
      e ∙ ap (leaving it) (same_tree it case [] multipliers made made' is is') ∙ sym e'

  pub same_result : (r r' : CaseResult) → CaseComes it r → CaseComes it r' → r ≡ r'
  same_result r r' c c' = go (unfolded r c) (unfolded r' c')
    where
      go : Stops it r ⊎ GoesOn it r → Stops it r' ⊎ GoesOn it r' → r ≡ r'
      go (inl a) (inl b) = a.is ∙ ap (λ w. passes (step_at Stage.row it.problem it.number [] w)) (err_is a.w b.w ((system_one it).one (Err a.w) (Err b.w) a.passes_at b.passes_at)) ∙ sym b.is
      go (inl a) (inr b) = absurd (ok_not_err b.case a.w ((system_one it).one (Ok b.case) (Err a.w) b.made a.passes_at))
      go (inr a) (inl b) = absurd (ok_not_err a.case b.w ((system_one it).one (Ok a.case) (Err b.w) a.made b.passes_at))
      go (inr a) (inr b) =
          let same : a.case ≡ b.case = ok_is a.case b.case ((system_one it).one (Ok a.case) (Ok b.case) a.made b.made) in
          let branching' : Branching (rows_of b.case) b.case.forms a.outcome = subst (λ (x : CaseSystem). Branching (rows_of x) x.forms a.outcome) same a.branching in
          let outcomes : a.outcome ≡ b.outcome = same_branch (rows_of b.case) b.case.forms [] a.outcome b.outcome branching' b.branching in
          let ends' = subst (λ o. EndsIn it b.case o r) outcomes (subst (λ (x : CaseSystem). EndsIn it x a.outcome r) same a.ends) in
          same_end b.case b.outcome r r' ends' b.ends
