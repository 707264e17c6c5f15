-- The four numbers shown are fixed by the stage, the problem and the case.
use Rattle.std.proofs.Common.{◌≡◌, [], ◌∷◌, Err, ap, subst, sym, ◌∙◌}
use Rattle.std.proofs.lemmas.Option.{same_Some}
use Rattle.rg_theory.specs.declared.Class.{Class}
use Rattle.rg_theory.specs.System.{System, labels}
use Rattle.rg_linear.specs.Dictionary.{column_set}
use Rattle.rg_linear.specs.Descent.{WideAt}
use Rattle.rg_linear.specs.Cycle.{CycleOutcome.too_wide, CycleWalk}
use Rattle.rg_linear.proofs.Cycles.{same_cycle}
use Rattle.rg_case_folds.specs.Setting.{CaseSetting, setting_at, case_at}
use Rattle.rg_case_folds.specs.Chords.{KeepsChords, chord_vectors, chord_system, IsBasis}
use Rattle.rg_case_folds.specs.Rewriting.{system_fold}
use Rattle.rg_case_folds.specs.Shown.{Shown, CycleShown, RowShown}
use Rattle.rg_theory.proofs.Trees.{same_tree}
use Rattle.rg_linear.proofs.Bases.{kept_is_one, cycle_basis_is_one}
use Rattle.rg_folds.proofs.FoldLemmas.{err_is}
use Rattle.rg_case_folds.proofs.OneResult.{system_one}

same_stop : (at at' : WideAt) → too_wide at ≡ too_wide at' → at ≡ at'
same_stop at at' e = cc

pub cycle_is_one : (lts : System) (w w' : Shown) → CycleShown lts w → CycleShown lts w' → w.wide ≡ w'.wide
cycle_is_one lts w w' h h' =
    let arcs : h.arcs ≡ h'.arcs = same_tree lts (lts.initial ∷ []) h.arcs h'.arcs h.is_tree h'.is_tree in
    let keeps' : KeepsChords lts h.arcs h'.kept = subst (λ a. KeepsChords lts a h'.kept) (sym arcs) h'.chords in
    let kept : h.kept ≡ h'.kept = kept_is_one (chord_vectors lts h.arcs) h.kept h'.kept h.chords keeps' in
    let stops' : CycleWalk (chord_system lts h.arcs h.kept) (too_wide h'.at) =
    subst (λ k. CycleWalk (chord_system lts h.arcs k) (too_wide h'.at)) (sym kept)
    (subst (λ a. CycleWalk (chord_system lts a h'.kept) (too_wide h'.at)) (sym arcs) h'.stops) in
    let at = same_stop h.at h'.at (same_cycle (chord_system lts h.arcs h.kept) (column_set (chord_system lts h.arcs h.kept)) 0 (too_wide h.at) (too_wide h'.at) h.stops stops') in
    h.stands.wide ∙ ap (λ (x : WideAt). x.term) at ∙ sym h'.stands.wide

pub row_is_one : (lts : System) (class : Class) (w w' : Shown) → RowShown lts class w → RowShown lts class w' → w.problem ≡ w'.problem → w.case_number ≡ w'.case_number → w.wide ≡ w'.wide
row_is_one lts class w w' h h' problems cases =
    let arcs : h.arcs ≡ h'.arcs = same_tree lts (lts.initial ∷ []) h.arcs h'.arcs h.is_tree h'.is_tree in
    let is' : IsBasis lts h.arcs h'.basis = subst (λ a. IsBasis lts a h'.basis) (sym arcs) h'.is_basis in
    let basis : h.basis ≡ h'.basis = cycle_basis_is_one (labels lts) (chord_vectors lts h.arcs) h.basis h'.basis h.is_basis is' in
    let problem : h.problem ≡ h'.problem = same_Some h.problem h'.problem (sym h.stands.problem_is ∙ problems ∙ h'.stands.problem_is) in
    let s : CaseSetting = case_at (setting_at lts h.arcs h.basis class) h.problem w.case_number in
    let s' : CaseSetting = case_at (setting_at lts h'.arcs h'.basis class) h'.problem w'.case_number in
    let same : s ≡ s' = λ i. case_at (setting_at lts (arcs i) (basis i) class) (problem i) (cases i) in
    err_is w.wide w'.wide ((system_one s).one (Err w.wide) (Err w'.wide) h.passes (subst (λ x. system_fold x (Err w'.wide)) (sym same) h'.passes))
