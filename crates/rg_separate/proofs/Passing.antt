-- What a branching and a fold show where a number passes.
use Rattle.std.proofs.Common.{◌≡◌, ℕ, List, [], Err, refl, subst}
use Rattle.std.specs.Prelude.{ℤ}
use Rattle.rg_integers.specs.declared.term.Wide.{Wide}
use Rattle.rg_linear.specs.Branching.{SplitSide, Branching, BranchOutcome.stopped}
use Rattle.rg_case_folds.specs.Rewriting.{system_fold}
use Rattle.rg_case_folds.specs.Shown.{CycleShown, RowShown, PivotShown, named_sides}
use Rattle.rg_case_folds.specs.Chords.{chord_vectors}
use Rattle.rg_theory.specs.declared.Arc.{Arc}
use Rattle.rg_theory.specs.System.{System, labels}
use Rattle.rg_theory.specs.Tree.{IsTree}
use Rattle.rg_linear.specs.Descent.{WideAt}
use Rattle.rg_outcome.specs.Casing.{term_at, CaseResult.passes, CaseComes, CaseComes.pivot_passes}
use Rattle.rg_cycles.specs.declared.stop.CycleWide.{CycleWide}
use Rattle.rg_cycles.specs.Refusal.{PassesAt, shown_term}
use Rattle.rg_cycles.specs.View.{cycle_of}
use Rattle.rg_feasible.specs.declared.settled.PivotWide.{PivotWide}
use Rattle.rg_feasible.specs.Settling.{wide_at}
use Rattle.rg_rows.specs.Shared.{NamedRows}
use Rattle.rg_cert_data.specs.declared.wide_at.Stage.TheVariants.{Row}
use Rattle.rg_case_parts.specs.SettingViews.{shown_case}
use Rattle.rg_case_parts.specs.declared.setting.CaseSetting.{CaseSetting}
use Rattle.rg_separate.specs.Casing.{IsCase, IsNamedSystem, forms_in}
use Rattle.rg_separate.specs.Passing.{passed_at, pivot_at, cycle_passed}

-- the term that an exchange of the case's descent shows
pub pivot_shown : (c : CaseSetting) (named : NamedRows) (sides : List SplitSide) (members : List ℕ) (at : PivotWide) → IsCase c → IsNamedSystem c named
    → Branching named.system (forms_in named) (stopped sides (wide_at members at))
    → PivotShown c.setting.lts.now c.setting.class (pivot_at c (named_sides c.setting.lts.now c.setting.class c.problem sides) members at)
pivot_shown c named sides members at is system stops = record {
  case = system.case;
  of_case = record {
    arcs = c.setting.tree.now.arcs;
    basis = cycle_of c.setting.basis.now;
    problem = c.problem;
    is_tree = is.setting.tree.tree;
    is_basis = is.setting.basis;
    stands = record { problem_is = refl; has = is.has; live = is.live; case_below = is.below };
    is_case = system.made;
  };
  sides = sides;
  at = wide_at members at;
  stops = subst (λ s. Branching s system.case.forms (stopped sides (wide_at members at))) system.shows.system
      (subst (λ fs. Branching named.system fs (stopped sides (wide_at members at))) system.shows.forms stops);
  above_is = refl;
  stands = record { members = refl; pivot = refl; leaves = refl; target = refl; entry = refl; wide = refl };
}

-- the case comes to that term
pub pivot_comes : (c : CaseSetting) (named : NamedRows) (sides : List SplitSide) (at : WideAt) → (system : IsNamedSystem c named)
    → Branching named.system (forms_in named) (stopped sides at)
    → CaseComes (shown_case c) (passes (term_at c.problem c.number (named_sides c.setting.lts.now c.setting.class c.problem sides) at))
pivot_comes c named sides at system stops = pivot_passes system.case sides at system.made
    (subst (λ s. Branching s system.case.forms (stopped sides at)) system.shows.system
    (subst (λ fs. Branching named.system fs (stopped sides at)) system.shows.forms stops))

-- the step that the rows of the case show
pub row_shown : (c : CaseSetting) (w : Wide) → IsCase c → system_fold (shown_case c) (Err w) → RowShown c.setting.lts.now c.setting.class (passed_at Row c [] w)
row_shown c w is fails = record {
  arcs = c.setting.tree.now.arcs;
  basis = cycle_of c.setting.basis.now;
  problem = c.problem;
  is_tree = is.setting.tree.tree;
  is_basis = is.setting.basis;
  stands = record { problem_is = refl; has = is.has; live = is.live; case_below = is.below };
  nowhere = record { members = refl; pivot = refl; leaves = refl; target = refl; entry = refl };
  no_split = refl;
  passes = fails;
}

-- the term that the walk over the chords shows
pub cycle_shown : (lts : System) (tree : List Arc) (vectors : List (List ℤ)) (n : ℕ) (w : CycleWide) → IsTree lts tree
    → vectors ≡ chord_vectors lts tree → n ≡ labels lts → PassesAt n vectors (shown_term w) → CycleShown lts (cycle_passed w)
cycle_shown lts tree vectors n w is are count fails =
    let at : PassesAt (labels lts) (chord_vectors lts tree) (shown_term w) =
    subst (λ k. PassesAt k (chord_vectors lts tree) (shown_term w)) count (subst (λ vs. PassesAt n vs (shown_term w)) are fails) in
    record {
      arcs = tree;
      kept = at.kept;
      at = shown_term w;
      is_tree = is;
      chords = at.keeps;
      stops = at.walk;
      stands = record { members = refl; pivot = refl; leaves = refl; target = refl; entry = refl; wide = refl };
      no_problem = refl;
      no_case = refl;
      no_split = refl;
    }
