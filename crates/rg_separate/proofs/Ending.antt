-- How the search for places ends.
use Rattle.std.proofs.Common.{◌≡◌, List, Option, None, Some, refl, sym, ap, subst}
use Rattle.rg_theory.specs.System.{System}
use Rattle.rg_theory.specs.Net.{Place}
use Rattle.rg_theory.specs.declared.Class.{Class}
use Rattle.rg_theory.specs.declared.Problem.{Problem}
use Rattle.rg_theory.specs.Problem.{IsProblem}
use Rattle.rg_cert_meaning.specs.Refutes.{Tree}
use Rattle.rg_net.specs.Shown.{shown_place}
use Rattle.rg_case_folds.specs.Shown.{Shown, CycleShown}
use Rattle.rg_marks.specs.declared.region_place.RegionPlace.{RegionPlace}
use Rattle.rg_cycles.specs.declared.stop.CycleWide.{CycleWide}
use Rattle.rg_cycles.specs.View.{cycle_of}
use Rattle.rg_cert_data.specs.declared.certificate.Reason.{Reason}
use Rattle.rg_cert_data.specs.declared.wide_at.WideAt.{WideAt}
use Rattle.rg_outcome.specs.Solving as solved
use Rattle.rg_outcome.specs.Solving.{Solved, Solved.placed, Solved.passed, ProblemComes}
use Rattle.rg_outcome.specs.Coming as outcome
use Rattle.rg_outcome.specs.Coming.{ComesFrom, Separation.places, Separation.unsolvable, Separation.too_wide}
use Rattle.rg_outcome.specs.Outcome.{SearchedFrom, SearchedFrom.a_cycle, SearchedFrom.all_problems}
use Rattle.rg_outcome.proofs.Solvings.{same_solved}
use Rattle.rg_outcome.proofs.Placed.{placed_separates}
use Rattle.rg_blocks.specs.Separating.{EachPlaceSeparates, ShowsEnd, EndsSearch}
use Rattle.rg_case_parts.specs.declared.setting.Setting.{Setting}
use Rattle.rg_case_parts.specs.SettingViews.{shown_setting}
use Rattle.rg_separate.specs.declared.problem.ProblemAnswer.TheVariants as answer
use Rattle.rg_separate.specs.View.{shown_of}
use Rattle.rg_separate.specs.Passing.{cycle_passed}
use Rattle.rg_separate.specs.Keeping.{IsSetting}
use Rattle.rg_separate.specs.Deciding.{ProblemComesTo}
use Rattle.rg_separate.specs.Answer.{IsSearchedFrom, Ending.places as some_places, Ending.unsolvable as an_unsolvable, Ending.too_wide as a_too_wide}

-- what a problem comes to in a setting
abbrev pub comes_of : Setting → Problem → Solved → Type 0
comes_of s = ProblemComes (shown_setting s)

-- the term of the walk over the chords ends it before any problem
pub cycle_searched : (lts : System) (class : Class) (known : List Place) (at : WideAt) (w : CycleWide) → shown_of at ≡ cycle_passed w → CycleShown lts (cycle_passed w)
    → IsSearchedFrom lts class known (a_too_wide at)
cycle_searched lts class known at w same shown = record { o = too_wide (cycle_passed w); searched = a_cycle (cycle_passed w) refl shown; shows = ap too_wide (sym same) }

same_trees : (a b : List Tree) → solved.Solved.refuted a ≡ solved.Solved.refuted b → a ≡ b
same_trees a b e = cc

same_term : (a b : Shown) → passed a ≡ passed b → a ≡ b
same_term a b e = cc

refuted_or_passed : (a : List Tree) (w : Shown) → solved.Solved.refuted a ≡ passed w → ⊥
refuted_or_passed a w e = absurd cc

refuted_or_placed : (a : List Tree) (p : Place) → solved.Solved.refuted a ≡ placed p → ⊥
refuted_or_placed a p e = absurd cc

passed_or_placed : (w : Shown) (p : Place) → passed w ≡ placed p → ⊥
passed_or_placed w p e = absurd cc

pub ends_as : (s : Setting) (before known after : List Place) (end end' : Option Problem) → before ≡ known → end ≡ end'
    → EndsSearch s.lts.now (comes_of s) before after end → EndsSearch s.lts.now (comes_of s) known after end'
ends_as s before known after end end' same is ends =
    subst (λ xs. EndsSearch s.lts.now (comes_of s) xs after end') same (subst (EndsSearch s.lts.now (comes_of s) before after) is ends)

module _ (s : Setting) (is : IsSetting s) where
  pub places_separate : EachPlaceSeparates s.lts.now (comes_of s)
  places_separate = record {
    separate = λ problem p has come.
        (let (m, region, separates) = placed_separates (shown_setting s) is.in_range is.bound is.reachable is.tree.tree is.basis problem p has come in
        (m, region.region, separates));
  }

  module _ (before after : List Place) where
    searched_from : (o : outcome.Separation) → ComesFrom s.lts.now (comes_of s) None before o → SearchedFrom s.lts.now s.class before o
    searched_from o come = all_problems s.tree.now.arcs (cycle_of s.basis.now) o is.tree.tree is.basis come

    abbrev pub Ends : Option Problem → Type 0
    Ends end = EndsSearch s.lts.now (comes_of s) before after end

    -- the places that are kept separate all problems
    separated : (o : outcome.Separation) → ComesFrom s.lts.now (comes_of s) None before o → ShowsEnd s.lts.now (comes_of s) after None o
        → SearchedFrom s.lts.now s.class before (places after)
    separated (places kept) come (same, separate) = subst (λ ps. SearchedFrom s.lts.now s.class before (places ps)) same (searched_from (places kept) come)
    separated (unsolvable problem trees) come shows = absurd shows
    separated (too_wide w) come shows = absurd shows

    pub all_separated : Ends None → IsSearchedFrom s.lts.now s.class before (some_places after)
    all_separated end = record { o = places after; searched = separated end.o end.comes_to end.shows; shows = refl }

    -- the problem that ends the search comes to what its answer says, and to nothing else
    module _ (q : Problem) where
      one : (r r' : Solved) → comes_of s q r → comes_of s q r' → r ≡ r'
      one r r' a b = same_solved (shown_setting s) q r r' a b

      abbrev Shows : outcome.Separation → Type 0
      Shows o = ShowsEnd s.lts.now (comes_of s) after (Some q) o

      has_last : (o : outcome.Separation) → Shows o → IsProblem s.lts.now q
      has_last (places kept) shows = absurd shows
      has_last (unsolvable p trees) (same, has, come) = has
      has_last (too_wide w) (first, come) = first.0.0

      pub ends_has : Ends (Some q) → IsProblem s.lts.now q
      ends_has end = has_last end.o end.shows

      refuted_last : (reason : Reason) (o : outcome.Separation) → ComesFrom s.lts.now (comes_of s) None before o → Shows o → ProblemComesTo s q (answer.Refuted reason)
          → IsSearchedFrom s.lts.now s.class before (an_unsolvable (record { class = s.class; reason = reason }))
      refuted_last reason (places kept) come shows it = absurd shows
      refuted_last reason (unsolvable p trees) come (same, has, mine) (trees', is, it) = record {
        o = unsolvable p trees;
        searched = searched_from (unsolvable p trees) come;
        shows = (
          q,
          trees',
          is,
          (let t = same_trees trees trees' (one (solved.Solved.refuted trees) (solved.Solved.refuted trees') mine it) in λ i. unsolvable (same i) (t i)),
        );
      }
      refuted_last reason (too_wide w) come (first, mine) (trees', is, it) =
          absurd (refuted_or_passed trees' w (one (solved.Solved.refuted trees') (passed w) it mine))

      pub ends_refuted : Ends (Some q) → (reason : Reason) → ProblemComesTo s q (answer.Refuted reason)
          → IsSearchedFrom s.lts.now s.class before (an_unsolvable (record { class = s.class; reason = reason }))
      ends_refuted end reason it = refuted_last reason end.o end.comes_to end.shows it

      wide_last : (at : WideAt) (o : outcome.Separation) → ComesFrom s.lts.now (comes_of s) None before o → Shows o → ProblemComesTo s q (answer.Wide at)
          → IsSearchedFrom s.lts.now s.class before (a_too_wide at)
      wide_last at (places kept) come shows it = absurd shows
      wide_last at (unsolvable p trees) come (same, has, mine) it = absurd (refuted_or_passed trees (shown_of at) (one (solved.Solved.refuted trees) (passed (shown_of at)) mine it))
      wide_last at (too_wide w) come (first, mine) it = record {
        o = too_wide w;
        searched = searched_from (too_wide w) come;
        shows = ap too_wide (same_term w (shown_of at) (one (passed w) (passed (shown_of at)) mine it));
      }

      pub ends_wide : Ends (Some q) → (at : WideAt) → ProblemComesTo s q (answer.Wide at) → IsSearchedFrom s.lts.now s.class before (a_too_wide at)
      ends_wide end at it = wide_last at end.o end.comes_to end.shows it

      not_placed : (r : RegionPlace) (o : outcome.Separation) → Shows o → ProblemComesTo s q (answer.Place r) → ⊥
      not_placed r (places kept) shows it = shows
      not_placed r (unsolvable p trees) (same, has, mine) it =
          refuted_or_placed trees (shown_place r.place) (one (solved.Solved.refuted trees) (placed (shown_place r.place)) mine it)
      not_placed r (too_wide w) (first, mine) it = passed_or_placed w (shown_place r.place) (one (passed w) (placed (shown_place r.place)) mine it)

      pub ends_not_placed : Ends (Some q) → (r : RegionPlace) → ProblemComesTo s q (answer.Place r) → ⊥
      ends_not_placed end r it = not_placed r end.o end.shows it
