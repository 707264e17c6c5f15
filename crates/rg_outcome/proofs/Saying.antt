-- What the answer says of the problems.
use Rattle.std.proofs.Common.{◌≡◌, ◌⊎◌, inl, inr, List, [], ◌∷◌, ◌++◌, All, Option, None, Some, ap, ◌∙◌, subst}
use Rattle.std.proofs.lemmas.List.Elements.{All-push, All-nil}
use Rattle.rg_theory.specs.System.{System}
use Rattle.rg_theory.specs.Net.{Place}
use Rattle.rg_theory.specs.declared.Problem.{Problem}
use Rattle.rg_theory.specs.Problem.{IsProblem, IsSeparatedBy, SeparateAll, ComesBefore}
use Rattle.rg_cert_meaning.specs.Refutes.{Tree}
use Rattle.rg_case_folds.specs.Shown.{Shown}
use Rattle.rg_outcome.specs.Solving.{Solved, Solved.placed, Solved.refuted, Solved.passed}
use Rattle.rg_outcome.specs.Coming.{Separation, Separation.places, Separation.unsolvable, Separation.too_wide, IsSeparated, IsLeft, IsBehind, IsNext, ComesFrom, ComesFrom.keeps, ComesFrom.goes_on, ComesFrom.ends, ComesFrom.all_separated, ComesFrom.one_is_left, AllComeTo, IsOneResult, RefutedStay, IsRefutedIn, IsFirstRefuted, IsMade, Says}
use Rattle.rg_outcome.proofs.Ordering.{cases_order, first_is_one}
use Rattle.rg_theory.proofs.Deciding.{Decided}
use Rattle.rg_outcome.proofs.Decided.{behind_is_decided}

-- the place separates no problem that is refuted
abbrev pub SparesRefuted : System → (Problem → Solved → Type 0) → Place → Type 0
SparesRefuted lts comes p = (problem : Problem) → IsRefutedIn lts comes problem → ¬ IsSeparatedBy lts problem p

-- the places separate no problem that is refuted, and no problem that isn't behind the last one is refuted
pub record IsSparedSoFar (lts : System) (comes : Problem → Solved → Type 0) (last : Option Problem) (kept : List Place) : Type 0 where
  pub spares : All (SparesRefuted lts comes) kept
  pub none : (problem : Problem) → ¬ IsBehind last problem → ¬ IsRefutedIn lts comes problem

-- what an outcome says of the problems that are refuted: this one is the first, or there is none
abbrev pub SaysRefuted : System → (Problem → Solved → Type 0) → Separation → Type 0
SaysRefuted lts comes (unsolvable problem trees) = IsFirstRefuted lts comes problem trees
SaysRefuted lts comes (places kept) = (problem : Problem) → ¬ IsRefutedIn lts comes problem
SaysRefuted lts comes (too_wide w) = (problem : Problem) → ¬ IsRefutedIn lts comes problem

not_refuted_and_placed : (p : Place) (trees : List Tree) → placed p ≡ refuted trees → ⊥
not_refuted_and_placed p trees e = cc

not_refuted_and_passed : (w : Shown) (trees : List Tree) → passed w ≡ refuted trees → ⊥
not_refuted_and_passed w trees e = cc

module _ (lts : System) (comes : Problem → Solved → Type 0) (one : IsOneResult comes) where
  refuted_is_left : (kept : List Place) → All (SparesRefuted lts comes) kept → (problem : Problem) → IsRefutedIn lts comes problem → IsLeft lts kept problem
  refuted_is_left kept spares problem r = (r.0, lacks)
    where
      lacks : ¬ IsSeparated lts kept problem
      lacks (k, p, lt, e, sep) = subst (SparesRefuted lts comes) e (spares k p lt) problem r sep

  -- none of those before the next one is refuted
  none_before : (last : Option Problem) (kept : List Place) (problem : Problem) → IsSparedSoFar lts comes last kept → IsNext lts kept last problem
      → (q : Problem) → ComesBefore q problem → ¬ IsRefutedIn lts comes q
  none_before last kept problem spared next q less r = go (behind_is_decided last q)
    where
      go : Decided (IsBehind last q) → ⊥
      go (inl behind) = next.1 q less (refuted_is_left kept spared.spares q r, behind)
      go (inr not_so) = spared.none q not_so r

  none_too : (last : Option Problem) (kept : List Place) (problem : Problem) → IsSparedSoFar lts comes last kept → IsNext lts kept last problem → ¬ IsRefutedIn lts comes problem
      → (q : Problem) → ¬ IsBehind (Some problem) q → ¬ IsRefutedIn lts comes q
  none_too last kept problem spared next not_here q not_behind r = go (cases_order q problem)
    where
      go : ComesBefore q problem ⊎ ((q ≡ problem) ⊎ ComesBefore problem q) → ⊥
      go (inl less) = none_before last kept problem spared next q less r
      go (inr (inl e)) = not_here (subst (IsRefutedIn lts comes) e r)
      go (inr (inr after)) = not_behind after

  none_at_all : (last : Option Problem) (kept : List Place) → IsSparedSoFar lts comes last kept → ((q : Problem) → IsBehind last q → ¬ IsLeft lts kept q) → (q : Problem) → ¬ IsRefutedIn lts comes q
  none_at_all last kept spared done q r = go (behind_is_decided last q)
    where
      go : Decided (IsBehind last q) → ⊥
      go (inl behind) = done q behind (refuted_is_left kept spared.spares q r)
      go (inr not_so) = spared.none q not_so r

  -- the places and the last problem after one that a place of its own separates, and after one in which a number passes
  spared_more : (last : Option Problem) (kept : List Place) (problem : Problem) (p : Place) → IsSparedSoFar lts comes last kept → IsNext lts kept last problem → comes problem (placed p)
      → SparesRefuted lts comes p → IsSparedSoFar lts comes (Some problem) (kept ++ p ∷ [])
  spared_more last kept problem p spared next has spares = record {
    spares = All-push (SparesRefuted lts comes) kept p spared.spares spares;
    none = none_too last kept problem spared next (λ r. not_refuted_and_placed p r.1.0 (one problem (placed p) (refuted r.1.0) has r.1.1));
  }

  spared_still : (last : Option Problem) (kept : List Place) (problem : Problem) (w : Shown) → IsSparedSoFar lts comes last kept → IsNext lts kept last problem → comes problem (passed w)
      → IsSparedSoFar lts comes (Some problem) kept
  spared_still last kept problem w spared next has = record {
    spares = spared.spares;
    none = none_too last kept problem spared next (λ r. not_refuted_and_passed w r.1.0 (one problem (passed w) (refuted r.1.0) has r.1.1));
  }

  -- no place that is kept separates a problem that is separated by all, or that is done
  none_separated : (last : Option Problem) (kept : List Place) → IsSparedSoFar lts comes last kept → SeparateAll kept lts → (q : Problem) → ¬ IsRefutedIn lts comes q
  none_separated last kept spared separate q r = (refuted_is_left kept spared.spares q r).1 (separate q r.0)

  module _ (stay : RefutedStay lts comes) where
    made_spares : (problem : Problem) (p : Place) → IsProblem lts problem → comes problem (placed p) → SparesRefuted lts comes p
    made_spares other p is' has' problem (is, (trees, has)) sep = stay problem other trees p is is' has has' sep

    -- what comes of all problems, from places on that separate no refuted one
    pub says_refuted_from : (last : Option Problem) (kept : List Place) (o : Separation) → IsSparedSoFar lts comes last kept → ComesFrom lts comes last kept o → SaysRefuted lts comes o
    says_refuted_from last kept o spared (keeps problem p next has d) =
        says_refuted_from (Some problem) (kept ++ p ∷ []) o (spared_more last kept problem p spared next has (made_spares problem p next.0.0.0 has)) d
    says_refuted_from last kept o spared (goes_on problem w next has d) = says_refuted_from (Some problem) kept o (spared_still last kept problem w spared next has) d
    says_refuted_from last kept o spared (ends problem trees next has) = record { first = ((next.0.0.0, (trees, has)), none_before last kept problem spared next); has = has }
    says_refuted_from last kept o spared (all_separated separate) = none_separated last kept spared separate
    says_refuted_from last kept o spared (one_is_left problem w done first has) = none_at_all last kept spared done

    -- and from places on that problems come to
    says_from : (last : Option Problem) (kept : List Place) (o : Separation) → All (IsMade lts comes) kept → IsSparedSoFar lts comes last kept → ComesFrom lts comes last kept o → Says lts comes o
    says_from last kept o made spared (keeps problem p next has d) =
        says_from (Some problem) (kept ++ p ∷ []) o (All-push (IsMade lts comes) kept p made (problem, next.0.0.0, has))
        (spared_more last kept problem p spared next has (made_spares problem p next.0.0.0 has)) d
    says_from last kept o made spared (goes_on problem w next has d) = says_from (Some problem) kept o made (spared_still last kept problem w spared next has) d
    says_from last kept o made spared (ends problem trees next has) = record { first = ((next.0.0.0, (trees, has)), none_before last kept problem spared next); has = has }
    says_from last kept o made spared (all_separated separate) = record {
      made = made;
      none = none_separated last kept spared separate;
      separate = separate;
    }
    says_from last kept o made spared (one_is_left problem w done first has) = record {
      kept = kept;
      made = made;
      none = none_at_all last kept spared done;
      problem = problem;
      first = first;
      has = has;
    }

    pub spared_start : (kept : List Place) → All (SparesRefuted lts comes) kept → IsSparedSoFar lts comes None kept
    spared_start kept spares = record { spares = spares; none = λ problem not_behind. absurd (not_behind tt) }

    pub says : (o : Separation) → AllComeTo lts comes o → Says lts comes o
    says o d = says_from None [] o (All-nil (IsMade lts comes)) (spared_start [] (All-nil (SparesRefuted lts comes))) d

    same_trees : (trees trees' : List Tree) → refuted trees ≡ refuted trees' → trees ≡ trees'
    same_trees trees trees' e = cc

    -- two outcomes that say the same of refuted problems refute the same one
    same_refusal : (problem : Problem) (trees : List Tree) (o : Separation) → IsFirstRefuted lts comes problem trees → SaysRefuted lts comes o → o ≡ unsolvable problem trees
    same_refusal problem trees (unsolvable problem' trees') says said =
        let e = first_is_one (IsRefutedIn lts comes) problem' problem said.first says.first in
        let same = same_trees trees' trees (one problem (refuted trees') (refuted trees) (subst (λ q. comes q (refuted trees')) e said.has) says.has) in
        ap (λ q. unsolvable q trees') e ∙ ap (unsolvable problem) same
    same_refusal problem trees (places kept) says said = absurd (said problem says.first.0)
    same_refusal problem trees (too_wide w) says said = absurd (said problem says.first.0)

    -- which problem is refuted first doesn't depend on places that are kept from the start on
    pub refusal_from : (kept kept' : List Place) (problem : Problem) (trees : List Tree) (o : Separation) → All (SparesRefuted lts comes) kept → All (SparesRefuted lts comes) kept'
        → ComesFrom lts comes None kept (unsolvable problem trees) → ComesFrom lts comes None kept' o → ComesFrom lts comes None kept' (unsolvable problem trees)
    refusal_from kept kept' problem trees o spares spares' d d' =
        let says = says_refuted_from None kept (unsolvable problem trees) (spared_start kept spares) d in
        let said = says_refuted_from None kept' o (spared_start kept' spares') d' in
        subst (ComesFrom lts comes None kept') (same_refusal problem trees o says said) d'
