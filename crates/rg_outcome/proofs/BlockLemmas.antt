-- Blocks of any lengths come to the same as one problem after the other.
use Rattle.std.proofs.Common.{◌≡◌, ◌⊎◌, inl, inr, List, [], ◌∷◌, ◌++◌, Option, None, Some, sym, subst}
use Rattle.std.proofs.lemmas.List.Elements.{All-push}
use Rattle.rg_theory.specs.System.{System, IsAllReachable}
use Rattle.rg_theory.specs.Region.{IsRegion}
use Rattle.rg_case_folds.specs.Shown.{Shown}
use Rattle.rg_theory.specs.Net.{Place}
use Rattle.rg_theory.specs.declared.Problem.{Problem}
use Rattle.rg_theory.specs.Problem.{ComesBefore, IsSeparatedBy}
use Rattle.rg_outcome.specs.Solving.{Solved, Solved.placed, Solved.refuted, Solved.passed}
use Rattle.rg_outcome.specs.Coming.{Separation, Separation.unsolvable, IsSeparated, IsLeft, IsBehind, IsNext, IsDone, ComesFrom, ComesFrom.keeps, ComesFrom.goes_on, ComesFrom.ends, ComesFrom.all_separated, ComesFrom.one_is_left, PlacesSeparate, IsSound}
use Rattle.rg_outcome.specs.Blocks.{IsBlock, last_of, AfterBlock, AfterBlock.kept_places, AfterBlock.refuted_one, GoesOn, TakenOver, ComesByBlocks, ComesByBlocks.one_block, ComesByBlocks.last_block, ComesByBlocks.all_separated as no_block, ComesByBlocks.one_is_left as no_block_left}
use Rattle.rg_outcome.proofs.Ordering.{cases_order, before_after, not_before_itself, not_both_before}
use Rattle.rg_outcome.proofs.Existing.{separated_among, separated_by_last, over_too}

pub behind_too : (last : Option Problem) (problem q : Problem) → IsBehind last problem → ComesBefore problem q → IsBehind last q
behind_too None problem q behind less = tt
behind_too (Some p) problem q behind less = before_after p problem q behind less

-- problems that are separated are passed over: of those behind the last one, none up to this one is left
abbrev pub IsPassedOver : System → List Place → Option Problem → Problem → Type 0
IsPassedOver lts kept last problem = (q : Problem) → IsBehind last q → ¬ ComesBefore problem q → ¬ IsLeft lts kept q

module _ (lts : System) (comes : Problem → Solved → Type 0) (kept : List Place) (last : Option Problem) (problem : Problem)
    (behind : IsBehind last problem) (over : IsPassedOver lts kept last problem) where
  -- what is left behind the last one is behind this one
  moves : (q : Problem) → IsLeft lts kept q → IsBehind last q → ComesBefore problem q
  moves q left b = go (cases_order problem q)
    where
      go : ComesBefore problem q ⊎ ((problem ≡ q) ⊎ ComesBefore q problem) → ComesBefore problem q
      go (inl less) = less
      go (inr (inl e)) = absurd (over q b (λ less. not_before_itself problem (subst (λ x. ComesBefore problem x) (sym e) less)) left)
      go (inr (inr after)) = absurd (over q b (λ less. not_both_before q problem after less) left)

  still_next : (next : Problem) → IsNext lts kept (Some problem) next → IsNext lts kept last next
  still_next next ((left, b), before) = ((left, behind_too last problem next behind b), λ earlier less (l, e). before earlier less (l, moves earlier l e))

  still_done : IsDone lts kept (Some problem) → IsDone lts kept last
  still_done done q b left = done q (moves q left b) left

  pub passed_over : (o : Separation) → ComesFrom lts comes (Some problem) kept o → ComesFrom lts comes last kept o
  passed_over o (keeps next p is has d) = keeps next p (still_next next is) has d
  passed_over o (goes_on next w is has d) = goes_on next w (still_next next is) has d
  passed_over o (ends next trees is has) = ends next trees (still_next next is) has
  passed_over o (all_separated separate) = all_separated separate
  passed_over o (one_is_left next w done first has) = one_is_left next w (still_done done) first has

-- ---- a block

-- what a block leads to
abbrev pub LeadsFrom : System → (Problem → Solved → Type 0) → Option Problem → List Place → List Problem → AfterBlock → Type 0
LeadsFrom lts comes last kept problems (kept_places after) = (o : Separation) → ComesFrom lts comes (last_of last problems) after o → ComesFrom lts comes last kept o
LeadsFrom lts comes last kept problems (refuted_one problem trees) = ComesFrom lts comes last kept (unsolvable problem trees)

-- one problem in front
in_front : (lts : System) (comes : Problem → Solved → Type 0) (last : Option Problem) (kept then : List Place) (problem : Problem) (rest : List Problem) (a : AfterBlock)
    → ((o : Separation) → ComesFrom lts comes (Some problem) then o → ComesFrom lts comes last kept o)
    → LeadsFrom lts comes (Some problem) then rest a → LeadsFrom lts comes last kept (problem ∷ rest) a
in_front lts comes last kept then problem rest (kept_places after) step leads = λ o d. step o (leads o d)
in_front lts comes last kept then problem rest (refuted_one q trees) step leads = step (unsolvable q trees) leads

module _ (lts : System) (comes : Problem → Solved → Type 0) where
  -- the block was formed with the places at its start, which are among those kept now
  pub taken_over : (start kept : List Place) (last : Option Problem) (problems : List Problem) (a : AfterBlock) → ((q : Problem) → IsSeparated lts start q → IsSeparated lts kept q)
      → IsBlock lts start last problems → TakenOver lts comes kept problems a → LeadsFrom lts comes last kept problems a
  taken_over start kept last [] a grown block is = subst (LeadsFrom lts comes last kept []) (sym is) (λ o d. d)
  taken_over start kept last (problem ∷ rest) a grown (next, block) taken = go (λ now more t. taken_over start now (Some problem) rest a more block t) taken
    where
      -- none is left between the last one and this
      between : (q : Problem) → IsBehind last q → ComesBefore q problem → ¬ IsLeft lts kept q
      between q behind less (is, lacks) = next.1 q less ((is, λ sep. lacks (grown q sep)), behind)

      over : IsSeparated lts kept problem → IsPassedOver lts kept last problem
      over sep q behind not_more left = by (cases_order q problem)
        where
          by : ComesBefore q problem ⊎ ((q ≡ problem) ⊎ ComesBefore problem q) → ⊥
          by (inl less) = between q behind less left
          by (inr (inl e)) = left.1 (subst (λ x. IsSeparated lts kept x) (sym e) sep)
          by (inr (inr after)) = not_more after

      next_now : ¬ IsSeparated lts kept problem → IsNext lts kept last problem
      next_now lacks = (((next.0.0.0, lacks), next.0.1), λ earlier less h. between earlier h.1 less h.0)

      by_result : ((now : List Place) → ((q : Problem) → IsSeparated lts start q → IsSeparated lts now q) → TakenOver lts comes now rest a → LeadsFrom lts comes (Some problem) now rest a)
          → ¬ IsSeparated lts kept problem → (r : Solved) → comes problem r → GoesOn problem r kept (λ after. TakenOver lts comes after rest a) a → LeadsFrom lts comes last kept (problem ∷ rest) a
      by_result ih lacks (placed p) has t = in_front lts comes last kept (kept ++ p ∷ []) problem rest a
          (λ o d. keeps problem p (next_now lacks) has d) (ih (kept ++ p ∷ []) (λ q sep. separated_among lts kept p q (grown q sep)) t)
      by_result ih lacks (passed w) has t = in_front lts comes last kept kept problem rest a (λ o d. goes_on problem w (next_now lacks) has d) (ih kept grown t)
      by_result ih lacks (refuted trees) has t = subst (LeadsFrom lts comes last kept (problem ∷ rest)) (sym t) (ends problem trees (next_now lacks) has)

      go : ((now : List Place) → ((q : Problem) → IsSeparated lts start q → IsSeparated lts now q) → TakenOver lts comes now rest a → LeadsFrom lts comes (Some problem) now rest a)
          → (IsSeparated lts kept problem × TakenOver lts comes kept rest a)
          ⊎ (¬ IsSeparated lts kept problem × ((r : Solved) × comes problem r
          × GoesOn problem r kept (λ after. TakenOver lts comes after rest a) a)) → LeadsFrom lts comes last kept (problem ∷ rest) a
      go ih (inl (sep, t)) = in_front lts comes last kept kept problem rest a (passed_over lts comes kept last problem next.0.1 (over sep)) (ih kept grown t)
      go ih (inr (lacks, (r, has, t))) = by_result ih lacks r has t

  pub by_blocks : (last : Option Problem) (kept : List Place) (o : Separation) → ComesByBlocks lts comes last kept o → ComesFrom lts comes last kept o
  by_blocks last kept o (one_block problems after is taken d) = taken_over kept kept last problems (kept_places after) (λ q sep. sep) is taken o (by_blocks (last_of last problems) after o d)
  by_blocks last kept o (last_block problems problem trees is taken) = taken_over kept kept last problems (refuted_one problem trees) (λ q sep. sep) is taken
  by_blocks last kept o (no_block separate) = all_separated separate
  by_blocks last kept o (no_block_left problem w done first has) = one_is_left problem w done first has

-- ---- what is over after a block

-- after a block that isn't ended
abbrev pub SoundAfter : System → (Problem → Solved → Type 0) → Option Problem → AfterBlock → Type 0
SoundAfter lts comes last (kept_places after) = IsSound lts comes last after
SoundAfter lts comes last (refuted_one q trees) = Unit {0}

module _ (lts : System) (comes : Problem → Solved → Type 0) (reachable : IsAllReachable lts) (separate : PlacesSeparate lts comes) where
  pub sound_after : (start kept : List Place) (last : Option Problem) (problems : List Problem) (a : AfterBlock) → ((q : Problem) → IsSeparated lts start q → IsSeparated lts kept q)
      → IsBlock lts start last problems → TakenOver lts comes kept problems a → IsSound lts comes last kept → SoundAfter lts comes (last_of last problems) a
  sound_after start kept last [] a grown block is sound = subst (SoundAfter lts comes last) (sym is) sound
  sound_after start kept last (problem ∷ rest) a grown (next, block) taken sound = go (λ now more t s. sound_after start now (Some problem) rest a more block t s) taken
    where
      between : (q : Problem) → IsBehind last q → ComesBefore q problem → ¬ IsLeft lts kept q
      between q behind less (is, lacks) = next.1 q less ((is, λ sep. lacks (grown q sep)), behind)

      stays : IsSeparated lts kept problem ⊎ ((w : Shown) × comes problem (passed w)) → IsSound lts comes (Some problem) kept
      stays here = record { over = over_too lts comes reachable last kept kept problem sound between (λ q sep. sep) here; regions = sound.regions }

      with_place : (p : Place) → IsSeparatedBy lts problem p → IsSound lts comes (Some problem) (kept ++ p ∷ [])
      with_place p sep = record {
        over = over_too lts comes reachable last kept (kept ++ p ∷ []) problem sound between (λ q s. separated_among lts kept p q s) (inl (separated_by_last lts kept p problem sep));
        regions = All-push (IsRegion lts) kept p sound.regions (sep.0, sep.1);
      }

      by_result : ((now : List Place) → ((q : Problem) → IsSeparated lts start q → IsSeparated lts now q) → TakenOver lts comes now rest a
          → IsSound lts comes (Some problem) now → SoundAfter lts comes (last_of (Some problem) rest) a)
          → (r : Solved) → comes problem r → GoesOn problem r kept (λ after. TakenOver lts comes after rest a) a → SoundAfter lts comes (last_of (Some problem) rest) a
      by_result ih (placed p) has t = ih (kept ++ p ∷ []) (λ q sep. separated_among lts kept p q (grown q sep)) t (with_place p (separate problem p next.0.0.0 has))
      by_result ih (passed w) has t = ih kept grown t (stays (inr (w, has)))
      by_result ih (refuted trees) has t = subst (SoundAfter lts comes (last_of (Some problem) rest)) (sym t) tt

      go : ((now : List Place) → ((q : Problem) → IsSeparated lts start q → IsSeparated lts now q) → TakenOver lts comes now rest a
          → IsSound lts comes (Some problem) now → SoundAfter lts comes (last_of (Some problem) rest) a)
          → (IsSeparated lts kept problem × TakenOver lts comes kept rest a)
          ⊎ (¬ IsSeparated lts kept problem × ((r : Solved) × comes problem r
          × GoesOn problem r kept (λ after. TakenOver lts comes after rest a) a)) → SoundAfter lts comes (last_of (Some problem) rest) a
      go ih (inl (sep, t)) = ih kept grown t (stays (inl sep))
      go ih (inr (lacks, (r, has, t))) = by_result ih r has t
