-- Where each problem has a result, all problems have one; and what it says.
use Rattle.std.proofs.Common.{◌≡◌, ◌⊎◌, inl, inr, List, [], ◌∷◌, ◌++◌, All, Option, None, Some, sym, subst, arith}
use Rattle.std.proofs.lemmas.List.Elements.{All-push, All-nil}
use Rattle.std.proofs.lemmas.List.Quantifiers.{Any-push}
use Rattle.std.proofs.lemmas.List.{get_or_append_left}
use Rattle.std.proofs.Common.{◌∙◌, length-append}
use Rattle.rg_theory.specs.System.{System, IsAllReachable}
use Rattle.rg_theory.specs.Net.{Place}
use Rattle.rg_theory.specs.Region.{IsRegion}
use Rattle.rg_theory.specs.declared.Problem.{Problem}
use Rattle.rg_theory.specs.Problem.{IsProblem, IsSeparatedBy, SeparateAll, ComesBefore}
use Rattle.rg_case_folds.specs.Shown.{Shown}
use Rattle.rg_outcome.specs.Solving.{Solved, Solved.placed, Solved.refuted, Solved.passed}
use Rattle.rg_outcome.specs.Coming.{IsFirstProblem, Separation, Separation.places, Separation.unsolvable, Separation.too_wide, IsSeparated, IsLeft, IsBehind, IsNext}
use Rattle.rg_outcome.specs.Coming.{IsDone, ComesFrom, ComesFrom.keeps, ComesFrom.goes_on, ComesFrom.ends, ComesFrom.all_separated, ComesFrom.one_is_left, AllComeTo}
use Rattle.rg_outcome.specs.Coming.{PlacesSeparate, HasResults, IsSound}
use Rattle.rg_outcome.proofs.Ordering.{cases_order}
use Rattle.rg_theory.proofs.Deciding.{Decided}
use Rattle.rg_outcome.proofs.Decided.{find_problem, from_last, behind_is_decided, is_separated_decided, left_is_decided, next_is_decided}

-- what a place separates, it separates among more
pub separated_among : (lts : System) (kept : List Place) (p : Place) (problem : Problem) → IsSeparated lts kept problem → IsSeparated lts (kept ++ p ∷ []) problem
separated_among lts kept p problem (k, q, lt, e, sep) = (k, q, (let l = length-append kept (p ∷ []) in omega arith), get_or_append_left kept (p ∷ []) q k lt ∙ e, sep)

pub separated_by_last : (lts : System) (kept : List Place) (p : Place) (problem : Problem) → IsSeparatedBy lts problem p → IsSeparated lts (kept ++ p ∷ []) problem
separated_by_last lts kept p problem sep = Any-push (IsSeparatedBy lts problem) kept p sep

abbrev pub Has : System → (Problem → Solved → Type 0) → Option Problem → Type 0
Has lts comes last = (kept : List Place) → IsSound lts comes last kept → (o : Separation) × ComesFrom lts comes last kept o

module _ (lts : System) (comes : Problem → Solved → Type 0) (reachable : IsAllReachable lts) where
  -- what is over after a problem, where none before it is left
  pub over_too : (last : Option Problem) (kept after : List Place) (problem : Problem) → IsSound lts comes last kept
      → ((q : Problem) → IsBehind last q → ComesBefore q problem → ¬ IsLeft lts kept q)
      → ((q : Problem) → IsSeparated lts kept q → IsSeparated lts after q)
      → IsSeparated lts after problem ⊎ ((w : Shown) × comes problem (passed w))
      → (q : Problem) → IsProblem lts q → ¬ IsBehind (Some problem) q → IsSeparated lts after q ⊎ ((w : Shown) × comes q (passed w))
  over_too last kept after problem sound none stay here q is not_behind = go (cases_order q problem) (behind_is_decided last q)
    where
      stays : IsSeparated lts kept q ⊎ ((w : Shown) × comes q (passed w)) → IsSeparated lts after q ⊎ ((w : Shown) × comes q (passed w))
      stays (inl sep) = inl (stay q sep)
      stays (inr shown) = inr shown

      between : IsBehind last q → ComesBefore q problem → Decided (IsSeparated lts kept q) → IsSeparated lts after q ⊎ ((w : Shown) × comes q (passed w))
      between behind less (inl sep) = inl (stay q sep)
      between behind less (inr lacks) = absurd (none q behind less (is, lacks))

      go : ComesBefore q problem ⊎ ((q ≡ problem) ⊎ ComesBefore problem q) → Decided (IsBehind last q) → IsSeparated lts after q ⊎ ((w : Shown) × comes q (passed w))
      go (inl less) (inl behind) = between behind less (is_separated_decided lts reachable kept sound.regions q is)
      go (inl less) (inr not_so) = stays (sound.over q is not_so)
      go (inr (inl e)) _ = subst (λ x. IsSeparated lts after x ⊎ ((w : Shown) × comes x (passed w))) (sym e) here
      go (inr (inr more)) _ = absurd (not_behind more)

  none_before : (last : Option Problem) (kept : List Place) (problem : Problem) → IsNext lts kept last problem → (q : Problem) → IsBehind last q → ComesBefore q problem → ¬ IsLeft lts kept q
  none_before last kept problem next q behind less left = next.1 q less (left, behind)

  -- where none is left behind the last one, the places separate all problems, or some problem that is left shows its term
  pub all_separated_at : (kept : List Place) → All (IsRegion lts) kept → ((problem : Problem) → ¬ IsLeft lts kept problem) → SeparateAll kept lts
  all_separated_at kept regions none problem is = by (is_separated_decided lts reachable kept regions problem is)
    where
      by : Decided (IsSeparated lts kept problem) → IsSeparated lts kept problem
      by (inl sep) = sep
      by (inr lacks) = absurd (none problem (is, lacks))

  pub shows_its_term : (last : Option Problem) (kept : List Place) (problem : Problem) → IsSound lts comes last kept → IsDone lts kept last
      → IsLeft lts kept problem → (w : Shown) × comes problem (passed w)
  shows_its_term last kept problem sound done left = by (sound.over problem left.0 (λ behind. done problem behind left))
    where
      by : IsSeparated lts kept problem ⊎ ((w : Shown) × comes problem (passed w)) → (w : Shown) × comes problem (passed w)
      by (inl sep) = absurd (left.1 sep)
      by (inr shown) = shown

  pub sound_start : IsSound lts comes None []
  sound_start = record { over = λ problem is not_behind. absurd (not_behind tt); regions = All-nil (IsRegion lts) }

module _ (lts : System) (comes : Problem → Solved → Type 0) (reachable : IsAllReachable lts) (each : HasResults lts comes) (separate : PlacesSeparate lts comes) where
  -- one problem is taken, and the later ones after it
  take : (last : Option Problem) → ((later : Problem) → IsProblem lts later → IsBehind last later → Has lts comes (Some later)) → Has lts comes last
  take last later kept sound = go (find_problem lts (λ q. IsLeft lts kept q × IsBehind last q) (next_is_decided lts reachable kept sound.regions last) (λ q h. h.0.0))
    where
      result : (problem : Problem) → IsNext lts kept last problem → (r : Solved) → comes problem r → (o : Separation) × ComesFrom lts comes last kept o
      result problem next (placed p) has =
          let sep = separate problem p next.0.0.0 has in
          let sound' : IsSound lts comes (Some problem) (kept ++ p ∷ []) = record {
            over = over_too lts comes reachable last kept (kept ++ p ∷ []) problem sound (none_before lts comes reachable last kept problem next)
                (λ q. separated_among lts kept p q) (inl (separated_by_last lts kept p problem sep));
            regions = All-push (IsRegion lts) kept p sound.regions (sep.0, sep.1);
          } in
          let (o, d) = later problem next.0.0.0 next.0.1 (kept ++ p ∷ []) sound' in
          (o, keeps problem p next has d)
      result problem next (passed w) has =
          let sound' : IsSound lts comes (Some problem) kept = record {
            over = over_too lts comes reachable last kept kept problem sound (none_before lts comes reachable last kept problem next) (λ q sep. sep) (inr (w, has));
            regions = sound.regions;
          } in
          let (o, d) = later problem next.0.0.0 next.0.1 kept sound' in
          (o, goes_on problem w next has d)
      result problem next (refuted trees) has = (unsolvable problem trees, ends problem trees next has)

      taken : (problem : Problem) → IsNext lts kept last problem → (o : Separation) × ComesFrom lts comes last kept o
      taken problem next = let (r, has) = each problem next.0.0.0 in result problem next r has

      -- no problem is left behind the last one
      left_over : IsDone lts kept last → (problem : Problem) → IsFirstProblem (IsLeft lts kept) problem → (o : Separation) × ComesFrom lts comes last kept o
      left_over done problem first = by (sound.over problem first.0.0 (λ behind. done problem behind first.0))
        where
          by : IsSeparated lts kept problem ⊎ ((w : Shown) × comes problem (passed w)) → (o : Separation) × ComesFrom lts comes last kept o
          by (inl sep) = absurd (first.0.1 sep)
          by (inr (w, has)) = (too_wide w, one_is_left problem w done first has)

      all : ((problem : Problem) → ¬ IsLeft lts kept problem) → SeparateAll kept lts
      all none problem is = by (is_separated_decided lts reachable kept sound.regions problem is)
        where
          by : Decided (IsSeparated lts kept problem) → IsSeparated lts kept problem
          by (inl sep) = sep
          by (inr lacks) = absurd (none problem (is, lacks))

      finished : IsDone lts kept last → ((problem : Problem) × IsFirstProblem (IsLeft lts kept) problem)
          ⊎ ((problem : Problem) → ¬ IsLeft lts kept problem) → (o : Separation) × ComesFrom lts comes last kept o
      finished done (inl (problem, first)) = left_over done problem first
      finished done (inr none) = (places kept, all_separated (all none))

      go : ((problem : Problem) × IsNext lts kept last problem) ⊎ ((problem : Problem) → ¬ (IsLeft lts kept problem × IsBehind last problem)) → (o : Separation) × ComesFrom lts comes last kept o
      go (inl (problem, next)) = taken problem next
      go (inr none) = finished (λ q behind left. none q (left, behind)) (find_problem lts (IsLeft lts kept) (left_is_decided lts reachable kept sound.regions) (λ q left. left.0))

  after_each : (problem : Problem) → Has lts comes (Some problem)
  after_each = from_last lts (λ q. Has lts comes (Some q)) (λ problem later. take (Some problem) later)

  -- from regions on that are kept from the start
  pub some_from_kept : (kept : List Place) → All (IsRegion lts) kept → (o : Separation) × ComesFrom lts comes None kept o
  some_from_kept kept regions = take None (λ later is behind. after_each later) kept (record { over = λ problem is not_behind. absurd (not_behind tt); regions = regions })

  pub some_separation : (o : Separation) × AllComeTo lts comes o
  some_separation = some_from_kept [] (All-nil (IsRegion lts))
