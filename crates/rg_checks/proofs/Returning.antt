-- The closure of the arcs turned round meets exactly the states from which the initial one can be reached.
use Rattle.std.proofs.Common.{◌≡◌, ◌⊎◌, inl, inr, ℕ, zero, suc, ◌+◌, ◌<◌, ◌≤◌, true, false, true≢false, List, [], ◌∷◌, Option, map, Contains, refl, sym, ap, subst, ◌∙◌, arith}
use Rattle.std.proofs.lemmas.Bool.{cases_eq}
use Rattle.rg_theory.specs.declared.Arc.{Arc}
use Rattle.rg_theory.specs.System.{System, arc, states, Leads, IsReachable, IsInRange}
use Rattle.rg_theory.proofs.Arcs.{arc_in_range}
use Rattle.rg_checks.specs.declared.walks.Step.{Step}
use Rattle.rg_checks.specs.Closure.{IsEntered, begin, then, is_met, IsClosure}
use Rattle.rg_checks.specs.Reversible.{LeadsBack, IsReversible, IsLeastStranded}
use Rattle.rg_checks.specs.Back.{turned, AreBack}
use Rattle.rg_checks.proofs.Walking.{initial_met}

-- ---- arcs turned round

pub turned_there : (arcs : List Arc) (a : Arc) → Contains arcs a → Contains (map turned arcs) (turned a)
turned_there [] a (k, lt, e) = absurd (omega (arith, lt))
turned_there (b ∷ arcs) a (zero, lt, e) = (zero, omega arith, ap turned e)
turned_there (b ∷ arcs) a (suc k, lt, e) = let r = turned_there arcs a (k, omega (arith, lt), e) in let less = r.1 in (suc r.0, omega (arith, less), r.2)

turned_twice : (arcs : List Arc) → map turned (map turned arcs) ≡ arcs
turned_twice [] = refl
turned_twice (a ∷ arcs) = ap (λ xs. a ∷ xs) (turned_twice arcs)

pub turned_from : (arcs : List Arc) (a : Arc) → Contains (map turned arcs) a → Contains arcs (turned a)
turned_from arcs a has = subst (λ xs. Contains xs (turned a)) (turned_twice arcs) (turned_there (map turned arcs) a has)

-- ---- what leads back

module _ (lts : System) (P : Arc → Type 0) (any : (a : Arc) → Contains lts.arcs a → P (turned a)) (only : (a : Arc) → P a → Contains lts.arcs (turned a))
    (steps : List (Option Step)) (c : IsClosure P (states lts) lts.initial steps) where
  leads : (s : ℕ) → IsEntered P lts.initial steps s → LeadsBack lts s
  leads s begin = ([], refl)
  leads s (then q step before at has) = let (ts, path) = leads step.before before in (step.label ∷ ts, (step.before, only (arc step.before step.label q) has, path))

  met : (ts : List ℕ) (s : ℕ) → Leads lts s ts lts.initial → is_met lts.initial steps s ≡ true
  met [] s e = subst (λ q. is_met lts.initial steps q ≡ true) (sym e) (initial_met lts.initial steps)
  met (t ∷ ts) s (mid, has, rest) = c.closed (arc mid t s) (any (arc s t mid) has) (met ts mid rest)

  pub back_are : AreBack lts steps
  back_are = record { long = c.long; each = λ s. ((λ is. leads s (c.entered s is)), λ back. met back.0 s back.1) }

-- ---- the first state that is stranded

-- each of the states so far that can be reached leads back
abbrev pub NoneStranded : System → ℕ → Type 0
NoneStranded lts n = (s : ℕ) → s < n → IsReachable lts s → LeadsBack lts s

pub least_stranded : (lts : System) (steps : List (Option Step)) (s : ℕ) → AreBack lts steps → NoneStranded lts s → IsReachable lts s → is_met lts.initial steps s ≡ false
    → IsLeastStranded lts s
least_stranded lts steps s back before reached out = record { reached = reached; no_way = λ leads. true≢false (sym ((back.each s).1 leads) ∙ out); least = before }

pub none_stranded_more : (lts : System) (s : ℕ) → NoneStranded lts s → (IsReachable lts s → LeadsBack lts s) → NoneStranded lts (s + 1)
none_stranded_more lts s before here q less reached = by (cases_eq q s)
  where
    by : (q ≡ s) ⊎ (q ≡ s → ⊥) → LeadsBack lts q
    by (inl same) = subst (LeadsBack lts) (sym same) (here (subst (IsReachable lts) same reached))
    by (inr ne) = before q (omega (arith, less, ne)) reached

-- what is reached is a state of the system
pub reached_in_range : (lts : System) → IsInRange lts → (s : ℕ) → s < states lts → (ts : List ℕ) (q : ℕ) → Leads lts s ts q → q < states lts
reached_in_range lts fine s lt [] q e = subst (λ n. n < states lts) e lt
reached_in_range lts fine s lt (t ∷ ts) q (mid, has, rest) = reached_in_range lts fine mid (arc_in_range lts fine s t mid has).2 ts q rest

pub reversible : (lts : System) (n : ℕ) → IsInRange lts → states lts ≤ n → NoneStranded lts n → IsReversible lts
reversible lts n fine all none = record {
  back = λ s reached. none s (let r = reached_in_range lts fine lts.initial fine.initial reached.0 s reached.1 in omega (arith, r, all)) reached;
}
