-- The net of an answer has at most one place for each problem.
use Rattle.std.proofs.Common.{inl, inr, ◌+◌, ◌*◌, ◌≤◌, List, [], ◌∷◌, ◌++◌, length, ap, arith}
use Rattle.rg_theory.specs.System.{System, states, labels}
use Rattle.rg_theory.specs.Net.{Place}
use Rattle.rg_theory.specs.declared.Class.{Class}
use Rattle.rg_theory.specs.Pruned.{Decides, LeavesBehind}
use Rattle.rg_outcome.specs.Coming.{Separation, Separation.places, Separation.unsolvable as of_problem, Separation.too_wide as of_term}
use Rattle.rg_outcome.specs.Outcome.{Answer.net as of_net, Gives, Searched, Out, Out.a_search}
use Rattle.rg_lts.specs.WellFormed.{IsWellFormed}
use Rattle.rg_blocks.specs.Problems.{most_problems}
use Rattle.rg_blocks.proofs.RankLemmas.{most_at_limits, pairs_fewer}
use Rattle.rg_separate.proofs.Few.{searched_few}

left_short : (lts : System) (front kept left : List Place) → LeavesBehind lts front kept left → length left ≤ length kept
left_short lts front [] left none = let n = ap length none in omega arith
left_short lts front (p ∷ kept) left (behind, rest, decides) = by decides (left_short lts (front ++ p ∷ []) kept behind rest)
  where
    by : Decides lts front p behind left → length behind ≤ length kept → length left ≤ length (p ∷ kept)
    by (inl (all, is)) short = let n = ap length is in omega arith
    by (inr (some, is)) short = let n = ap length is in omega arith

given_few : (lts : System) (class : Class) (o : Separation) (left : List Place) → Searched lts class o → Gives lts o (of_net left) → length left ≤ most_problems lts
given_few lts class (places kept) left searched pruned = let a = left_short lts [] kept left pruned in let b = searched_few lts class kept searched in omega arith
given_few lts class (of_problem problem trees) left searched gives = absurd gives
given_few lts class (of_term w) left searched gives = absurd gives

pub net_is_small : (lts : System) (class : Class) (left : List Place) → Out lts class (of_net left) → length left ≤ most_problems lts
net_is_small lts class left (a_search o _ reach one searched gives) = given_few lts class o left searched gives

pub net_at_limits : (lts : System) (class : Class) (left : List Place) → IsWellFormed lts → Out lts class (of_net left) → length left ≤ 9435136
net_at_limits lts class left fine out = let few = net_is_small lts class left out in let most = most_at_limits lts fine in omega arith

-- two states counted in either order
pub net_in_either_order : (lts : System) (class : Class) (left : List Place) → Out lts class (of_net left) → length left ≤ 1 + (states lts * labels lts + states lts * states lts)
net_in_either_order lts class left out = let few = net_is_small lts class left out in let fewer = pairs_fewer (states lts) in omega arith
