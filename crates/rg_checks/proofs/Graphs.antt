-- The arcs of a system, as they are and turned round, make a graph.
use Rattle.std.proofs.Common.{◌≡◌, ◌≤◌, ◌⊎◌, inl, inr, ℕ, ◌<◌, true, false, List, Option, length, get_or, replicate, All, AllPairs, Contains, sym, ap, subst, ◌∙◌, arith}
use Rattle.std.proofs.lemmas.List.{get_or-replicate}
use Rattle.std.proofs.lemmas.List.Elements.{All-contains_itself, All-weaker}
use Rattle.rg_theory.specs.declared.Arc.{Arc}
use Rattle.rg_theory.specs.System.{System, arc, states, labels, IsInRange, IsArcInRange, IsArcBefore}
use Rattle.rg_checks.specs.declared.graph.Graph.{Graph}
use Rattle.rg_checks.specs.declared.walks.Step.{Step}
use Rattle.rg_checks.specs.Closure.{IsArcOf, IsGraph, follows, IsEntered, begin, then, IsClosure}

-- arcs in order are ordered by the state that they leave
pub by_states : (arcs : List Arc) → AllPairs IsArcBefore arcs → AllPairs (λ (a b : Arc). a.from ≤ b.from) arcs
by_states arcs order i j d less lt = by (order i j d less lt)
  where
    by : IsArcBefore (get_or arcs i d) (get_or arcs j d) → (get_or arcs i d).from ≤ (get_or arcs j d).from
    by (inl earlier) = omega (arith, earlier)
    by (inr later) = let e = later.0 in omega (arith, e)

module _ (lts : System) (g : Graph) (fine : IsInRange lts) (same : g.states ≡ states lts) (inside : (a : Arc) → Contains g.arcs.now a → IsArcInRange lts a) where
  pub is_graph : length g.labels.now ≡ labels lts → AllPairs (λ (a b : Arc). a.from ≤ b.from) g.arcs.now → g.initial ≡ lts.initial → IsGraph g
  is_graph long order first = record {
    order = order;
    in_range = All-weaker (Contains g.arcs.now) (IsArcOf g) numbered g.arcs.now (All-contains_itself g.arcs.now);
    initial = let m = fine.initial in omega (arith, m, same, first);
  }
    where
      numbered : (a : Arc) → Contains g.arcs.now a → IsArcOf g a
      numbered a has = let r = inside a has in (omega (arith, same, r), omega (arith, long, r), omega (arith, same, r))

  pub followed : g.labels.now ≡ replicate (labels lts) true → (a : Arc) → Contains g.arcs.now a → follows g a
  followed all a has = (has, ap (λ xs. get_or xs a.label false) all ∙ get_or-replicate (labels lts) a.label true false (inside a has).1)

-- what is entered by the arcs of one graph is so by those of another that has them
pub entered_as : (P Q : Arc → Type 0) → ((a : Arc) → P a → Q a) → (initial : ℕ) (steps : List (Option Step)) (s : ℕ) → IsEntered P initial steps s → IsEntered Q initial steps s
entered_as P Q into initial steps s begin = begin
entered_as P Q into initial steps s (then q step before at has) = then q step (entered_as P Q into initial steps step.before before) at (into (arc step.before step.label q) has)

-- the closure from the system's own numbers
pub closure_of : (P : Arc → Type 0) (n n' start start' : ℕ) (steps : List (Option Step)) → n ≡ n' → start ≡ start' → IsClosure P n start steps → IsClosure P n' start' steps
closure_of P n n' start start' steps same first c = subst (λ m. IsClosure P m start' steps) same (subst (λ i. IsClosure P n i steps) first c)
