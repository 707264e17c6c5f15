-- The order in which the tree meets the states has each state once.
use Rattle.std.proofs.Common.{◌≡◌, ◌≢◌, ⊎_elim, ℕ, ◌<◌, List, [], ◌∷◌, ◌++◌, Contains, AllPairs, sym, subst, ap, ◌∙◌, arith}
use Rattle.std.proofs.lemmas.List.Elements.{All-contains, Contains-get_or}
use Rattle.std.proofs.lemmas.List.Quantifiers.{all_pairs_push}
use Rattle.rg_theory.specs.declared.Arc.{Arc}
use Rattle.rg_theory.specs.System.{System, states, IsInRange, IsArcInRange, IsAllReachable}
use Rattle.rg_theory.specs.Tree.{Grows}
use Rattle.rg_theory.proofs.Lists.{Contains-cons_cases}
use Rattle.rg_theory.proofs.Trees.{met_after, met_after_is, reachable_is_met, tree_arcs}
use Rattle.rg_spanning.specs.Spanning.{Spanning, IsTreeOf, order_of}
use Rattle.rg_spanning.proofs.TreeGrowth.{targets, arc_to}

met_once : (lts : System) (met : List ℕ) (tree : List Arc) → Grows lts met tree → AllPairs (λ s q. s ≢ q) met → AllPairs (λ s q. s ≢ q) (met_after met tree)
met_once lts met [] g once = once
met_once lts met (a ∷ tree) (j, rest) once =
    met_once lts (met ++ a.to ∷ []) tree rest (all_pairs_push (λ s q. s ≢ q) met a.to once (λ k d lt e. j.fresh (subst (Contains met) e (Contains-get_or met k d lt))))

module _ (lts : System) (grown : Spanning) (t : IsTreeOf lts grown) where
  order_is : order_of grown ≡ lts.initial ∷ targets grown.arcs
  order_is = ap (λ s. s ∷ targets grown.arcs) t.initial

  pub order_once : AllPairs (λ s q. s ≢ q) (order_of grown)
  order_once =
      subst (AllPairs (λ s q. s ≢ q)) (met_after_is (lts.initial ∷ []) grown.arcs ∙ sym order_is)
      (met_once lts (lts.initial ∷ []) grown.arcs t.tree (λ i j d less lt. absurd (omega arith)))

  pub order_states : (s : ℕ) → IsInRange lts → Contains (order_of grown) s → s < states lts
  order_states s fine has =
      ⊎_elim (λ same. subst (λ q. q < states lts) same fine.initial) entered (Contains-cons_cases lts.initial s (targets grown.arcs) (subst (λ xs. Contains xs s) order_is has))
    where
      entered : Contains (targets grown.arcs) s → s < states lts
      entered there =
          let (a, among, to) = arc_to grown.arcs s there in
          subst (λ q. q < states lts) to (All-contains (IsArcInRange lts) lts.arcs a fine.arcs (tree_arcs lts (lts.initial ∷ []) grown.arcs a t.tree among)).2

  pub order_every : (s : ℕ) → IsAllReachable lts → s < states lts → Contains (order_of grown) s
  order_every s all lt = subst (λ xs. Contains xs s) (sym order_is) (reachable_is_met lts grown.arcs s t.tree (all.each s lt))
