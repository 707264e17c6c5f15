-- The numbers along the tree: of states that no arc enters, and of arcs.
use Rattle.std.proofs.Common.{◌≡◌, ◌≢◌, ℕ, ◌≤◌, ◌==◌, if◌then◌else◌, List, [], ◌∷◌, ◌++◌, Contains, refl, ap, ◌∙◌, arith, ne_eqb}
use Rattle.std.specs.Prelude.{ℤ, pos, ◌+ℤ◌, ◌*ℤ◌}
use Rattle.std.proofs.lemmas.Int.{ints}
use Rattle.std.proofs.Math.IntN.{zero-*ℤ}
use Rattle.rg_theory.specs.declared.Arc.{Arc}
use Rattle.rg_theory.specs.System.{System, IsInRange, states, labels}
use Rattle.rg_theory.specs.Tree.{IsTree, ways_from, way_to, count}
use Rattle.rg_theory.proofs.Arcs.{arc_in_range}
use Rattle.rg_theory.proofs.Trees.{tree_arcs, way_of_initial}
use Rattle.rg_integers.specs.Sum.{sum_below}
use Rattle.rg_integers.proofs.Sums.{sum_below-zero}
use Rattle.rg_case_folds.specs.Potentials.{potential}
use Rattle.rg_case_folds.proofs.Lists.{first, behind}

-- the way of a state that no arc of the tree enters
not_entered : (way : ℕ → List ℕ) (tree : List Arc) (q : ℕ) → ((a : Arc) → Contains tree a → q ≢ a.to) → ways_from way tree q ≡ way q
not_entered way [] q none = refl
not_entered way (a ∷ tree) q none =
    not_entered (λ s. if s == a.to then (way a.from ++ a.label ∷ []) else way s) tree q (λ b has. none b (behind a b tree has))
    ∙ ap (λ c. if c then (way a.from ++ a.label ∷ []) else way q) (ne_eqb q a.to (none a (first a tree)))

pub number_without_way : (lts : System) (tree : List Arc) (start : ℤ) (effect : ℕ → ℤ) (q : ℕ) → way_to tree q ≡ [] → potential lts tree start effect q ≡ start
number_without_way lts tree start effect q e =
    ap (λ ts. start +ℤ sum_below (labels lts) (λ t. pos (count t ts) *ℤ effect t)) e
    ∙ close start (sum_below (labels lts) (λ t. pos 0 *ℤ effect t)) (sum_below-zero (labels lts) (λ t. pos 0 *ℤ effect t) (λ t lt. zero-*ℤ (effect t)))
  where
    close : (z s : ℤ) → s ≡ pos 0 → z +ℤ s ≡ z
    close z s p = omega (arith, ints)

-- the initial state has the number Start
pub number_at_first : (lts : System) (tree : List Arc) (start : ℤ) (effect : ℕ → ℤ) → IsTree lts tree → potential lts tree start effect lts.initial ≡ start
number_at_first lts tree start effect g = number_without_way lts tree start effect lts.initial (way_of_initial lts tree g)

-- and so has what is no state
pub number_past : (lts : System) (tree : List Arc) (start : ℤ) (effect : ℕ → ℤ) (q : ℕ) → IsInRange lts → IsTree lts tree → states lts ≤ q → potential lts tree start effect q ≡ start
number_past lts tree start effect q fine g le =
    number_without_way lts tree start effect q
    (not_entered (λ s. []) tree q (λ a has same.
    (let lt = (arc_in_range lts fine a.from a.label a.to (tree_arcs lts (lts.initial ∷ []) tree a g has)).2 in omega arith)))
