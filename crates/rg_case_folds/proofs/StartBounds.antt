-- In an event problem of a plain class the tokens at the initial state are at most as many as there are states.
use Rattle.std.proofs.Common.{◌≡◌, ⊎_elim, ℕ, zero, suc, ◌+◌, ◌<◌, ◌≤◌, ◌==◌, Bool, true, false, if◌then◌else◌, List, [], ◌∷◌, ◌++◌, length, Contains, refl, sym, ap, subst, arith, length-append}
use Rattle.std.specs.Prelude.{ℤ, pos, negsuc, ◌+ℤ◌, ◌*ℤ◌, ◌≤ℤ◌}
use Rattle.std.proofs.lemmas.Int.{ints}
use Rattle.std.proofs.lemmas.List.Elements.{Contains-push_cases}
use Rattle.rg_theory.specs.declared.Arc.{Arc}
use Rattle.rg_theory.specs.declared.Class.{Class}
use Rattle.rg_theory.specs.declared.Problem.TheVariants.{Event}
use Rattle.rg_theory.specs.System.{System, IsInRange, IsReachable, states, labels}
use Rattle.rg_theory.specs.Tree.{Grows, IsTree, ways_from, way_to}
use Rattle.rg_theory.proofs.Arcs.{arc_in_range}
use Rattle.rg_theory.proofs.Lists.{Contains-cons_cases}
use Rattle.rg_theory.proofs.Trees.{longer, met_after, way_leads}
use Rattle.rg_integers.specs.Sum.{sum_over}
use Rattle.rg_integers.proofs.Ring.{ring}
use Rattle.rg_linear.specs.Dictionary.{numbers_from}
use Rattle.rg_linear.proofs.Members.{Contains-numbers_from, length-numbers_from, order_from_increasing, numbers_from-ordered}
use Rattle.rg_linear.proofs.Stacks.{IsDistinct, no_more}
use Rattle.rg_case_folds.specs.Potentials.{potential}
use Rattle.rg_case_folds.specs.Values.{numbers_along}
use Rattle.rg_case_folds.specs.Meaning.{KeepsRowsOver}
use Rattle.rg_case_folds.proofs.Lists.{first, behind}
use Rattle.rg_case_folds.proofs.Potentials.{AllBelow, counted, led_below}
use Rattle.rg_cert_meaning.specs.declared.RowName.TheVariants as row_name

-- ---- how long a way is

way_short : (way : ℕ → List ℕ) (tree : List Arc) (n : ℕ) → ((s : ℕ) → length (way s) ≤ n) → (s : ℕ) → length (ways_from way tree s) ≤ n + length tree
way_short way [] n short s = omega (arith, short s)
way_short way (a ∷ tree) n short s = omega (arith, way_short (longer way a) tree (suc n) (λ q. by q (q == a.to)) s)
  where
    by : (q : ℕ) (b : Bool) → length (if b then (way a.from ++ a.label ∷ []) else way q) ≤ suc n
    by q true = omega (arith, short a.from, length-append (way a.from) (a.label ∷ []))
    by q false = omega (arith, short q)

distinct_push : (xs : List ℕ) (x : ℕ) → IsDistinct xs → ¬ Contains xs x → IsDistinct (xs ++ x ∷ [])
distinct_push [] x d fresh = ((λ has. (let lt = has.1 in omega arith)), tt)
distinct_push (y ∷ xs) x d fresh = (
  (λ has. ⊎_elim d.0 (λ e. fresh (subst (Contains (y ∷ xs)) (sym e) (first y xs))) (Contains-push_cases xs x y has)),
  distinct_push xs x d.1 (λ has. fresh (behind y x xs has)),
)

-- the states met are different ones
met_distinct : (lts : System) (met : List ℕ) (tree : List Arc) → Grows lts met tree → IsDistinct met → IsDistinct (met_after met tree)
met_distinct lts met [] g d = d
met_distinct lts met (a ∷ tree) (j, rest) d = met_distinct lts (met ++ a.to ∷ []) tree rest (distinct_push met a.to d j.fresh)

met_long : (met : List ℕ) (tree : List Arc) → length (met_after met tree) ≡ length met + length tree
met_long met [] = omega arith
met_long met (a ∷ tree) = omega (arith, met_long (met ++ a.to ∷ []) tree, length-append met (a.to ∷ []))

met_below : (lts : System) (met : List ℕ) (tree : List Arc) → IsInRange lts → Grows lts met tree → ((s : ℕ) → Contains met s → s < states lts) → (s : ℕ)
    → Contains (met_after met tree) s → s < states lts
met_below lts met [] fine g below s has = below s has
met_below lts met (a ∷ tree) fine (j, rest) below s has = met_below lts (met ++ a.to ∷ []) tree fine rest next s has
  where
    next : (q : ℕ) → Contains (met ++ a.to ∷ []) q → q < states lts
    next q here = ⊎_elim (below q) (λ e. subst (λ x. x < states lts) e (arc_in_range lts fine a.from a.label a.to j.has).2) (Contains-push_cases met a.to q here)

-- the tree has fewer arcs than there are states
pub tree_short : (lts : System) (tree : List Arc) → IsInRange lts → IsTree lts tree → length tree < states lts
tree_short lts tree fine g =
    let start : List ℕ = lts.initial ∷ [] in
    let alone : IsDistinct start = ((λ has. (let lt = has.1 in omega arith)), tt) in
    let within : (s : ℕ) → Contains (met_after start tree) s → s < states lts =
    met_below lts start tree fine g (λ s has. ⊎_elim (λ e. subst (λ x. x < states lts) e fine.initial)
    (λ none. absurd (let lt = none.1 in omega arith)) (Contains-cons_cases lts.initial s [] has)) in
    let few = no_more (met_after start tree) (numbers_from 0 (states lts)) (order_from_increasing (numbers_from 0 (states lts)) (numbers_from-ordered 0 (states lts)))
    (met_distinct lts start tree g alone) (λ m has. Contains-numbers_from 0 (states lts) m (omega arith) (omega (arith, within m has))) in
    omega (arith, few, met_long start tree, length-numbers_from 0 (states lts))

pub way_below : (lts : System) (tree : List Arc) (s : ℕ) → IsInRange lts → IsTree lts tree → length (way_to tree s) < states lts
way_below lts tree s fine g = omega (arith, way_short (λ q. []) tree 0 (λ q. omega arith) s, tree_short lts tree fine g)

-- ---- how far a way leads down

times_more : (n : ℕ) (k : ℤ) → pos (suc n) *ℤ k ≡ k +ℤ (pos n *ℤ k)
times_more n k = let e : pos (suc n) ≡ pos 1 +ℤ pos n = omega (arith, ints) in rw e (simp ring refl)

sum_down : (n : ℕ) (k : ℤ) (effect : ℕ → ℤ) (ts : List ℕ) → ((t : ℕ) → t < n → pos 0 ≤ℤ (effect t +ℤ k)) → AllBelow n ts → pos 0 ≤ℤ (sum_over effect ts +ℤ (pos (length ts) *ℤ k))
sum_down n k effect [] down below = omega (arith, ints)
sum_down n k effect (t ∷ ts) down (lt, below) = omega (arith, ints, down t lt, sum_down n k effect ts down below, times_more (length ts) k)

times_most : (a b : ℕ) (k : ℤ) → a ≤ b → pos 0 ≤ℤ k → (pos a *ℤ k) ≤ℤ (pos b *ℤ k)
times_most zero zero k le h = omega (arith, ints)
times_most zero (suc b) k le h = omega (arith, ints, times_more b k, times_most zero b k (omega arith) h)
times_most (suc a) zero k le h = absurd (omega arith)
times_most (suc a) (suc b) k le h = omega (arith, ints, times_more a k, times_more b k, times_most a b k (omega arith) h)

module _ (lts : System) (tree : List Arc) (class : Class) (s t n : ℕ) (k start : ℤ) (effect : ℕ → ℤ) (fine : IsInRange lts) (g : IsTree lts tree)
    (reach : IsReachable lts s) (in_range : t < labels lts) (plain : class.plain ≡ true) (scale : pos 0 ≤ℤ k)
    (keeps : KeepsRowsOver lts class (Event s t) n k (numbers_along lts tree start effect)) where
  down : (u : ℕ) → u < labels lts → pos 0 ≤ℤ (effect u +ℤ k)
  down u lt = close (effect u) (keeps (row_name.Down u) (lt, plain))
    where
      close : (z : ℤ) → pos 0 ≤ℤ (((pos 1 *ℤ z) +ℤ pos 0) +ℤ (pos 1 *ℤ k)) → pos 0 ≤ℤ (z +ℤ k)
      close z h = omega (arith, ints)

  -- the event is stopped where there are no tokens
  stopped : potential lts tree start effect s ≤ℤ pos 0
  stopped = by class.pure refl
    where
      by : (b : Bool) → class.pure ≡ b → potential lts tree start effect s ≤ℤ pos 0
      by true pure = close (potential lts tree start effect s) (effect t) (keeps row_name.Block pure) (down t in_range)
        where
          close : (m e : ℤ) → pos 0 ≤ℤ (((negsuc 0 *ℤ m) +ℤ ((negsuc 0 *ℤ e) +ℤ pos 0)) +ℤ (negsuc 0 *ℤ k)) → pos 0 ≤ℤ (e +ℤ k) → m ≤ℤ pos 0
          close m e h d = omega (arith, ints)
      by false unpure = close (potential lts tree start effect s) (keeps row_name.Empty (plain, unpure))
        where
          close : (m : ℤ) → pos 0 ≤ℤ (((negsuc 0 *ℤ m) +ℤ pos 0) +ℤ (pos 0 *ℤ k)) → m ≤ℤ pos 0
          close m h = omega (arith, ints)

  pub start_bounded : start ≤ℤ (pos (states lts) *ℤ k)
  start_bounded =
      let way = way_to tree s in
      let leads = led_below lts lts.initial way s fine (way_leads lts tree s g reach) in
      let low = sum_down (labels lts) k effect way down leads in
      let few = way_below lts tree s fine g in
      let most = times_most (length way) (states lts) k (omega arith) scale in
      omega (arith, ints, low, most, stopped, ap (λ z. start +ℤ z) (counted (labels lts) effect way leads))
