-- The place of a point has a result, or its first step out of range.
use Rattle.std.proofs.Common.{◌≡◌, ◌≢◌, ℕ, zero, suc, ◌==◌, ◌&&◌, ◌||◌, not, is_some, Bool, true, false, if◌then◌else◌, List, [], ◌∷◌, ◌++◌, map, Result, Ok, refl, sym, ap, ap₂, subst, arith}
use Rattle.std.specs.Prelude.{ℤ, pos, int_lt, ◌*ℤ◌, unwrap_or, unsigned_abs}
use Rattle.rg_theory.specs.declared.Arc.{Arc}
use Rattle.rg_theory.specs.System.{System, states, labels}
use Rattle.rg_theory.specs.Net.{Place}
use Rattle.rg_theory.specs.declared.Class.{Class}
use Rattle.rg_theory.specs.declared.Problem.{Problem}
use Rattle.rg_theory.proofs.Lists.{map_from}
use Rattle.rg_integers.specs.declared.term.Wide.{Wide}
use Rattle.rg_linear.specs.Cycle.{CycleBasis}
use Rattle.rg_case_folds.specs.Setting.{Setting}
use Rattle.rg_folds.specs.Fold.{gives, and_then, either, each, joined, Ratio, whole, quotient, add, mul, whole_sum, multiple_of_all}
use Rattle.rg_folds.specs.Substitution.{is_in}
use Rattle.rg_case_folds.specs.Rewriting.{has_label, free_columns, all_numbers}
use Rattle.rg_case_folds.specs.Placing.{effect_fold, negated, made_whole, ratio_at, along_tree, lesser, least_from, least_of, is_shifted, is_lifted, missing, shift_fold, top_at, taken, place_of, place_fold}
use Rattle.rg_case_folds.proofs.Lists.{first, behind, where_is, where_has}
use Rattle.rg_outcome.proofs.Steps.{HasSome, Makes, Each, each_none, each_cons, some_given, some_then, makes_then, some_each, makes_each, some_joined, makes_joined, IsOver, whole_over, some_quotient, some_sum, some_product, some_term, sums_join, product_over, some_multiple}
use Rattle.rg_outcome.proofs.SystemResults.{HaveRelations, each_append}

-- ---- numbers with a positive denominator

pub each_mapped : {A X : Type 0} (P : X → Type 0) (f : A → X) (items : List A) → Each (λ a. P (f a)) items → Each P (map f items)
each_mapped P f items all x has = let (a, in_items, e) = map_from f items x has in subst P e (all a in_items)

at_over : (numbers : List Ratio) → Each IsOver numbers → (i : ℕ) → IsOver (ratio_at numbers i)
at_over [] all i = whole_over (pos 0)
at_over (r ∷ numbers) all zero = all r (first r numbers)
at_over (r ∷ numbers) all (suc i) = at_over numbers (λ x has. all x (behind r x numbers has)) i

least_over : (f : Ratio) (rest : List Ratio) → IsOver f → Each IsOver rest → IsOver (least_from f rest)
least_over f [] over all = over
least_over f (g ∷ rest) over all = least_over (lesser f g) rest (by (int_lt (g.top *ℤ f.bottom) (f.top *ℤ g.bottom))) (λ x has. all x (behind g x rest has))
  where
    by : (b : Bool) → IsOver (if b then g else f)
    by true = all g (first g rest)
    by false = over

least_of_over : (numbers : List Ratio) → Each IsOver numbers → IsOver (least_of numbers)
least_of_over [] all = whole_over (pos 0)
least_of_over (f ∷ rest) all = least_over f rest (all f (first f rest)) (λ x has. all x (behind f x rest has))

-- ---- effects

module _ (lts : System) (basis : CycleBasis) (related : HaveRelations lts basis) (value : ℕ → Ratio) (over : Each (λ f. IsOver (value f)) (free_columns lts basis)) where
  abbrev share : ℕ → ℕ → Result Ratio Wide → Type 0
  share t f = and_then (quotient ((basis.relation t).coefficient f) (basis.relation t).d) (λ k. mul (value f) k)

  some_share : (t : ℕ) → (basis.relation t).d ≢ pos 0 → Each (λ f. HasSome (share t f)) (free_columns lts basis)
  some_share t differs f has = some_then (quotient ((basis.relation t).coefficient f) (basis.relation t).d) (λ k. mul (value f) k)
      (some_quotient _ _ differs) (λ k q. some_product (value f) k (over f has) q.positive)

  share_over : (t : ℕ) → Each (λ f. Makes IsOver (share t f)) (free_columns lts basis)
  share_over t f has = makes_then IsOver (quotient ((basis.relation t).coefficient f) (basis.relation t).d) (λ k. mul (value f) k) (λ k q. product_over (value f) k)

  some_effect : Each (λ t. HasSome (effect_fold lts basis value t)) (all_numbers (labels lts))
  some_effect t has = by (has_label t lts.arcs) (is_in basis.members t) refl
    where
      by : (used free : Bool) → is_in basis.members t ≡ free
          → HasSome (either (not used) (gives (whole (pos 0))) (either free (gives (value t)) (joined add (share t) (whole (pos 0)) (free_columns lts basis))))
      by false free e = some_given (whole (pos 0))
      by true true e = some_given (value t)
      by true false e = some_joined IsOver add (share t) (whole (pos 0)) (free_columns lts basis) sums_join
          (some_share t (related t (where_has (λ u. not (is_in basis.members u)) 0 (labels lts) t (ap not e) (omega arith)
          (where_is (λ u. true) 0 (labels lts) t has).2))) (share_over t)

  effect_over : Each (λ t. Makes IsOver (effect_fold lts basis value t)) (all_numbers (labels lts))
  effect_over t has = by (has_label t lts.arcs) refl (is_in basis.members t) refl
    where
      by : (used : Bool) → has_label t lts.arcs ≡ used → (free : Bool) → is_in basis.members t ≡ free
          → Makes IsOver (either (not used) (gives (whole (pos 0))) (either free (gives (value t)) (joined add (share t) (whole (pos 0)) (free_columns lts basis))))
      by false u free e = λ x g. subst IsOver (sym g) (whole_over (pos 0))
      by true u true e = λ x g. subst IsOver (sym g)
          (over t (where_has (λ u. is_in basis.members u && has_label u lts.arcs) 0 (labels lts) t (ap₂ (λ a b. a && b) e u) (omega arith)
          (where_is (λ u. true) 0 (labels lts) t has).2))
      by true u false e = makes_joined IsOver add (share t) (whole (pos 0)) (free_columns lts basis) sums_join (whole_over (pos 0)) (share_over t)

-- ---- made whole

module _ (class : Class) where
  abbrev times_marking : List Ratio → Result (List Ratio) Wide → Type 0
  times_marking products = either (is_some class.marking) (each (λ r. mul r (whole (pos (unwrap_or class.marking 1)))) products) (gives products)

  some_times : (products : List Ratio) → Each IsOver products → HasSome (times_marking products)
  some_times products over = by (is_some class.marking)
    where
      by : (b : Bool) → HasSome (either b (each (λ r. mul r (whole (pos (unwrap_or class.marking 1)))) products) (gives products))
      by true = some_each (λ r. mul r (whole (pos (unwrap_or class.marking 1)))) products
          (λ r has. some_product r (whole (pos (unwrap_or class.marking 1))) (over r has) (whole_over (pos (unwrap_or class.marking 1))))
      by false = some_given products

  times_over : (products : List Ratio) → Each IsOver products → Makes (Each IsOver) (times_marking products)
  times_over products over = by (is_some class.marking)
    where
      by : (b : Bool) → Makes (Each IsOver) (either b (each (λ r. mul r (whole (pos (unwrap_or class.marking 1)))) products) (gives products))
      by true = makes_each IsOver (λ r. mul r (whole (pos (unwrap_or class.marking 1)))) products (λ r has. product_over r (whole (pos (unwrap_or class.marking 1))))
      by false = λ x e. subst (Each IsOver) (sym e) over

  module _ (numbers : List Ratio) (over : Each IsOver numbers) where
    abbrev from_multiple : ℤ → Result (List Ratio) Wide → Type 0
    from_multiple m = and_then (each (λ r. mul r (whole m)) numbers) times_marking

    products_over : (m : ℤ) → Makes (Each IsOver) (each (λ r. mul r (whole m)) numbers)
    products_over m = makes_each IsOver (λ r. mul r (whole m)) numbers (λ r has. product_over r (whole m))

    some_whole : HasSome (made_whole class numbers)
    some_whole = by (class.plain || is_some class.bound)
      where
        by : (b : Bool) → HasSome (either b (gives numbers) (and_then (multiple_of_all (map (λ r. r.bottom) numbers)) from_multiple))
        by true = some_given numbers
        by false = some_then (multiple_of_all (map (λ r. r.bottom) numbers)) from_multiple (some_multiple (map (λ r. r.bottom) numbers))
            (λ m _. some_then (each (λ r. mul r (whole m)) numbers) times_marking
            (some_each (λ r. mul r (whole m)) numbers (λ r has. some_product r (whole m) (over r has) (whole_over m)))
            (λ products h. some_times products (products_over m products h)))

    whole_made_over : Makes (Each IsOver) (made_whole class numbers)
    whole_made_over = by (class.plain || is_some class.bound)
      where
        by : (b : Bool) → Makes (Each IsOver) (either b (gives numbers) (and_then (multiple_of_all (map (λ r. r.bottom) numbers)) from_multiple))
        by true = λ x e. subst (Each IsOver) (sym e) over
        by false = makes_then (Each IsOver) (multiple_of_all (map (λ r. r.bottom) numbers)) from_multiple
            (λ m _. makes_then (Each IsOver) (each (λ r. mul r (whole m)) numbers) times_marking (λ products h. times_over products (products_over m products h)))

-- ---- shifted

module _ (lts : System) (class : Class) (problem : Problem) (numbers : List Ratio) (over : Each IsOver numbers) where
  abbrev moved_by : Result (List Ratio) Wide → Type 0
  moved_by = either (is_shifted class) (each (λ m. add m (negated (least_of numbers))) numbers) (gives numbers)

  abbrev lifted_by : List Ratio → Result (List Ratio) Wide → Type 0
  lifted_by moved = either (is_lifted class problem) (each (λ m. add m (whole (pos (missing (unwrap_or class.marking 1) (unsigned_abs (top_at moved lts.initial)))))) moved) (gives moved)

  some_moved : HasSome moved_by
  some_moved = by (is_shifted class)
    where
      by : (b : Bool) → HasSome (either b (each (λ m. add m (negated (least_of numbers))) numbers) (gives numbers))
      by true = some_each (λ m. add m (negated (least_of numbers))) numbers (λ m has. some_sum m (negated (least_of numbers)) (over m has) (least_of_over numbers over))
      by false = some_given numbers

  moved_over : Makes (Each IsOver) moved_by
  moved_over = by (is_shifted class)
    where
      by : (b : Bool) → Makes (Each IsOver) (either b (each (λ m. add m (negated (least_of numbers))) numbers) (gives numbers))
      by true = makes_each IsOver (λ m. add m (negated (least_of numbers))) numbers (λ m has. sums_join.makes m (negated (least_of numbers)) (over m has) (least_of_over numbers over))
      by false = λ x e. subst (Each IsOver) (sym e) over

  some_lifted : (moved : List Ratio) → Each IsOver moved → HasSome (lifted_by moved)
  some_lifted moved all = by (is_lifted class problem)
    where
      by : (b : Bool) → HasSome (either b (each (λ m. add m (whole (pos (missing (unwrap_or class.marking 1) (unsigned_abs (top_at moved lts.initial)))))) moved) (gives moved))
      by true = some_each (λ m. add m (whole (pos (missing (unwrap_or class.marking 1) (unsigned_abs (top_at moved lts.initial)))))) moved
          (λ m has. some_sum m (whole (pos (missing (unwrap_or class.marking 1) (unsigned_abs (top_at moved lts.initial))))) (all m has)
          (whole_over (pos (missing (unwrap_or class.marking 1) (unsigned_abs (top_at moved lts.initial))))))
      by false = some_given moved

  some_shift : HasSome (shift_fold lts class problem numbers)
  some_shift = some_then moved_by lifted_by some_moved (λ moved h. some_lifted moved (moved_over moved h))

-- ---- along the tree

stepped_over : (number : ℕ → Ratio) (to : ℕ) (m : Ratio) → ((s : ℕ) → IsOver (number s)) → IsOver m → (s : ℕ) → IsOver (if s == to then m else number s)
stepped_over number to m all over s = by (s == to)
  where
    by : (b : Bool) → IsOver (if b then m else number s)
    by true = over
    by false = all s

some_along : (effect number : ℕ → Ratio) (arcs : List Arc) → ((t : ℕ) → IsOver (effect t)) → ((s : ℕ) → IsOver (number s)) → HasSome (along_tree effect number arcs)
some_along effect number [] effects numbers = some_given number
some_along effect number (a ∷ arcs) effects numbers =
    some_then (add (number a.from) (effect a.label)) (λ m. along_tree effect (λ s. if s == a.to then m else number s) arcs)
    (some_sum (number a.from) (effect a.label) (numbers a.from) (effects a.label))
    (λ m h. some_along effect (λ s. if s == a.to then m else number s) arcs effects
    (stepped_over number a.to m numbers (sums_join.makes (number a.from) (effect a.label) (numbers a.from) (effects a.label) m h)))

along_over : (effect number : ℕ → Ratio) (arcs : List Arc) → ((t : ℕ) → IsOver (effect t)) → ((s : ℕ) → IsOver (number s)) → Makes (λ n. (s : ℕ) → IsOver (n s)) (along_tree effect number arcs)
along_over effect number [] effects numbers = λ n e. subst (λ (n : ℕ → Ratio). (s : ℕ) → IsOver (n s)) (sym e) numbers
along_over effect number (a ∷ arcs) effects numbers =
    makes_then (λ (n : ℕ → Ratio). (s : ℕ) → IsOver (n s)) (add (number a.from) (effect a.label)) (λ m. along_tree effect (λ s. if s == a.to then m else number s) arcs)
    (λ m h. along_over effect (λ s. if s == a.to then m else number s) arcs effects
    (stepped_over number a.to m numbers (sums_join.makes (number a.from) (effect a.label) (numbers a.from) (effects a.label) m h)))

-- ---- the place

module _ (it : Setting) (problem : Problem) where
  abbrev from_shifted : List Ratio → List Ratio → Result Place Wide → Type 0
  from_shifted found numbers = and_then (each (λ u. whole_sum (taken it.lts it.class problem numbers found u) (top_at found u))
      (all_numbers (labels it.lts))) (λ post. gives (place_of it.lts numbers (map (taken it.lts it.class problem numbers found) (all_numbers (labels it.lts))) post))

  abbrev from_number : List Ratio → (ℕ → Ratio) → Result Place Wide → Type 0
  from_number found number = and_then (shift_fold it.lts it.class problem (map number (all_numbers (states it.lts)))) (from_shifted found)

  abbrev from_found : List Ratio → Result Place Wide → Type 0
  from_found found = and_then (along_tree (ratio_at found) (λ s. ratio_at found (labels it.lts)) it.tree) (from_number found)

  some_shifted : (found numbers : List Ratio) → HasSome (from_shifted found numbers)
  some_shifted found numbers = some_then (each (λ u. whole_sum (taken it.lts it.class problem numbers found u) (top_at found u)) (all_numbers (labels it.lts)))
      (λ post. gives (place_of it.lts numbers (map (taken it.lts it.class problem numbers found) (all_numbers (labels it.lts))) post))
      (some_each (λ u. whole_sum (taken it.lts it.class problem numbers found u) (top_at found u)) (all_numbers (labels it.lts)) (λ u has. some_term _))
      (λ post _. some_given (place_of it.lts numbers (map (taken it.lts it.class problem numbers found) (all_numbers (labels it.lts))) post))

  some_numbered : (found : List Ratio) (number : ℕ → Ratio) → ((s : ℕ) → IsOver (number s)) → HasSome (from_number found number)
  some_numbered found number over = some_then (shift_fold it.lts it.class problem (map number (all_numbers (states it.lts)))) (from_shifted found)
      (some_shift it.lts it.class problem (map number (all_numbers (states it.lts))) (each_mapped IsOver number (all_numbers (states it.lts)) (λ s has. over s)))
      (λ numbers _. some_shifted found numbers)

  some_found : (found : List Ratio) → Each IsOver found → HasSome (from_found found)
  some_found found over = some_then (along_tree (ratio_at found) (λ s. ratio_at found (labels it.lts)) it.tree) (from_number found)
      (some_along (ratio_at found) (λ s. ratio_at found (labels it.lts)) it.tree (at_over found over) (λ s. at_over found over (labels it.lts)))
      (λ number h. some_numbered found number (along_over (ratio_at found) (λ s. ratio_at found (labels it.lts)) it.tree (at_over found over) (λ s. at_over found over (labels it.lts)) number h))

  pub some_place : (start : Ratio) (value : ℕ → Ratio) → HaveRelations it.lts it.basis → IsOver start
      → Each (λ f. IsOver (value f)) (free_columns it.lts it.basis) → HasSome (place_fold it problem start value)
  some_place start value related over values =
      some_then (each (effect_fold it.lts it.basis value) (all_numbers (labels it.lts)))
      (λ effects. and_then (made_whole it.class (effects ++ start ∷ [])) from_found)
      (some_each (effect_fold it.lts it.basis value) (all_numbers (labels it.lts)) (some_effect it.lts it.basis related value values))
      (λ effects h. some_then (made_whole it.class (effects ++ start ∷ [])) from_found (some_whole it.class (effects ++ start ∷ []) (all effects h))
      (λ found g. some_found found (whole_made_over it.class (effects ++ start ∷ []) (all effects h) found g)))
    where
      all : (effects : List Ratio) → each (effect_fold it.lts it.basis value) (all_numbers (labels it.lts)) (Ok effects) → Each IsOver (effects ++ start ∷ [])
      all effects h = each_append IsOver effects (start ∷ [])
          (makes_each IsOver (effect_fold it.lts it.basis value) (all_numbers (labels it.lts))
          (effect_over it.lts it.basis related value values) effects h) (each_cons IsOver start [] over (each_none IsOver))
