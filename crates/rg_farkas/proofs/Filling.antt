-- The multipliers of the arcs of the tree, found by one sum for each state.
use Rattle.std.proofs.Common.{◌≡◌, ℕ, ◌+◌, ◌^◌, ◌<◌, ◌≤◌, ◌==◌, if◌then◌else◌, List, [], ◌∷◌, ◌++◌, map, take, drop, reverse, set, length, slice_index_or, Result, Ok, All, ap, ap₂, refl, subst, sym, ◌∙◌, arith}
use Rattle.std.specs.Prelude.{ℤ, pos, ◌+ℤ◌, ◌≤ℤ◌, unsigned_abs}
use Rattle.std.proofs.lemmas.Int.{ints}
use Rattle.std.proofs.lemmas.List.{drop-set, drop_all, append-nil, length-set, length-replicate, get_or-replicate}
use Rattle.std.proofs.lemmas.List.Elements.{All-drop, All-set, All-replicate}
use Rattle.std.proofs.Math.ListN.{replicate}
use Rattle.rg_theory.specs.declared.Arc.{Arc}
use Rattle.rg_integers.specs.Range.{InRange}
use Rattle.rg_integers.specs.Sign.{size}
use Rattle.rg_integers.specs.declared.term.Wide.{Wide}
use Rattle.rg_cert_meaning.specs.Expression.{Expression}
use Rattle.rg_cert_meaning.specs.declared.RowName.{RowName}
use Rattle.rg_folds.specs.Fold.{further, whole_sum}
use Rattle.rg_case_folds.specs.Spreading.{ArcTimes, addend_fold, leaving, tree_fold}
use Rattle.rg_case_folds.proofs.Items.{from_index}
use Rattle.rg_farkas.specs.declared.multiplied.Row.{Row}
use Rattle.rg_farkas.specs.View.{named_of, Tells, arc_times, row_addend, size_fold}
use Rattle.rg_farkas.specs.Addends.{total}
use Rattle.rg_farkas.proofs.Bounded.{made_sum}
use Rattle.rg_farkas.proofs.AddendSums.{weight, small_sum, total_next, weight_next, rows_weight}
use Rattle.rg_farkas.proofs.Told.{sum_told, tree_next, tree_starts, tree_ends}

-- the arcs from i on have their multipliers, and each state has the sum of what adds up there; no absolute values add
-- up to more than the bound
pub record Filled (rows : List Row) (tree : List Arc) (i : ℕ) (sums ms : List ℤ) (bound : ℤ) : Type 0 where
  pub sums_are : (q : ℕ) → q < length sums → slice_index_or sums q (pos 0) ≡ total (map (row_addend q) rows ++ leaving q (arc_times (drop i tree) (drop i ms)))
  pub weights : (q : ℕ) → weight (map (row_addend q) rows ++ leaving q (arc_times (drop i tree) (drop i ms))) ≤ unsigned_abs bound
  pub sums_in_range : All InRange sums
  pub bound_in_range : InRange bound
  pub bound_positive : pos 0 ≤ℤ bound
  pub one_each : length ms ≡ length tree
  pub in_range : All InRange ms
  pub so_far : (expression : RowName → Expression) → All (Tells expression) rows → (r : Result (List ArcTimes) Wide)
      → tree_fold expression (map named_of rows) (arc_times (drop i tree) (drop i ms)) (reverse (take i tree)) r → tree_fold expression (map named_of rows) [] (reverse tree) r

-- the arc before gets the sum at its target
module _ (rows : List Row) (tree : List Arc) (k : ℕ) (d : Arc) (sums ms : List ℤ) (bound : ℤ) (lt : k < length tree) (filled : Filled rows tree (k + 1) sums ms bound)
    (sums' : List ℤ) (bound' m : ℤ) (long : length sums' ≡ length sums) (within : (slice_index_or tree k d).to < length sums) (is : m ≡ slice_index_or sums (slice_index_or tree k d).to (pos 0))
    (added : (q : ℕ) → q < length sums → slice_index_or sums' q (pos 0) ≡ slice_index_or sums q (pos 0) +ℤ (if (slice_index_or tree k d).from == q then m else pos 0))
    (more : bound' ≡ bound +ℤ size m) (range' : All InRange sums') (bound_range' : InRange bound') (own_range : InRange m) where
  abbrev done : List ArcTimes
  done = arc_times (drop (k + 1) tree) (drop (k + 1) ms)

  abbrev here : ArcTimes
  here = record { arc = slice_index_or tree k d; multiplier = m }

  times_here : arc_times (drop k tree) (drop k (set ms k m)) ≡ here ∷ done
  times_here = let same = filled.one_each in ap₂ arc_times (from_index tree k d lt) (drop-set ms k m (omega arith))

  sum_here : further whole_sum addend_fold (pos 0) (map (row_addend (slice_index_or tree k d).to) rows ++ leaving (slice_index_or tree k d).to done) (Ok m)
  sum_here = subst (λ z. further whole_sum addend_fold (pos 0) (map (row_addend (slice_index_or tree k d).to) rows ++ leaving (slice_index_or tree k d).to done) (Ok z))
      (none (total (map (row_addend (slice_index_or tree k d).to) rows ++ leaving (slice_index_or tree k d).to done)) ∙ sym (is ∙ filled.sums_are (slice_index_or tree k d).to within))
      (small_sum (map (row_addend (slice_index_or tree k d).to) rows ++ leaving (slice_index_or tree k d).to done) (pos 0)
      (small (weight (map (row_addend (slice_index_or tree k d).to) rows ++ leaving (slice_index_or tree k d).to done)) (filled.weights (slice_index_or tree k d).to) filled.bound_in_range))
    where
      none : (z : ℤ) → pos 0 +ℤ z ≡ z
      none z = omega (arith, ints)

      small : (w : ℕ) → w ≤ unsigned_abs bound → InRange bound → unsigned_abs (pos 0) + w < 2 ^ 127
      small w le range = omega arith

  weights_here : (q : ℕ) → weight (map (row_addend q) rows ++ leaving q (here ∷ done)) ≤ unsigned_abs bound'
  weights_here q = greater (weight (map (row_addend q) rows ++ leaving q (here ∷ done))) (weight (map (row_addend q) rows ++ leaving q done)) bound bound' m
      (weight_next q (map (row_addend q) rows) here done) (filled.weights q) filled.bound_positive more
    where
      greater : (a b : ℕ) (x y m : ℤ) → a ≤ b + unsigned_abs m → b ≤ unsigned_abs x → pos 0 ≤ℤ x → y ≡ x +ℤ pos (unsigned_abs m) → a ≤ unsigned_abs y
      greater a b x y m le below positive e = subst (λ z. a ≤ unsigned_abs z) (sym e) (omega (arith, ints))

  pub fill_next : Filled rows tree k sums' (set ms k m) bound'
  fill_next = record {
    sums_are = λ q below. (let inside : q < length sums = omega arith in
        added q inside ∙ ap (λ z. z +ℤ (if (slice_index_or tree k d).from == q then m else pos 0)) (filled.sums_are q inside)
        ∙ sym (total_next q (map (row_addend q) rows) here done) ∙ ap (λ l. total (map (row_addend q) rows ++ leaving q l)) (sym times_here));
    weights = λ q. subst (λ l. weight (map (row_addend q) rows ++ leaving q l) ≤ unsigned_abs bound') (sym times_here) (weights_here q);
    sums_in_range = range';
    bound_in_range = bound_range';
    bound_positive = positive bound bound' (unsigned_abs m) filled.bound_positive more;
    one_each = length-set ms k m ∙ filled.one_each;
    in_range = All-set InRange ms k m own_range filled.in_range;
    so_far = λ expression told. tree_next expression (map named_of rows) tree ms k d lt filled.one_each (filled.so_far expression told) m
        (sum_told expression rows (slice_index_or tree k d).to (drop (k + 1) tree) (drop (k + 1) ms) (Ok m) told (All-drop InRange (k + 1) ms filled.in_range) sum_here);
  }
    where
      positive : (x y : ℤ) (n : ℕ) → pos 0 ≤ℤ x → y ≡ x +ℤ pos n → pos 0 ≤ℤ y
      positive x y n le e = subst (λ z. pos 0 ≤ℤ z) (sym e) (omega (arith, ints))

-- no arc has its multiplier yet
pub fill_start : (rows : List Row) (tree : List Arc) (zeros sums ms : List ℤ) (bound : ℤ) → zeros ≡ replicate (length zeros) (pos 0) → ms ≡ replicate (length tree) (pos 0)
    → further whole_sum (size_fold (λ r. pos 3)) (pos 0) rows (Ok bound) → pos 0 ≤ℤ bound → InRange bound → length sums ≡ length zeros
    → ((q : ℕ) → q < length zeros → slice_index_or sums q (pos 0) ≡ slice_index_or zeros q (pos 0) +ℤ total (map (row_addend q) rows)) → All InRange sums
    → Filled rows tree (length tree) sums ms bound
fill_start rows tree zeros sums ms bound none ms_zero most positive bound_range long added range = record {
  sums_are = λ q below. (let inside : q < length zeros = omega arith in
      added q inside ∙ ap (λ z. z +ℤ total (map (row_addend q) rows)) (zero_at q inside) ∙ first (total (map (row_addend q) rows)) ∙ ap total (sym (alone q)));
  weights = λ q. subst (λ l. weight l ≤ unsigned_abs bound) (sym (alone q)) (let h = rows_weight q rows 0 bound most in omega (arith, h));
  sums_in_range = range;
  bound_in_range = bound_range;
  bound_positive = positive;
  one_each = ap length ms_zero ∙ length-replicate (length tree) (pos 0);
  in_range = subst (All InRange) (sym ms_zero) (All-replicate InRange (length tree) (pos 0) (omega arith));
  so_far = λ expression told. tree_starts expression (map named_of rows) tree ms (length tree) refl;
}
  where
    zero_at : (q : ℕ) → q < length zeros → slice_index_or zeros q (pos 0) ≡ pos 0
    zero_at q below = ap (λ l. slice_index_or l q (pos 0)) none ∙ get_or-replicate (length zeros) q (pos 0) (pos 0) below

    first : (z : ℤ) → pos 0 +ℤ z ≡ z
    first z = omega (arith, ints)

    alone : (q : ℕ) → map (row_addend q) rows ++ leaving q (arc_times (drop (length tree) tree) (drop (length tree) ms)) ≡ map (row_addend q) rows
    alone q = ap (λ l. map (row_addend q) rows ++ leaving q (arc_times l (drop (length tree) ms))) (drop_all (length tree) tree (omega arith)) ∙ append-nil (map (row_addend q) rows)

-- all arcs have theirs
pub fill_end : (rows : List Row) (tree : List Arc) (sums ms : List ℤ) (bound : ℤ) (i : ℕ) → i ≡ 0 → Filled rows tree i sums ms bound
    → (expression : RowName → Expression) → All (Tells expression) rows → tree_fold expression (map named_of rows) [] (reverse tree) (Ok (arc_times tree ms))
fill_end rows tree sums ms bound i e filled expression told = tree_ends expression (map named_of rows) tree ms (subst (λ n. (r : Result (List ArcTimes) Wide)
    → tree_fold expression (map named_of rows) (arc_times (drop n tree) (drop n ms)) (reverse (take n tree)) r
    → tree_fold expression (map named_of rows) [] (reverse tree) r) e (filled.so_far expression told))

-- a sum of absolute values isn't negative, and in range
pub sizes_positive : (rows : List Row) (n : ℕ) (t : ℤ) → n < 2 ^ 127 → further whole_sum (size_fold (λ r. pos 3)) (pos n) rows (Ok t) → (pos 0 ≤ℤ t) × InRange t
sizes_positive [] n t lt e = (subst (λ z. pos 0 ≤ℤ z) (sym e) (omega (arith, ints)), subst InRange (sym e) lt)
sizes_positive (r ∷ rows) n t lt (z, (x, times, e), (more, joins, rest)) =
    let sum = made_sum n (unsigned_abs x) more (subst (λ y. whole_sum (pos n) y (Ok more)) e joins) in
    sizes_positive rows (n + unsigned_abs x) t sum.1 (subst (λ y. further whole_sum (size_fold (λ r. pos 3)) y rows (Ok t)) sum.0 rest)
