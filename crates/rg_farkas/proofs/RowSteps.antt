-- The steps of sums over rows and over the arcs that leave a state.
use Rattle.std.proofs.Common.{◌≡◌, ◌≢◌, ℕ, ◌+◌, ◌<◌, ◌≤◌, ◌==◌, Bool, true, false, if◌then◌else◌, List, ◌∷◌, map, drop, length, Result, Ok, Err, ap, ap₂, refl, subst, sym, ◌∙◌, inl, inr, arith, eq-eqb, ne_eqb}
use Rattle.std.specs.Prelude.{ℤ, pos, slice_index_or}
use Rattle.std.proofs.lemmas.List.{length-map, get_or-map, drop_all}
use Rattle.rg_theory.specs.declared.Arc.{Arc}
use Rattle.rg_integers.specs.declared.term.Wide.{Wide}
use Rattle.rg_folds.specs.Fold.{further, whole_sum, whole_product}
use Rattle.rg_case_folds.specs.Spreading.{Addend.number, addend_fold, leaving}
use Rattle.rg_farkas.specs.declared.multiplied.Row.{Row}
use Rattle.rg_farkas.specs.View.{row_addend, size_fold, coefficient_at, arc_times}
use Rattle.rg_case_folds.proofs.Items.{from_index}
use Rattle.rg_farkas.proofs.Steps.{sum_next, sum_unmade, sum_unjoined, sum_ends}
use Rattle.rg_cert_meaning.specs.declared.Variable.TheVariants.{Tokens}

-- ---- absolute values

module _ (value : Row → ℤ) (rows : List Row) (i : ℕ) (r : Row) (lt : i < length rows) (is : r ≡ slice_index_or rows i r) (sum : ℤ)
    (so_far : (res : Result ℤ Wide) → further whole_sum (size_fold value) sum (drop i rows) res → further whole_sum (size_fold value) (pos 0) rows res) where
  size_made : (res : Result ℤ Wide) → size_fold value r res → size_fold value (slice_index_or rows i r) res
  size_made res made = subst (λ u. size_fold value u res) is made

  pub size_unmade : (w : Wide) → size_fold value r (Err w) → further whole_sum (size_fold value) (pos 0) rows (Err w)
  size_unmade w made = sum_unmade whole_sum (size_fold value) rows i r lt sum (further whole_sum (size_fold value) (pos 0) rows) so_far w (size_made (Err w) made)

  pub size_unjoined : (z : ℤ) (w : Wide) → size_fold value r (Ok z) → whole_sum sum z (Err w) → further whole_sum (size_fold value) (pos 0) rows (Err w)
  size_unjoined z w made joins = sum_unjoined whole_sum (size_fold value) rows i r lt sum (further whole_sum (size_fold value) (pos 0) rows) so_far z w (size_made (Ok z) made) joins

  pub size_next : (z more : ℤ) → size_fold value r (Ok z) → whole_sum sum z (Ok more) → (res : Result ℤ Wide)
      → further whole_sum (size_fold value) more (drop (i + 1) rows) res → further whole_sum (size_fold value) (pos 0) rows res
  size_next z more made joins = sum_next whole_sum (size_fold value) rows i r lt sum (further whole_sum (size_fold value) (pos 0) rows) so_far z more (size_made (Ok z) made) joins

pub size_ends : (f : Row → ℤ) (rows : List Row) (i : ℕ) (sum : ℤ)
    → ((res : Result ℤ Wide) → further whole_sum (size_fold f) sum (drop i rows) res → further whole_sum (size_fold f) (pos 0) rows res)
    → length rows ≤ i → further whole_sum (size_fold f) (pos 0) rows (Ok sum)
size_ends f rows i sum so_far past = sum_ends whole_sum (size_fold f) rows i sum (further whole_sum (size_fold f) (pos 0) rows) so_far past

-- ---- the tokens at a state

module _ (s : ℕ) (rows : List Row) (i : ℕ) (r : Row) (lt : i < length rows) (is : r ≡ slice_index_or rows i r) (sum : ℤ)
    (so_far : (res : Result ℤ Wide) → further whole_sum addend_fold sum (drop i (map (row_addend s) rows)) res
    → further whole_sum addend_fold (pos 0) (map (row_addend s) rows) res) where
  item : slice_index_or (map (row_addend s) rows) i (row_addend s r) ≡ row_addend s r
  item = get_or-map (row_addend s) rows i r (row_addend s r) lt ∙ ap (row_addend s) (sym is)

  within : i < length (map (row_addend s) rows)
  within = subst (λ n. i < n) (sym (length-map rows (row_addend s))) lt

  product_made : (res : Result ℤ Wide) → whole_product r.multiplier (coefficient_at (Tokens s) r) res → addend_fold (slice_index_or (map (row_addend s) rows) i (row_addend s r)) res
  product_made res product = subst (λ a. addend_fold a res) (sym item) product

  pub row_unmade : (w : Wide) → whole_product r.multiplier (coefficient_at (Tokens s) r) (Err w) → further whole_sum addend_fold (pos 0) (map (row_addend s) rows) (Err w)
  row_unmade w product = sum_unmade whole_sum addend_fold (map (row_addend s) rows) i (row_addend s r) within sum
      (further whole_sum addend_fold (pos 0) (map (row_addend s) rows)) so_far w (product_made (Err w) product)

  pub row_unjoined : (z : ℤ) (w : Wide) → whole_product r.multiplier (coefficient_at (Tokens s) r) (Ok z) → whole_sum sum z (Err w)
      → further whole_sum addend_fold (pos 0) (map (row_addend s) rows) (Err w)
  row_unjoined z w product joins = sum_unjoined whole_sum addend_fold (map (row_addend s) rows) i (row_addend s r) within sum
      (further whole_sum addend_fold (pos 0) (map (row_addend s) rows)) so_far z w (product_made (Ok z) product) joins

  pub row_next : (z more : ℤ) → whole_product r.multiplier (coefficient_at (Tokens s) r) (Ok z) → whole_sum sum z (Ok more) → (res : Result ℤ Wide)
      → further whole_sum addend_fold more (drop (i + 1) (map (row_addend s) rows)) res → further whole_sum addend_fold (pos 0) (map (row_addend s) rows) res
  row_next z more product joins = sum_next whole_sum addend_fold (map (row_addend s) rows) i (row_addend s r) within sum
      (further whole_sum addend_fold (pos 0) (map (row_addend s) rows)) so_far z more (product_made (Ok z) product) joins

pub row_ends : (s : ℕ) (rows : List Row) (i : ℕ) (sum : ℤ)
    → ((res : Result ℤ Wide) → further whole_sum addend_fold sum (drop i (map (row_addend s) rows)) res
    → further whole_sum addend_fold (pos 0) (map (row_addend s) rows) res) → length rows ≤ i → further whole_sum addend_fold (pos 0) (map (row_addend s) rows) (Ok sum)
row_ends s rows i sum so_far past = sum_ends whole_sum addend_fold (map (row_addend s) rows) i sum
    (further whole_sum addend_fold (pos 0) (map (row_addend s) rows)) so_far (subst (λ n. n ≤ i) (sym (length-map rows (row_addend s))) past)

-- ---- the arcs that leave a state

times_here : (arcs : List Arc) (zs : List ℤ) (k : ℕ) (d : Arc) (e : ℤ) → k < length arcs → length zs ≡ length arcs
    → arc_times (drop k arcs) (drop k zs) ≡ record { arc = slice_index_or arcs k d; multiplier = slice_index_or zs k e } ∷ arc_times (drop (k + 1) arcs) (drop (k + 1) zs)
times_here arcs zs k d e lt same = ap₂ arc_times (from_index arcs k d lt) (from_index zs k e (omega arith))

module _ (s : ℕ) (arcs : List Arc) (zs : List ℤ) (k : ℕ) (d : Arc) (e : ℤ) (lt : k < length arcs) (same : length zs ≡ length arcs) (sum start : ℤ)
    (so_far : (res : Result ℤ Wide) → further whole_sum addend_fold sum (leaving s (arc_times (drop k arcs) (drop k zs))) res
    → further whole_sum addend_fold start (leaving s (arc_times arcs zs)) res) where
  leaving_here : (b : Bool) → ((slice_index_or arcs k d).from == s) ≡ b
      → leaving s (arc_times (drop k arcs) (drop k zs))
      ≡ (if b then (number (slice_index_or zs k e) ∷ leaving s (arc_times (drop (k + 1) arcs) (drop (k + 1) zs))) else leaving s
      (arc_times (drop (k + 1) arcs) (drop (k + 1) zs)))
  leaving_here b is = ap (leaving s) (times_here arcs zs k d e lt same)
      ∙ ap (λ c. if c then (number (slice_index_or zs k e) ∷ leaving s (arc_times (drop (k + 1) arcs) (drop (k + 1) zs))) else leaving s
      (arc_times (drop (k + 1) arcs) (drop (k + 1) zs))) is

  pub leaving_taken : (more : ℤ) → (slice_index_or arcs k d).from ≡ s → whole_sum sum (slice_index_or zs k e) (Ok more) → (res : Result ℤ Wide)
      → further whole_sum addend_fold more (leaving s (arc_times (drop (k + 1) arcs) (drop (k + 1) zs))) res
      → further whole_sum addend_fold start (leaving s (arc_times arcs zs)) res
  leaving_taken more is joins (Ok y) h = so_far (Ok y)
      (subst (λ l. further whole_sum addend_fold sum l (Ok y)) (sym (leaving_here true (eq-eqb (slice_index_or arcs k d).from s is)))
      (slice_index_or zs k e, refl, (more, joins, h)))
  leaving_taken more is joins (Err w) h = so_far (Err w)
      (subst (λ l. further whole_sum addend_fold sum l (Err w)) (sym (leaving_here true (eq-eqb (slice_index_or arcs k d).from s is)))
      (inr (slice_index_or zs k e, refl, inr (more, joins, h))))

  pub leaving_fails : (w : Wide) → (slice_index_or arcs k d).from ≡ s → whole_sum sum (slice_index_or zs k e) (Err w) → further whole_sum addend_fold start (leaving s (arc_times arcs zs)) (Err w)
  leaving_fails w is joins = so_far (Err w) (subst (λ l. further whole_sum addend_fold sum l (Err w))
      (sym (leaving_here true (eq-eqb (slice_index_or arcs k d).from s is))) (inr (slice_index_or zs k e, refl, inl joins)))

  pub leaving_left : (slice_index_or arcs k d).from ≢ s → (res : Result ℤ Wide)
      → further whole_sum addend_fold sum (leaving s (arc_times (drop (k + 1) arcs) (drop (k + 1) zs))) res
      → further whole_sum addend_fold start (leaving s (arc_times arcs zs)) res
  leaving_left ne res h = so_far res (subst (λ l. further whole_sum addend_fold sum l res) (sym (leaving_here false (ne_eqb (slice_index_or arcs k d).from s ne))) h)

pub leaving_ends : (s : ℕ) (arcs : List Arc) (zs : List ℤ) (k : ℕ) (sum start : ℤ)
    → ((res : Result ℤ Wide) → further whole_sum addend_fold sum (leaving s (arc_times (drop k arcs) (drop k zs))) res
    → further whole_sum addend_fold start (leaving s (arc_times arcs zs)) res) → length arcs ≤ k → further whole_sum addend_fold start (leaving s (arc_times arcs zs))
    (Ok sum)
leaving_ends s arcs zs k sum start so_far past = so_far (Ok sum) (subst (λ l. further whole_sum addend_fold sum (leaving s (arc_times l (drop k zs))) (Ok sum)) (sym (drop_all k arcs past)) refl)
