-- What the labels take from the place and put on it, and the place that has these weights.
use Rattle.std.proofs.Common.{◌≡◌, ⊎_elim, ℕ, suc, ◌+◌, ◌-◌, ◌<◌, ◌≤◌, ◌^◌, Bool, true, false, if◌then◌else◌, List, map, length, slice_index_or, All, Ok, refl, sym, ap, subst, ◌∙◌, arith, zero-add}
use Rattle.std.specs.Prelude.{ℤ, pos, negsuc, neg_ℤ, ◌+ℤ◌, ◌-ℤ◌, ◌*ℤ◌, ◌≤ℤ◌, int_lt, unsigned_abs}
use borrow.Author.Differences.{up, down}
use Rattle.std.specs.List.{range_with_len}
use Rattle.std.proofs.lemmas.Int.{ints}
use Rattle.std.proofs.lemmas.Bool.{cases_Bool}
use Rattle.std.proofs.lemmas.List.{length-map, get_or-map, ext_get_or}
use Rattle.std.proofs.lemmas.List.FromFn.{get_or-map-range_with_len, length-map-range_with_len}
use Rattle.std.proofs.lemmas.List.Elements.{All-from_get_or}
use Rattle.rg_theory.specs.System.{System, IsInRange, states}
use Rattle.rg_theory.specs.Net.{Place}
use Rattle.rg_theory.specs.declared.Class.{Class}
use Rattle.rg_theory.specs.Region.{RegionIn}
use Rattle.rg_theory.proofs.Arcs.{arc_in_range}
use Rattle.std.proofs.Common.{IfSome, Option, Some, None}
use Rattle.rg_integers.specs.Range.{InRange, greatest}
use Rattle.rg_integers.proofs.Ranges.{zero_in_range, in_range-neg}
use Rattle.rg_integers.specs.Sum.{number_at}
use Rattle.rg_cert_meaning.proofs.Making.{place_by}
use Rattle.rg_folds.specs.Fold.{each, whole_sum}
use Rattle.rg_case_folds.specs.Rewriting.{all_numbers}
use Rattle.rg_case_folds.specs.Placing.{taken_by_effect}
use Rattle.rg_case_folds.proofs.Items.{each_length}
use Rattle.rg_case_folds.proofs.Wholes.{each_at}
use Rattle.rg_integers.proofs.Ring.{mul-one}
use Rattle.rg_case_folds.proofs.Found.{all_length, all_at}

-- ---- numbers

not_taken : (n : ℕ) → taken_by_effect (pos n) ≡ pos 0
not_taken n = ap (λ b. if b then neg_ℤ (pos n) else pos 0) (low n)
  where
    low : (n : ℕ) → int_lt (pos n) (pos 0) ≡ false
    low n = ⊎_elim (λ e. absurd (none n e)) (λ e. e) (cases_Bool (int_lt (pos n) (pos 0)))
      where
        none : (n : ℕ) → int_lt (pos n) (pos 0) ≡ true → ⊥
        none n e = omega (arith, ints)

pub taken_down : (e : ℤ) → unsigned_abs (taken_by_effect e) ≡ down e
taken_down (pos n) = ap unsigned_abs (not_taken n)
taken_down (negsuc n) = refl

pub given_up : (e : ℤ) → unsigned_abs (taken_by_effect e +ℤ e) ≡ up e
given_up (pos n) = ap (λ z. unsigned_abs (z +ℤ pos n)) (not_taken n) ∙ gone n
  where
    gone : (n : ℕ) → unsigned_abs (pos 0 +ℤ pos n) ≡ n
    gone n = omega (arith, ints)
given_up (negsuc n) = gone n
  where
    gone : (n : ℕ) → unsigned_abs (pos (suc n) +ℤ negsuc n) ≡ 0
    gone n = omega (arith, ints)

-- a number that passes its effect's part
pub more_up : (l e : ℤ) → pos 0 ≤ℤ l → down e ≤ unsigned_abs l → unsigned_abs (l +ℤ e) ≡ unsigned_abs l + up e - down e
more_up (pos n) (pos k) h g = omega (arith, ints)
more_up (pos n) (negsuc k) h g = omega (arith, ints)
more_up (negsuc n) e h g = absurd (omega (arith, ints))

-- the opposite of a negative effect
pub opposite_down : (e : ℤ) → 0 < down e → unsigned_abs (neg_ℤ e) ≡ down e
opposite_down (pos n) h = absurd (omega arith)
opposite_down (negsuc n) h = refl

pub opposite_up : (e : ℤ) → 0 < down e → unsigned_abs (neg_ℤ e +ℤ e) ≡ up e
opposite_up (pos n) h = absurd (omega arith)
opposite_up (negsuc n) h = gone n
  where
    gone : (n : ℕ) → unsigned_abs (pos (suc n) +ℤ negsuc n) ≡ 0
    gone n = omega (arith, ints)

pub taken_fits : (e : ℤ) → InRange e → InRange (taken_by_effect e)
taken_fits e fits = go (int_lt e (pos 0))
  where
    go : (b : Bool) → InRange (if b then neg_ℤ e else pos 0)
    go true = in_range-neg e fits
    go false = zero_in_range

at_most : (n k : ℕ) → n < k → n ≤ k - 1
at_most n k lt = omega arith

pub fits_most : (z : ℤ) → InRange z → unsigned_abs z ≤ greatest
fits_most z h = at_most (unsigned_abs z) (2 ^ 127) h

-- ---- lists of weights

pub listed : (xs : List ℤ) (f : ℕ → ℕ) (n : ℕ) → length xs ≡ n → ((i : ℕ) → i < n → unsigned_abs (number_at xs i) ≡ f i) → map unsigned_abs xs ≡ map f (range_with_len 0 n)
listed xs f n count same = ext_get_or 0 (map unsigned_abs xs) (map f (range_with_len 0 n))
    (length-map xs unsigned_abs ∙ count ∙ sym (length-map-range_with_len f 0 n)) (λ i lt. at i (subst (λ k. i < k) (length-map xs unsigned_abs ∙ count) lt))
  where
    at : (i : ℕ) → i < n → slice_index_or (map unsigned_abs xs) i 0 ≡ slice_index_or (map f (range_with_len 0 n)) i 0
    at i lt = get_or-map unsigned_abs xs i (pos 0) 0 (subst (λ k. i < k) (sym count) lt) ∙ same i lt ∙ sym (get_or-map-range_with_len f 0 n i i 0 lt (zero-add i))

pub all_most : (xs : List ℤ) → ((i : ℕ) → i < length xs → InRange (number_at xs i)) → All (λ n. n ≤ greatest) (map unsigned_abs xs)
all_most xs fits = All-from_get_or (λ n. n ≤ greatest) (map unsigned_abs xs) 0 (λ i lt. at i (subst (λ k. i < k) (length-map xs unsigned_abs) lt))
  where
    at : (i : ℕ) → i < length xs → slice_index_or (map unsigned_abs xs) i 0 ≤ greatest
    at i lt = subst (λ n. n ≤ greatest) (sym (get_or-map unsigned_abs xs i (pos 0) 0 lt)) (fits_most (number_at xs i) (fits i lt))

-- what is taken by label
pub taken_at : (g : ℕ → ℤ) (n i : ℕ) → i < n → number_at (map g (all_numbers n)) i ≡ g i
taken_at g n i lt = get_or-map g (all_numbers n) i 0 (pos 0) (subst (λ k. i < k) (sym (all_length n)) lt) ∙ ap g (all_at n i lt)

pub taken_length : (g : ℕ → ℤ) (n : ℕ) → length (map g (all_numbers n)) ≡ n
taken_length g n = length-map (all_numbers n) g ∙ all_length n

-- what is put, by label
pub given_at : (g e : ℕ → ℤ) (n i : ℕ) (post : List ℤ) → each (λ u. whole_sum (g u) (e u)) (all_numbers n) (Ok post) → i < n → (number_at post i ≡ g i +ℤ e i) × InRange (number_at post i)
given_at g e n i post made lt =
    let (fits, is) = subst (λ u. whole_sum (g u) (e u) (Ok (number_at post i))) (all_at n i lt)
    (each_at (λ u. whole_sum (g u) (e u)) (all_numbers n) post 0 (pos 0) i made (subst (λ k. i < k) (sym (all_length n)) lt)) in
    (is ∙ close (g i) (e i), subst InRange (sym is) fits.difference)
  where
    close : (x y : ℤ) → (x *ℤ pos 1) -ℤ (neg_ℤ y *ℤ pos 1) ≡ x +ℤ y
    close x y = omega (arith, ints)

-- what is taken is a number of the sum
pub taken_in_range : (g e : ℕ → ℤ) (n i : ℕ) (post : List ℤ) → each (λ u. whole_sum (g u) (e u)) (all_numbers n) (Ok post) → i < n → InRange (g i)
taken_in_range g e n i post made lt =
    let (fits, is) = subst (λ u. whole_sum (g u) (e u) (Ok (number_at post i))) (all_at n i lt)
    (each_at (λ u. whole_sum (g u) (e u)) (all_numbers n) post 0 (pos 0) i made (subst (λ k. i < k) (sym (all_length n)) lt)) in
    subst InRange (mul-one (g i)) fits.left

pub given_length : (g e : ℕ → ℤ) (n : ℕ) (post : List ℤ) → each (λ u. whole_sum (g u) (e u)) (all_numbers n) (Ok post) → length post ≡ n
given_length g e n post made = each_length (λ u. whole_sum (g u) (e u)) (all_numbers n) post made ∙ all_length n

-- the place with these weights
pub place_is : (start : ℕ) (g e : ℕ → ℤ) (pre post : ℕ → ℕ) (n first : ℕ) (given : List ℤ) → each (λ u. whole_sum (g u) (e u)) (all_numbers n) (Ok given) → first ≡ start
    → ((i : ℕ) → i < n → unsigned_abs (g i) ≡ pre i) → ((i : ℕ) → i < n → unsigned_abs (g i +ℤ e i) ≡ post i)
    → record { start = first; pre = map unsigned_abs (map g (all_numbers n)); post = map unsigned_abs given } ≡ place_by start pre post n
place_is start g e pre post n first given made is takes gives = λ i. record { start = is i; pre = takes_all i; post = gives_all i }
  where
    takes_all : map unsigned_abs (map g (all_numbers n)) ≡ map pre (range_with_len 0 n)
    takes_all = listed (map g (all_numbers n)) pre n (taken_length g n) (λ i lt. ap unsigned_abs (taken_at g n i lt) ∙ takes i lt)

    gives_all : map unsigned_abs given ≡ map post (range_with_len 0 n)
    gives_all = listed given post n (given_length g e n given made) (λ i lt. ap unsigned_abs (given_at g e n i given made lt).0 ∙ gives i lt)

-- ---- a region's numbers matter at states alone

pub region_same : (lts : System) (class : Class) (p : Place) (m m' : ℕ → ℕ) → IsInRange lts → ((s : ℕ) → s < states lts → m s ≡ m' s) → RegionIn lts class p m → RegionIn lts class p m'
region_same lts class p m m' fine same r =
    record {
      region = record {
        start = sym (same lts.initial fine.initial) ∙ r.region.start;
        enabled = λ s t s' has. (let lt = arc_in_range lts fine s t s' has in let e = same s lt.0 in let h = r.region.enabled s t s' has in omega arith);
        moved = λ s t s' has. (let lt = arc_in_range lts fine s t s' has in let e = same s lt.0 in let e' = same s' lt.2 in let h = r.region.moved s t s' has in omega arith);
      };
      allowed = record { weights = r.allowed.weights; bounded = bounded class.bound r.allowed.bounded };
    }
  where
    bounded : (o : Option ℕ) → IfSome o (λ k. (s : ℕ) → s < states lts → m s ≤ k) → IfSome o (λ k. (s : ℕ) → s < states lts → m' s ≤ k)
    bounded None h = tt
    bounded (Some k) h = λ s lt. subst (λ n. n ≤ k) (same s lt) (h s lt)
