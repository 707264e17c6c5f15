-- What the rows show after an exchange.
use Rattle.std.proofs.Common.{◌≡◌, ◌≢◌, ⊎_elim, ℕ, zero, suc, ◌*◌, ◌-◌, ◌<◌, List, ◌∷◌, ◌++◌, map, take, drop, length, get_or, Contains, ap, ap₂, refl, subst, sym, ◌∙◌, arith}
use Rattle.std.proofs.Math.ListN.{set}
use Rattle.std.proofs.Math.IntN.{*ℤ_comm}
use Rattle.std.specs.Prelude.{ℤ, pos, neg_ℤ, ◌-ℤ◌, ◌*ℤ◌, ◌<ℤ◌, unsigned_abs, int_div}
use Rattle.std.specs.Int.{◌∣◌}
use Rattle.std.specs.List.{insert, remove}
use Rattle.std.specs.List.Sorted.{IsStrictlyIncreasing}
use Rattle.std.proofs.lemmas.Bool.{cases_lt}
use Rattle.std.proofs.lemmas.Int.{ints, unsigned_abs-mul}
use Rattle.std.proofs.lemmas.List.{ext_get_or, length-set, get_or-map, get_or-set_same, get_or-set_other, get_or_default, map-set, set-get_or, map-append, take-map, drop-map, take-set, drop-set-lt}
use Rattle.std.proofs.lemmas.Nat.Gcd.{dvd-zero}
use Rattle.std.proofs.Math.Nat.{pos_of_dvd_of_pos, mul-dvd-mul_right, dvd_of_mul-dvd-mul_right, eq-one_of_dvd-one}
use Rattle.rg_integers.specs.Sign.{sign, size}
use Rattle.rg_integers.specs.Sum.{number_at}
use Rattle.rg_integers.proofs.Ring.{ring}
use Rattle.rg_integers.proofs.Order.{mul-cancel, positive_differs}
use Rattle.rg_integers.proofs.Divisors.{exact}
use Rattle.rg_integers.specs.Term.{term_value}
use Rattle.rg_fraction.specs.Rows.{IsPrimitivePart}
use Rattle.rg_linear.specs.Dictionary.{Relation}
use Rattle.rg_linear.specs.Exchange.{without, exchanged, renewed, turned, IsReduced}
use Rattle.rg_linear.specs.Table.{numbers_of, index_for}
use Rattle.rg_linear.proofs.Members.{differs, same, equal_or_not, is_member, exchanged-Contains}
use Rattle.rg_linear.proofs.TableLemmas.{put_in-split}
use Rattle.rg_feasible.specs.Renewal.{IsSigned, IsRenewed, IsTurned, moved, index_term, renewal_term}
use Rattle.rg_linear.proofs.MemberIndices.{gone, member_at, distinct}
use Rattle.rg_feasible.proofs.Renewing.{index_low, index_high, index_last, term_low, term_high, term_last}
use Rattle.rg_feasible.proofs.RowTerms.{length-numbers, number_shown, signed_number, signed_leaving, signed_member}

-- ---- the set with the pivot at the index of the member that leaves

pub length-put : (members : List ℕ) (q i : ℕ) → length (set members q i) ≡ length members
length-put members q i = length-set members q i

pub shown_put : (members : List ℕ) (r : Relation) (q i : ℕ) → q < length members → number_at (numbers_of (set members q i) r) (suc (suc q)) ≡ r.coefficient i
shown_put members r q i lt = number_shown (set members q i) r q (subst (λ n. q < n) (sym (length-put members q i)) lt) ∙ ap r.coefficient (get_or-set_same members q i 0 lt)

pub shown_other : (members : List ℕ) (r : Relation) (q i m : ℕ) → m < length members → m ≢ q → number_at (numbers_of (set members q i) r) (suc (suc m)) ≡ r.coefficient (get_or members m 0)
shown_other members r q i m lt ne = number_shown (set members q i) r m (subst (λ n. m < n) (sym (length-put members q i)) lt) ∙ ap r.coefficient (get_or-set_other members q m i 0 ne)

-- a list of as many numbers that agrees with those of a relation
shows : (members : List ℕ) (r : Relation) (q i : ℕ) (row : List ℤ) → q < length members → length row ≡ suc (suc (length members))
    → number_at row 0 ≡ r.d → number_at row 1 ≡ r.constant → number_at row (suc (suc q)) ≡ r.coefficient i
    → ((m : ℕ) → m < length members → m ≢ q → number_at row (suc (suc m)) ≡ r.coefficient (get_or members m 0)) → row ≡ numbers_of (set members q i) r
shows members r q i row lt size d constant at_q others = ext_get_or (pos 0) row (numbers_of (set members q i) r) lengths (λ n less. at n (subst (λ x. n < x) size less))
  where
    lengths : length row ≡ length (numbers_of (set members q i) r)
    lengths = size ∙ ap (λ n. suc (suc n)) (sym (length-put members q i)) ∙ sym (length-numbers (set members q i) r)

    here : (m : ℕ) → q ≡ m → number_at row (suc (suc m)) ≡ number_at (numbers_of (set members q i) r) (suc (suc m))
    here m e = subst (λ x. number_at row (suc (suc x)) ≡ number_at (numbers_of (set members q i) r) (suc (suc x))) e (at_q ∙ sym (shown_put members r q i lt))

    at : (n : ℕ) → n < suc (suc (length members)) → number_at row n ≡ number_at (numbers_of (set members q i) r) n
    at zero less = d
    at (suc zero) less = constant
    at (suc (suc m)) less = ⊎_elim (λ e. here m (sym e)) (λ ne. others m (omega arith) ne ∙ sym (shown_other members r q i m (omega arith) ne)) (equal_or_not m q)

-- ---- a renewed row, and that of the member that leaves

first_value : (e q : ℤ) → (e *ℤ q) -ℤ (pos 0 *ℤ pos 0) ≡ e *ℤ q
first_value e q = omega (arith, ints)

last_value : (q h l : ℤ) → (pos 0 *ℤ q) -ℤ (neg_ℤ h *ℤ l) ≡ h *ℤ l
last_value q h l = simp ring (omega (arith, ints))

-- the value of the term of each index but that of the member that leaves
renewed_at : (pivot row raw : List ℤ) (p n : ℕ) → 1 < p → p < length row → IsRenewed pivot row raw p → 0 < n → n < length row → n ≢ p → number_at raw n ≡ term_value (index_term pivot row p n)
renewed_at pivot row raw p zero after inside r more lt ne = absurd (omega arith)
renewed_at pivot row raw p (suc e) after inside r more lt ne = ⊎_elim
    (λ less. ap (number_at raw) (sym (index_low (length row) p (suc e) less inside)) ∙ r.values (suc e) (omega arith) ∙ ap term_value (term_low pivot row p (suc e) (omega arith) less inside))
    (λ past. ap (number_at raw) (sym (index_high (length row) p e (omega arith) lt)) ∙ r.values e (omega arith) ∙ ap term_value (term_high pivot row p e (omega arith) (omega arith) lt))
    (cases_lt (suc e) p)

module _ (members : List ℕ) (k : Relation) (s : List ℤ) (i q : ℕ) (lt : q < length members) (signed : IsSigned (numbers_of members k) s (suc (suc q))) (outside : ¬ Contains members i) where
  not_i : (m : ℕ) → m < length members → get_or members m 0 ≢ i
  not_i m inside e = outside (subst (Contains members) e (member_at members m inside))

  pub renewed_shows : (l : Relation) (raw : List ℤ) → IsRenewed s (numbers_of members l) raw (suc (suc q)) → raw ≡ numbers_of (set members q i) (renewed k i (get_or members q 0) l)
  renewed_shows l raw r = shows members (renewed k i (get_or members q 0) l) q i raw lt (r.same_length ∙ length-numbers members l) d constant at_q others
    where
      below : suc (suc q) < length (numbers_of members l)
      below = omega (arith, length-numbers members l)

      d : number_at raw 0 ≡ l.d *ℤ size (k.coefficient (get_or members q 0))
      d = ap (number_at raw) (sym (index_low (length (numbers_of members l)) (suc (suc q)) 0 (omega arith) below)) ∙ r.values 0 (omega (arith, length-numbers members l))
          ∙ first_value l.d (number_at s (suc (suc q))) ∙ ap (λ (z : ℤ). l.d *ℤ z) (signed_leaving members k s q signed lt)

      value : (a x : ℤ) (n : ℕ) → number_at (numbers_of members l) n ≡ a → number_at s n ≡ x
          → term_value (index_term s (numbers_of members l) (suc (suc q)) n) ≡ (a *ℤ size (k.coefficient (get_or members q 0))) -ℤ (x *ℤ l.coefficient (get_or members q 0))
      value a x n ea ex = ap₂ (λ (y z : ℤ). y -ℤ z) (ap₂ ◌*ℤ◌ ea (signed_leaving members k s q signed lt)) (ap₂ ◌*ℤ◌ ex (number_shown members l q lt))

      constant : number_at raw 1 ≡ (l.constant *ℤ size (k.coefficient (get_or members q 0))) -ℤ ((sign (k.coefficient (get_or members q 0)) *ℤ k.constant) *ℤ l.coefficient (get_or members q 0))
      constant = renewed_at s (numbers_of members l) raw (suc (suc q)) 1 (omega arith) below r (omega arith) (omega arith) (λ e. omega arith)
          ∙ value l.constant (sign (k.coefficient (get_or members q 0)) *ℤ k.constant) 1 refl (signed_number members k s q 1 signed lt (omega arith))

      final : term_value (renewal_term s (numbers_of members l) (suc (suc q)) (length (numbers_of members l) - 1))
          ≡ (sign (k.coefficient (get_or members q 0)) *ℤ k.d) *ℤ l.coefficient (get_or members q 0)
      final = ap term_value (term_last s (numbers_of members l) (suc (suc q)) (length (numbers_of members l) - 1) (omega arith) (omega arith))
          ∙ last_value (number_at s (suc (suc q))) (number_at s 0) (number_at (numbers_of members l) (suc (suc q)))
          ∙ ap₂ ◌*ℤ◌ (signed_number members k s q 0 signed lt (omega arith)) (number_shown members l q lt)

      at_q : number_at raw (suc (suc q)) ≡ (renewed k i (get_or members q 0) l).coefficient i
      at_q = ap (number_at raw) (sym (index_last (length (numbers_of members l)) (suc (suc q)) (length (numbers_of members l) - 1) (omega arith)))
          ∙ r.values (length (numbers_of members l) - 1) (omega arith) ∙ final ∙ rw (same i) refl

      others : (m : ℕ) → m < length members → m ≢ q → number_at raw (suc (suc m)) ≡ (renewed k i (get_or members q 0) l).coefficient (get_or members m 0)
      others m inside ne = renewed_at s (numbers_of members l) raw (suc (suc q)) (suc (suc m)) (omega arith) below r (omega arith) (omega (arith, length-numbers members l)) (λ e. ne (omega arith))
          ∙ value (l.coefficient (get_or members m 0)) (sign (k.coefficient (get_or members q 0)) *ℤ k.coefficient (get_or members m 0))
          (suc (suc m)) (number_shown members l m inside) (signed_member members k s q m signed lt inside)
          ∙ rw (differs (get_or members m 0) i (not_i m inside)) refl

  pub turned_shows : (row : List ℤ) → IsStrictlyIncreasing members → IsTurned s row (suc (suc q)) → row ≡ numbers_of (set members q i) (turned k i (get_or members q 0))
  turned_shows row ordered t = shows members (turned k i (get_or members q 0)) q i row lt
      (t.same_length ∙ signed.same_length ∙ length-numbers members k) (t.d ∙ signed_leaving members k s q signed lt) constant at_q others
    where
      width : length s ≡ suc (suc (length members))
      width = signed.same_length ∙ length-numbers members k

      constant : number_at row 1 ≡ neg_ℤ (sign (k.coefficient (get_or members q 0)) *ℤ k.constant)
      constant = t.others 1 (omega arith) (omega (arith, width)) (λ e. omega arith) ∙ ap neg_ℤ (signed_number members k s q 1 signed lt (omega arith))

      apart : i ≢ get_or members q 0
      apart e = not_i q lt (sym e)

      at_q : number_at row (suc (suc q)) ≡ (turned k i (get_or members q 0)).coefficient i
      at_q = t.new ∙ signed_number members k s q 0 signed lt (omega arith) ∙ rw (differs i (get_or members q 0) apart, same i) refl

      others : (m : ℕ) → m < length members → m ≢ q → number_at row (suc (suc m)) ≡ (turned k i (get_or members q 0)).coefficient (get_or members m 0)
      others m inside ne = t.others (suc (suc m)) (omega arith) (omega (arith, width)) (λ e. ne (omega arith)) ∙ ap neg_ℤ (signed_member members k s q m signed lt inside)
          ∙ rw (differs (get_or members m 0) (get_or members q 0) (distinct members ordered m q inside lt ne), differs (get_or members m 0) i (not_i m inside)) refl

-- a row that doesn't name the member that leaves
pub kept_shows : (members : List ℕ) (l : Relation) (i q : ℕ) → q < length members → l.coefficient i ≡ pos 0
    → l.coefficient (get_or members q 0) ≡ pos 0 → numbers_of members l ≡ numbers_of (set members q i) l
kept_shows members l i q lt none_i none_j = ap (λ xs. l.d ∷ l.constant ∷ xs)
    (sym (map-set l.coefficient members q i ∙ ap (set (map l.coefficient members) q)
    (none_i ∙ sym (get_or-map l.coefficient members q 0 (pos 0) lt ∙ none_j)) ∙ set-get_or (map l.coefficient members) q (pos 0)))

-- ---- the move

take_put : (members : List ℕ) (q i : ℕ) → q < length members → remove (set members q i) q ≡ remove members q
take_put members q i lt = ap₂ ◌++◌ (take-set members q i) (drop-set-lt (suc q) members q i (omega arith))

remove-map : (f : ℕ → ℤ) (ms : List ℕ) (q : ℕ) → remove (map f ms) q ≡ map f (remove ms q)
remove-map f ms q = ap₂ ◌++◌ (take-map f q ms) (drop-map f (suc q) ms) ∙ sym (map-append f (take q ms) (drop (suc q) ms))

insert-map : (f : ℕ → ℤ) (ms : List ℕ) (to i : ℕ) → insert (map f ms) to (f i) ≡ map f (insert ms to i)
insert-map f ms to i = ap₂ (λ xs ys. xs ++ f i ∷ ys) (take-map f to ms) (drop-map f to ms) ∙ sym (map-append f (take to ms) (i ∷ drop to ms))

pub moved_numbers : (members : List ℕ) (r : Relation) (i q to : ℕ) → q < length members
    → moved (numbers_of (set members q i) r) (suc (suc q)) (suc (suc to)) ≡ numbers_of (insert (remove members q) to i) r
moved_numbers members r i q to lt = ap (λ xs. r.d ∷ r.constant ∷ xs)
    (ap₂ (λ xs z. insert xs to z) (remove-map r.coefficient (set members q i) q ∙ ap (map r.coefficient) (take_put members q i lt))
    (get_or-map r.coefficient (set members q i) q 0 (pos 0) (subst (λ n. q < n) (sym (length-put members q i)) lt)
    ∙ ap r.coefficient (get_or-set_same members q i 0 lt))
    ∙ insert-map r.coefficient (remove members q) to i)

pub exchanged-split : (members : List ℕ) (i q to : ℕ) → IsStrictlyIncreasing members → q < length members
    → to ≡ index_for i (without (get_or members q 0) members) → insert (remove members q) to i ≡ exchanged members i (get_or members q 0)
exchanged-split members i q to ordered lt is = ap₂ (λ ns n. insert ns n i) (sym (gone members q ordered lt)) is ∙ sym (put_in-split i (without (get_or members q 0) members))

pub set_Contains : (members : List ℕ) (i q m : ℕ) → q < length members → Contains (exchanged members i (get_or members q 0)) m → Contains (set members q i) m
set_Contains members i q m lt has = ⊎_elim here there (exchanged-Contains i (get_or members q 0) m members has)
  where
    size : length (set members q i) ≡ length members
    size = length-put members q i

    here : i ≡ m → Contains (set members q i) m
    here e = (q, omega (arith, size), get_or-set_same members q i m lt ∙ e)

    at : (n : ℕ) → n < length members → get_or members n m ≡ m → m ≢ get_or members q 0 → Contains (set members q i) m
    at n inside e ne = (n, omega (arith, size), get_or-set_other members q n i m (λ same. ne (sym e ∙ get_or_default members n m 0 inside ∙ ap (λ x. get_or members x 0) same)) ∙ e)

    there : Contains members m × (m ≢ get_or members q 0) → Contains (set members q i) m
    there ((n, inside, e), ne) = at n inside e ne

-- ---- the common factor

abbrev pub quotient : Relation → ℕ → Relation
quotient raw g = record { d = int_div raw.d (pos g); constant = int_div raw.constant (pos g); coefficient = λ m. int_div (raw.coefficient m) (pos g) }

divided : (g : ℕ) (z : ℤ) → g ∣ unsigned_abs z → z ≡ pos g *ℤ int_div z (pos g)
divided g z h = sym (exact z (pos g) h) ∙ *ℤ_comm (int_div z (pos g)) (pos g)

scaled : (g e : ℕ) (z : ℤ) → g ∣ unsigned_abs z → e ∣ unsigned_abs (int_div z (pos g)) → (e * g) ∣ unsigned_abs z
scaled g e z h d = subst (λ n. (e * g) ∣ n) (sym (unsigned_abs-mul (int_div z (pos g)) (pos g)) ∙ ap unsigned_abs (exact z (pos g) h)) (mul-dvd-mul_right e d g)

-- a row that shows a relation, divided by the greatest common divisor of its numbers, shows the relation without its common factor
pub record ReducedTo (ns : List ℕ) (raw : Relation) (reduced : List ℤ) : Type 0 where
  pub l : Relation
  pub is : IsReduced raw l
  pub shown : reduced ≡ numbers_of ns l

pub reduced_shows : (ns : List ℕ) (raw : Relation) (row reduced : List ℤ) (g : ℕ) → row ≡ numbers_of ns raw → pos 0 <ℤ raw.d
    → ((m : ℕ) → ¬ Contains ns m → raw.coefficient m ≡ pos 0) → IsPrimitivePart row reduced g → ReducedTo ns raw reduced
reduced_shows ns raw row reduced g shown positive none part = record { l = quotient raw g; is = is; shown = ext_get_or (pos 0) reduced (numbers_of ns (quotient raw g)) lengths at }
  where
    size : length row ≡ suc (suc (length ns))
    size = ap length shown ∙ length-numbers ns raw

    number : (n : ℕ) → number_at row n ≡ number_at (numbers_of ns raw) n
    number n = ap (λ xs. number_at xs n) shown

    by_number : (n : ℕ) (z : ℤ) → n < suc (suc (length ns)) → number_at (numbers_of ns raw) n ≡ z → g ∣ unsigned_abs z
    by_number n z lt e = subst (λ x. g ∣ unsigned_abs x) (number n ∙ e) (part.divisor.divides n (subst (λ m. n < m) (sym size) lt))

    by_d : g ∣ unsigned_abs raw.d
    by_d = by_number 0 raw.d (omega arith) refl

    by_constant : g ∣ unsigned_abs raw.constant
    by_constant = by_number 1 raw.constant (omega arith) refl

    by_member : (m : ℕ) → Contains ns m → g ∣ unsigned_abs (raw.coefficient m)
    by_member m (n, lt, e) = by_number (suc (suc n)) (raw.coefficient m) (omega arith) (number_shown ns raw n lt ∙ ap raw.coefficient (get_or_default ns n 0 m lt ∙ e))

    by_each : (m : ℕ) → g ∣ unsigned_abs (raw.coefficient m)
    by_each m = ⊎_elim (λ has. by_member m has) (λ lacks. subst (λ x. g ∣ unsigned_abs x) (sym (none m lacks)) (dvd-zero g)) (is_member ns m)

    some : 0 < unsigned_abs raw.d
    some = omega (arith, ints)

    g_positive : 0 < g
    g_positive = pos_of_dvd_of_pos by_d some

    is_positive : (n : ℕ) → 0 < n → pos 0 <ℤ pos n
    is_positive n h = omega (arith, ints)

    one : (e : ℕ) → (e * g) ∣ g → e ≡ 1
    one e d = eq-one_of_dvd-one (dvd_of_mul-dvd-mul_right {k = g} e g_positive (subst (λ n. (e * g) ∣ n) (sym (one-times g)) d))
      where
        one-times : (g : ℕ) → 1 * g ≡ g
        one-times g = omega arith

    is : IsReduced raw (quotient raw g)
    is = record {
      factor = pos g;
      positive = is_positive g g_positive;
      d = divided g raw.d by_d;
      constant = divided g raw.constant by_constant;
      coefficients = λ m. divided g (raw.coefficient m) (by_each m);
      primitive = λ e de ce me. one e (part.divisor.greatest (e * g) (λ n lt. each e de ce me n (subst (λ m. n < m) size lt)));
    }
      where
        each : (e : ℕ) → e ∣ unsigned_abs (int_div raw.d (pos g)) → e ∣ unsigned_abs (int_div raw.constant (pos g)) → ((m : ℕ) → e ∣ unsigned_abs (int_div (raw.coefficient m) (pos g)))
            → (n : ℕ) → n < suc (suc (length ns)) → (e * g) ∣ unsigned_abs (number_at row n)
        each e de ce me n lt = subst (λ z. (e * g) ∣ unsigned_abs z) (sym (number n)) (at n lt)
          where
            at : (n : ℕ) → n < suc (suc (length ns)) → (e * g) ∣ unsigned_abs (number_at (numbers_of ns raw) n)
            at zero lt = scaled g e raw.d by_d de
            at (suc zero) lt = scaled g e raw.constant by_constant ce
            at (suc (suc m)) lt = subst (λ z. (e * g) ∣ unsigned_abs z) (sym (number_shown ns raw m (omega arith)))
                (scaled g e (raw.coefficient (get_or ns m 0)) (by_each (get_or ns m 0)) (me (get_or ns m 0)))

    lengths : length reduced ≡ length (numbers_of ns (quotient raw g))
    lengths = part.same_length ∙ size ∙ sym (length-numbers ns (quotient raw g))

    times : (n : ℕ) → n < suc (suc (length ns)) → number_at (numbers_of ns (quotient raw g)) n *ℤ pos g ≡ number_at (numbers_of ns raw) n
    times zero lt = exact raw.d (pos g) by_d
    times (suc zero) lt = exact raw.constant (pos g) by_constant
    times (suc (suc m)) lt = ap (λ (z : ℤ). z *ℤ pos g) (number_shown ns (quotient raw g) m (omega arith))
        ∙ exact (raw.coefficient (get_or ns m 0)) (pos g) (by_each (get_or ns m 0)) ∙ sym (number_shown ns raw m (omega arith))

    at : (n : ℕ) → n < length reduced → number_at reduced n ≡ number_at (numbers_of ns (quotient raw g)) n
    at n lt = mul-cancel (number_at reduced n) (number_at (numbers_of ns (quotient raw g)) n) (pos g) (positive_differs (pos g) (is_positive g g_positive))
        (part.quotients g_positive n (omega (arith, part.same_length)) ∙ number n ∙ sym (times n (omega (arith, part.same_length, size))))
