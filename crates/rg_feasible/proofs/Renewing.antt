-- The terms of a row, by their numbers and by their indices.
use Rattle.std.proofs.Common.{◌≡◌, ◌≢◌, ◌⊎◌, ⊎_elim, ℕ, suc, ◌+◌, ◌-◌, ◌<◌, ◌≤◌, List, length, ap, refl, subst, sym, ◌∙◌, inl, inr, arith, below_more, get_or-set_other, get_or-set_same, eq-eqb}
use Rattle.std.proofs.Math.ListN.{set, length-set}
use Rattle.std.proofs.lemmas.Bool.{cases_lt}
use Rattle.std.specs.Prelude.{ℤ, pos, neg_ℤ}
use Rattle.rg_integers.specs.Sum.{number_at}
use Rattle.rg_integers.specs.declared.term.Wide.{Wide}
use Rattle.rg_integers.specs.Term.{term_value, FitsTerm}
use Rattle.rg_linear.proofs.Members.{differs, equal_or_not}
use Rattle.rg_linear.proofs.Columns.{below_test, past_test}
use Rattle.rg_feasible.specs.Renewal.{index_term, index_of, renewal_term, IsRenewed}

-- ---- a term by its number

abbrev pub last_term : List ℤ → List ℤ → ℕ → Wide
last_term pivot row p = record { a = pos 0; b = number_at pivot p; c = neg_ℤ (number_at pivot 0); d = number_at row p }

pub index_low : (width p e : ℕ) → e < p → p < width → index_of width p e ≡ e
index_low width p e less inside = rw (differs (suc e) width (λ h. omega arith), below_test e p less) refl

pub index_high : (width p e : ℕ) → p ≤ e → suc e < width → index_of width p e ≡ suc e
index_high width p e past below = rw (differs (suc e) width (λ h. omega arith), past_test e p past) refl

pub index_last : (width p e : ℕ) → suc e ≡ width → index_of width p e ≡ p
index_last width p e is = rw (eq-eqb (suc e) width is) refl

pub term_inner : (pivot row : List ℤ) (p e : ℕ) → e ≢ 0 → suc e ≢ length row → renewal_term pivot row p e ≡ index_term pivot row p (index_of (length row) p e)
term_inner pivot row p e more below = rw (differs e 0 more, differs (suc e) (length row) below) refl

pub term_low : (pivot row : List ℤ) (p e : ℕ) → 0 < e → e < p → p < length row → renewal_term pivot row p e ≡ index_term pivot row p e
term_low pivot row p e more less inside = term_inner pivot row p e (λ h. omega arith) (λ h. omega arith) ∙ ap (index_term pivot row p) (index_low (length row) p e less inside)

pub term_high : (pivot row : List ℤ) (p e : ℕ) → 0 < e → p ≤ e → suc e < length row → renewal_term pivot row p e ≡ index_term pivot row p (suc e)
term_high pivot row p e more past below = term_inner pivot row p e (λ h. omega arith) (λ h. omega arith) ∙ ap (index_term pivot row p) (index_high (length row) p e past below)

pub term_last : (pivot row : List ℤ) (p e : ℕ) → 0 < e → suc e ≡ length row → renewal_term pivot row p e ≡ last_term pivot row p
term_last pivot row p e more is = rw (differs e 0 (λ h. omega arith), eq-eqb (suc e) (length row) is) refl

-- ---- each term has an index of its own

-- the index is below that of the member that leaves, past it, or this index
abbrev Lies : ℕ → ℕ → ℕ → ℕ → Type 0
Lies width p e n = ((e < p) × (n ≡ e)) ⊎ ((p ≤ e) × (suc e < width) × (n ≡ suc e)) ⊎ ((suc e ≡ width) × (n ≡ p))

lies : (width p e : ℕ) → p < width → e < width → Lies width p e (index_of width p e)
lies width p e inside lt = ⊎_elim (λ less. inl (less, index_low width p e less inside))
    (λ past. ⊎_elim (λ below. inr (inl (past, below, index_high width p e past below))) (λ end. last (omega arith)) (cases_lt (suc e) width))
    (cases_lt e p)
  where
    last : suc e ≡ width → Lies width p e (index_of width p e)
    last is = inr (inr (is, index_last width p e is))

index_bound : (width p e : ℕ) → p < width → e < width → index_of width p e < width
index_bound width p e inside lt = go (index_of width p e) (lies width p e inside lt)
  where
    go : (n : ℕ) → Lies width p e n → n < width
    go n a = grind arith

apart : (width p e m : ℕ) → p < width → e < width → m < width → e ≢ m → index_of width p e ≢ index_of width p m
apart width p e m inside lt less ne same = go (index_of width p e) (index_of width p m) (lies width p e inside lt) (lies width p m inside less) same
  where
    go : (n k : ℕ) → Lies width p e n → Lies width p m k → n ≡ k → ⊥
    go n k a b is = grind arith

-- ---- the terms that are formed so far

-- the indices of the terms before number m hold their values, which fit, and the others are as they were
pub record RenewedBelow (pivot old new : List ℤ) (p m : ℕ) : Type 0 where
  pub same_length : length new ≡ length old
  pub fits : (e : ℕ) → e < m → FitsTerm (renewal_term pivot old p e)
  pub values : (e : ℕ) → e < m → number_at new (index_of (length old) p e) ≡ term_value (renewal_term pivot old p e)
  pub others : (e : ℕ) → m ≤ e → e < length old → number_at new (index_of (length old) p e) ≡ number_at old (index_of (length old) p e)

-- the next term is that of the old row
pub term_stays : (pivot old new : List ℤ) (p m : ℕ) → RenewedBelow pivot old new p m → p < length old → 0 < p → m < length old → renewal_term pivot new p m ≡ renewal_term pivot old p m
term_stays pivot old new p m r inside more lt = ⊎_elim (λ first. subst (λ e. renewal_term pivot new p e ≡ renewal_term pivot old p e) (sym first) (at_first first))
    (λ past. ⊎_elim (λ end. at_last (omega arith) end) (λ below. at_inner past below) (equal_or_not (suc m) (length old)))
    (equal_or_not m 0)
  where
    leaving : number_at new p ≡ number_at old p
    leaving = subst (λ n. number_at new n ≡ number_at old n) (index_last (length old) p (length old - 1) (omega arith)) (r.others (length old - 1) (omega arith) (omega arith))

    at_first : m ≡ 0 → renewal_term pivot new p 0 ≡ renewal_term pivot old p 0
    at_first e = ap (λ z. record { a = z; b = number_at pivot p; c = pos 0; d = pos 0 })
        (subst (λ n. number_at new n ≡ number_at old n) (index_low (length old) p 0 more inside) (r.others 0 (omega arith) (omega arith)))

    at_last : 0 < m → suc m ≡ length old → renewal_term pivot new p m ≡ renewal_term pivot old p m
    at_last some end = term_last pivot new p m some (end ∙ sym r.same_length)
        ∙ ap (λ z. record { a = pos 0; b = number_at pivot p; c = neg_ℤ (number_at pivot 0); d = z }) leaving ∙ sym (term_last pivot old p m some end)

    at_inner : m ≢ 0 → suc m ≢ length old → renewal_term pivot new p m ≡ renewal_term pivot old p m
    at_inner some below = term_inner pivot new p m some (λ e. below (e ∙ r.same_length))
        ∙ (λ i. record {
          a = (ap (λ w. number_at new (index_of w p m)) r.same_length ∙ r.others m (omega arith) lt) i;
          b = number_at pivot p;
          c = number_at pivot (index_of (r.same_length i) p m);
          d = leaving i;
        })
        ∙ sym (term_inner pivot old p m some below)

pub renewed_more : (pivot old new : List ℤ) (p m : ℕ) (z : ℤ) → RenewedBelow pivot old new p m → p < length old → m < length old
    → FitsTerm (renewal_term pivot old p m) → z ≡ term_value (renewal_term pivot old p m) → RenewedBelow pivot old (set new (index_of (length old) p m) z) p (m + 1)
renewed_more pivot old new p m z r inside lt fits is = record {
  same_length = length-set new (index_of (length old) p m) z ∙ r.same_length;
  fits = below_more (λ e. FitsTerm (renewal_term pivot old p e)) m r.fits fits;
  values = below_more (λ e. number_at (set new (index_of (length old) p m) z) (index_of (length old) p e) ≡ term_value (renewal_term pivot old p e)) m
      (λ e less. other e (λ h. omega arith) (omega arith) ∙ r.values e less)
      (get_or-set_same new (index_of (length old) p m) z (pos 0) (omega (arith, r.same_length, index_bound (length old) p m inside lt)) ∙ is);
  others = λ e past less. other e (λ h. omega arith) less ∙ r.others e (omega arith) less;
}
  where
    other : (e : ℕ) → e ≢ m → e < length old → number_at (set new (index_of (length old) p m) z) (index_of (length old) p e) ≡ number_at new (index_of (length old) p e)
    other e ne less = get_or-set_other new (index_of (length old) p m) (index_of (length old) p e) z (pos 0) (apart (length old) p e m inside less lt ne)

pub all_renewed : (pivot old new : List ℤ) (p m : ℕ) → RenewedBelow pivot old new p m → m ≡ length old → IsRenewed pivot old new p
all_renewed pivot old new p m r end = record { same_length = r.same_length; fits = λ e lt. r.fits e (omega arith); values = λ e lt. r.values e (omega arith) }
