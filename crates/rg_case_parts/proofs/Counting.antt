-- Counts of labels and of Start, and coefficients, in a sum of terms, term by term.
use Rattle.std.proofs.Common.{◌≡◌, ℕ, ◌+◌, ◌*◌, ◌^◌, ◌<◌, ◌≤◌, zero, suc, if◌then◌else◌, List, [], ◌∷◌, drop, length, All, Option, Some, None, refl, ap, sym, subst, ◌∙◌, arith, add-one}
use Rattle.std.specs.Prelude.{ℤ, pos, negsuc, neg_ℤ, ◌+ℤ◌, ◌*ℤ◌, ◌≤ℤ◌, unsigned_abs, slice_index_or}
use Rattle.std.proofs.lemmas.Int.{ints}
use Rattle.std.proofs.lemmas.List.Elements.{All-head, All-tail}
use Rattle.std.proofs.lemmas.Option.{same_Some, none-some}
use Rattle.rg_theory.specs.declared.Arc.{Arc}
use Rattle.rg_integers.specs.Range.{InRange}
use Rattle.rg_cert_meaning.specs.Expression.{Term as SumTerm, same_variable, coefficient_in}
use Rattle.rg_cert_meaning.specs.declared.Variable.{Variable}
use Rattle.rg_case_folds.specs.Rewriting.{variable_start, variable_count, start_of, count_of}
use Rattle.rg_cert_data.specs.declared.term.Term.{Term}
use Rattle.rg_cert_data.specs.Sums.{term_of, terms_in}

part : (a b c : ℤ) → (a +ℤ b) +ℤ c ≡ a +ℤ (b +ℤ c)
part a b c = omega (arith, ints)

-- ---- the terms at the entries of a list

-- where a term stands, the terms from there on are it and those after it
pub term_here : (entries : List (Option Term)) (i : ℕ) (t : Term) → slice_index_or entries i None ≡ Some t → terms_in (drop i entries) ≡ term_of t ∷ terms_in (drop (suc i) entries)
term_here [] i t is = absurd (none-some t is)
term_here (o ∷ more) zero t is = ap (λ o. terms_in (o ∷ more)) is
term_here (o ∷ more) (suc i) t is = term_here more i t is

-- where none stands, they are those after it
pub none_here : (entries : List (Option Term)) (i : ℕ) → slice_index_or entries i None ≡ None → terms_in (drop i entries) ≡ terms_in (drop (suc i) entries)
none_here [] zero is = refl
none_here [] (suc i) is = refl
none_here (o ∷ more) zero is = ap (λ o. terms_in (o ∷ more)) is
none_here (o ∷ more) (suc i) is = none_here more i is

-- behind the last entry there are none
none_behind : (entries : List (Option Term)) (i : ℕ) → length entries ≤ i → terms_in (drop i entries) ≡ []
none_behind [] zero le = refl
none_behind [] (suc i) le = refl
none_behind (o ∷ more) zero le = absurd (omega arith)
none_behind (o ∷ more) (suc i) le = none_behind more i (omega arith)

-- what holds of all terms holds of the one at an index
pub term_at : (P : SumTerm → Type 0) (entries : List (Option Term)) (i : ℕ) (t : Term) → slice_index_or entries i None ≡ Some t → All P (terms_in entries) → P (term_of t)
term_at P [] i t is all = absurd (none-some t is)
term_at P (None ∷ more) zero t is all = absurd (none-some t is)
term_at P (None ∷ more) (suc i) t is all = term_at P more i t is all
term_at P (Some u ∷ more) zero t is all = subst (λ x. P (term_of x)) (same_Some u t is) (All-head P (term_of u) (terms_in more) all)
term_at P (Some u ∷ more) (suc i) t is all = term_at P more i t is (All-tail P (term_of u) (terms_in more) all)

-- ---- the sum so far, and what the entries from i on add

module _ (entries : List (Option Term)) (i : ℕ) where
  abbrev rest : List SumTerm
  rest = terms_in (drop (i + 1) entries)

  next : terms_in (drop (suc i) entries) ≡ rest
  next = ap (λ n. terms_in (drop n entries)) (sym (add-one i))

  here : (t : Term) → slice_index_or entries i None ≡ Some t → terms_in (drop i entries) ≡ term_of t ∷ rest
  here t is = term_here entries i t is ∙ ap (λ l. term_of t ∷ l) next

  module _ (t : Term) (is : slice_index_or entries i None ≡ Some t) where
    pub count_next : (tree : List Arc) (u : ℕ) (sum more total : ℤ)
        → more ≡ sum +ℤ ((term_of t).coefficient *ℤ variable_count tree (term_of t).variable u)
        → sum +ℤ count_of tree (terms_in (drop i entries)) u ≡ total → more +ℤ count_of tree rest u ≡ total
    count_next tree u sum more total m e = ap (λ z. z +ℤ count_of tree rest u) m ∙ part sum _ _ ∙ sym (ap (λ l. sum +ℤ count_of tree l u) (here t is)) ∙ e

    pub start_next : (sum more total : ℤ) → more ≡ sum +ℤ ((term_of t).coefficient *ℤ variable_start (term_of t).variable)
        → sum +ℤ start_of (terms_in (drop i entries)) ≡ total → more +ℤ start_of rest ≡ total
    start_next sum more total m e = ap (λ z. z +ℤ start_of rest) m ∙ part sum _ _ ∙ sym (ap (λ l. sum +ℤ start_of l) (here t is)) ∙ e

    pub coefficient_next : (v : Variable) (sum more total : ℤ)
        → more ≡ sum +ℤ (if same_variable (term_of t).variable v then (term_of t).coefficient else pos 0)
        → sum +ℤ coefficient_in (terms_in (drop i entries)) v ≡ total → more +ℤ coefficient_in rest v ≡ total
    coefficient_next v sum more total m e = ap (λ z. z +ℤ coefficient_in rest v) m
        ∙ part sum (if same_variable (term_of t).variable v then (term_of t).coefficient else pos 0) (coefficient_in rest v)
        ∙ sym (ap (λ l. sum +ℤ coefficient_in l v) (here t is)) ∙ e

  -- where no term stands, nothing is added
  pub nothing_next : (f : List SumTerm → ℤ) (sum more total : ℤ) → more ≡ sum → slice_index_or entries i None ≡ None → sum +ℤ f (terms_in (drop i entries)) ≡ total → more +ℤ f rest ≡ total
  nothing_next f sum more total same is e = ap (λ z. z +ℤ f rest) same ∙ sym (ap (λ l. sum +ℤ f l) (none_here entries i is ∙ next)) ∙ e

  -- behind the last entry the sum is the whole
  pub whole_sum : (f : List SumTerm → ℤ) (sum total : ℤ) → f [] ≡ pos 0 → length entries ≤ i → sum +ℤ f (terms_in (drop i entries)) ≡ total → sum ≡ total
  whole_sum f sum total nothing le e = close sum (f []) nothing ∙ sym (ap (λ l. sum +ℤ f l) (none_behind entries i le)) ∙ e
    where
      close : (s z : ℤ) → z ≡ pos 0 → s ≡ s +ℤ z
      close s z is = omega (arith, ints)

-- ---- the sums in code

pub in_range_between : (z : ℤ) (n : ℕ) → n < 2 ^ 127 → neg_ℤ (pos n) ≤ℤ z → z ≤ℤ pos n → InRange z
in_range_between (pos m) n lt low high = omega (arith, ints)
in_range_between (negsuc m) n lt low high = omega (arith, ints)

-- ---- the counts of all labels

-- a small number and one below 2 ^ 32
pub small_next : (sum z more : ℤ) (i : ℕ) → more ≡ sum +ℤ z → unsigned_abs sum ≤ i * 2 ^ 32 → unsigned_abs z < 2 ^ 32 → unsigned_abs more ≤ (i + 1) * 2 ^ 32
small_next sum z more i e small below = omega (arith, ints)
