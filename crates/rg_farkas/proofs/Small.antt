-- No sum of absolute values of a leaf that was checked is out of range.
use Rattle.std.proofs.Common.{◌≡◌, ◌⊎◌, ⊎_elim, inl, inr, true, ℕ, ◌+◌, ◌-◌, ◌^◌, ◌<◌, ◌≤◌, List, [], ◌∷◌, map, Result, Ok, Contains, All, ap, ap₂, refl, subst, sym, ◌∙◌, arith}
use Rattle.std.specs.Prelude.{ℤ, pos, ◌+ℤ◌, ◌*ℤ◌, nat_abs, sum_by}
use Rattle.std.proofs.lemmas.Int.{ints}
use Rattle.std.proofs.lemmas.Bool.{cases_lt}
use Rattle.std.proofs.lemmas.List.Sums.{sum_by-cons}
use Rattle.std.proofs.lemmas.List.Elements.{All-head, All-tail, All-weaker, Contains-append_left, Contains-append_right}
use Rattle.rg_theory.specs.System.{System, states, labels}
use Rattle.rg_theory.proofs.Lists.{Contains-cons_cases, map_there}
use Rattle.rg_integers.specs.Range.{InRange, greatest}
use Rattle.rg_integers.specs.Sign.{size}
use Rattle.rg_integers.specs.Sum.{sum_over}
use Rattle.rg_integers.specs.declared.term.Wide.{Wide}
use Rattle.rg_cert_meaning.specs.Expression.{Expression, coefficient_in}
use Rattle.rg_cert_meaning.specs.declared.Variable.{Variable}
use Rattle.rg_cert_meaning.specs.declared.RowName.{RowName}
use Rattle.rg_cert_meaning.specs.Refutes.{NamedRow, IsSmall}
use Rattle.rg_folds.specs.Fold.{and_then, gives, each, further, whole_sum, whole_product}
use Rattle.rg_case_folds.specs.Rewriting.{all_numbers}
use Rattle.rg_case_folds.specs.Spreading.{sizes_fold, variables_of, checked_leaf}
use Rattle.rg_case_folds.proofs.Lists.{where_has}
use Rattle.rg_cert_data.specs.Certificates.{IsVariableWithin, IsTermWithin}
use Rattle.rg_farkas.proofs.TreeSums.{whole_product_is, joined_whole}
use Rattle.rg_farkas.proofs.Variables.{outside, RowsWithin}
use Rattle.rg_cert_meaning.specs.declared.Variable.TheVariants.{Tokens, Effect}

pub each_made : {A X : Type 0} (make : A → Result X Wide → Type 0) (items : List A) (ys : List X) (a : A) → each make items (Ok ys) → Contains items a → (y : X) × make a (Ok y)
each_made make [] ys a e (k, lt, at) = absurd (omega arith)
each_made make (b ∷ items) ys a (y, made, (rest, more, e)) has =
    ⊎_elim (λ is. (y, subst (λ u. make u (Ok y)) is made)) (λ there. each_made make items rest a more there) (Contains-cons_cases b a items has)

-- ---- one sum

sum_is : (c : RowName → ℤ) (rows : List NamedRow) → sum_over (λ r. pos (nat_abs (r.multiplier *ℤ c r.name))) rows ≡ pos (sum_by (λ r. nat_abs (r.multiplier *ℤ c r.name)) rows)
sum_is c [] = refl
sum_is c (r ∷ rows) = ap (λ z. pos (nat_abs (r.multiplier *ℤ c r.name)) +ℤ z) (sum_is c rows)
    ∙ join (nat_abs (r.multiplier *ℤ c r.name)) (sum_by (λ u. nat_abs (u.multiplier *ℤ c u.name)) rows)
    ∙ ap pos (sym (sum_by-cons (λ u. nat_abs (u.multiplier *ℤ c u.name)) r rows))
  where
    join : (a b : ℕ) → pos a +ℤ pos b ≡ pos (a + b)
    join a b = omega (arith, ints)

made_size : (c : RowName → ℤ) (r : NamedRow) (k : ℤ) → and_then (whole_product r.multiplier (c r.name)) (λ z. gives (size z)) (Ok k) → k ≡ pos (nat_abs (r.multiplier *ℤ c r.name))
made_size c r k (z, product, e) = e ∙ ap size (whole_product_is r.multiplier (c r.name) z product)

made_range : (c : RowName → ℤ) (r : NamedRow) (k : ℤ) → and_then (whole_product r.multiplier (c r.name)) (λ z. gives (size z)) (Ok k) → InRange k
made_range c r k (z, (fits, is), e) = subst InRange (sym (e ∙ ap size (whole_product_is r.multiplier (c r.name) z (fits, is)))) fits.left

further_range : {A : Type 0} (make : A → Result ℤ Wide → Type 0) (f h : ℤ) (items : List A) → InRange f → further whole_sum make f items (Ok h) → InRange h
further_range make f h [] range e = subst InRange (sym e) range
further_range make f h (a ∷ items) range (k, made, (g, (fits, is), rest)) = further_range make g h items (subst InRange (sym is) fits.difference) rest

size_range : (c : RowName → ℤ) (rows : List NamedRow) (h : ℤ) → sizes_fold c rows (Ok h) → InRange h
size_range c [] h e = subst InRange (sym e) (omega arith)
size_range c (r ∷ rows) h (k, made, rest) = further_range (λ r. and_then (whole_product r.multiplier (c r.name)) (λ z. gives (size z))) k h rows (made_range c r k made) rest

pub size_fits : (c : RowName → ℤ) (rows : List NamedRow) (h : ℤ) → sizes_fold c rows (Ok h) → sum_by (λ r. nat_abs (r.multiplier *ℤ c r.name)) rows ≤ greatest
size_fits c rows h fold =
    let is : h ≡ pos (sum_by (λ r. nat_abs (r.multiplier *ℤ c r.name)) rows) =
    joined_whole (λ r. and_then (whole_product r.multiplier (c r.name)) (λ z. gives (size z))) (λ r. pos (nat_abs (r.multiplier *ℤ c r.name)))
    (made_size c) h rows fold ∙ sum_is c rows in
    let range : InRange (pos (sum_by (λ r. nat_abs (r.multiplier *ℤ c r.name)) rows)) = subst InRange is (size_range c rows h fold) in
    below (sum_by (λ r. nat_abs (r.multiplier *ℤ c r.name)) rows) range
  where
    below : (n : ℕ) → n < 2 ^ 127 → n ≤ 2 ^ 127 - 1
    below n lt = omega arith

-- ---- all sums

-- a variable of the system is among all of them
pub has_variable : (lts : System) (v : Variable) → IsVariableWithin (states lts) (labels lts) v → Contains (variables_of lts) v
has_variable lts (Tokens q) lt = Contains-append_left (map Tokens (all_numbers (states lts))) (map Effect (all_numbers (labels lts))) (Tokens q)
    (map_there Tokens (all_numbers (states lts)) q (where_has (λ i. true) 0 (states lts) q refl (omega arith) (omega arith)))
has_variable lts (Effect u) lt = Contains-append_right (map Tokens (all_numbers (states lts))) (map Effect (all_numbers (labels lts))) (Effect u)
    (map_there Effect (all_numbers (labels lts)) u (where_has (λ i. true) 0 (labels lts) u refl (omega arith) (omega arith)))

-- other variables have no coefficients
none_outside : (n l : ℕ) (expression : RowName → Expression) (rows : List NamedRow) (v : Variable) → RowsWithin n l expression rows
    → ¬ IsVariableWithin n l v → sum_by (λ r. nat_abs (r.multiplier *ℤ coefficient_in (expression r.name).terms v)) rows ≡ 0
none_outside n l expression [] v within out = refl
none_outside n l expression (r ∷ rows) v within out =
    sum_by-cons (λ u. nat_abs (u.multiplier *ℤ coefficient_in (expression u.name).terms v)) r rows
    ∙ ap₂ ◌+◌ (ap (λ z. nat_abs (r.multiplier *ℤ z))
    (outside n l (expression r.name).terms v (All-head (λ u. All (IsTermWithin n l) (expression u.name).terms) r rows within) out)
    ∙ ap nat_abs (times_zero r.multiplier)) (none_outside n l expression rows v (All-tail (λ u. All (IsTermWithin n l) (expression u.name).terms) r rows within) out)
  where
    times_zero : (z : ℤ) → z *ℤ pos 0 ≡ pos 0
    times_zero z = omega (arith, ints)

below_or_not : (a b : ℕ) → (a < b) ⊎ ¬ (a < b)
below_or_not a b = ⊎_elim (λ lt. inl lt) (λ le. inr (λ lt. omega arith)) (cases_lt a b)

within_or_not : (n l : ℕ) (v : Variable) → IsVariableWithin n l v ⊎ ¬ IsVariableWithin n l v
within_or_not n l (Tokens q) = below_or_not q n
within_or_not n l (Effect u) = below_or_not u l

pub is_small : (lts : System) (expression : RowName → Expression) (rows all : List NamedRow) → RowsWithin (states lts) (labels lts) expression rows
    → All (λ r. InRange r.multiplier) rows → checked_leaf lts expression rows (Ok all) → IsSmall expression rows
is_small lts expression rows all within range (sums, each_is, (sum, constants, e)) = record {
  multipliers = All-weaker (λ r. InRange r.multiplier) (λ r. nat_abs r.multiplier ≤ greatest) (λ r h. below (nat_abs r.multiplier) h) rows range;
  coefficients = λ v. ⊎_elim (λ lt. (let (h, fold) = each_made (λ u. sizes_fold (λ name. coefficient_in (expression name).terms u) rows)
      (variables_of lts) sums v each_is (has_variable lts v lt) in size_fits (λ name. coefficient_in (expression name).terms v) rows h fold))
      (λ out. none (sum_by (λ r. nat_abs (r.multiplier *ℤ coefficient_in (expression r.name).terms v)) rows)
      (none_outside (states lts) (labels lts) expression rows v within out)) (within_or_not (states lts) (labels lts) v);
  constants = size_fits (λ name. (expression name).constant) rows sum constants;
}
  where
    below : (n : ℕ) → n < 2 ^ 127 → n ≤ 2 ^ 127 - 1
    below n lt = omega arith

    none : (n : ℕ) → n ≡ 0 → n ≤ 2 ^ 127 - 1
    none n e = omega arith
