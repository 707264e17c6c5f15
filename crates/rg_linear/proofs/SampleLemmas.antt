-- The outcomes of small systems.
use Rattle.std.proofs.Common.{◌≡◌, ◌≢◌, ⊎_elim, ℕ, zero, suc, [], ◌∷◌, Contains, Some, slice_get, refl, subst, sym, arith, lit<}
use Rattle.std.specs.Prelude.{pos}
use Rattle.std.proofs.lemmas.Int.{ints}
use Rattle.std.proofs.lemmas.Option.{same_Some, none-some}
use Rattle.std.proofs.Math.Nat.{dvd-sub, eq-one_of_dvd-one}
use Rattle.rg_linear.specs.Dictionary.{Relation, DictionaryRow, row_relation}
use Rattle.rg_integers.specs.declared.term.Wide.{Wide}
use Rattle.rg_integers.specs.Term.{FitsTerm}
use Rattle.rg_linear.specs.Exchange.{terms, AllFit, FirstWide, renewed, turned, IsReduced}
use Rattle.rg_linear.specs.Descent.{Outcome.refuted, Outcome.wide, Chooses, DescentFrom.after_last, DescentFrom.stuck, DescentFrom.passes, DescentFrom.goes_on, DescentFromStart}
use Rattle.rg_linear.specs.Samples.{passing, passing_term, empty}
use Rattle.rg_integers.proofs.Ring.{one-mul}
use Rattle.rg_linear.proofs.Members.{Contains-here, Contains-nil, Contains-cons_cases}
use Rattle.rg_linear.proofs.Unique.{same_relation}
use Rattle.rg_linear.proofs.Columns.{columns_row}
use Rattle.rg_linear.proofs.Exchanging.{renewed_row, turned_row}
use Rattle.rg_linear.proofs.Leaving.{turned_reduced}

abbrev first : Relation
first = row_relation passing 0

abbrev second : Relation
second = row_relation passing 1

first_row : DictionaryRow passing (0 ∷ []) 1 first
first_row = columns_row passing 0 (omega arith)

second_row : DictionaryRow passing (0 ∷ []) 2 second
second_row = columns_row passing 1 (omega arith)

named_first : first.coefficient 0 ≢ pos 0
named_first e = cc

chooses_first : Chooses passing (0 ∷ []) [] 0 0
chooses_first = record {
  k = first;
  row = first_row;
  negative = omega (arith, ints);
  member = Contains-here 0 [];
  not_fixed = Contains-nil 0;
  named = named_first;
  least = λ m has free lt. absurd (omega arith);
}

-- the terms of the first exchange
terms_fit : (n : ℕ) (t : Wide) → slice_get (terms (0 ∷ []) first 0 second) n ≡ Some t → FitsTerm t
terms_fit zero t e = subst FitsTerm (same_Some _ t e) (record { left = lit< tt; right = lit< tt; difference = lit< tt })
terms_fit (suc zero) t e = subst FitsTerm (same_Some _ t e) (record { left = lit< tt; right = lit< tt; difference = lit< tt })
terms_fit (suc (suc zero)) t e = subst FitsTerm (same_Some _ t e) (record { left = lit< tt; right = lit< tt; difference = lit< tt })
terms_fit (suc (suc (suc n))) t e = absurd (none-some t e)

first_fits : AllFit passing (0 ∷ []) 1 0
first_fits w n t is =
    let lt = is.target.variable in
    let other = is.other in
    let not_zero : w ≢ 0 = λ e. is.target.outside (subst (Contains (0 ∷ [])) (sym e) (Contains-here 0 [])) in
    let two : w ≡ 2 = omega arith in
    terms_fit n t
    (subst (λ x. slice_get (terms (0 ∷ []) x 0 second) n ≡ Some t) (same_relation passing (0 ∷ []) 1 is.k first is.pivot first_row)
    (subst (λ x. slice_get (terms (0 ∷ []) is.k 0 x) n ≡ Some t) (same_relation passing (0 ∷ []) 2 is.l second (subst (λ x. DictionaryRow passing (0 ∷ []) x is.l) two is.target) second_row) is.here))

abbrev third : Relation
third = renewed first 1 0 second

third_reduced : IsReduced third third
third_reduced = record {
  factor = pos 1;
  positive = omega (arith, ints);
  d = sym (one-mul _);
  constant = sym (one-mul _);
  coefficients = λ m. sym (one-mul _);
  primitive = λ g d c each. eq-one_of_dvd-one (dvd-sub g d c);
}

third_row : DictionaryRow passing (1 ∷ []) 2 third
third_row = renewed_row passing (0 ∷ []) 1 0 first first_row (Contains-here 0 []) named_first 2 second second_row (λ e. omega arith) third third_reduced

abbrev column : Relation
column = turned first 1 0

column_row : DictionaryRow passing (1 ∷ []) 0 column
column_row = turned_row passing (0 ∷ []) 1 0 first first_row (Contains-here 0 []) named_first column (turned_reduced passing (0 ∷ []) 1 0 first first_row (Contains-here 0 []))

chooses_third : Chooses passing (1 ∷ []) [] 1 1
chooses_third = record {
  k = third;
  row = third_row;
  negative = omega (arith, ints);
  member = Contains-here 1 [];
  not_fixed = Contains-nil 1;
  named = λ e. cc;
  least = λ m has free lt. ⊎_elim (λ e. absurd (omega arith)) (λ there. absurd (Contains-nil m there)) (Contains-cons_cases 1 m [] has);
}

too_wide : FirstWide passing (1 ∷ []) 2 1 0 0 passing_term
too_wide = record {
  term = record { k = third; l = column; pivot = third_row; target = column_row; other = λ e. omega arith; named = λ e. cc; here = refl };
  passes = λ f. (let h = f.left in absurd (omega arith));
  first = λ w' n' t' before is. ⊎_elim (λ lt. absurd (omega arith)) (λ p. (let lt = p.1 in absurd (omega arith))) before;
}

pub passing_is_wide : DescentFromStart passing (wide (record { members = 1 ∷ []; pivot = 2; leaves = 1; target = 0; entry = 0; term = passing_term }))
passing_is_wide = goes_on 0 (1 ∷ []) (omega arith) chooses_first first_fits (after_last (omega arith)) (passes 1 0 0 passing_term (omega arith) chooses_third too_wide)

pub empty_is_refuted : DescentFromStart empty (refuted [] 0 [])
empty_is_refuted = stuck (omega arith) (record { k = row_relation empty 0; row = columns_row empty 0 (omega arith); negative = omega (arith, ints); none = λ m has free. absurd (Contains-nil m has) })
