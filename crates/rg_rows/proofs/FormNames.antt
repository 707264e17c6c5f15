-- The forms in the order of the named rows are those of the case.
use Rattle.std.proofs.Common.{◌≡◌, ℕ, ◌<◌, ◌==◌, ◌&&◌, ◌||◌, IsTrue, Contains, not, is_some, Bool, true, false, if◌then◌else◌, Option, Some, None, List, [], ◌∷◌, ◌++◌, length, map, refl, ap, ap₂, subst, sym, ◌∙◌, arith, take_all, le_refl, ◌-◌}
use Rattle.std.specs.Prelude.{IsFalse}
use Rattle.std.proofs.lemmas.Bool.{true≢false}
use Rattle.std.proofs.Math.ListN.{take}
use Rattle.std.proofs.lemmas.List.{append-nil, length-append, take-append-le}
use Rattle.std.proofs.lemmas.List.Elements.{Contains-append_left, Contains-append_right}
use Rattle.rg_theory.specs.declared.Class.{Class}
use Rattle.rg_theory.specs.declared.Problem.{Problem}
use Rattle.rg_theory.specs.declared.Problem.TheVariants.{Event, States}
use Rattle.rg_theory.specs.System.{System, states, labels}
use Rattle.rg_theory.proofs.Lists.{map_there}
use Rattle.rg_cert_meaning.specs.declared.RowName.{RowName}
use Rattle.rg_cert_meaning.specs.Row.{case_consumer}
use Rattle.rg_cert_meaning.specs.declared.Form.{Form}
use Rattle.rg_folds.specs.Substitution.{numbers_where}
use Rattle.rg_case_folds.specs.Rewriting.{has_label, used_labels, states_with, has_start, all_numbers, problem_rows, names_of, splits_start, split_forms}
use Rattle.rg_case_folds.proofs.Forms.{start_of_bound}
use Rattle.rg_case_folds.proofs.Lists.{where_has}
use Rattle.rg_rows.specs.Forms.{form_in, put_form, forms_in, case_forms, form_count}
use Rattle.rg_rows.specs.Sharing.{shared_names, class_forms}
use Rattle.rg_rows.proofs.Joining.{names_alone}
use Rattle.rg_cert_meaning.specs.declared.RowName.TheVariants as row_name
use Rattle.rg_cert_meaning.specs.declared.Form.TheVariants as split_form

forms-append : (class : Class) (xs ys : List RowName) → forms_in class (xs ++ ys) ≡ forms_in class xs ++ forms_in class ys
forms-append class [] ys = refl
forms-append class (x ∷ xs) ys = ap (put_form (form_in class x)) (forms-append class xs ys) ∙ put (form_in class x)
  where
    put : (o : Option Form) → put_form o (forms_in class xs ++ forms_in class ys) ≡ put_form o (forms_in class xs) ++ forms_in class ys
    put None = refl
    put (Some form) = refl

no_forms : (class : Class) (row : ℕ → RowName) (xs : List ℕ) → ((n : ℕ) → form_in class (row n) ≡ None) → forms_in class (map row xs) ≡ []
no_forms class row [] none = refl
no_forms class row (x ∷ xs) none = ap (λ o. put_form o (forms_in class (map row xs))) (none x) ∙ no_forms class row xs none

-- rows that have a form where the test holds
all_forms : (class : Class) (row : ℕ → RowName) (form : ℕ → Form) (b : Bool) (xs : List ℕ)
    → ((n : ℕ) → form_in class (row n) ≡ (if b then Some (form n) else None)) → forms_in class (map row xs) ≡ (if b then map form xs else [])
all_forms class row form b [] each = none b
  where
    none : (b : Bool) → map form [] ≡ (if b then map form [] else [])
    none true = refl
    none false = refl
all_forms class row form b (x ∷ xs) each = ap₂ put_form (each x) (all_forms class row form b xs each) ∙ go b
  where
    go : (b : Bool) → put_form (if b then Some (form x) else None) (if b then map form xs else []) ≡ (if b then (form x ∷ map form xs) else [])
    go true = refl
    go false = refl

optional : (class : Class) (b : Bool) (names : List RowName) (forms : List Form) → forms_in class names ≡ forms → forms_in class (if b then names else []) ≡ (if b then forms else [])
optional class true names forms e = e
optional class false names forms e = refl

problem_none : (lts : System) (class : Class) (problem : Problem) → forms_in class (problem_rows lts class problem) ≡ []
problem_none lts class (Event s t) = go class.pure class.plain
  where
    go : (pure plain : Bool) → forms_in class (if pure then (row_name.Block ∷ []) else
        (if plain then (row_name.Empty ∷ map row_name.Full (states_with lts t) ++ row_name.Keep ∷ []) else map row_name.Stop (states_with lts t))) ≡ []
    go true plain = refl
    go false true = forms-append class (map row_name.Full (states_with lts t)) (row_name.Keep ∷ []) ∙ ap (λ l. l ++ []) (no_forms class row_name.Full (states_with lts t) (λ n. refl))
    go false false = no_forms class row_name.Stop (states_with lts t) (λ n. refl)
problem_none lts class (States s s') = refl

named_forms : (lts : System) (class : Class) (problem : Problem) (number : ℕ)
    → forms_in class (names_of lts class problem number)
    ≡ (if is_some class.bound then map split_form.Tokens (all_numbers (states lts)) else (if class.plain then map split_form.Effect (used_labels lts) else []))
named_forms lts class problem number =
    forms-append class (own ++ tokens ++ caps ++ sides) makes
    ∙ ap₂ (λ x y. x ++ y)
    (forms-append class (own ++ tokens ++ caps) sides
    ∙ ap₂ (λ x y. x ++ y)
    (forms-append class (own ++ tokens) caps
    ∙ ap₂ (λ x y. x ++ y)
    (forms-append class own tokens ∙ ap₂ (λ x y. x ++ y) (problem_none lts class problem)
    (optional class (has_start class) (map row_name.Tokens (all_numbers (states lts))) (if is_some class.bound then map split_form.Tokens (all_numbers (states lts)) else [])
    (all_forms class row_name.Tokens split_form.Tokens (is_some class.bound) (all_numbers (states lts)) (λ n. refl))))
    (optional class (is_some class.bound) (map row_name.Cap (all_numbers (states lts))) [] (no_forms class row_name.Cap (all_numbers (states lts)) (λ n. refl))))
    (optional class class.plain (map row_name.Up (used_labels lts) ++ map row_name.Down (used_labels lts))
    (if class.plain && not (is_some class.bound) then map split_form.Effect (used_labels lts) else [])
    (forms-append class (map row_name.Up (used_labels lts)) (map row_name.Down (used_labels lts)) ∙ ap₂ (λ x y. x ++ y) (no_forms class row_name.Up (used_labels lts) (λ n. refl))
    (all_forms class row_name.Down split_form.Effect (class.plain && not (is_some class.bound)) (used_labels lts) (λ n. refl)))))
    (optional class class.nonbranching (map row_name.Makes makers) [] (no_forms class row_name.Makes makers (λ n. refl)))
    ∙ choose (is_some class.bound) class.plain (has_start class) class.nonbranching (map split_form.Tokens (all_numbers (states lts))) (map split_form.Effect (used_labels lts)) (start_of_bound class)
  where
    own : List RowName
    own = problem_rows lts class problem

    tokens : List RowName
    tokens = if has_start class then map row_name.Tokens (all_numbers (states lts)) else []

    caps : List RowName
    caps = if is_some class.bound then map row_name.Cap (all_numbers (states lts)) else []

    sides : List RowName
    sides = if class.plain then (map row_name.Up (used_labels lts) ++ map row_name.Down (used_labels lts)) else []

    makers : List ℕ
    makers = numbers_where (λ u. has_label u lts.arcs && not (u == case_consumer lts problem number)) 0 (labels lts)

    makes : List RowName
    makes = if class.nonbranching then map row_name.Makes makers else []

    none : (b : Bool) (xs : List Form) → xs ++ (if b then [] else []) ≡ xs
    none true xs = append-nil xs
    none false xs = append-nil xs

    choose : (b p s n : Bool) (X Y : List Form) → (b ≡ true → s ≡ true)
        → ((([] ++ (if s then (if b then X else []) else [])) ++ (if b then [] else [])) ++ (if p then (if p && not b then Y else []) else []))
        ++ (if n then [] else []) ≡ (if b then X else (if p then Y else []))
    choose true true true n X Y start = none n ((X ++ []) ++ []) ∙ append-nil (X ++ []) ∙ append-nil X
    choose true false true n X Y start = none n ((X ++ []) ++ []) ∙ append-nil (X ++ []) ∙ append-nil X
    choose true p false n X Y start = absurd (true≢false (sym (start refl)))
    choose false true true n X Y start = none n Y
    choose false true false n X Y start = none n Y
    choose false false true n X Y start = none n []
    choose false false false n X Y start = none n []

pub forms_are : (lts : System) (class : Class) (problem : Problem) (number : ℕ) → case_forms class problem (names_of lts class problem number) ≡ split_forms lts class problem
forms_are lts class problem number = ap (λ l. l ++ (if splits_start class problem then (split_form.Start ∷ []) else [])) (named_forms lts class problem number)

-- where no row comes after those that all cases share, the forms of the case are the first ones of the class
pub shared_forms : (lts : System) (class : Class) (problem : Problem) (number : ℕ) → IsFalse class.nonbranching
    → take (form_count class problem (length (class_forms lts class))) (class_forms lts class) ≡ split_forms lts class problem
shared_forms lts class problem number alone =
    first_forms (splits_start class (Event 0 0)) (splits_start class problem) (implied problem) (forms_in class (shared_names lts class))
    ∙ ap (λ l. l ++ (if splits_start class problem then (split_form.Start ∷ []) else [])) named
    ∙ forms_are lts class problem number
  where
    named : forms_in class (shared_names lts class) ≡ forms_in class (names_of lts class problem number)
    named =
        ap (λ l. l ++ forms_in class (shared_names lts class)) (sym (problem_none lts class problem))
        ∙ sym (forms-append class (problem_rows lts class problem) (shared_names lts class))
        ∙ ap (forms_in class) (sym (names_alone lts class problem number alone))

    by : (m p b : Bool) → (m && b) ≡ true → (m && (p || b)) ≡ true
    by true true b e = refl
    by true false b e = e
    by false p b e = e

    implied : (p : Problem) → splits_start class p ≡ true → splits_start class (Event 0 0) ≡ true
    implied (Event s t) e = e
    implied (States s s') e = by (is_some class.marking) class.plain (is_some class.bound) e

    start_where : Bool → List Form
    start_where b = if b then (split_form.Start ∷ []) else []

    first_forms : (e p : Bool) → (p ≡ true → e ≡ true) → (xs : List Form)
        → take (if e && not p then length (xs ++ start_where e) - 1 else length (xs ++ start_where e)) (xs ++ start_where e) ≡ xs ++ start_where p
    first_forms true true is xs = take_all (length (xs ++ split_form.Start ∷ [])) (xs ++ split_form.Start ∷ []) (le_refl (length (xs ++ split_form.Start ∷ [])))
    first_forms true false is xs =
        let size = length-append xs (split_form.Start ∷ []) in
        let count : length (xs ++ split_form.Start ∷ []) - 1 ≡ length xs = omega arith in
        ap (λ n. take n (xs ++ split_form.Start ∷ [])) count ∙ take-append-le (length xs) xs (split_form.Start ∷ []) (le_refl (length xs)) ∙ take_all (length xs) xs (le_refl (length xs)) ∙ sym (append-nil xs)
    first_forms false true is xs = absurd (true≢false (sym (is refl)))
    first_forms false false is xs = take_all (length (xs ++ [])) (xs ++ []) (le_refl (length (xs ++ [])))

-- a class of which a case splits on the start has the start as a column
started : (class : Class) (p : Problem) → IsTrue (splits_start class p) → has_start class ≡ true
started class (Event s t) e = by_event class.pure (is_some class.marking) class.plain (is_some class.bound) e
  where
    by_event : (pure marking plain bound : Bool) → (marking && (plain || bound)) ≡ true → (pure || (plain || bound)) ≡ true
    by_event true marking plain bound e = refl
    by_event false true plain bound e = e
    by_event false false plain bound e = absurd cc
started class (States s s') e = by_states class.pure (is_some class.marking) class.plain (is_some class.bound) e
  where
    by_states : (pure marking plain bound : Bool) → (marking && bound) ≡ true → (pure || (plain || bound)) ≡ true
    by_states true marking plain bound e = refl
    by_states false marking true bound e = refl
    by_states false true false bound e = e
    by_states false false false bound e = absurd cc

module _ (lts : System) (class : Class) (problem : Problem) (initial : lts.initial < states lts) (splits : IsTrue (splits_start class problem)) where
  abbrev tokens : List RowName
  tokens = if has_start class then map row_name.Tokens (all_numbers (states lts)) else []

  abbrev caps : List RowName
  caps = if is_some class.bound then map row_name.Cap (all_numbers (states lts)) else []

  abbrev sides : List RowName
  sides = if class.plain then (map row_name.Up (used_labels lts) ++ map row_name.Down (used_labels lts)) else []

  token_there : Contains tokens (row_name.Tokens lts.initial)
  token_there = subst (λ b. Contains (if b then map row_name.Tokens (all_numbers (states lts)) else []) (row_name.Tokens lts.initial)) (sym (started class problem splits))
      (map_there row_name.Tokens (all_numbers (states lts)) lts.initial (where_has (λ q. true) 0 (states lts) lts.initial refl (omega arith) (omega arith)))

  -- where a case splits on the start, the rows that all cases share have that of the initial state
  pub shared_start_name : Contains (shared_names lts class) (row_name.Tokens lts.initial)
  shared_start_name = Contains-append_left (tokens ++ caps) sides (row_name.Tokens lts.initial) (Contains-append_left tokens caps (row_name.Tokens lts.initial) token_there)

  -- and so have the case's
  pub has_start_name : (number : ℕ) → Contains (names_of lts class problem number) (row_name.Tokens lts.initial)
  has_start_name number =
      Contains-append_left (own ++ tokens ++ caps ++ sides) makes (row_name.Tokens lts.initial)
      (Contains-append_left (own ++ tokens ++ caps) sides (row_name.Tokens lts.initial)
      (Contains-append_left (own ++ tokens) caps (row_name.Tokens lts.initial) (Contains-append_right own tokens (row_name.Tokens lts.initial) token_there)))
    where
      own : List RowName
      own = problem_rows lts class problem

      makes : List RowName
      makes = if class.nonbranching then map row_name.Makes (numbers_where (λ u. has_label u lts.arcs && not (u == case_consumer lts problem number)) 0 (labels lts)) else []
