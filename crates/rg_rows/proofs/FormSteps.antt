-- The forms of the named rows, one after the other.
use Rattle.std.proofs.Common.{◌≡◌, ℕ, max, ◌+◌, ◌<◌, ◌≤◌, ◌&&◌, not, is_some, Bool, true, false, if◌then◌else◌, Some, None, List, [], ◌∷◌, ◌++◌, zero, suc, map, drop, length, Result, Ok, Err, All, ap, refl, subst, sym, ◌∙◌, arith, inl, inr, append_assoc}
use Rattle.std.proofs.Math.ListN.{take}
use Rattle.std.proofs.lemmas.Int.{ints}
use Rattle.std.specs.Prelude.{ℤ, pos, ◌*ℤ◌, ◌<ℤ◌, slice_index_or}
use Rattle.std.proofs.lemmas.List.{append-nil, drop_all, get_or-map, get_or_default}
use Rattle.rg_theory.specs.declared.Class.{Class}
use Rattle.rg_theory.specs.ClassWords.{HasNumbersInRange}
use Rattle.rg_integers.specs.declared.term.Wide.{Wide}
use Rattle.rg_linear.specs.Branching.{Form}
use Rattle.rg_cert_meaning.specs.Expression.{Term, Expression, plus}
use Rattle.rg_cert_meaning.specs.declared.RowName.{RowName}
use Rattle.rg_cert_meaning.specs.Row.{row_expression, form_variable, step_of}
use Rattle.rg_cert_meaning.specs.declared.Form.{Form as SplitForm}
use Rattle.rg_case_folds.specs.Setting.{Setting, CaseSetting}
use Rattle.rg_folds.specs.Fold.{each}
use Rattle.rg_case_folds.specs.Rewriting.{Scaled, column_count, terms_fold, form_fold, form_low, form_high, KeptRow}
use Rattle.rg_case_folds.specs.FormRows.{form_row}
use Rattle.rg_case_folds.proofs.FormRows.{same_terms, form_over_row}
use Rattle.rg_case_folds.proofs.Forms.{each_at}
use Rattle.rg_folds.proofs.Folding.{behind, each_next, each_fails, each_ends}
use Rattle.rg_case_folds.proofs.Items.{from_index}
use Rattle.rg_integers.specs.Range.{InRange}
use Rattle.rg_rows.specs.declared.case_row.CaseRow.{CaseRow}
use Rattle.rg_rows.specs.declared.named_form.NamedForm.{NamedForm}
use Rattle.rg_rows.specs.View.{kept_row, fold_of}
use Rattle.rg_rows.specs.Forms.{linear_form, split_of, form_in, put_form, forms_in, IsPartOf}
use Rattle.rg_rows.specs.Making.{IsMade}
use Rattle.rg_rows.proofs.Placing.{row_got}
use Rattle.rg_cert_meaning.specs.declared.RowName.TheVariants as row_name
use Rattle.rg_cert_meaning.specs.declared.Form.TheVariants as split_form

-- the row that the form is of
pub form_in_row : (initial : ℕ) (class : Class) (name : RowName) (split : SplitForm) → form_in class name ≡ Some split → name ≡ form_row initial split
form_in_row initial class (row_name.Tokens q) split e = go (is_some class.bound) e
  where
    go : (b : Bool) → (if b then Some (split_form.Tokens q) else None) ≡ Some split → row_name.Tokens q ≡ form_row initial split
    go true e = ap (form_row initial) (only e)
      where
        only : Some (split_form.Tokens q) ≡ Some split → split_form.Tokens q ≡ split
        only e = cc
    go false e = cc
form_in_row initial class (row_name.Down t) split e = go (class.plain && not (is_some class.bound)) e
  where
    go : (b : Bool) → (if b then Some (split_form.Effect t) else None) ≡ Some split → row_name.Down t ≡ form_row initial split
    go true e = ap (form_row initial) (only e)
      where
        only : Some (split_form.Effect t) ≡ Some split → split_form.Effect t ≡ split
        only e = cc
    go false e = cc
form_in_row initial class (row_name.Arc a) split e = cc
form_in_row initial class (row_name.Cap q) split e = cc
form_in_row initial class (row_name.Up t) split e = cc
form_in_row initial class (row_name.Makes t) split e = cc
form_in_row initial class (row_name.Stop q) split e = cc
form_in_row initial class row_name.Block split e = cc
form_in_row initial class row_name.Empty split e = cc
form_in_row initial class (row_name.Full q) split e = cc
form_in_row initial class row_name.Keep split e = cc
form_in_row initial class row_name.Apart split e = cc
form_in_row initial class (row_name.Above d) split e = cc

-- and it is counted one by one
pub form_in_step : (class : Class) (name : RowName) (split : SplitForm) → form_in class name ≡ Some split → step_of class split ≡ 1
form_in_step class (row_name.Tokens q) split e = go (is_some class.bound) e
  where
    go : (b : Bool) → (if b then Some (split_form.Tokens q) else None) ≡ Some split → step_of class split ≡ 1
    go true e = sym (ap (step_of class) (only e))
      where
        only : Some (split_form.Tokens q) ≡ Some split → split_form.Tokens q ≡ split
        only e = cc
    go false e = cc
form_in_step class (row_name.Down t) split e = go (class.plain && not (is_some class.bound)) e
  where
    go : (b : Bool) → (if b then Some (split_form.Effect t) else None) ≡ Some split → step_of class split ≡ 1
    go true e = sym (ap (step_of class) (only e))
      where
        only : Some (split_form.Effect t) ≡ Some split → split_form.Effect t ≡ split
        only e = cc
    go false e = cc
form_in_step class (row_name.Arc a) split e = cc
form_in_step class (row_name.Cap q) split e = cc
form_in_step class (row_name.Up t) split e = cc
form_in_step class (row_name.Makes t) split e = cc
form_in_step class (row_name.Stop q) split e = cc
form_in_step class row_name.Block split e = cc
form_in_step class row_name.Empty split e = cc
form_in_step class (row_name.Full q) split e = cc
form_in_step class row_name.Keep split e = cc
form_in_step class row_name.Apart split e = cc
form_in_step class (row_name.Above d) split e = cc

-- ---- the list

module _ (class : Class) (make : SplitForm → Result Form Wide → Type 0) (names : List RowName) (i : ℕ) (name : RowName) (next : drop i names ≡ name ∷ drop (i + 1) names)
    (xs : List Form) (so_far : (r : Result (List Form) Wide) → each make (forms_in class (drop i names)) r → each make (forms_in class names) (behind xs r)) where
  pub form_skips : form_in class name ≡ None → (r : Result (List Form) Wide) → each make (forms_in class (drop (i + 1) names)) r → each make (forms_in class names) (behind xs r)
  form_skips none r h = so_far r (subst (λ l. each make l r) (sym (ap (forms_in class) next ∙ ap (λ o. put_form o (forms_in class (drop (i + 1) names))) none)) h)

  module _ (split : SplitForm) (is : form_in class name ≡ Some split) where
    here : (r : Result (List Form) Wide) → each make (split ∷ forms_in class (drop (i + 1) names)) r → each make (forms_in class names) (behind xs r)
    here r h = so_far r (subst (λ l. each make l r) (sym (ap (forms_in class) next ∙ ap (λ o. put_form o (forms_in class (drop (i + 1) names))) is)) h)

    pub form_next : (x : Form) → make split (Ok x) → (r : Result (List Form) Wide) → each make (forms_in class (drop (i + 1) names)) r → each make (forms_in class names) (behind (xs ++ x ∷ []) r)
    form_next x made = each_next make (forms_in class names) split (forms_in class (drop (i + 1) names)) xs here x made

    pub form_fails : (w : Wide) → make split (Err w) → each make (forms_in class names) (Err w)
    form_fails w made = each_fails make (forms_in class names) split (forms_in class (drop (i + 1) names)) xs here w made

pub forms_end : (class : Class) (make : SplitForm → Result Form Wide → Type 0) (names : List RowName) (i : ℕ) (xs : List Form)
    → ((r : Result (List Form) Wide) → each make (forms_in class (drop i names)) r → each make (forms_in class names) (behind xs r)) → length names ≤ i
    → each make (forms_in class names) (Ok xs)
forms_end class make names i xs so_far past = each_ends make (forms_in class names) xs (λ r h. so_far r (subst (λ l. each make (forms_in class l) r) (sym (drop_all i names past)) h))

-- the names of the forms so far
module _ (class : Class) (names : List RowName) (i : ℕ) (name : RowName) (next : drop i names ≡ name ∷ drop (i + 1) names) (done : List SplitForm)
    (so_far : done ++ forms_in class (drop i names) ≡ forms_in class names) where
  pub named_skips : form_in class name ≡ None → done ++ forms_in class (drop (i + 1) names) ≡ forms_in class names
  named_skips none = ap (λ l. done ++ l) (sym (ap (forms_in class) next ∙ ap (λ o. put_form o (forms_in class (drop (i + 1) names))) none)) ∙ so_far

  pub named_next : (split : SplitForm) → form_in class name ≡ Some split → (done ++ split ∷ []) ++ forms_in class (drop (i + 1) names) ≡ forms_in class names
  named_next split is = append_assoc done (split ∷ []) (forms_in class (drop (i + 1) names))
      ∙ ap (λ l. done ++ l) (sym (ap (forms_in class) next ∙ ap (λ o. put_form o (forms_in class (drop (i + 1) names))) is)) ∙ so_far

pub named_end : (class : Class) (names : List RowName) (i : ℕ) (done : List SplitForm) → done ++ forms_in class (drop i names) ≡ forms_in class names → length names ≤ i → done ≡ forms_in class names
named_end class names i done so_far past = sym (append-nil done) ∙ ap (λ l. done ++ forms_in class l) (sym (drop_all i names past)) ∙ so_far

-- ---- one form

module _ (it : CaseSetting) (split : SplitForm) (e : Expression) (is : e ≡ row_expression it.lts it.class it.problem it.number [] (form_row it.lts.initial split)) where
  pub terms_are : (r : Result Scaled Wide) → terms_fold it.setting e.terms r → terms_fold it.setting (plus (form_variable it.lts.initial split) ∷ []) r
  terms_are r h = subst (λ (ts : List Term). terms_fold it.setting ts r) (ap (λ (x : Expression). x.terms) is ∙ same_terms it.lts it.class it.problem it.number split) h

  pub form_of_terms : (s : Scaled) (form : Form) → terms_fold it.setting e.terms (Ok s)
      → form ≡ record {
        scale = pos (step_of it.class split) *ℤ s.multiple;
        coeffs = s.numbers;
        low = form_low split;
        high = form_high it.lts it.class split;
      } → form_fold it.setting split (Ok form)
  form_of_terms s form h same = (s, terms_are (Ok s) h, same)

  pub form_of_none : (w : Wide) → terms_fold it.setting e.terms (Err w) → form_fold it.setting split (Err w)
  form_of_none w h = inl (terms_are (Err w) h)

  -- the numbers are those of the row, so many times
  pub times_row : (s : Scaled) (k : KeptRow) → terms_fold it.setting e.terms (Ok s) → fold_of it (form_row it.lts.initial split) (Ok k)
      → (d : ℕ) × (0 < d) × (s.numbers ≡ map (λ z. pos d *ℤ z) k.row.coeffs)
  times_row s k h row =
      let (divisor, same) = form_over_row it split
      (record { scale = pos (step_of it.class split) *ℤ s.multiple; coeffs = s.numbers; low = form_low split; high = form_high it.lts it.class split }) k
      (form_of_terms s (record { scale = pos (step_of it.class split) *ℤ s.multiple; coeffs = s.numbers; low = form_low split; high = form_high it.lts it.class split }) h
      refl) row in
      (max divisor 1, omega arith, same)

-- the row at an index, and its name
pub row_at_index : (s : CaseSetting) (names : List RowName) (all : List KeptRow) (i : ℕ) (name : RowName) (k : KeptRow) → each (fold_of s) names (Ok all)
    → i < length names → slice_index_or names i name ≡ name → slice_index_or all i k ≡ k → fold_of s name (Ok k) × (k.name ≡ name)
row_at_index s names all i name k made lt at at_k =
    let fold = subst (λ n. fold_of s n (Ok k)) at (subst (λ r. fold_of s (slice_index_or names i name) (Ok r)) at_k (each_at (fold_of s) names all i name k made lt)) in
    (fold, named fold)
  where
    named : fold_of s name (Ok k) → k.name ≡ name
    named (scaled, terms, (constant, product, (same, d))) = same

-- ---- the forms of the rows before index i

pub record Keeps (s : Setting) (names : List RowName) (rows : List CaseRow) (indices : List ℕ) (i : ℕ) (forms : List NamedForm) : Type 0 where
  pub so_far : (r : Result (List Form) Wide) → each (form_fold s) (forms_in s.class (drop i names)) r → each (form_fold s) (forms_in s.class names) (behind (map linear_form forms) r)
  pub splits : map split_of forms ++ forms_in s.class (drop i names) ≡ forms_in s.class names
  pub made : All (IsMade s.lts s.class (column_count s.lts s.basis s.class) (map kept_row rows) indices) forms

-- ---- the row at index i, which has a form

module _ (it : CaseSetting) (names : List RowName) (i : ℕ) (d : RowName) (lt : i < length names) where
  abbrev name : RowName
  name = slice_index_or names i d

  pub next_name : drop i names ≡ slice_index_or names i d ∷ drop (i + 1) names
  next_name = from_index names i d lt

  module _ (form : SplitForm) (is_form : Some form ≡ form_in it.class (slice_index_or names i d)) (e : Expression)
      (is_e : e ≡ row_expression it.lts it.class it.problem it.number [] (slice_index_or names i d)) where
    named : name ≡ form_row it.lts.initial form
    named = form_in_row it.lts.initial it.class name form (sym is_form)

    stepped : (m : ℤ) → m ≡ pos (step_of it.class form) *ℤ m
    stepped m = once m ∙ ap (λ k. pos k *ℤ m) (sym (form_in_step it.class name form (sym is_form)))
      where
        once : (m : ℤ) → m ≡ pos 1 *ℤ m
        once m = omega (arith, ints)

    is_split : e ≡ row_expression it.lts it.class it.problem it.number [] (form_row it.lts.initial form)
    is_split = is_e ∙ ap (row_expression it.lts it.class it.problem it.number []) named

    module _ (xs : List Form) (so_far : (r : Result (List Form) Wide) → each (form_fold it.setting) (forms_in it.class (drop i names)) r
        → each (form_fold it.setting) (forms_in it.class names) (behind xs r)) where
      pub step_fails : (w : Wide) → terms_fold it.setting e.terms (Err w) → each (form_fold it.setting) (forms_in it.class names) (Err w)
      step_fails w h = form_fails it.class (form_fold it.setting) names i name next_name xs so_far form (sym is_form) w (form_of_none it form e is_split w h)

      pub step_next : (f : NamedForm) (s : Scaled) → terms_fold it.setting e.terms (Ok s) → f.scale ≡ s.multiple → f.coeffs.items ≡ s.numbers
          → f.low ≡ form_low form → f.high ≡ form_high it.lts it.class form → (r : Result (List Form) Wide)
          → each (form_fold it.setting) (forms_in it.class (drop (i + 1) names)) r
          → each (form_fold it.setting) (forms_in it.class names) (behind (xs ++ linear_form f ∷ []) r)
      step_next f s h scale coeffs low high = form_next it.class (form_fold it.setting) names i name next_name xs so_far form
          (sym is_form) (linear_form f) (form_of_terms it form e is_split s (linear_form f) h
          (λ j. record { scale = (scale ∙ stepped s.multiple) j; coeffs = coeffs j; low = low j; high = high j }))

    pub step_named : (done : List SplitForm) → done ++ forms_in it.class (drop i names) ≡ forms_in it.class names → (f : NamedForm)
        → f.form ≡ form → (done ++ split_of f ∷ []) ++ forms_in it.class (drop (i + 1) names) ≡ forms_in it.class names
    step_named done so_far f same = ap (λ x. (done ++ x ∷ []) ++ forms_in it.class (drop (i + 1) names)) same ∙ named_next it.class names i name next_name done so_far form (sym is_form)

    module _ (rows : List CaseRow) (lt' : i < length rows) (made : each (fold_of it) names (Ok (map kept_row rows))) (row : CaseRow) (is_row : row ≡ slice_index_or rows i row) where
      row_is : fold_of it name (Ok (kept_row row)) × ((kept_row row).name ≡ name)
      row_is = row_at_index it names (map kept_row rows) i name (kept_row row) made
          lt (get_or_default names i name d lt)
          (get_or-map kept_row rows i row (kept_row row) lt' ∙ ap kept_row (sym is_row))

      pub step_times : (s : Scaled) → terms_fold it.setting e.terms (Ok s) → (t : ℕ) × (0 < t) × (s.numbers ≡ map (λ z. pos t *ℤ z) row.coeffs.items)
      step_times s h = times_row it form e is_split s (kept_row row) h (subst (λ n. fold_of it n (Ok (kept_row row))) named row_is.0)

      pub step_made : (columns : ℕ) (indices : List ℕ) (f : NamedForm) → f.form ≡ form → IsPartOf f row.coeffs.items (slice_index_or indices i 0)
          → (f.low ≡ form_low form) × (f.high ≡ form_high it.lts it.class form) → length f.coeffs.items ≡ columns
          → (HasNumbersInRange it.class → pos 0 <ℤ f.scale) → InRange f.scale → All InRange f.coeffs.items → InRange f.times
          → IsMade it.lts it.class columns (map kept_row rows) indices f
      step_made columns indices f same part bounds one_each positive scale coeffs times = record {
        number = i;
        row = kept_row row;
        at = row_got rows i row lt' is_row;
        named = row_is.1 ∙ named ∙ ap (λ x. form_row it.lts.initial x) (sym same);
        part = part;
        bounds = (bounds.0 ∙ ap (λ x. form_low x) (sym same), bounds.1 ∙ ap (λ x. form_high it.lts it.class x) (sym same));
        one_each = one_each;
        positive = positive;
        scale_in_range = scale;
        coeffs_in_range = coeffs;
        times_in_range = times;
      }

-- ---- the start, behind the forms of the named rows

-- one more at the end
pub each_last : {A X : Type 0} (make : A → Result X Wide → Type 0) (xs : List A) (a : A) (ys : List X) (y : X) → each make xs (Ok ys) → make a (Ok y) → each make (xs ++ a ∷ []) (Ok (ys ++ y ∷ []))
each_last make [] a ys y made last = subst (λ l. each make (a ∷ []) (Ok (l ++ y ∷ []))) (sym made) (y, last, ([], refl, refl))
each_last make (x ∷ xs) a ys y (z, first, (rest, more, is)) last = (z, first, (rest ++ y ∷ [], each_last make xs a rest y more last, ap (λ l. l ++ y ∷ []) is))

pub each_last_fails : {A X : Type 0} (make : A → Result X Wide → Type 0) (xs : List A) (a : A) (ys : List X) (w : Wide) → each make xs (Ok ys) → make a (Err w) → each make (xs ++ a ∷ []) (Err w)
each_last_fails make [] a ys w made last = inl last
each_last_fails make (x ∷ xs) a ys w (z, first, (rest, more, is)) last = inr (z, first, inl (each_last_fails make xs a rest w more last))

pub each_early_fails : {A X : Type 0} (make : A → Result X Wide → Type 0) (xs zs : List A) (w : Wide) → each make xs (Err w) → each make (xs ++ zs) (Err w)
each_early_fails make [] zs w made = absurd made
each_early_fails make (x ∷ xs) zs w (inl first) = inl first
each_early_fails make (x ∷ xs) zs w (inr (z, first, inl more)) = inr (z, first, inl (each_early_fails make xs zs w more))
each_early_fails make (x ∷ xs) zs w (inr (z, first, inr (rest, more, none))) = absurd none

pub each_take : {A X : Type 0} (make : A → Result X Wide → Type 0) (n : ℕ) (xs : List A) (ys : List X) → each make xs (Ok ys) → each make (take n xs) (Ok (take n ys))
each_take make zero xs ys made = refl
each_take make (suc n) [] ys made = ap (take (suc n)) made
each_take make (suc n) (x ∷ xs) ys (z, first, (rest, more, is)) = (z, first, (take n rest, each_take make n xs rest more, ap (take (suc n)) is))
