-- How many times a row a form is.
use Rattle.std.proofs.Common.{◌≡◌, ◌⊎◌, ⊎_elim, ℕ, zero, suc, max, ◌*◌, ◌<◌, ◌≤◌, List, [], ◌∷◌, map, length, Some, Ok, Contains, All, inl, inr, refl, ap, ap₂, sym, subst, ◌∙◌, arith, to_z, of_z}
use Rattle.std.specs.Prelude.{ℤ, pos, negsuc, ◌*ℤ◌, ◌<ℤ◌, ◌≤ℤ◌, ◌≢◌, unsigned_abs, int_div, slice_get, slice_index_or}
use Rattle.std.specs.Int.{w128, ◌∣◌}
use Rattle.std.proofs.Math.Nat.{mul-suc, dvd-mul_right}
use Rattle.std.proofs.Math.IntN.{*ℤ-zero}
use Rattle.std.proofs.lemmas.Int.{ints, unsigned_abs-mul}
use Rattle.std.proofs.lemmas.List.{length-map, get_or_default}
use Rattle.std.proofs.lemmas.List.Elements.{All-nil, All-cons, All-head, All-tail}
use Rattle.std.proofs.lemmas.Option.{slice_get_within, get_or_from_slice_get}
use Rattle.rg_integers.specs.Range.{InRange}
use Rattle.rg_integers.specs.Sum.{number_at}
use Rattle.rg_integers.proofs.Ring.{ring}
use Rattle.rg_integers.proofs.Order.{mul-cancel}
use Rattle.rg_integers.proofs.Divisors.{exact}
use Rattle.rg_integers.proofs.Casts.{back}
use Rattle.rg_linear.specs.System.{row_at}
use Rattle.rg_linear.specs.Cycle.{IsZeroVector}
use Rattle.rg_cert_meaning.specs.Row.{row_expression}
use Rattle.rg_cert_meaning.specs.declared.RowName.{RowName}
use Rattle.rg_case_folds.specs.Setting.{CaseSetting}
use Rattle.rg_folds.specs.Fold.{each}
use Rattle.rg_case_folds.specs.Rewriting.{KeptRow, CaseSystem, rows_of}
use Rattle.rg_case_folds.specs.FormRows.{form_row, IsMultipleOfRow}
use Rattle.rg_case_folds.proofs.FormRows.{multiple_of_kept, number_times, number_zero}
use Rattle.rg_case_folds.proofs.SystemRows.{made_from}
use Rattle.rg_case_folds.proofs.OneResult.{row_one}
use Rattle.rg_rows.specs.declared.named_form.NamedForm.{NamedForm}
use Rattle.rg_rows.specs.View.{AreIndices, fold_of}
use Rattle.rg_rows.specs.Forms.{linear_form, split_of, StandsInRow}
use Rattle.rg_rows.specs.Making.{IsMade}

pub times_zero : (d : ℤ) (xs : List ℤ) → IsZeroVector xs → IsZeroVector (map (λ z. d *ℤ z) xs)
times_zero d [] zeros = All-nil (λ z. z ≡ pos 0)
times_zero d (x ∷ xs) zeros = All-cons (λ z. z ≡ pos 0) (d *ℤ x) (map (λ z. d *ℤ z) xs)
    (ap (λ z. d *ℤ z) (All-head (λ z. z ≡ pos 0) x xs zeros) ∙ *ℤ-zero d) (times_zero d xs (All-tail (λ z. z ≡ pos 0) x xs zeros))

positive_is : (t : ℤ) → pos 0 <ℤ t → pos (max (unsigned_abs t) 1) ≡ t
positive_is (pos zero) h = absurd (omega (arith, ints))
positive_is (pos (suc n)) h = ap pos (omega arith)
positive_is (negsuc n) h = absurd (omega (arith, ints))

differs : (t : ℤ) → pos 0 <ℤ t → t ≢ pos 0
differs t h e = omega (arith, ints)

has_at : (xs : List KeptRow) (i : ℕ) (r : KeptRow) → slice_get xs i ≡ Some r → Contains xs r
has_at xs i r at = (i, slice_get_within xs i r at, get_or_from_slice_get xs i r r at)

module _ (s : CaseSetting) (names : List RowName) (case : CaseSystem)
    (all : List KeptRow) (indices : List ℕ) (made : each (fold_of s) names (Ok all)) (are : AreIndices all case.kept indices)
    (columns : ℕ) (f : NamedForm) (is : IsMade s.lts s.class columns all indices f) where
  own_fold : fold_of s (form_row s.lts.initial (split_of f)) (Ok is.row)
  own_fold =
      let (name, has, fold) = made_from (fold_of s) names all is.row made (has_at all is.number is.row is.at) in
      subst (λ n. fold_of s n (Ok is.row)) (sym (name_is name fold) ∙ is.named) fold
    where
      name_is : (name : RowName) → fold_of s name (Ok is.row) → is.row.name ≡ name
      name_is name (scaled, terms, (constant, product, (same, d))) = same

  -- a form with coefficients is a multiple of the kept row at its index
  index_is : f.coeffs.items ≡ map (λ z. f.times *ℤ z) is.row.row.coeffs → f.row ≡ slice_index_or indices is.number 0
      → ¬ IsZeroVector f.coeffs.items → slice_get (rows_of case).rows f.row ≡ Some is.row.row
  index_is e index some = ap (λ p. slice_get (rows_of case).rows p) index
      ∙ are.each is.number is.row is.at (λ (zeros, weak). some (subst IsZeroVector (sym e) (times_zero f.times is.row.row.coeffs zeros)))

  pub stands_in_row : StandsInRow s (rows_of case) f
  stands_in_row = λ k fold.
      (let one = (row_one s.setting (form_row s.lts.initial (split_of f))
      (row_expression s.lts s.class s.problem s.number [] (form_row s.lts.initial (split_of f)))).one (Ok is.row) (Ok k) own_fold fold in
      let same : is.row ≡ k = cc in
      ⊎_elim
      (λ (positive, e, index, some). inl (differs f.times positive, index_is e index some ∙ ap (λ (r : KeptRow). Some r.row) same))
      (λ none. inr none)
      is.part)

  pub over_row : IsMultipleOfRow (rows_of case) (linear_form f) f.row f.times
  over_row = ⊎_elim
      (λ (positive, e, index, some).
      (let at = index_is e index some in
      let within : f.row < length case.kept = subst (λ n. f.row < n) (length-map case.kept (λ (k : KeptRow). k.row)) (slice_get_within (rows_of case).rows f.row is.row.row at) in
      subst (IsMultipleOfRow (rows_of case) (linear_form f) f.row) (positive_is f.times positive)
      (multiple_of_kept case (linear_form f) is.row (unsigned_abs f.times) (e ∙ ap (λ t. map (λ z. t *ℤ z) is.row.row.coeffs) (sym (positive_is f.times positive)))
      f.row within (get_or_from_slice_get (rows_of case).rows f.row is.row.row is.row.row at))))
      (λ (none, row, zeros). record {
        within = λ some. absurd (some none);
        not_negative = subst (λ z. pos 0 ≤ℤ z) (sym none) (omega (arith, ints));
        multiple = λ j lt. number_zero f.coeffs.items j zeros
            ∙ sym (ap (λ t. t *ℤ number_at (row_at (rows_of case) f.row).coeffs j) none ∙ zero_times (number_at (row_at (rows_of case) f.row).coeffs j));
      })
      is.part
    where
      zero_times : (z : ℤ) → pos 0 *ℤ z ≡ pos 0
      zero_times z = omega (arith, ints)

-- ---- what the code tells

-- a number at which the parts are not 0
pub quotient_is : (numbers parts : List ℤ) (i d : ℕ) → 0 < d → All InRange numbers → numbers ≡ map (λ z. pos d *ℤ z) parts → i < length numbers
    → (number_at numbers i ≡ pos 0 → ⊥) → (to_z w128 (of_z w128 (int_div (to_z w128 (of_z w128 (number_at numbers i))) (to_z w128 (of_z w128 (number_at parts i))))) ≡
    pos d) × ¬ IsZeroVector numbers
quotient_is numbers parts i d some fits are lt differ = (
  ap (λ z. to_z w128 (of_z w128 z)) (ap₂ int_div (back (number_at numbers i) number_fits) (back (number_at parts i) part_fits) ∙ quotient) ∙ back (pos d) d_fits,
  λ zeros. differ (zeros i (pos 0) lt),
)
  where
    number_fits : InRange (number_at numbers i)
    number_fits = fits i (pos 0) lt

    product : number_at numbers i ≡ pos d *ℤ number_at parts i
    product = ap (λ l. number_at l i) are ∙ number_times (pos d) parts i

    turned : number_at numbers i ≡ number_at parts i *ℤ pos d
    turned = product ∙ swap (pos d) (number_at parts i)
      where
        swap : (a b : ℤ) → a *ℤ b ≡ b *ℤ a
        swap a b = simp ring

    part_differs : number_at parts i ≡ pos 0 → ⊥
    part_differs e = differ (turned ∙ ap (λ z. z *ℤ pos d) e ∙ zero_times (pos d))
      where
        zero_times : (z : ℤ) → pos 0 *ℤ z ≡ pos 0
        zero_times z = omega (arith, ints)

    below : (a b n m : ℕ) → 0 < b → a * b ≡ n → n < m → a < m
    below a zero n m h e lt = absurd (omega arith)
    below a (suc b) n m h e lt = let k = mul-suc a b in omega arith

    size : unsigned_abs (number_at numbers i) ≡ unsigned_abs (number_at parts i) * d
    size = ap unsigned_abs turned ∙ unsigned_abs-mul (number_at parts i) (pos d)

    some_part : (z : ℤ) → (z ≡ pos 0 → ⊥) → 0 < unsigned_abs z
    some_part (pos zero) ne = absurd (ne refl)
    some_part (pos (suc n)) ne = omega arith
    some_part (negsuc n) ne = omega arith

    swapped : (a b : ℕ) → a * b ≡ b * a
    swapped a b = omega arith

    part_fits : InRange (number_at parts i)
    part_fits = below (unsigned_abs (number_at parts i)) d (unsigned_abs (number_at numbers i)) _ some (sym size) number_fits

    d_fits : InRange (pos d)
    d_fits = below d (unsigned_abs (number_at parts i)) (unsigned_abs (number_at numbers i)) _ (some_part (number_at parts i) part_differs)
        (swapped d (unsigned_abs (number_at parts i)) ∙ sym size) number_fits

    quotient : int_div (number_at numbers i) (number_at parts i) ≡ pos d
    quotient = mul-cancel (int_div (number_at numbers i) (number_at parts i)) (pos d) (number_at parts i) part_differs
        (exact (number_at numbers i) (number_at parts i)
        (subst (λ n. unsigned_abs (number_at parts i) ∣ n) (sym size) (dvd-mul_right (unsigned_abs (number_at parts i)) d)) ∙ product)

pub zeros_are : (numbers : List ℤ) (i : ℕ) → ((j : ℕ) → j < i → number_at numbers j ≡ pos 0) → length numbers ≤ i → IsZeroVector numbers
zeros_are numbers i zeros past k d lt = get_or_default numbers k d (pos 0) lt ∙ zeros k (omega arith)

abbrev pub Tells : ℤ → ℕ → List ℤ → Type 0
Tells t d numbers = ((t ≡ pos d) × ¬ IsZeroVector numbers) ⊎ ((t ≡ pos 0) × IsZeroVector numbers)

pub part_of_none : (times t : ℤ) (items coeffs : List ℤ) (row index d : ℕ) → 0 < d → row ≡ 0 → times ≡ t → t ≡ pos 0 → Tells t d items
    → ((pos 0 <ℤ times) × (items ≡ map (λ z. times *ℤ z) coeffs) × (row ≡ index) × ¬ IsZeroVector items) ⊎ ((times ≡ pos 0) × (row ≡ 0) × IsZeroVector items)
part_of_none times t items coeffs row index d some at same none tells = ⊎_elim (λ (is, busy). absurd (no d some (sym is ∙ none))) (λ (is, zeros). inr (same ∙ none, at, zeros)) tells
  where
    no : (d : ℕ) → 0 < d → pos d ≡ pos 0 → ⊥
    no d h e = omega (arith, ints)

pub part_of_some : (times t : ℤ) (items coeffs : List ℤ) (row index d : ℕ) → 0 < d → row ≡ index → times ≡ t → (t ≡ pos 0 → ⊥) → items ≡ map (λ z. pos d *ℤ z) coeffs
    → Tells t d items → ((pos 0 <ℤ times) × (items ≡ map (λ z. times *ℤ z) coeffs) × (row ≡ index) × ¬ IsZeroVector items)
    ⊎ ((times ≡ pos 0) × (row ≡ 0) × IsZeroVector items)
part_of_some times t items coeffs row index d some at same differ are tells = ⊎_elim
    (λ (is, busy). inl (subst (λ z. pos 0 <ℤ z) (sym (same ∙ is)) (positive d some), are ∙ ap (λ m. map (λ z. m *ℤ z) coeffs) (sym (same ∙ is)), at, busy))
    (λ (is, zeros). absurd (differ is))
    tells
  where
    positive : (d : ℕ) → 0 < d → pos 0 <ℤ pos d
    positive d h = omega (arith, ints)
