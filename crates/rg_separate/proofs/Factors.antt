-- The named rows of a leaf, one after the other.
use Rattle.std.proofs.Common.{◌≡◌, inl, ℕ, zero, suc, ◌+◌, ◌-◌, ◌<◌, ◌≤◌, Bool, true, false, if◌then◌else◌, ◌||◌, List, [], ◌∷◌, map, length, get_or, All, Result, Ok, Err, sym, ap, subst, ◌∙◌, arith}
use Rattle.std.specs.Prelude.{ℤ, pos, negsuc, ◌≤ℤ◌, int_lt, nat_lt}
use Rattle.std.proofs.lemmas.List.{get_or-map, length-map}
use Rattle.std.proofs.lemmas.List.Elements.{All-nil, All-cons}
use Rattle.std.proofs.lemmas.Bool.{lt-ltb}
use Rattle.std.proofs.lemmas.Int.{ints}
use Rattle.std.specs.Int.Signed.{mag}
use Rattle.rg_integers.specs.declared.term.Wide.{Wide}
use Rattle.rg_fraction.specs.declared.fraction.Fraction.{Fraction}
use Rattle.rg_fraction.specs.Fractions.{IsValue, IsProduct, numerator_of, denominator_of}
use Rattle.rg_integers.specs.Range.{InRange}
use Rattle.rg_cert_meaning.specs.Row.{Side}
use Rattle.rg_linear.specs.System.{LinearSystem}
use Rattle.rg_linear.specs.Branching.{Weight, weights_from, form_at, SplitSide}
use Rattle.rg_folds.specs.Fold.{Ratio, whole, ratio_of, shown_result, mul}
use Rattle.rg_case_folds.specs.Rewriting.{CaseSystem}
use Rattle.rg_case_folds.specs.Spreading.{share_fold, kept_at, name_of, side_at, named_at, split_factor, factor_of}
use Rattle.rg_folds.proofs.FoldLemmas.{ratio_one, new_step, mul_step}
use Rattle.rg_case_folds.proofs.Scaling.{whole_ratio}
use Rattle.rg_rows.specs.Shared.{NamedRows}
use Rattle.rg_rows.specs.declared.named_form.NamedForm.{NamedForm}
use Rattle.rg_rows.specs.Forms.{linear_form, split_of}
use Rattle.rg_rows.specs.Shown.{ShowsCase}
use Rattle.rg_farkas.specs.Leaves.{share_of}
use Rattle.rg_separate.specs.Casing.{sides_among}
use Rattle.rg_cert_meaning.specs.declared.RowName.{RowName}
use Rattle.rg_cert_meaning.specs.declared.RowName.TheVariants as row_name
use Rattle.rg_cert_meaning.specs.declared.Form.TheVariants as split_form

-- ---- the weights of multipliers

-- what holds of the multipliers of so many rows holds of the weights, as does that their rows are among them
pub weights_are : (multiplier : ℕ → ℤ) (P : Weight → Type 0) (first n total : ℕ) → first + n ≤ total
    → ((i : ℕ) → i < total → P (record { row = i; multiplier = multiplier i })) → All P (weights_from multiplier first n)
weights_are multiplier P first zero total le each = All-nil P
weights_are multiplier P first (suc n) total le each = go (int_lt (multiplier first) (pos 0) || int_lt (pos 0) (multiplier first)) (weights_are multiplier P (suc first) n total (omega arith) each)
  where
    go : (b : Bool) → All P (weights_from multiplier (suc first) n)
        → All P (if b then (record { row = first; multiplier = multiplier first } ∷ weights_from multiplier (suc first) n) else weights_from multiplier (suc first) n)
    go true rest = All-cons P _ _ (each first (omega arith)) rest
    go false rest = rest

pub weights_few : (multiplier : ℕ → ℤ) (first n : ℕ) → length (weights_from multiplier first n) ≤ n
weights_few multiplier first zero = omega arith
weights_few multiplier first (suc n) = go (int_lt (multiplier first) (pos 0) || int_lt (pos 0) (multiplier first)) (weights_few multiplier (suc first) n)
  where
    go : (b : Bool) → length (weights_from multiplier (suc first) n) ≤ n
        → length (if b then (record { row = first; multiplier = multiplier first } ∷ weights_from multiplier (suc first) n) else weights_from
        multiplier (suc first) n) ≤ suc n
    go true le = omega arith
    go false le = omega arith

-- a number of the machine that is not negative is in range
pub small : (z : ℤ) → pos 0 ≤ℤ z → mag z < 170141183460469231731687303715884105728 → InRange z
small (pos n) h lt = lt
small (negsuc n) h lt = absurd (omega (arith, ints))

-- a row behind those of the system
not_below : (a b : ℕ) → b ≤ a → nat_lt a b ≡ false
not_below a b le = grind arith

-- a whole number is the fraction over 1
whole_fraction : (f : Fraction) (z : ℤ) → IsValue f z (pos 1) → ratio_of f ≡ whole z
whole_fraction f z is = ratio_one (ratio_of f) (whole z) z (pos 1) (new_step f z (pos 1) (λ e. (omega (arith, ints))) is) (whole_ratio z z (pos 1) (λ e. (omega (arith, ints))) (omega (arith, ints)))

-- ---- the row of the system, its name and its factor

module _ (named : NamedRows) (case : CaseSystem) (shows : ShowsCase named case) where
  rows_are : length named.system.rows ≡ length case.kept
  rows_are = ap (λ (s : LinearSystem). length s.rows) shows.system ∙ length-map case.kept (λ k. k.row)

  pub names_many : length named.names ≡ length named.system.rows
  names_many = ap length shows.names ∙ length-map case.kept (λ k. k.name) ∙ sym rows_are

  pub factors_many : length named.factors ≡ length named.system.rows
  factors_many = sym (length-map named.factors ratio_of) ∙ ap length shows.factors ∙ length-map case.kept (λ k. k.factor) ∙ sym rows_are

  pub own_name : (i : ℕ) (n : RowName) → i < length named.system.rows → get_or named.names i n ≡ name_of case i
  own_name i n lt =
      let kept : i < length case.kept = (let e = rows_are in omega arith) in
      ap (λ rs. get_or rs i n) shows.names
      ∙ get_or-map (λ k. k.name) case.kept i _ n kept
      ∙ sym (ap (λ b. if b then (kept_at case i).name else row_name.Above (i - length case.kept)) (lt-ltb i (length case.kept) kept))

  pub own_factor : (sides : List SplitSide) (named_above : List Side) (i : ℕ) (f : Fraction) → i < length named.system.rows → ratio_of (get_or named.factors i f) ≡ factor_of case sides named_above i
  own_factor sides named_above i f lt =
      let kept : i < length case.kept = (let e = rows_are in omega arith) in
      sym (get_or-map ratio_of named.factors i f (ratio_of f) (let e = factors_many in omega arith))
      ∙ ap (λ rs. get_or rs i (ratio_of f)) shows.factors
      ∙ get_or-map (λ k. k.factor) case.kept i _ (ratio_of f) kept
      ∙ sym (ap (λ b. if b then (kept_at case i).factor else split_factor (named_at named_above (i - length case.kept)).form
      (form_at case.forms (side_at sides (i - length case.kept)).form)) (lt-ltb i (length case.kept) kept))

  -- ---- the row of a split

  pub split_name : (i : ℕ) → length named.system.rows ≤ i → row_name.Above (i - length named.system.rows) ≡ name_of case i
  split_name i le = ap (λ n. row_name.Above (i - n)) rows_are
      ∙ sym (ap (λ b. if b then (kept_at case i).name else row_name.Above (i - length case.kept)) (not_below i (length case.kept) (let e = rows_are in omega arith)))

  abbrev among : List SplitSide → List Side
  among sides = sides_among (map split_of named.forms) sides

  -- the form by name of the side
  form_named : (sides : List SplitSide) (d : ℕ) (side : SplitSide) (f : NamedForm) → d < length sides → side_at sides d ≡ side
      → side.form < length named.forms → get_or named.forms side.form f ≡ f → (named_at (among sides) d).form ≡ split_of f
  form_named sides d side f below at lt form =
      let name : SplitSide → Side = λ s. record { form = get_or (map split_of named.forms) s.form (split_form.Tokens 0); at = s.at; high = s.high } in
      ap (λ (s : Side). s.form) (get_or-map name sides d (record { form = 0; at = pos 0; high = false }) (record { form = split_form.Tokens 0; at = pos 0; high = false }) below)
      ∙ ap (λ (s : SplitSide). get_or (map split_of named.forms) s.form (split_form.Tokens 0)) at
      ∙ get_or-map split_of named.forms side.form f (split_form.Tokens 0) lt
      ∙ ap split_of form

  pub factor_of_split : (sides : List SplitSide) (i : ℕ) (side : SplitSide) (f : NamedForm) (scale : Fraction) (z : ℤ) → length named.system.rows ≤ i
      → i - length named.system.rows < length sides → side_at sides (i - length named.system.rows) ≡ side → side.form < length named.forms
      → get_or named.forms side.form f ≡ f → IsValue scale z (pos 1) → whole z ≡ split_factor (split_of f) (linear_form f)
      → ratio_of scale ≡ factor_of case sides (among sides) i
  factor_of_split sides i side f scale z le below at lt form value factor =
      whole_fraction scale z value
      ∙ factor
      ∙ ap (λ g. split_factor g (linear_form f)) (sym (form_named sides (i - length named.system.rows) side f below at lt form))
      ∙ ap (λ (g : NamedForm). split_factor (named_at (among sides) (i - length named.system.rows)).form (linear_form g)) (sym form)
      ∙ ap (split_factor (named_at (among sides) (i - length named.system.rows)).form)
      (sym (get_or-map linear_form named.forms side.form f (record { scale = pos 1; coeffs = []; low = pos 0; high = pos 0 }) lt))
      ∙ ap (λ fs. split_factor (named_at (among sides) (i - length named.system.rows)).form (form_at fs side.form)) shows.forms
      ∙ ap (λ (s : SplitSide). split_factor (named_at (among sides) (i - length named.system.rows)).form (form_at case.forms s.form)) (sym at)
      ∙ ap (λ n. split_factor (named_at (among sides) (i - n)).form (form_at case.forms (side_at sides (i - n)).form)) rows_are
      ∙ sym (ap (λ b. if b then (kept_at case i).factor else split_factor (named_at (among sides) (i - length case.kept)).form
      (form_at case.forms (side_at sides (i - length case.kept)).form)) (not_below i (length case.kept) (let e = rows_are in omega arith)))

-- ---- one share

-- the multiplier times the factor
product_step : (f factor : Fraction) (z : ℤ) (other : Ratio) (r : Result Fraction Wide) → IsValue f z (pos 1) → ratio_of factor ≡ other
    → IsProduct (numerator_of f) (denominator_of f) (numerator_of factor) (denominator_of factor) r → mul (whole z) other (shown_result ratio_of r)
product_step f factor z other r is same product =
    subst (λ x. mul x other (shown_result ratio_of r)) (whole_fraction f z is)
    (subst (λ x. mul (ratio_of f) x (shown_result ratio_of r)) same (mul_step f factor r product))

module _ (case : CaseSystem) (sides : List SplitSide) (above : List Side) (i : ℕ) (z : ℤ) (f factor : Fraction) (is : IsValue f z (pos 1))
    (factor_is : ratio_of factor ≡ factor_of case sides above i) where
  pub share_made : (name : RowName) (share : Fraction) → name ≡ name_of case i
      → IsProduct (numerator_of f) (denominator_of f) (numerator_of factor) (denominator_of factor) (Ok share)
      → share_fold case sides above (record { row = i; multiplier = z }) (Ok (share_of (name, share)))
  share_made name share named product = (
    ratio_of share,
    product_step f factor z (factor_of case sides above i) (Ok share) is factor_is product,
    ap
        (λ n. record { name = n; multiplier = ratio_of share }) named,
  )

  pub share_fails : (w : Wide) → IsProduct (numerator_of f) (denominator_of f) (numerator_of factor) (denominator_of factor) (Err w)
      → share_fold case sides above (record { row = i; multiplier = z }) (Err w)
  share_fails w product = inl (product_step f factor z (factor_of case sides above i) (Err w) is factor_is product)
