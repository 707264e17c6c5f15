-- Multipliers that refute a node's system, as shares of its named rows and of the sides of its splits.
use Rattle.std.proofs.Common.{◌≡◌, ⊎_elim, ℕ, ◌+◌, ◌-◌, ◌^◌, ◌<◌, ◌≤◌, Bool, true, false, if◌then◌else◌, List, [], ◌∷◌, length, length-append, map, Ok, Contains, All, Some, ap, ap₂, refl, subst, sym, ◌∙◌, arith}
use Rattle.std.specs.Prelude.{ℤ, pos, negsuc, neg_ℤ, ◌+ℤ◌, ◌-ℤ◌, ◌*ℤ◌, ◌<ℤ◌, slice_index_or}
use Rattle.std.proofs.Math.IntN.{*ℤ-zero}
use Rattle.std.proofs.lemmas.Int.{ints}
use Rattle.std.proofs.lemmas.Bool.{true≢false, cases_lt}
use Rattle.std.proofs.lemmas.List.{length-map, get_or-map, get_or-append-add}
use Rattle.std.proofs.lemmas.List.Elements.{All-get_or, Contains-get_or}
use Rattle.rg_integers.specs.Sum.{sum_below, number_at, dot}
use Rattle.rg_integers.proofs.Ring.{ring, mul-add}
use Rattle.rg_integers.proofs.Order.{mul_negative, mul-cancel_left, positive_differs}
use Rattle.rg_integers.proofs.Sums.{sum_below-same, sum_below-zero, sum_below-times, sum_below-swap}
use Rattle.rg_linear.specs.System.{LinearRow, LinearSystem, row_at, entry, AreFarkasMultipliers}
use Rattle.rg_linear.specs.Branching.{weights_from, Form, form_at, SplitSide, side_row, node_system}
use Rattle.rg_linear.proofs.Columns.{below_test, past_test}
use Rattle.rg_linear.proofs.Splits.{index-front}
use Rattle.rg_cert_meaning.specs.Expression.{Expression, plus, minus, sum_of, value_in}
use Rattle.rg_cert_meaning.specs.declared.Variable.{Variable}
use Rattle.rg_cert_meaning.specs.Row.{form_variable, step_of, FormStands, RowStands, row_expression, side_expression, Side}
use Rattle.rg_cert_meaning.specs.declared.Form.{Form as SplitForm}
use Rattle.rg_cert_meaning.specs.declared.RowName.{RowName}
use Rattle.rg_cert_meaning.specs.Refutes.{NamedRow, constant_sum}
use Rattle.rg_case_folds.specs.Setting.{CaseSetting}
use Rattle.rg_folds.specs.Fold.{each, whole, Ratio}
use Rattle.rg_case_folds.specs.Rewriting.{has_start, split_forms, form_fold, KeptRow, CaseSystem, rows_of}
use Rattle.rg_case_folds.specs.Values.{numbers_along, column_values}
use Rattle.rg_case_folds.specs.Shown.{IsLive, named_side, named_sides}
use Rattle.rg_case_folds.specs.Spreading.{Share, kept_at, side_at, named_at, split_factor, name_of, factor_of, share_fold}
use Rattle.rg_case_folds.proofs.Signs.{factor_is_positive}
use Rattle.rg_case_folds.specs.Meaning.{IsCaseOver}
use Rattle.rg_case_folds.proofs.Names.{names_stand}
use Rattle.rg_case_folds.proofs.ColumnValues.{row_sum}
use Rattle.rg_case_folds.proofs.Forms.{form_named, form_value, form_positive, step_positive}
use Rattle.rg_case_folds.proofs.FormRows.{start_scale}
use Rattle.rg_cert_data.specs.Certificates.{IsRowNameOf}
use Rattle.rg_farkas.specs.Refuting.{KeepsEachArc, AreShares, SharesRefute}
use Rattle.rg_farkas.proofs.Names.{IsUsed, names_in_range}
use Rattle.rg_farkas.proofs.ArcValues.{IsRowOf, kept_row, own_start, own_effect, own_given, same_used, kept_value}
use Rattle.rg_farkas.proofs.Shares.{names_all, shares_positive, shares_sum}
use Rattle.rg_farkas.proofs.Sides.{same_expression, stands_below, above_expression, above_stands, get-map, dot-neg, form_used}
use Rattle.rg_cert_meaning.specs.declared.RowName.TheVariants as row_name
use Rattle.rg_cert_meaning.specs.declared.Form.TheVariants as split_form
use Rattle.rg_cert_meaning.specs.declared.Variable.TheVariants.{Tokens}

-- ---- the rows of a node

module _ (it : CaseSetting) (case : CaseSystem) (c : IsCaseOver it case) (sides : List SplitSide) (within : All (λ side. side.form < length case.forms) sides) where
  abbrev node : LinearSystem
  node = node_system (rows_of case) case.forms sides

  abbrev named : List Side
  named = named_sides it.lts it.class it.problem sides

  abbrev no_row : KeptRow
  no_row = record { name = row_name.Above 0; row = record { coeffs = []; constant = pos 0 }; factor = whole (pos 1) }

  abbrev no_side : SplitSide
  no_side = record { form = 0; at = pos 0; high = false }

  case_length : length (rows_of case).rows ≡ length case.kept
  case_length = length-map case.kept (λ k. k.row)

  rows_length : length node.rows ≡ length case.kept + length sides
  rows_length = length-append (rows_of case).rows (map (side_row case.forms) sides) ∙ ap₂ ◌+◌ case_length (length-map sides (side_row case.forms))

  kept_has : (i : ℕ) → i < length case.kept → Contains case.kept (kept_at case i)
  kept_has i lt = Contains-get_or case.kept i no_row lt

  own_row : (i : ℕ) → i < length case.kept → IsRowOf it (kept_at case i)
  own_row i lt = kept_row it case (kept_at case i) c.is_case (kept_has i lt)

  front_row : (i : ℕ) → i < length case.kept → row_at node i ≡ (kept_at case i).row
  front_row i lt = index-front (rows_of case).rows (map (side_row case.forms) sides) _ i (subst (λ n. i < n) (sym case_length) lt)
      ∙ get_or-map (λ k. k.row) case.kept i no_row (record { coeffs = []; constant = pos 0 }) lt

  back_row : (i : ℕ) → length case.kept ≤ i → i < length case.kept + length sides → row_at node i ≡ side_row case.forms (side_at sides (i - length case.kept))
  back_row i le lt = ap (λ k. row_at node k) at ∙ get_or-append-add (rows_of case).rows (map (side_row case.forms) sides) (i - length case.kept) _
      ∙ get_or-map (side_row case.forms) sides (i - length case.kept) no_side (record { coeffs = []; constant = pos 0 }) (omega arith)
    where
      at : i ≡ length (rows_of case).rows + (i - length case.kept)
      at = let e = case_length in omega arith

  -- what the split of a side is on
  abbrev split_at : ℕ → SplitForm
  split_at d = slice_index_or (split_forms it.lts it.class it.problem) (side_at sides d).form (split_form.Tokens 0)

  side_there : (d : ℕ) → d < length sides → (side_at sides d).form < length case.forms
  side_there d lt = All-get_or (λ side. side.form < length case.forms) sides d no_side lt within

  side_used : (d : ℕ) → d < length sides → IsUsed it.lts (form_variable it.lts.initial (split_at d)) × (has_start it.class ≡ true) × FormStands it.class (split_at d)
  side_used d lt = form_used it.lts it.class it.problem (split_at d) c.in_range.initial (form_named it case (side_at sides d).form c.is_case (side_there d lt)).1

  named_is : (d : ℕ) → d < length sides → (named_at named d).form ≡ split_at d
  named_is d lt = ap (λ (w : Side). w.form) (get_or-map (named_side it.lts it.class it.problem) sides d no_side (record { form = split_form.Tokens 0; at = pos 0; high = false }) lt)

  -- what the factor of a split is: its row is the factor times the named row
  record IsFactor (w : SplitForm) (form : Form) : Type 0 where
    pub positive : pos 0 <ℤ (split_factor w form).top
    pub bottom : (split_factor w form).bottom ≡ pos 1
    pub scale : form.scale ≡ (split_factor w form).top *ℤ pos (step_of it.class w)
    pub value : (z y : ℤ) → pos (step_of it.class w) *ℤ z ≡ form.scale *ℤ y → z ≡ (split_factor w form).top *ℤ y

  split_factor_is : (w : SplitForm) (form : Form) → form_fold it.setting w (Ok form) → IsFactor w form
  split_factor_is (split_form.Tokens q) form made = record { positive = form_positive it case c (split_form.Tokens q) form made; bottom = refl; scale = one form.scale; value = λ z y e. once z ∙ e }
    where
      one : (z : ℤ) → z ≡ z *ℤ pos 1
      one z = omega (arith, ints)

      once : (z : ℤ) → z ≡ pos 1 *ℤ z
      once z = omega (arith, ints)
  split_factor_is (split_form.Effect t) form made = record { positive = form_positive it case c (split_form.Effect t) form made; bottom = refl; scale = one form.scale; value = λ z y e. once z ∙ e }
    where
      one : (z : ℤ) → z ≡ z *ℤ pos 1
      one z = omega (arith, ints)

      once : (z : ℤ) → z ≡ pos 1 *ℤ z
      once z = omega (arith, ints)
  split_factor_is split_form.Start form made = record {
    positive = (omega (arith, ints));
    bottom = refl;
    scale = start_scale it.setting form c.is_tree made ∙ once (pos (step_of it.class split_form.Start));
    value = λ z y e. mul-cancel_left (pos (step_of it.class split_form.Start)) z (pos 1 *ℤ y)
        (positive_differs (pos (step_of it.class split_form.Start)) (above (step_of it.class split_form.Start) (step_positive it.class split_form.Start c.numbers)))
        (e ∙ ap (λ m. m *ℤ y) (start_scale it.setting form c.is_tree made) ∙ ap (λ m. pos (step_of it.class split_form.Start) *ℤ m) (once y));
  }
    where
      once : (z : ℤ) → z ≡ pos 1 *ℤ z
      once z = omega (arith, ints)

      above : (n : ℕ) → 0 < n → pos 0 <ℤ pos n
      above n h = omega (arith, ints)

  -- what holds of the names of both kinds of rows
  name_told : (P : RowName → Type 0) → ((i : ℕ) → i < length case.kept → P (kept_at case i).name)
      → ((d : ℕ) → d < length sides → P (row_name.Above d)) → (i : ℕ) → i < length case.kept + length sides → P (name_of case i)
  name_told P kept above i lt = ⊎_elim
      (λ front. subst (λ b. P (if b then (kept_at case i).name else row_name.Above (i - length case.kept))) (sym (below_test i (length case.kept) front)) (kept i front))
      (λ back. subst (λ b. P (if b then (kept_at case i).name else row_name.Above (i - length case.kept))) (sym (past_test i (length case.kept) back)) (above (i - length case.kept) (omega arith)))
      (cases_lt i (length case.kept))

  pub node_names_stand : (multiplier : ℕ → ℤ) (shares : List Share)
      → each (share_fold case sides named) (weights_from multiplier 0 (length node.rows)) (Ok shares)
      → All (λ s. RowStands it.lts it.class it.problem it.number named s.name) shares
  node_names_stand multiplier shares made = names_all case sides named (length case.kept + length sides) multiplier (RowStands it.lts it.class it.problem it.number named)
      (name_told (RowStands it.lts it.class it.problem it.number named)
      (λ i lt. stands_below it.lts it.class it.problem it.number named (kept_at case i).name (names_stand it.lts it.class it.problem it.number (kept_at case i).name (own_row i lt).named))
      (λ d lt. above_stands it.lts it.class it.problem it.number named d (named_side it.lts it.class it.problem (side_at sides d)) (get-map (named_side it.lts it.class it.problem) sides d no_side lt)
      (side_used d lt).2)) 0 (length node.rows) (let e = rows_length in omega arith) shares made

  pub node_names_in_range : length sides ≤ 2 ^ 32 → (multiplier : ℕ → ℤ) (shares : List Share)
      → each (share_fold case sides named) (weights_from multiplier 0 (length node.rows)) (Ok shares) → All (λ s. IsRowNameOf it.lts s.name) shares
  node_names_in_range few multiplier shares made = names_all case sides named (length case.kept + length sides) multiplier (IsRowNameOf it.lts)
      (name_told (IsRowNameOf it.lts) (λ i lt. names_in_range it.lts it.class it.problem it.number (kept_at case i).name (own_row i lt).named) (λ d lt. (omega arith))) 0
      (length node.rows) (let e = rows_length in omega arith) shares made

  module _ (live : IsLive it.lts it.problem) where
    abbrev columns : (x : Variable → ℤ) → KeepsEachArc it.lts x → List ℤ
    columns x keeps = column_values it.lts it.basis it.class (own_start it case c live x keeps) (own_effect it case c live x keeps)

    -- the row times the factor is the named row
    abbrev Told : RowName → Ratio → LinearRow → Type 0
    Told name factor row = (pos 0 <ℤ factor.top) × (pos 0 <ℤ factor.bottom)
        × ((x : Variable → ℤ) (keeps : KeepsEachArc it.lts x)
        → factor.bottom *ℤ dot row.coeffs (columns x keeps) ≡ factor.top *ℤ value_in x (row_expression it.lts it.class it.problem it.number named name).terms)
        × (factor.bottom *ℤ row.constant ≡ factor.top *ℤ (row_expression it.lts it.class it.problem it.number named name).constant)

    zero_keeps : KeepsEachArc it.lts (λ v. pos 0)
    zero_keeps a has = refl

    kept_told : (i : ℕ) → i < length case.kept → Told (kept_at case i).name (kept_at case i).factor (kept_at case i).row
    kept_told i lt =
        let (top, bottom) = factor_is_positive it.setting (kept_at case i).name (row_expression it.lts it.class it.problem it.number [] (kept_at case i).name) (kept_at case i) (own_row i lt).fold in
        (top, bottom, (λ x keeps. link x keeps ∙ ap (λ e. (kept_at case i).factor.top *ℤ value_in x e.terms) (sym same)), constant ∙ ap (λ e. (kept_at case i).factor.top *ℤ e.constant) (sym same))
      where
        same : row_expression it.lts it.class it.problem it.number named (kept_at case i).name ≡ row_expression it.lts it.class it.problem it.number [] (kept_at case i).name
        same = same_expression it.lts it.class it.problem it.number named (kept_at case i).name (names_stand it.lts it.class it.problem it.number (kept_at case i).name (own_row i lt).named)

        drop : (b t v k w m : ℤ) → b *ℤ (v +ℤ (k *ℤ pos 0)) ≡ t *ℤ (w +ℤ (m *ℤ pos 0)) → b *ℤ v ≡ t *ℤ w
        drop b t v k w m e = ap (λ z. b *ℤ z) (none v k) ∙ e ∙ ap (λ z. t *ℤ z) (sym (none w m))
          where
            none : (v k : ℤ) → v ≡ v +ℤ (k *ℤ pos 0)
            none v k = omega (arith, ints)

        link : (x : Variable → ℤ) (keeps : KeepsEachArc it.lts x)
            → (kept_at case i).factor.bottom *ℤ dot (kept_at case i).row.coeffs (columns x keeps)
            ≡ (kept_at case i).factor.top *ℤ value_in x (row_expression it.lts it.class it.problem it.number [] (kept_at case i).name).terms
        link x keeps = drop (kept_at case i).factor.bottom (kept_at case i).factor.top (dot (kept_at case i).row.coeffs (columns x keeps)) (kept_at case i).row.constant
            (value_in x (row_expression it.lts it.class it.problem it.number [] (kept_at case i).name).terms)
            (row_expression it.lts it.class it.problem it.number [] (kept_at case i).name).constant
            (kept_value it case c live x keeps (pos 0) (kept_at case i) (kept_has i lt))

        close : (b t v k w m : ℤ) → b *ℤ v ≡ t *ℤ w → b *ℤ (v +ℤ (k *ℤ pos 1)) ≡ t *ℤ (w +ℤ (m *ℤ pos 1)) → b *ℤ k ≡ t *ℤ m
        close b t v k w m p e = less (b *ℤ v) (b *ℤ k) (t *ℤ w) (t *ℤ m) p (sym (spread b v k) ∙ e ∙ spread t w m)
          where
            spread : (b v k : ℤ) → b *ℤ (v +ℤ (k *ℤ pos 1)) ≡ (b *ℤ v) +ℤ (b *ℤ k)
            spread b v k = ap (λ z. b *ℤ (v +ℤ z)) (one k) ∙ mul-add b v k
              where
                one : (k : ℤ) → k *ℤ pos 1 ≡ k
                one k = omega (arith, ints)

            less : (a b c d : ℤ) → a ≡ c → a +ℤ b ≡ c +ℤ d → b ≡ d
            less a b c d p q = omega (arith, ints)

        constant : (kept_at case i).factor.bottom *ℤ (kept_at case i).row.constant
            ≡ (kept_at case i).factor.top *ℤ (row_expression it.lts it.class it.problem it.number [] (kept_at case i).name).constant
        constant = close (kept_at case i).factor.bottom (kept_at case i).factor.top (dot (kept_at case i).row.coeffs (columns (λ v. pos 0) zero_keeps))
            (kept_at case i).row.constant (value_in (λ v. pos 0) (row_expression it.lts it.class it.problem it.number [] (kept_at case i).name).terms)
            (row_expression it.lts it.class it.problem it.number [] (kept_at case i).name).constant (link (λ v. pos 0) zero_keeps)
            (kept_value it case c live (λ v. pos 0) zero_keeps (pos 1) (kept_at case i) (kept_has i lt))

    -- the row of a side
    module _ (d : ℕ) (lt : d < length sides) where
      abbrev side : SplitSide
      side = side_at sides d

      abbrev form : Form
      form = form_at case.forms side.form

      abbrev split : SplitForm
      split = split_at d

      abbrev v : Variable
      v = form_variable it.lts.initial split

      abbrev step : ℤ
      step = pos (step_of it.class split)

      abbrev factor : ℤ
      factor = (split_factor split form).top

      abbrev row_on : Bool → LinearRow
      row_on b = if b then (record { coeffs = form.coeffs; constant = neg_ℤ (form.scale *ℤ side.at) -ℤ form.scale }) else (record { coeffs = map neg_ℤ form.coeffs; constant = form.scale *ℤ side.at })

      abbrev said_on : Bool → Expression
      said_on b = if b then sum_of (plus v ∷ []) (neg_ℤ (step *ℤ side.at) -ℤ step) else sum_of (minus v ∷ []) (step *ℤ side.at)

      made : form_fold it.setting split (Ok form)
      made = (form_named it case side.form c.is_case (side_there d lt)).2

      is : IsFactor split form
      is = split_factor_is split form made

      expression : row_expression it.lts it.class it.problem it.number named (row_name.Above d) ≡ side_expression it.class it.lts.initial (Some (named_side it.lts it.class it.problem side))
      expression = above_expression it.lts it.class it.problem it.number named d ∙ ap (side_expression it.class it.lts.initial) (get-map (named_side it.lts it.class it.problem) sides d no_side lt)

      form_is : (x : Variable → ℤ) (keeps : KeepsEachArc it.lts x) → dot form.coeffs (columns x keeps) ≡ factor *ℤ x v
      form_is x keeps = is.value (dot form.coeffs (columns x keeps)) (x v)
          (form_value it case c split form (own_start it case c live x keeps)
          (own_effect it case c live x keeps) made
          (form_named it case side.form c.is_case (side_there d lt)).0 (λ none. absurd (true≢false (sym (side_used d lt).1 ∙ none)))
          (own_given it case c live x keeps)
          ∙ ap (λ b. form.scale *ℤ numbers_along it.lts it.tree (if b then x (Tokens it.lts.initial) else pos 0) (own_effect it case c live x keeps) v) (side_used d lt).1
          ∙ ap (λ z. form.scale *ℤ z) (sym (same_used it case c live x keeps v (side_used d lt).0)))

      side_value : (x : Variable → ℤ) (keeps : KeepsEachArc it.lts x) (b : Bool) → pos 1 *ℤ dot (row_on b).coeffs (columns x keeps) ≡ factor *ℤ value_in x (said_on b).terms
      side_value x keeps true = ap (λ z. pos 1 *ℤ z) (form_is x keeps) ∙ turn factor (x v)
        where
          plain_one : (z : ℤ) → z ≡ (pos 1 *ℤ z) +ℤ pos 0
          plain_one z = omega (arith, ints)

          outer : (z : ℤ) → pos 1 *ℤ z ≡ z
          outer z = omega (arith, ints)

          turn : (s z : ℤ) → pos 1 *ℤ (s *ℤ z) ≡ s *ℤ ((pos 1 *ℤ z) +ℤ pos 0)
          turn s z = outer (s *ℤ z) ∙ ap (λ w. s *ℤ w) (plain_one z)
      side_value x keeps false = ap (λ z. pos 1 *ℤ z) (dot-neg form.coeffs (columns x keeps) ∙ ap neg_ℤ (form_is x keeps)) ∙ turn factor (x v)
        where
          opposite : (z : ℤ) → neg_ℤ z ≡ (negsuc 0 *ℤ z) +ℤ pos 0
          opposite z = omega (arith, ints)

          inner : (s z : ℤ) → pos 1 *ℤ neg_ℤ (s *ℤ z) ≡ s *ℤ neg_ℤ z
          inner s z = simp ring

          turn : (s z : ℤ) → pos 1 *ℤ neg_ℤ (s *ℤ z) ≡ s *ℤ ((negsuc 0 *ℤ z) +ℤ pos 0)
          turn s z = inner s z ∙ ap (λ w. s *ℤ w) (opposite z)

      side_number : (b : Bool) → pos 1 *ℤ (row_on b).constant ≡ factor *ℤ (said_on b).constant
      side_number true = ap (λ m. pos 1 *ℤ (neg_ℤ (m *ℤ side.at) -ℤ m)) is.scale ∙ turn factor step side.at
        where
          turn : (f n u : ℤ) → pos 1 *ℤ (neg_ℤ ((f *ℤ n) *ℤ u) -ℤ (f *ℤ n)) ≡ f *ℤ (neg_ℤ (n *ℤ u) -ℤ n)
          turn f n u = simp ring
      side_number false = ap (λ m. pos 1 *ℤ (m *ℤ side.at)) is.scale ∙ turn factor step side.at
        where
          turn : (f n u : ℤ) → pos 1 *ℤ ((f *ℤ n) *ℤ u) ≡ f *ℤ (n *ℤ u)
          turn f n u = simp ring

      own_told : Told (row_name.Above d) (split_factor split form) (side_row case.forms side)
      own_told = (
        is.positive,
        subst (λ b. pos 0 <ℤ b) (sym is.bottom) (omega (arith, ints)),
        (λ x keeps. subst (λ b. b *ℤ dot (side_row case.forms side).coeffs (columns x keeps)
            ≡ factor *ℤ value_in x (row_expression it.lts it.class it.problem it.number named (row_name.Above d)).terms) (sym is.bottom)
            (side_value x keeps side.high ∙ ap (λ e. factor *ℤ value_in x e.terms) (sym expression))),
        subst (λ b. b *ℤ (side_row case.forms side).constant
            ≡ factor *ℤ (row_expression it.lts it.class it.problem it.number named (row_name.Above d)).constant) (sym is.bottom)
            (side_number side.high ∙ ap (λ e. factor *ℤ e.constant) (sym expression)),
      )

      side_told : Told (row_name.Above d) (split_factor (named_at named d).form (form_at case.forms (side_at sides d).form)) (side_row case.forms (side_at sides d))
      side_told = subst (λ w. Told (row_name.Above d) (split_factor w form) (side_row case.forms side)) (sym (named_is d lt)) own_told

    row_told : (i : ℕ) → i < length case.kept + length sides → Told (name_of case i) (factor_of case sides named i) (row_at node i)
    row_told i lt = ⊎_elim
        (λ front. subst (λ b. Told (if b then (kept_at case i).name else row_name.Above (i - length case.kept))
        (if b then (kept_at case i).factor else split_factor (named_at named (i - length case.kept)).form
        (form_at case.forms (side_at sides (i - length case.kept)).form)) (row_at node i)) (sym (below_test i (length case.kept) front))
        (subst (Told (kept_at case i).name (kept_at case i).factor) (sym (front_row i front)) (kept_told i front)))
        (λ back. subst (λ b. Told (if b then (kept_at case i).name else row_name.Above (i - length case.kept))
        (if b then (kept_at case i).factor else split_factor (named_at named (i - length case.kept)).form
        (form_at case.forms (side_at sides (i - length case.kept)).form)) (row_at node i)) (sym (past_test i (length case.kept) back))
        (subst (Told (row_name.Above (i - length case.kept))
        (split_factor (named_at named (i - length case.kept)).form (form_at case.forms (side_at sides (i - length case.kept)).form))) (sym (back_row i back lt))
        (side_told (i - length case.kept) (omega arith))))
        (cases_lt i (length case.kept))

    -- ---- the law

    module _ (multiplier : ℕ → ℤ) (farkas : AreFarkasMultipliers node multiplier) (shares : List Share)
        (made : each (share_fold case sides named) (weights_from multiplier 0 (length node.rows)) (Ok shares)) where
      module _ (x : Variable → ℤ) (keeps : KeepsEachArc it.lts x) where
        abbrev worth : ℕ → ℤ
        worth i = dot (row_at node i).coeffs (columns x keeps)

        value_is : (i : ℕ) → worth i ≡ sum_below case.columns (λ j. entry node i j *ℤ number_at (columns x keeps) j)
        value_is i = row_sum it case (own_start it case c live x keeps) (own_effect it case c live x keeps) (row_at node i).coeffs c.is_case

        cancel : sum_below (length node.rows) (λ i. multiplier i *ℤ worth i) ≡ pos 0
        cancel =
            sum_below-same (length node.rows) (λ i. multiplier i *ℤ worth i)
            (λ i. sum_below case.columns (λ j. multiplier i *ℤ (entry node i j *ℤ number_at (columns x keeps) j)))
            (λ i lt. ap (λ z. multiplier i *ℤ z) (value_is i)
            ∙ sym (sum_below-times case.columns (multiplier i) (λ j. entry node i j *ℤ number_at (columns x keeps) j)))
            ∙ sum_below-swap (length node.rows) case.columns (λ i j. multiplier i *ℤ (entry node i j *ℤ number_at (columns x keeps) j))
            ∙ sum_below-zero case.columns (λ j. sum_below (length node.rows) (λ i. multiplier i *ℤ (entry node i j *ℤ number_at (columns x keeps) j)))
            (λ j lt. sum_below-same (length node.rows) (λ i. multiplier i *ℤ (entry node i j *ℤ number_at (columns x keeps) j))
            (λ i. number_at (columns x keeps) j *ℤ (multiplier i *ℤ entry node i j)) (λ i lt'. turn (multiplier i) (entry node i j) (number_at (columns x keeps) j))
            ∙ sum_below-times (length node.rows) (number_at (columns x keeps) j) (λ i. multiplier i *ℤ entry node i j)
            ∙ ap (λ z. number_at (columns x keeps) j *ℤ z) (farkas.cancels j lt) ∙ *ℤ-zero (number_at (columns x keeps) j))
          where
            turn : (m e v : ℤ) → m *ℤ (e *ℤ v) ≡ v *ℤ (m *ℤ e)
            turn m e v = simp ring

      pub node_shares_refute : SharesRefute it.lts (row_expression it.lts it.class it.problem it.number named) shares
      node_shares_refute = record {
        positive = shares_positive case sides named (length case.kept + length sides) multiplier
            (λ i lt. farkas.not_negative i (subst (λ n. i < n) (sym rows_length) lt)) (λ i lt. let (top, bottom, _, _) = row_told i lt in (top, bottom)) 0
            (length node.rows) (let e = rows_length in omega arith) shares made;
        refute = λ scale rows positive are. record {
          cancel = λ x keeps. shares_sum case sides named (length case.kept + length sides) multiplier scale
              (λ name. value_in x (row_expression it.lts it.class it.problem it.number named name).terms) (worth x keeps) (λ i lt. (row_told i lt).1)
              (λ i lt. (row_told i lt).2 x keeps) (length node.rows) rows_length shares rows made are ∙ ap (λ z. scale *ℤ z) (cancel x keeps) ∙ *ℤ-zero scale;
          contradict = negative scale rows positive are;
        };
      }
        where
          turn : (a b : ℤ) → a *ℤ b ≡ b *ℤ a
          turn a b = simp ring

          negative : (scale : ℤ) (rows : List NamedRow) → pos 0 <ℤ scale → AreShares scale shares rows → constant_sum (row_expression it.lts it.class it.problem it.number named) rows <ℤ pos 0
          negative scale rows positive are =
              subst (λ z. z <ℤ pos 0) (sym (shares_sum case sides named (length case.kept + length sides) multiplier scale
              (λ name. (row_expression it.lts it.class it.problem it.number named name).constant) (λ i. (row_at node i).constant) (λ i lt. (row_told i lt).1)
              (λ i lt. (row_told i lt).3) (length node.rows) rows_length shares rows made are
              ∙ turn scale (sum_below (length node.rows) (λ i. multiplier i *ℤ (row_at node i).constant))))
              (mul_negative (sum_below (length node.rows) (λ i. multiplier i *ℤ (row_at node i).constant)) scale farkas.contradicts positive)
