-- The place of a point that meets every row of the case's system.
use Rattle.std.proofs.Common.{◌≡◌, ⊎_elim, ℕ, ◌+◌, ◌<◌, false, if◌then◌else◌, List, [], ◌∷◌, ◌++◌, length, slice_index_or, true, Contains, Ok, refl, sym, ap, subst, ◌∙◌, arith}
use Rattle.std.specs.Prelude.{ℤ, pos, ◌*ℤ◌, ◌<ℤ◌}
use Rattle.std.proofs.lemmas.Int.{ints}
use Rattle.std.proofs.lemmas.Bool.{cases_Bool}
use Rattle.std.proofs.lemmas.List.{get_or_default}
use Rattle.rg_theory.specs.declared.Class.{Class}
use Rattle.rg_theory.specs.System.{System, labels}
use Rattle.rg_theory.specs.Net.{Place}
use Rattle.rg_integers.specs.Sum.{number_at}
use Rattle.rg_integers.specs.Value.{SameValue}
use Rattle.rg_integers.proofs.Ring.{ring, mul_left_comm}
use Rattle.rg_integers.proofs.Order.{mul-cancel, mul_positive, positive_differs}
use Rattle.rg_linear.specs.System.{LinearSystem, IsPoint, MeetsRows}
use Rattle.rg_linear.specs.Dictionary.{Relation, DictionaryRow}
use Rattle.rg_linear.specs.Descent.{IsAtZero}
use Rattle.rg_linear.specs.Branching.{form_at, FormsWhole, SplitSide, node_system, BranchOutcome.found, Branching}
use Rattle.rg_linear.proofs.Points.{constant_left}
use Rattle.rg_linear.proofs.Splits.{found_well, found_is_sound}
use Rattle.rg_linear.specs.Cycle.{CycleBasis}
use Rattle.rg_case_folds.specs.Setting.{CaseSetting}
use Rattle.rg_folds.specs.Fold.{Ratio, whole, IsRatio}
use Rattle.rg_case_folds.specs.Shown.{IsLive, IsValueAt, PointOf}
use Rattle.rg_folds.specs.Substitution.{free_labels}
use Rattle.rg_case_folds.specs.Rewriting.{has_label, free_columns, has_start, CaseSystem, rows_of}
use Rattle.rg_case_folds.specs.Values.{picked}
use Rattle.rg_case_folds.specs.Placing.{place_fold}
use Rattle.rg_case_folds.specs.Meaning.{IsCaseOver, AreGivenBy, first_column}
use Rattle.rg_case_folds.proofs.Forms.{point_form}
use Rattle.rg_case_folds.proofs.PointEffects.{point_gives}
use Rattle.rg_case_folds.proofs.Points.{point_meets}
use Rattle.rg_case_folds.proofs.ColumnValues.{first_value, free_value, start_below, free_below}
use Rattle.rg_case_folds.specs.Places.{IsReduced, AreFormsWhole, AreValuesOf, AreAtPoint, PlaceIsMade}
use Rattle.rg_case_folds.proofs.Overs.{whole_reduced}
use Rattle.rg_case_folds.proofs.Products.{grouped, mul_right_comm, mul_rotate}
use Rattle.rg_case_folds.proofs.Made.{place_made}

-- the same value over a multiple of the scale
over_multiple : (top bottom z scale times w : ℤ) → SameValue top bottom z scale → times *ℤ z ≡ w → SameValue top bottom w (times *ℤ scale)
over_multiple top bottom z scale times w same is =
    mul_left_comm top times scale ∙ ap (λ y. times *ℤ y) same ∙ grouped times z bottom ∙ ap (λ y. y *ℤ bottom) is

module _ (it : CaseSetting) (case : CaseSystem) (scale : ℤ) (v : ℕ → ℤ) (start : Ratio) (value : ℕ → Ratio) where
  abbrev free : List ℕ
  free = free_columns it.lts it.basis

  abbrev label : ℕ → ℕ
  label i = slice_index_or free i 0

  abbrev IsGiven : ℤ → ℤ → (ℕ → ℤ) → Type 0
  IsGiven times first effect = AreGivenBy it.setting case v times first effect

  -- where Start is no column, the columns don't depend on it
  other_start : (times first other : ℤ) (effect : ℕ → ℤ) → has_start it.class ≡ false → IsGiven times first effect → IsGiven times other effect
  other_start times first other effect none g = record {
    positive = g.positive;
    effects = g.effects;
    columns = λ j lt. g.columns j lt ∙ ap (λ b. number_at ((if b then (first ∷ []) else []) ++ rest) j) none
        ∙ sym (ap (λ b. number_at ((if b then (other ∷ []) else []) ++ rest) j) none);
  }
    where
      rest : List ℤ
      rest = picked (λ t. has_label t it.lts.arcs) (free_labels (labels it.lts) it.basis) effect

  module _ (c : IsCaseOver it case) (times first : ℤ) (effect : ℕ → ℤ) (g : IsGiven times first effect) where
    given_values : pos 0 <ℤ scale → AreAtPoint it.lts it.basis it.class scale v start value → SameValue start.top start.bottom first (times *ℤ scale)
        → AreValuesOf it.lts it.basis start value first effect (times *ℤ scale)
    given_values positive a start_is = record {
      positive = mul_positive times scale g.positive positive;
      start_bottom = a.start_bottom;
      start_reduced = a.start_reduced;
      start_is = start_is;
      reduced = λ f (i, lt, e). subst (λ u. IsReduced (value u)) (there f i lt e) (a.reduced i lt);
      bottoms = λ f (i, lt, e). subst (λ u. pos 0 <ℤ (value u).bottom) (there f i lt e) (a.bottoms i lt);
      values = λ f (i, lt, e). subst (λ u. SameValue (value u).top (value u).bottom (effect u) (times *ℤ scale)) (there f i lt e)
          (over_multiple (value (label i)).top (value (label i)).bottom (v (first_column it.class + i)) scale times (effect (label i)) (a.values i lt) (at i lt));
    }
      where
        there : (f i : ℕ) → i < length free → slice_index_or free i f ≡ f → label i ≡ f
        there f i lt e = get_or_default free i 0 f lt ∙ e

        at : (i : ℕ) → i < length free → times *ℤ v (first_column it.class + i) ≡ effect (label i)
        at i lt = g.columns (first_column it.class + i) (free_below it case i c.is_case lt) ∙ free_value it.lts it.basis it.class first effect i lt

    -- forms that are whole at a point are so at what it gives
    forms_over : FormsWhole (rows_of case) case.forms scale v → AreFormsWhole it.setting case first effect (times *ℤ scale)
    forms_over forms_whole f lt =
        let (u, is) = forms_whole f lt in
        (u, sym (point_form it case c v times first effect (form_at case.forms f) g) ∙ ap (λ z. times *ℤ z) is ∙ turn times u (form_at case.forms f).scale scale)
      where
        turn : (t u f s : ℤ) → t *ℤ (u *ℤ (f *ℤ s)) ≡ u *ℤ (f *ℤ (t *ℤ s))
        turn t u f s = simp ring

  pub point_makes : (place : Place) → IsCaseOver it case → IsLive it.lts it.problem → IsPoint (rows_of case) scale v → MeetsRows (rows_of case) v
      → FormsWhole (rows_of case) case.forms scale v → AreAtPoint it.lts it.basis it.class scale v start value
      → place_fold it.setting it.problem start value (Ok place) → PlaceIsMade it.setting it.problem start value place
  point_makes place c live p met forms_whole a fold =
      let (times, first, effect, g) = point_gives it case v c in
      ⊎_elim
      (λ starts. by times first effect g
      (over_multiple start.top start.bottom (v 0) scale times first (a.start_is starts)
      (g.columns 0 (start_below it case c.is_case starts) ∙ first_value it.lts it.basis it.class first effect starts)))
      (λ none. by times (pos 0) effect (other_start times first (pos 0) effect none g)
      (subst (λ (r : Ratio). SameValue r.top r.bottom (pos 0) (times *ℤ scale)) (sym (a.no_start none)) (zeros (times *ℤ scale))))
      (cases_Bool (has_start it.class))
    where
      zeros : (s : ℤ) → pos 0 *ℤ s ≡ pos 0 *ℤ pos 1
      zeros s = omega (arith, ints)

      by : (times first : ℤ) (effect : ℕ → ℤ) → IsGiven times first effect → SameValue start.top start.bottom first (times *ℤ scale)
          → PlaceIsMade it.setting it.problem start value place
      by times first effect g start_is = place_made it case start value first effect (times *ℤ scale) place c live g.effects
          ((point_meets it case v scale times first effect c p g).0 met)
          (forms_over c times first effect g forms_whole)
          (given_values c times first effect g p.positive a start_is) fold

-- ---- the point that a branching finds

-- where every member is 0
module _ (system : LinearSystem) (members : List ℕ) (scale : ℤ) (v : ℕ → ℤ) (p : IsPoint system scale v) (zeros : IsAtZero members v) where
  abbrev IsWorth : ℕ → Ratio → Type 0
  IsWorth j r = SameValue r.top r.bottom (v j) scale × (pos 0 <ℤ r.bottom) × IsReduced r

  -- a value is the point's
  value_at : (j : ℕ) (r : Ratio) → IsValueAt system members j r → IsWorth j r
  value_at j r at = ⊎_elim (λ (has, e). subst (IsWorth j) (sym e) (member has)) (λ (k, row, is). outside k row is) at
    where
      member : Contains members j → IsWorth j (whole (pos 0))
      member has = (close (v j) scale (zeros j has), (omega (arith, ints)), whole_reduced (pos 0))
        where
          close : (z s : ℤ) → z ≡ pos 0 → pos 0 *ℤ s ≡ z *ℤ pos 1
          close z s e = omega (arith, ints)

      outside : (k : Relation) → DictionaryRow system members j k → IsRatio r k.constant k.d → IsWorth j r
      outside k row is = (
        mul-cancel (r.top *ℤ scale) (v j *ℤ r.bottom) k.d (positive_differs k.d row.positive)
            (mul_right_comm r.top scale k.d ∙ ap (λ z. z *ℤ scale) is.value ∙ mul_right_comm k.constant r.bottom scale
            ∙ ap (λ z. z *ℤ r.bottom) (sym (constant_left system members j k row scale v p zeros)) ∙ mul_rotate k.d (v j) r.bottom),
        is.positive,
        is.reduced,
      )

  at_point : (lts : System) (basis : CycleBasis) (class : Class) (start : Ratio) (value : ℕ → Ratio) → PointOf lts basis class system members start value
      → AreAtPoint lts basis class scale v start value
  at_point lts basis class start value of = record {
    start_bottom = ⊎_elim (λ starts. (at_start starts).1)
        (λ none. subst (λ (q : Ratio). pos 0 <ℤ q.bottom) (sym (of.no_start none)) (omega (arith, ints))) (cases_Bool (has_start class));
    start_reduced = ⊎_elim (λ starts. (at_start starts).2) (λ none. subst IsReduced (sym (of.no_start none)) (whole_reduced (pos 0))) (cases_Bool (has_start class));
    start_is = λ starts. (at_start starts).0;
    no_start = of.no_start;
    reduced = λ i lt. (at_column i lt).2;
    bottoms = λ i lt. (at_column i lt).1;
    values = λ i lt. (at_column i lt).0;
  }
    where
      at_start : has_start class ≡ true → IsWorth 0 start
      at_start starts = value_at 0 start (of.start_is starts)

      at_column : (i : ℕ) → i < length (free_columns lts basis) → IsWorth (first_column class + i) (value (slice_index_or (free_columns lts basis) i 0))
      at_column i lt =
          let free = slice_index_or (free_columns lts basis) i 0 in
          value_at (first_column class + i) (value free) (of.values i free lt refl)

pub found_makes : (s : CaseSetting) (case : CaseSystem) (members : List ℕ) (sides : List SplitSide) (start : Ratio) (value : ℕ → Ratio) (place : Place)
    → IsCaseOver s case → IsLive s.lts s.problem → Branching (rows_of case) case.forms (found members sides)
    → PointOf s.lts s.basis s.class (node_system (rows_of case) case.forms sides) members start value → place_fold s.setting s.problem start value (Ok place)
    → PlaceIsMade s.setting s.problem start value place
found_makes s case members sides start value place c live b of fold =
    let all = (found_well (rows_of case) case.forms [] (found members sides) b).all in
    let (p, met, forms_whole) = found_is_sound (rows_of case) case.forms [] sides members b all.scale all.v all.point all.zeros in
    let at = at_point (node_system (rows_of case) case.forms sides) members all.scale all.v all.point all.zeros s.lts s.basis s.class start value of in
    point_makes s case all.scale all.v start value place c live p met forms_whole at fold
