-- Points over the columns, and the numbers that keep all rows.
use Rattle.std.proofs.Common.{◌≡◌, ⊎_elim, ◌↔◌, ℕ, ◌<◌, [], map, length, slice_index_or, sym, ap, subst, ◌∙◌, arith}
use Rattle.std.specs.Prelude.{ℤ, pos, ◌+ℤ◌, ◌*ℤ◌, ◌<ℤ◌, ◌≤ℤ◌}
use Rattle.std.proofs.lemmas.Int.{ints}
use Rattle.std.proofs.lemmas.Bool.{cases_Bool}
use Rattle.std.proofs.lemmas.List.{length-map, get_or-map}
use Rattle.std.proofs.lemmas.List.Elements.{Contains-get_or}
use Rattle.rg_integers.specs.Sum.{number_at, dot}
use Rattle.rg_integers.proofs.Order.{mul_positive, mul_not_negative, factor_not_negative}
use Rattle.rg_integers.proofs.Sums.{sum_below-same}
use Rattle.rg_linear.specs.System.{LinearRow, row_variable, row_at, entry, IsPoint, MeetsRows}
use Rattle.rg_linear.proofs.Columns.{values_of, values_of-column, values_of-point, scaled_point}
use Rattle.rg_case_folds.specs.Setting.{CaseSetting}
use Rattle.rg_folds.specs.Fold.{whole}
use Rattle.rg_case_folds.specs.Rewriting.{has_start, KeptRow, CaseSystem, rows_of}
use Rattle.rg_case_folds.specs.Values.{numbers_along, column_values, RowIsMet}
use Rattle.rg_case_folds.specs.Shown.{IsLive}
use Rattle.rg_case_folds.specs.Meaning.{shifted, IsCaseOver, AreEffects, MeetsCase, used_effect, AreGivenBy, HasPoint, HasSolution}
use Rattle.rg_case_folds.proofs.Shifts.{some_shift}
use Rattle.rg_case_folds.proofs.CaseMeaning.{start_means, no_start_means, shift_means}
use Rattle.rg_case_folds.proofs.Kept.{effects_given, meets_given}
use Rattle.rg_case_folds.proofs.ColumnValues.{row_sum}
use Rattle.rg_case_folds.proofs.PointEffects.{point_gives}
use Rattle.rg_cert_meaning.specs.declared.RowName.TheVariants as row_name
use Rattle.rg_fraction.proofs.Orders.{weak}
use Rattle.rg_integers.proofs.Ring.{one-mul}
use Rattle.rg_cert_meaning.specs.declared.Variable.TheVariants.{Tokens}

-- a row's value at the point is its value at the columns
row_value_at : (s : CaseSetting) (case : CaseSystem) (v : ℕ → ℤ) (scale times start : ℤ) (effect : ℕ → ℤ) (i : ℕ) → IsCaseOver s case → IsPoint (rows_of case) scale v
    → AreGivenBy s.setting case v times start effect → i < length (map (λ k. k.row) case.kept) → times *ℤ v (row_variable (rows_of case) i)
    ≡ dot (row_at (rows_of case) i).coeffs (column_values s.lts s.basis s.class start effect) +ℤ ((row_at (rows_of case) i).constant *ℤ (times *ℤ scale))
row_value_at s case v scale times start effect i c p g lt =
    (scaled_point (rows_of case) scale times v g.positive p).rows i lt
    ∙ ap (λ z. z +ℤ ((row_at (rows_of case) i).constant *ℤ (times *ℤ scale)))
    (sum_below-same case.columns (λ j. entry (rows_of case) i j *ℤ (times *ℤ v j))
    (λ j. number_at (row_at (rows_of case) i).coeffs j *ℤ number_at (column_values s.lts s.basis s.class start effect) j)
    (λ j below. ap (λ z. entry (rows_of case) i j *ℤ z) (g.columns j below))
    ∙ sym (row_sum s case start effect (row_at (rows_of case) i).coeffs c.is_case))

-- the row at a place is that of the kept row there
row_there : (case : CaseSystem) (i : ℕ) (k : KeptRow) → i < length case.kept → row_at (rows_of case) i ≡ (slice_index_or case.kept i k).row
row_there case i k lt = get_or-map (λ (k : KeptRow). k.row) case.kept i k (record { coeffs = []; constant = pos 0 }) lt

pub point_meets : (s : CaseSetting) (case : CaseSystem) (v : ℕ → ℤ) (scale times start : ℤ) (effect : ℕ → ℤ) → IsCaseOver s case → IsPoint (rows_of case) scale v
    → AreGivenBy s.setting case v times start effect → MeetsRows (rows_of case) v ↔ MeetsCase s.setting case start effect (times *ℤ scale)
point_meets s case v scale times start effect c p g = (
  (λ meets k (i, lt, e). met k (row_at (rows_of case) i) (row_there case i k lt ∙ ap (λ (k : KeptRow). k.row) e)
      (subst (λ z. pos 0 ≤ℤ z) (value i (counted i lt)) (mul_not_negative times (v (row_variable (rows_of case) i)) (weak times g.positive) (meets i (counted i lt))))),
  (λ meets i lt. factor_not_negative times (v (row_variable (rows_of case) i)) g.positive
      (subst (λ z. pos 0 ≤ℤ z) (sym (value i lt))
      (back (slice_index_or case.kept i none) (row_at (rows_of case) i) (row_there case i none (counted' i lt))
      (meets (slice_index_or case.kept i none) (Contains-get_or case.kept i none (counted' i lt)))))),
)
  where
    none : KeptRow
    none = record { name = row_name.Above 0; row = record { coeffs = []; constant = pos 0 }; factor = whole (pos 1) }

    counted : (i : ℕ) → i < length case.kept → i < length (map (λ k. k.row) case.kept)
    counted i lt = let same = length-map case.kept (λ (k : KeptRow). k.row) in omega arith

    counted' : (i : ℕ) → i < length (map (λ k. k.row) case.kept) → i < length case.kept
    counted' i lt = let same = length-map case.kept (λ (k : KeptRow). k.row) in omega arith

    value : (i : ℕ) → i < length (map (λ k. k.row) case.kept)
        → times *ℤ v (row_variable (rows_of case) i)
        ≡ dot (row_at (rows_of case) i).coeffs (column_values s.lts s.basis s.class start effect) +ℤ ((row_at (rows_of case) i).constant *ℤ (times *ℤ scale))
    value i lt = row_value_at s case v scale times start effect i c p g lt

    met : (k : KeptRow) (r : LinearRow) → r ≡ k.row → pos 0 ≤ℤ (dot r.coeffs (column_values s.lts s.basis s.class start effect) +ℤ (r.constant *ℤ (times *ℤ scale)))
        → RowIsMet (column_values s.lts s.basis s.class start effect) (times *ℤ scale) k
    met k r e h = subst (λ (r : LinearRow). pos 0 ≤ℤ (dot r.coeffs (column_values s.lts s.basis s.class start effect) +ℤ (r.constant *ℤ (times *ℤ scale)))) e h

    back : (k : KeptRow) (r : LinearRow) → r ≡ k.row → RowIsMet (column_values s.lts s.basis s.class start effect) (times *ℤ scale) k
        → pos 0 ≤ℤ (dot r.coeffs (column_values s.lts s.basis s.class start effect) +ℤ (r.constant *ℤ (times *ℤ scale)))
    back k r e h = subst (λ (r : LinearRow). pos 0 ≤ℤ (dot r.coeffs (column_values s.lts s.basis s.class start effect) +ℤ (r.constant *ℤ (times *ℤ scale)))) (sym e) h

-- Start and effects are those of a point
pub given_point : (s : CaseSetting) (case : CaseSystem) (start : ℤ) (effect : ℕ → ℤ) (scale : ℤ) → IsCaseOver s case → AreEffects s.lts s.tree s.basis effect
    → pos 0 <ℤ scale → (v : ℕ → ℤ) × IsPoint (rows_of case) scale v × AreGivenBy s.setting case v (pos 1) start effect
given_point s case start effect scale c e positive = (
  values_of (rows_of case) scale (λ j. number_at (column_values s.lts s.basis s.class start effect) j),
  values_of-point (rows_of case) scale (λ j. number_at (column_values s.lts s.basis s.class start effect) j) positive,
  record {
    positive = omega (arith, ints);
    effects = e;
    columns = λ j lt. ap (λ z. pos 1 *ℤ z) (values_of-column (rows_of case) scale
        (λ j. number_at (column_values s.lts s.basis s.class start effect) j) j lt) ∙ one-mul (number_at (column_values s.lts s.basis s.class start effect) j);
  },
)

-- numbers that keep all rows, of Start and effects that meet the system
solved : (s : CaseSetting) (case : CaseSystem) (start : ℤ) (effect : ℕ → ℤ) (scale : ℤ) → IsCaseOver s case → AreEffects s.lts s.tree s.basis effect → pos 0 <ℤ scale
    → MeetsCase s.setting case start effect scale → HasSolution s.lts s.class s.problem s.number
solved s case start effect scale c e positive meets =
    ⊎_elim
    (λ starts. (scale, numbers_along s.lts s.tree start effect, positive, (start_means s case start effect scale c e positive starts).0 meets))
    (λ none. (let keeps = (no_start_means s case start effect scale c e positive none).0 meets in let (by, above) = some_shift s.lts
    (numbers_along s.lts s.tree start effect) in (
      scale,
      shifted by (numbers_along s.lts s.tree start effect),
      positive,
      shift_means s case start effect scale by c none keeps above,
    )))
    (cases_Bool (has_start s.class))

pub points_exact : (s : CaseSetting) (case : CaseSystem) → IsCaseOver s case → IsLive s.lts s.problem → HasPoint case ↔ HasSolution s.lts s.class s.problem s.number
points_exact s case c live = (
  (λ (scale, v, p, meets). (let (times, start, effect, g) = point_gives s case v c in
      solved s case start effect (times *ℤ scale) c g.effects (mul_positive times scale g.positive p.positive) ((point_meets s case v scale times start effect c p g).0 meets))),
  (λ (scale, x, positive, keeps). (let e = effects_given s case x scale c keeps in
      let (v, p, g) = given_point s case (x (Tokens s.lts.initial)) (used_effect s.lts x) scale c e positive in (
        scale,
        v,
        p,
        (point_meets s case v scale (pos 1) (x (Tokens s.lts.initial)) (used_effect s.lts x) c p g).1
            (subst (λ z. MeetsCase s.setting case (x (Tokens s.lts.initial)) (used_effect s.lts x) z) (sym (one-mul scale))
            (meets_given s case x scale c live positive keeps)),
      ))),
)
