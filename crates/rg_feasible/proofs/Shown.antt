-- The relation, the values and the multipliers that the numbers of a row show.
use Rattle.std.proofs.Common.{◌≡◌, ◌≢◌, ℕ, zero, suc, ◌+◌, ◌*◌, ◌<◌, ◌==◌, if◌then◌else◌, List, [], ◌∷◌, length, drop, Contains, Some, ap, subst, sym, ◌∙◌, arith}
use Rattle.std.specs.Prelude.{ℤ, pos, neg_ℤ, ◌≤ℤ◌, slice_range, slice_index}
use Rattle.std.proofs.Math.IntN.{*ℤ_comm}
use Rattle.std.proofs.lemmas.Option.{same_Some}
use Rattle.rg_integers.specs.Sum.{number_at}
use Rattle.rg_integers.proofs.Order.{positive_differs}
use Rattle.rg_integers.proofs.Values.{SameValue-trans}
use Rattle.rg_fraction.specs.declared.fraction.Fraction.{Fraction}
use Rattle.rg_fraction.specs.Fractions.{IsValue, numerator_of, denominator_of}
use Rattle.rg_linear.specs.System.{LinearSystem, AreFarkasMultipliers, variables, row_variable}
use Rattle.rg_linear.specs.Dictionary.{Relation, DictionaryRow}
use Rattle.rg_linear.specs.Table.{numbers_of, number_beside, ShowsRow}
use Rattle.rg_linear.specs.Descent.{Outcome.point, Outcome.refuted, DescentFromStart, multiplier_of, IsBasicPoint, IsFeasibleAt}
use Rattle.rg_linear.proofs.Members.{same, differs}
use Rattle.rg_linear.proofs.Points.{constant_left, point_is_sound, zero_point_of}
use Rattle.rg_linear.proofs.Refuting.{start_refuted, refuted_is_sound}
use Rattle.rg_linear.proofs.TableLemmas.{beside_map, beside_none}
use Rattle.rg_feasible.specs.Contents.{Contents, row_of, IsDictionary}
use Rattle.rg_feasible.specs.View.{DescentState}
use Rattle.rg_feasible.specs.Settling.{IsRefutation, relation_of, multiplier_with}

-- ---- numbers beside members

beside_at : (members : List ℕ) (numbers : List ℤ) (w p : ℕ) → p < length members → length numbers ≡ length members → slice_index members p ≡ w
    → ((q : ℕ) → q < p → slice_index members q ≡ w → ⊥) → number_beside members numbers w ≡ number_at numbers p
beside_at [] numbers w p lt size is first = absurd (omega arith)
beside_at (m ∷ members) [] w p lt size is first = absurd (omega arith)
beside_at (m ∷ members) (z ∷ numbers) w zero lt size is first = ap (λ b. if b then z else number_beside members numbers w) (ap (λ x. x == w) is ∙ same w)
beside_at (m ∷ members) (z ∷ numbers) w (suc p) lt size is first =
    ap (λ b. if b then z else number_beside members numbers w) (differs m w (λ e. first 0 (omega arith) e))
    ∙ beside_at members numbers w p (omega arith) (omega arith) is (λ q less e. first (suc q) (omega arith) e)

-- ---- the relation

-- the numbers of a relation show it
pub relation_is : (members : List ℕ) (k : Relation) (numbers : List ℤ) → ((w : ℕ) → ¬ Contains members w → k.coefficient w ≡ pos 0) → numbers ≡ numbers_of members k → relation_of members numbers ≡ k
relation_is members k numbers over e = ap (relation_of members) e ∙ (λ j. record { d = k.d; constant = k.constant; coefficient = λ w. beside_map k.coefficient members w (over w) j })

pub row_shows : (d : Contents) (system : LinearSystem) → IsDictionary system d → (w : ℕ) → w < variables system → ¬ Contains d.members w → ShowsRow system d.members w (row_of d w)
row_shows d system whole w lt out = subst (λ n. ShowsRow system d.members w (slice_range d.table (w * (n + 2)) ((w + 1) * (n + 2)))) (sym whole.columns) (whole.table.rows w lt out)

-- ---- values

pub value_outside : (system : LinearSystem) (members : List ℕ) (w : ℕ) (k : Relation) → DictionaryRow system members w k → (scale : ℤ) (v : ℕ → ℤ)
    → IsBasicPoint system members scale v → (f : Fraction) → IsValue f k.constant k.d → IsValue f (v w) scale
value_outside system members w k row scale v basic f is = SameValue-trans (numerator_of f) (denominator_of f) k.constant k.d (v w) scale (positive_differs k.d row.positive) is
    (sym (constant_left system members w k row scale v basic.point basic.zero) ∙ *ℤ_comm k.d (v w))

-- ---- the point

pub point_feasible : (system : LinearSystem) (d : Contents) → IsDictionary system d → DescentFromStart system (point d.members) → IsFeasibleAt system d.members
point_feasible system d whole outcome =
    let (scale, v, is, at_zero) = zero_point_of system d.members whole.free in
    record { scale = scale; v = v; basic = record { point = is; zero = at_zero }; meets = point_is_sound system d.members outcome scale v is at_zero }

-- ---- multipliers

-- the relation of the row that fails, and the multipliers that it gives
pub record FailingRelation (system : LinearSystem) (d : Contents) (i : ℕ) : Type 0 where
  pub k : Relation
  pub row : DictionaryRow system d.members (row_variable system i) k
  pub multipliers : multiplier_with d i ≡ multiplier_of system k i

module _ (system : LinearSystem) (d : Contents) (fixed : List ℕ) (i : ℕ) (whole : IsDictionary system d) (outcome : DescentFromStart system (refuted d.members i fixed)) where
  pivot_is : d.columns + i ≡ row_variable system i
  pivot_is = ap (λ n. n + i) whole.columns

  failing : (k : Relation) × DictionaryRow system d.members (row_variable system i) k
  failing = let at = (start_refuted system d.members fixed i outcome).stuck in (at.k, at.row)

  pub failing_row : (d.columns + i < d.columns + d.rows) × ¬ Contains d.members (d.columns + i)
  failing_row = ((let lt = failing.1.variable in let e = pivot_is in let c = whole.columns in let r = whole.rows in omega arith), (λ has. failing.1.outside (subst (Contains d.members) pivot_is has)))

  shown : ShowsRow system d.members (d.columns + i) (row_of d (d.columns + i))
  shown = row_shows d system whole (d.columns + i) (subst (λ w. w < variables system) (sym pivot_is) failing.1.variable) failing_row.1

  is_shown : relation_of d.members (row_of d (d.columns + i)) ≡ shown.k
  is_shown = relation_is d.members shown.k (row_of d (d.columns + i)) shown.row.over shown.shown

  pub failing_relation : FailingRelation system d i
  failing_relation = record {
    k = shown.k;
    row = subst (λ w. DictionaryRow system d.members w shown.k) pivot_is shown.row;
    multipliers = λ j row. if row == i then (is_shown j).d else neg_ℤ ((is_shown j).coefficient (whole.columns j + row));
  }

  pub multipliers_refute : AreFarkasMultipliers system (multiplier_with d i)
  multipliers_refute = subst (AreFarkasMultipliers system) (sym failing_relation.multipliers) (refuted_is_sound system d.members fixed i failing_relation.k outcome failing_relation.row)

pub multiplier_not_negative : (d : DescentState) (i row : ℕ) → IsRefutation d i → row < d.table.rows → pos 0 ≤ℤ multiplier_with d.table i row
multiplier_not_negative d i row is lt = (multipliers_refute is.system d.table is.outcome.0 i is.dictionary is.outcome.1).not_negative row (let e = is.dictionary.rows in omega arith)

-- the row that fails
pub failing_is : (d : DescentState) (i failing : ℕ) → IsRefutation d i → d.failing ≡ Some failing → i ≡ failing
failing_is d i failing is e = same_Some i failing (sym is.failing ∙ e)

pub refuted_row : (d : DescentState) (i failing : ℕ) → IsRefutation d i → d.failing ≡ Some failing
    → (d.table.columns + failing < d.table.columns + d.table.rows) × ¬ Contains d.table.members (d.table.columns + failing)
refuted_row d i failing is e = subst (λ n. (d.table.columns + n < d.table.columns + d.table.rows) × ¬ Contains d.table.members (d.table.columns + n))
    (failing_is d i failing is e) (failing_row is.system d.table is.outcome.0 i is.dictionary is.outcome.1)

-- what the code reads off
multiplier_own : (d : Contents) (i : ℕ) → multiplier_with d i i ≡ number_at (row_of d (d.columns + i)) 0
multiplier_own d i = ap (λ b. if b then (relation_of d.members (row_of d (d.columns + i))).d else neg_ℤ ((relation_of d.members (row_of d (d.columns + i))).coefficient (d.columns + i))) (same i)

multiplier_else : (d : Contents) (i row : ℕ) → row ≢ i → multiplier_with d i row ≡ neg_ℤ (number_beside d.members (drop 2 (row_of d (d.columns + i))) (d.columns + row))
multiplier_else d i row ne = ap (λ b. if b then (relation_of d.members (row_of d (d.columns + i))).d else neg_ℤ
    ((relation_of d.members (row_of d (d.columns + i))).coefficient (d.columns + row))) (differs row i ne)

multiplier_none : (d : Contents) (i row : ℕ) → row ≢ i → ¬ Contains d.members (d.columns + row) → multiplier_with d i row ≡ pos 0
multiplier_none d i row ne lacks = multiplier_else d i row ne ∙ ap neg_ℤ (beside_none d.members (drop 2 (row_of d (d.columns + i))) (d.columns + row) lacks)

multiplier_at : (d : Contents) (i row p : ℕ) → row ≢ i → length (row_of d (d.columns + i)) ≡ length d.members + 2 → p < length d.members
    → slice_index d.members p ≡ d.columns + row → ((q : ℕ) → q < p → slice_index d.members q ≡ d.columns + row → ⊥)
    → multiplier_with d i row ≡ neg_ℤ (number_at (row_of d (d.columns + i)) (p + 2))
multiplier_at d i row p ne size lt is first = multiplier_else d i row ne ∙ ap neg_ℤ (behind (row_of d (d.columns + i)) size)
  where
    behind : (numbers : List ℤ) → length numbers ≡ length d.members + 2 → number_beside d.members (drop 2 numbers) (d.columns + row) ≡ number_at numbers (p + 2)
    behind [] size = absurd (omega arith)
    behind (a ∷ []) size = absurd (omega arith)
    behind (a ∷ b ∷ numbers) size = beside_at d.members numbers (d.columns + row) p lt (omega arith) is first ∙ ap (number_at (a ∷ b ∷ numbers)) (two p)
      where
        two : (p : ℕ) → suc (suc p) ≡ p + 2
        two p = omega arith

module _ (d : DescentState) (i failing row : ℕ) (is : IsRefutation d i) (e : d.failing ≡ Some failing) (numbers : List ℤ) (shows : numbers ≡ row_of d.table (d.table.columns + failing)) where
  back_to : numbers ≡ row_of d.table (d.table.columns + i)
  back_to = shows ∙ ap (λ n. row_of d.table (d.table.columns + n)) (sym (failing_is d i failing is e))

  pub reads_own : row ≡ failing → number_at numbers 0 ≡ multiplier_with d.table i row
  reads_own own = ap (λ xs. number_at xs 0) back_to ∙ sym (multiplier_own d.table i) ∙ ap (multiplier_with d.table i) (failing_is d i failing is e ∙ sym own)

  other : row ≢ failing → row ≢ i
  other ne same_row = ne (same_row ∙ failing_is d i failing is e)

  pub reads_none : row ≢ failing → ¬ Contains d.table.members (d.table.columns + row) → pos 0 ≡ multiplier_with d.table i row
  reads_none ne lacks = sym (multiplier_none d.table i row (other ne) lacks)

  pub reads_at : (p : ℕ) → row ≢ failing → length numbers ≡ d.table.columns + 2 → p < length d.table.members → slice_index d.table.members p ≡ d.table.columns + row
      → ((q : ℕ) → q < p → slice_index d.table.members q ≡ d.table.columns + row → ⊥) → neg_ℤ (number_at numbers (p + 2)) ≡ multiplier_with d.table i row
  reads_at p ne size lt at first = ap (λ xs. neg_ℤ (number_at xs (p + 2))) back_to
      ∙ sym (multiplier_at d.table i row p (other ne) (sym (ap length back_to) ∙ size ∙ ap (λ n. n + 2) (sym (is.dictionary.free.count ∙ sym is.dictionary.columns))) lt at first)
