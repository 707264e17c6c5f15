-- Values and places in lists of columns, item by item.
use Rattle.std.proofs.Common.{◌≡◌, ◌≢◌, ⊎_elim, ℕ, suc, ◌<◌, ◌==◌, if◌then◌else◌, List, [], ◌∷◌, length, All, slice_index_or, ap, refl, subst, sym, arith, eqb-true, eq-eqb}
use Rattle.std.specs.Prelude.{pos}
use Rattle.std.proofs.lemmas.Bool.{cases_Bool}
use Rattle.rg_fraction.specs.declared.fraction.Fraction.{Fraction}
use Rattle.rg_folds.specs.Fold.{whole, ratio_of}
use Rattle.rg_case_folds.specs.Placing.{least_of}
use Rattle.rg_places.specs.PointValues.{ratios_of}
use Rattle.rg_places.specs.Steps.{value_by}
use Rattle.rg_places.specs.declared.columns.Column.{Column}

-- what holds of all items holds of one behind the first
pub rest_has : {A : Type 0} (P : A → Type 0) (xs : List A) (first : A) (rest : List A) (i : ℕ) (a : A) → xs ≡ first ∷ rest → All P xs → i < length rest → a ≡ slice_index_or rest i a → P a
rest_has P xs first rest i a e all lt at = subst P (sym at) (subst (All P) e all (suc i) a (omega arith))

-- ---- the value of a label

pub value_here : (c : Column) (rest : List Column) (t : ℕ) → c.label ≡ t → value_by (c ∷ rest) t ≡ ratio_of c.value
value_here c rest t e = ap (λ b. if b then ratio_of c.value else value_by rest t) (eq-eqb c.label t e)

pub value_past : (c : Column) (rest : List Column) (t : ℕ) → c.label ≢ t → value_by (c ∷ rest) t ≡ value_by rest t
value_past c rest t ne = ⊎_elim (λ same. absurd (ne (eqb-true c.label t same))) (λ other. ap (λ b. if b then ratio_of c.value else value_by rest t) other) (cases_Bool (c.label == t))

-- ---- the least of none

pub least_none : (xs : List Fraction) → length xs ≡ 0 → least_of (ratios_of xs) ≡ whole (pos 0)
least_none [] e = refl
least_none (x ∷ xs) e = absurd (omega arith)
