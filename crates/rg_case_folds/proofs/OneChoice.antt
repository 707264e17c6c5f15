-- A point gives Start and effects in one way, over each multiple of its scale.
use Rattle.std.proofs.Common.{◌≡◌, ⊎_elim, ℕ, ◌+◌, ◌<◌, ◌&&◌, true, Contains, sym, ap, ◌∙◌, arith}
use Rattle.std.specs.Prelude.{ℤ, pos, ◌*ℤ◌}
use Rattle.std.proofs.lemmas.Bool.{cases_Bool, and_from}
use Rattle.std.proofs.lemmas.List.{get_or_default}
use Rattle.std.proofs.Math.IntN.{zero-*ℤ}
use Rattle.rg_theory.specs.System.{labels}
use Rattle.rg_integers.specs.Sum.{number_at}
use Rattle.rg_integers.proofs.Order.{mul-cancel_left, positive_differs}
use Rattle.rg_integers.proofs.Sums.{sum_below-same}
use Rattle.rg_linear.proofs.Members.{is_member}
use Rattle.rg_case_folds.specs.Setting.{Setting, CaseSetting}
use Rattle.rg_folds.specs.Substitution.{is_in}
use Rattle.rg_case_folds.specs.Rewriting.{has_label, free_columns, has_start, CaseSystem}
use Rattle.rg_case_folds.specs.Values.{column_values}
use Rattle.rg_case_folds.specs.Meaning.{IsCaseOver, AreGivenBy, first_column}
use Rattle.rg_case_folds.proofs.Lists.{where_has, has_in}
use Rattle.rg_case_folds.proofs.ColumnValues.{first_value, free_value, start_below, free_below}

same_column : (s : Setting) (case : CaseSystem) (v : ℕ → ℤ) (times start start' : ℤ) (effect effect' : ℕ → ℤ) (j : ℕ) → AreGivenBy s case v times start effect
    → AreGivenBy s case v times start' effect' → j < case.columns
    → number_at (column_values s.lts s.basis s.class start effect) j ≡ number_at (column_values s.lts s.basis s.class start' effect') j
same_column s case v times start start' effect effect' j g g' lt = sym (g.columns j lt) ∙ g'.columns j lt

same_free : (s : CaseSetting) (case : CaseSystem) (v : ℕ → ℤ) (times start start' : ℤ) (effect effect' : ℕ → ℤ) (t : ℕ) → IsCaseOver s case
    → AreGivenBy s.setting case v times start effect → AreGivenBy s.setting case v times start' effect' → t < labels s.lts → Contains s.basis.members t
    → effect t ≡ effect' t
same_free s case v times start start' effect effect' t c g g' lt has =
    ⊎_elim
    (λ used. at_column (where_has (λ t. is_in s.basis.members t && has_label t s.lts.arcs) 0 (labels s.lts) t
    (and_from (is_in s.basis.members t) (has_label t s.lts.arcs) (has_in s.basis.members t has) used) (omega arith) (omega arith)))
    (λ unused. g.effects.unused t unused ∙ sym (g'.effects.unused t unused))
    (cases_Bool (has_label t s.lts.arcs))
  where
    at_column : Contains (free_columns s.lts s.basis) t → effect t ≡ effect' t
    at_column (i, below, e) =
        let there = get_or_default (free_columns s.lts s.basis) i 0 t below ∙ e in
        ap effect (sym there)
        ∙ sym (free_value s.lts s.basis s.class start effect i below)
        ∙ same_column s.setting case v times start start' effect effect' (first_column s.class + i) g g' (free_below s case i c.is_case below)
        ∙ free_value s.lts s.basis s.class start' effect' i below
        ∙ ap effect' there

pub one_choice : (s : CaseSetting) (case : CaseSystem) (v : ℕ → ℤ) (times start start' : ℤ) (effect effect' : ℕ → ℤ) → IsCaseOver s case
    → AreGivenBy s.setting case v times start effect → AreGivenBy s.setting case v times start' effect'
    → (has_start s.class ≡ true → start ≡ start') × ((t : ℕ) → t < labels s.lts → effect t ≡ effect' t)
one_choice s case v times start start' effect effect' c g g' = (
  λ starts. sym (first_value s.lts s.basis s.class start effect starts)
      ∙ same_column s.setting case v times start start' effect effect' 0 g g' (start_below s case c.is_case starts)
      ∙ first_value s.lts s.basis s.class start' effect' starts,
  λ t lt. ⊎_elim (λ has. same_free s case v times start start' effect effect' t c g g' lt has) (λ outside. dependent t lt outside) (is_member s.basis.members t),
)
  where
    dependent : (t : ℕ) → t < labels s.lts → ¬ Contains s.basis.members t → effect t ≡ effect' t
    dependent t lt outside =
        let row = c.is_basis.relations t lt outside in
        mul-cancel_left (s.basis.relation t).d (effect t) (effect' t) (positive_differs (s.basis.relation t).d row.positive)
        (g.effects.follows t (s.basis.relation t) lt row
        ∙ sum_below-same (labels s.lts) (λ j. (s.basis.relation t).coefficient j *ℤ effect j) (λ j. (s.basis.relation t).coefficient j *ℤ effect' j)
        (λ j below. ⊎_elim (λ has. ap (λ z. (s.basis.relation t).coefficient j *ℤ z)
        (same_free s case v times start start' effect effect' j c g g' below has))
        (λ out. none (s.basis.relation t).coefficient j (row.over j out)) (is_member s.basis.members j))
        ∙ sym (g'.effects.follows t (s.basis.relation t) lt row))
      where
        none : (k : ℕ → ℤ) (j : ℕ) → k j ≡ pos 0 → k j *ℤ effect j ≡ k j *ℤ effect' j
        none k j e = ap (λ z. z *ℤ effect j) e ∙ zero-*ℤ (effect j) ∙ sym (ap (λ z. z *ℤ effect' j) e ∙ zero-*ℤ (effect' j))
