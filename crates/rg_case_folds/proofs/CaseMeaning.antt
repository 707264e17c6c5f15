-- What the system of a case means for the numbers along the tree.
use Rattle.std.proofs.Common.{◌≡◌, ◌⊎◌, ⊎_elim, ◌↔◌, ℕ, ◌<◌, ◌≤◌, true, false, if◌then◌else◌, List, [], ◌∷◌, ◌++◌, Contains, refl, sym, ap, subst, ◌∙◌, arith}
use Rattle.std.specs.Prelude.{ℤ, pos, ◌+ℤ◌, ◌*ℤ◌, ◌≤ℤ◌, ◌<ℤ◌}
use Rattle.std.proofs.lemmas.Int.{ints}
use Rattle.std.proofs.lemmas.Bool.{true≢false, cases_lt}
use Rattle.rg_theory.specs.declared.Arc.{Arc}
use Rattle.rg_theory.specs.declared.Class.{Class}
use Rattle.rg_theory.specs.declared.Problem.{Problem}
use Rattle.rg_theory.specs.System.{System, states, labels}
use Rattle.rg_theory.specs.Tree.{parikh}
use Rattle.rg_integers.specs.Sum.{sum_below}
use Rattle.rg_cert_meaning.specs.Expression.{Expression, value_in, value_of}
use Rattle.rg_cert_meaning.specs.declared.Variable.{Variable}
use Rattle.rg_cert_meaning.specs.Row.{RowStands, row_expression, Says, KeepsRows}
use Rattle.rg_cert_meaning.specs.declared.RowName.{RowName}
use Rattle.rg_linear.specs.Cycle.{CycleBasis}
use Rattle.rg_case_folds.specs.Setting.{CaseSetting}
use Rattle.rg_folds.specs.Substitution.{free_labels}
use Rattle.rg_case_folds.specs.Rewriting.{has_label, has_start, names_of, CaseSystem}
use Rattle.rg_case_folds.specs.Values.{numbers_along, picked, column_values, RowIsMet, NameIsMet}
use Rattle.rg_case_folds.proofs.SystemRows.{system_is_met}
use Rattle.rg_case_folds.specs.Meaning.{IsLeftOut, value_over, RowHolds, KeepsRowsOver, IsTokensRow, KeepsAllButTokens, shifted, IsCaseOver, AreEffects, MeetsCase}
use Rattle.rg_case_folds.proofs.Names.{names_stand, names_labels}
use Rattle.rg_case_folds.proofs.LeftOut.{left_out}
use Rattle.rg_case_folds.proofs.Along.{number_at_first, number_past}
use Rattle.rg_case_folds.proofs.Shifts.{IsShift, shifted_is_shift, same_value}
use Rattle.rg_case_folds.proofs.CaseRows.{IsArcRow, says, said, arc_stands, name_no_arc, name_no_tokens, arcs_hold, effect_holds, tokens_row_holds, tokens_stand, each_kind}
use Rattle.rg_cert_meaning.specs.declared.RowName.TheVariants as row_name
use Rattle.rg_cert_meaning.specs.declared.Variable.TheVariants.{Tokens}

abbrev pub MeetsNames : System → List Arc → Class → Problem → ℕ → ℤ → (ℕ → ℤ) → ℤ → Type 0
MeetsNames lts tree class problem number start effect scale =
    (name : RowName) → Contains (names_of lts class problem number) name → NameIsMet lts tree start effect scale (row_expression lts class problem number [] name)

-- the numbers along the tree from Start are those from 0, shifted by Start
from_zero : (lts : System) (tree : List Arc) (start : ℤ) (effect : ℕ → ℤ) → IsShift start (numbers_along lts tree (pos 0) effect) (numbers_along lts tree start effect)
from_zero lts tree start effect = ((λ q. close start (sum_below (labels lts) (λ t. pos (parikh tree q t) *ℤ effect t))), (λ t. refl))
  where
    close : (z s : ℤ) → z +ℤ s ≡ (pos 0 +ℤ s) +ℤ z
    close z s = omega (arith, ints)

same_columns : (lts : System) (basis : CycleBasis) (class : Class) (start : ℤ) (effect : ℕ → ℤ) → has_start class ≡ false
    → column_values lts basis class start effect ≡ column_values lts basis class (pos 0) effect
same_columns lts basis class start effect none =
    ap (λ b. (if b then (start ∷ []) else []) ++ rest) none ∙ sym (ap (λ b. (if b then (pos 0 ∷ []) else []) ++ rest) none)
  where
    rest : List ℤ
    rest = picked (λ t. has_label t lts.arcs) (free_labels (labels lts) basis) effect

module _ (s : CaseSetting) where
  abbrev row : RowName → Expression
  row name = row_expression s.lts s.class s.problem s.number [] name

  abbrev Stands : RowName → Type 0
  Stands name = RowStands s.lts s.class s.problem s.number [] name

  abbrev IsNamed : RowName → Type 0
  IsNamed name = Contains (names_of s.lts s.class s.problem s.number) name

  module _ (case : CaseSystem) (start : ℤ) (effect : ℕ → ℤ) (scale : ℤ) where
    abbrev x : Variable → ℤ
    x = numbers_along s.lts s.tree start effect

    abbrev Holds : RowName → Type 0
    Holds name = RowHolds s.lts s.class s.problem s.number scale x name

    -- a number that is not a state has as many tokens as the initial state
    tokens_past : (q : ℕ) → IsCaseOver s case → states s.lts ≤ q → x (Tokens q) ≡ x (Tokens s.lts.initial)
    tokens_past q c le = number_past s.lts s.tree start effect q c.in_range c.is_tree le ∙ sym (number_at_first s.lts s.tree start effect c.is_tree)

    module _ (c : IsCaseOver s case) (e : AreEffects s.lts s.tree s.basis effect) (positive : pos 0 <ℤ scale) where
      -- the system is met exactly where its names are
      system_names : (has_start s.class ≡ false → start ≡ pos 0) → MeetsCase s.setting case start effect scale ↔ MeetsNames s.lts s.tree s.class s.problem s.number start effect scale
      system_names no_start = system_is_met s start effect scale case c.is_basis (λ name has. names_labels s.lts s.class s.problem s.number name c.asked has)
          positive no_start e.follows e.unused c.is_case

      arc_holds : (name : RowName) → IsArcRow name → Stands name → Holds name
      arc_holds (row_name.Arc a) is stands =
          arcs_hold s case start effect scale a.from a.label a.to c e (arc_stands s.lts s.class s.problem s.number a.from a.label a.to stands)
      arc_holds name is stands = absurd is

      -- a row that is left out holds, but those of tokens
      out_holds : (name : RowName) → ¬ IsArcRow name → ¬ IsTokensRow name → Stands name → IsLeftOut s.lts s.class name → Holds name
      out_holds name no_arc no_tokens stands out =
          effect_holds s.lts s.tree s.class s.problem s.number start effect scale name e.unused positive stands out no_arc no_tokens

      stands_where : (name : RowName) → Stands name → IsNamed name ⊎ IsLeftOut s.lts s.class name
      stands_where name stands = left_out s.lts s.class s.problem s.number name c.in_range stands

      -- ---- Start is a column

      all_rows : has_start s.class ≡ true → MeetsNames s.lts s.tree s.class s.problem s.number start effect scale → KeepsRowsOver s.lts s.class s.problem s.number scale x
      all_rows starts met =
          each_kind (λ name. Stands name → Holds name) arc_holds of_tokens
          (λ name no_arc no_tokens stands. ⊎_elim (λ has. named name has) (λ out. out_holds name no_arc no_tokens stands out) (stands_where name stands))
        where
          named : (name : RowName) → IsNamed name → Holds name
          named name has = says name (value_over scale x (row name)) (name_no_arc s.lts s.class s.problem s.number name has) (met name has)

          at_state : (q : ℕ) → q < states s.lts → pos 0 ≤ℤ x (Tokens q)
          at_state q lt = (tokens_row_holds s.lts s.class s.problem s.number scale x q).1
              (⊎_elim
              (λ has. named (row_name.Tokens q) has)
              (λ out. absurd (⊎_elim (λ none. true≢false (sym starts ∙ none)) (λ le. too_far lt le) out))
              (stands_where (row_name.Tokens q) (tokens_stand s.lts s.class s.problem s.number q)))
            where
              too_far : q < states s.lts → states s.lts ≤ q → ⊥
              too_far lt le = omega arith

          of_tokens : (name : RowName) → IsTokensRow name → Stands name → Holds name
          of_tokens (row_name.Tokens q) is stands = (tokens_row_holds s.lts s.class s.problem s.number scale x q).0
              (⊎_elim
              (λ lt. at_state q lt)
              (λ le. subst (λ z. pos 0 ≤ℤ z) (sym (tokens_past q c le)) (at_state s.lts.initial c.in_range.initial))
              (cases_lt q (states s.lts)))
          of_tokens name is stands = absurd is

      pub start_means : has_start s.class ≡ true → MeetsCase s.setting case start effect scale ↔ KeepsRowsOver s.lts s.class s.problem s.number scale x
      start_means starts =
          let names = system_names (λ none. absurd (true≢false (sym starts ∙ none))) in (
            (λ met. all_rows starts (names.0 met)),
            (λ keeps. names.1 (λ name has. said name (value_over scale x (row name)) (keeps name (names_stand s.lts s.class s.problem s.number name has)))),
          )

      -- ---- Start is no column

      same_row : has_start s.class ≡ false → (name : RowName) → Stands name → ¬ IsTokensRow name
          → value_over scale (numbers_along s.lts s.tree (pos 0) effect) (row name) ≡ value_over scale x (row name)
      same_row none name stands other = same_value s.lts s.class s.problem s.number scale start (numbers_along s.lts s.tree (pos 0) effect) x name none
          (from_zero s.lts s.tree start effect) stands other

      no_start_rows : has_start s.class ≡ false → MeetsNames s.lts s.tree s.class s.problem s.number (pos 0) effect scale
          → KeepsAllButTokens s.lts s.class s.problem s.number scale x
      no_start_rows none met =
          each_kind (λ name. Stands name → ¬ IsTokensRow name → Holds name)
          (λ name is stands other. arc_holds name is stands)
          (λ name is stands other. absurd (other is))
          (λ name no_arc no_tokens stands other. ⊎_elim (λ has. named name has stands other) (λ out. out_holds name no_arc no_tokens stands out) (stands_where name stands))
        where
          named : (name : RowName) → IsNamed name → Stands name → ¬ IsTokensRow name → Holds name
          named name has stands other = says name (value_over scale x (row name)) (name_no_arc s.lts s.class s.problem s.number name has)
              (subst (λ z. pos 0 ≤ℤ z) (same_row none name stands other) (met name has))

  pub no_start_means : (case : CaseSystem) (start : ℤ) (effect : ℕ → ℤ) (scale : ℤ) → IsCaseOver s case → AreEffects s.lts s.tree s.basis effect → pos 0 <ℤ scale
      → has_start s.class ≡ false
      → MeetsCase s.setting case start effect scale ↔ KeepsAllButTokens s.lts s.class s.problem s.number scale (numbers_along s.lts s.tree start effect)
  no_start_means case start effect scale c e positive none =
      let names = system_names case (pos 0) effect scale c e positive (λ _. refl) in (
        (λ met. no_start_rows case start effect scale c e positive none (names.0 (λ k has. subst (λ vs. RowIsMet vs scale k) columns (met k has)))),
        (λ keeps k has. subst (λ vs. RowIsMet vs scale k) (sym columns) (names.1 (λ name has'. back keeps name has') k has)),
      )
    where
      columns : column_values s.lts s.basis s.class start effect ≡ column_values s.lts s.basis s.class (pos 0) effect
      columns = same_columns s.lts s.basis s.class start effect none

      back : KeepsAllButTokens s.lts s.class s.problem s.number scale (numbers_along s.lts s.tree start effect) → (name : RowName) → IsNamed name
          → NameIsMet s.lts s.tree (pos 0) effect scale (row name)
      back keeps name has =
          let stands = names_stand s.lts s.class s.problem s.number name has in
          let other = name_no_tokens s.lts s.class s.problem s.number name none has in
          subst (λ z. pos 0 ≤ℤ z) (sym (same_row case start effect scale c e positive none name stands other))
          (said name (value_over scale (numbers_along s.lts s.tree start effect) (row name)) (keeps name stands other))

  -- a shift that leaves no state below 0 keeps the rows of tokens too
  pub shift_means : (case : CaseSystem) (start : ℤ) (effect : ℕ → ℤ) (scale by : ℤ) → IsCaseOver s case → has_start s.class ≡ false
      → KeepsAllButTokens s.lts s.class s.problem s.number scale (numbers_along s.lts s.tree start effect)
      → ((q : ℕ) → q < states s.lts → pos 0 ≤ℤ shifted by (numbers_along s.lts s.tree start effect) (Tokens q))
      → KeepsRowsOver s.lts s.class s.problem s.number scale (shifted by (numbers_along s.lts s.tree start effect))
  shift_means case start effect scale by c none keeps above =
      each_kind (λ name. Stands name → RowHolds s.lts s.class s.problem s.number scale y name) (λ name is stands. moved name stands (no_tokens name is)) of_tokens
      (λ name no_arc other stands. moved name stands other)
    where
      y : Variable → ℤ
      y = shifted by (numbers_along s.lts s.tree start effect)

      no_tokens : (name : RowName) → IsArcRow name → ¬ IsTokensRow name
      no_tokens (row_name.Arc a) is h = h
      no_tokens name is h = is

      moved : (name : RowName) → Stands name → ¬ IsTokensRow name → RowHolds s.lts s.class s.problem s.number scale y name
      moved name stands other = subst (Says name)
          (same_value s.lts s.class s.problem s.number scale by (numbers_along s.lts s.tree start effect) y name none
          (shifted_is_shift by (numbers_along s.lts s.tree start effect)) stands other) (keeps name stands other)

      of_tokens : (name : RowName) → IsTokensRow name → Stands name → RowHolds s.lts s.class s.problem s.number scale y name
      of_tokens (row_name.Tokens q) is stands = (tokens_row_holds s.lts s.class s.problem s.number scale y q).0
          (⊎_elim
          (λ lt. above q lt)
          (λ le. subst (λ z. pos 0 ≤ℤ (z +ℤ by)) (sym (tokens_past case start effect scale q c le)) (above s.lts.initial c.in_range.initial))
          (cases_lt q (states s.lts)))
      of_tokens name is stands = absurd is

-- ---- whole numbers

whole_value : (x : Variable → ℤ) (e : Expression) → value_over (pos 1) x e ≡ value_of x e
whole_value x e = close (value_in x e.terms) e.constant
  where
    close : (v k : ℤ) → v +ℤ (k *ℤ pos 1) ≡ v +ℤ k
    close v k = omega (arith, ints)

pub whole_means : (lts : System) (class : Class) (problem : Problem) (number : ℕ) (x : Variable → ℤ) → KeepsRowsOver lts class problem number (pos 1) x ↔ KeepsRows lts class problem number x
whole_means lts class problem number x = (
  (λ keeps name stands. subst (Says name) (whole_value x (row_expression lts class problem number [] name)) (keeps name stands)),
  (λ keeps name stands. subst (Says name) (sym (whole_value x (row_expression lts class problem number [] name))) (keeps name stands)),
)
