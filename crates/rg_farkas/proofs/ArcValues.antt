-- The values of the rows of a case's system where each arc is kept.
use Rattle.std.proofs.Common.{◌≡◌, ℕ, Bool, true, false, if◌then◌else◌, List, [], ◌∷◌, Ok, Contains, ap, ap₂, refl, subst, sym, ◌∙◌, arith}
use Rattle.std.specs.Prelude.{ℤ, pos, ◌+ℤ◌, ◌*ℤ◌}
use Rattle.std.proofs.lemmas.Int.{ints}
use Rattle.std.proofs.lemmas.List.Elements.{All-head, All-tail}
use Rattle.rg_theory.specs.System.{System, labels}
use Rattle.rg_theory.specs.Tree.{KeepsArcs, parikh}
use Rattle.rg_integers.specs.Sum.{sum_below, dot}
use Rattle.rg_linear.specs.Cycle.{FollowsRelations}
use Rattle.rg_linear.proofs.Firsts.{kept_is}
use Rattle.rg_cert_meaning.specs.Expression.{Term, value_in}
use Rattle.rg_cert_meaning.specs.declared.Variable.{Variable}
use Rattle.rg_cert_meaning.specs.Row.{row_expression}
use Rattle.rg_cert_meaning.specs.declared.RowName.{RowName}
use Rattle.rg_case_folds.specs.Setting.{CaseSetting}
use Rattle.rg_case_folds.specs.Chords.{chord_system}
use Rattle.rg_case_folds.specs.Rewriting.{has_label, has_start, names_of, KeptRow, IsIdle, row_fold, CaseSystem, system_fold}
use Rattle.rg_case_folds.specs.Values.{numbers_along, column_values, UnusedAreZero}
use Rattle.rg_case_folds.specs.Shown.{IsLive}
use Rattle.rg_case_folds.proofs.SystemRows.{made_from}
use Rattle.rg_case_folds.proofs.ExactRows.{row_value_is}
use Rattle.rg_case_folds.specs.Meaning.{IsCaseOver, AreEffects, value_over}
use Rattle.rg_case_folds.proofs.Given.{own_number, own_effects}
use Rattle.rg_case_folds.proofs.LeftOut.{finds_label}
use Rattle.rg_case_folds.proofs.Names.{names_stand, names_labels}
use Rattle.rg_case_folds.proofs.CaseRows.{name_no_tokens}
use Rattle.rg_case_folds.proofs.Shifts.{same_value}
use Rattle.rg_farkas.specs.Refuting.{KeepsEachArc}
use Rattle.rg_farkas.proofs.Names.{IsUsed, NamesUsed, names_used}
use Rattle.rg_cert_meaning.specs.declared.Variable.TheVariants.{Tokens, Effect}

-- ---- the rows of a case's system

-- the row that is kept at an index, and the named row that it stands for
pub record IsRowOf (s : CaseSetting) (k : KeptRow) : Type 0 where
  pub named : Contains (names_of s.lts s.class s.problem s.number) k.name
  pub fold : row_fold s.setting k.name (row_expression s.lts s.class s.problem s.number [] k.name) (Ok k)

pub kept_row : (s : CaseSetting) (case : CaseSystem) (k : KeptRow) → system_fold s (Ok case) → Contains case.kept k → IsRowOf s k
kept_row s case k (all, made, (forms, forms_made, (columns, keeps, same))) has =
    let (name, named, fold) = made_from (λ name. row_fold s.setting name (row_expression s.lts s.class s.problem s.number [] name))
    (names_of s.lts s.class s.problem s.number) all k made (kept_is (λ k. k.row) IsIdle [] all case.kept k keeps has) in
    let is = name_is name fold in
    record {
      named = subst (Contains (names_of s.lts s.class s.problem s.number)) (sym is) named;
      fold = subst (λ n. row_fold s.setting n (row_expression s.lts s.class s.problem s.number [] n) (Ok k)) (sym is) fold;
    }
  where
    name_is : (name : RowName) → row_fold s.setting name (row_expression s.lts s.class s.problem s.number [] name) (Ok k) → k.name ≡ name
    name_is name (scaled, terms, (constant, product, (is, d))) = is

-- ---- values of rows where each arc is kept

-- where the used variables have the same numbers, so have the terms
used_value : (lts : System) (x y : Variable → ℤ) (terms : List Term) → ((v : Variable) → IsUsed lts v → x v ≡ y v) → NamesUsed lts terms → value_in x terms ≡ value_in y terms
used_value lts x y [] same used = refl
used_value lts x y (t ∷ terms) same used = ap₂ (λ a b. (t.coefficient *ℤ a) +ℤ b)
    (same t.variable (All-head (λ u. IsUsed lts u.variable) t terms used)) (used_value lts x y terms same (All-tail (λ u. IsUsed lts u.variable) t terms used))

module _ (it : CaseSetting) (case : CaseSystem) (c : IsCaseOver it case) (live : IsLive it.lts it.problem) (x : Variable → ℤ) (keeps : KeepsEachArc it.lts x) where
  abbrev pub own_effect : ℕ → ℤ
  own_effect t = if has_label t it.lts.arcs then x (Effect t) else pos 0

  pub used_keeps : KeepsArcs it.lts (λ q. x (Tokens q)) own_effect
  used_keeps a has = ap (λ b. x (Tokens a.from) +ℤ (if b then x (Effect a.label) else pos 0)) (finds_label a it.lts.arcs has) ∙ keeps a has

  pub follows : FollowsRelations (chord_system it.lts it.tree it.basis.kept) it.basis.members own_effect
  follows = own_effects it.lts it.tree it.basis (λ q. x (Tokens q)) own_effect c.in_range c.reachable c.is_tree c.is_basis used_keeps

  pub unused : UnusedAreZero it.lts own_effect
  unused t e = ap (λ b. if b then x (Effect t) else pos 0) e

  pub same_used : (v : Variable) → IsUsed it.lts v → x v ≡ numbers_along it.lts it.tree (x (Tokens it.lts.initial)) own_effect v
  same_used (Tokens q) lt = own_number it.lts it.tree (λ q. x (Tokens q)) own_effect q c.in_range c.reachable c.is_tree used_keeps lt
  same_used (Effect t) (lt, used) = sym (ap (λ b. if b then x (Effect t) else pos 0) used)

  pub own_given : AreEffects it.lts it.tree it.basis own_effect
  own_given = record { follows = follows; unused = unused }

  -- Start, where it is a column
  abbrev pub own_start : ℤ
  own_start = if has_start it.class then x (Tokens it.lts.initial) else pos 0

  -- the value of a named row is that at the columns' values
  row_value : (name : RowName) → Contains (names_of it.lts it.class it.problem it.number) name
      → value_in x (row_expression it.lts it.class it.problem it.number [] name).terms
      ≡ value_in (numbers_along it.lts it.tree own_start own_effect) (row_expression it.lts it.class it.problem it.number [] name).terms
  row_value name has =
      used_value it.lts x (numbers_along it.lts it.tree (x (Tokens it.lts.initial)) own_effect)
      (row_expression it.lts it.class it.problem it.number [] name).terms same_used (names_used it.lts it.class it.problem it.number name c.asked live has) ∙ go (has_start it.class) refl
    where
      from_zero : has_start it.class ≡ false
          → value_over (pos 0) (numbers_along it.lts it.tree (pos 0) own_effect) (row_expression it.lts it.class it.problem it.number [] name)
          ≡ value_over (pos 0) (numbers_along it.lts it.tree (x (Tokens it.lts.initial)) own_effect) (row_expression it.lts it.class it.problem it.number [] name)
      from_zero e = same_value it.lts it.class it.problem it.number (pos 0) (x (Tokens it.lts.initial)) (numbers_along it.lts it.tree (pos 0) own_effect)
          (numbers_along it.lts it.tree (x (Tokens it.lts.initial)) own_effect) name e
          ((λ q. turn (x (Tokens it.lts.initial)) (sum_below (labels it.lts) (λ t. pos (parikh it.tree q t) *ℤ own_effect t))), (λ t. refl))
          (names_stand it.lts it.class it.problem it.number name has) (name_no_tokens it.lts it.class it.problem it.number name e has)
        where
          turn : (s z : ℤ) → s +ℤ z ≡ (pos 0 +ℤ z) +ℤ s
          turn s z = omega (arith, ints)

      close : (a b k : ℤ) → a +ℤ (k *ℤ pos 0) ≡ b +ℤ (k *ℤ pos 0) → b ≡ a
      close a b k e = omega (arith, ints)

      go : (b : Bool) → has_start it.class ≡ b
          → value_in (numbers_along it.lts it.tree (x (Tokens it.lts.initial)) own_effect) (row_expression it.lts it.class it.problem it.number [] name).terms
          ≡ value_in (numbers_along it.lts it.tree (if b then x (Tokens it.lts.initial) else pos 0) own_effect) (row_expression it.lts it.class it.problem it.number [] name).terms
      go true e = refl
      go false e = close (value_in (numbers_along it.lts it.tree (pos 0) own_effect) (row_expression it.lts it.class it.problem it.number [] name).terms)
          (value_in (numbers_along it.lts it.tree (x (Tokens it.lts.initial)) own_effect) (row_expression it.lts it.class it.problem it.number [] name).terms)
          (row_expression it.lts it.class it.problem it.number [] name).constant (from_zero e)

  no_start : has_start it.class ≡ false → own_start ≡ pos 0
  no_start e = ap (λ b. if b then x (Tokens it.lts.initial) else pos 0) e

  -- the value of a row of the system, times the factor's bottom
  pub kept_value : (scale : ℤ) (k : KeptRow) → Contains case.kept k
      → k.factor.bottom *ℤ (dot k.row.coeffs (column_values it.lts it.basis it.class own_start own_effect) +ℤ (k.row.constant *ℤ scale)) ≡ k.factor.top *ℤ
      (value_in x (row_expression it.lts it.class it.problem it.number [] k.name).terms +ℤ ((row_expression it.lts it.class it.problem it.number [] k.name).constant *ℤ scale))
  kept_value scale k has =
      let row = kept_row it case k c.is_case has in
      row_value_is it.setting k.name (row_expression it.lts it.class it.problem it.number [] k.name) own_start own_effect scale k c.is_basis
      (names_labels it.lts it.class it.problem it.number k.name c.asked row.named) no_start follows unused row.fold
      ∙ ap (λ z. k.factor.top *ℤ (z +ℤ ((row_expression it.lts it.class it.problem it.number [] k.name).constant *ℤ scale))) (sym (row_value k.name row.named))
