-- The rows of a case's system are met exactly where its named rows are.
use Rattle.std.proofs.Common.{◌≡◌, ◌⊎◌, ⊎_elim, ℕ, suc, ◌↔◌, false, List, [], ◌∷◌, All, Result, Ok, Contains, refl, subst, sym, inl, inr, arith}
use Rattle.std.specs.Prelude.{ℤ, pos, ◌+ℤ◌, ◌*ℤ◌, ◌≤ℤ◌, ◌<ℤ◌}
use Rattle.std.proofs.lemmas.Int.{ints}
use Rattle.std.proofs.lemmas.List.Elements.{All-head, All-tail}
use Rattle.rg_theory.specs.System.{labels}
use Rattle.rg_theory.proofs.Lists.{Contains-cons_cases}
use Rattle.rg_cert_meaning.specs.Row.{row_expression}
use Rattle.rg_cert_meaning.specs.declared.RowName.{RowName}
use Rattle.rg_linear.specs.System.{LinearRow}
use Rattle.rg_linear.specs.Cycle.{FollowsRelations}
use Rattle.rg_integers.proofs.Order.{mul_not_negative}
use Rattle.rg_integers.specs.declared.term.Wide.{Wide}
use Rattle.rg_case_folds.specs.Setting.{CaseSetting}
use Rattle.rg_folds.specs.Fold.{each}
use Rattle.rg_case_folds.specs.Chords.{chord_system, IsBasis}
use Rattle.rg_case_folds.specs.Rewriting.{has_start, names_of, KeptRow, IsIdle, row_fold, CaseSystem, system_fold}
use Rattle.rg_case_folds.specs.Values.{NamesLabels, column_values, UnusedAreZero, RowIsMet, NameIsMet}
use Rattle.rg_integers.specs.Sum.{dot}
use Rattle.rg_linear.proofs.Firsts.{kept_is, item_stays}
use Rattle.rg_fraction.proofs.Orders.{weak}
use Rattle.rg_case_folds.proofs.Signs.{row_is_met}

-- the items of a list and the values made of them
pub made_of : {A X : Type 0} (make : A → Result X Wide → Type 0) (items : List A) (xs : List X) (a : A) → each make items (Ok xs) → Contains items a → (x : X) × Contains xs x × make a (Ok x)
made_of make [] xs a e (k, lt, at) = absurd (omega arith)
made_of {A} {X} make (b ∷ items) xs a (x, is, (rest, each_is, e)) has =
    ⊎_elim
    (λ same. (x, subst (λ l. Contains l x) (sym e) (0, omega arith, refl), subst (λ c. make c (Ok x)) same is))
    (λ there. (let (y, (k, lt, at), is') = made_of make items rest a each_is there in (y, subst (λ l. Contains l y) (sym e) (suc k, omega arith, at), is')))
    (Contains-cons_cases b a items has)

pub made_from : {A X : Type 0} (make : A → Result X Wide → Type 0) (items : List A) (xs : List X) (x : X) → each make items (Ok xs) → Contains xs x → (a : A) × Contains items a × make a (Ok x)
made_from make [] xs x e has = absurd (nothing (subst (λ l. Contains l x) e has))
  where
    nothing : Contains [] x → ⊥
    nothing (k, lt, at) = omega arith
made_from {A} {X} make (b ∷ items) xs x (y, is, (rest, each_is, e)) has =
    ⊎_elim
    (λ same. (b, (0, omega arith, refl), subst (λ z. make b (Ok z)) same is))
    (λ there. (let (a, (k, lt, at), is') = made_from make items rest x each_is there in (a, (suc k, omega arith, at), is')))
    (Contains-cons_cases y x rest (subst (λ l. Contains l x) e has))

zero_dot : (xs vs : List ℤ) → All (λ z. z ≡ pos 0) xs → dot xs vs ≡ pos 0
zero_dot [] vs all = refl
zero_dot (x ∷ xs) [] all = refl
zero_dot (x ∷ xs) (v ∷ vs) all = close x v (dot xs vs) (All-head (λ z. z ≡ pos 0) x xs all) (zero_dot xs vs (All-tail (λ z. z ≡ pos 0) x xs all))
  where
    close : (x v s : ℤ) → x ≡ pos 0 → s ≡ pos 0 → (x *ℤ v) +ℤ s ≡ pos 0
    close x v s p q = rw p (zero_times v s q)
      where
        zero_times : (v s : ℤ) → s ≡ pos 0 → (pos 0 *ℤ v) +ℤ s ≡ pos 0
        zero_times v s q = omega (arith, ints)

-- a row without coefficients whose constant is not negative is always met
idle_is_met : (k : KeptRow) (values : List ℤ) (scale : ℤ) → pos 0 <ℤ scale → IsIdle k → RowIsMet values scale k
idle_is_met k values scale h (zeros, constant) =
    let product = mul_not_negative k.row.constant scale constant (weak scale h) in
    close (dot k.row.coeffs values) (k.row.constant *ℤ scale) (zero_dot k.row.coeffs values zeros) product
  where
    close : (d p : ℤ) → d ≡ pos 0 → pos 0 ≤ℤ p → pos 0 ≤ℤ (d +ℤ p)
    close d p e h = omega (arith, ints)

pub system_is_met : (s : CaseSetting) (start : ℤ) (effect : ℕ → ℤ) (scale : ℤ) (case : CaseSystem) → IsBasis s.lts s.tree s.basis → ((name : RowName)
    → Contains (names_of s.lts s.class s.problem s.number) name → NamesLabels (labels s.lts) (row_expression s.lts s.class s.problem s.number [] name).terms)
    → pos 0 <ℤ scale → (has_start s.class ≡ false → start ≡ pos 0) → FollowsRelations (chord_system s.lts s.tree s.basis.kept) s.basis.members effect
    → UnusedAreZero s.lts effect → system_fold s (Ok case)
    → ((k : KeptRow) → Contains case.kept k → RowIsMet (column_values s.lts s.basis s.class start effect) scale k) ↔ ((name : RowName)
    → Contains (names_of s.lts s.class s.problem s.number) name → NameIsMet s.lts s.tree start effect scale (row_expression s.lts s.class s.problem s.number [] name))
system_is_met s start effect scale case is names positive no_start follows unused (all, made, (forms, forms_made, (columns, keeps, form_list))) = (
  (λ met name has. (let (k, has', fold) = made_of (λ n. row_fold s.setting n (row_expression s.lts s.class s.problem s.number [] n)) (names_of s.lts s.class s.problem s.number) all name made has in
      (row_is_met s.setting name (row_expression s.lts s.class s.problem s.number [] name) start effect scale k is (names name has) no_start follows unused fold).0
      (row_met met k (item_stays (λ x. x.row) IsIdle [] all case.kept k keeps has')))),
  (λ met k has. (let (name, has', fold) = made_from (λ n. row_fold s.setting n (row_expression s.lts s.class s.problem s.number [] n))
      (names_of s.lts s.class s.problem s.number) all k made (kept_is (λ x. x.row) IsIdle [] all case.kept k keeps has) in
      (row_is_met s.setting name (row_expression s.lts s.class s.problem s.number [] name) start effect scale k is (names name has') no_start follows unused fold).1 (met name has'))),
)
  where
    row_met : ((k : KeptRow) → Contains case.kept k → RowIsMet (column_values s.lts s.basis s.class start effect) scale k) → (k : KeptRow)
        → IsIdle k ⊎ (Contains [] k.row ⊎ ((y : KeptRow) × Contains case.kept y × (y.row ≡ k.row))) → RowIsMet (column_values s.lts s.basis s.class start effect) scale k
    row_met met k (inl idle) = idle_is_met k (column_values s.lts s.basis s.class start effect) scale positive idle
    row_met met k (inr (inl (i, lt, e))) = absurd (omega arith)
    row_met met k (inr (inr (y, has, e))) = subst (λ (r : LinearRow). pos 0 ≤ℤ (dot r.coeffs (column_values s.lts s.basis s.class start effect) +ℤ (r.constant *ℤ scale))) e (met y has)
