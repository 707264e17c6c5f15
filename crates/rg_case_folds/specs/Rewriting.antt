-- Named rows, written over Start and the free labels.
use Rattle.std.specs.Prelude.{◌≡◌, ℕ, max, ◌==◌, ◌&&◌, ◌||◌, not, is_some, unwrap_or, Bool, true, false, if◌then◌else◌, List, [], ◌∷◌, ◌++◌, map, length, ℤ, pos, negsuc, ◌+ℤ◌, ◌*ℤ◌, ◌≤ℤ◌, Result, Ok, Err}
use Rattle.rg_theory.specs.declared.Arc.{Arc}
use Rattle.rg_theory.specs.System.{System, states, labels}
use Rattle.rg_theory.specs.declared.Class.{Class}
use Rattle.rg_theory.specs.declared.Problem.{Problem}
use Rattle.rg_theory.specs.declared.Problem.TheVariants.{Event, States}
use Rattle.rg_cert_meaning.specs.Expression.{Term, Expression, plus}
use Rattle.rg_cert_meaning.specs.declared.Variable.{Variable}
use Rattle.rg_cert_meaning.specs.declared.RowName.{RowName}
use Rattle.rg_cert_meaning.specs.Row.{row_expression, case_consumer, form_variable, step_of}
use Rattle.rg_cert_meaning.specs.declared.Form.{Form as SplitForm}
use Rattle.rg_linear.specs.System.{LinearRow, LinearSystem}
use Rattle.rg_linear.specs.Branching.{Form}
use Rattle.rg_integers.specs.declared.term.Wide.{Wide}
use Rattle.rg_fraction.specs.Rows.{IsRowGcd}
use Rattle.rg_folds.specs.Fold.{gives, ◌>>=◌, each, Ratio, whole, IsRatio, mul, multiple_of_all}
use Rattle.rg_folds.specs.Substitution.{is_in, numbers_where, free_labels, substitute_fold}
use Rattle.rg_theory.specs.Tree.{parikh}
use Rattle.rg_linear.specs.Cycle.{CycleBasis, IsZeroVector}
use Rattle.rg_linear.specs.Firsts.{KeepsEqualRows}
use Rattle.rg_case_folds.specs.Setting.{Setting, CaseSetting}
use Rattle.rg_cert_meaning.specs.declared.RowName.TheVariants as row_name
use Rattle.rg_cert_meaning.specs.declared.Form.TheVariants as split_form
use Rattle.rg_cert_meaning.specs.declared.Variable.TheVariants.{Tokens, Effect}

-- ---- lists of labels

abbrev pub has_label : ℕ → List Arc → Bool
has_label t [] = false
has_label t (a ∷ arcs) = if a.label == t then true else has_label t arcs

abbrev pub has_label_at : ℕ → ℕ → List Arc → Bool
has_label_at q t [] = false
has_label_at q t (a ∷ arcs) = if (a.from == q) && (a.label == t) then true else has_label_at q t arcs

-- the labels with an arc
abbrev pub used_labels : System → List ℕ
used_labels lts = numbers_where (λ t. has_label t lts.arcs) 0 (labels lts)

-- the free labels with an arc: the columns, but Start
abbrev pub free_columns : System → CycleBasis → List ℕ
free_columns lts basis = numbers_where (λ t. is_in basis.members t && has_label t lts.arcs) 0 (labels lts)

-- ---- an expression, by M(q) = Start + the sum of parikh(q)[t] * E(t)

abbrev pub variable_start : Variable → ℤ
variable_start (Tokens q) = pos 1
variable_start (Effect u) = pos 0

abbrev pub variable_count : List Arc → Variable → ℕ → ℤ
variable_count tree (Tokens q) t = pos (parikh tree q t)
variable_count tree (Effect u) t = if t == u then pos 1 else pos 0

-- the coefficient of Start
abbrev pub start_of : List Term → ℤ
start_of [] = pos 0
start_of (t ∷ terms) = (t.coefficient *ℤ variable_start t.variable) +ℤ start_of terms

-- the count of label t
abbrev pub count_of : List Arc → List Term → ℕ → ℤ
count_of tree [] u = pos 0
count_of tree (t ∷ terms) u = (t.coefficient *ℤ variable_count tree t.variable u) +ℤ count_of tree terms u

-- ---- the folds

-- Start is a column
abbrev pub has_start : Class → Bool
has_start class = class.pure || (class.plain || is_some class.bound)

-- the numbers of the labels that pass the test
abbrev pub pick : (ℕ → Bool) → List ℕ → List Ratio → List Ratio
pick test [] numbers = []
pick test (f ∷ rest) [] = []
pick test (f ∷ rest) (r ∷ numbers) = if test f then (r ∷ pick test rest numbers) else pick test rest numbers

-- the numbers of the columns, Start first where it is one
abbrev pub columns_of : System → CycleBasis → Class → ℤ → List Ratio → List Ratio
columns_of lts basis class start free = (if has_start class then (whole start ∷ []) else []) ++ pick (λ t. has_label t lts.arcs) (free_labels (labels lts) basis) free

abbrev pub column_count : System → CycleBasis → Class → ℕ
column_count lts basis class = length ((if has_start class then (pos 0 ∷ []) else []) ++ map pos (free_columns lts basis))

-- numbers without denominators, and what they were multiplied by
pub record Scaled : Type 0 where
  pub multiple : ℤ
  pub numbers : List ℤ

-- fractions, multiplied by the least common multiple of their denominators
abbrev pub scaled_fold : List Ratio → Result Scaled Wide → Type 0
scaled_fold numbers = do
  m ← multiple_of_all (map (λ r. r.bottom) numbers)
  products ← each (λ r. mul r (whole m)) numbers
  gives (record { multiple = m; numbers = map (λ r. r.top) products })

-- the expression over the columns, without denominators
abbrev pub terms_fold : Setting → List Term → Result Scaled Wide → Type 0
terms_fold s terms = do
  free ← substitute_fold (labels s.lts) s.basis (count_of s.tree terms)
  scaled_fold (columns_of s.lts s.basis s.class (start_of terms) free)

-- a row of the system: the named row that it is a multiple of, and the factor
pub record KeptRow : Type 0 where
  pub name : RowName
  pub row : LinearRow
  pub factor : Ratio

-- the row is the numbers and the constant, divided by their greatest common divisor; zeros are not divided
pub record IsDivided (scaled : Scaled) (number : ℤ) (out : KeptRow) : Type 0 where
  pub divisor : ℕ
  pub greatest : IsRowGcd (scaled.numbers ++ number ∷ []) divisor
  pub coeffs : scaled.numbers ≡ map (λ z. pos (max divisor 1) *ℤ z) out.row.coeffs
  pub constant : number ≡ pos (max divisor 1) *ℤ out.row.constant
  pub factor : IsRatio out.factor scaled.multiple (pos (max divisor 1))

abbrev pub divided : RowName → Scaled → ℤ → Result KeptRow Wide → Type 0
divided name scaled constant (Ok out) = (out.name ≡ name) × IsDivided scaled constant out
divided name scaled constant (Err w) = ⊥

-- the named row over the columns
abbrev pub row_fold : Setting → RowName → Expression → Result KeptRow Wide → Type 0
row_fold s name e = do
  scaled ← terms_fold s e.terms
  constant ← mul (whole e.constant) (whole scaled.multiple)
  divided name scaled constant.top

-- ---- the system of a case

abbrev pub all_numbers : ℕ → List ℕ
all_numbers n = numbers_where (λ q. true) 0 n

abbrev pub states_with : System → ℕ → List ℕ
states_with lts t = numbers_where (λ q. has_label_at q t lts.arcs) 0 (states lts)

-- the rows of the problem itself
abbrev pub problem_rows : System → Class → Problem → List RowName
problem_rows lts class (Event s t) =
    if class.pure then (row_name.Block ∷ [])
    else (if class.plain then (row_name.Empty ∷ map row_name.Full (states_with lts t) ++ row_name.Keep ∷ [])
    else map row_name.Stop (states_with lts t))
problem_rows lts class (States s s') = row_name.Apart ∷ []

-- the named rows of a case but arc and above, in their order
abbrev pub names_of : System → Class → Problem → ℕ → List RowName
names_of lts class problem number =
    problem_rows lts class problem
    ++ (if has_start class then map row_name.Tokens (all_numbers (states lts)) else [])
    ++ (if is_some class.bound then map row_name.Cap (all_numbers (states lts)) else [])
    ++ (if class.plain then (map row_name.Up (used_labels lts) ++ map row_name.Down (used_labels lts)) else [])
    ++ (if class.nonbranching then map row_name.Makes (numbers_where (λ u. has_label u lts.arcs && not (u == case_consumer lts problem number)) 0 (labels lts)) else [])

-- a row without coefficients that always holds
abbrev pub IsIdle : KeptRow → Type 0
IsIdle kept = IsZeroVector kept.row.coeffs × (pos 0 ≤ℤ kept.row.constant)

-- the start is split on where it has to be a multiple and its tokens have a bound: in a bounded class, and in an event
-- problem of a plain class
abbrev pub splits_start : Class → Problem → Bool
splits_start class (Event s t) = is_some class.marking && (class.plain || is_some class.bound)
splits_start class (States s s') = is_some class.marking && is_some class.bound

-- what the splits of a case may be on, in their order
abbrev pub split_forms : System → Class → Problem → List SplitForm
split_forms lts class problem =
    (if is_some class.bound then map split_form.Tokens (all_numbers (states lts)) else (if class.plain then map split_form.Effect (used_labels lts) else []))
    ++ (if splits_start class problem then (split_form.Start ∷ []) else [])

abbrev pub form_low : SplitForm → ℤ
form_low (split_form.Tokens q) = pos 0
form_low (split_form.Effect t) = negsuc 0
form_low split_form.Start = pos 0

-- without a bound the start has at most as many steps as there are states
abbrev pub form_high : System → Class → SplitForm → ℤ
form_high lts class (split_form.Tokens q) = pos (unwrap_or class.bound 0)
form_high lts class (split_form.Effect t) = pos 1
form_high lts class split_form.Start = pos (unwrap_or class.bound (states lts))

-- the form over the columns: its variable in steps, and its bounds
abbrev pub form_over : System → Class → SplitForm → Scaled → Form
form_over lts class form scaled = record {
  scale = pos (step_of class form) *ℤ scaled.multiple;
  coeffs = scaled.numbers;
  low = form_low form;
  high = form_high lts class form;
}

abbrev pub form_fold : Setting → SplitForm → Result Form Wide → Type 0
form_fold s form = do
  scaled ← terms_fold s (plus (form_variable s.lts.initial form) ∷ [])
  gives (form_over s.lts s.class form scaled)

-- the rows and forms of a case
pub record CaseSystem : Type 0 where
  pub columns : ℕ
  pub kept : List KeptRow
  pub forms : List Form

abbrev pub rows_of : CaseSystem → LinearSystem
rows_of case = record { columns = case.columns; rows = map (λ k. k.row) case.kept }

abbrev pub kept_of : Setting → List KeptRow → List Form → Result CaseSystem Wide → Type 0
kept_of s all forms (Ok case) = (case.columns ≡ column_count s.lts s.basis s.class) × KeepsEqualRows (λ k. k.row) IsIdle [] all case.kept × (case.forms ≡ forms)
kept_of s all forms (Err w) = ⊥

-- the named row of a case
abbrev pub named_fold : CaseSetting → RowName → Result KeptRow Wide → Type 0
named_fold s name = row_fold s.setting name (row_expression s.lts s.class s.problem s.number [] name)

-- the system of a case of a problem
abbrev pub system_fold : CaseSetting → Result CaseSystem Wide → Type 0
system_fold s = do
  all ← each (named_fold s) (names_of s.lts s.class s.problem s.number)
  forms ← each (form_fold s.setting) (split_forms s.lts s.class s.problem)
  kept_of s.setting all forms
