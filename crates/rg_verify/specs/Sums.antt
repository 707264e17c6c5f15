-- The table of sums: for each variable, and for the constants, the sum of numbers and that of their absolute values.
use Rattle.std.specs.Prelude.{◌≡◌, ◌≢◌, ℕ, ◌+◌, ◌*◌, ◌<◌, ◌⊎◌, List, Option, Some, None, length, All, Contains, ℤ, pos, ◌+ℤ◌, ◌*ℤ◌, ◌<ℤ◌, nat_abs, sum_by, slice_get}
use Rattle.rg_theory.specs.System.{System, states, labels}
use Rattle.rg_cert_meaning.specs.Expression as linear
use Rattle.rg_cert_meaning.specs.Expression.{Expression, coefficient_in}
use Rattle.rg_cert_meaning.specs.declared.RowName.{RowName}
use Rattle.rg_cert_meaning.specs.Refutes.{NamedRow, coefficient_sum, constant_sum}
use Rattle.rg_integers.specs.Range.{greatest}
use Rattle.rg_verify.specs.declared.verdict.Defect.{Defect}
use Rattle.rg_verify.specs.declared.verdict.Defect.TheVariants.{LeftOver, NoContradiction}
use Rattle.rg_verify.specs.declared.sums.Sum.{Sum}
use Rattle.rg_verify.specs.declared.sums.Sums.{Sums}
use Rattle.rg_verify.specs.Judged.{IsVariableBefore}
use Rattle.rg_verify.specs.Terms.{size_in}
use Rattle.rg_cert_meaning.specs.declared.Variable.{Variable}
use Rattle.rg_cert_meaning.specs.declared.Variable.TheVariants.{Tokens, Effect}

abbrev pub signed_of : Option Sum → ℤ
signed_of None = pos 0
signed_of (Some sum) = sum.signed

abbrev pub size_of : Option Sum → ℕ
size_of None = 0
size_of (Some sum) = sum.size

-- the entry of a variable; None where the table hasn't it
abbrev pub entry_of : Sums → Variable → Option Sum
entry_of sums (Tokens q) = slice_get sums.tokens.items q
entry_of sums (Effect t) = slice_get sums.effects.items t

-- the sum of the variable's numbers
abbrev pub signed_at : Sums → Variable → ℤ
signed_at sums v = signed_of (entry_of sums v)

-- the sum of their absolute values
abbrev pub size_at : Sums → Variable → ℕ
size_at sums v = size_of (entry_of sums v)

-- the table has the variable
abbrev pub HasEntry : Sums → Variable → Type 0
HasEntry sums (Tokens q) = q < length sums.tokens.items
HasEntry sums (Effect t) = t < length sums.effects.items

-- the listed variables are the table's, and any other has the sum 0
pub record IsTidy (sums : Sums) : Type 0 where
  pub listed : All (HasEntry sums) sums.touched.items
  pub others : (v : Variable) → Contains sums.touched.items v ⊎ (size_at sums v ≡ 0)

-- the tables have the same variables
pub record HasSameVariables (old new : Sums) : Type 0 where
  pub tokens : length new.tokens.items ≡ length old.tokens.items
  pub effects : length new.effects.items ≡ length old.effects.items

-- the tables have the same sums of variables
pub record HasSameEntries (old new : Sums) : Type 0 where
  pub tokens : new.tokens.items ≡ old.tokens.items
  pub effects : new.effects.items ≡ old.effects.items

-- one entry for each state and each label
pub record IsTableOf (lts : System) (sums : Sums) : Type 0 where
  pub tokens : length sums.tokens.items ≡ states lts
  pub effects : length sums.effects.items ≡ labels lts
  pub tidy : IsTidy sums

-- every sum is 0
pub record IsZero (sums : Sums) : Type 0 where
  pub sizes : (v : Variable) → size_at sums v ≡ 0
  pub constant : sums.constant.size ≡ 0

-- the system's table, with every sum 0
pub record IsClear (lts : System) (sums : Sums) : Type 0 where
  pub table : IsTableOf lts sums
  pub zero : IsZero sums

-- what the absolute values of the multiplied coefficients of a variable add up to
abbrev pub coefficient_size : (RowName → Expression) → List NamedRow → Variable → ℕ
coefficient_size expression rows v = sum_by (λ r. nat_abs (r.multiplier *ℤ coefficient_in (expression r.name).terms v)) rows

-- what those of the multiplied constants add up to
abbrev pub constant_size : (RowName → Expression) → List NamedRow → ℕ
constant_size expression rows = sum_by (λ r. nat_abs (r.multiplier *ℤ (expression r.name).constant)) rows

-- the sums are those of the rows
pub record AreSumsOf (expression : RowName → Expression) (rows : List NamedRow) (sums : Sums) : Type 0 where
  pub coefficients : (v : Variable) → signed_at sums v ≡ coefficient_sum expression rows v
  pub sizes : (v : Variable) → size_at sums v ≡ coefficient_size expression rows v
  pub constant : sums.constant.signed ≡ constant_sum expression rows
  pub constant_size : sums.constant.size ≡ constant_size expression rows

-- the terms were added, times k
pub record AddsTerms (k : ℤ) (terms : List linear.Term) (old new : Sums) : Type 0 where
  pub signed : (v : Variable) → signed_at new v ≡ signed_at old v +ℤ (k *ℤ coefficient_in terms v)
  pub sizes : (v : Variable) → size_at new v ≡ size_at old v + nat_abs k * size_in terms v
  pub constant : new.constant ≡ old.constant

-- with the terms, times k, some sum of absolute values passes
abbrev pub PassesByTerms : ℤ → List linear.Term → Sums → Type 0
PassesByTerms k terms old = (v : Variable) × (greatest < size_at old v + nat_abs k * size_in terms v)

-- the terms and the constant were added, times k
pub record AddsRow (k : ℤ) (terms : List linear.Term) (number : ℤ) (old new : Sums) : Type 0 where
  pub signed : (v : Variable) → signed_at new v ≡ signed_at old v +ℤ (k *ℤ coefficient_in terms v)
  pub sizes : (v : Variable) → size_at new v ≡ size_at old v + nat_abs k * size_in terms v
  pub constant : new.constant.signed ≡ old.constant.signed +ℤ (k *ℤ number)
  pub constant_size : new.constant.size ≡ old.constant.size + nat_abs (k *ℤ number)

-- with the terms or the constant, times k, some sum of absolute values passes
abbrev pub PassesByRow : ℤ → List linear.Term → ℤ → Sums → Type 0
PassesByRow k terms constant old = PassesByTerms k terms old ⊎ (greatest < old.constant.size + nat_abs (k *ℤ constant))

-- the first variable whose sum isn't 0
pub record IsLeftFirst (sums : Sums) (v : Variable) : Type 0 where
  pub in_table : HasEntry sums v
  pub left : signed_at sums v ≢ pos 0
  pub first : (w : Variable) → IsVariableBefore w v → signed_at sums w ≡ pos 0

-- every variable cancels, and the constants add up to less than 0
pub record HasNoDefect (sums : Sums) : Type 0 where
  pub cancels : (v : Variable) → signed_at sums v ≡ pos 0
  pub contradicts : sums.constant.signed <ℤ pos 0

-- what is wrong with the sums
abbrev pub IsSumDefect : Sums → Defect → Type 0
IsSumDefect sums (LeftOver v) = IsLeftFirst sums v
IsSumDefect sums NoContradiction = ((v : Variable) → signed_at sums v ≡ pos 0) × (¬ (sums.constant.signed <ℤ pos 0))
IsSumDefect sums defect = ⊥
