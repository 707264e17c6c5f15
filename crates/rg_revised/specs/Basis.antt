-- The relations of a system's columns over a free set, over one denominator: a revised dictionary.
use Rattle.std.specs.Prelude.{◌≡◌, ℕ, ◌+◌, ◌*◌, ◌^◌, ◌<◌, ◌≤◌, List, length, ℤ, pos, ◌+ℤ◌, ◌*ℤ◌, ◌<ℤ◌, unsigned_abs}
use Rattle.rg_integers.specs.Sum.{sum_below, only}
use Rattle.rg_linear.specs.System.{LinearSystem, row_at, entry}
use Rattle.rg_linear.specs.Dictionary.{Relation, IsFree, Holds, IsOver}
use Rattle.rg_linear.specs.Exchange.{renewed}
use Rattle.rg_linear.specs.Norm.{norm_at}

-- the relation holds of variable w, which may be a member, and names members alone; its numbers may have a common factor
pub record IsRelationOf (system : LinearSystem) (members : List ℕ) (w : ℕ) (k : Relation) : Type 0 where
  pub positive : pos 0 <ℤ k.d
  pub over : IsOver members k
  pub holds : Holds system w k

-- what a member says of itself over d: d times it is d times it
abbrev pub itself : ℤ → ℕ → Relation
itself d t = record { d = d; constant = pos 0; coefficient = only t d }

-- each column has its relation over the free set, with the one denominator d
pub record IsBasis (system : LinearSystem) (members : List ℕ) (d : ℤ) (relation : ℕ → Relation) : Type 0 where
  pub free : IsFree system members
  pub positive : pos 0 <ℤ d
  pub columns : (t : ℕ) → t < system.columns → IsRelationOf system members t (relation t)
  pub denominator : (t : ℕ) → t < system.columns → (relation t).d ≡ d

-- the relation of row i that those of the columns give
abbrev pub row_over : LinearSystem → ℤ → (ℕ → Relation) → ℕ → Relation
row_over system d relation i = record {
  d = d;
  constant = sum_below system.columns (λ j. entry system i j *ℤ (relation j).constant) +ℤ (d *ℤ (row_at system i).constant);
  coefficient = λ m. sum_below system.columns (λ j. entry system i j *ℤ (relation j).coefficient m);
}

-- every number of raw is the factor times that of l
pub record IsMultiple (factor : ℤ) (raw l : Relation) : Type 0 where
  pub d : raw.d ≡ factor *ℤ l.d
  pub constant : raw.constant ≡ factor *ℤ l.constant
  pub coefficients : (m : ℕ) → raw.coefficient m ≡ factor *ℤ l.coefficient m

-- the relations after the exchange of i, which has relation k, with j: the renewed ones, divided by a factor
abbrev pub AreRenewed : LinearSystem → ℤ → Relation → ℕ → ℕ → (ℕ → Relation) → (ℕ → Relation) → Type 0
AreRenewed system factor k i j relation relation' = (t : ℕ) → t < system.columns → IsMultiple factor (renewed k i j (relation t)) (relation' t)

-- no number of the relation passes b
pub record IsWithin (b : ℕ) (k : Relation) : Type 0 where
  pub d : unsigned_abs k.d ≤ b
  pub constant : unsigned_abs k.constant ≤ b
  pub coefficients : (m : ℕ) → unsigned_abs (k.coefficient m) ≤ b

-- no number of the columns' relations passes b
abbrev pub AreWithin : LinearSystem → ℕ → (ℕ → Relation) → Type 0
AreWithin system b relation = (t : ℕ) → t < system.columns → IsWithin b (relation t)

-- no row's norm passes n
abbrev pub HasNorms : LinearSystem → ℕ → Type 0
HasNorms system n = (i : ℕ) → i < length system.rows → norm_at system.rows i ≤ n

-- numbers so small that no term of an exchange is out of range
pub record IsSmall (system : LinearSystem) (members : List ℕ) (d : ℤ) (relation : ℕ → Relation) : Type 0 where
  pub norm : ℕ
  pub most : ℕ
  pub norms : HasNorms system norm
  pub within : AreWithin system most relation
  pub d_within : unsigned_abs d ≤ most
  pub room : (norm + 1) * most < 2 ^ 63
