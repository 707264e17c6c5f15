-- What is known of the indices at which the numbers of the table's rows aren't 0.
use Rattle.std.specs.Prelude.{◌≡◌, ℕ, ◌<◌, List, [], length, get_or, ℤ}
use Rattle.rg_linear.specs.Table.{row_at}
use Rattle.rg_revised.specs.Few.{AreFew}
use Rattle.rg_revised.specs.declared.support.Look.TheVariants as look
use Rattle.rg_revised.specs.declared.support.Support.{Support}

-- if the indices are listed, they are those of the row's numbers that aren't 0
abbrev pub IsSupport : List ℤ → Support → Type 0
IsSupport row s = s.look ≡ look.Listed → AreFew row s.indices s.count

-- the support of which nothing is known
abbrev pub blank : Support
blank = record { look = look.Written; indices = []; count = 0 }

-- each row has its support
abbrev pub AreSupports : ℕ → List ℤ → List Support → Type 0
AreSupports width table supports = (t : ℕ) → t < length supports → IsSupport (row_at width table t) (get_or supports t blank)
