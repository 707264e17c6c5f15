-- How what the code keeps is seen.
use Rattle.std.specs.Prelude.{◌≡◌, ℕ, List, [], ◌∷◌, All, ℤ, pos, Result}
use Rattle.rg_theory.specs.declared.Arc.{Arc}
use Rattle.rg_theory.specs.System.{System, states, labels}
use Rattle.rg_integers.specs.declared.term.Wide.{Wide}
use Rattle.rg_linear.specs.Cycle.{CycleBasis}
use Rattle.rg_cert_meaning.specs.Expression.{Term as SumTerm, Expression as Sum, coefficient_in}
use Rattle.rg_cert_meaning.specs.declared.Variable.{Variable}
use Rattle.rg_cert_meaning.specs.declared.RowName.{RowName}
use Rattle.rg_cert_meaning.specs.Refutes.{NamedRow}
use Rattle.rg_integers.specs.Sign.{size}
use Rattle.rg_cert_data.specs.Certificates.{IsTermWithin}
use Rattle.rg_folds.specs.Fold.{gives, and_then, joined, Ratio, whole, ratio_of, quotient, add, mul, whole_product}
use Rattle.rg_case_folds.specs.Rewriting.{count_of}
use Rattle.rg_case_folds.specs.Placing.{negated}
use Rattle.rg_case_folds.specs.Spreading.{Share, Pair, ArcTimes, Addend, Addend.product}
use Rattle.rg_cert_data.specs.Sums.{terms_in, expression_of}
use Rattle.rg_farkas.specs.declared.multiplied.Row.{Row}
use Rattle.rg_farkas.specs.declared.multiplied.Counted.{Counted}
use Rattle.rg_cert_meaning.specs.declared.Variable.TheVariants.{Tokens}

-- the terms of the shares' rows name states and labels of the system
abbrev pub AreRowsWithin : System → (RowName → Sum) → List Share → Type 0
AreRowsWithin lts expression shares = All (λ s. All (IsTermWithin (states lts) (labels lts)) (expression s.name).terms) shares

-- ---- counts

-- a row's multiplier, and how often a label counts in the row
pub record LabelCount : Type 0 where
  pub multiplier : Ratio
  pub label : ℕ
  pub count : ℤ

abbrev pub counted_of : Counted → LabelCount
counted_of c = record { multiplier = ratio_of c.multiplier; label = c.label; count = c.count }

-- how often the label counts in the terms
abbrev pub label_count : List Arc → List SumTerm → Ratio → ℕ → LabelCount
label_count tree terms multiplier t = record { multiplier = multiplier; label = t; count = count_of tree terms t }

-- how often a pair's label counts in its row
abbrev pub pair_count : List Arc → (RowName → Sum) → Pair → LabelCount
pair_count tree expression p = label_count tree (expression p.share.name).terms p.share.multiplier p.label

-- what a count gives the chord with variable c
abbrev pub count_fold : CycleBasis → ℕ → LabelCount → Result Ratio Wide → Type 0
count_fold basis c k =
    and_then (mul k.multiplier (whole k.count))
    (λ x. and_then (quotient ((basis.relation k.label).coefficient c) (basis.relation k.label).d) (λ y. mul x y))

-- what all counts give it, negated
abbrev pub counts_fold : CycleBasis → List LabelCount → ℕ → Result Ratio Wide → Type 0
counts_fold basis counts c = and_then (joined add (count_fold basis c) (whole (pos 0)) counts) (λ sum. gives (negated sum))

-- ---- rows

abbrev pub named_of : Row → NamedRow
named_of r = record { multiplier = r.multiplier; name = r.name }

-- the row has what its name says
abbrev pub Tells : (RowName → Sum) → Row → Type 0
Tells expression r = expression_of r.expression ≡ expression r.name

-- what the row gives the tokens at the state
abbrev pub row_addend : ℕ → Row → Addend
row_addend s r = product r.multiplier (coefficient_in (terms_in r.expression.terms) (Tokens s))

-- the absolute value of the row's multiplied number
abbrev pub size_fold : (Row → ℤ) → Row → Result ℤ Wide → Type 0
size_fold number r = and_then (whole_product r.multiplier (number r)) (λ z. gives (size z))

-- the row's coefficient of the variable
abbrev pub coefficient_at : Variable → Row → ℤ
coefficient_at v r = coefficient_in (terms_in r.expression.terms) v

-- arcs with their multipliers
abbrev pub arc_times : List Arc → List ℤ → List ArcTimes
arc_times [] numbers = []
arc_times (a ∷ arcs) [] = []
arc_times (a ∷ arcs) (z ∷ numbers) = record { arc = a; multiplier = z } ∷ arc_times arcs numbers
