-- Multipliers of a system's rows, spread over named rows, chords and the arcs of the tree.
use Rattle.std.specs.Prelude.{◌≡◌, ℕ, max, ◌+◌, ◌-◌, ◌==◌, ◌||◌, nat_lt, int_lt, if◌then◌else◌, List, [], ◌∷◌, ◌++◌, map, reverse, length, drop, slice_index_or, ℤ, pos, ◌*ℤ◌, Result, Ok, Err}
use Rattle.rg_theory.specs.declared.Arc.{Arc}
use Rattle.rg_theory.specs.System.{System, states, labels}
use Rattle.rg_cert_meaning.specs.Expression.{Expression, coefficient_in}
use Rattle.rg_cert_meaning.specs.declared.Variable.{Variable}
use Rattle.rg_cert_meaning.specs.Row.{row_expression, Side}
use Rattle.rg_cert_meaning.specs.declared.RowName.{RowName}
use Rattle.rg_cert_meaning.specs.declared.Form.{Form as SplitForm}
use Rattle.rg_cert_meaning.specs.Refutes.{NamedRow}
use Rattle.rg_integers.specs.Sign.{size}
use Rattle.rg_linear.specs.Branching.{Weight, Form, form_at, SplitSide}
use Rattle.rg_integers.specs.declared.term.Wide.{Wide}
use Rattle.rg_fraction.specs.Rows.{IsRowGcd}
use Rattle.rg_folds.specs.Fold.{gives, ◌>>=◌, each, joined, Ratio, whole, quotient, add, mul, whole_sum, whole_product}
use Rattle.rg_theory.specs.Tree.{same_arc}
use Rattle.rg_linear.specs.Cycle.{CycleBasis}
use Rattle.rg_case_folds.specs.Chords.{chord_at}
use Rattle.rg_case_folds.specs.Setting.{CaseSetting}
use Rattle.rg_folds.specs.Substitution.{is_in, numbers_where, dependent_labels}
use Rattle.rg_case_folds.specs.Rewriting.{all_numbers, count_of, scaled_fold, KeptRow, CaseSystem}
use Rattle.rg_case_folds.specs.Placing.{negated}
use Rattle.rg_cert_meaning.specs.declared.RowName.TheVariants as row_name
use Rattle.rg_cert_meaning.specs.declared.Form.TheVariants as split_form
use Rattle.rg_cert_meaning.specs.declared.Variable.TheVariants.{Tokens, Effect}

-- a named row times a fraction
pub record Share : Type 0 where
  pub name : RowName
  pub multiplier : Ratio

-- row number i of a node's system: the rows that are kept, and after them those of the splits
abbrev pub kept_at : CaseSystem → ℕ → KeptRow
kept_at case i = slice_index_or case.kept i (record { name = row_name.Above 0; row = record { coeffs = []; constant = pos 0 }; factor = whole (pos 1) })

abbrev pub name_of : CaseSystem → ℕ → RowName
name_of case i = if nat_lt i (length case.kept) then (kept_at case i).name else row_name.Above (i - length case.kept)

abbrev pub side_at : List SplitSide → ℕ → SplitSide
side_at above d = slice_index_or above d (record { form = 0; at = pos 0; high = Rattle.std.specs.Prelude.false })

abbrev pub named_at : List Side → ℕ → Side
named_at above d = slice_index_or above d (record { form = split_form.Tokens 0; at = pos 0; high = Rattle.std.specs.Prelude.false })

-- the factor from the named row of a split to its row: the scale of the form; the start's row is its named row, whose
-- scale is a step
abbrev pub split_factor : SplitForm → Form → Ratio
split_factor (split_form.Tokens q) form = whole form.scale
split_factor (split_form.Effect t) form = whole form.scale
split_factor split_form.Start form = whole (pos 1)

-- the factor from its named row to row i
abbrev pub factor_of : CaseSystem → List SplitSide → List Side → ℕ → Ratio
factor_of case form_sides above i =
    if nat_lt i (length case.kept) then (kept_at case i).factor
    else split_factor (named_at above (i - length case.kept)).form (form_at case.forms (side_at form_sides (i - length case.kept)).form)

abbrev pub share_fold : CaseSystem → List SplitSide → List Side → Weight → Result Share Wide → Type 0
share_fold case form_sides above w = do
  m ← mul (whole w.multiplier) (factor_of case form_sides above w.row)
  gives (record { name = name_of case w.row; multiplier = m })

-- ---- chords

-- a named row with a dependent label
pub record Pair : Type 0 where
  pub share : Share
  pub label : ℕ

abbrev pub pairs_of : List Share → List ℕ → List Pair
pairs_of [] ts = []
pairs_of (r ∷ shares) ts = map (λ t. record { share = r; label = t }) ts ++ pairs_of shares ts

-- what a pair gives the chord with variable c: the multiplier, times the count, times the chord's number in the label's relation
abbrev pub pair_fold : List Arc → CycleBasis → (RowName → Expression) → ℕ → Pair → Result Ratio Wide → Type 0
pair_fold tree basis expression c p = do
  x ← mul p.share.multiplier (whole (count_of tree (expression p.share.name).terms p.label))
  k ← quotient ((basis.relation p.label).coefficient c) (basis.relation p.label).d
  mul x k

-- the kept chords whose variables are members, by number
abbrev pub used_chords : System → CycleBasis → List ℕ
used_chords lts basis = numbers_where (λ c. is_in basis.members (labels lts + c)) 0 (length basis.kept)

-- the multiplier of kept chord number c: what all pairs give it, negated
abbrev pub chord_fold : System → List Arc → CycleBasis → (RowName → Expression) → List Share → ℕ → Result Ratio Wide → Type 0
chord_fold lts tree basis expression shares c = do
  sum ← joined add (pair_fold tree basis expression (labels lts + c)) (whole (pos 0)) (pairs_of shares (dependent_labels (labels lts) basis))
  gives (negated sum)

-- ---- arcs of the tree

-- an arc times a number
pub record ArcTimes : Type 0 where
  pub arc : Arc
  pub multiplier : ℤ

abbrev pub arc_name : Arc → RowName
arc_name a = row_name.Arc a

-- a number, or a product of two
pub data Addend : Type 0 where
  number : ℤ → Addend
  product : ℤ → ℤ → Addend

abbrev pub addend_fold : Addend → Result ℤ Wide → Type 0
addend_fold (number z) = gives z
addend_fold (product x y) = whole_product x y

abbrev pub leaving : ℕ → List ArcTimes → List Addend
leaving s [] = []
leaving s (x ∷ done) = if x.arc.from == s then (number x.multiplier ∷ leaving s done) else leaving s done

-- what adds up to the multiplier of the tree arc into s: of the rows and chords, and of the tree arcs that leave s
abbrev pub addends_at : (RowName → Expression) → List NamedRow → List ArcTimes → ℕ → List Addend
addends_at expression rows done s = map (λ r. product r.multiplier (coefficient_in (expression r.name).terms (Tokens s))) rows ++ leaving s done

-- the arcs in `last_first` get their multipliers, one after the other; `done` has those after them in the tree
abbrev pub tree_fold : (RowName → Expression) → List NamedRow → List ArcTimes → List Arc → Result (List ArcTimes) Wide → Type 0
tree_fold expression rows done [] = gives done
tree_fold expression rows done (a ∷ last_first) = do
  m ← joined whole_sum addend_fold (pos 0) (addends_at expression rows done a.to)
  tree_fold expression rows (record { arc = a; multiplier = m } ∷ done) last_first

-- ---- the leaf

abbrev pub named_from : List RowName → List ℤ → List NamedRow
named_from [] numbers = []
named_from (name ∷ names) [] = []
named_from (name ∷ names) (z ∷ numbers) = record { multiplier = z; name = name } ∷ named_from names numbers

-- the numbers divided by their greatest common divisor; zeros are not divided
pub record IsParts (numbers parts : List ℤ) : Type 0 where
  pub divisor : ℕ
  pub greatest : IsRowGcd numbers divisor
  pub parts_are : numbers ≡ map (λ z. pos (max divisor 1) *ℤ z) parts

abbrev pub parts_of : List ℤ → Result (List ℤ) Wide → Type 0
parts_of numbers (Ok parts) = IsParts numbers parts
parts_of numbers (Err w) = ⊥

abbrev pub multiplier_among : List Arc → List ℤ → Arc → ℤ
multiplier_among [] numbers a = pos 0
multiplier_among (b ∷ arcs) [] a = pos 0
multiplier_among (b ∷ arcs) (z ∷ numbers) a = if same_arc b a then z else multiplier_among arcs numbers a

abbrev pub not_zero : List NamedRow → List NamedRow
not_zero [] = []
not_zero (r ∷ rows) = if int_lt r.multiplier (pos 0) || int_lt (pos 0) r.multiplier then (r ∷ not_zero rows) else not_zero rows

-- the absolute value of a number of the row, multiplied
abbrev pub multiplied_size : (RowName → ℤ) → NamedRow → Result ℤ Wide → Type 0
multiplied_size coefficient r = do
  z ← whole_product r.multiplier (coefficient r.name)
  gives (size z)

-- the sum of the absolute values of the multiplied numbers of the rows
abbrev pub sizes_fold : (RowName → ℤ) → List NamedRow → Result ℤ Wide → Type 0
sizes_fold coefficient rows = joined whole_sum (multiplied_size coefficient) (pos 0) rows

abbrev pub variables_of : System → List Variable
variables_of lts = map Tokens (all_numbers (states lts)) ++ map Effect (all_numbers (labels lts))

-- the leaf, where no sum of absolute values passes
abbrev pub checked_leaf : System → (RowName → Expression) → List NamedRow → Result (List NamedRow) Wide → Type 0
checked_leaf lts expression rows = do
  sums ← each (λ v. sizes_fold (λ name. coefficient_in (expression name).terms v) rows) (variables_of lts)
  sum ← sizes_fold (λ name. (expression name).constant) rows
  gives rows

-- the chords that are used
abbrev pub chord_arcs : System → List Arc → CycleBasis → List Arc
chord_arcs lts tree basis = map (λ c. chord_at lts tree (slice_index_or basis.kept c 0)) (used_chords lts basis)

-- the rows of the shares and the chords, with these numbers in order
abbrev pub numbered_rows : List Share → List Arc → List ℤ → List NamedRow
numbered_rows shares chords numbers = named_from (map (λ r. r.name) shares ++ map arc_name chords) numbers

-- the arcs of a system, each with the multiplier that it has among these arcs
abbrev pub arc_rows : List Arc → List ℤ → List Arc → List NamedRow
arc_rows arcs numbers system = map (λ a. record { multiplier = multiplier_among arcs numbers a; name = arc_name a }) system

-- the rows of the leaf, without zeros: those of the shares, and then the arcs of the system; `arcs` are those that have
-- the parts behind the shares'
abbrev pub leaf_rows_of : System → List Share → List Arc → List ℤ → List NamedRow
leaf_rows_of lts shares arcs parts =
    not_zero (named_from (map (λ r. r.name) shares) parts ++ arc_rows arcs (drop (length shares) parts) lts.arcs)

-- the leaf of the shares' and chords' numbers: the arcs of the tree get their multipliers, from its last to its first
abbrev pub numbers_leaf : System → List Arc → List Arc → (RowName → Expression) → List Share → List ℤ → Result (List NamedRow) Wide → Type 0
numbers_leaf lts tree chords expression shares numbers = do
  arcs ← tree_fold expression (numbered_rows shares chords numbers) [] (reverse tree)
  parts ← parts_of (numbers ++ map (λ x. x.multiplier) arcs)
  checked_leaf lts expression (leaf_rows_of lts shares (chords ++ map (λ x. x.arc) arcs) parts)

-- the leaf of the shares: the chords get their multipliers, and then all are made whole
abbrev pub leaf_fold : System → List Arc → CycleBasis → (RowName → Expression) → List Share → Result (List NamedRow) Wide → Type 0
leaf_fold lts tree basis expression shares = do
  chord_shares ← each (chord_fold lts tree basis expression shares) (used_chords lts basis)
  scaled ← scaled_fold (map (λ r. r.multiplier) shares ++ chord_shares)
  numbers_leaf lts tree (chord_arcs lts tree basis) expression shares scaled.numbers

-- the leaf of the weights of a node's rows
abbrev pub spread_fold : CaseSetting → CaseSystem → List SplitSide → List Side → List Weight → Result (List NamedRow) Wide → Type 0
spread_fold s case form_sides above weights = do
  shares ← each (share_fold case form_sides above) weights
  leaf_fold s.lts s.tree s.basis (row_expression s.lts s.class s.problem s.number above) shares
