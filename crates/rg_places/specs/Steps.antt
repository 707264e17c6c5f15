-- The steps on the way from a point to its place, as code makes them.
use Rattle.std.specs.Prelude.{◌≡◌, ℕ, ◌<◌, if◌then◌else◌, List, [], ◌∷◌, ◌++◌, length, map, All, slice_index, ℤ, pos, neg_ℤ, Result, Ok}
use Rattle.rg_theory.specs.declared.Arc.{Arc}
use Rattle.rg_theory.specs.System.{System, states, labels}
use Rattle.rg_theory.specs.declared.Class.{Class}
use Rattle.rg_theory.specs.declared.Problem.{Problem}
use Rattle.rg_theory.specs.Net.{Place}
use Rattle.rg_integers.specs.declared.term.Wide.{Wide}
use Rattle.rg_integers.specs.Sum.{number_at}
use Rattle.rg_linear.specs.Cycle.{CycleBasis}
use Rattle.rg_cycles.specs.declared.relation.Relation.{Relation}
use Rattle.rg_folds.specs.Fold.{gives, and_then, either, each, joined, Ratio, whole, ratio_of, quotient, add, mul, whole_sum}
use Rattle.rg_folds.specs.Substitution.{is_in, free_labels}
use Rattle.rg_case_folds.specs.Rewriting.{free_columns, all_numbers, states_with}
use Rattle.rg_case_folds.specs.Placing.{effect_fold, made_whole, ratio_at, along_tree, least_of, top_at, taken, place_of}
use Rattle.rg_places.specs.PointValues.{ratio_beside}
use Rattle.rg_places.specs.declared.columns.Column.{Column}

-- ---- columns

abbrev pub labels_in : List Column → List ℕ
labels_in columns = map (λ c. c.label) columns

abbrev pub values_in : List Column → List Ratio
values_in columns = map (λ c. ratio_of c.value) columns

-- the value of a free label, that of its column
abbrev pub value_by : List Column → ℕ → Ratio
value_by columns = ratio_beside (labels_in columns) (values_in columns)

-- the label is the free label with the column's index
pub record IsPlaced (free : List ℕ) (c : Column) : Type 0 where
  pub within : c.index < length free
  pub label_is : slice_index free c.index ≡ c.label

-- the columns are the free labels with an arc, in order
pub record AreFreeColumns (lts : System) (basis : CycleBasis) (columns : List Column) : Type 0 where
  pub labels_are : labels_in columns ≡ free_columns lts basis
  pub placed : All (IsPlaced (free_labels (labels lts) basis)) columns

-- ---- effects

-- what a free label with this value adds to the effect of a label with this relation
abbrev pub column_share : Relation → Column → Result Ratio Wide → Type 0
column_share relation c = and_then (quotient (number_at relation.free.items c.index) relation.d) (λ k. mul (ratio_of c.value) k)

-- what the free label f adds to the effect of label t
abbrev pub share_fold : CycleBasis → (ℕ → Ratio) → ℕ → ℕ → Result Ratio Wide → Type 0
share_fold basis value t f = and_then (quotient ((basis.relation t).coefficient f) (basis.relation t).d) (λ k. mul (value f) k)

-- the effect of label t, which has an arc
abbrev pub used_effect_fold : System → CycleBasis → (ℕ → Ratio) → ℕ → Result Ratio Wide → Type 0
used_effect_fold lts basis value t = either (is_in basis.members t) (gives (value t)) (joined add (share_fold basis value t) (whole (pos 0)) (free_columns lts basis))

-- ---- weights

-- what the event's label t takes, where it has this effect
abbrev pub taken_to_stop : System → Class → List Ratio → ℤ → ℕ → ℤ
taken_to_stop lts class numbers effect t =
    if class.pure then neg_ℤ effect
    else (if class.plain then pos 1
    else (least_of (map (ratio_at numbers) (states_with lts t))).top)

-- ---- numbers of the states

-- the numbers of the states along the tree; `found` has the effects of the labels, and after them the number of the initial state
abbrev pub IsAlongTree : System → List Arc → List Ratio → List Ratio → Type 0
IsAlongTree lts tree found numbers = (number : ℕ → Ratio) × along_tree (ratio_at found) (λ s. ratio_at found (labels lts)) tree (Ok number) × (numbers ≡ map number (all_numbers (states lts)))

-- ---- the folds on the way

-- the effects by label, and Start after them, made whole
abbrev pub found_fold : System → CycleBasis → Class → Ratio → (ℕ → Ratio) → Result (List Ratio) Wide → Type 0
found_fold lts basis class start value = and_then (each (effect_fold lts basis value) (all_numbers (labels lts))) (λ effects. made_whole class (effects ++ start ∷ []))

-- the place, from the effects and the numbers of the states
abbrev pub weights_fold : System → Class → Problem → List Ratio → List Ratio → Result Place Wide → Type 0
weights_fold lts class problem found numbers =
    and_then (each (λ u. whole_sum (taken lts class problem numbers found u) (top_at found u)) (all_numbers (labels lts)))
    (λ post. gives (place_of lts numbers (map (taken lts class problem numbers found) (all_numbers (labels lts))) post))
