-- The effect of a label from its columns.
use Rattle.std.proofs.Common.{◌≡◌, ◌≢◌, ℕ, zero, suc, ◌<◌, not, true, false, List, [], ◌∷◌, length, All, Contains, slice_index_or, Result, Ok, ap, sym, subst, ◌∙◌, arith}
use Rattle.std.specs.Prelude.{pos}
use Rattle.std.proofs.lemmas.List.{length-map, get_or-map}
use Rattle.rg_theory.specs.System.{System, labels}
use Rattle.rg_integers.specs.Sum.{number_at}
use Rattle.rg_integers.specs.declared.term.Wide.{Wide}
use Rattle.rg_linear.specs.Cycle.{CycleBasis}
use Rattle.rg_linear.proofs.Members.{IsInOrder}
use Rattle.rg_folds.specs.Fold.{gives, and_then, either, joined, Ratio, whole, ratio_of, quotient, add, mul}
use Rattle.rg_folds.specs.Substitution.{free_labels}
use Rattle.rg_case_folds.specs.Rewriting.{has_label, free_columns}
use Rattle.rg_case_folds.specs.Placing.{effect_fold}
use Rattle.rg_cycles.specs.declared.relation.Relation.{Relation}
use Rattle.rg_cycles.specs.Basis.{ShowsRelation}
use Rattle.rg_cycles.proofs.Labels.{in_set, not_in_set, where_order}
use Rattle.rg_places.specs.Steps.{labels_in, value_by, IsPlaced, AreFreeColumns, column_share, share_fold, used_effect_fold}
use Rattle.rg_places.specs.declared.columns.Column.{Column}
use Rattle.rg_places.proofs.FoldSteps.{map_at, all_made, joined_same}
use Rattle.rg_places.proofs.ColumnLists.{value_here, value_past}

-- ---- the value of a column's label

value_in_order : (columns : List Column) → IsInOrder (labels_in columns) → (i : ℕ) (c : Column) → i < length columns → c ≡ slice_index_or columns i c → value_by columns c.label ≡ ratio_of c.value
value_in_order [] order i c lt at = absurd (omega arith)
value_in_order (x ∷ rest) order zero c lt at = value_here x rest c.label (sym (ap (λ (y : Column). y.label) at)) ∙ sym (ap (λ (y : Column). ratio_of y.value) at)
value_in_order (x ∷ rest) order (suc i) c lt at = value_past x rest c.label differs ∙ value_in_order rest order.1 i c (omega arith) at
  where
    above : x.label < c.label
    above = order.0 c.label (i, subst (λ n. i < n) (sym (length-map rest (λ y. y.label))) (omega arith), sym (map_at (λ (y : Column). y.label) rest i c at))

    differs : x.label ≢ c.label
    differs e = let k = above in omega arith

pub column_value : (lts : System) (basis : CycleBasis) (columns : List Column) → labels_in columns ≡ free_columns lts basis → (i : ℕ) (c : Column)
    → i < length columns → c ≡ slice_index_or columns i c → value_by columns c.label ≡ ratio_of c.value
column_value lts basis columns are i c lt at = value_in_order columns (subst IsInOrder (sym are) (where_order _ 0 (labels lts))) i c lt at

-- ---- a label that isn't free

module _ (lts : System) (basis : CycleBasis) (columns : List Column) (t : ℕ) (relation : Relation) (are : AreFreeColumns lts basis columns) (shows : ShowsRelation (labels lts) basis t relation) where
  number_is : (c : Column) → IsPlaced (free_labels (labels lts) basis) c → number_at relation.free.items c.index ≡ (basis.relation t).coefficient c.label
  number_is c placed = ap (λ l. number_at l c.index) shows.free
      ∙ get_or-map (basis.relation t).coefficient (free_labels (labels lts) basis) c.index 0 (pos 0) placed.within ∙ ap (basis.relation t).coefficient placed.label_is

  share_is : (i : ℕ) (c : Column) → i < length columns → c ≡ slice_index_or columns i c → (r : Result Ratio Wide) → column_share relation c r → share_fold basis (value_by columns) t c.label r
  share_is i c lt at r h =
      subst (λ v. and_then (quotient ((basis.relation t).coefficient c.label) (basis.relation t).d) (λ k. mul v k) r) (sym (column_value lts basis columns are.labels_are i c lt at))
      (subst (λ z. and_then (quotient z (basis.relation t).d) (λ k. mul (ratio_of c.value) k) r) (number_is c (subst (IsPlaced (free_labels (labels lts) basis)) (sym at) (are.placed i c lt)))
      (subst (λ z. and_then (quotient (number_at relation.free.items c.index) z) (λ k. mul (ratio_of c.value) k) r) shows.d h))

  pub dependent_made : ¬ Contains basis.members t → (r : Result Ratio Wide) → joined add (column_share relation) (whole (pos 0)) columns r → used_effect_fold lts basis (value_by columns) t r
  dependent_made lacks r h = subst (λ b. either b (gives (value_by columns t))
      (joined add (share_fold basis (value_by columns) t) (whole (pos 0)) (free_columns lts basis)) r) (sym (not_in_set basis.members t lacks))
      (subst (λ l. joined add (share_fold basis (value_by columns) t) (whole (pos 0)) l r) are.labels_are
      (joined_same add (column_share relation) (share_fold basis (value_by columns) t) (λ c. c.label) (whole (pos 0)) columns
      (all_made add (column_share relation) (share_fold basis (value_by columns) t) (λ c. c.label) columns share_is) r h))

  pub indices_within : All (λ c. c.index < length relation.free.items) columns
  indices_within k d lt = subst (λ n. (slice_index_or columns k d).index < n)
      (sym (ap length shows.free ∙ length-map (free_labels (labels lts) basis) (basis.relation t).coefficient)) (are.placed k d lt).within

pub free_made : (lts : System) (basis : CycleBasis) (value : ℕ → Ratio) (t : ℕ) (f : Ratio) → Contains basis.members t → f ≡ value t → used_effect_fold lts basis value t (Ok f)
free_made lts basis value t f has is = subst
    (λ b. either b (gives (value t)) (joined add (share_fold basis value t) (whole (pos 0)) (free_columns lts basis)) (Ok f)) (sym (in_set basis.members t has)) is

-- ---- all labels

pub unused_made : (lts : System) (basis : CycleBasis) (value : ℕ → Ratio) (t : ℕ) (f : Ratio) → has_label t lts.arcs ≡ false → f ≡ whole (pos 0) → effect_fold lts basis value t (Ok f)
unused_made lts basis value t f none is = subst (λ b. either (not b) (gives (whole (pos 0))) (used_effect_fold lts basis value t) (Ok f)) (sym none) is

pub used_made : (lts : System) (basis : CycleBasis) (value : ℕ → Ratio) (t : ℕ) (r : Result Ratio Wide) → has_label t lts.arcs ≡ true
    → used_effect_fold lts basis value t r → effect_fold lts basis value t r
used_made lts basis value t r used h = subst (λ b. either (not b) (gives (whole (pos 0))) (used_effect_fold lts basis value t) r) (sym used) h
