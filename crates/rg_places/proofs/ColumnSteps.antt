-- Columns, free label by free label.
use Rattle.std.proofs.Common.{◌≡◌, ℕ, zero, suc, ◌+◌, ◌<◌, ◌≤◌, ◌&&◌, Bool, true, false, cond, if◌then◌else◌, List, [], ◌∷◌, ◌++◌, length, map, filter, take, drop, All, slice_index_or, ap, refl, sym, ◌∙◌, arith, append_assoc}
use Rattle.std.specs.Prelude.{slice_index}
use Rattle.std.proofs.lemmas.List.{append-nil, drop_all, map-append, length-map, length-append, take_more, take_all, get_or_default}
use Rattle.std.proofs.lemmas.List.Elements.{All-append}
use Rattle.rg_theory.specs.System.{System, labels}
use Rattle.rg_fraction.specs.declared.fraction.Fraction.{Fraction}
use Rattle.rg_linear.specs.Cycle.{CycleBasis}
use Rattle.rg_folds.specs.Substitution.{is_in, numbers_where, free_labels}
use Rattle.rg_case_folds.specs.Rewriting.{has_label, free_columns}
use Rattle.rg_places.specs.Steps.{labels_in, IsPlaced, AreFreeColumns}
use Rattle.rg_places.specs.declared.columns.Column.{Column}
use Rattle.rg_places.proofs.FoldSteps.{left_at}

-- the numbers that pass both tests are those of the first that pass the second
where_filtered : (p q : ℕ → Bool) (a n : ℕ) → numbers_where (λ t. p t && q t) a n ≡ filter q (numbers_where p a n)
where_filtered p q a zero = refl
where_filtered p q a (suc n) = go (p a) (q a) refl (where_filtered p q (suc a) n)
  where
    go : (x y : Bool) → q a ≡ y → numbers_where (λ t. p t && q t) (suc a) n ≡ filter q (numbers_where p (suc a) n)
        → (if x && y then (a ∷ numbers_where (λ t. p t && q t) (suc a) n) else numbers_where (λ t. p t && q t) (suc a) n) ≡ filter q
        (if x then (a ∷ numbers_where p (suc a) n) else numbers_where p (suc a) n)
    go true true is e = ap (λ l. a ∷ l) e ∙ sym (ap (λ b. cond b (a ∷ filter q (numbers_where p (suc a) n)) (filter q (numbers_where p (suc a) n))) is)
    go true false is e = e ∙ sym (ap (λ b. cond b (a ∷ filter q (numbers_where p (suc a) n)) (filter q (numbers_where p (suc a) n))) is)
    go false y is e = e

-- the columns are the free labels with an arc
pub columns_are : (lts : System) (basis : CycleBasis) → free_columns lts basis ≡ filter (λ t. has_label t lts.arcs) (free_labels (labels lts) basis)
columns_are lts basis = where_filtered (λ t. is_in basis.members t) (λ t. has_label t lts.arcs) 0 (labels lts)

-- the columns of the free labels before this index
pub record ColumnsSoFar (lts : System) (basis : CycleBasis) (values : List Fraction) (index : ℕ) (columns : List Column) : Type 0 where
  pub labels_are : labels_in columns ++ filter (λ t. has_label t lts.arcs) (drop index (free_labels (labels lts) basis)) ≡ free_columns lts basis
  pub placed : All (IsPlaced (free_labels (labels lts) basis)) columns
  pub values_are : map (λ c. c.value) columns ≡ take (length columns) values

pub columns_start : (lts : System) (basis : CycleBasis) (values : List Fraction) → ColumnsSoFar lts basis values 0 []
columns_start lts basis values = record { labels_are = sym (columns_are lts basis); placed = λ k d lt. absurd (omega arith); values_are = refl }

module _ (lts : System) (basis : CycleBasis) (values : List Fraction) (index : ℕ) (columns : List Column)
    (so_far : ColumnsSoFar lts basis values index columns) (one_each : length values ≡ length (free_columns lts basis)) where
  pub columns_end : length (free_labels (labels lts) basis) ≤ index → AreFreeColumns lts basis columns
  columns_end past = record { labels_are = all_labels; placed = so_far.placed }
    where
      all_labels : labels_in columns ≡ free_columns lts basis
      all_labels = sym (append-nil (labels_in columns))
          ∙ ap (λ l. labels_in columns ++ filter (λ t. has_label t lts.arcs) l) (sym (drop_all index (free_labels (labels lts) basis) past)) ∙ so_far.labels_are

  pub values_end : length (free_labels (labels lts) basis) ≤ index → map (λ c. c.value) columns ≡ values
  values_end past = so_far.values_are ∙ take_all (length columns) values
      (let a = ap length (columns_end past).labels_are in let b = length-map columns (λ c. c.label) in let e = one_each in omega arith)

  module _ (label : ℕ) (within : index < length (free_labels (labels lts) basis)) (is : slice_index (free_labels (labels lts) basis) index ≡ label) where
    from_here : drop index (free_labels (labels lts) basis) ≡ label ∷ drop (index + 1) (free_labels (labels lts) basis)
    from_here = left_at (free_labels (labels lts) basis) index label within (sym is ∙ get_or_default (free_labels (labels lts) basis) index 0 label within)

    by_test : filter (λ t. has_label t lts.arcs) (drop index (free_labels (labels lts) basis)) ≡ cond (has_label label lts.arcs)
        (label ∷ filter (λ t. has_label t lts.arcs) (drop (index + 1) (free_labels (labels lts) basis)))
        (filter (λ t. has_label t lts.arcs) (drop (index + 1) (free_labels (labels lts) basis)))
    by_test = ap (filter (λ t. has_label t lts.arcs)) from_here

    pub columns_passed : has_label label lts.arcs ≡ false → ColumnsSoFar lts basis values (index + 1) columns
    columns_passed none = record {
      labels_are = ap (λ l. labels_in columns ++ l)
          (sym (by_test ∙ ap (λ b. cond b (label ∷ filter (λ t. has_label t lts.arcs) (drop (index + 1) (free_labels (labels lts) basis)))
          (filter (λ t. has_label t lts.arcs) (drop (index + 1) (free_labels (labels lts) basis)))) none)) ∙ so_far.labels_are;
      placed = so_far.placed;
      values_are = so_far.values_are;
    }

    module _ (used : has_label label lts.arcs ≡ true) where
      taken_here : filter (λ t. has_label t lts.arcs) (drop index (free_labels (labels lts) basis)) ≡ label ∷ filter (λ t. has_label t lts.arcs) (drop (index + 1) (free_labels (labels lts) basis))
      taken_here = by_test ∙ ap (λ b. cond b (label ∷ filter (λ t. has_label t lts.arcs) (drop (index + 1) (free_labels (labels lts) basis)))
          (filter (λ t. has_label t lts.arcs) (drop (index + 1) (free_labels (labels lts) basis)))) used

      pub value_within : length columns < length values
      value_within =
          let a = ap length so_far.labels_are in
          let b = length-append (labels_in columns) (filter (λ t. has_label t lts.arcs) (drop index (free_labels (labels lts) basis))) in
          let c = length-map columns (λ c. c.label) in
          let d = ap length taken_here in
          let e = one_each in
          omega arith

      pub columns_taken : (value : Fraction) → value ≡ slice_index_or values (length columns) value
          → ColumnsSoFar lts basis values (index + 1) (columns ++ record { label = label; index = index; value = value } ∷ [])
      columns_taken value at = record {
        labels_are = ap (λ l. l ++ filter (λ t. has_label t lts.arcs) (drop (index + 1) (free_labels (labels lts) basis)))
            (map-append (λ c. c.label) columns (record { label = label; index = index; value = value } ∷ []))
            ∙ append_assoc (labels_in columns) (label ∷ []) (filter (λ t. has_label t lts.arcs) (drop (index + 1) (free_labels (labels lts) basis)))
            ∙ ap (λ l. labels_in columns ++ l) (sym taken_here) ∙ so_far.labels_are;
        placed = All-append (IsPlaced (free_labels (labels lts) basis)) columns (record { label = label; index = index; value = value } ∷ []) so_far.placed one;
        values_are = map-append (λ c. c.value) columns (record { label = label; index = index; value = value } ∷ []) ∙ ap (λ l. l ++ value ∷ []) so_far.values_are ∙ more;
      }
        where
          one : All (IsPlaced (free_labels (labels lts) basis)) (record { label = label; index = index; value = value } ∷ [])
          one zero d lt = record { within = within; label_is = is }
          one (suc k) d lt = absurd (omega arith)

          more : take (length columns) values ++ value ∷ [] ≡ take (length (columns ++ record { label = label; index = index; value = value } ∷ [])) values
          more = ap (λ v. take (length columns) values ++ v ∷ []) at ∙ sym (take_more values (length columns) value value_within)
              ∙ ap (λ n. take n values) (sym (length-append columns (record { label = label; index = index; value = value } ∷ [])))
