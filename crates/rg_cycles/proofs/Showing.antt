-- The relations that are read are those of the system.
use Rattle.std.proofs.Common.{true≢false}
use Rattle.std.proofs.lemmas.Bool.{false≢true}
use Rattle.std.proofs.lemmas.List.Elements.{Contains-get_or}
use Rattle.std.proofs.lemmas.List.{get_or_default}
use Rattle.std.proofs.Common.{◌≡◌, ◌≢◌, ◌⊎◌, ⊎_elim, ℕ, zero, suc, ◌+◌, ◌-◌, ◌<◌, ◌≤◌, Bool, true, false, cond, nat_lt, not, ◌&&◌, ◌==◌, if◌then◌else◌, List, [], ◌∷◌}
use Rattle.std.proofs.Common.{map, filter, length, slice_index_or, Contains, Option, None, Some, is_some, ap, ap₂, refl, subst, sym, ◌∙◌, inl, inr, arith, eqb-true}
use Rattle.std.proofs.Common.{eq-eqb}
use Rattle.std.specs.Prelude.{ℤ, pos, slice_get, slice_index, ◌<ℤ◌}
use Rattle.std.specs.Ordering.{int_eq}
use Rattle.std.proofs.lemmas.List.{length-map, get_or_past}
use Rattle.std.proofs.lemmas.Bool.{cases_lt}
use Rattle.std.proofs.lemmas.Bool.Decides.{Decides-int_eq}
use Rattle.std.proofs.lemmas.Option.{slice_get_past, slice_get-get_or}
use Rattle.rg_integers.specs.Range.{InRange}
use Rattle.rg_integers.specs.Sum.{number_at}
use Rattle.rg_linear.specs.System.{LinearRow}
use Rattle.rg_linear.specs.Dictionary.{Relation as LinearRelation, DictionaryRow, numbers_from}
use Rattle.rg_linear.specs.Table.{ShowsRow}
use Rattle.rg_linear.specs.Firsts.{KeepsEqualRows}
use Rattle.rg_linear.specs.Cycle.{IsHomogeneous, vector_at, IsZeroVector, KeepsVectors, vector_system, CycleBasis, IsCycleBasis, no_relation}
use Rattle.rg_linear.proofs.Members.{Contains-here, Contains-there, Contains-cons_cases, Contains-nil, IsInOrder, order_from_increasing, equal_or_not, numbers_from-Contains}
use Rattle.rg_linear.proofs.Firsts.{kept_is}
use Rattle.rg_linear.proofs.Columns.{below_test, past_test}
use Rattle.rg_linear.proofs.Cycles.{no_constant}
use Rattle.rg_linear.specs.Table.{number_beside}
use Rattle.rg_linear.proofs.TableLemmas.{beside_map}
use Rattle.rg_folds.specs.Substitution.{is_in, free_labels}
use Rattle.rg_cycles.specs.declared.relation.Relation.{Relation}
use Rattle.rg_cycles.specs.Basis.{vector_numbers, ShowsRelation, IsRelationInRange, number_with, row_number, relation_of, cycle_basis, AreRelations}
use Rattle.rg_cycles.specs.Reading.{HasNumbers, IsRead, AreRead}
use Rattle.rg_cycles.specs.declared.relations.Relations.{Relations}
use Rattle.rg_cycles.specs.Relating.{IsSolved, columns_of, members_of}
use Rattle.rg_feasible.proofs.RowTerms.{shown_number}
use Rattle.rg_cycles.proofs.Related.{relations_free}
use Rattle.rg_cycles.proofs.Labels.{in_set, not_in_set, filter_has, filter_from, free_members}

-- ---- the kept indices

-- they are in order, and each is the index of a vector
pub kept_order : (key : ℕ → List ℤ) (Drops : ℕ → Type 0) (seen : List (List ℤ)) (a n : ℕ) (kept : List ℕ) → KeepsEqualRows key Drops seen (numbers_from a n) kept → IsInOrder kept
kept_order key Drops seen a zero kept is = subst IsInOrder (sym is) tt
kept_order key Drops seen a (suc n) kept (inl (gone, k)) = kept_order key Drops seen (suc a) n kept k
kept_order key Drops seen a (suc n) kept (inr (stays, fresh, (rest, is, k))) =
    subst IsInOrder (sym is) (
      (λ m has. (numbers_from-Contains (suc a) n m (kept_is key Drops (key a ∷ seen) (numbers_from (suc a) n) rest m k has)).0),
      kept_order key Drops
          (key a ∷ seen) (suc a) n rest k,
    )

pub kept_below : (vectors : List (List ℤ)) (kept : List ℕ) → KeepsVectors vectors kept → (c : ℕ) → Contains kept c → c < length vectors
kept_below vectors kept k c has = let h = numbers_from-Contains 0 (length vectors) c
    (kept_is (vector_at vectors) (λ i. IsZeroVector (vector_at vectors i)) [] (numbers_from 0 (length vectors)) kept c k has) in omega arith

-- two indices of a list in order with the same number are one
pub same_index : (xs : List ℕ) (i j : ℕ) → IsInOrder xs → i < length xs → j < length xs → slice_index xs i ≡ slice_index xs j → i ≡ j
same_index [] i j h lt lt' e = absurd (omega arith)
same_index (x ∷ xs) zero zero h lt lt' e = refl
same_index (x ∷ xs) zero (suc j) h lt lt' e = absurd (let g = h.0 (slice_index xs j) (Contains-get_or xs j 0 (omega arith)) in below x (slice_index xs j) e g)
  where
    below : (a b : ℕ) → a ≡ b → a < b → ⊥
    below a b e g = omega arith
same_index (x ∷ xs) (suc i) zero h lt lt' e = absurd (let g = h.0 (slice_index xs i) (Contains-get_or xs i 0 (omega arith)) in below x (slice_index xs i) e g)
  where
    below : (a b : ℕ) → b ≡ a → a < b → ⊥
    below a b e g = omega arith
same_index (x ∷ xs) (suc i) (suc j) h lt lt' e = ap suc (same_index xs i j h.1 (omega arith) (omega arith) e)

-- ---- coefficients from the numbers

-- the number of a row among the pairs is its coefficient
module _ (f : ℕ → ℤ) (labels : ℕ) (kept : List ℕ) (order : IsInOrder kept) (m : ℕ) (past : labels ≤ m) (lt : m - labels < length kept) where
  test : ℕ → Bool
  test w = not (nat_lt w labels) && not (int_eq (f w) (pos 0))

  -- a member that is not listed is a label or has the coefficient 0
  unlisted : (w : ℕ) → (not (nat_lt w labels) && not (int_eq (f w) (pos 0))) ≡ false → w ≡ m → f m ≡ pos 0
  unlisted w e is = go (int_eq (f w) (pos 0)) refl (rw (past_test w labels (omega arith)) at e)
    where
      go : (b : Bool) → int_eq (f w) (pos 0) ≡ b → not b ≡ false → f m ≡ pos 0
      go true p q = ap f (sym is) ∙ (Decides-int_eq (f w) (pos 0)).0 p
      go false p q = absurd (true≢false q)

  listed_past : (w : ℕ) → (not (nat_lt w labels) && not (int_eq (f w) (pos 0))) ≡ true → labels ≤ w
  listed_past w e = ⊎_elim (λ less. absurd (false≢true (rw (below_test w labels less) at e))) (λ more. more) (cases_lt w labels)

  pub with_is : (ms : List ℕ) → ((w : ℕ) → Contains ms w → labels ≤ w → w - labels < length kept) → (¬ Contains ms m → f m ≡ pos 0)
      → number_with (map (λ w. (slice_index kept (w - labels), f w)) (filter (λ w. not (nat_lt w labels) && not (int_eq (f w) (pos 0))) ms)) (slice_index kept (m - labels)) ≡ f m
  with_is [] within none = sym (none (λ has. Contains-nil m has))
  with_is (w ∷ ms) within none = go (not (nat_lt w labels) && not (int_eq (f w) (pos 0))) refl (λ h. with_is ms (λ u has. within u (Contains-there w u ms has)) h)
    where
      rest : List (ℕ × ℤ)
      rest = map (λ u. (slice_index kept (u - labels), f u)) (filter (λ u. not (nat_lt u labels) && not (int_eq (f u) (pos 0))) ms)

      -- m is not w, so the others tell
      others : w ≢ m → ¬ Contains ms m → f m ≡ pos 0
      others ne lacks = none (λ has. ⊎_elim ne lacks (Contains-cons_cases w m ms has))

      at : labels ≤ w → (b : Bool) → (slice_index kept (w - labels) == slice_index kept (m - labels)) ≡ b
          → ((¬ Contains ms m → f m ≡ pos 0) → number_with
          (map (λ u. (slice_index kept (u - labels), f u)) (filter (λ u. not (nat_lt u labels) && not (int_eq (f u) (pos 0))) ms)) (slice_index kept (m - labels)) ≡ f m)
          → (if b then f w else number_with (map (λ u. (slice_index kept (u - labels), f u))
          (filter (λ u. not (nat_lt u labels) && not (int_eq (f u) (pos 0))) ms)) (slice_index kept (m - labels))) ≡ f m
      at above true e next = ap f (back (same_index kept (w - labels) (m - labels) order (within w (Contains-here w ms) above) lt (eqb-true _ _ e)))
        where
          back : w - labels ≡ m - labels → w ≡ m
          back p = omega arith
      at above false e next = next (others (λ same. false≢true (sym e ∙ (eq-eqb _ _ (ap (λ u. slice_index kept (u - labels)) same)))))

      go : (b : Bool) → (not (nat_lt w labels) && not (int_eq (f w) (pos 0))) ≡ b
          → ((¬ Contains ms m → f m ≡ pos 0) → number_with
          (map (λ u. (slice_index kept (u - labels), f u)) (filter (λ u. not (nat_lt u labels) && not (int_eq (f u) (pos 0))) ms)) (slice_index kept (m - labels)) ≡ f m)
          → number_with (map (λ u. (slice_index kept (u - labels), f u))
          (cond b (w ∷ filter (λ u. not (nat_lt u labels) && not (int_eq (f u) (pos 0))) ms)
          (filter (λ u. not (nat_lt u labels) && not (int_eq (f u) (pos 0))) ms))) (slice_index kept (m - labels)) ≡ f m
      go true e next = at (listed_past w e) (slice_index kept (w - labels) == slice_index kept (m - labels)) refl next
      go false e next = ⊎_elim (λ same. next (λ lacks. unlisted w e same)) (λ ne. next (others ne)) (equal_or_not w m)

-- ---- the relation of a label

rows_plain : (vectors : List (List ℤ)) (kept : List ℕ) (i : ℕ)
    → (slice_index_or {A = LinearRow} (map (λ c. record { coeffs = vector_at vectors c; constant = pos 0 }) kept) i
    (record { coeffs = []; constant = pos 0 })).constant ≡ pos 0
rows_plain vectors [] i = refl
rows_plain vectors (c ∷ kept) zero = refl
rows_plain vectors (c ∷ kept) (suc i) = rows_plain vectors kept i

pub vectors_plain : (labels : ℕ) (vectors : List (List ℤ)) (kept : List ℕ) → IsHomogeneous (vector_system labels vectors kept)
vectors_plain labels vectors kept i lt = rows_plain vectors kept i

pub count_rows : (labels : ℕ) (vectors : List (List ℤ)) (kept : List ℕ) → length (vector_system labels vectors kept).rows ≡ length kept
count_rows labels vectors kept = length-map kept (λ c. record { coeffs = vector_at vectors c; constant = pos 0 })

-- a set that is free over the vectors, and the relation k of label t over it
module _ (labels : ℕ) (vectors : List (List ℤ)) (kept members : List ℕ) (order : IsInOrder kept) (t : ℕ) (k : LinearRelation)
    (row : DictionaryRow (vector_system labels vectors kept) members t k) where
  within : (w : ℕ) → Contains members w → labels ≤ w → w - labels < length kept
  within w has past = let h = row.free.within w has in let c = count_rows labels vectors kept in omega arith

  -- the coefficient of m, from the numbers
  coefficient_is : (free : List ℕ) (r : Relation) → free ≡ filter (λ m. nat_lt m labels) members → HasNumbers labels kept members k r → (m : ℕ)
      → (if nat_lt m labels then number_beside free r.free.items m else row_number r.chords.items (slice_get kept (m - labels))) ≡ k.coefficient m
  coefficient_is free r is has m = ⊎_elim label past (cases_lt m labels)
    where
      label : m < labels → (if nat_lt m labels then number_beside free r.free.items m else row_number r.chords.items (slice_get kept (m - labels))) ≡ k.coefficient m
      label lt = rw (below_test m labels lt) (ap₂ (λ xs zs. number_beside xs zs m) is has.free
          ∙ beside_map k.coefficient (filter (λ u. nat_lt u labels) members) m
          (λ lacks. row.over m (λ member. lacks (filter_has (λ u. nat_lt u labels) members m member (below_test m labels lt)))))

      no_row : length kept ≤ m - labels → labels ≤ m → pos 0 ≡ k.coefficient m
      no_row none above = sym (row.over m (λ member. (let h = within m member above in omega arith)))

      past : labels ≤ m → (if nat_lt m labels then number_beside free r.free.items m else row_number r.chords.items (slice_get kept (m - labels))) ≡ k.coefficient m
      past above = rw (past_test m labels above) (⊎_elim
          (λ lt. ap₂ row_number has.chords (slice_get-get_or kept (m - labels) 0 lt) ∙ with_is k.coefficient labels kept order m above lt members within (λ lacks. row.over m lacks))
          (λ none. ap (row_number r.chords.items) (slice_get_past kept (m - labels) none) ∙ no_row none above)
          (cases_lt (m - labels) (length kept)))

  pub relation_is : (free : List ℕ) (r : Relation) → free ≡ filter (λ m. nat_lt m labels) members → HasNumbers labels kept members k r → relation_of labels kept free (Some r) ≡ k
  relation_is free r is has = λ i. record {
    d = has.d i;
    constant = sym (no_constant (vector_system labels vectors kept) members t k (vectors_plain labels vectors kept) row) i;
    coefficient = λ m. coefficient_is free r is has m i;
  }

-- ---- all labels

abbrev read_cycle : ℕ → List ℕ → List ℕ → List ℕ → List (Option Relation) → CycleBasis
read_cycle labels kept members free relations = record { kept = kept; members = members; relation = λ t. relation_of labels kept free (slice_index_or relations t None) }

-- what stands for a label that is not a member
record Told (labels : ℕ) (vectors : List (List ℤ)) (kept members free : List ℕ) (t : ℕ) (r : Relation) : Type 0 where
  pub lacks : ¬ Contains members t
  pub k : LinearRelation
  pub row : DictionaryRow (vector_system labels vectors kept) members t k
  pub has : HasNumbers labels kept members k r
  pub is : relation_of labels kept free (Some r) ≡ k
  pub range : IsRelationInRange r

-- numbers of a row in range give numbers in range
map_in_range : (f : ℕ → ℤ) (xs : List ℕ) → ((m : ℕ) → Contains xs m → InRange (f m)) → (n : ℕ) → InRange (number_at (map f xs) n)
map_in_range f [] each n = omega arith
map_in_range f (x ∷ xs) each zero = each x (Contains-here x xs)
map_in_range f (x ∷ xs) each (suc n) = map_in_range f xs (λ m has. each m (Contains-there x m xs has)) n

pairs_in_range : (g : ℕ → ℕ) (f : ℕ → ℤ) (xs : List ℕ) → ((m : ℕ) → Contains xs m → InRange (f m)) → (n : ℕ) → InRange (slice_index_or {A = ℕ × ℤ} (map (λ m. (g m, f m)) xs) n (0, pos 0)).1
pairs_in_range g f [] each n = omega arith
pairs_in_range g f (x ∷ xs) each zero = each x (Contains-here x xs)
pairs_in_range g f (x ∷ xs) each (suc n) = pairs_in_range g f xs (λ m has. each m (Contains-there x m xs has)) n

module _ (vectors : List (List ℤ)) (kept : List ℕ) (d : Relations) (solved : IsSolved vectors kept d) (free : List ℕ) (listed : free ≡ filter (λ m. nat_lt m (columns_of d)) (members_of d)) where
  order : IsInOrder (members_of d)
  order = order_from_increasing (members_of d) (relations_free (vector_system (columns_of d) vectors kept) d solved.are).ordered

  kept_in_order : IsInOrder kept
  kept_in_order = kept_order (vector_at vectors) (λ i. IsZeroVector (vector_at vectors i)) [] 0 (length vectors) kept solved.keeps

  told : (t : ℕ) (r : Relation) → t < (columns_of d) → IsRead d kept t (Some r) → Told (columns_of d) vectors kept (members_of d) free t r
  told t r lt at_label = record {
    lacks = at_label.lacks;
    k = shows.k;
    row = shows.row;
    has = has;
    is = relation_is (columns_of d) vectors kept (members_of d) kept_in_order t shows.k shows.row free r listed has;
    range = record {
      positive = subst (λ z. pos 0 <ℤ z) (sym has.d) shows.row.positive;
      d = subst InRange (ap (λ l. number_at l 0) shows.shown ∙ sym has.d) (at_label.in_range 0);
      free = λ n. subst (λ l. InRange (number_at l n)) (sym has.free)
          (map_in_range shows.k.coefficient (filter (λ m. nat_lt m (columns_of d)) (members_of d))
          (λ m h. each m (filter_from (λ u. nat_lt u (columns_of d)) (members_of d) m h).0) n);
      chords = λ n. subst (λ l. InRange (slice_index_or {A = ℕ × ℤ} l n (0, pos 0)).1) (sym has.chords)
          (pairs_in_range (λ m. slice_index kept (m - (columns_of d))) shows.k.coefficient
          (filter (λ m. not (nat_lt m (columns_of d)) && not (int_eq (shows.k.coefficient m) (pos 0))) (members_of d))
          (λ m h. each m (filter_from (λ u. not (nat_lt u (columns_of d)) && not (int_eq (shows.k.coefficient u) (pos 0))) (members_of d) m h).0) n);
    };
  }
    where
      shows : ShowsRow (vector_system (columns_of d) vectors kept) (members_of d) t at_label.numbers
      shows = at_label.shows (vector_system (columns_of d) vectors kept) solved.are

      has : HasNumbers (columns_of d) kept (members_of d) shows.k r
      has = at_label.has shows.k shows.shown

      each : (m : ℕ) → Contains (members_of d) m → InRange (shows.k.coefficient m)
      each m (p, below, at) = subst InRange (shown_number (members_of d) shows.k at_label.numbers p shows.shown below
          ∙ ap shows.k.coefficient (get_or_default (members_of d) p 0 m below ∙ at)) (at_label.in_range (p + 2))

  module _ (relations : List (Option Relation)) (read : (t : ℕ) → t < (columns_of d) → IsRead d kept t (slice_index_or relations t None)) (size : length relations ≡ (columns_of d)) where
    inside : (t : ℕ) (r : Relation) → slice_index_or relations t None ≡ Some r → t < (columns_of d)
    inside t r e = ⊎_elim (λ lt. lt) (λ past. absurd (nothing (sym (get_or_past relations t None (omega arith)) ∙ e))) (cases_lt t (columns_of d))
      where
        nothing : None ≡ Some r → ⊥
        nothing p = cc

    at : (t : ℕ) (r : Relation) → slice_index_or relations t None ≡ Some r → Told (columns_of d) vectors kept (members_of d) free t r
    at t r e = told t r (inside t r e) (subst (IsRead d kept t) e (read t (inside t r e)))

    free_is : free ≡ free_labels (columns_of d) (read_cycle (columns_of d) kept (members_of d) free relations)
    free_is = listed ∙ free_members (members_of d) (columns_of d) order

    relation_at : (t : ℕ) (r : Relation) (e : slice_index_or relations t None ≡ Some r) → relation_of (columns_of d) kept free (slice_index_or relations t None) ≡ (at t r e).k
    relation_at t r e = ap (relation_of (columns_of d) kept free) e ∙ (at t r e).is

    shown : (t : ℕ) (r : Relation) → slice_index_or relations t None ≡ Some r → ShowsRelation (columns_of d) (read_cycle (columns_of d) kept (members_of d) free relations) t r
    shown t r e = record {
      d = (at t r e).has.d ∙ ap (λ k. k.d) (sym (relation_at t r e));
      free = (at t r e).has.free ∙ ap (map (at t r e).k.coefficient) (sym listed ∙ free_is)
          ∙ ap (λ (k : LinearRelation). map k.coefficient
          (free_labels (columns_of d) (read_cycle (columns_of d) kept (members_of d) free relations))) (sym (relation_at t r e));
      chords = (at t r e).has.chords ∙ ap (vector_numbers (columns_of d) kept (members_of d)) (sym (relation_at t r e));
    }

    dependent : (t : ℕ) → t < (columns_of d) → is_some (slice_index_or relations t None) ≡ not (is_in (members_of d) t)
    dependent t lt = go (slice_index_or relations t None) (read t lt)
      where
        go : (o : Option Relation) → IsRead d kept t o → is_some o ≡ not (is_in (members_of d) t)
        go None has = rw (in_set (members_of d) t has) refl
        go (Some r) has = rw (not_in_set (members_of d) t has.lacks) refl

    read_relations : AreRelations (columns_of d) (read_cycle (columns_of d) kept (members_of d) free relations) relations
    read_relations = record { dependent = dependent; shown = shown; in_range = λ t r e. (at t r e).range }

    is_basis : IsCycleBasis (columns_of d) vectors (read_cycle (columns_of d) kept (members_of d) free relations)
    is_basis = record {
      kept = solved.keeps;
      cycle = solved.walk;
      relations = λ t lt lacks. relation t lt lacks (slice_index_or relations t None) refl;
      others = λ t out. other t out (slice_index_or relations t None) refl;
    }
      where
        relation : (t : ℕ) → t < (columns_of d) → ¬ Contains (members_of d) t → (o : Option Relation) → slice_index_or relations t None ≡ o
            → DictionaryRow (vector_system (columns_of d) vectors kept) (members_of d) t (relation_of (columns_of d) kept free (slice_index_or relations t None))
        relation t lt lacks None e = absurd (lacks (subst (IsRead d kept t) e (read t lt)))
        relation t lt lacks (Some r) e = subst (DictionaryRow (vector_system (columns_of d) vectors kept) (members_of d) t) (sym (relation_at t r e)) (at t r e).row

        other : (t : ℕ) → ((columns_of d) ≤ t) ⊎ Contains (members_of d) t → (o : Option Relation) → slice_index_or relations t None ≡ o
            → relation_of (columns_of d) kept free (slice_index_or relations t None) ≡ no_relation
        other t out None e = ap (relation_of (columns_of d) kept free) e
        other t out (Some r) e = absurd (⊎_elim (λ past. (let lt = inside t r e in omega arith)) (at t r e).lacks out)

    -- over the number of relations in place of the number of columns
    pub read_free : free ≡ free_labels (length relations) (cycle_basis kept (members_of d) free relations)
    read_free = subst (λ n. free ≡ free_labels n (read_cycle n kept (members_of d) free relations)) (sym size) free_is

    pub read_are_relations : AreRelations (length relations) (cycle_basis kept (members_of d) free relations) relations
    read_are_relations = subst (λ n. AreRelations n (read_cycle n kept (members_of d) free relations) relations) (sym size) read_relations

    pub read_is_basis : IsCycleBasis (columns_of d) vectors (cycle_basis kept (members_of d) free relations)
    read_is_basis = subst (λ n. IsCycleBasis (columns_of d) vectors (read_cycle n kept (members_of d) free relations)) (sym size) is_basis

-- what is kept of a dictionary with which the walk has ended
pub record ReadWhole (labels : ℕ) (vectors : List (List ℤ)) (kept members free : List ℕ) (relations : List (Option Relation)) : Type 0 where
  pub listed : free ≡ free_labels (length relations) (cycle_basis kept members free relations)
  pub are : AreRelations (length relations) (cycle_basis kept members free relations) relations
  pub basis : IsCycleBasis labels vectors (cycle_basis kept members free relations)

pub read_whole : (vectors : List (List ℤ)) (kept : List ℕ) (d : Relations) (members free : List ℕ) (relations : List (Option Relation)) → IsSolved vectors kept d
    → members ≡ (members_of d) → free ≡ filter (λ m. nat_lt m (columns_of d)) members → AreRead d kept relations → ReadWhole (columns_of d) vectors kept members free relations
read_whole vectors kept d members free relations solved same listed read = subst (λ ms. ReadWhole (columns_of d) vectors kept ms free relations) (sym same) (record {
  listed = read_free vectors kept d solved free listed' relations read.each read.one_each;
  are = read_are_relations vectors kept d solved free listed' relations read.each read.one_each;
  basis = read_is_basis vectors kept d solved free listed' relations read.each read.one_each;
})
  where
    listed' : free ≡ filter (λ m. nat_lt m (columns_of d)) (members_of d)
    listed' = listed ∙ ap (filter (λ m. nat_lt m (columns_of d))) same
