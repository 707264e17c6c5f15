-- A step of the walk over rows without constants.
use Rattle.std.proofs.Common.{◌≡◌, ◌≢◌, ◌⊎◌, ⊎_elim, ℕ, ◌+◌, ◌<◌, ◌≤◌, List, [], ◌∷◌, ◌++◌, length, get_or, Contains, ap, refl, subst, sym, ◌∙◌, inl, inr, arith}
use Rattle.std.specs.Prelude.{ℤ, pos, slice_index}
use Rattle.std.specs.List.{remove}
use Rattle.std.specs.List.Sorted.{IsStrictlyIncreasing}
use Rattle.std.proofs.lemmas.List.{get_or_default}
use Rattle.rg_integers.proofs.Order.{is_zero_or_not}
use Rattle.rg_linear.specs.System.{LinearSystem, variables, row_variable}
use Rattle.rg_linear.specs.Table.{number_beside, ShowsRow, row_at}
use Rattle.rg_linear.specs.Dictionary.{Relation}
use Rattle.rg_linear.specs.Exchange.{put_in, without, exchanged, IsReduced}
use Rattle.rg_linear.specs.Table.{numbers_of}
use Rattle.rg_linear.specs.Cycle.{IsSkipped, Picks}
use Rattle.rg_linear.proofs.Columns.{past_test}
use Rattle.rg_linear.proofs.Members.{Contains-here, Contains-there, Contains-cons_cases, Contains-nil, is_member, without-Contains, order_from_increasing, IsInOrder}
use Rattle.rg_linear.proofs.MemberIndices.{member_at, gone}
use Rattle.rg_revised.specs.Basis.{IsRelationOf, row_over}
use Rattle.rg_revised.specs.Held.{AreDistinct, relation_of, column_relation}
use Rattle.rg_revised.specs.Reading.{IsRead}
use Rattle.rg_revised.specs.View.{BasisState}
use Rattle.rg_revised.specs.State.{IsSmallHeld, IsExchangeOf, HasRoom, IsRow}
use Rattle.rg_revised.specs.Walk.{NamesColumn}
use Rattle.rg_revised.proofs.Relations.{multiple_row, row_skipped, row_picks}
use Rattle.rg_revised.proofs.RowRelations.{row_follows}
use Rattle.rg_linear.proofs.TableLemmas.{beside_none}
use Rattle.rg_revised.proofs.Slots.{beside_at}
use Rattle.rg_revised.proofs.Stepping.{relation}

-- ---- the members

pub put_last : (i : ℕ) (xs : List ℕ) → ((m : ℕ) → Contains xs m → m < i) → put_in i xs ≡ xs ++ i ∷ []
put_last i [] below = refl
put_last i (x ∷ xs) below = rw (past_test i x (at (below x (Contains-here x xs)))) (ap (λ ys. x ∷ ys) (put_last i xs (λ m has. below m (Contains-there x m xs has))))
  where
    at : x < i → x ≤ i
    at h = omega arith

pub replaced : (xs : List ℕ) (p i j : ℕ) → IsStrictlyIncreasing xs → p < length xs → get_or xs p 0 ≡ j → ((m : ℕ) → Contains xs m → m < i) → remove xs p ++ i ∷ [] ≡ exchanged xs i j
replaced xs p i j ordered lt at below = ap (λ ys. ys ++ i ∷ []) (sym without_is) ∙ sym (put_last i (without j xs) (λ m has. below m (without-Contains j m xs has).0))
  where
    without_is : without j xs ≡ remove xs p
    without_is = ap (λ n. without n xs) (sym at) ∙ gone xs p ordered lt

-- where a member is a column, the first one is
pub first_column : (xs : List ℕ) (n : ℕ) → IsStrictlyIncreasing xs → (m : ℕ) × Contains xs m × (m < n) → (0 < length xs) × (get_or xs 0 0 < n)
first_column xs n ordered (m, has, lt) = go xs (order_from_increasing xs ordered) has
  where
    go : (ys : List ℕ) → IsInOrder ys → Contains ys m → (0 < length ys) × (get_or ys 0 0 < n)
    go [] order h = absurd (Contains-nil m h)
    go (y ∷ ys) order h = (omega arith, ⊎_elim (λ e. first e) (λ rest. later (order.0 m rest)) (Contains-cons_cases y m ys h))
      where
        first : y ≡ m → y < n
        first e = omega arith

        later : y < m → y < n
        later less = omega arith

pub some_column : (xs : List ℕ) (n : ℕ) → 0 < length xs → get_or xs 0 0 < n → (m : ℕ) × Contains xs m × (m < n)
some_column xs n some lt = (get_or xs 0 0, member_at xs 0 some, lt)

-- ---- the step

module _ (system : LinearSystem) (members : List ℕ) (b : BasisState) (most : ℕ) (small : IsSmallHeld system members b most) (room : HasRoom system most) (i : ℕ) (coeffs : List ℤ)
    (row : IsRow system i coeffs (pos 0)) (ahead : (m : ℕ) → Contains members m → m < length b.slots + i) where
  moved : row_variable system i ≡ length b.slots + i
  moved = ap (λ n. n + i) (sym small.held.count)

  outside : ¬ Contains members (row_variable system i)
  outside has = let h = ahead (row_variable system i) has in let e = moved in omega arith

  -- where no member is a column, the relation names none
  pub none_left : ¬ ((m : ℕ) × Contains members m × (m < length b.slots)) → IsSkipped system members i
  none_left none =
      let follows = row_follows system members b.d (column_relation b) small.held.basis i row.inside in
      row_skipped system members i (row_over system b.d (column_relation b) i) small.held.basis.free row.inside outside follows
      (λ t less. follows.over t (λ has. none (t, has, subst (λ n. t < n) (sym small.held.count) less)))

  module _ (numbers : List ℤ) (read : IsRead (length b.slots + 1) coeffs (pos 0) b.table b.d numbers) where
    is_relation : IsRelationOf system members (row_variable system i) (relation_of b.slots b.d numbers)
    is_relation = relation system members b most small i coeffs (pos 0) row numbers read

    -- a column that the numbers name stands at a slot
    column_slot : (t : ℕ) → t < length b.slots → number_beside b.slots numbers t ≢ pos 0 → (q : ℕ) × NamesColumn (length b.slots) b.slots numbers q × (get_or b.slots q 0 ≡ t)
    column_slot t less named = at (is_member b.slots t)
      where
        at : Contains b.slots t ⊎ ¬ Contains b.slots t → (q : ℕ) × NamesColumn (length b.slots) b.slots numbers q × (get_or b.slots q 0 ≡ t)
        at (inl (q, inside, e)) = (
          q,
          record {
            within = inside;
            column = subst (λ n. n < length b.slots) (sym is) less;
            named = λ z. named (ap (number_beside b.slots numbers) (sym is) ∙ beside_at b.slots numbers q small.held.distinct inside (let w = read.same_length in omega arith) ∙ z);
          },
          is,
        )
          where
            is : get_or b.slots q 0 ≡ t
            is = get_or_default b.slots q 0 t inside ∙ e
        at (inr lacks) = absurd (named (beside_none b.slots numbers t lacks))

    pub walk_skipped : ((q : ℕ) → ¬ NamesColumn (length b.slots) b.slots numbers q) → IsSkipped system members i
    walk_skipped none = row_skipped system members i (relation_of b.slots b.d numbers) small.held.basis.free row.inside outside is_relation
        (λ t less. ⊎_elim (λ z. z) (λ ne. (let (q, is, e) = column_slot t (subst (λ n. t < n) (sym small.held.count) less) ne in absurd (none q is)))
        (is_zero_or_not (number_beside b.slots numbers t)))

    module _ (p : ℕ) (is : NamesColumn (length b.slots) b.slots numbers p) where
      pub walk_picks : ((q : ℕ) → NamesColumn (length b.slots) b.slots numbers q → slice_index b.slots p ≤ slice_index b.slots q) → Picks system members i (get_or b.slots p 0)
      walk_picks least = row_picks system members i (relation_of b.slots b.d numbers) small.held.basis.free row.inside outside is_relation (get_or b.slots p 0)
          (subst (λ n. get_or b.slots p 0 < n) small.held.count is.column)
          (λ z. is.named (sym (beside_at b.slots numbers p small.held.distinct is.within (let w = read.same_length in omega arith)) ∙ z))
          (λ t less. ⊎_elim (λ z. z) (λ ne. (let (q, named, e) = column_slot t (before t less is.column) ne in let le = least q named in absurd (late q t e le less)))
          (is_zero_or_not (number_beside b.slots numbers t)))
        where
          late : (q t : ℕ) → get_or b.slots q 0 ≡ t → get_or b.slots p 0 ≤ get_or b.slots q 0 → t < get_or b.slots p 0 → ⊥
          late q t e le less = omega arith

          before : (t : ℕ) → t < get_or b.slots p 0 → get_or b.slots p 0 < length b.slots → t < length b.slots
          before t h g = omega arith

      pub leaves_member : Contains members (get_or b.slots p 0)
      leaves_member = (small.held.same (get_or b.slots p 0)).1 (member_at b.slots p is.within)

      pub walk_exchanges : (after : BasisState) → IsExchangeOf b numbers p (length b.slots + i) most after
          → IsSmallHeld system (exchanged members (row_variable system i) (get_or b.slots p 0)) after most
      walk_exchanges after h = subst (λ v. IsSmallHeld system (exchanged members v (get_or b.slots p 0)) after most) (sym moved)
          (h system members small (subst (λ v. v < variables system) moved (let lt = row.inside in omega arith)) (subst (λ v. ¬ Contains members v) moved outside)
          (subst (λ v. IsRelationOf system members v (relation_of b.slots b.d numbers)) moved is_relation))

      pub members_exchanged : (members' : List ℕ) → members' ≡ exchanged members (length b.slots + i) (get_or b.slots p 0) → members' ≡ exchanged members (row_variable system i) (get_or b.slots p 0)
      members_exchanged members' e = e ∙ ap (λ v. exchanged members v (get_or b.slots p 0)) (sym moved)

-- ---- the primitive relation of a column

pub column_shown : (system : LinearSystem) (members : List ℕ) (b : BasisState) (most t : ℕ) (numbers : List ℤ) → IsSmallHeld system members b most
    → t < length b.slots → ¬ Contains members t
    → ((k : Relation) → AreDistinct b.slots → IsReduced (relation_of b.slots b.d (row_at (length b.slots + 1) b.table t)) k → numbers ≡ numbers_of members k) → ShowsRow system members t numbers
column_shown system members b most t numbers small lt lacks shown =
    let below : t < system.columns = subst (λ n. t < n) small.held.count lt in
    let (l, row, reduced) = multiple_row system members t (column_relation b t) small.held.basis.free (more t below) lacks (small.held.basis.columns t below) in
    record { k = l; row = row; shown = shown l small.held.distinct reduced }
  where
    more : (t : ℕ) → t < system.columns → t < variables system
    more t h = omega arith
