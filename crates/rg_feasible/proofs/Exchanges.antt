-- From the rows of a table to the relations of a system.
use Rattle.std.proofs.Common.{◌≡◌, ◌≢◌, ◌⊎◌, ⊎_elim, ℕ, suc, ◌<◌, List, length, get_or, Contains, Some, ap, ap₂, subst, sym, ◌∙◌, inl, inr, arith}
use Rattle.std.proofs.Math.ListN.{set}
use Rattle.std.specs.Prelude.{ℤ, pos}
use Rattle.rg_integers.specs.Sum.{number_at}
use Rattle.rg_integers.proofs.Order.{is_zero_or_not}
use Rattle.rg_integers.specs.declared.term.Wide.{Wide}
use Rattle.rg_integers.specs.Term.{FitsTerm}
use Rattle.rg_linear.specs.System.{LinearSystem, variables}
use Rattle.rg_linear.specs.Dictionary.{Relation, IsFree, DictionaryRow}
use Rattle.rg_linear.specs.Exchange.{without, exchanged, IsTerm, AllFit, FirstWide, renewed, turned}
use Rattle.rg_linear.specs.Table.{numbers_of, ShowsRow, row_width, row_numbers, IsTable, index_for, row_at}
use Rattle.rg_linear.proofs.Members.{equal_or_not, Contains-exchanged_new, Contains-exchanged_old}
use Rattle.rg_linear.proofs.Unique.{same_relation}
use Rattle.rg_linear.proofs.Exchanging.{exchanged_free, turned_row, kept_row, renewed_row, renewed-positive, renewed-over}
use Rattle.rg_linear.proofs.Leaving.{turned_reduced}
use Rattle.rg_feasible.specs.Renewal.{IsSigned, renewal_term, IsRenewed, IsDivided, IsExchangedRow, IsTurned, moved, IsKept, RowsExchanged, FirstOfRows}
use Rattle.rg_linear.proofs.MemberIndices.{member_at}
use Rattle.rg_linear.proofs.TableRows.{length-row}
use Rattle.rg_feasible.proofs.RowTerms.{length-numbers, number_shown, term_is, is_term}
use Rattle.rg_feasible.proofs.RowNumbers.{ReducedTo, renewed_shows, turned_shows, kept_shows, reduced_shows, moved_numbers, exchanged-split, set_Contains}

module _ (system : LinearSystem) (members : List ℕ) (i q : ℕ) (old : List ℤ) (free : IsFree system members) (table : IsTable system members old)
    (below : i < variables system) (outside : ¬ Contains members i) (lt : q < length members) (named : number_at (row_numbers system old i) (suc (suc q)) ≢ pos 0) where
  j : ℕ
  j = get_or members q 0

  pivot : ShowsRow system members i (row_numbers system old i)
  pivot = table.rows i below outside

  member : Contains members (get_or members q 0)
  member = member_at members q lt

  number_of : (v : ℕ) (l : Relation) → row_numbers system old v ≡ numbers_of members l → number_at (row_numbers system old v) (suc (suc q)) ≡ l.coefficient (get_or members q 0)
  number_of v l e = ap (λ xs. number_at xs (suc (suc q))) e ∙ number_shown members l q lt

  named_pivot : pivot.k.coefficient (get_or members q 0) ≢ pos 0
  named_pivot e = named (number_of i pivot.k pivot.shown ∙ e)

  -- the set after the exchange is free
  pub new_free : IsFree system (exchanged members i (get_or members q 0))
  new_free = exchanged_free system members i (get_or members q 0) pivot.k pivot.row member named_pivot

  module _ (s : List ℤ) (signed : IsSigned (row_numbers system old i) s (suc (suc q))) where
    with_sign_of : (k : Relation) → DictionaryRow system members i k → IsSigned (numbers_of members k) s (suc (suc q))
    with_sign_of k row = subst (λ xs. IsSigned xs s (suc (suc q))) (pivot.shown ∙ ap (numbers_of members) (same_relation system members i pivot.k k pivot.row row)) signed

    shown_by : (v : ℕ) (l : Relation) → DictionaryRow system members v l → row_numbers system old v ≡ numbers_of members l
    shown_by v l row = let r = table.rows v row.variable row.outside in r.shown ∙ ap (numbers_of members) (same_relation system members v r.k l r.row row)

    -- a term of the exchange is one of its row
    record TermOf (v n : ℕ) (t : Wide) : Type 0 where
      variable : v < variables system
      kept : IsKept members i v
      leaving : number_at (row_numbers system old v) (suc (suc q)) ≢ pos 0
      inside : n < suc (suc (length members))
      is : renewal_term s (row_numbers system old v) (suc (suc q)) n ≡ t

    term_of : (v n : ℕ) (t : Wide) → IsTerm system members i (get_or members q 0) v n t → TermOf v n t
    term_of v n t is =
        let shown = shown_by v is.l is.target in
        let found = is_term members is.k is.l s q free.ordered lt (with_sign_of is.k is.pivot) n t is.here in
        record {
          variable = is.target.variable;
          kept = (is.target.outside, is.other);
          leaving = λ e. is.named (sym (number_of v is.l shown) ∙ e);
          inside = found.0;
          is = ap (λ xs. renewal_term s xs (suc (suc q)) n) shown ∙ found.1;
        }

    pub all_fit : ((v : ℕ) → v < variables system → IsKept members i v → number_at (row_numbers system old v) (suc (suc q)) ≢ pos 0 → (e : ℕ)
        → e < suc (suc (length members)) → FitsTerm (renewal_term s (row_numbers system old v) (suc (suc q)) e))
        → AllFit system members i (get_or members q 0)
    all_fit fits v n t is = let of = term_of v n t is in subst FitsTerm of.is (fits v of.variable of.kept of.leaving n of.inside)

    pub first_wide : (v e : ℕ) (w : Wide) → v < variables system → FirstOfRows members i (row_width system) s old (suc (suc q)) v e w → FirstWide system members i (get_or members q 0) v e w
    first_wide v e w less f = record {
      term = record {
        k = pivot.k;
        l = r.k;
        pivot = pivot.row;
        target = r.row;
        other = f.kept.1;
        named = λ z. f.named (number_of v r.k r.shown ∙ z);
        here = term_is members pivot.k r.k s q free.ordered lt (with_sign_of pivot.k pivot.row) e (omega (arith, f.row.inside, width))
            ∙ ap (λ xs. Some (renewal_term s xs (suc (suc q)) e)) (sym r.shown) ∙ ap Some (sym f.row.is);
      };
      passes = f.row.passes;
      first = λ w' n' t' before is. earlier w' n' t' before (term_of w' n' t' is);
    }
      where
        r : ShowsRow system members v (row_numbers system old v)
        r = table.rows v less f.kept.0

        width : length (row_numbers system old v) ≡ suc (suc (length members))
        width = ap length r.shown ∙ length-numbers members r.k

        earlier : (w' n' : ℕ) (t' : Wide) → (w' < v) ⊎ ((w' ≡ v) × (n' < e)) → TermOf w' n' t' → FitsTerm t'
        earlier w' n' t' (inl lower) of = subst FitsTerm of.is (f.first w' lower of.kept of.leaving n' (omega (arith, of.inside, free.count)))
        earlier w' n' t' (inr (same, lower)) of = subst FitsTerm of.is (subst (λ x. FitsTerm (renewal_term s (row_numbers system old x) (suc (suc q)) n')) (sym same) (f.row.first n' lower))

    module _ (to : ℕ) (index : to ≡ index_for i (without (get_or members q 0) members)) where
      moved_shows : (r : Relation) (row new : List ℤ) → row ≡ numbers_of (set members q i) r → new ≡ moved row (suc (suc q)) (suc (suc to))
          → new ≡ numbers_of (exchanged members i (get_or members q 0)) r
      moved_shows r row new shown is = is ∙ ap (λ xs. moved xs (suc (suc q)) (suc (suc to))) shown ∙ moved_numbers members r i q to lt
          ∙ ap (λ ms. numbers_of ms r) (exchanged-split members i q to free.ordered lt index)

      row_stays : (v : ℕ) (new : List ℤ) (r : ShowsRow system members v (row_numbers system old v)) → v ≢ i
          → r.k.coefficient (get_or members q 0) ≡ pos 0 → new ≡ moved (row_numbers system old v) (suc (suc q)) (suc (suc to))
          → ShowsRow system (exchanged members i (get_or members q 0)) v new
      row_stays v new r other none is = record {
        k = r.k;
        row = kept_row system members i (get_or members q 0) pivot.k pivot.row member named_pivot v r.k r.row other none;
        shown = moved_shows r.k (row_numbers system old v) new (r.shown ∙ kept_shows members r.k i q lt (r.row.over i outside) none) is;
      }

      row_changes : (v : ℕ) (new : List ℤ) (r : ShowsRow system members v (row_numbers system old v)) → v ≢ i → IsDivided s (row_numbers system old v) new (suc (suc q)) (suc (suc to))
          → ShowsRow system (exchanged members i (get_or members q 0)) v new
      row_changes v new r other d = record {
        k = found.l;
        row = renewed_row system members i (get_or members q 0) pivot.k pivot.row member named_pivot v r.k r.row other found.l found.is;
        shown = moved_shows found.l d.reduced new found.shown d.is;
      }
        where
          raw_shown : d.raw ≡ numbers_of (set members q i) (renewed pivot.k i (get_or members q 0) r.k)
          raw_shown = renewed_shows members pivot.k s i q lt (with_sign_of pivot.k pivot.row) outside r.k d.raw (subst (λ xs. IsRenewed s xs d.raw (suc (suc q))) r.shown d.renewed)

          found : ReducedTo (set members q i) (renewed pivot.k i (get_or members q 0) r.k) d.reduced
          found = reduced_shows (set members q i) (renewed pivot.k i (get_or members q 0) r.k) d.raw d.reduced d.divisor raw_shown
              (renewed-positive system members i (get_or members q 0) pivot.k pivot.row member named_pivot v r.k r.row other)
              (λ m lacks. renewed-over system members i (get_or members q 0) pivot.k pivot.row member named_pivot v r.k r.row other m (λ has. lacks (set_Contains members i q m lt has)))
              d.part

      row_shows : (v : ℕ) (new : List ℤ) → v < variables system → IsKept members i v
          → IsExchangedRow s (row_numbers system old v) new (suc (suc q)) (suc (suc to)) → ShowsRow system (exchanged members i (get_or members q 0)) v new
      row_shows v new less kept x = ⊎_elim
          (λ none. row_stays v new r kept.1 none (x.stays (number_of v r.k r.shown ∙ none)))
          (λ some. row_changes v new r kept.1 (x.changes (λ e. some (sym (number_of v r.k r.shown) ∙ e))))
          (is_zero_or_not (r.k.coefficient (get_or members q 0)))
        where
          r : ShowsRow system members v (row_numbers system old v)
          r = table.rows v less kept.0

      leaving_shows : (t new : List ℤ) → IsTurned s t (suc (suc q)) → new ≡ moved t (suc (suc q)) (suc (suc to)) → ShowsRow system (exchanged members i (get_or members q 0)) (get_or members q 0) new
      leaving_shows t new is_turned is = record {
        k = turned pivot.k i (get_or members q 0);
        row = turned_row system members i (get_or members q 0) pivot.k pivot.row member named_pivot (turned pivot.k i (get_or members q 0))
            (turned_reduced system members i (get_or members q 0) pivot.k pivot.row member);
        shown = moved_shows (turned pivot.k i (get_or members q 0)) t new (turned_shows members pivot.k s i q lt (with_sign_of pivot.k pivot.row) outside t free.ordered is_turned) is;
      }

      -- the table after the exchange
      pub new_table : (new t : List ℤ) → length new ≡ length old
          → ((v : ℕ) → v < variables system → v ≢ get_or members q 0 → IsKept members i v
          → IsExchangedRow s (row_numbers system old v) (row_numbers system new v) (suc (suc q)) (suc (suc to)))
          → IsTurned s t (suc (suc q)) → row_numbers system new (get_or members q 0) ≡ moved t (suc (suc q)) (suc (suc to)) → IsTable system (exchanged members i (get_or members q 0)) new
      new_table new t same rows is_turned is = record {
        size = same ∙ table.size;
        rows = λ v less lacks. at v less lacks (equal_or_not v (get_or members q 0));
      }
        where
          at : (v : ℕ) → v < variables system → ¬ Contains (exchanged members i (get_or members q 0)) v
              → (v ≡ get_or members q 0) ⊎ (v ≢ get_or members q 0) → ShowsRow system (exchanged members i (get_or members q 0)) v (row_numbers system new v)
          at v less lacks (inl e) = subst (λ x. ShowsRow system (exchanged members i (get_or members q 0)) x (row_numbers system new x)) (sym e)
              (leaving_shows t (row_numbers system new (get_or members q 0)) is_turned is)
          at v less lacks (inr ne) = row_shows v (row_numbers system new v) less kept (rows v less ne kept)
            where
              kept : IsKept members i v
              kept = (
                (λ has. lacks (Contains-exchanged_old i (get_or members q 0) v members has ne)),
                (λ e. lacks (subst (Contains (exchanged members i (get_or members q 0))) (sym e) (Contains-exchanged_new i (get_or members q 0) members))),
              )

-- ---- the same for a table with rows of so many numbers

module _ (system : LinearSystem) (members : List ℕ) (i q width p n : ℕ) (old s : List ℤ) (free : IsFree system members) (table : IsTable system members old)
    (count : variables system ≡ n) (wide : width ≡ row_width system) (two : p ≡ suc (suc q)) (below : i < n) (outside : ¬ Contains members i) (lt : q < length members)
    (named : number_at (row_at width old i) p ≢ pos 0) where
  inner : i < variables system
  inner = omega (arith, count, below)

  named_there : number_at (row_numbers system old i) (suc (suc q)) ≢ pos 0
  named_there z = named (subst (λ x. number_at (row_at x old i) p ≡ pos 0) (sym wide) (subst (λ x. number_at (row_numbers system old i) x ≡ pos 0) (sym two) z))

  -- the set after the exchange is free
  pub free_after : IsFree system (exchanged members i (get_or members q 0))
  free_after = new_free system members i q old free table inner outside lt named_there

  module _ (signed : IsSigned (row_at width old i) s p) where
    signed_there : IsSigned (row_numbers system old i) s (suc (suc q))
    signed_there = subst (λ x. IsSigned (row_numbers system old i) s x) two (subst (λ x. IsSigned (row_at x old i) s p) wide signed)

    -- the first term that passes
    pub wide_after : (v e : ℕ) (w : Wide) → v < n → FirstOfRows members i width s old p v e w → FirstWide system members i (get_or members q 0) v e w
    wide_after v e w less f = first_wide system members i q old free table inner outside lt named_there s signed_there v e w (omega (arith, count))
        (subst (λ x. FirstOfRows members i (row_width system) s old x v e w) two (subst (λ x. FirstOfRows members i x s old p v e w) wide f))

    module _ (mid : List ℤ) (to p' : ℕ) (rows : RowsExchanged members i width s old mid p p' n) (two' : p' ≡ suc (suc to)) where
      rows_there : (v : ℕ) → v < variables system → IsKept members i v → IsExchangedRow s (row_numbers system old v) (row_numbers system mid v) (suc (suc q)) (suc (suc to))
      rows_there v less kept = subst (λ x. IsExchangedRow s (row_numbers system old v) (row_numbers system mid v) (suc (suc q)) x) two'
          (subst (λ x. IsExchangedRow s (row_numbers system old v) (row_numbers system mid v) x p') two
          (subst (λ x. IsExchangedRow s (row_at x old v) (row_at x mid v) p p') wide (rows.done v (omega (arith, count)) kept)))

      -- no term passes
      pub fit_after : AllFit system members i (get_or members q 0)
      fit_after = all_fit system members i q old free table inner outside lt named_there s signed_there
          (λ v less kept some e inside. ((rows_there v less kept).changes some).renewed.fits e
          (omega (arith, inside, free.count, length-row (row_width system) old (variables system) v table.size less)))

      -- the table shows the relations over the new set
      pub table_after : (new t row : List ℤ) → to ≡ index_for i (without (get_or members q 0) members) → length new ≡ length mid
          → ((v : ℕ) → v ≢ get_or members q 0 → row_at width new v ≡ row_at width mid v) → row_at width new (get_or members q 0) ≡ row
          → IsTurned s t p → row ≡ moved t p p' → IsTable system (exchanged members i (get_or members q 0)) new
      table_after new t row index same others here turned is = new_table system members i q old free table inner outside lt named_there s signed_there to index new t (same ∙ rows.same_length)
          (λ v less ne kept. subst (λ xs. IsExchangedRow s (row_numbers system old v) xs (suc (suc q)) (suc (suc to)))
          (sym (subst (λ x. row_at x new v ≡ row_at x mid v) wide (others v ne))) (rows_there v less kept))
          (subst (λ x. IsTurned s t x) two turned)
          (subst (λ x. row_at x new (get_or members q 0) ≡ row) wide here ∙ is ∙ ap₂ (moved t) two two')
