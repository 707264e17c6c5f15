use Rattle.std.proofs.Common.{◌≡◌, Contains, ◌+◌, ◌*◌, ◌-◌, length, arith, le_refl, subst, sym, ◌∙◌}
use Rattle.std.specs.Prelude.{pos}
use Rattle.std.proofs.lemmas.Bool.{false≢true}
use Rattle.rg_integers.specs.Sum.{number_at}
use Rattle.rg_feasible.specs.Renewal.{RowInRange, FirstOfRow, IsExchangedRow, RowsExchanged, IsKept}
use Rattle.rg_linear.specs.Table.{row_at}
use Rattle.rg_linear.proofs.MemberIndices.{AreBelow, found_or_not, member_at, past_member, past_other}
use Rattle.rg_feasible.proofs.TableRows.{in_range-put, in_range-part, rows_skipped, rows_more, first_of_rows}
use Rattle.rg_linear.proofs.TableRows.{row_inside, part_is, length-part, row_other}
use Rattle.rg_feasible.proofs.table.exchange_rows.Goals as goal
use Rattle.rg_feasible.proofs.table.exchange_rows.Goals.{then-stands_at, else-stands_at+then-w-pivot+in-Ok, else-stands_at+else-w-pivot}

pub exchange_row-requires-clause-in_range : goal.exchange_row-requires-clause-in_range
exchange_row-requires-clause-in_range c = in_range-part _ _ c.loop-w.table c.loop-w.invariant.in_range

pub returns-in-Err-clause-rows : goal.returns-in-Err-clause-rows
returns-in-Err-clause-rows c =
    let h = (c.in-Err.ensures {u = tt}).row in
    let is = part_is (length c.args.pivot_row.now) c.args.table.now c.loop-w.table c.loop-w.w (c.loop-w.invariant.left c.loop-w.w (le_refl c.loop-w.w)) in
    let found = found_or_not c.args.members.now c.loop-w.next c.loop-w.w c.loop-w.invariant.passed.below c.loop-w.invariant.passed.others c.requires.ordered in
    let kept : IsKept c.args.members.now c.args.pivot c.loop-w.w = ((λ has. false≢true (sym c.if-stands_at.false ∙ c.stands_at.ensures.1 (found has))), c.if-w-pivot.true) in (
      c.loop-w-test.true,
      first_of_rows c.args.members.now c.args.pivot
          (length c.args.pivot_row.now) c.args.pivot_row.now c.args.table.now c.loop-w.table c.args.p c.args.q c.loop-w.w c.args.variables c.in-Err.e.entry c.in-Err.e.wide
          c.loop-w.invariant.rows c.requires.size c.loop-w-test.true kept
          (λ e. h.0 (subst (λ x. number_at x c.args.p ≡ pos 0) (sym is) e))
          (subst (λ x. FirstOfRow c.args.pivot_row.now x c.args.p c.in-Err.e.entry c.in-Err.e.wide) is h.1),
    )

pub returns-in-Err-clause-in_range : goal.returns-in-Err-clause-in_range
returns-in-Err-clause-in_range c = in_range-put _ _ c.loop-w.table c.exchange_row.new.row c.loop-w.invariant.in_range (c.in-Err.ensures {u = tt}).in_range

pub loop-w-preserved : goal.loop-w-preserved
loop-w-preserved c = elim c.if-stands_at.branch [
  | then-stands_at w ↦ (
      let here = c.stands_at.ensures.0 w.if-stands_at.true in
      let has : Contains c.args.members.now c.loop-w.w = subst (Contains c.args.members.now) here.1 (member_at c.args.members.now c.loop-w.next here.0) in
      record {
        rows = subst (λ t. RowsExchanged c.args.members.now c.args.pivot (length c.args.pivot_row.now) c.args.pivot_row.now c.args.table.now t c.args.p c.args.q (c.loop-w.w + 1)) (sym w.table-is)
            (rows_skipped c.args.members.now c.args.pivot
            (length c.args.pivot_row.now) c.args.pivot_row.now c.args.table.now c.loop-w.table c.args.p c.args.q c.loop-w.w
            c.loop-w.invariant.rows (λ kept. kept.0 has));
        in_range = subst RowInRange (sym w.table-is) c.loop-w.invariant.in_range;
        passed = subst (λ b. AreBelow c.args.members.now b (c.loop-w.w + 1)) (sym w.next-is)
            (past_member c.args.members.now c.loop-w.next c.loop-w.w c.requires.ordered c.loop-w.invariant.passed here.1);
        left = λ v le. subst (λ t. row_at (length c.args.pivot_row.now) t v ≡ row_at (length c.args.pivot_row.now) c.args.table.now v) (sym w.table-is) (c.loop-w.invariant.left v (omega arith));
      })
  | else-stands_at+then-w-pivot+in-Ok w ↦ (
      let h = w.in-Ok.ensures {u = tt} in
      let old : length c.loop-w.table ≡ c.args.variables * length c.args.pivot_row.now = c.loop-w.invariant.rows.same_length ∙ c.requires.size in
      let size = length-part (length c.args.pivot_row.now) c.loop-w.table w.exchange_row.new.row c.args.variables c.loop-w.w old c.loop-w-test.true w.exchange_row.auto.row in
      let is = part_is (length c.args.pivot_row.now) c.args.table.now c.loop-w.table c.loop-w.w (c.loop-w.invariant.left c.loop-w.w (le_refl c.loop-w.w)) in
      let row = subst (λ x. IsExchangedRow c.args.pivot_row.now x w.exchange_row.new.row c.args.p c.args.q) is h.row in
      let k : (c.loop-w.w * length c.args.pivot_row.now + length c.args.pivot_row.now) - c.loop-w.w * length c.args.pivot_row.now ≡ length c.args.pivot_row.now = omega arith in
      record {
        rows = subst (λ t. RowsExchanged c.args.members.now c.args.pivot (length c.args.pivot_row.now) c.args.pivot_row.now c.args.table.now t c.args.p c.args.q (c.loop-w.w + 1)) (sym w.table-is)
            (rows_more c.args.members.now c.args.pivot
            (length c.args.pivot_row.now) c.args.pivot_row.now c.args.table.now c.loop-w.table w.exchange_row.new.row c.args.p c.args.q c.loop-w.w c.args.variables _
            c.loop-w.invariant.rows c.requires.size c.loop-w-test.true k size row
            (subst (λ t. length t ≡ length c.args.table.now) w.table-is (c.if-stands_at.auto.table ∙ c.loop-w.invariant.rows.same_length)));
        in_range = subst RowInRange (sym w.table-is) (in_range-put _ _ c.loop-w.table w.exchange_row.new.row c.loop-w.invariant.in_range h.in_range);
        passed = subst (λ b. AreBelow c.args.members.now b (c.loop-w.w + 1)) (sym w.next-is)
            (past_other c.args.members.now c.loop-w.next c.loop-w.w c.requires.ordered c.loop-w.invariant.passed (λ at. false≢true (sym w.if-stands_at.false ∙ c.stands_at.ensures.1 at)));
        left = λ v le. subst (λ t. row_at (length c.args.pivot_row.now) t v ≡ row_at (length c.args.pivot_row.now) c.args.table.now v) (sym w.table-is)
            (row_other (length c.args.pivot_row.now) c.loop-w.table w.exchange_row.new.row c.args.variables c.loop-w.w _ v old c.loop-w-test.true
            size k (λ e. omega arith) ∙ c.loop-w.invariant.left v (omega arith));
      })
  | else-stands_at+else-w-pivot w ↦ record {
    rows = subst (λ t. RowsExchanged c.args.members.now c.args.pivot (length c.args.pivot_row.now) c.args.pivot_row.now c.args.table.now t c.args.p c.args.q (c.loop-w.w + 1)) (sym w.table-is)
        (rows_skipped c.args.members.now c.args.pivot
        (length c.args.pivot_row.now) c.args.pivot_row.now c.args.table.now c.loop-w.table c.args.p c.args.q c.loop-w.w c.loop-w.invariant.rows
        (λ kept. kept.1 w.if-w-pivot.false));
    in_range = subst RowInRange (sym w.table-is) c.loop-w.invariant.in_range;
    passed = subst (λ b. AreBelow c.args.members.now b (c.loop-w.w + 1)) (sym w.next-is)
        (past_other c.args.members.now c.loop-w.next c.loop-w.w c.requires.ordered c.loop-w.invariant.passed (λ at. false≢true (sym w.if-stands_at.false ∙ c.stands_at.ensures.1 at)));
    left = λ v le. subst (λ t. row_at (length c.args.pivot_row.now) t v ≡ row_at (length c.args.pivot_row.now) c.args.table.now v) (sym w.table-is) (c.loop-w.invariant.left v (omega arith));
  }
]

pub slice_bounds-exchange_row-end : goal.slice_bounds-exchange_row-end
slice_bounds-exchange_row-end c = row_inside c.loop-w.table (length c.args.pivot_row.now) c.args.variables c.loop-w.w (c.loop-w.invariant.rows.same_length ∙ c.requires.size) c.loop-w-test.true
