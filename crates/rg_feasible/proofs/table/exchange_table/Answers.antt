use Rattle.std.proofs.Common.{◌≡◌, ◌≢◌, suc, ◌+◌, ◌*◌, ◌-◌, length, get_or, refl, arith, subst, sym, ◌∙◌}
use Rattle.std.specs.Prelude.{pos}
use Rattle.rg_integers.specs.Sum.{number_at}
use Rattle.rg_linear.specs.Table.{row_width, row_at}
use Rattle.rg_feasible.specs.Renewal.{IsSigned, RowsExchanged, FirstOfRows}
use Rattle.rg_linear.proofs.MemberIndices.{few_members}
use Rattle.rg_feasible.proofs.TableRows.{in_range-put}
use Rattle.rg_linear.proofs.TableRows.{part_is, length-part, length-put-mid, row_put, row_other}
use Rattle.rg_feasible.proofs.Exchanges.{wide_after, fit_after, table_after}
use Rattle.rg_feasible.proofs.table.exchange_table.Goals as goal

pub exchange_rows-requires-clause-short : goal.exchange_rows-requires-clause-short
exchange_rows-requires-clause-short c =
    let few = few_members c.args.members.now c.args.variables c.args.pivot c.requires.ordered c.requires.within c.requires.pivot c.requires.outside in
    let same = c.copy_signed.auto.signed in
    omega arith

pub returns-in-Err-clause-exact : goal.returns-in-Err-clause-exact
returns-in-Err-clause-exact c = λ system count free table named.
    let width : length c.args.pivot_row.now ≡ row_width system = omega (arith, free.count, c.requires.width) in
    let two : c.args.index + 2 ≡ suc (suc c.args.index) = omega arith in
    let is = part_is (length c.args.pivot_row.now) c.args.table.now c.args.table.now c.args.pivot refl in
    let signed = subst (λ xs. IsSigned xs c.copy_signed.new.signed (c.args.index + 2)) is c.copy_signed.ensures.signed in
    let there = subst (λ x. number_at (row_at x c.args.table.now c.args.pivot) (c.args.index + 2) ≢ pos 0) (sym c.requires.width) named in
    let f = (c.in-Err.ensures {u = tt}).rows in
    wide_after system c.args.members.now c.args.pivot c.args.index (length c.args.pivot_row.now) (c.args.index + 2) c.args.variables c.args.table.now c.copy_signed.new.signed
    free table count width two c.requires.pivot c.requires.outside c.requires.index there signed c.in-Err.wide.target c.in-Err.wide.entry c.in-Err.wide.wide f.0
    (subst (λ x. FirstOfRows c.args.members.now c.args.pivot x c.copy_signed.new.signed c.args.table.now
    (c.args.index + 2) c.in-Err.wide.target c.in-Err.wide.entry c.in-Err.wide.wide) c.copy_signed.auto.signed f.1)

pub returns-clause-exact : goal.returns-clause-exact
returns-clause-exact c = λ system count free table named.
    let width : length c.args.pivot_row.now ≡ row_width system = omega (arith, free.count, c.requires.width) in
    let two : c.args.index + 2 ≡ suc (suc c.args.index) = omega arith in
    let two' : c.args.to + 2 ≡ suc (suc c.args.to) = omega arith in
    let is = part_is (length c.args.pivot_row.now) c.args.table.now c.args.table.now c.args.pivot refl in
    let signed = subst (λ xs. IsSigned xs c.copy_signed.new.signed (c.args.index + 2)) is c.copy_signed.ensures.signed in
    let there = subst (λ x. number_at (row_at x c.args.table.now c.args.pivot) (c.args.index + 2) ≢ pos 0) (sym c.requires.width) named in
    let rows = subst (λ x. RowsExchanged c.args.members.now c.args.pivot x c.copy_signed.new.signed c.args.table.now c.exchange_rows.new.table
    (c.args.index + 2) (c.args.to + 2) c.args.variables) c.copy_signed.auto.signed (c.in-Ok.ensures {u = tt}).rows in
    let size : length c.exchange_rows.new.table ≡ c.args.variables * length c.args.pivot_row.now =
    rows.same_length ∙ subst (λ x. length c.args.table.now ≡ c.args.variables * x) (sym c.requires.width) c.requires.size in
    let less = c.requires.within c.args.index c.requires.index in
    let fresh = length-part (length c.args.pivot_row.now) c.exchange_rows.new.table c.write_leaving.new.row c.args.variables
    (get_or c.args.members.now c.args.index 0) size less c.write_leaving.auto.row in
    let k : (get_or c.args.members.now c.args.index 0 * length c.args.pivot_row.now + length c.args.pivot_row.now)
    - get_or c.args.members.now c.args.index 0 * length c.args.pivot_row.now ≡ length c.args.pivot_row.now = omega arith in (
      fit_after system c.args.members.now c.args.pivot c.args.index (length c.args.pivot_row.now) (c.args.index + 2) c.args.variables c.args.table.now c.copy_signed.new.signed
          free table count width two c.requires.pivot c.requires.outside c.requires.index there signed c.exchange_rows.new.table c.args.to (c.args.to + 2) rows two',
      table_after system c.args.members.now c.args.pivot c.args.index (length c.args.pivot_row.now) (c.args.index + 2) c.args.variables c.args.table.now c.copy_signed.new.signed
          free table count width two c.requires.pivot c.requires.outside c.requires.index there signed c.exchange_rows.new.table c.args.to (c.args.to + 2) rows two'
          _ c.write_leaving.ensures.row.0 c.write_leaving.new.row c.requires.new_index
          (length-put-mid (length c.args.pivot_row.now) c.exchange_rows.new.table c.write_leaving.new.row c.args.variables (get_or c.args.members.now c.args.index 0) _ size less fresh k)
          (λ v ne. row_other (length c.args.pivot_row.now) c.exchange_rows.new.table c.write_leaving.new.row c.args.variables (get_or c.args.members.now c.args.index 0) _ v size less fresh k ne)
          (row_put (length c.args.pivot_row.now) c.exchange_rows.new.table c.write_leaving.new.row c.args.variables (get_or c.args.members.now c.args.index 0) _ size less fresh)
          c.write_leaving.ensures.row.1 c.write_leaving.ensures.row.2,
    )

pub returns-clause-in_range : goal.returns-clause-in_range
returns-clause-in_range c = in_range-put _ _ c.exchange_rows.new.table c.write_leaving.new.row c.exchange_rows.ensures.in_range c.write_leaving.ensures.in_range
