use Rattle.std.proofs.Common.{ap, refl, subst, sym, ◌∙◌, arith, length}
use Rattle.rg_integers.specs.Range.{InRange}
use Rattle.rg_integers.proofs.Casts.{back}
use Rattle.rg_linear.specs.View.{linear_system}
use Rattle.rg_linear.proofs.KeptRows.{row_length, row_in_range, constant_in_range}
use Rattle.rg_feasible.specs.Contents.{IsDictionary}
use Rattle.rg_feasible.proofs.Filling.{row_pushed}
use Rattle.rg_feasible.proofs.dictionary.add_rows.Goals as goal

pub push_row-requires-clause-one_each : goal.push_row-requires-clause-one_each
push_row-requires-clause-one_each c = ap length c.deref.ensures.value
    ∙ row_length (linear_system c.args.table.now.columns c.args.rows.now) c.requires.well_formed c.args.rows.now c.loop-row.row-index
    c.row-item.result refl c.loop-row-test.true c.row-item.is ∙ sym c.loop-row.invariant.columns

pub push_row-requires-clause-coeffs_in_range : goal.push_row-requires-clause-coeffs_in_range
push_row-requires-clause-coeffs_in_range c =
    rw c.deref.ensures.value (row_in_range (linear_system c.args.table.now.columns c.args.rows.now) c.requires.well_formed c.args.rows.now
    c.loop-row.row-index c.row-item.result refl c.loop-row-test.true c.row-item.is)

pub push_row-requires-clause-constant_in_range : goal.push_row-requires-clause-constant_in_range
push_row-requires-clause-constant_in_range c =
    let fits = constant_in_range (linear_system c.args.table.now.columns c.args.rows.now) c.requires.well_formed c.args.rows.now c.loop-row.row-index
    c.row-item.result refl c.loop-row-test.true c.row-item.is in
    subst InRange (sym (back c.row-item.result.constant fits)) fits

pub loop-row-preserved : goal.loop-row-preserved
loop-row-preserved c =
    let system = rw c.deref.ensures.value at c.push_row.ensures.system in
    record {
      whole = λ s d. subst (λ t. IsDictionary t c.push_row.new.self)
          (row_pushed s c.args.table.now.columns c.args.rows.now c.loop-row.row-index c.row-item.result c.requires.well_formed c.loop-row-test.true
          c.row-item.is) (system _ (c.loop-row.invariant.whole s d));
      members = c.push_row.ensures.members ∙ c.loop-row.invariant.members;
      columns = c.push_row.ensures.columns ∙ c.loop-row.invariant.columns;
      count = (let e = c.push_row.ensures.rows in let r = c.loop-row.invariant.count in omega arith);
      room = (let e = c.push_row.ensures.room in let r = c.loop-row.invariant.room in omega arith);
    }
