use Rattle.std.proofs.Common.{arith}
use Rattle.rg_integers.proofs.Casts.{back}
use Rattle.rg_linear.specs.View.{linear_system}
use Rattle.rg_revised.specs.Lists.{rows_of}
use Rattle.rg_revised.proofs.Extending.{extended_row}
use Rattle.rg_revised.proofs.Looping.{kept_row}
use Rattle.rg_revised.proofs.descent.take.Goals as goal

pub take_row-requires-clause-whole : goal.take_row-requires-clause-whole
take_row-requires-clause-whole c =
    let (members, is) = c.requires.whole in
    let (fits, row) = kept_row c.args.columns (rows_of c.args.rows) c.requires.well_formed c.args.i c.row-row.result.now c.requires.row c.row-row.ensures in
    rw (back c.row-row.result.now.constant fits, c.deref.ensures.value) (linear_system c.args.columns (rows_of c.args.rows), members, is, row)

pub take_row-requires-clause-few : goal.take_row-requires-clause-few
take_row-requires-clause-few c =
    let (members, is) = c.requires.whole in
    let count = is.held.held.count in
    let few = c.requires.well_formed.few in
    let (fits, row) = kept_row c.args.columns (rows_of c.args.rows) c.requires.well_formed c.args.i c.row-row.result.now c.requires.row c.row-row.ensures in
    let lt = row.inside in
    omega arith

pub returns-clause-told : goal.returns-clause-told
returns-clause-told c = λ system members larger is.
    let (fits, row) = kept_row c.args.columns (rows_of c.args.rows) c.requires.well_formed c.args.i c.row-row.result.now c.requires.row c.row-row.ensures in
    let told = rw (back c.row-row.result.now.constant fits, c.deref.ensures.value) at c.take_row.ensures.told in
    told system members is (extended_row (linear_system c.args.columns (rows_of c.args.rows)) _ system larger c.args.i _ _ row)
