use Rattle.std.proofs.Common.{rules, ◌≡◌, Err, map, ap, refl}
use Rattle.rg_fraction.specs.declared.fold_stop.FoldStop.TheVariants as stop
use Rattle.rg_case_folds.specs.Spreading.{variables_of, checked_leaf}
use Rattle.rg_case_folds.proofs.Comes.{comes_unless}
use Rattle.rg_farkas.specs.View.{named_of}
use Rattle.rg_farkas.proofs.Told.{leaf_unsummed, leaf_too_great, leaf_checked}
use Rattle.rg_farkas.proofs.sizes.check_sizes.Goals as goal

pub returns-in_err-check_variables : goal.returns-in_err-check_variables
returns-in_err-check_variables c = λ expression told.
    let same : c.from_residual.result ≡ Err c.in_err-check_variables.field-0.0 = search rules in
    rw same (comes_unless (checked_leaf c.args.lts.now expression (map named_of c.args.rows.now)) (λ (u : Unit {0}). map named_of c.args.rows.now) c.in_err-check_variables.field-0.0
    (λ w is. leaf_unsummed expression c.args.rows.now told c.args.lts.now (variables_of c.args.lts.now) refl w (c.in_err-check_variables.ensures.wide w (ap Err is))))

pub returns-in_err-constant_sizes : goal.returns-in_err-constant_sizes
returns-in_err-constant_sizes c = λ expression told.
    let same : c.from_residual-in_err-constant_sizes.result ≡ Err (stop.Wide c.in_err-constant_sizes.field-0.0) = search rules in
    let (sums, all) = c.in_ok-check_variables.ensures.sums in
    rw same (leaf_too_great expression c.args.rows.now told c.args.lts.now (variables_of c.args.lts.now) refl sums c.in_err-constant_sizes.field-0.0 all c.in_err-constant_sizes.ensures)

pub returns : goal.returns
returns c = λ expression told.
    let (sums, all) = c.in_ok-check_variables.ensures.sums in
    leaf_checked expression c.args.rows.now told c.args.lts.now (variables_of c.args.lts.now) refl sums c.in_ok-constant_sizes.field-0 all c.in_ok-constant_sizes.ensures
