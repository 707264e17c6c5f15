use Rattle.std.proofs.Common.{rules, ◌≡◌, Err, sym, ◌∙◌, Vec, Global}
use Rattle.std.proofs.lemmas.List.{length-map}
use Rattle.rg_folds.specs.Fold.{ratio_of}
use Rattle.rg_fraction.specs.declared.fraction.Fraction.{Fraction}
use Rattle.rg_case_folds.specs.Placing.{shift_fold}
use Rattle.rg_case_folds.proofs.Comes.{comes_by, comes_unless}
use Rattle.rg_places.specs.PointValues.{ratios_of}
use Rattle.rg_places.proofs.PlaceSteps.{moved_fails, moved_length, shift_made}
use Rattle.rg_places.proofs.numbers.shift_and_lift.Goals as goal

pub returns-in_err-moved : goal.returns-in_err-moved
returns-in_err-moved c =
    let same : c.from_residual.result ≡ Err c.in_err-moved.field-0.0 = search rules in
    rw same (comes_unless (shift_fold c.args.lts.now c.args.class c.args.problem (ratios_of c.args.numbers.items)) (λ (v : Vec Fraction Global). ratios_of v.items) c.in_err-moved.field-0.0
    (λ w is. moved_fails c.args.lts.now c.args.class c.args.problem (ratios_of c.args.numbers.items) w (rw is at c.in_err-moved.ensures)))

pub lift-requires : goal.lift-requires
lift-requires c =
    sym (length-map c.in_ok-moved.moved.items ratio_of)
    ∙ moved_length c.args.class (ratios_of c.args.numbers.items) (ratios_of c.in_ok-moved.moved.items) c.in_ok-moved.ensures
    ∙ length-map c.args.numbers.items ratio_of ∙ c.requires

pub returns : goal.returns
returns c =
    comes_by _ _ (λ (v : Vec Fraction Global). ratios_of v.items) c.lift.result c.lift.ensures
    (shift_made c.args.lts.now c.args.class c.args.problem (ratios_of c.args.numbers.items) (ratios_of c.in_ok-moved.moved.items) c.in_ok-moved.ensures)
