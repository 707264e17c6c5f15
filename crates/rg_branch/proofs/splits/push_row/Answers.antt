use Rattle.std.proofs.Common.{rules, ap, map, ◌++◌, ◌∷◌, [], ◌∙◌}
use Rattle.std.specs.Prelude.{FitsSigned}
use Rattle.std.specs.Int.{w64}
use Rattle.std.proofs.lemmas.Int.{to_z-of_z}
use Rattle.std.proofs.lemmas.List.{map-append}
use Rattle.rg_linear.specs.View.{linear_row}
use Rattle.rg_branch.proofs.Sides.{low_fits, high_fits, row_same}
use Rattle.rg_branch.proofs.splits.push_row.Goals as goal

pub side_row-requires-clause-low : goal.side_row-requires-clause-low
side_row-requires-clause-low c =
    let (system, before, can) = c.requires.can in
    let f : FitsSigned w64 c.args.side.at = search rules in
    rw (to_z-of_z w64 c.args.side.at f) (low_fits system before c.args.forms.now can c.args.side c.requires.side c.index-forms-form.result c.index-forms-form.is)

pub side_row-requires-clause-high : goal.side_row-requires-clause-high
side_row-requires-clause-high c =
    let (system, before, can) = c.requires.can in
    let f : FitsSigned w64 c.args.side.at = search rules in
    rw (to_z-of_z w64 c.args.side.at f) (high_fits system before c.args.forms.now can c.args.side c.requires.side c.index-forms-form.result c.index-forms-form.is)

pub returns : goal.returns
returns c =
    let (system, before, can) = c.requires.can in
    let f : FitsSigned w64 c.args.side.at = search rules in
    let row = rw (to_z-of_z w64 c.args.side.at f) at c.in_ok-side_row.ensures in
    ap (map linear_row) c.in_ok-push.ensures.items ∙ map-append linear_row c.args.rows.now.items _
    ∙ ap (λ r. map linear_row c.args.rows.now.items ++ r ∷ []) (row ∙ row_same system before c.args.forms.now can c.args.side c.requires.side c.index-forms-form.result c.index-forms-form.is)
