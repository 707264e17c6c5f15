use Rattle.std.proofs.Common.{◌≡◌, ◌∙◌, ap, [], ◌∷◌, ◌++◌, get_or, ℤ, pos, arith}
use Rattle.std.specs.Fmt.{signed_decimal}
use Rattle.std.proofs.lemmas.Int.{ints}
use mir.Syntax.{w128}
use mir.Val.{to_z, of_z}
use Rattle.rg_cert_data.specs.Trees.{named_row}
use Rattle.rg_cert_data.specs.Certificates.{IsRowOf}
use Rattle.rg_cert.specs.Text.{row_fields, named_fields, spaced}
use Rattle.rg_cert.proofs.Printed.{row_at, more_rows}
use Rattle.rg_cert.proofs.printing.push_rows.Goals as goal
use Rattle.rg_cert_meaning.specs.declared.RowName.{RowName}
use Rattle.rg_cert_meaning.specs.declared.RowName.TheVariants as row_name

abbrev some_row : RowName × ℤ
some_row = (row_name.Arc (record { from = 0; label = 0; to = 0 }), pos 0)

pub push_row-requires : goal.push_row-requires
push_row-requires c =
    (row_at (IsRowOf c.args.lts.now) named_row c.args.rows.now c.loop-row.row-index some_row c.requires (omega arith)).name

pub loop-row-preserved : goal.loop-row-preserved
loop-row-preserved c =
    let lts = c.args.lts.now in
    let row = get_or c.args.rows.now c.loop-row.row-index some_row in
    let of_system = row_at (IsRowOf lts) named_row c.args.rows.now c.loop-row.row-index some_row c.requires (omega arith) in
    let same : to_z w128 (of_z w128 row.1) ≡ row.1 = omega (arith, ints, of_system.multiplier) in
    let text = c.loop-row.text.items in
    let grown = c.in_ok-push_row.ensures ∙ ap (λ z. text ++ (spaced (signed_decimal z ∷ row_fields lts row.0) ++ 10 ∷ [])) same in
    more_rows named_row (named_fields lts) c.args.rows.now c.loop-row.row-index some_row text c.push_row.new.text.items _ (omega arith) grown c.loop-row.invariant
