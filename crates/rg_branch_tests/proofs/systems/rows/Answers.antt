use Rattle.std.proofs.Common.{◌+◌, ◌<◌, ◌≤◌, ◌^◌, [], length, subst, sym, arith}
use Rattle.std.specs.Prelude.{pos}
use Rattle.std.proofs.lemmas.List.{length-map}
use Rattle.std.proofs.lemmas.List.Elements.{All-map}
use Rattle.rg_linear.specs.View.{linear_row}
use Rattle.rg_linear.proofs.KeptRows.{IsFine, all_fine}
use Rattle.rg_branch_tests.proofs.systems.rows.Goals as goal

pub returns-clause-well_formed : goal.returns-clause-well_formed
returns-clause-well_formed c =
    let rows = c.loop-one.rows.items in
    let count = c.loop-one.invariant.count in
    let end = c.loop-one.auto.one-index-end in
    let few : c.args.columns + length rows < 2 ^ 32 = (let most = c.requires in omega arith) in
    let all : length rows ≤ length rows = omega arith in
    let fine = All-map (IsFine c.args.columns) linear_row rows c.loop-one.invariant.fine in
    all_fine c.args.columns rows (length rows) few all (λ i lt. fine i (record { coeffs = []; constant = pos 0 }) (subst (λ n. i < n) (sym (length-map rows linear_row)) lt))
