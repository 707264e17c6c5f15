use Rattle.std.proofs.Common.{map, take, get_or, All, sym, subst}
use Rattle.std.proofs.lemmas.List.{map_more, take_all}
use Rattle.std.proofs.lemmas.List.Elements.{All-push}
use Rattle.rg_integers.proofs.Casts.{back}
use Rattle.rg_cert_data.specs.Certificates.{IsRowOf}
use Rattle.rg_cert_data.specs.Trees.{named_row}
use Rattle.rg_verify.specs.Judged.{IsRightRow}
use Rattle.rg_verify.specs.Settings.{StandsIn}
use Rattle.rg_verify.proofs.Places.{image_at}
use Rattle.rg_verify.proofs.Rows.{no_row, multiplier_at}
use Rattle.rg_verify.proofs.Defects.{reached_at}
use Rattle.rg_verify.proofs.leaves.row_defect.Goals as goal

pub stands-requires-clause-name : goal.stands-requires-clause-name
stands-requires-clause-name c = (image_at (IsRowOf c.args.lts.now) named_row c.args.rows.now c.loop-name.name-index no_row c.requires.rows c.loop-name-test.true).name

pub returns-then-not-stands : goal.returns-then-not-stands
returns-then-not-stands c = (
  c.loop-name.name-index,
  named_row (get_or c.args.rows.now c.loop-name.name-index no_row),
  reached_at _ named_row c.args.rows.now c.loop-name.name-index no_row c.loop-name-test.true c.loop-name.invariant,
  λ stands. absurd (let e = c.stands.ensures.1 stands in let f = c.if-not-stands.true in cc),
)

pub returns-then-not-is_multiplier : goal.returns-then-not-is_multiplier
returns-then-not-is_multiplier c =
    let k = back (get_or c.args.rows.now c.loop-name.name-index no_row).1 (multiplier_at c.args.lts.now c.args.rows.now c.loop-name.name-index c.requires.rows c.loop-name-test.true) in
    let told = rw k at c.is_multiplier.ensures in (
      c.loop-name.name-index,
      named_row (get_or c.args.rows.now c.loop-name.name-index no_row),
      reached_at _ named_row c.args.rows.now c.loop-name.name-index no_row c.loop-name-test.true c.loop-name.invariant,
      c.stands.ensures.0 c.if-not-stands.false,
      λ is. absurd (let e = told.1 is in let f = c.if-not-is_multiplier.true in cc),
    )

pub loop-name-preserved : goal.loop-name-preserved
loop-name-preserved c =
    let k = back (get_or c.args.rows.now c.loop-name.name-index no_row).1 (multiplier_at c.args.lts.now c.args.rows.now c.loop-name.name-index c.requires.rows c.loop-name-test.true) in
    let told = rw k at c.is_multiplier.ensures in
    let P = IsRightRow (StandsIn c.args.lts.now c.args.problem_case c.args.above.now) in
    subst (All P) (sym (map_more named_row c.args.rows.now c.loop-name.name-index no_row c.loop-name-test.true))
    (All-push P (map named_row (take c.loop-name.name-index c.args.rows.now))
    (named_row (get_or c.args.rows.now c.loop-name.name-index no_row)) c.loop-name.invariant
    (c.stands.ensures.0 c.if-not-stands.false, told.0 c.if-not-is_multiplier.false))

pub returns : goal.returns
returns c =
    let P = IsRightRow (StandsIn c.args.lts.now c.args.problem_case c.args.above.now) in
    subst (λ rows. All P (map named_row rows)) (take_all c.loop-name.name-index c.args.rows.now c.loop-name-test.false) c.loop-name.invariant
