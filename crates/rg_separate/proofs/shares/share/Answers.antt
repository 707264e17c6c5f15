use Rattle.std.proofs.Common.{rules, ◌<◌, map, sym, subst}
use Rattle.std.specs.Prelude.{ℤ, pos}
use Rattle.std.specs.Int.Signed.{mag}
use Rattle.rg_integers.specs.Range.{InRange}
use Rattle.rg_integers.proofs.Casts.{back}
use Rattle.rg_fraction.specs.Fractions.{IsValue}
use Rattle.rg_rows.specs.Forms.{split_of}
use Rattle.rg_separate.specs.Casing.{sides_among}
use Rattle.rg_separate.proofs.Factors.{small, share_made, share_fails}
use Rattle.rg_separate.proofs.shares.share.Goals as goal

pub new-requires-clause-n_in_range : goal.new-requires-clause-n_in_range
new-requires-clause-n_in_range c =
    let range : mag c.args.multiplier < 170141183460469231731687303715884105728 = search rules in
    let fits = small c.args.multiplier c.requires.not_negative range in
    subst InRange {x = c.args.multiplier} (sym (back c.args.multiplier fits)) fits

pub returns-in-Ok : goal.returns-in-Ok
returns-in-Ok c = λ case shows.
    let range : mag c.args.multiplier < 170141183460469231731687303715884105728 = search rules in
    let value = subst (λ (z : ℤ). IsValue c.new.result z (pos 1)) (back c.args.multiplier (small c.args.multiplier c.requires.not_negative range)) c.new.ensures in
    share_made case c.args.above.now (sides_among (map split_of c.args.named.now.forms) c.args.above.now) c.args.row c.args.multiplier
    c.new.result c.row_of-name.result.1 value (c.row_of-name.ensures.factor case shows) c.row_of-name.result.0 c.in-Ok.share
    (c.row_of-name.ensures.name case shows) c.in-Ok.ensures.product

pub returns-in-Err : goal.returns-in-Err
returns-in-Err c = λ case shows.
    let range : mag c.args.multiplier < 170141183460469231731687303715884105728 = search rules in
    let value = subst (λ (z : ℤ). IsValue c.new.result z (pos 1)) (back c.args.multiplier (small c.args.multiplier c.requires.not_negative range)) c.new.ensures in
    share_fails case c.args.above.now (sides_among (map split_of c.args.named.now.forms) c.args.above.now) c.args.row c.args.multiplier c.new.result
    c.row_of-name.result.1 value (c.row_of-name.ensures.factor case shows) c.in-Err.wide c.in-Err.ensures.product
