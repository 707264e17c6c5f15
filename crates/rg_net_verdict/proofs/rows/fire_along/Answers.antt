use Rattle.std.proofs.Common.{◌≡◌, Err}
use Rattle.rg_net.specs.declared.firing.FireStop.TheVariants.{Passes}
use Rattle.rg_net_verdict.proofs.Weighing.{tokens_of, fires_by, passed_by}
use Rattle.rg_net_verdict.proofs.rows.fire_along.Goals as goal

pub row_after-requires-clause-tokens : goal.row_after-requires-clause-tokens
row_after-requires-clause-tokens c = tokens_of c.args.net.now c.args.a.now.label c.args.flow.now c.requires.flow c.args.source.now c.requires.enabled

pub wide_of-wide-requires-clause-passed : goal.wide_of-wide-requires-clause-passed
wide_of-wide-requires-clause-passed c =
    let was : c.row_after.result ≡ Err (Passes c.in-Err-Passes.place) = cc in
    passed_by c.args.net.now c.args.a.now.label c.args.flow.now c.requires.flow c.args.source.now c.in-Err-Passes.place c.requires.in_range
    c.requires.places (c.row_after.ensures.passes c.in-Err-Passes.place was)

pub returns-in-Ok-clause-fires : goal.returns-in-Ok-clause-fires
returns-in-Ok-clause-fires c = fires_by c.args.net.now c.args.a.now.label c.args.flow.now c.requires.flow c.args.source.now c.in-Ok.row.items
    c.requires.places c.requires.label c.requires.enabled c.in-Ok.ensures.moved
