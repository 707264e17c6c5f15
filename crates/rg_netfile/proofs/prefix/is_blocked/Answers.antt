use Rattle.std.proofs.Common.{◌∙◌, sym}
use Rattle.rg_net.specs.NetText.{blocks}
use Rattle.rg_netfile.proofs.Prefixes.{name_passes, name_fails}
use Rattle.rg_netfile.proofs.prefix.is_blocked.Goals as goal

pub returns-then-blocks : goal.returns-then-blocks
returns-then-blocks c =
    let names = c.args.lts.now.label_names in
    let name = c.label_name in
    let read = c.as_bytes in
    let test = blocks c.args.prefix.now in
    sym (name_passes test names c.loop-t.t name.result.now read.result.now name.ensures read.ensures.value (sym c.blocks-in-loop-t.ensures ∙ c.if-blocks.true))
    ∙ c.loop-t.invariant

pub loop-t-preserved : goal.loop-t-preserved
loop-t-preserved c =
    let names = c.args.lts.now.label_names in
    let name = c.label_name in
    let read = c.as_bytes in
    let test = blocks c.args.prefix.now in
    sym (name_fails test names c.loop-t.t name.result.now read.result.now name.ensures read.ensures.value (sym c.blocks-in-loop-t.ensures ∙ c.if-blocks.false))
    ∙ c.loop-t.invariant
