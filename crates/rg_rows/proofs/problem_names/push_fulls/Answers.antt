use Rattle.std.proofs.Common.{◌∙◌}
use Rattle.rg_cert_meaning.specs.declared.RowName.TheVariants as row_name
use Rattle.rg_rows.proofs.Naming.{each_named, all_named}
use Rattle.rg_rows.proofs.problem_names.push_fulls.Goals as goal

pub loop-q-preserved : goal.loop-q-preserved
loop-q-preserved c = c.in_ok-push.ensures.items ∙ each_named row_name.Full _ c.loop-q.names.items c.args.states.now c.loop-q.q-index c.loop-q.invariant c.loop-q-test.true

pub returns : goal.returns
returns c = all_named row_name.Full _ c.loop-q.names.items c.args.states.now c.loop-q.q-index c.loop-q.invariant c.loop-q-test.false
