use Rattle.std.proofs.Common.{true, refl}
use Rattle.rg_rows.proofs.Naming.{name_taken}
use Rattle.rg_rows.proofs.names.push_tokens.Goals as goal
use Rattle.rg_cert_meaning.specs.declared.RowName.TheVariants as row_name

pub loop-q-preserved : goal.loop-q-preserved
loop-q-preserved c = rw c.in_ok-push.ensures.items (name_taken row_name.Tokens (λ q. true) c.loop-q.q c.args.states c.loop-q.names.items _ c.loop-q.invariant c.loop-q-test.true refl)
