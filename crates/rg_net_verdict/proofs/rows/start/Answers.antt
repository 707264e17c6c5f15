use Rattle.std.proofs.Common.{◌≡◌, map, ◌∙◌}
use Rattle.std.proofs.lemmas.Result.{IfOk-weaker}
use Rattle.rg_theory.specs.Net.{start_marking}
use Rattle.rg_net_verdict.proofs.Starts.{starts_are}
use Rattle.rg_net_verdict.proofs.rows.start.Goals as goal

pub returns-clause-value : goal.returns-clause-value
returns-clause-value c =
    IfOk-weaker c.starts.result (λ row. row.items ≡ map (λ p. p.start) c.places.result.now) (λ row. row.items ≡ start_marking c.args.net.now)
    (λ row e. e ∙ starts_are c.args.net.now c.places.result.now c.places.ensures.value) c.starts.ensures
