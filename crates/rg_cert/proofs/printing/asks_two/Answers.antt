use Rattle.std.proofs.Common.{◌||◌, sym, ap, ◌∙◌}
use Rattle.std.specs.List.{list_any}
use Rattle.rg_cert_data.specs.Certificates.{reason_of}
use Rattle.rg_cert.specs.Text.{splits_start, reason_nodes}
use Rattle.rg_cert.proofs.WholeReasons.{reason_nodes_are}
use Rattle.rg_cert.proofs.printing.asks_two.Goals as goal

pub returns-else-is_some : goal.returns-else-is_some
returns-else-is_some c =
    let reason = c.args.cert.now.reason in
    c.reason_splits_start.ensures ∙ ap (list_any splits_start) (reason_nodes_are reason c.requires)
    ∙ ap (λ b. b || list_any splits_start (reason_nodes (reason_of reason))) (sym (sym c.is_some.ensures ∙ c.if-is_some.false))
