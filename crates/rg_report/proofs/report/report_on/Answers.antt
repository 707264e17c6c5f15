-- What is found has names.
use Rattle.std.proofs.Common.{ap, sym, subst, length}
use Rattle.rg_report.specs.Shown.{HasNames}
use Rattle.rg_report.proofs.Naming.{stranded_in_range, has_names}
use Rattle.rg_report.proofs.report.report_on.Goals as goal

pub state_names-requires-2 : goal.state_names-requires-2
state_names-requires-2 c = stranded_in_range c.args.lts.now c.states.ensures.well_formed c.args.found.now.stranded c.requires.stranded

pub returns-clause-names : goal.returns-clause-names
returns-clause-names c =
    subst HasNames (λ i. record {
      states = sym c.states.ensures.value i;
      labels = sym c.labels.ensures.value i;
      arcs = sym (ap length c.arcs.ensures.value) i;
      reachable = sym c.in_ok-state_names.ensures i;
      deterministic = sym c.in_ok-fork_names.ensures i;
      persistent = sym c.in_ok-loss_names.ensures i;
      reversible = sym c.in_ok-state_names-2.ensures i;
    }) (has_names c.args.lts.now c.states.ensures.well_formed c.args.found.now c.requires)
