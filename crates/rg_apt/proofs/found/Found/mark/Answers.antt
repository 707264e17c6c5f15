use Rattle.rg_apt.proofs.found.Found.mark.Goals as goal

pub returns-then-mark-clause-names : goal.returns-then-mark-clause-names
returns-then-mark-clause-names c = λ bytes held. record {
  states = c.mark_last.ensures.names bytes held.states;
  labels = held.labels;
  arcs = held.arcs;
}
