use Rattle.rg_net_grammar.proofs.found.Found.member.Goals as goal

pub returns-in_ok-add_pre-in-Pre-clause-names : goal.returns-in_ok-add_pre-in-Pre-clause-names
returns-in_ok-add_pre-in-Pre-clause-names c = λ bytes is held. record {
  places = held.places;
  transitions = held.transitions;
  flows = c.in_ok-add_pre-in-Pre.ensures.names bytes is held.flows;
  marking = held.marking;
}

pub returns-in_ok-add_post-in-Post-clause-names : goal.returns-in_ok-add_post-in-Post-clause-names
returns-in_ok-add_post-in-Post-clause-names c = λ bytes is held. record {
  places = held.places;
  transitions = held.transitions;
  flows = c.in_ok-add_post-in-Post.ensures.names bytes is held.flows;
  marking = held.marking;
}
