use Rattle.rg_top.proofs.OneEnd.{all_one}
use Rattle.rg_top.proofs.laws.answers_are_one.Goals as goal

pub returns : goal.returns
returns c = all_one (record {
  words = c.words_say_one_thing.ensures.one;
  reading = record {
    apt_system = c.one_answer.ensures.one_system;
    apt_fault = c.one_answer.ensures.one_fault;
    apt_not_both = c.one_answer.ensures.not_both;
    graph_system = c.one_answer-2.ensures.one_system;
    graph_fault = c.one_answer-2.ensures.one_fault;
    graph_not_both = c.one_answer-2.ensures.not_both;
    words_system = c.one_answer-3.ensures.one_system;
    words_fault = c.one_answer-3.ensures.one_fault;
    words_not_both = c.one_answer-3.ensures.not_both;
  };
  system = c.one_of_each.ensures.one;
  out = c.outcome_is_one.ensures.answer;
  judgement = record {
    one_claim = c.one_answer-4.ensures.one_claim;
    one_fault = c.one_answer-4.ensures.one_fault;
    not_both = c.one_answer-4.ensures.not_both;
    one_verdict = c.one_verdict.ensures.once;
  };
  verdict = record {
    one_net = c.one_answer-5.ensures.one_net;
    one_fault = c.one_answer-5.ensures.one_fault;
    not_both = c.one_answer-5.ensures.not_both;
    one_verdict = c.verdict_is_one.ensures.once;
  };
  factoring = record {
    one_flaw = c.one_first_flaw.ensures.once;
    one_factoring = c.factoring_is_one.ensures.once;
    out = c.outcome_is_one.ensures.answer;
  };
  splitting = record {
    one = c.splitting_is_one.ensures.one;
    state = c.splitting_says.ensures.state;
  };
  comparison = record {
    one_flaw = c.one_first_flaw.ensures.once;
    one_told = c.one_comparison.ensures.once;
  };
  examination = c.one_examination.ensures.once;
}) (record {
  words = c.words_say_one_thing.ensures.some;
  bounds = c.words_say_one_thing.ensures.bounds;
  reading = record {
    apt = c.one_answer.ensures.some;
    apt_formed = c.spelled_is_well_formed.ensures.formed;
    apt_memory = c.spelled_is_well_formed.ensures.fault;
    graph = c.one_answer-2.ensures.some;
    graph_formed = c.spelled_is_well_formed-2.ensures.formed;
    graph_memory = c.spelled_is_well_formed-2.ensures.fault;
    words = c.one_answer-3.ensures.some;
    words_formed = c.spelled_is_well_formed-3.ensures.formed;
    words_memory = c.spelled_is_well_formed-3.ensures.fault;
  };
  judgement = record {
    claim = c.one_answer-4.ensures.some;
    in_range = c.spelled_is_in_range.ensures.claim;
    verdict = c.one_verdict.ensures.some;
  };
  verdict = record {
    net = c.one_answer-5.ensures.some;
    same_labels = c.spelled_is_for_the_system.ensures.labels;
    memory = c.spelled_is_for_the_system.ensures.fault;
    verdict = c.verdict_is_one.ensures.some;
  };
  factoring = record {
    flaw = c.one_first_flaw.ensures.some;
    factoring = c.factoring_is_one.ensures.some;
    out = c.outcome_is_one.ensures.some;
  };
  splitting = record {
    some = c.splitting_is_one.ensures.some;
    right = c.splitting_says.ensures.right;
  };
  comparison = record {
    flaw = c.one_first_flaw.ensures.some;
    told = c.one_comparison.ensures.some;
    refutes = c.difference_refutes.ensures;
  };
  trials = record {
    sound = c.one_of_each.ensures.sound;
    out = c.outcome_is_one.ensures.some;
  };
})
