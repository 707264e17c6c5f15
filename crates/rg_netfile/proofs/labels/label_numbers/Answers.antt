use Rattle.std.proofs.Common.{refl, sym, ◌∙◌}
use Rattle.rg_net_grammar.specs.View.{transitions_in}
use Rattle.rg_netfile.proofs.LabelCounts.{numbers_apart, each_once, not_each, counted}
use Rattle.rg_netfile.proofs.labels.label_numbers.Goals as goal

pub returns-then-are_ones-clause-apart : goal.returns-then-are_ones-clause-apart
returns-then-are_ones-clause-apart c =
    let ts = transitions_in c.args.bytes.now c.args.transitions.now in
    numbers_apart c.args.lts.now ts c.in_ok-numbers.numbers.items c.deref-2.result.now
    (counted c.args.lts.now ts c.in_ok-numbers.numbers.items _ _ _ _ c.labels.ensures.well_formed c.in_ok-numbers.ensures.numbers c.in_ok-numbers.ensures.within
    c.labels.ensures.value c.deref.ensures.value c.deref-2.ensures.value c.in_ok-counts.ensures.ok)
    (sym c.are_ones.ensures ∙ c.if-are_ones.true)

pub returns-then-are_ones-clause-once : goal.returns-then-are_ones-clause-once
returns-then-are_ones-clause-once c =
    let ts = transitions_in c.args.bytes.now c.args.transitions.now in
    each_once c.args.lts.now ts c.in_ok-numbers.numbers.items c.deref-2.result.now
    (counted c.args.lts.now ts c.in_ok-numbers.numbers.items _ _ _ _ c.labels.ensures.well_formed c.in_ok-numbers.ensures.numbers c.in_ok-numbers.ensures.within
    c.labels.ensures.value c.deref.ensures.value c.deref-2.ensures.value c.in_ok-counts.ensures.ok)
    (sym c.are_ones.ensures ∙ c.if-are_ones.true)

pub returns-else-are_ones-clause-fault : goal.returns-else-are_ones-clause-fault
returns-else-are_ones-clause-fault c = λ memory.
    let ts = transitions_in c.args.bytes.now c.args.transitions.now in (
      refl,
      not_each c.args.lts.now ts c.in_ok-numbers.numbers.items c.deref-2.result.now
          (counted c.args.lts.now ts c.in_ok-numbers.numbers.items _ _ _ _ c.labels.ensures.well_formed c.in_ok-numbers.ensures.numbers c.in_ok-numbers.ensures.within
          c.labels.ensures.value c.deref.ensures.value c.deref-2.ensures.value c.in_ok-counts.ensures.ok)
          (sym c.are_ones.ensures ∙ c.if-are_ones.false),
    )
