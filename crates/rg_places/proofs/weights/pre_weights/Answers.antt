use Rattle.std.proofs.Common.{ap, subst, sym, take, ◌∙◌, All}
use Rattle.rg_integers.specs.Range.{InRange}
use Rattle.rg_integers.proofs.Casts.{back}
use Rattle.rg_fraction.specs.Fractions.{numerator_of}
use Rattle.rg_case_folds.specs.Placing.{taken_by_effect}
use Rattle.rg_places.specs.PointValues.{ratios_of}
use Rattle.rg_places.proofs.TakenSteps.{event_taken, states_taken, effects_in_range, set_in_range}
use Rattle.rg_places.proofs.weights.pre_weights.Goals as goal
use Rattle.rg_places.proofs.weights.pre_weights.Goals.{in-Event+in_ok-taken-2, in_default}
use Rattle.std.proofs.Common.{map}

pub returns-clause-value : goal.returns-clause-value
returns-clause-value c =
    let first = c.in_ok-taken.ensures ∙ ap (λ n. map (λ e. taken_by_effect (numerator_of e)) (take n c.args.found.now)) c.labels.ensures.value in
    elim c.match-problem.branch [
      | in-Event+in_ok-taken-2 w ↦
          let asked = rw w.in-Event.is at c.requires.asked in
          let z = back w.in_ok-taken-2.field-0 w.in_ok-taken-2.ensures.in_range in
          rw (w.taken-is, w.in-Event.is, z, first) (event_taken c.args.lts.now c.args.class
          (ratios_of c.args.numbers.now) c.args.found.now c.requires.found w.in-Event.field-0 w.in-Event.t w.index-found-t.result
          w.in_ok-taken-2.field-0 asked.1 w.index-found-t.is w.in_ok-taken-2.ensures.value)
      | in_default w ↦ rw (w.taken-is, w.in_default.is, first)
          (states_taken c.args.lts.now c.args.class (ratios_of c.args.numbers.now) c.args.found.now c.requires.found w.in_default.field-0 w.in_default.field-1)
    ]

pub returns-clause-in_range : goal.returns-clause-in_range
returns-clause-in_range c =
    let first = subst (All InRange) (sym c.in_ok-taken.ensures) (effects_in_range (take c.labels.result c.args.found.now)) in
    elim c.match-problem.branch [
      | in-Event+in_ok-taken-2 w ↦
          let z = back w.in_ok-taken-2.field-0 w.in_ok-taken-2.ensures.in_range in
          rw (w.taken-is, z) (set_in_range c.in_ok-taken.taken.items w.in-Event.t w.in_ok-taken-2.field-0 first w.in_ok-taken-2.ensures.in_range)
      | in_default w ↦ rw w.taken-is first
    ]
