-- The first state that isn't met is the least that can't be reached, and where there is none all can.
use Rattle.std.proofs.Common.{◌≡◌, false, sym, subst, ◌∙◌, arith}
use Rattle.rg_checks.specs.Closure.{is_met}
use Rattle.rg_checks.proofs.Shutting.{least_unreachable, all_reachable, shut_out, told}
use Rattle.rg_checks.proofs.unreachable.least_unreachable.Goals as goal

pub returns-then-not-is_met-clause-least : goal.returns-then-not-is_met-clause-least
returns-then-not-is_met-clause-least c =
    least_unreachable c.args.lts.now c.args.steps.now c.loop-s.s c.requires (let n = c.states-s-end.ensures.value in omega (arith, c.loop-s-test.true))
    (subst (λ i. is_met i c.args.steps.now c.loop-s.s ≡ false) c.initial.ensures.value (sym c.is_met.ensures ∙ c.if-not-is_met.true)) c.loop-s.invariant

pub returns-then-not-is_met-clause-shut_out : goal.returns-then-not-is_met-clause-shut_out
returns-then-not-is_met-clause-shut_out c =
    let lts = c.args.lts.now in
    (shut_out lts (is_met lts.initial c.args.steps.now) c.loop-s.s c.states-s-end.ensures.well_formed.in_range (told lts c.args.steps.now c.requires)
    (let n = c.states-s-end.ensures.value in omega (arith, c.loop-s-test.true))).0
    (subst (λ i. is_met i c.args.steps.now c.loop-s.s ≡ false) c.initial.ensures.value (sym c.is_met.ensures ∙ c.if-not-is_met.true))

pub returns-clause-none : goal.returns-clause-none
returns-clause-none c =
    all_reachable c.args.lts.now c.args.steps.now c.requires
    (λ r lt. c.loop-s.invariant r (let n = c.states-s-end.ensures.value in omega (arith, c.loop-s-test.false)))
