-- The first state that is reached and doesn't lead back is the least, and where there is none each leads back.
use Rattle.std.proofs.Common.{◌≡◌, ℕ, Bool, List, Option, true, false, true≢false, sym, subst, ◌∙◌, arith}
use Rattle.rg_checks.specs.declared.walks.Step.{Step}
use Rattle.rg_checks.specs.Closure.{is_met}
use Rattle.rg_checks.proofs.Reaching.{met_reached, reached_is_met}
use Rattle.rg_checks.proofs.Returning.{least_stranded, none_stranded_more, reversible}
use Rattle.rg_checks.proofs.stranded.first_stranded.Goals as goal
use Rattle.rg_checks.proofs.stranded.first_stranded.Goals.{else-is_met-via-then-is_met+else-not-is_met, else-is_met-via-else-is_met}

-- what is asked of the initial state is asked of the system's
asked : (initial start : ℕ) (steps : List (Option Step)) (s : ℕ) (b t : Bool) → start ≡ initial → b ≡ is_met start steps s → b ≡ t → is_met initial steps s ≡ t
asked initial start steps s b t same is told = subst (λ i. is_met i steps s ≡ t) same (sym is ∙ told)

pub returns-then-not-is_met-clause-least : goal.returns-then-not-is_met-clause-least
returns-then-not-is_met-clause-least c =
    let lts = c.args.lts.now in
    let start = c.initial-start in
    least_stranded lts c.args.back.now c.loop-s.s c.requires.back c.loop-s.invariant
    (met_reached lts c.args.steps.now c.loop-s.s c.requires.steps (let n = c.states-s-end.ensures.value in let m = c.loop-s-test.true in omega (arith, n, m))
    (asked lts.initial start.result c.args.steps.now c.loop-s.s c.is_met.result true start.ensures.value c.is_met.ensures c.if-is_met.true))
    (asked lts.initial start.result c.args.back.now c.loop-s.s c.is_met-then-is_met.result false start.ensures.value c.is_met-then-is_met.ensures c.if-not-is_met.true)

pub loop-s-preserved : goal.loop-s-preserved
loop-s-preserved c =
    let lts = c.args.lts.now in
    let start = c.initial-start in
    none_stranded_more lts c.loop-s.s c.loop-s.invariant
    (λ reached. elim c.else-is_met.branch [
      | else-is_met-via-then-is_met+else-not-is_met w ↦
          (c.requires.back.each c.loop-s.s).0
          (asked lts.initial start.result c.args.back.now c.loop-s.s w.is_met-then-is_met.result true start.ensures.value w.is_met-then-is_met.ensures w.if-not-is_met.false)
      | else-is_met-via-else-is_met w ↦ absurd (true≢false (sym (reached_is_met lts c.args.steps.now c.loop-s.s c.requires.steps
          (let n = c.states-s-end.ensures.value in let m = c.loop-s-test.true in omega (arith, n, m)) reached)
          ∙ asked lts.initial start.result c.args.steps.now c.loop-s.s c.is_met.result false start.ensures.value c.is_met.ensures w.if-is_met.false))
    ])

pub returns-clause-none : goal.returns-clause-none
returns-clause-none c =
    reversible c.args.lts.now c.loop-s.s c.states-s-end.ensures.well_formed.in_range (let n = c.states-s-end.ensures.value in let m = c.loop-s-test.false in omega (arith, n, m)) c.loop-s.invariant
