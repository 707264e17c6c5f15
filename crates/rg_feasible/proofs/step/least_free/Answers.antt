use Rattle.std.proofs.Common.{rules}
use Rattle.rg_feasible.specs.Steps.{NamesFree}
use Rattle.rg_linear.proofs.Fixed.{next_index}
use Rattle.rg_feasible.proofs.step.least_free.Goals as goal
use Rattle.rg_feasible.proofs.step.least_free.Goals.{else-numbers-index-ne0-via-then-numbers-index-ne0+else-not-is_fixed, else-numbers-index-ne0-via-else-numbers-index-ne0}

pub loop-index-preserved : goal.loop-index-preserved
loop-index-preserved c = next_index (NamesFree c.args.columns c.args.members.now c.args.stack.now c.args.numbers.now) c.loop-index.index c.loop-index.invariant
    (elim c.else-numbers-index-ne0.branch [
      | else-numbers-index-ne0-via-then-numbers-index-ne0+else-not-is_fixed w ↦
          (λ names. (let (s, has, is) = w.is_fixed.ensures.0 (search rules) in names.not_fixed s has is))
      | else-numbers-index-ne0-via-else-numbers-index-ne0 w ↦
          (λ names. names.named (search rules))
    ])
