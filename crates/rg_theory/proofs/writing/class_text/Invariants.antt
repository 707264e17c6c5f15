use Rattle.std.proofs.Common.{drop}
use Rattle.rg_theory.proofs.ClassSteps.{IsLeft}
use Rattle.rg_theory.proofs.writing.class_text.Given as goal

abbrev pub invariant-loop-condition : goal.invariant-loop-condition
invariant-loop-condition l = IsLeft l.fn.class l.text.items (drop l.condition-index l.condition-items)
