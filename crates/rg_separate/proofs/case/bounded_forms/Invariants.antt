use Rattle.std.proofs.Common.{take}
use Rattle.rg_separate.specs.Bounding.{AreBoundedOf}
use Rattle.rg_separate.proofs.case.bounded_forms.Given as goal

abbrev pub invariant-loop-form : goal.invariant-loop-form
invariant-loop-form l = AreBoundedOf (take l.form-index l.forms) l.bounded.items
