use Rattle.std.proofs.Common.{rules, subst, sym}
use Rattle.rg_linear.specs.System.{AreFarkasMultipliers}
use Rattle.rg_feasible.specs.Settling.{IsDictionaryOf, multiplier_with}
use Rattle.rg_feasible.proofs.Shown.{multipliers_refute}
use Rattle.rg_feasible.proofs.Ends.{left_by, point_by, same_refuted, narrow_by}
use Rattle.rg_feasible.proofs.dictionary.Dictionary.settle.Goals as goal

pub returns-in-Refuted-clause-refutes : goal.returns-in-Refuted-clause-refutes
returns-in-Refuted-clause-refutes c = λ i e system whole.
    let old = subst (IsDictionaryOf system) (sym c.self.view_is) whole in
    let outcome = c.in-Refuted.ensures.outcome system old in
    subst (λ n. AreFarkasMultipliers system (multiplier_with c.descend-settled.new.table n)) (same_refuted c.in-Refuted.row i e)
    (multipliers_refute system c.descend-settled.new.table outcome.0 c.in-Refuted.row (c.in-Refuted.ensures.stays _ system old) outcome.1)

pub returns-in_default : goal.returns-in_default
returns-in_default c = record {
  outcome = λ system whole. c.descend-settled.ensures.outcome system (subst (IsDictionaryOf system) (sym c.self.view_is) whole);
  free = λ system whole. c.descend-settled.ensures.free system (subst (IsDictionaryOf system) (sym c.self.view_is) whole);
  left = λ system whole. left_by system _ c.descend-settled.result c.in_default.not-Refuted
      (λ narrow. c.descend-settled.ensures.stays narrow system (subst (IsDictionaryOf system) (sym c.self.view_is) whole));
  point = λ e system whole. (let old = subst (IsDictionaryOf system) (sym c.self.view_is) whole in
      point_by system c.descend-settled.new.table c.descend-settled.result e (λ narrow. c.descend-settled.ensures.stays narrow system old)
      (c.descend-settled.ensures.outcome system old));
  refutes = λ i e. absurd (c.in_default.not-Refuted i e);
  shape = search rules;
  narrow = λ system whole small. narrow_by system _ c.descend-settled.result small (c.descend-settled.ensures.outcome system (subst (IsDictionaryOf system) (sym c.self.view_is) whole));
}
