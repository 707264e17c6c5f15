use Rattle.std.proofs.Common.{◌<◌, ◌++◌, map, subst}
use Rattle.rg_theory.specs.System.{states, labels}
use Rattle.rg_case_folds.specs.Rewriting.{all_numbers}
use Rattle.rg_farkas.proofs.Steps.{all_next}
use Rattle.rg_farkas.proofs.sizes.variables.Goals as goal
use Rattle.rg_cert_meaning.specs.declared.Variable.TheVariants.{Tokens, Effect}

pub loop-q-preserved : goal.loop-q-preserved
loop-q-preserved c =
    let lt = subst (λ n. c.loop-q.q < n) c.states-q-end.ensures.value c.loop-q-test.true in
    let items = c.in_ok-push.ensures.items in
    rw items (all_next Tokens (states c.args.lts.now) c.loop-q.q c.loop-q.variables.items (map Tokens (all_numbers (states c.args.lts.now))) c.loop-q.invariant lt)

pub loop-t-preserved : goal.loop-t-preserved
loop-t-preserved c =
    let lt = subst (λ n. c.loop-t.t < n) c.labels-t-end.ensures.value c.loop-t-test.true in
    let items = c.in_ok-push-2.ensures.items in
    rw items (all_next Effect (labels c.args.lts.now) c.loop-t.t c.loop-t.variables.items
    (map Tokens (all_numbers (states c.args.lts.now)) ++ map Effect (all_numbers (labels c.args.lts.now))) c.loop-t.invariant lt)
