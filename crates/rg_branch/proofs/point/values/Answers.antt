use Rattle.std.proofs.Common.{◌≡◌, ◌+◌, length, length-append, subst, sym, ap, ◌∙◌, arith}
use Rattle.rg_fraction.specs.Fractions.{IsValue}
use Rattle.rg_branch.proofs.Related.{pushed_each}
use Rattle.rg_branch.proofs.point.values.Goals as goal

pub loop-j-preserved : goal.loop-j-preserved
loop-j-preserved c = record {
  count = ap length c.in_ok-push.ensures.items ∙ length-append c.loop-j.values.items _ ∙ ap (λ n. n + 1) c.loop-j.invariant.count;
  each = λ node members are k f lt scale v basic.
      pushed_each c.loop-j.values.items c.push.new.self.items c.column_value.result c.in_ok-push.ensures.items (λ j x. IsValue x (v j) scale)
      (λ j x less. c.loop-j.invariant.each node members are j x less scale v basic)
      (subst (λ j. IsValue c.column_value.result (v j) scale) (sym c.loop-j.invariant.count) (c.column_value.ensures node members are scale v basic)) k f lt;
}

pub returns : goal.returns
returns c = λ node members are e. (let end : c.loop-j.j ≡ c.args.columns = omega arith in record {
  one_each = c.loop-j.invariant.count ∙ end ∙ e;
  each = λ j f lt scale v basic. c.loop-j.invariant.each node members are j f lt scale v basic;
})
