use Rattle.std.proofs.Common.{◌≡◌, ◌∙◌, length, vec_len, arith}
use Rattle.rg_theory.proofs.ClassSteps.{some_left, none_left, all_written}
use Rattle.rg_theory.proofs.writing.class_text.Goals as goal
use Rattle.rg_theory.proofs.writing.class_text.Goals.{in-Some+in_ok-push_condition, in_default}

pub loop-condition-preserved : goal.loop-condition-preserved
loop-condition-preserved c =
    elim c.match-condition.branch [
      | in-Some+in_ok-push_condition w ↦ rw w.text-is
          (some_left c.args.class c.loop-condition.text.items w.push_condition.new.text.items c.condition_list-conditions.result c.loop-condition.condition-index w.in-Some.condition
          c.condition_list-conditions.ensures c.loop-condition-test.true w.in-Some.is w.in_ok-push_condition.ensures c.loop-condition.invariant)
      | in_default w ↦ rw w.text-is
          (none_left c.args.class c.loop-condition.text.items c.condition_list-conditions.result c.loop-condition.condition-index
          c.condition_list-conditions.ensures c.loop-condition-test.true w.in_default.is c.loop-condition.invariant)
    ]

pub returns-then-is_empty : goal.returns-then-is_empty
returns-then-is_empty c =
    let long : vec_len c.loop-condition.text ≡ length c.loop-condition.text.items = omega arith in
    c.in_ok-extend_from_slice.ensures.items
    ∙ (all_written c.args.class c.loop-condition.text.items c.condition_list-conditions.result c.loop-condition.condition-index _
    c.condition_list-conditions.ensures c.loop-condition-test.false long c.loop-condition.invariant).0 c.if-is_empty.ensures

pub returns : goal.returns
returns c =
    let long : vec_len c.loop-condition.text ≡ length c.loop-condition.text.items = omega arith in
    (all_written c.args.class c.loop-condition.text.items c.condition_list-conditions.result c.loop-condition.condition-index _
    c.condition_list-conditions.ensures c.loop-condition-test.false long c.loop-condition.invariant).1 c.if-is_empty.ensures
