use Rattle.std.proofs.Common.{rules, ◌<◌, length}
use Rattle.rg_linear.proofs.Columns.{below_test}
use Rattle.rg_linear.proofs.MemberIndices.{is_below}
use Rattle.rg_revised.proofs.Walking.{first_column, some_column}
use Rattle.rg_revised.proofs.walk.has_column.Goals as goal

pub returns-then-not-is_empty : goal.returns-then-not-is_empty
returns-then-not-is_empty c =
    let some : 0 < length c.args.members.now = search rules in (
      (λ yes. some_column c.args.members.now c.args.columns some (is_below _ _ yes)),
      (λ has. below_test _ _ (first_column c.args.members.now c.args.columns c.requires.ordered has).1),
    )
