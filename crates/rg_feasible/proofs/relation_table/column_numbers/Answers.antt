use Rattle.std.proofs.Common.{◌≡◌, ◌+◌, suc, ◌∷◌, [], ◌++◌, ap, sym, ◌∙◌, arith}
use Rattle.rg_linear.specs.Dictionary.{numbers_from}
use Rattle.rg_feasible.proofs.Storing.{numbers_from-more}
use Rattle.rg_feasible.proofs.relation_table.column_numbers.Goals as goal

pub loop-column-preserved : goal.loop-column-preserved
loop-column-preserved c =
    let one : suc c.loop-column.column ≡ c.loop-column.column + 1 = omega arith in
    let zero-plus : c.loop-column.column ≡ 0 + c.loop-column.column = omega arith in
    (c.in_ok-push.ensures {u = tt}).items
    ∙ ap (λ xs. xs ++ c.loop-column.column ∷ []) c.loop-column.invariant
    ∙ ap (λ x. numbers_from 0 c.loop-column.column ++ x ∷ []) zero-plus
    ∙ sym (numbers_from-more 0 c.loop-column.column)
    ∙ ap (numbers_from 0) one
