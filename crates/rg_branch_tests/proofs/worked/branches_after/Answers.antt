use Rattle.std.proofs.Common.{◌≡◌, ℕ, List, ◌++◌, take, drop, ap, subst, sym, ◌∙◌}
use Rattle.std.proofs.lemmas.List.{take-append-drop}
use Rattle.rg_linear.specs.declared.row.Row.{Row}
use Rattle.rg_linear.specs.View.{linear_system, IsWellFormed}
use Rattle.rg_branch_tests.proofs.worked.branches_after.Goals as goal

-- the two lists are the whole one
whole : (n : ℕ) (rows own shared : List Row) → own ≡ take n rows → shared ≡ drop n rows → own ++ shared ≡ rows
whole n rows own shared e f = ap (λ xs. xs ++ shared) e ∙ ap (λ xs. take n rows ++ xs) f ∙ take-append-drop n rows

pub new-joined-requires : goal.new-joined-requires
new-joined-requires c = λ d.
    let parts = d.in_ok-split_off.ensures {u = tt} in
    let are = whole d.args.before d.in_ok-own.own.items d.deref-3.result.now d.new-shared.result.rows.items (d.deref-3.ensures.value ∙ parts.items)
    (ap (λ rows. rows.items) d.new-shared.ensures ∙ parts.tail) in
    subst (λ rows. IsWellFormed (linear_system 2 rows)) (sym are) (d.in_ok-own.ensures {u = tt}).well_formed
