use Rattle.std.proofs.Common.{◌++◌, ap, ap₂, refl, subst, sym, ◌∙◌}
use Rattle.std.proofs.lemmas.List.{take-append-drop}
use Rattle.rg_linear.specs.View.{linear_system, IsWellFormed}
use Rattle.rg_linear_tests.proofs.joined.joined_end.Goals as goal

-- the two lists joined are the rows that were tried
pub new-system-requires : goal.new-system-requires
new-system-requires c =
    let well = subst (λ rows. IsWellFormed (linear_system 2 rows)) c.deref.ensures.value (c.if-not-is_well_formed.ensures refl) in
    let own = c.deref-2.ensures.value ∙ c.in-Ok.ensures.items in
    let shared = ap (λ (v : _). v.items) c.new-shared.ensures ∙ c.in-Ok.ensures.tail in
    let joined = ap₂ (λ xs ys. xs ++ ys) own shared ∙ take-append-drop c.args.first c.in_ok-own.own.items in
    subst (λ rows. IsWellFormed (linear_system 2 rows)) (sym joined) well
