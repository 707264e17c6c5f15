-- No state but the initial one is met.
use Rattle.std.proofs.Common.{rules, ◌≡◌, ◌++◌, ◌∷◌, [], None, length, get_or, sym, ap, subst, ◌∙◌}
use Rattle.std.proofs.lemmas.List.{length-replicate}
use Rattle.rg_checks.specs.Closure.{follows}
use Rattle.rg_checks.proofs.Walking.{begin_walk, alone, none_everywhere}
use Rattle.rg_checks.proofs.graph.begin_walk.Goals as goal

pub returns-clause-walk : goal.returns-clause-walk
returns-clause-walk c =
    let g = c.args.graph in
    let is = c.in_ok-steps.ensures.items_if_clones_equal (search rules) in
    begin_walk (follows g) g.states g.initial c.in_ok-steps.steps.items (λ s. subst (λ xs. get_or xs s None ≡ None) (sym is) (none_everywhere g.states s)) c.push.new.self.items
    (ap length is ∙ length-replicate g.states None) (c.in_ok-push.ensures.items ∙ ap (λ xs. xs ++ g.initial ∷ []) c.new-waiting.ensures.items)

pub returns-clause-alone : goal.returns-clause-alone
returns-clause-alone c =
    let g = c.args.graph in
    let is = c.in_ok-steps.ensures.items_if_clones_equal (search rules) in
    alone (follows g) g.states g.initial c.in_ok-steps.steps.items (λ s. subst (λ xs. get_or xs s None ≡ None) (sym is) (none_everywhere g.states s))
