-- The pair of the initial states.
use Rattle.std.proofs.Common.{rules, ◌∙◌, ap, ◌++◌, ◌∷◌, [], None, false, replicate}
use Rattle.rg_iso.proofs.Mapping.{followed_as}
use Rattle.rg_iso.proofs.pairing.first_pair.Goals as goal

pub returns : goal.returns
returns c =
    followed_as c.args.a.now c.args.b.now c.requires c.push.new.self.items c.in_ok-partners.partners.items c.in_ok-taken.taken.items c.initial-4.result c.initial-3.result c.initial-5.result
    (c.in_ok-push.ensures.items ∙ ap (λ xs. xs ++ (c.initial.result, c.initial-2.result) ∷ []) c.new-order.ensures.items
    ∙ (λ i. (c.initial.ensures.value i, c.initial-2.ensures.value i) ∷ []))
    (c.in_ok-partners.ensures.items_if_clones_equal (search rules) ∙ ap (λ n. replicate n None) c.states.ensures.value)
    (c.in_ok-taken.ensures.items_if_clones_equal (search rules) ∙ ap (λ n. replicate n false) c.states-2.ensures.value)
    c.initial-4.ensures.value c.initial-3.ensures.value c.initial-5.ensures.value
