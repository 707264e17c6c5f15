use Rattle.std.proofs.Common.{◌++◌, sym, ap, ◌∙◌, arith}
use Rattle.std.proofs.lemmas.List.{drop_all}
use Rattle.rg_netfile.proofs.Listed.{listed_text, listed_set}
use Rattle.rg_netfile.proofs.sets.push_set.Goals as goal

pub returns : goal.returns
returns c = λ weights is.
    let members = c.args.members.now in
    let past = c.loop-member-test.false in
    let none = drop_all c.loop-member.member-index members (omega arith) in
    c.in_ok-push-2.ensures.items
    ∙ ap (λ ms. c.loop-member.text.items ++ listed_text c.args.prefix.now c.loop-member.later ms) (sym none)
    ∙ c.loop-member.invariant
    ∙ ap (λ l. c.args.text.now.items ++ l) (listed_set c.args.prefix.now members weights is)
