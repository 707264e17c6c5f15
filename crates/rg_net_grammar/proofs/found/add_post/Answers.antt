use Rattle.std.proofs.Common.{◌-◌, ◌∷◌, [], sym, ap, subst, ◌∙◌, arith}
use Rattle.std.specs.List.{All}
use Rattle.std.proofs.lemmas.List.{map-append}
use Rattle.std.proofs.lemmas.List.Elements.{All-push}
use Rattle.rg_net_grammar.specs.Item.{Flow}
use Rattle.rg_net_grammar.specs.Reading.{with_post}
use Rattle.rg_net_grammar.specs.View.{member_in, members_in, flow_in, IsMemberOf, IsFlowOf}
use Rattle.rg_lexer.specs.Lexeme.{lexeme}
use Rattle.rg_grammar.proofs.Last.{last_set, all_set}
use Rattle.rg_net_grammar.proofs.found.add_post.Goals as goal

pub returns-in_ok-push-clause-ok : goal.returns-in_ok-push-clause-ok
returns-in_ok-push-clause-ok c = λ bytes.
    let old = c.index_mut.result.now in
    last_set (flow_in bytes) (with_post (member_in bytes c.args.member)) c.args.flows.now.items (c.len-n.result - 1) old _ (omega arith) c.index_mut.ensures.value
    (ap {B = Flow} (λ l. record { name = lexeme bytes old.name; pre = members_in bytes old.pre.items; post = l })
    (ap (members_in bytes) c.in_ok-push.ensures.items ∙ map-append (member_in bytes) old.post.items (c.args.member ∷ [])))

pub returns-in_ok-push-clause-names : goal.returns-in_ok-push-clause-names
returns-in_ok-push-clause-names c = λ bytes is held.
    let old = c.index_mut.result.now in
    all_set (IsFlowOf bytes) c.args.flows.now.items (c.len-n.result - 1) old _ (omega arith) c.index_mut.ensures.value
    (λ flow. (flow.0, flow.1, subst (All (IsMemberOf bytes)) (sym c.in_ok-push.ensures.items) (All-push (IsMemberOf bytes) old.post.items c.args.member flow.2 is))) held
