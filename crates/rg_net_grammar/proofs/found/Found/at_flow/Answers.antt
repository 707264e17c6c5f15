use Rattle.std.proofs.Common.{◌≡◌, ℕ, List, [], sym, subst, arith}
use Rattle.std.specs.List.{All}
use Rattle.std.proofs.lemmas.List.Elements.{All-push}
use Rattle.rg_lexer.specs.declared.token.Token.{Token}
use Rattle.rg_net_grammar.specs.Item.{Member}
use Rattle.rg_net_grammar.specs.declared.found.FoundFlow.{FoundFlow}
use Rattle.rg_net_grammar.specs.View.{IsMemberOf, IsFlowOf}
use Rattle.rg_net_grammar.proofs.found.Found.at_flow.Goals as goal

no_members : (bytes : List ℕ) (members : List (Member Token)) → members ≡ [] → All (IsMemberOf bytes) members
no_members bytes members none = subst (All (IsMemberOf bytes)) (sym none) (λ k d within. absurd (omega arith))

pub returns-in_ok-push-in-Name-clause-names : goal.returns-in_ok-push-in-Name-clause-names
returns-in_ok-push-in-Name-clause-names c = λ bytes is held.
    let flow : FoundFlow = record { name = c.args.token; pre = c.new-pre.result; post = c.new-post.result } in
    record {
      places = held.places;
      transitions = held.transitions;
      flows = subst (All (IsFlowOf bytes)) (sym c.in_ok-push-in-Name.ensures.items)
          (All-push (IsFlowOf bytes) c.args.self.now.flows.items flow held.flows
          ((is, c.in-Name.is), no_members bytes c.new-pre.result.items c.new-pre.ensures.items, no_members bytes c.new-post.result.items c.new-post.ensures.items));
      marking = held.marking;
    }
