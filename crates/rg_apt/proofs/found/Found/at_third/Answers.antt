use Rattle.std.proofs.Common.{sym, subst}
use Rattle.std.specs.List.{All}
use Rattle.std.proofs.lemmas.List.Elements.{All-push}
use Rattle.rg_lexer.specs.declared.token.Token.{Token}
use Rattle.rg_apt.specs.Contents.{ArcNames}
use Rattle.rg_apt.specs.View.{IsArcOf}
use Rattle.rg_apt.proofs.found.Found.at_third.Goals as goal

pub returns-in_ok-push-in-Name-clause-names : goal.returns-in_ok-push-in-Name-clause-names
returns-in_ok-push-in-Name-clause-names c = λ bytes is from label held.
    let arcs = c.args.self.now.arcs.items in
    let arc : ArcNames Token = record { from = c.args.from; label = c.args.label; to = c.args.token } in
    record {
      states = held.states;
      labels = held.labels;
      arcs = subst (All (IsArcOf bytes)) (sym c.in_ok-push-in-Name.ensures.items)
          (All-push (IsArcOf bytes) arcs arc held.arcs (from, label, (is, c.in-Name.is)));
    }
