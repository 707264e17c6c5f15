use Rattle.std.proofs.Common.{rules, ap, subst, sym, ◌∙◌}
use Rattle.std.specs.Prelude.{FitsSigned}
use Rattle.std.specs.Int.{w64}
use Rattle.std.proofs.lemmas.Int.{to_z-of_z}
use Rattle.rg_revised.specs.View.{TableauState}
use Rattle.rg_revised.specs.State.{CanExchange}
use Rattle.rg_revised.proofs.Advancing.{short_exchange}
use Rattle.rg_revised.proofs.tableau.Tableau.exchange_short.Goals as goal

pub returns-clause-exchanged : goal.returns-clause-exchanged
returns-clause-exchanged c =
    let fm : FitsSigned w64 c.self.inside.room.most = search rules in
    let at = subst (λ (t : TableauState). CanExchange t c.args.p c.args.variable) (sym c.self.view_is) c.requires.relation in
    let short = ap (λ (t : TableauState). t.long) c.self.view_is ∙ c.requires.short in
    let exchange = rw (to_z-of_z w64 c.self.inside.room.most fm) at c.exchange.ensures.exchanged in
    rw (← c.self.view_is) (λ yes. short_exchange _ c.exchange.new.numbers.items c.args.p c.args.variable c.exchange.new.self short (at.short.over short) (exchange yes))
