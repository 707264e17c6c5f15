use Rattle.std.proofs.Common.{refl, subst, sym, ◌∙◌}
use Rattle.std.specs.Prelude.{unsigned_abs}
use Rattle.std.specs.Vec.{with_items}
use Rattle.std.proofs.lemmas.List.{with_items_is}
use Rattle.rg_revised.specs.State.{IsSetExchange, HasConstants}
use Rattle.rg_revised.proofs.Advancing.{tableau_exchange}
use Rattle.rg_revised.proofs.tableau.Tableau.exchange.Goals as goal

pub returns-clause-exchanged : goal.returns-clause-exchanged
returns-clause-exchanged c =
    let same = with_items_is c.self.inside.constants c.gather.new.constants (c.gather.auto.constants ∙ c.deref_mut.ensures.len) in
    let exchange = subst (IsSetExchange c.args.self.now c.args.p c.args.variable) (sym c.self.view_is) (c.if-not-exchange_set.ensures.exchanged refl) in
    λ yes. tableau_exchange c.args.self.now (record {
      basis = c.self.inside.basis;
      constants = c.self.inside.constants.items;
      named = c.self.inside.named.items;
      numbers = c.self.inside.numbers.items;
      over = c.self.inside.over;
      norm = c.self.inside.room.norm;
      most = unsigned_abs c.self.inside.room.most;
      long = c.self.inside.room.long;
    }) c.args.p c.args.variable (with_items c.self.inside.constants c.gather.new.constants).items c.gather.new.named.items exchange
    (subst (λ xs. HasConstants c.self.inside.basis xs c.gather.new.named.items) (sym same) c.gather.ensures.constants) c.self.invariant.numbers
