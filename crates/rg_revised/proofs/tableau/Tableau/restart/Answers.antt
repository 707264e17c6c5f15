use Rattle.std.proofs.Common.{◌+◌, List, length, ap, subst, sym, ◌∙◌}
use Rattle.std.specs.Prelude.{ℤ, unsigned_abs}
use Rattle.std.proofs.lemmas.List.{with_items_is}
use Rattle.rg_revised.specs.View.{TableauState}
use Rattle.rg_revised.specs.State.{HasConstants}
use Rattle.rg_revised.proofs.Units.{unit_basis_held}
use Rattle.rg_revised.proofs.tableau.Tableau.restart.Goals as goal

pub gather-requires-clause-columns : goal.gather-requires-clause-columns
gather-requires-clause-columns c = ap (λ (xs : List ℤ). length xs) c.deref_mut.ensures.value ∙ c.self.invariant.constants ∙ sym c.restart.ensures.columns

pub returns-clause-started : goal.returns-clause-started
returns-clause-started c =
    let same = with_items_is c.self.inside.constants c.gather.new.constants (c.gather.auto.constants ∙ c.deref_mut.ensures.len) in
    λ system columns room. record {
      held = unit_basis_held system c.restart.new.self (unsigned_abs c.args.room.most) (length c.self.inside.basis.slots) c.restart.ensures.unit
          (columns ∙ ap (λ (t : TableauState). length t.basis.slots) (sym c.self.view_is)) room.some;
      room = room;
      constants = subst (λ xs. HasConstants c.restart.new.self xs c.gather.new.named.items) (sym same) c.gather.ensures.constants;
      width = c.self.invariant.numbers ∙ ap (λ n. n + 1) (sym c.restart.ensures.columns);
    }
