use Rattle.std.proofs.Common.{◌≡◌, ◌+◌, ◌<◌, length, refl, subst, sym, ◌∙◌}
use Rattle.rg_linear.proofs.TableRows.{part_is, length-row}
use Rattle.rg_revised.specs.View.{BasisState}
use Rattle.rg_revised.proofs.basis.Basis.row.Goals as goal

pub returns : goal.returns
returns c =
    let count : c.len-width.result ≡ length c.self.inside.slots.items = c.len-width.ensures ∙ c.self.inside.slots.ok.0 in
    let lt = subst (λ (b : BasisState). c.args.t < length b.slots) (sym c.self.view_is) c.requires in
    rw (← c.self.view_is, count, c.deref.ensures.value, part_is (length c.self.inside.slots.items + 1) c.self.inside.table.items c.self.inside.table.items c.args.t refl)
    (record { numbers = refl; width = length-row (length c.self.inside.slots.items + 1) c.self.inside.table.items (length c.self.inside.slots.items) c.args.t c.self.invariant.shape.size lt })
