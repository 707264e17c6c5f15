use Rattle.std.proofs.Common.{◌≡◌, length, ◌∙◌}
use Rattle.rg_revised.proofs.basis.Basis.leaving.Goals as goal

pub returns : goal.returns
returns c =
    let count : c.len.result ≡ length c.self.inside.slots.items = c.len.ensures ∙ c.self.inside.slots.ok.0 in
    rw (← c.self.view_is) (rw (count, c.deref.ensures.value) at c.least_vacant.ensures)
