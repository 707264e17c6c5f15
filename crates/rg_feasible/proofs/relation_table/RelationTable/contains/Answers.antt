use Rattle.rg_feasible.proofs.relation_table.RelationTable.contains.Goals as goal

pub returns : goal.returns
returns c = rw (← c.self.view_is, ← c.deref.ensures.value) c.is_member.ensures
