use Rattle.rg_cycles.specs.View.{labels_of, cycle_of}
use Rattle.rg_cycles.proofs.RelationTold.{relation_told}
use Rattle.rg_cycles.proofs.basis.Basis.relation.Goals as goal

pub returns-clause-exact : goal.returns-clause-exact
returns-clause-exact c = relation_told (labels_of c.args.self.now)
    (cycle_of c.args.self.now) c.args.self.now.relations.items c.args.t c.index.result.now c.as_ref.result c.args.self.now.numbers c.requires
    c.requires c.index.ensures c.as_ref.ensures.value
