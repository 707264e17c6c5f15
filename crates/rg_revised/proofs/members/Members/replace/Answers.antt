use Rattle.std.proofs.Common.{◌∙◌}
use Rattle.rg_revised.proofs.Walking.{replaced}
use Rattle.rg_revised.proofs.members.Members.replace.Goals as goal

pub returns-clause-exchanged : goal.returns-clause-exchanged
returns-clause-exchanged c =
    let found = rw c.deref.ensures.value at c.in-Some.ensures.found in
    c.replace_item.ensures.items
    ∙ replaced c.args.self.now.variables.items c.in-Some.index c.args.enters c.args.leaves c.requires.ordered found.0 found.1 c.requires.last
