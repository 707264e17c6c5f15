-- The arc that entered a state is in the tree.
use Rattle.std.proofs.Common.{◌<◌, ◌∙◌, length, None}
use Rattle.std.proofs.lemmas.List.{get_or_default}
use Rattle.rg_spanning.proofs.TreeTables.{entry_found}
use Rattle.rg_spanning.proofs.tree.Tree.parent.Goals as goal

pub returns-clause-found : goal.returns-clause-found
returns-clause-found c =
    let inside = c.self.inside in
    let within : c.args.s < length inside.entries.items = rw (← c.self.view_is) at c.requires in
    rw (← c.self.view_is)
    (entry_found inside.entries.items inside.arcs.items c.args.s c.index.result.now
    (c.index.ensures ∙ get_or_default inside.entries.items c.args.s c.index.result.now None within) c.self.invariant.entered)
